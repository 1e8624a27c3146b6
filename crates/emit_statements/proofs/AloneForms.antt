-- Expressions as statements, at each form that a program makes.
use Rattle.std.proofs.Common.{rules, ◌≡◌, ◌∙◌, Bool, true, false, List, None, Some, Option, Result, ℕ, ap, sym}
use Rattle.ruby_base.specs.declared.memory.NoMemory.{NoMemory}
use Rattle.action_code.specs.declared.instr.Instr.{Instr}
use Rattle.std.specs.Prelude.{codes, cond}
use Rattle.std.specs.Str.{bytes_eq}
use Rattle.slicc_ast.specs.declared.tree.span.Span.{Span}
use Rattle.slicc_ast.specs.declared.tree.name.Name.{Name}
use Rattle.slicc_ast.specs.declared.tree.expression.Args.{Args}
use Rattle.slicc_ast.specs.declared.tree.expression.Expr.{Expr}
use Rattle.slicc_ast.specs.declared.tree.expression.Suffix.{Suffix, Method}
use Rattle.slicc_ast.specs.declared.tree.expression.Expr.TheViews as views
use Rattle.slicc_ast.specs.declared.tree.expression.Expr.TheViews.{the_lemmas}
use Rattle.slicc_ast.proofs.Boxes.{Group_is, Postfix_is}
use Rattle.ruby_symbols.specs.Prelude.{function_named}
use Rattle.body_meaning.specs.Prelude.{Reading, before_last, changes_receiver, last_of}
use Rattle.body_code.specs.declared.numbers.BodyNumbers.{BodyNumbers}
use Rattle.body_code.specs.declared.own.Own.{Own}
use Rattle.body_code.specs.Prelude.{Ending, Line, Piece, changed, dropped, entry_kind, entry_slot, evaluated, piece, piece_behind, tbe_kind, tbe_slot, triggered, written_back}
use Rattle.body_code.specs.Statements.{built_in_alone, called_alone, last_alone, reference_set, reference_unset}
use Rattle.emit_expressions.proofs.Forms.{suffixes_held}
use Rattle.emit_statements.specs.Prelude.{WritesLine}
use Rattle.emit_statements.proofs.Following.{where_false, where_true}

module _ (s : Reading) (n : BodyNumbers) (ending : Ending) (own : Own) where
  pub group_alone : (e inner got : Expr) (span : Span) → e ≡ views.Group inner span → got ≡ inner → evaluated s n ending got own ≡ evaluated s n ending e own
  group_alone e inner got span is same =
      ap (λ (x : Expr). evaluated s n ending x own) same ∙ sym (ap (λ (x : Expr). evaluated s n ending x own) (is ∙ Group_is inner span))

  pub postfix_alone : (e inner got : Expr) (suffixes held : List Suffix) (last : Option Suffix) (span : Span) → e ≡ views.Postfix inner suffixes span → got ≡ inner → held ≡ suffixes → last ≡ last_of held
      → last_alone s n ending got held own last ≡ evaluated s n ending e own
  postfix_alone e inner got suffixes held last span is same all there =
      ap (λ (l : Option Suffix). last_alone s n ending got held own l) there
      ∙ ap (λ (x : Expr). last_alone s n ending x held own (last_of held)) same
      ∙ ap (λ (xs : List Suffix). last_alone s n ending inner xs own (last_of xs)) (all ∙ sym (suffixes_held suffixes))
      ∙ sym (ap (λ (x : Expr). evaluated s n ending x own) (is ∙ Postfix_is inner suffixes span))

  call_form : (called : Name) (given : Args) (span : Span)
      → called_alone s n ending (piece s n own.names None (views.Call called given span)) called.text given.items own (function_named s.machine called.text) ≡ evaluated s n ending (views.Call called given span) own
  call_form called given span = search (rules, the_lemmas)

  pub call_alone : (e : Expr) (called : Name) (given : Args) (span : Span) (held : List Expr) (text text_two : List ℕ) (function : Option ℕ) → e ≡ views.Call called given span → held ≡ given.items → text ≡ called.text
      → function ≡ function_named s.machine text_two → text_two ≡ called.text
      → called_alone s n ending (piece s n own.names None e) text held own function ≡ evaluated s n ending e own
  call_alone e called given span held text text_two function is all same found same_two =
      ap (λ (x : Expr). called_alone s n ending (piece s n own.names None x) text held own function) is
      ∙ ap (λ (f : Option ℕ). called_alone s n ending (piece s n own.names None (views.Call called given span)) text held own f) (found ∙ ap (function_named s.machine) same_two)
      ∙ ap (λ (xs : List Expr). called_alone s n ending (piece s n own.names None (views.Call called given span)) text xs own (function_named s.machine called.text)) all
      ∙ ap (λ (t : List ℕ). called_alone s n ending (piece s n own.names None (views.Call called given span)) t given.items own (function_named s.machine called.text)) same
      ∙ call_form called given span
      ∙ sym (ap (λ (x : Expr). evaluated s n ending x own) is)

  abbrev method_line : Expr → List Suffix → List ℕ → List Expr → Line
  method_line inner suffixes text given =
      cond (changes_receiver text) (changed s n ending inner (before_last suffixes) text given own)
      (cond (bytes_eq text (codes "writeCallback")) (written_back s n ending given own)
      (dropped (piece_behind s n own.names inner suffixes) own))

  method_form : (inner : Expr) (suffixes : List Suffix) (called : Name) (given : Args) (span : Span)
      → method_line inner suffixes called.text given.items ≡ last_alone s n ending inner suffixes own (Some (Method called given span))
  method_form inner suffixes called given span = search (rules, the_lemmas)

  pub method_is : (inner : Expr) (suffixes : List Suffix) (last : Suffix) (called : Name) (given : Args) (span : Span) (held : List Expr) (text : List ℕ)
      → last ≡ Method called given span → held ≡ given.items → text ≡ called.text
      → cond (changes_receiver text) (changed s n ending inner (before_last suffixes) text held own)
      (cond (bytes_eq text (codes "writeCallback")) (written_back s n ending held own)
      (dropped (piece_behind s n own.names inner suffixes) own))
      ≡ last_alone s n ending inner suffixes own (Some last)
  method_is inner suffixes last called given span held text is all same =
      ap (λ (xs : List Expr). method_line inner suffixes text xs) all ∙ ap (λ (t : List ℕ). method_line inner suffixes t given.items) same
      ∙ method_form inner suffixes called given span ∙ sym (ap (λ (x : Suffix). last_alone s n ending inner suffixes own (Some x)) is)

-- Calls without a receiver that no function has, by their names.

module _ (s : Reading) (n : BodyNumbers) (ending : Ending) (p : Piece) (text : List ℕ) (given : List Expr) (own : Own) (result : Result Bool NoMemory) (old new : List Instr) (later : Own) where
  abbrev fifth : Line
  fifth = cond (bytes_eq text (codes "trigger")) (triggered s n ending given own) (dropped p own)

  abbrev fourth : Line
  fourth = cond (bytes_eq text (codes "unset_tbe")) (reference_unset s n ending tbe_slot (tbe_kind s) own) fifth

  abbrev third : Line
  third = cond (bytes_eq text (codes "set_tbe")) (reference_set s n ending tbe_slot (tbe_kind s) given own) fourth

  abbrev second : Line
  second = cond (bytes_eq text (codes "unset_cache_entry")) (reference_unset s n ending entry_slot (entry_kind s) own) third

  module _ (one : bytes_eq text (codes "set_cache_entry") ≡ false) where
    not_first : WritesLine second result old new later → WritesLine (built_in_alone s n ending p text given own) result old new later
    not_first h = where_false (bytes_eq text (codes "set_cache_entry")) (reference_set s n ending entry_slot (entry_kind s) given own) second result old new later one h

    pub by_second : bytes_eq text (codes "unset_cache_entry") ≡ true → WritesLine (reference_unset s n ending entry_slot (entry_kind s) own) result old new later
        → WritesLine (built_in_alone s n ending p text given own) result old new later
    by_second is h = not_first (where_true (bytes_eq text (codes "unset_cache_entry")) (reference_unset s n ending entry_slot (entry_kind s) own) third result old new later is h)

    module _ (two : bytes_eq text (codes "unset_cache_entry") ≡ false) where
      not_second : WritesLine third result old new later → WritesLine (built_in_alone s n ending p text given own) result old new later
      not_second h = not_first (where_false (bytes_eq text (codes "unset_cache_entry")) (reference_unset s n ending entry_slot (entry_kind s) own) third result old new later two h)

      pub by_third : bytes_eq text (codes "set_tbe") ≡ true → WritesLine (reference_set s n ending tbe_slot (tbe_kind s) given own) result old new later
          → WritesLine (built_in_alone s n ending p text given own) result old new later
      by_third is h = not_second (where_true (bytes_eq text (codes "set_tbe")) (reference_set s n ending tbe_slot (tbe_kind s) given own) fourth result old new later is h)

      module _ (three : bytes_eq text (codes "set_tbe") ≡ false) where
        not_third : WritesLine fourth result old new later → WritesLine (built_in_alone s n ending p text given own) result old new later
        not_third h = not_second (where_false (bytes_eq text (codes "set_tbe")) (reference_set s n ending tbe_slot (tbe_kind s) given own) fourth result old new later three h)

        pub by_fourth : bytes_eq text (codes "unset_tbe") ≡ true → WritesLine (reference_unset s n ending tbe_slot (tbe_kind s) own) result old new later
            → WritesLine (built_in_alone s n ending p text given own) result old new later
        by_fourth is h = not_third (where_true (bytes_eq text (codes "unset_tbe")) (reference_unset s n ending tbe_slot (tbe_kind s) own) fifth result old new later is h)

        pub by_fifth : bytes_eq text (codes "unset_tbe") ≡ false → bytes_eq text (codes "trigger") ≡ true → WritesLine (triggered s n ending given own) result old new later
            → WritesLine (built_in_alone s n ending p text given own) result old new later
        by_fifth four is h =
            not_third (where_false (bytes_eq text (codes "unset_tbe")) (reference_unset s n ending tbe_slot (tbe_kind s) own) fifth result old new later four
            (where_true (bytes_eq text (codes "trigger")) (triggered s n ending given own) (dropped p own) result old new later is h))

  pub by_first : bytes_eq text (codes "set_cache_entry") ≡ true → WritesLine (reference_set s n ending entry_slot (entry_kind s) given own) result old new later
      → WritesLine (built_in_alone s n ending p text given own) result old new later
  by_first is h = where_true (bytes_eq text (codes "set_cache_entry")) (reference_set s n ending entry_slot (entry_kind s) given own) second result old new later is h
