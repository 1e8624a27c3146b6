-- What is written for statements with a block, where what is in the block is written.
use Rattle.std.proofs.Common.{◌≡◌, ◌∙◌, ◌++◌, ◌∷◌, ℕ, Bool, List, [], Option, Some, None, Ok, refl, sym, ap, subst}
use Rattle.std.specs.Prelude.{codes, if◌then◌else◌, slice_get}
use Rattle.slicc_ast.specs.declared.tree.expression.Expr.{Expr}
use Rattle.slicc_ast.specs.declared.tree.statement.Stmt.{Stmt}
use Rattle.ruby_symbols.specs.declared.types.StructureSymbol.{StructureSymbol}
use Rattle.action_code.specs.declared.instr.Instr.{Instr}
use Rattle.action_code.specs.declared.instr.Instr.TheVariants as instr
use Rattle.body_meaning.specs.Prelude.{Reading, message_of, port_named}
use Rattle.body_code.specs.declared.left.Home.{Home}
use Rattle.body_code.specs.declared.left.Home.TheVariants as home
use Rattle.body_code.specs.declared.left.NameAt.{NameAt}
use Rattle.body_code.specs.declared.numbers.BodyNumbers.{BodyNumbers}
use Rattle.body_code.specs.declared.own.Own.{Own}
use Rattle.body_code.specs.Prelude.{Ending, Line, all_lines, behind, closed, followed_by, goes_on, home_of, just, nothing, with_name, ◌⨾◌}
use Rattle.body_code.specs.Statements.{enqueued, enqueued_with, fields_read, opened, outer_of, peeked, peeked_at, sent}
use Rattle.emit_expressions.specs.Prelude.{Adds}
use Rattle.emit_expressions.proofs.Adding.{adds_then}
use Rattle.emit_statements.specs.Prelude.{WritesLine, message_at, named_block}
use Rattle.emit_statements.proofs.Following.{behind_writes, closes, line_of, within_writes}

module _ (s : Reading) (n : BodyNumbers) (ending : Ending) where
  pub named_writes : (text : List ℕ) (at : Home) (statements : List Stmt) (own later : Own) (names kept : List NameAt) (goes : Bool) (old new : List Instr)
      → kept ≡ own.names → names ≡ with_name text at own.names
      → WritesLine (all_lines s n ending statements (record { names = names; locals = own.locals })) (Ok goes) old new later
      → WritesLine (named_block s n ending text at statements own) (Ok goes) old new (record { names = kept; locals = later.locals })
  named_writes text at statements own later names kept goes old new same names_are done =
      within_writes (with_name text at own.names) kept (all_lines s n ending statements) own later goes old new same
      (subst (λ (xs : List NameAt). WritesLine (all_lines s n ending statements (record { names = xs; locals = own.locals })) (Ok goes) old new later) names_are done)

  module _ (block : Own → Line) (own : Own) where
    -- by the buffer of a port and the structure of its messages, if it has them
    abbrev peeked_by : Option (ℕ × ℕ) → Line
    peeked_by None = goes_on nothing own
    peeked_by (Some at) = peeked_at s n ending at.0 (Some at.1) block own

    peeked_more : (text : List ℕ) (b : ℕ) → port_named s.machine text ≡ Some b → (m : Option ℕ) → message_of s.machine b ≡ m
        → peeked_by (message_at s text) ≡ peeked s n ending text block own
    peeked_more text b is None none = rw (is, none) refl
    peeked_more text b is (Some structure) some = rw (is, some) refl

    peeked_look : (text : List ℕ) (o : Option ℕ) → port_named s.machine text ≡ o → peeked_by (message_at s text) ≡ peeked s n ending text block own
    peeked_look text None is = rw is refl
    peeked_look text (Some b) is = peeked_more text b is (message_of s.machine b) refl

    pub nothing_peeked : (text : List ℕ) → message_at s text ≡ None → goes_on nothing own ≡ peeked s n ending text block own
    nothing_peeked text is = sym (ap peeked_by is) ∙ peeked_look text (port_named s.machine text) refl

    peeked_is : (text : List ℕ) (at : ℕ × ℕ) → Some at ≡ message_at s text → peeked_at s n ending at.0 (Some at.1) block own ≡ peeked s n ending text block own
    peeked_is text at is = ap peeked_by is ∙ peeked_look text (port_named s.machine text) refl

    module _ (written : Option Expr) where
      abbrev enqueued_by : Option (ℕ × ℕ) → Line
      enqueued_by None = goes_on nothing own
      enqueued_by (Some at) = enqueued_with s n ending at.0 at.1 (slice_get s.symbols.structures at.1) written block own

      enqueued_more : (text : List ℕ) (b : ℕ) → port_named s.machine text ≡ Some b → (m : Option ℕ) → message_of s.machine b ≡ m
          → enqueued_by (message_at s text) ≡ enqueued s n ending text written block own
      enqueued_more text b is None none = rw (is, none) refl
      enqueued_more text b is (Some structure) some = rw (is, some) refl

      enqueued_look : (text : List ℕ) (o : Option ℕ) → port_named s.machine text ≡ o → enqueued_by (message_at s text) ≡ enqueued s n ending text written block own
      enqueued_look text None is = rw is refl
      enqueued_look text (Some b) is = enqueued_more text b is (message_of s.machine b) refl

      pub nothing_enqueued : (text : List ℕ) → message_at s text ≡ None → goes_on nothing own ≡ enqueued s n ending text written block own
      nothing_enqueued text is = sym (ap enqueued_by is) ∙ enqueued_look text (port_named s.machine text) refl

      pub enqueued_is : (text : List ℕ) (at : ℕ × ℕ) (t : Option StructureSymbol) → Some at ≡ message_at s text → t ≡ slice_get s.symbols.structures at.1
          → enqueued_with s n ending at.0 at.1 t written block own ≡ enqueued s n ending text written block own
      enqueued_is text at t is structure =
          ap (λ (o : Option StructureSymbol). enqueued_with s n ending at.0 at.1 o written block own) structure ∙ ap enqueued_by is ∙ enqueued_look text (port_named s.machine text) refl

  pub peek_writes : (text name : List ℕ) (at : ℕ × ℕ) (statements : List Stmt) (own later : Own) (goes : Bool) (c0 c1 c2 c3 : List Instr)
      → Some at ≡ message_at s text → c1 ≡ c0 ++ instr.Peek at.0 ∷ [] → name ≡ codes "in_msg"
      → WritesLine (named_block s n ending name (home.Inner at.1) statements own) (Ok goes) c1 c2 later
      → c3 ≡ (if goes then c2 ++ instr.Unpeek ∷ [] else c2)
      → WritesLine (peeked s n ending text (all_lines s n ending statements) own) (Ok goes) c0 c3 later
  peek_writes text name at statements own later goes c0 c1 c2 c3 found first name_is second third =
      let block : Line = named_block s n ending (codes "in_msg") (home.Inner at.1) statements own in
      line_of (behind (just (instr.Peek at.0 ∷ [])) (closed block (instr.Unpeek ∷ []))) (peeked s n ending text (all_lines s n ending statements) own) (Ok goes) c0 c3 later
      (peeked_is (all_lines s n ending statements) own text at found)
      (behind_writes (just (instr.Peek at.0 ∷ [])) (closed block (instr.Unpeek ∷ [])) (Ok goes) c0 c1 c3 later first
      (closes block (instr.Unpeek ∷ []) goes c1 c2 c3 later
      (subst (λ (x : List ℕ). WritesLine (named_block s n ending x (home.Inner at.1) statements own) (Ok goes) c1 c2 later) name_is second) third))

  -- what is made, up to the end of its block
  abbrev pub made : (structure : ℕ) → StructureSymbol → Option ℕ → List Stmt → Own → Line
  made structure t outer statements own =
      behind (fields_read s outer ⨾ opened structure t) (named_block s n ending (codes "out_msg") (home.Made structure) statements own)

  pub made_writes : (structure : ℕ) (t : StructureSymbol) (outer : Option ℕ) (name : List ℕ) (statements : List Stmt) (own later : Own) (goes : Bool) (c0 c1 c2 c3 : List Instr)
      → Adds (fields_read s outer) c0 c1 → Adds (opened structure t) c1 c2 → name ≡ codes "out_msg"
      → WritesLine (named_block s n ending name (home.Made structure) statements own) (Ok goes) c2 c3 later
      → WritesLine (made structure t outer statements own) (Ok goes) c0 c3 later
  made_writes structure t outer name statements own later goes c0 c1 c2 c3 first second name_is third =
      behind_writes (fields_read s outer ⨾ opened structure t) (named_block s n ending (codes "out_msg") (home.Made structure) statements own) (Ok goes) c0 c2 c3 later
      (adds_then c0 c1 c2 (fields_read s outer) (opened structure t) first second)
      (subst (λ (x : List ℕ). WritesLine (named_block s n ending x (home.Made structure) statements own) (Ok goes) c2 c3 later) name_is third)

  pub sending_is : (text : List ℕ) (at : ℕ × ℕ) (t : StructureSymbol) (written : Option Expr) (outer : Option ℕ) (statements : List Stmt) (own : Own)
      → Some at ≡ message_at s text → Some t ≡ slice_get s.symbols.structures at.1 → outer ≡ outer_of written (home_of (codes "out_msg") own.names)
      → followed_by (made at.1 t outer statements own) (sent s n ending at.0 written outer) ≡ enqueued s n ending text written (all_lines s n ending statements) own
  sending_is text at t written outer statements own found there outer_is =
      ap (λ (o : Option ℕ). followed_by (made at.1 t o statements own) (sent s n ending at.0 written o)) outer_is
      ∙ enqueued_is (all_lines s n ending statements) own written text at (Some t) found there
