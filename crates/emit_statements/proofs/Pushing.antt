-- Instructions that are added one after another are added together.
use Rattle.std.proofs.Common.{◌≡◌, ◌∙◌, ◌++◌, ◌∷◌, List, [], Option, Result, Ok, Err, ap, length, subst}
use Rattle.std.specs.Result.{OnOk}
use Rattle.std.proofs.lemmas.List.{append_assoc}
use Rattle.ruby_base.specs.declared.memory.NoMemory.{NoMemory}
use Rattle.ruby_value.specs.declared.kind.Kind.{Kind}
use Rattle.slicc_ast.specs.declared.tree.expression.Expr.{Expr}
use Rattle.slicc_ast.specs.declared.tree.expression.Suffix.{Suffix}
use Rattle.action_code.specs.declared.instr.Instr.{Instr}
use Rattle.body_meaning.specs.Prelude.{Reading}
use Rattle.body_code.specs.declared.left.Left.{Left}
use Rattle.body_code.specs.declared.left.NameAt.{NameAt}
use Rattle.body_code.specs.declared.numbers.BodyNumbers.{BodyNumbers}
use Rattle.body_code.specs.Prelude.{Segment, arguments_by, just, piece, piece_behind, ◌⨾◌}
use Rattle.emit_expressions.specs.Prelude.{Adds, AddsIfOk, Writes}
use Rattle.emit_expressions.proofs.Adding.{adds, adds_two, code_is}

pub adds_three : (a b c d : List Instr) (i j k : Instr) → b ≡ a ++ i ∷ [] → c ≡ b ++ j ∷ [] → d ≡ c ++ k ∷ [] → d ≡ a ++ i ∷ j ∷ k ∷ []
adds_three a b c d i j k first second third =
    third ∙ ap (λ (xs : List Instr). xs ++ k ∷ []) (adds_two a b c i j first second) ∙ append_assoc a (i ∷ j ∷ []) (k ∷ [])

pub adds_four : (a b c d e : List Instr) (i j k l : Instr) → b ≡ a ++ i ∷ [] → c ≡ b ++ j ∷ [] → d ≡ c ++ k ∷ [] → e ≡ d ++ l ∷ [] → e ≡ a ++ i ∷ j ∷ k ∷ l ∷ []
adds_four a b c d e i j k l first second third fourth =
    fourth ∙ ap (λ (xs : List Instr). xs ++ l ∷ []) (adds_three a b c d i j k first second third) ∙ append_assoc a (i ∷ j ∷ k ∷ []) (l ∷ [])

pub on_ok_adds : {A : Type 0} (instructions : List Instr) (result : Result A NoMemory) (old new : List Instr) → OnOk result (new ≡ old ++ instructions) → AddsIfOk (just instructions) result old new
unfolding AddsIfOk
on_ok_adds instructions (Err e) old new h = tt
on_ok_adds instructions (Ok x) old new h = h

-- by the names that a body has of its own

module _ (s : Reading) (n : BodyNumbers) (names own : List NameAt) where
  pub named_piece : (expected : Option Kind) (e : Expr) (l : Left) (old new : List Instr) → names ≡ own → Writes (piece s n names expected e) (Ok l) old new
      → Adds (piece s n own expected e).code old new
  named_piece expected e l old new same h =
      code_is (piece s n names expected e) l old new h ∙ ap (λ (xs : List NameAt). old ++ (piece s n xs expected e).code (length old)) same

  pub named_behind : (inner : Expr) (suffixes : List Suffix) (l : Left) (old new : List Instr) → names ≡ own → Writes (piece_behind s n names inner suffixes) (Ok l) old new
      → Adds (piece_behind s n own inner suffixes).code old new
  named_behind inner suffixes l old new same h =
      code_is (piece_behind s n names inner suffixes) l old new h ∙ ap (λ (xs : List NameAt). old ++ (piece_behind s n xs inner suffixes).code (length old)) same

  pub named_arguments : {A : Type 0} (kinds : List Kind) (given : List Expr) (x : A) (old new : List Instr) → names ≡ own → AddsIfOk (arguments_by s n names kinds given) (Ok x) old new
      → Adds (arguments_by s n own kinds given) old new
  named_arguments kinds given x old new same h =
      adds (arguments_by s n names kinds given) x old new h ∙ ap (λ (xs : List NameAt). old ++ arguments_by s n xs kinds given (length old)) same

  pub named_change : {A : Type 0} (given : List Expr) (operation : Segment) (x : A) (old new : List Instr) → names ≡ own → AddsIfOk (arguments_by s n names [] given ⨾ operation) (Ok x) old new
      → Adds (arguments_by s n own [] given ⨾ operation) old new
  named_change given operation x old new same h =
      adds (arguments_by s n names [] given ⨾ operation) x old new h ∙ ap (λ (xs : List NameAt). old ++ (arguments_by s n xs [] given ⨾ operation) (length old)) same

  pub same_piece : (expected : Option Kind) (e : Expr) (result : Result Left NoMemory) (old new : List Instr) → names ≡ own → Writes (piece s n names expected e) result old new → Writes (piece s n own expected e) result old new
  same_piece expected e result old new same h = subst (λ (xs : List NameAt). Writes (piece s n xs expected e) result old new) same h

  pub same_behind : (inner : Expr) (suffixes : List Suffix) (result : Result Left NoMemory) (old new : List Instr) → names ≡ own → Writes (piece_behind s n names inner suffixes) result old new
      → Writes (piece_behind s n own inner suffixes) result old new
  same_behind inner suffixes result old new same h = subst (λ (xs : List NameAt). Writes (piece_behind s n xs inner suffixes) result old new) same h
