-- Code after code: what two pieces of it add, one after the other, is what their sequence adds.
use Rattle.std.proofs.Common.{◌≡◌, ℕ, ◌+◌, List, [], ◌∷◌, ◌++◌, length, Result, Ok, Err, refl, sym, ap, subst, ◌∙◌}
use Rattle.std.specs.Result.{IfOk, IsErrAnd}
use Rattle.std.proofs.lemmas.Result.{err_from_is_err_and}
use Rattle.std.proofs.lemmas.List.{append-nil, append_assoc, length-append}
use Rattle.ruby_base.specs.declared.memory.NoMemory.{NoMemory}
use Rattle.action_code.specs.declared.instr.Instr.{Instr}
use Rattle.body_code.specs.declared.left.Left.{Left}
use Rattle.body_code.specs.Prelude.{Piece, Segment, after, nothing, then, ◌⨾◌}
use Rattle.emit_expressions.specs.Prelude.{Adds, AddsIfOk, Writes}

module _ (old mid new : List Instr) where
  pub adds_then : (a b : Segment) → Adds a old mid → Adds b mid new → Adds (a ⨾ b) old new
  adds_then a b first second =
      second
      ∙ ap (λ (xs : List Instr). xs ++ b (length xs)) first
      ∙ ap (λ (n : ℕ). (old ++ a (length old)) ++ b n) (length-append old (a (length old)))
      ∙ append_assoc old (a (length old)) (b (length old + length (a (length old))))

  pub adds_two : (i j : Instr) → mid ≡ old ++ i ∷ [] → new ≡ mid ++ j ∷ [] → new ≡ old ++ i ∷ j ∷ []
  adds_two i j first second = second ∙ ap (λ (xs : List Instr). xs ++ j ∷ []) first ∙ append_assoc old (i ∷ []) (j ∷ [])

pub adds_none : (old : List Instr) → Adds nothing old old
adds_none old = sym (append-nil old)

-- With what may be missing.

pub nothing_said : (p : Piece) (e : NoMemory) (old new : List Instr) → Writes p (Err e) old new
unfolding Writes
nothing_said p e old new = tt

pub wrote : (p : Piece) (l : Left) (old new : List Instr) → l ≡ p.left → Adds p.code old new → Writes p (Ok l) old new
unfolding Writes
wrote p l old new left code = (left, code)

pub left_is : (p : Piece) (l : Left) (old new : List Instr) → Writes p (Ok l) old new → l ≡ p.left
unfolding Writes
left_is p l old new h = h.0

pub code_is : (p : Piece) (l : Left) (old new : List Instr) → Writes p (Ok l) old new → Adds p.code old new
unfolding Writes
code_is p l old new h = h.1

pub wrote_nothing : (l : Left) (old : List Instr) → Writes (record { left = l; code = nothing }) (Ok l) old old
unfolding Writes
wrote_nothing l old = (refl, adds_none old)

pub writes_then : (a : Piece) (next : Left → Piece) (l : Left) (result : Result Left NoMemory) (old mid new : List Instr)
    → Writes a (Ok l) old mid → Writes (next l) result mid new → Writes (then a next) result old new
unfolding Writes
writes_then a next l (Err e) old mid new first rest = tt
writes_then a next l (Ok r) old mid new first rest = (
  rest.0 ∙ ap (λ (x : Left). (next x).left) first.0,
  adds_then old mid new a.code (next a.left).code first.1 (subst (λ (x : Left). Adds (next x).code mid new) first.0 rest.1),
)

pub writes_after : (a : Segment) (p : Piece) (result : Result Left NoMemory) (old mid new : List Instr)
    → Adds a old mid → Writes p result mid new → Writes (after a p) result old new
unfolding Writes
writes_after a p (Err e) old mid new first rest = tt
writes_after a p (Ok l) old mid new first rest = (rest.0, adds_then old mid new a p.code first rest.1)

pub none_said : (A : Type 0) (a : Segment) (e : NoMemory) (old new : List Instr) → AddsIfOk {A = A} a (Err e) old new
unfolding AddsIfOk
none_said A a e old new = tt

module _ {A : Type 0} where
  pub added : (a : Segment) (x : A) (old new : List Instr) → Adds a old new → AddsIfOk a (Ok x) old new
  unfolding AddsIfOk
  added a x old new h = h

  pub adds : (a : Segment) (x : A) (old new : List Instr) → AddsIfOk a (Ok x) old new → Adds a old new
  unfolding AddsIfOk
  adds a x old new h = h

-- Where there was no memory.

pub without_memory : (Q : NoMemory → Type 0) (p : Piece) (result : Result Left NoMemory) (old new : List Instr) → IsErrAnd result Q → Writes p result old new
without_memory Q p result old new failed =
    let e = err_from_is_err_and result failed in subst (λ (r : Result Left NoMemory). Writes p r old new) (sym e.1) (nothing_said p e.0 old new)

pub not_added : {A : Type 0} (Q : NoMemory → Type 0) (a : Segment) (result : Result A NoMemory) (old new : List Instr) → IsErrAnd result Q → AddsIfOk a result old new
not_added {A} Q a result old new failed =
    let e = err_from_is_err_and result failed in subst (λ (r : Result A NoMemory). AddsIfOk a r old new) (sym e.1) (none_said A a e.0 old new)

pub left_if_ok : (p : Piece) (result : Result Left NoMemory) (old new : List Instr) → Writes p result old new → IfOk result (λ l. l ≡ p.left)
unfolding Writes
left_if_ok p (Ok l) old new h = h.0
left_if_ok p (Err e) old new h = tt
