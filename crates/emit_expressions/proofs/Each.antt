-- Going through a list step by step: what is left, written from here on, writes the whole, whatever comes.
use Rattle.std.proofs.Common.{◌≡◌, ◌<◌, ◌≤◌, ◌+◌, ℕ, Result, Ok, List, [], ◌∷◌, drop, get_or, length, sym, subst}
use Rattle.std.proofs.lemmas.List.{drop_all, drop_more}
use Rattle.ruby_base.specs.declared.memory.NoMemory.{NoMemory}
use Rattle.action_code.specs.declared.instr.Instr.{Instr}
use Rattle.body_code.specs.declared.left.Left.{Left}
use Rattle.body_code.specs.Prelude.{Piece, known, then}
use Rattle.emit_expressions.specs.Prelude.{Writes}
use Rattle.emit_expressions.proofs.Adding.{writes_then, wrote_nothing}

-- what is written by the first from one place on is written by the second from another one
abbrev pub Leads : Piece → List Instr → Piece → List Instr → Type 0
Leads p mid whole old = (result : Result Left NoMemory) (new : List Instr) → Writes p result mid new → Writes whole result old new

module _ {X : Type 0} (step : Left → X → Piece) (each : Left → List X → Piece) (whole : Piece) (old : List Instr) (xs : List X) (i : ℕ) where
  pub leads_more : ((l : Left) (x : X) (more : List X) → each l (x ∷ more) ≡ then (step l x) (λ next. each next more))
      → (x : X) (l next : Left) (mid later : List Instr) → i < length xs → x ≡ get_or xs i x → Writes (step l x) (Ok next) mid later
      → Leads (each l (drop i xs)) mid whole old → Leads (each next (drop (i + 1) xs)) later whole old
  leads_more by x l next mid later below is first kept = λ result new rest.
      kept result new
      (subst (λ (ys : List X). Writes (each l ys) result mid new) (sym (drop_more xs i x below))
      (subst (λ (y : X). Writes (each l (y ∷ drop (i + 1) xs)) result mid new) is
      (subst (λ (p : Piece). Writes p result mid new) (sym (by l x (drop (i + 1) xs)))
      (writes_then (step l x) (λ (m : Left). each m (drop (i + 1) xs)) next result mid later new first rest))))

  pub leads_ends : ((l : Left) → each l [] ≡ known l) → (l : Left) (mid : List Instr) → length xs ≤ i
      → Leads (each l (drop i xs)) mid whole old → Writes whole (Ok l) old mid
  leads_ends none l mid below kept =
      kept (Ok l) mid
      (subst (λ (ys : List X). Writes (each l ys) (Ok l) mid mid) (sym (drop_all i xs below))
      (subst (λ (p : Piece). Writes p (Ok l) mid mid) (sym (none l)) (wrote_nothing l mid)))
