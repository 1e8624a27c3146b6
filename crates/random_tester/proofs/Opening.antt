-- A tester as it is made is at its opening.
use Rattle.std.proofs.Common.{◌≡◌, ℕ, ap, sym, ◌∙◌}
use Rattle.std.proofs.lemmas.List.{length-replicate}
use Rattle.random_tester.specs.Prelude.{fresh_slot, State, made, opening}

made-opens : (seed stream lines checks deadlock : ℕ) → opening (made seed stream lines checks deadlock) ≡ made seed stream lines checks deadlock
made-opens seed stream lines checks deadlock = ap (λ (n : ℕ). made seed stream n checks deadlock) (length-replicate lines fresh_slot)

pub opens : (seed stream lines checks deadlock : ℕ) (t : State) → t ≡ made seed stream lines checks deadlock → opening t ≡ t
opens seed stream lines checks deadlock t is = ap opening is ∙ made-opens seed stream lines checks deadlock ∙ sym is
