-- A scan ends as its ports answer, where it may fire.
use Rattle.std.proofs.Common.{◌≡◌, ℕ, false, Result, Ok, Err, nat_le, refl}
use Rattle.ruby_base.specs.declared.memory.NoMemory.{NoMemory}
use Rattle.acts.specs.Prelude.{itself}
use Rattle.ctl_face.specs.Prelude.{LocalView}
use Rattle.body_meaning.specs.Prelude.{IsRoundOf, Trying}
use Rattle.body_meaning.specs.declared.frame.RoundEnd.{RoundEnd}
use Rattle.body_meaning.specs.declared.frame.Tried.{Tried}
use Rattle.body_meaning.specs.declared.frame.Tried.TheVariants.{Waits, Fires}
use Rattle.scan_steps.specs.declared.halt.Halt.{Halt}
use Rattle.scan_steps.specs.declared.halt.Halt.TheVariants as halt
use Rattle.scan_steps.specs.Prelude.{IsEndOf, TriesAs, scanned}

module _ (ports : Trying Tried) (limit done : ℕ) (few : nat_le limit done ≡ false) where
  pub round_is : (result : Result Tried Halt) (end : Result RoundEnd NoMemory) (v w : LocalView) → IsEndOf result end
      → TriesAs itself ports result v w → IsRoundOf (scanned ports limit done v) end w v
  unfolding TriesAs
  round_is (Ok (Fires note)) end v w ends does = rw (ends, few, does) (refl, refl)
  round_is (Ok Waits) end v w ends does = rw (ends, few, does) (refl, refl)
  round_is (Err (halt.Stop at)) end v w ends does = rw (ends, few, does) refl
  round_is (Err halt.NoMemory) (Ok end) v w ends does = absurd (cc ends)
  round_is (Err halt.NoMemory) (Err error) v w ends does = tt
