-- What code has done as a round is what a run has of the scan.
use Rattle.std.proofs.Common.{◌≡◌, Ok, ap, ap₂}
use Rattle.ctl_face.specs.Prelude.{LocalView}
use Rattle.body_meaning.specs.declared.frame.RoundEnd.{RoundEnd}
use Rattle.body_meaning.specs.declared.frame.RoundEnd.TheVariants as round
use Rattle.body_meaning.specs.Prelude.{IsRoundOf, Scanned}
use Rattle.protocol_meaning.specs.Prelude.{outcome_by, outcome_of, outcome_of_round}

pub round_told : (s : Scanned) (end : RoundEnd) (after before : LocalView) → IsRoundOf s (Ok end) after before → outcome_of s ≡ outcome_of_round end after before
round_told s (round.Fired note) after before is = ap₂ outcome_by is.0 is.1
round_told s round.Idle after before is = ap₂ outcome_by is.0 is.1
round_told s round.Full after before is = ap (λ (end : RoundEnd). outcome_by end s.view) is
round_told s (round.Stop at) after before is = ap (λ (end : RoundEnd). outcome_by end s.view) is
