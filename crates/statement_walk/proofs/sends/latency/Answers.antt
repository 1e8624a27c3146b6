use mir.Val.{SFits}
use Rattle.std.proofs.Common.{◌∙◌, rules, w64}
use Rattle.std.proofs.lemmas.Int.{to_z-of_z}
use Rattle.std.proofs.lemmas.Result.{err_from_is_err_and}
use Rattle.acts.proofs.Walk.{does_ends_as, then_does, then_stops}
use Rattle.statement_walk.proofs.sends.latency.Goals as goal

pub returns-in_err-t-in-Some : goal.returns-in_err-t-in-Some
returns-in_err-t-in-Some g c =
    let p = err_from_is_err_and c.from_residual.result c.from_residual.ensures.1 in
    rw c.in-Some.is (rw (p.1, p.2) (then_stops _ _ _ _ _ _ _ _ c.in_err-t-in-Some.ensures))

pub returns-in_ok-t-in-Some : goal.returns-in_ok-t-in-Some
returns-in_ok-t-in-Some g c =
    let fits : SFits w64 c.number_in.result = search rules in
    rw c.in-Some.is (then_does _ _ _ _ _ _ _ _ _ c.in_ok-t-in-Some.ensures (does_ends_as _ _ _ _ (to_z-of_z w64 c.number_in.result fits ∙ c.number_in.ensures)))
