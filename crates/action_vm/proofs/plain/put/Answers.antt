use mir.Val.{SFits}
use Rattle.std.proofs.Common.{ap, rules, w64}
use Rattle.std.proofs.lemmas.Int.{to_z-of_z}
use Rattle.code_frame.specs.Prelude.{Window}
use Rattle.action_vm.proofs.Arms.{put_err, put_ok}
use Rattle.action_vm.proofs.plain.put.Goals as goal

pub returns-in_ok-push_int-in-Ok-clause-does : goal.returns-in_ok-push_int-in-Ok-clause-does
returns-in_ok-push_int-in-Ok-clause-does c l =
    let fits : SFits w64 c.in-Ok.n = search rules in
    put_ok _ _ c.args.r c.in-Ok.n l c.in-Ok.is (rw (to_z-of_z w64 c.in-Ok.n fits) at (ap (λ (w : Window). w.stack) c.in_ok-push_int-in-Ok.ensures))

pub returns-in-Err-clause-does : goal.returns-in-Err-clause-does
returns-in-Err-clause-does c l = put_err _ _ c.args.r c.in-Err.own _ l c.in-Err.is (search rules)
