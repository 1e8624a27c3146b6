use Rattle.std.proofs.Common.{◌≡◌}
use Rattle.slicc_flow.proofs.Marking.{call_step}
use Rattle.slicc_flow.proofs.reach.add_calls.Goals as goal

pub loop-call-preserved : goal.loop-call-preserved
loop-call-preserved c =
    call_step c.args.found.now c.loop-call.found _ c.args.calls.now c.loop-call.call-index c.loop-call-test.true c.loop-call.invariant c.in_ok-add_call.ensures
