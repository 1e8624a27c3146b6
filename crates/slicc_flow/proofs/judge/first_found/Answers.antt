use Rattle.std.proofs.lemmas.Result.{IfOk-weaker}
use Rattle.slicc_flow.proofs.Judged.{judged}
use Rattle.slicc_flow.proofs.judge.first_found.Goals as goal

pub returns : goal.returns
returns c =
    IfOk-weaker c.all_changes.result _ _
    (λ r after. judged c.args.first c.in_ok-first.first c.in_ok-first-2.first r c.args.machines.now c.in_ok-first.ensures c.in_ok-first-2.ensures after)
    c.all_changes.ensures
