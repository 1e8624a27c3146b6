use Rattle.std.proofs.Common.{false, ap, sym, ◌∙◌}
use Rattle.slicc_plan.specs.Prelude.{earlier_of_both, wrong_returns}
use Rattle.slicc_plan.proofs.Firsts.{first_after-first_of}
use Rattle.body_rules.proofs.ways.judge_body.Goals as goal

pub returns : goal.returns
returns c =
    c.earlier_of_two.ensures ∙ ap (earlier_of_both c.args.first) c.wrong_returns.ensures
    ∙ sym (first_after-first_of c.args.first (wrong_returns false c.args.b.now))
