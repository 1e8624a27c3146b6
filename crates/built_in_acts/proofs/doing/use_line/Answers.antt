use Rattle.std.proofs.Common.{sym, ◌∙◌}
use Rattle.acts.specs.declared.body_fault.BodyFault.TheVariants as own
use Rattle.acts.specs.Prelude.{Touch, act, itself}
use Rattle.acts.proofs.Walk.{found_does}
use Rattle.built_in_acts.specs.Prelude.{line_used, used, argument}
use Rattle.built_in_acts.proofs.doing.use_line.Goals as goal

pub returns : goal.returns
unfolding used
returns g c =
    found_does itself (λ line. act (Touch c.args.table line)) (line_used (argument c.args.arguments.now 0)) own.Reference c.in-Some.line c.touch.result _ _
    (sym c.line_used_at.ensures ∙ c.in-Some.is) c.touch.ensures
