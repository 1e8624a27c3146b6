use Rattle.std.proofs.Common.{ap, ◌∙◌}
use Rattle.code_frame.specs.Prelude.{Window, values_from, window}
use Rattle.code_frame.proofs.Values.{values_take}
use Rattle.code_frame.proofs.Windows.{left_is}
use Rattle.code_frame.proofs.frame.Frame.leave.Goals as goal

pub returns : goal.returns
returns c w rest mark is =
    ap (λ l. window (values_from 0 l c.self.inside.apart.items) c.args.mark.base c.args.mark.floor) c.cut.ensures
    ∙ ap (λ l. window l c.args.mark.base c.args.mark.floor) (values_take c.self.inside.base 0 c.self.inside.words c.self.inside.apart.items ∙ ap (λ (v : Window). v.under) c.self.view_is)
    ∙ left_is c.args.self.now.under c.args.mark w rest mark is
