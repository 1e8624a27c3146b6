use Rattle.std.proofs.Common.{◌≡◌, ◌∙◌, sym, ap}
use Rattle.slicc_plan.specs.Prelude.{name_in}
use Rattle.slicc_flow.proofs.PartsOfBoxes.{name_in_Group}
use Rattle.slicc_flow.proofs.expression.+name_in.Goals as goal

pub returns-in-Group : goal.returns-in-Group
returns-in-Group t c =
    let same : name_in c.args.e.now ≡ name_in c.in-Group.inner = ap name_in c.in-Group.is ∙ name_in_Group c.in-Group.inner c.in-Group.field-1 in
    c.name_in.ensures ∙ ap name_in c.get.ensures ∙ sym same
