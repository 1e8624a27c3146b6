use Rattle.std.proofs.Common.{refl}
use Rattle.code_meaning.proofs.Operations.{operation_gives}
use Rattle.code_meaning.proofs.laws.operations_answer_their_kinds.Goals as goal

pub returns : goal.returns
returns c m kept n on o arguments v found served lawful =
    let g = operation_gives m v.machine kept n on o arguments found served in g.gives v lawful refl
