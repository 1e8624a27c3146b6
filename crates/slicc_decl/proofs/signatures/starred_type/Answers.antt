use Rattle.std.proofs.Common.{◌≤◌, ◌<◌, length, arith}
use Rattle.slicc_ast.specs.Parts.{star}
use Rattle.slicc_ast.specs.Prelude.{optional}
use Rattle.slicc_reading.proofs.Parts.{◌then◌, as_part, at_first, behind}
use Rattle.slicc_decl.proofs.signatures.starred_type.Goals as goal

pub returns-in-Ok-optional_star-clause-read : goal.returns-in-Ok-optional_star-clause-read
returns-in-Ok-optional_star-clause-read c = as_part c.in-Ok.ensures.read then c.in-Ok-optional_star.ensures

pub returns-in-Ok-optional_star-clause-shorter : goal.returns-in-Ok-optional_star-clause-shorter
returns-in-Ok-optional_star-clause-shorter c =
    let some : length c.in-Ok.behind.now < length c.args.tokens.now = c.in-Ok.ensures.shorter in
    let few : length c.in-Ok-optional_star.left.now ≤ length c.in-Ok.behind.now = c.in-Ok-optional_star.ensures.within in
    omega arith

pub returns-in-Err-optional_star-clause-read : goal.returns-in-Err-optional_star-clause-read
returns-in-Err-optional_star-clause-read c = behind (as_part c.in-Ok.ensures.read) c.in-Err-optional_star.ensures

pub returns-in-Err-clause-read : goal.returns-in-Err-clause-read
returns-in-Err-clause-read c = at_first (optional star) c.in-Err.ensures.read
