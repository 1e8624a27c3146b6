use Rattle.std.proofs.Common.{◌<◌, arith, length}
use Rattle.slicc_ast.specs.Parts.{sign}
use Rattle.slicc_reading.proofs.Parts.{◌then◌, at_first, behind}
use Rattle.slicc_reading.proofs.kept.ended.Goals as goal

pub returns-in-Ok-sign-clause-read : goal.returns-in-Ok-sign-clause-read
returns-in-Ok-sign-clause-read g c part parts start h = (rw c.in-Ok.is at h) then c.in-Ok-sign.ensures.read

pub returns-in-Ok-sign-clause-shorter : goal.returns-in-Ok-sign-clause-shorter
returns-in-Ok-sign-clause-shorter g c size h =
    let le = rw c.in-Ok.is at h in let lt : length c.in-Ok-sign.left.now < length c.in-Ok.behind.now = c.in-Ok-sign.ensures.shorter in omega (arith, le)

pub returns-in-Err-sign-clause-read : goal.returns-in-Err-sign-clause-read
returns-in-Err-sign-clause-read g c part parts start h = behind (rw c.in-Ok.is at h) c.in-Err-sign.ensures.read

pub returns-in-Err-clause-read : goal.returns-in-Err-clause-read
returns-in-Err-clause-read g c part parts start h = at_first (sign c.args.closer) (rw c.in-Err.is at h)
