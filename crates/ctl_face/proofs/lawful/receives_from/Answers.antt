use Rattle.std.proofs.Common.{◌≡◌, Some, slice_get}
use Rattle.ctl_face.proofs.OwnBuffers.{own_from}
use Rattle.ctl_face.proofs.lawful.receives_from.Goals as goal

pub returns-in-Some : goal.returns-in-Some
returns-in-Some c =
    let there : Some c.in-Some.buffers.now ≡ slice_get c.args.routes.now.receiving c.args.controller = c.in-Some.ensures in
    let is : slice_get c.args.routes.now.receiving c.args.controller ≡ Some c.deref.result.now = cc in
    own_from c.args.machine.now c.args.routes.now c.args.controller c.deref.result.now is c.are_from.result c.are_from.ensures
