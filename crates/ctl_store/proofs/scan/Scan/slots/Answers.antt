use Rattle.std.proofs.Common.{◌∙◌, ap}
use Rattle.ctl_face.specs.Prelude.{slots}
use Rattle.ctl_store.specs.Prelude.{Scanned, local_of}
use Rattle.ctl_store.proofs.Stays.{scan_same}
use Rattle.ctl_store.proofs.scan.Scan.slots.Goals as goal

pub returns : goal.returns
returns c =
    c.slots.ensures c.self.inside.seed
    ∙ ap (λ (s : Scanned). slots (local_of s) c.args.buffer)
    (scan_same c.self.inside.parts.now c.self.inside.routes.now c.self.inside.seed c.deref.result.now c.self.inside.changes.value c.deref.ensures ∙ c.self.view_is)
