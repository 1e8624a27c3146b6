-- The local that a draft is: its store's controller with the changes of the scan made.
use Rattle.ctl_face.specs.Prelude.{LocalView}
use Rattle.ctl_store.specs.declared.draft.Draft.{Draft}
use Rattle.ctl_store.specs.Scanned.{local_of}

abbrev pub view_of : Draft → LocalView
view_of d = local_of d.scan
