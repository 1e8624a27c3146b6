use Rattle.ctl_store.specs.Prelude.{ctl_of}
use Rattle.world_state.proofs.Marks.{next-least}
use Rattle.world_state.proofs.place.next_above.Goals as goal

pub returns : goal.returns
returns c = next-least c.args.now (ctl_of c.args.store.now).mail.marks c.next_mark.result c.next_mark.ensures
