use Rattle.ctl_store.specs.Prelude.{ctl_of}
use Rattle.world_state.proofs.Marks.{marked-none, marked-some}
use Rattle.world_state.proofs.place.has_mark.Goals as goal

pub returns-in-Some : goal.returns-in-Some
returns-in-Some c =
    marked-some c.args.cycle (ctl_of c.args.store.now).mail.marks c.next_mark.result c.in-Some.mark c.in-Some.is c.next_mark.ensures

pub returns-in-None : goal.returns-in-None
returns-in-None c = marked-none c.args.cycle (ctl_of c.args.store.now).mail.marks c.next_mark.result c.in-None.is c.next_mark.ensures
