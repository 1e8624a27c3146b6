use Rattle.ctl_mail.proofs.Places.{loses-more}
use Rattle.ctl_mail.proofs.make.make.Goals as goal

pub returns-in-Pop-clause-places : goal.returns-in-Pop-clause-places
returns-in-Pop-clause-places c = loses-more c.args.store.now c.pop.new.store c.pop.ensures.places

pub returns-in-Mark-clause-places : goal.returns-in-Mark-clause-places
returns-in-Mark-clause-places c = loses-more c.args.store.now c.mark.new.store c.mark.ensures.places

pub returns-in-Count-clause-places : goal.returns-in-Count-clause-places
returns-in-Count-clause-places c = loses-more c.args.store.now c.count.new.store c.count.ensures.places

pub returns-in-Wake-clause-places : goal.returns-in-Wake-clause-places
returns-in-Wake-clause-places c = loses-more c.args.store.now c.make_wake.new.store c.make_wake.ensures.places

pub returns-in-WakeAll-clause-places : goal.returns-in-WakeAll-clause-places
returns-in-WakeAll-clause-places c = loses-more c.args.store.now c.make_wake_all.new.store c.make_wake_all.ensures.places
