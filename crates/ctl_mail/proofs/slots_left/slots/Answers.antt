use Rattle.std.proofs.Common.{map, ◌∙◌}
use Rattle.std.specs.List.{filter}
use Rattle.ctl_face.specs.Prelude.{free_of, leads_to, least_of}
use Rattle.ctl_mail.specs.Prelude.{actor_of, mail_after}
use Rattle.ctl_mail.proofs.slots_left.slots.Goals as goal

pub returns : goal.returns
returns c = λ seed.
    c.least_free.ensures seed
    ∙ λ i. least_of (map (free_of (mail_after c.args.store.now c.args.changes.now) c.args.changes.now.cycle)
    (filter (leads_to (actor_of c.args.me seed c.args.routes.now) c.args.buffer (c.place_of-place.ensures i)) (c.deref.ensures i)))
