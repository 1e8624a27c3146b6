use Rattle.std.proofs.Common.{◌≡◌, ℕ, take}
use Rattle.ctl_face.specs.Prelude.{free_of, leads_to}
use Rattle.ctl_mail.specs.Prelude.{actor_of, mail_after}
use Rattle.ctl_mail.proofs.Lends.{least_where}
use Rattle.ctl_mail.proofs.slots_left.least_free.Given as goal

-- it is the least so far
abbrev pub invariant-loop-slot : goal.invariant-loop-slot
invariant-loop-slot l =
    (seed : ℕ)
    → l.least ≡ least_where (leads_to (actor_of l.me seed l.routes) l.buffer l.place) (free_of (mail_after l.store l.changes) l.changes.cycle) (take l.slot-index l.slots)
