use Rattle.std.proofs.Common.{Ok, Err}
use Rattle.ruby_value.proofs.Members.{place_of, least_at, least_gap}
use Rattle.ruby_value.proofs.far_members.FarMembers.least_from.Goals as goal

pub returns-in-Ok : goal.returns-in-Ok
returns-in-Ok c =
    let found = place_of c.deref.result.now c.args.m (Ok c.in-Ok.place) (rw c.deref.ensures.value c.self.invariant) c.in-Ok.ensures.position in
    rw (c.at.ensures, ← c.self.view_is, ← c.deref.ensures.value) (least_at _ _ _ found)

pub returns-in-Err : goal.returns-in-Err
returns-in-Err c =
    let gap = place_of c.deref.result.now c.args.m (Err c.in-Err.place) (rw c.deref.ensures.value c.self.invariant) c.in-Err.ensures.position in
    rw (c.at-in-Err.ensures, ← c.self.view_is, ← c.deref.ensures.value) (least_gap _ _ _ gap)
