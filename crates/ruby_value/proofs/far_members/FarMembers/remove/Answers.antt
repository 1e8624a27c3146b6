use Rattle.std.proofs.Common.{Ok, Err, sym}
use Rattle.ruby_value.proofs.Members.{place_of, without_member_found, without_member_gap}
use Rattle.ruby_value.proofs.far_members.FarMembers.remove.Goals as goal

-- the number is there and is taken out at its place
pub returns-in-Ok : goal.returns-in-Ok
returns-in-Ok c =
    let at = place_of c.deref.result.now c.args.m (Ok c.in-Ok.at) (rw c.deref.ensures.value c.self.invariant) c.in-Ok.ensures.position in
    rw (c.remove.ensures.items, ← c.self.view_is, ← c.deref.ensures.value) (sym (without_member_found _ _ _ at))

-- it isn't there
pub returns-in_default : goal.returns-in_default
returns-in_default c =
    let gap = place_of c.deref.result.now c.args.m (Err c.in_default.field-0) (rw c.deref.ensures.value c.self.invariant) c.in_default.ensures.position in
    rw (← c.self.view_is, ← c.deref.ensures.value) (sym (without_member_gap _ _ _ gap))
