use Rattle.std.proofs.Common.{Ok, Err, sym}
use Rattle.ruby_value.proofs.Members.{IsGapFor, place_of, with_member_found, with_member_gap, not_contained, rises_insert}
use Rattle.ruby_value.proofs.far_members.FarMembers.add.Goals as goal
use Rattle.ruby_value.proofs.far_members.FarMembers.add.Goals.{In-Err}

-- the number is there, so the set with it is the set
pub returns-in-Ok-clause-ok : goal.returns-in-Ok-clause-ok
returns-in-Ok-clause-ok c =
    let at = place_of c.deref.result.now c.args.m (Ok c.in-Ok.field-0) (rw c.deref.ensures.value c.self.invariant) c.in-Ok.ensures.position in
    rw (← c.self.view_is, ← c.deref.ensures.value) (sym (with_member_found _ _ _ at))

-- the number isn't there, and this is its gap
gap : (c : In-Err) → IsGapFor c.deref.result.now c.args.m c.in-Err.at
gap c = place_of c.deref.result.now c.args.m (Err c.in-Err.at) (rw c.deref.ensures.value c.self.invariant) c.in-Err.ensures.position

-- it goes to its gap
pub returns-in_ok-insert-in-Err-clause-ok : goal.returns-in_ok-insert-in-Err-clause-ok
returns-in_ok-insert-in-Err-clause-ok c =
    rw (c.in_ok-insert-in-Err.ensures.items, ← c.self.view_is, ← c.deref.ensures.value) (sym (with_member_gap _ _ _ (gap (goal.at.returns-in_ok-insert-in-Err-clause-ok c).In-Err)))

pub invariant_of-self-in-Err : goal.invariant_of-self-in-Err
invariant_of-self-in-Err c =
    rw (c.in_ok-insert-in-Err.ensures.items, ← c.deref.ensures.value) (rises_insert _ _ _ (gap (goal.at.invariant_of-self-in-Err c).In-Err) (rw c.deref.ensures.value c.self.invariant))

-- memory is wanted only for a number that isn't there
pub returns-in_err-insert-in-Err-clause-there_already : goal.returns-in_err-insert-in-Err-clause-there_already
returns-in_err-insert-in-Err-clause-there_already c contained =
    absurd (not_contained _ _ _ (gap (goal.at.returns-in_err-insert-in-Err-clause-there_already c).In-Err) (rw (c.deref.ensures.value, c.self.view_is) contained))
