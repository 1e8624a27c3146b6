use Rattle.std.proofs.Common.{◌≡◌, ◌-◌, ◌≤◌, [], vec_len, vec_capacity}
use Rattle.turn_lock.specs.Standing.{newcomers}
use Rattle.turn_lock.specs.Tickets.{dealing}
use Rattle.turn_lock.proofs.making.deal_all.Given as goal

abbrev pub invariant-loop-number : goal.invariant-loop-number
invariant-loop-number g l =
    (l.room.items ≡ newcomers l.shared.table_id (g.V.Kept.plan l.start.first.value) l.number) × (vec_len l.room ≡ l.number) × (l.start.passes ≤ vec_capacity l.room)
    × (l.dealer.table_id ≡ l.shared.table_id) × (l.dealer.me ≡ (dealing (l.start.passes - l.number) l.number (g.V.Kept.plan l.start.first.value), []))
