use Rattle.std.proofs.Common.{ap, arith, ◌<◌, ◌-◌, ◌++◌, List, ◌∷◌, []}
use Rattle.sequencer.specs.declared.issued.Issued.{Issued}
use Rattle.ruby_value.specs.Prelude.{Requests, with_request}
use Rattle.sequencer.specs.Prelude.{Seat, Seating}
use Rattle.sequencer.proofs.Owned.{room-for-fewer, seat-at, seat-changed, seat-unchanged, still-owned, within-seats}
use Rattle.sequencer.proofs.owned_seats.OwnedSeatsSeats.issue.Goals as goal

pub invariant_of-self : goal.invariant_of-self
invariant_of-self c =
    still-owned c.self.inside.seats.items c.args.k c.index_mut-seat.result.now (within-seats _ _ (rw (← c.self.view_is) at c.requires.seat)) c.index_mut-seat.ensures.value
    c.issue.new.self _ _ c.self.inside.room _ _ c.self.inside.room
    c.self.invariant (ap (λ (s : Seat). s.controller) (c.issue.ensures.refused c.if-not-issue.true)) (omega arith) (c.issue.ensures.refused_room c.if-not-issue.true c.self.inside.room) c.self.invariant.places_for_issued

pub returns-then-not-issue-clause-free : goal.returns-then-not-issue-clause-free
returns-then-not-issue-clause-free c =
    let at = seat-at c.self.inside.seats.items c.args.k c.index_mut-seat.result.now (within-seats _ _ (rw (← c.self.view_is) at c.requires.seat)) c.index_mut-seat.ensures.value in
    rw (← c.self.view_is, at) (rw c.if-not-issue.true at c.issue.ensures.free)

pub returns-then-not-issue-clause-refused : goal.returns-then-not-issue-clause-refused
returns-then-not-issue-clause-refused c _ =
    rw (← c.self.view_is)
    (ap (λ (seats : List Seat). (let s : Seating = record { seats = seats; issued = c.self.inside.issued.items } in s))
    (seat-unchanged c.self.inside.seats.items c.args.k c.index_mut-seat.result.now (within-seats _ _ (rw (← c.self.view_is) at c.requires.seat)) c.index_mut-seat.ensures.value
    c.issue.new.self (c.issue.ensures.refused c.if-not-issue.true)))

pub invariant_of-self-2 : goal.invariant_of-self-2
invariant_of-self-2 c =
    let some : 0 < c.self.inside.room = rw (← c.self.view_is) at c.requires.room in
    still-owned c.self.inside.seats.items c.args.k c.index_mut-seat.result.now (within-seats _ _ (rw (← c.self.view_is) at c.requires.seat)) c.index_mut-seat.ensures.value
    c.issue.new.self _ _ c.self.inside.room _ _ (c.self.inside.room - 1)
    c.self.invariant (ap (λ (s : Seat). s.controller) (c.issue.ensures.issued c.if-not-issue.false)) (omega arith)
    (λ has. c.issue.ensures.room (c.self.inside.room - 1) (room-for-fewer c.index_mut-seat.result.now c.self.inside.room _ (omega arith) has)) (omega arith)

pub returns-clause-free : goal.returns-clause-free
returns-clause-free c =
    let at = seat-at c.self.inside.seats.items c.args.k c.index_mut-seat.result.now (within-seats _ _ (rw (← c.self.view_is) at c.requires.seat)) c.index_mut-seat.ensures.value in
    rw (← c.self.view_is, at) (rw c.if-not-issue.false at c.issue.ensures.free)

pub returns-clause-issued : goal.returns-clause-issued
returns-clause-issued c _ =
    let i : Issued = record { seat = c.args.k; asked = c.args.a } in
    rw (← c.self.view_is, c.push_reserved.ensures.items)
    (ap (λ (seats : List Seat). (let s : Seating = record { seats = seats; issued = c.self.inside.issued.items ++ i ∷ [] } in s))
    (seat-changed c.self.inside.seats.items c.args.k c.index_mut-seat.result.now (within-seats _ _ (rw (← c.self.view_is) at c.requires.seat)) c.index_mut-seat.ensures.value
    (λ (r : Requests). with_request r c.args.a) c.issue.new.self (c.issue.ensures.issued c.if-not-issue.false)))
