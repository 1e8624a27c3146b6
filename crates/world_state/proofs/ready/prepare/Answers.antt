use Rattle.std.proofs.Common.{◌≤◌, ◌∙◌, List, [], Option, arith, ap, length, subst, sym}
use Rattle.std.specs.List.{All, AllPairs}
use Rattle.ctl_face.specs.Prelude.{Ctl}
use Rattle.protocol_runs.specs.World as runs
use Rattle.protocol_runs.specs.Prelude.{seats_in}
use Rattle.sequencer.specs.Prelude.{seats_of, AreApart, Seat, Seating}
use Rattle.world_state.specs.Prelude.{Made, places_with, IsHomeIn, controllers_in, seated, setups_in}
use Rattle.world_state.specs.declared.seat.SeatAt.{SeatAt}
use Rattle.world_state.proofs.Driven.{owned-count, put-back, seat-count}
use Rattle.world_state.proofs.ready.prepare.Goals as goal

pub take_seats-requires-clause-home : goal.take_seats-requires-clause-home
take_seats-requires-clause-home g c = (c.seats_are_ready.ensures c.requires.cycles c.args.seats.now c.args.st.now c.requires.can).seats_home

pub take_seats-requires-clause-apart : goal.take_seats-requires-clause-apart
take_seats-requires-clause-apart g c = (c.seats_are_ready.ensures c.requires.cycles c.args.seats.now c.args.st.now c.requires.can).apart

pub new-owned-requires-clause-few : goal.new-owned-requires-clause-few
new-owned-requires-clause-few g c =
    let seats = c.args.seats.now in
    let held = c.requires.can.held in
    let is_ready = c.seats_are_ready.ensures c.requires.cycles seats c.args.st.now c.requires.can in
    let xs : List Ctl = controllers_in (places_with held c.args.st.now.places.items) in
    let count = owned-count c.in_ok-taken.taken.items (seats_in (setups_in seats) xs) (c.in_ok-taken.ensures.seats held) in
    let as_many = seat-count seats xs in
    omega (arith, count, as_many, is_ready.few, c.in_ok-taken.taken.ok)

pub new-owned-requires-clause-apart : goal.new-owned-requires-clause-apart
new-owned-requires-clause-apart g c =
    let held = c.requires.can.held in
    let is_ready = c.seats_are_ready.ensures c.requires.cycles c.args.seats.now c.args.st.now c.requires.can in
    subst (λ (ss : List Seat). AllPairs AreApart ss) (sym (c.in_ok-taken.ensures.seats held)) (is_ready.fit held).apart

pub room_at-requires-clause-seats : goal.room_at-requires-clause-seats
room_at-requires-clause-seats g c κs within =
    let held = c.requires.can.held in
    let is_ready = c.seats_are_ready.ensures c.requires.cycles c.args.seats.now c.args.st.now c.requires.can in
    let same = ap (λ (s : Seating). s.seats) c.new-owned.ensures.seats ∙ c.in_ok-taken.ensures.seats held in
    subst (λ (ss : List Seat). g.D.Driver.least c.args.st.now.driver ≤ length ss) (sym same) (is_ready.fit held).enough

pub room_at-requires-clause-cycle : goal.room_at-requires-clause-cycle
room_at-requires-clause-cycle g c κs within =
    (c.seats_are_ready.ensures c.requires.cycles c.args.seats.now c.args.st.now c.requires.can).cycle

pub put_seats-requires-clause-home : goal.put_seats-requires-clause-home
put_seats-requires-clause-home g c =
    let seats = c.args.seats.now in
    let is_ready = c.seats_are_ready.ensures c.requires.cycles seats c.args.st.now c.requires.can in
    subst (λ (ms : List (Option Made)). All (λ (a : SeatAt). IsHomeIn ms a.controller) seats) (sym (c.room_at.ensures.same.made ∙ c.take_seats.ensures.made))
    is_ready.seats_home

pub put_seats-requires-clause-count : goal.put_seats-requires-clause-count
put_seats-requires-clause-count g c =
    let seats = c.args.seats.now in
    let held = c.requires.can.held in
    let xs : List Ctl = controllers_in (places_with held c.args.st.now.places.items) in
    let own = c.into_seats.ensures ∙ ap (λ (s : Seating). s.seats) (c.room_at.ensures.kept ∙ c.new-owned.ensures.seats) ∙ c.in_ok-taken.ensures.seats held in
    let count = owned-count c.into_seats.result.items (seats_in (setups_in seats) xs) own in
    let as_many = seat-count seats xs in
    omega (arith, count, as_many, c.into_seats.result.ok)

pub returns-in-Ok-clause-out : goal.returns-in-Ok-clause-out
returns-in-Ok-clause-out g c =
    let same = c.room_at.ensures.same in
    record {
      cycle = record {
        now = same.cycle.now;
        driver = same.cycle.driver;
        issued = same.cycle.issued;
        next = same.cycle.next;
        verdict = same.cycle.verdict;
      };
      history = same.history;
      journal = same.journal;
      made = same.made ∙ c.take_seats.ensures.made;
      seats_are = λ x.
          c.room_at.ensures.kept ∙ c.new-owned.ensures.seats
          ∙ ap (λ (ss : List Seat). let s : Seating = record { seats = ss; issued = [] } in s) (c.in_ok-taken.ensures.seats x);
      rest = λ x put count.
          ap (λ (ps : List (runs.Place Ctl)). seated c.args.seats.now ps put) (same.places x) ∙ c.in_ok-taken.ensures.rest x put count;
    }

pub returns-in-Err-clause-err : goal.returns-in-Err-clause-err
returns-in-Err-clause-err g c =
    let seats = c.args.seats.now in
    let same = c.room_at.ensures.same in
    let is_ready = c.seats_are_ready.ensures c.requires.cycles seats c.args.st.now c.requires.can in
    record {
      cycle = record {
        now = same.cycle.now;
        driver = same.cycle.driver;
        issued = same.cycle.issued;
        next = same.cycle.next;
        verdict = same.cycle.verdict;
      };
      places = λ x.
          put-back seats (places_with x c.args.st.now.places.items) (places_with x c.take_seats.new.places.items) (places_with x c.room_at.new.st.places.items)
          (places_with x c.put_seats.new.places.items) (seats_of c.into_seats.result.items)
          (λ ps. c.seats_are_put_back.ensures seats ps is_ready.apart)
          (λ other count. c.in_ok-taken.ensures.rest x other count)
          (same.places x)
          (c.into_seats.ensures ∙ ap (λ (s : Seating). s.seats) (c.room_at.ensures.kept ∙ c.new-owned.ensures.seats) ∙ c.in_ok-taken.ensures.seats x)
          (c.put_seats.ensures.places x);
      made = c.put_seats.ensures.made ∙ same.made ∙ c.take_seats.ensures.made;
      history = same.history;
      journal = same.journal;
      room = same.room;
      entry_room = same.entry_room;
    }
