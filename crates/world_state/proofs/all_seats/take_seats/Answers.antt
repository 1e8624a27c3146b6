use Rattle.std.proofs.Common.{◌≤◌, ◌∙◌, List, ap, arith, length, refl, slice_get}
use Rattle.std.proofs.lemmas.Option.{slice_get-get_or}
use Rattle.std.proofs.lemmas.List.{take_all}
use Rattle.protocol_runs.specs.World as runs
use Rattle.ctl_face.specs.Prelude.{Ctl}
use Rattle.sequencer.specs.Prelude.{seats_of}
use Rattle.protocol_runs.specs.Prelude.{seats_in}
use Rattle.world_state.specs.declared.seat.SeatAt.{SeatAt}
use Rattle.world_state.specs.Prelude.{controllers_in, seated, setups_in, places_with}
use Rattle.world_state.proofs.AllSeats.{later-more, out-more}
use Rattle.world_state.proofs.Seats.{after-taking}
use Rattle.world_state.proofs.all_seats.take_seats.Goals as goal

pub loop-a-preserved : goal.loop-a-preserved
loop-a-preserved c =
    let seats = c.args.seats.now in
    let i = c.loop-a.a-index in
    let lt = c.loop-a-test.true in
    record {
      out = λ held.
          ap seats_of c.push_reserved.ensures.items
          ∙ out-more seats i _ (places_with held c.args.places.now.items) (places_with held c.loop-a.places.items) c.loop-a.out.items _ lt (c.loop-a.invariant.out held) refl
          (c.take_at-sequencer.ensures.taken held) (c.loop-a.invariant.later held i _ (omega arith) (slice_get-get_or seats i _ lt));
      rest = λ held put count.
          ap (λ (ps : List (runs.Place Ctl)). seated seats ps put) (c.take_at-sequencer.ensures.after held)
          ∙ after-taking seats put (places_with held c.loop-a.places.items) i _ c.requires.apart count (slice_get-get_or seats i _ lt)
          ∙ c.loop-a.invariant.rest held put count;
      later = λ held k a le there.
          ap (λ (ps : List (runs.Place Ctl)). slice_get ps a.controller) (c.take_at-sequencer.ensures.after held)
          ∙ later-more seats i k _ a (places_with held c.loop-a.places.items) _ c.requires.apart (omega (arith, le)) there
          ∙ c.loop-a.invariant.later held k a (omega (arith, le)) there;
      made = c.take_at-sequencer.ensures.made ∙ c.loop-a.invariant.made;
      room = omega (arith, c.loop-a.invariant.room, c.push_reserved.ensures.len, c.push_reserved.ensures.capacity);
    }

pub returns-clause-seats : goal.returns-clause-seats
returns-clause-seats c =
    λ held.
    let past : length c.args.seats.now ≤ c.loop-a.a-index = omega arith in
    c.loop-a.invariant.out held
    ∙ ap (λ (ss : List SeatAt). seats_in (setups_in ss) (controllers_in (places_with held c.args.places.now.items))) (take_all c.loop-a.a-index c.args.seats.now past)
