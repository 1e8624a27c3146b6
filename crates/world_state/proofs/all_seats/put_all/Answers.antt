use Rattle.std.proofs.Common.{◌≡◌, ◌+◌, ◌∷◌, ◌∙◌, arith, reverse, vec_len}
use Rattle.world_state.specs.Prelude.{places_with}
use Rattle.world_state.proofs.AllSeats.{newest, put-more}
use Rattle.world_state.proofs.all_seats.put_all.Goals as goal

pub loop-a-preserved : goal.loop-a-preserved
loop-a-preserved c =
    let cases = c.in-Some.ensures.cases in
    let left = c.pop.new.self.items in
    let more : vec_len c.loop-a.newest_first ≡ vec_len c.pop.new.self + 1 = omega arith in
    let back : reverse c.loop-a.newest_first.items ≡ c.in-Some.seat ∷ reverse left = newest c.loop-a.newest_first.items left c.in-Some.seat c.in-Some.ensures.items in
    record {
      count = omega (arith, more, c.loop-a.invariant.count);
      seats = λ held.
          put-more c.args.seats.now c.loop-a.a-index _ (places_with held c.loop-a.places.items) (places_with held c.put_at.new.places.items) c.loop-a.newest_first.items left c.in-Some.seat
          c.loop-a-test.true back (c.put_at.ensures.after held)
          ∙ c.loop-a.invariant.seats held;
      made = c.put_at.ensures.made ∙ c.loop-a.invariant.made;
      room = λ n all. c.put_at.ensures.room n (c.loop-a.invariant.room n all);
    }
