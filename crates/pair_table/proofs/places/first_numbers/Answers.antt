use Rattle.std.proofs.Common.{◌≡◌, ◌+◌, ◌-◌, ◌*◌, ◌<◌, ◌≤◌, ℕ, length, slice_index, slice_index_or, arith, subst, sym, ap, ◌∙◌}
use Rattle.pair_table.specs.Prelude.{IsAmong, first_at, marked, places_of}
use Rattle.pair_table.proofs.FirstPlaces.{among_at, first_down, marked_length, places_below}
use Rattle.pair_table.proofs.places.first_numbers.Goals as goal

pub mark_written-requires-clause-there : goal.mark_written-requires-clause-there
mark_written-requires-clause-there c =
    let w = c.index-ws-number.result in
    let below : c.loop-number.number - 1 < length c.args.ws.now = omega arith in
    let among : IsAmong c.args.states c.args.events w = among_at c.args.states c.args.events (c.loop-number.number - 1) w c.args.ws.now c.requires.among below c.index-ws-number.is in
    λ k d under. subst (λ n. slice_index_or (places_of c.args.events w) k d < n) (sym c.loop-number.invariant.room) (places_below c.args.states c.args.events w among k d under)

pub loop-number-preserved : goal.loop-number-preserved
loop-number-preserved c =
    let w = c.index-ws-number.result in
    let old = c.loop-number.firsts.items in
    let n = c.loop-number.number in
    let above : 0 < n = c.loop-number-test.true in
    let is_marked : c.mark_written.new.firsts.items ≡ marked (n - 1) (places_of c.args.events w) old = c.in_ok-mark_written.ensures in
    record {
      within = omega arith;
      room = ap length is_marked ∙ marked_length (n - 1) (places_of c.args.events w) old ∙ c.loop-number.invariant.room;
      firsts = λ place below.
          ap (λ fs. slice_index fs place) is_marked
          ∙ first_down c.args.events n w c.args.ws.now old place above c.loop-number.invariant.within c.index-ws-number.is
          (subst (λ m. place < m) (sym c.loop-number.invariant.room) below) (c.loop-number.invariant.firsts place below);
    }
