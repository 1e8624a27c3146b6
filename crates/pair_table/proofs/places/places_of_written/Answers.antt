use Rattle.std.proofs.Common.{◌≡◌, ◌+◌, ◌*◌, map, slice_index_or, ap}
use Rattle.pair_table.proofs.Lists.{flat_step}
use Rattle.pair_table.proofs.places.places_of_written.Goals as goal

pub loop-state-preserved : goal.loop-state-preserved
loop-state-preserved c =
    let states = c.as_slice-states.result.now in
    let step = flat_step (λ state. map (λ event. state * c.args.events + event) c.args.w.now.events) states c.loop-state.state-index 0 c.loop-state-test.true in
    let events = ap (λ xs. map (λ event. slice_index_or states c.loop-state.state-index 0 * c.args.events + event) xs) c.deref.ensures in
    cc (c.in_ok-add_places.ensures, c.loop-state.invariant)
