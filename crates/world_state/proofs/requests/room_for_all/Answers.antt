use Rattle.std.proofs.Common.{◌<◌, ◌∙◌, length, arith}
use Rattle.std.proofs.lemmas.List.Elements.{AllWithin-more_set}
use Rattle.world_state.specs.Prelude.{HasRoom}
use Rattle.world_state.proofs.At.{made-same, place-same}
use Rattle.world_state.proofs.requests.room_for_all.Goals as goal

pub loop-place-preserved : goal.loop-place-preserved
loop-place-preserved c =
    let items = c.loop-place.places in
    let k = c.loop-place.place-index in
    let lt : k < length items = omega arith in
    record {
      same = λ held. place-same items k c.place-item.result c.room.new.self held (c.room.ensures.same held) ∙ c.loop-place.invariant.same held;
      made = made-same items k c.place-item.result c.room.new.self c.room.ensures.made ∙ c.loop-place.invariant.made;
      ok = AllWithin-more_set items k c.room.new.self lt (HasRoom c.args.parcels) c.loop-place.invariant.ok c.in_ok-room.ensures.ok;
    }

pub returns-in_err-room-clause-same : goal.returns-in_err-room-clause-same
returns-in_err-room-clause-same c =
    λ held.
    place-same c.loop-place.places c.loop-place.place-index c.place-item.result c.room.new.self held (c.room.ensures.same held) ∙ c.loop-place.invariant.same held

pub returns-in_err-room-clause-made : goal.returns-in_err-room-clause-made
returns-in_err-room-clause-made c =
    made-same c.loop-place.places c.loop-place.place-index c.place-item.result c.room.new.self c.room.ensures.made ∙ c.loop-place.invariant.made
