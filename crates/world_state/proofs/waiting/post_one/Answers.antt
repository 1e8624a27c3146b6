use Rattle.std.proofs.Common.{◌≡◌, ◌+◌, Some, arith, length, refl, slice_get}
use Rattle.std.proofs.lemmas.Option.{slice_get_read}
use Rattle.world_state.specs.Prelude.{HasListRoom}
use Rattle.world_state.proofs.Posted.{posted-one, room-set, there-within}
use Rattle.world_state.proofs.waiting.post_one.Goals as goal

there : (c : goal.After-waiting-1) → slice_get c.args.waiting.now.items c.args.d.receiver ≡ Some c.index_mut-list.result.now
there c =
    slice_get_read c.args.waiting.now.items (length c.args.waiting.now.items) c.args.d.receiver c.index_mut-list.result.now refl
    (there-within (HasListRoom 1) c.args.waiting.now.items c.args.d.receiver c.requires) c.index_mut-list.ensures.value

pub returns-clause-after : goal.returns-clause-after
returns-clause-after c =
    posted-one c.args.waiting.now.items c.args.d c.index_mut-list.result.now c.push_reserved.new.self (there c) c.push_reserved.ensures.items

pub returns-clause-room : goal.returns-clause-room
returns-clause-room c =
    λ n ds all.
    room-set c.args.waiting.now.items c.args.d.receiver c.index_mut-list.result.now c.push_reserved.new.self (there c) (n + 1) n ds
    (λ has. omega (arith, has)) (λ u has. omega (arith, has)) all
