use Rattle.std.proofs.Common.{None}
use Rattle.ctl_store.specs.Prelude.{requests_of}
use Rattle.world_state.proofs.Swapped.{shown, swapped-made, swapped-places}
use Rattle.world_state.proofs.turns.take_at.Goals as goal

pub returns-clause-taken : goal.returns-clause-taken
returns-clause-taken c = λ held. shown c.args.places.now.items c.args.a c.index_mut-place.result.now c.in-World.kept c.take_sequencer.new.self None c.requires c.index_mut-place.ensures.value c.in-World.is c.if-not-a.false c.take_sequencer.ensures.after c.take_sequencer.ensures.store held (requests_of c.take_sequencer.result) c.take_sequencer.ensures.taken

pub returns-clause-after : goal.returns-clause-after
returns-clause-after c = swapped-places c.args.places.now.items c.args.a c.index_mut-place.result.now c.in-World.kept c.take_sequencer.new.self None c.requires c.index_mut-place.ensures.value c.in-World.is c.if-not-a.false c.take_sequencer.ensures.after c.take_sequencer.ensures.store

pub returns-clause-made : goal.returns-clause-made
returns-clause-made c = swapped-made c.args.places.now.items c.args.a c.index_mut-place.result.now c.in-World.kept c.take_sequencer.new.self None c.requires c.index_mut-place.ensures.value c.in-World.is c.if-not-a.false c.take_sequencer.ensures.after c.take_sequencer.ensures.store
