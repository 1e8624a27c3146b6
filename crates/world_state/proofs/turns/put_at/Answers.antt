use Rattle.ctl_store.specs.Prelude.{requests_of}
use Rattle.world_state.proofs.Swapped.{swapped-made, swapped-places, swapped-room}
use Rattle.world_state.proofs.turns.put_at.Goals as goal

pub returns-clause-after : goal.returns-clause-after
returns-clause-after c = swapped-places c.args.places.now.items c.args.a c.index_mut-place.result.now c.in-World.kept c.put_sequencer.new.self (requests_of c.args.sequencer) c.requires c.index_mut-place.ensures.value c.in-World.is c.if-not-a.false c.put_sequencer.ensures.after c.put_sequencer.ensures.store

pub returns-clause-made : goal.returns-clause-made
returns-clause-made c = swapped-made c.args.places.now.items c.args.a c.index_mut-place.result.now c.in-World.kept c.put_sequencer.new.self (requests_of c.args.sequencer) c.requires c.index_mut-place.ensures.value c.in-World.is c.if-not-a.false c.put_sequencer.ensures.after c.put_sequencer.ensures.store

pub returns-clause-room : goal.returns-clause-room
returns-clause-room c = swapped-room c.args.places.now.items c.args.a c.index_mut-place.result.now c.in-World.kept c.put_sequencer.new.self (requests_of c.args.sequencer) c.requires c.index_mut-place.ensures.value c.in-World.is c.if-not-a.false c.put_sequencer.ensures.after c.put_sequencer.ensures.store c.put_sequencer.ensures.room
