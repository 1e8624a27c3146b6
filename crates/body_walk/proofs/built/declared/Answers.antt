use Rattle.std.proofs.Common.{refl, sym}
use Rattle.ruby_value.specs.declared.fault.Fault.TheVariants.{Reference}
use Rattle.acts.specs.declared.body_fault.BodyFault.TheVariants as own
use Rattle.acts.specs.Prelude.{itself}
use Rattle.acts.proofs.Walk.{does_ends_as, does_stops}
use Rattle.body_meaning.specs.Prelude.{declared}
use Rattle.body_walk.proofs.built.declared.Goals as goal

pub returns-in-None : goal.returns-in-None
unfolding declared
returns-in-None g c = rw (sym c.in-None.ensures) c.named_everywhere.ensures

pub returns-in-Some-Table : goal.returns-in-Some-Table
unfolding declared
returns-in-Some-Table g c = rw (sym c.in-Some-Table.ensures, c.in-Some-Table.field-0-is) (does_ends_as itself _ _ _ refl)

pub returns-in-Some-Value : goal.returns-in-Some-Value
unfolding declared
returns-in-Some-Value g c = rw (sym c.in-Some-Value.ensures, c.in-Some-Value.field-0-is) c.parameter.ensures

pub returns-in-Some-Reference : goal.returns-in-Some-Reference
unfolding declared
returns-in-Some-Reference g c = rw (sym c.in-Some-Reference.ensures, c.in-Some-Reference.field-0-is) (does_ends_as itself _ _ _ refl)

pub returns-in-Some-Buffer : goal.returns-in-Some-Buffer
unfolding declared
returns-in-Some-Buffer g c = rw (sym c.in-Some-Buffer.ensures, c.in-Some-Buffer.field-0-is, c.from.ensures) (does_stops itself own.Reference Reference _ _ refl)

pub returns-in-Some-InPort : goal.returns-in-Some-InPort
unfolding declared
returns-in-Some-InPort g c = rw (sym c.in-Some-InPort.ensures, c.in-Some-InPort.field-0-is, ← c.deref.ensures, ← c.port_at.ensures) c.port_thing.ensures

pub returns-in-Some-OutPort : goal.returns-in-Some-OutPort
unfolding declared
returns-in-Some-OutPort g c =
    rw (sym c.in-Some-OutPort.ensures, c.in-Some-OutPort.field-0-is, ← c.deref-in-Some-OutPort.ensures, ← c.port_at-in-Some-OutPort.ensures) c.port_thing-in-Some-OutPort.ensures

pub returns-in-Some-Sequencer : goal.returns-in-Some-Sequencer
unfolding declared
returns-in-Some-Sequencer g c = rw (sym c.in-Some-Sequencer.ensures, c.in-Some-Sequencer.field-0-is) (does_ends_as itself _ _ _ refl)
