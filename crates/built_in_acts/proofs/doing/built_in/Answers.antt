use Rattle.std.proofs.Common.{Some, sym, ap}
use Rattle.acts.specs.Prelude.{itself}
use Rattle.acts.proofs.Walk.{does_ends_as}
use Rattle.built_in_acts.specs.Prelude.{built_in}
use Rattle.built_in_acts.proofs.Told.{without_memory}
use Rattle.built_in_acts.proofs.doing.built_in.Goals as goal

pub returns-in-Message : goal.returns-in-Message
unfolding built_in
returns-in-Message g c = rw (sym c.in-Message.ensures) c.on_messages.ensures

pub returns-in-Table : goal.returns-in-Table
unfolding built_in
returns-in-Table g c = rw (sym c.in-Table.ensures) c.on_table.ensures

pub returns-in-Controller : goal.returns-in-Controller
unfolding built_in
returns-in-Controller g c = rw (sym c.in-Controller.ensures) c.on_controller.ensures

pub returns-in-Machines : goal.returns-in-Machines
unfolding built_in
returns-in-Machines g c = rw (sym c.in-Machines.ensures) c.on_machines.ensures

pub returns-in_err-of_set-in-Set : goal.returns-in_err-of_set-in-Set
returns-in_err-of_set-in-Set g c = without_memory _ _ _ _ c.from_residual.ensures.1

pub returns-in_ok-of_set-in-Set : goal.returns-in_ok-of_set-in-Set
unfolding built_in
returns-in_ok-of_set-in-Set g c = rw (sym c.in-Set.ensures) (does_ends_as itself _ _ _ (ap Some c.in_ok-of_set-in-Set.ensures))

pub returns-in-Value : goal.returns-in-Value
unfolding built_in
returns-in-Value g c = rw (sym c.in-Value.ensures) (does_ends_as itself _ _ _ c.of_values.ensures)
