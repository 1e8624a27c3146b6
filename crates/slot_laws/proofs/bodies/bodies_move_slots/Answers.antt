use Rattle.slot_laws.proofs.Slotted.{slots_begin, slots_move}
use Rattle.slot_laws.proofs.bodies.bodies_move_slots.Goals as goal

pub returns : goal.returns
returns g c = record { begins = slots_begin; kept = slots_move }
