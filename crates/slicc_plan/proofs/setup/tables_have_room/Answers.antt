use Rattle.slicc_plan.proofs.Room.{all_have_room}
use Rattle.slicc_plan.proofs.setup.tables_have_room.Goals as goal

pub returns : goal.returns
returns c = all_have_room
