use Rattle.slicc_parse.specs.Prelude.{items_row}
use Rattle.slicc_reading.proofs.Parts.{◌then◌, at_first, behind}
use Rattle.slicc_parse.proofs.files.protocol_and_items.Goals as goal

pub returns-in-Ok-several_items-clause-read : goal.returns-in-Ok-several_items-clause-read
returns-in-Ok-several_items-clause-read c = c.in-Ok.ensures then c.in-Ok-several_items.ensures.read

pub returns-in-Err-several_items-clause-read : goal.returns-in-Err-several_items-clause-read
returns-in-Err-several_items-clause-read c = behind c.in-Ok.ensures c.in-Err-several_items.ensures.read

pub returns-in-Err-clause-read : goal.returns-in-Err-clause-read
returns-in-Err-clause-read c = at_first items_row c.in-Err.ensures
