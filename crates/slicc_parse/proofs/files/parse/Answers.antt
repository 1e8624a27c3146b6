use Rattle.slicc_parse.proofs.FileEnds.{parsed, refused}
use Rattle.slicc_parse.proofs.files.parse.Goals as goal

pub returns-in-Ok : goal.returns-in-Ok
returns-in-Ok c = parsed c.in-Ok.tree c.as_slice.ensures c.room_within.ensures c.requires.ended c.in-Ok.ensures

pub returns-in-Err : goal.returns-in-Err
returns-in-Err c =
    refused c.in-Err.fault c.len-count.result c.placed.result c.as_slice.ensures c.room_within.ensures c.len-count.ensures c.placed.ensures c.requires.ended c.in-Err.ensures
