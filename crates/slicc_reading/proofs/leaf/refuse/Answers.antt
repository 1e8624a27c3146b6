use Rattle.std.proofs.Common.{arith}
use Rattle.slicc_reading.proofs.Refusals.{refused_with_room, refused_too_deep, refused_bad}
use Rattle.slicc_reading.proofs.leaf.refuse.Goals as goal

pub returns-then-room-gt0 : goal.returns-then-room-gt0
returns-then-room-gt0 c = refused_with_room c.args.room c.args.tokens.now (omega arith)

pub returns-then-opens : goal.returns-then-opens
returns-then-opens c = refused_too_deep c.args.room c.args.tokens.now (omega arith) (cc)

pub returns : goal.returns
returns c = refused_bad c.args.room c.args.tokens.now (omega arith) (cc)
