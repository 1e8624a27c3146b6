use Rattle.slicc_reading.proofs.Behind.{as_allowed_behind_two}
use Rattle.slicc_decl.proofs.skipped_functions.skipped.Goals as goal

pub returns-in-Ok : goal.returns-in-Ok
returns-in-Ok c =
    as_allowed_behind_two c.span-span.result c.span-span.ensures c.requires.skipped c.requires.kind c.requires.name c.in-Ok.ensures
