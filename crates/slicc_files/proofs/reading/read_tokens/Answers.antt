use Rattle.std.proofs.Common.{refl}
use Rattle.std.specs.List.{slice_get}
use Rattle.slicc_files.specs.Prelude.{spells_a_tree}
use Rattle.slicc_files.proofs.ReadTexts.{bad_fault, deep_fault}
use Rattle.slicc_files.proofs.reading.read_tokens.Goals as goal

pub returns-in-Ok : goal.returns-in-Ok
returns-in-Ok c = spells_a_tree c.in-Ok.ensures.spells c.in-Ok.ensures.passed

pub returns-in-Err-Syntax : goal.returns-in-Err-Syntax
returns-in-Err-Syntax c =
    bad_fault c.args.tokens.now c.in-Err-Syntax.place (slice_get c.args.tokens.now c.in-Err-Syntax.place) c.broken_by_token.result
    (rw c.in-Err-Syntax.field-0-is at c.in-Err-Syntax.ensures) refl c.broken_by_token.ensures

pub returns-in-Err-Deep : goal.returns-in-Err-Deep
returns-in-Err-Deep c =
    deep_fault c.args.tokens.now c.in-Err-Deep.place (slice_get c.args.tokens.now c.in-Err-Deep.place) c.broken_by_token-in-Err-Deep.result
    (rw c.in-Err-Deep.field-0-is at c.in-Err-Deep.ensures) refl c.broken_by_token-in-Err-Deep.ensures
