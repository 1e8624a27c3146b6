use Rattle.std.proofs.Common.{ap, refl, sym}
use Rattle.slicc_ast.specs.Prelude.{file, end_token}
use Rattle.slicc_parse.proofs.FileEnds.{file_read}
use Rattle.slicc_reading.proofs.Parts.{at_first, at_no_alternative, behind, in_alternative}
use Rattle.slicc_parse.proofs.files.file.Goals as goal

pub returns-then-not-begins_file : goal.returns-then-not-begins_file
returns-then-not-begins_file c = at_no_alternative file (sym c.if-not-begins_file.ensures) c.refuse.ensures

pub returns-in-Ok-end_place : goal.returns-in-Ok-end_place
returns-in-Ok-end_place c =
    rw c.of-items.ensures
    (file_read c.args.room
    (record { protocol = c.in-Ok.protocol; items = c.in-Ok.items.items; span = record { file = c.first_file.result; start = 0; end = c.in-Ok-end_place.end } })
    c.args.tokens.now c.in-Ok.behind.now c.in-Ok-end_place.left.now (sym c.if-not-begins_file.ensures) c.in-Ok.ensures.read c.in-Ok.ensures.some c.in-Ok-end_place.ensures
    (ap (λ n. record { file = n; start = 0; end = c.in-Ok-end_place.end }) c.first_file.ensures))

pub returns-in-Err-end_place : goal.returns-in-Err-end_place
returns-in-Err-end_place c = in_alternative file 0 refl (sym c.if-not-begins_file.ensures) (behind c.in-Ok.ensures.read c.in-Err-end_place.ensures)

pub returns-in-Err : goal.returns-in-Err
returns-in-Err c = in_alternative file 0 refl (sym c.if-not-begins_file.ensures) (at_first end_token c.in-Err.ensures.read)
