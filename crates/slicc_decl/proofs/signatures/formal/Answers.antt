use Rattle.std.proofs.Common.{◌≤◌, ◌<◌, length, arith, refl, sym}
use Rattle.slicc_ast.specs.Form.Form.{formal}
use Rattle.slicc_ast.specs.Parts.{name}
use Rattle.slicc_ast.specs.Prelude.{optional}
use Rattle.slicc_reading.proofs.Parts.{◌then◌, as_node, at_first, at_no_alternative, behind, in_alternative, of_alternative}
use Rattle.slicc_decl.proofs.signatures.formal.Goals as goal

pub returns-then-not-is_name-clause-read : goal.returns-then-not-is_name-clause-read
returns-then-not-is_name-clause-read c = at_no_alternative formal (sym c.if-not-is_name.ensures) c.refuse.ensures

pub returns-in-Ok-optional_name-clause-read : goal.returns-in-Ok-optional_name-clause-read
returns-in-Ok-optional_name-clause-read c =
    of_alternative formal 0 refl (sym c.if-not-is_name.ensures)
    (as_node c.span-span.result c.span-span.ensures (c.in-Ok.ensures.read then c.in-Ok-optional_name.ensures))

pub returns-in-Ok-optional_name-clause-shorter : goal.returns-in-Ok-optional_name-clause-shorter
returns-in-Ok-optional_name-clause-shorter c =
    let some : length c.in-Ok.behind.now < length c.args.tokens.now = c.in-Ok.ensures.shorter in
    let few : length c.in-Ok-optional_name.left.now ≤ length c.in-Ok.behind.now = c.in-Ok-optional_name.ensures.within in
    omega arith

pub returns-in-Err-optional_name-clause-read : goal.returns-in-Err-optional_name-clause-read
returns-in-Err-optional_name-clause-read c = in_alternative formal 0 refl (sym c.if-not-is_name.ensures) (behind c.in-Ok.ensures.read c.in-Err-optional_name.ensures)

pub returns-in-Err-clause-read : goal.returns-in-Err-clause-read
returns-in-Err-clause-read c = in_alternative formal 0 refl (sym c.if-not-is_name.ensures) (at_first (optional name) c.in-Err.ensures.read)
