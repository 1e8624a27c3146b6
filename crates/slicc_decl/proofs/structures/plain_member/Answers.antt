use Rattle.std.proofs.Common.{◌∷◌, [], sym}
use Rattle.slicc_ast.specs.Prelude.{done, ◌▸◌, of, optional, parentheses, plain_name, semicolon, machine_type, other_name}
use Rattle.slicc_ast.specs.Form.Form.{formals}
use Rattle.slicc_ast.specs.Parts.{pairs}
use Rattle.slicc_reading.proofs.Choices.{absent}
use Rattle.slicc_reading.proofs.Parts.{◌then◌, as_allowed_behind, as_node_behind, as_part, behind}
use Rattle.slicc_decl.proofs.NameKinds.{narrowed, not_skipped, only_memory, plain_is_name}
use Rattle.slicc_decl.proofs.structures.plain_member.Goals as goal

pub returns-in-Ok-method_end : goal.returns-in-Ok-method_end
returns-in-Ok-method_end c =
    as_allowed_behind c.span-span.result c.span-span.ensures (not_skipped c.in-Ok.name c.in-Ok.ensures.read.is_node c.requires.plain) c.requires.kind
    (as_part (narrowed (other_name ∷ machine_type ∷ []) c.requires.plain c.in-Ok.ensures.read) then c.in-Ok-method_end.ensures)

pub returns-in-Err-method_end : goal.returns-in-Err-method_end
returns-in-Err-method_end c = behind (as_part (narrowed (other_name ∷ machine_type ∷ []) c.requires.plain c.in-Ok.ensures.read)) c.in-Err-method_end.ensures

pub returns-in-Ok-ended_pairs : goal.returns-in-Ok-ended_pairs
returns-in-Ok-ended_pairs c =
    as_node_behind c.span-span-in-Ok-ended_pairs.result c.span-span-in-Ok-ended_pairs.ensures c.requires.kind
    (as_part (narrowed (other_name ∷ machine_type ∷ []) c.requires.plain c.in-Ok.ensures.read)
    then absent (parentheses (optional (of formals)) done) (sym c.if-is_sign.ensures) then c.in-Ok-ended_pairs.ensures.read)

pub returns-in-Err-ended_pairs : goal.returns-in-Err-ended_pairs
returns-in-Err-ended_pairs c =
    behind
    (as_part (narrowed (other_name ∷ machine_type ∷ []) c.requires.plain c.in-Ok.ensures.read)
    then absent (parentheses (optional (of formals)) done) (sym c.if-is_sign.ensures))
    c.in-Err-ended_pairs.ensures.read

pub returns-in-Err : goal.returns-in-Err
returns-in-Err c =
    only_memory (plain_name ▸ optional (parentheses (optional (of formals))) ▸ pairs ▸ semicolon) (plain_is_name c.args.tokens.now c.requires.plain) c.in-Err.ensures.read
