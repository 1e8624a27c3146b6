use Rattle.std.proofs.Common.{◌∷◌, [], refl, sym}
use Rattle.slicc_ast.specs.Prelude.{done, machine_name, ◌▸◌, colon, of, functional_name, machine_type, other_name}
use Rattle.slicc_ast.specs.Parts.{name}
use Rattle.slicc_reading.proofs.Choices.{absent, present, fault_in_present}
use Rattle.slicc_reading.proofs.Parts.{◌then◌, as_part, at_no_alternative, behind, by_alternative, in_alternative}
use Rattle.slicc_decl.proofs.NameKinds.{narrowed, only_memory, other_ahead, type_token}
use Rattle.slicc_decl.proofs.machine_heads.machine_name.Goals as goal

pub returns-then-not-is_name : goal.returns-then-not-is_name
returns-then-not-is_name c = at_no_alternative machine_name (sym c.if-not-is_name.ensures) c.refuse.ensures

pub returns-then-not-is_machine_type : goal.returns-then-not-is_machine_type
returns-then-not-is_machine_type c =
    let ahead = other_ahead c.args.tokens.now (sym c.if-not-is_name.ensures) (sym c.if-not-is_machine_type.ensures) in
    by_alternative machine_name 1 refl ahead (as_part (narrowed (other_name ∷ functional_name ∷ []) ahead c.in-Ok.ensures.read))

pub returns-then-not-is_sign : goal.returns-then-not-is_sign
returns-then-not-is_sign c =
    by_alternative machine_name 0 refl (sym c.if-not-is_machine_type.ensures)
    (as_part (narrowed (machine_type ∷ []) (sym c.if-not-is_machine_type.ensures) c.in-Ok.ensures.read) then absent ((colon ▸ name) done) (sym c.if-not-is_sign.ensures))

pub returns-in-Ok-name_after : goal.returns-in-Ok-name_after
returns-in-Ok-name_after c =
    by_alternative machine_name 0 refl (sym c.if-not-is_machine_type.ensures)
    (type_token (sym c.if-not-is_machine_type.ensures) c.in-Ok.ensures.read then present (sym c.if-not-is_sign.ensures) c.in-Ok-name_after.ensures.read)

pub returns-in-Err-name_after : goal.returns-in-Err-name_after
returns-in-Err-name_after c =
    in_alternative machine_name 0 refl (sym c.if-not-is_machine_type.ensures)
    (behind (type_token (sym c.if-not-is_machine_type.ensures) c.in-Ok.ensures.read) (fault_in_present (sym c.if-not-is_sign.ensures) c.in-Err-name_after.ensures.read))

pub returns-in-Err : goal.returns-in-Err
returns-in-Err c = only_memory (of machine_name) (sym c.if-not-is_name.ensures) c.in-Err.ensures.read
