use Rattle.slicc_ast.specs.Prelude.{formal_list, Parts, node, part, ◌▸◌, of, optional}
use Rattle.slicc_ast.specs.Names.{sign as sign_of}
use Rattle.slicc_ast.specs.declared.tree.declaration.Formals.{Formals}
use Rattle.slicc_ast.specs.declared.tree.token.Sign.TheVariants.{CloseParenthesis}
use Rattle.slicc_ast.specs.Form.Form.{formals}
use Rattle.slicc_ast.specs.Parts.{sign}
use Rattle.slicc_reading.proofs.GoingOn.{nests}
use Rattle.slicc_reading.proofs.Parts.{as_part, match_map}
use Rattle.slicc_decl.proofs.signatures.formals.Goals as goal

abbrev inside_parts : Formals → Parts → Parts
inside_parts f others = part (node f.span (formal_list f.items)) others

pub returns-in-Ok : goal.returns-in-Ok
returns-in-Ok c =
    nests (optional (of formals) ▸ sign CloseParenthesis) (λ f others. inside_parts f (sign_of CloseParenthesis others)) c.ended.result c.in-Ok.ensures.opened
    (c.ended.ensures.read (optional (of formals)) inside_parts c.in-Ok.inside.now
    (match_map c.optional_formals.result c.optional_formals.ensures (λ read is. as_part is) (λ fault is. is)))

pub returns-in-Err : goal.returns-in-Err
returns-in-Err c = c.in-Err.ensures.refused _
