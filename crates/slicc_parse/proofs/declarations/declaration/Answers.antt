use Rattle.std.proofs.Common.{◌∷◌, [], refl, sym}
use Rattle.slicc_ast.specs.declared.tree.token.Word.TheVariants.{Action, Enumeration, InPort, OutPort, StateDeclaration, Structure, Transition}
use Rattle.slicc_ast.specs.Prelude.{declaration, names_of, word_kind}
use Rattle.slicc_reading.proofs.Parts.{at_no_alternative, in_alternative, match_map, of_alternative}
use Rattle.slicc_decl.proofs.FirstTokens.{neither_ahead}
use Rattle.slicc_parse.proofs.declarations.declaration.Goals as goal

pub returns-then-is_name : goal.returns-then-is_name
returns-then-is_name c =
    match_map c.typed.result c.typed.ensures
    (λ read is. of_alternative declaration 7 refl (sym c.if-is_name.ensures) is)
    (λ fault is. in_alternative declaration 7 refl (sym c.if-is_name.ensures) is)

pub returns-in-Ok : goal.returns-in-Ok
returns-in-Ok c = of_alternative declaration 6 refl (sym c.if-is_word.ensures) c.in-Ok.ensures

pub returns-in-Err : goal.returns-in-Err
returns-in-Err c = in_alternative declaration 6 refl (sym c.if-is_word.ensures) c.in-Err.ensures

pub returns-in-Ok-action : goal.returns-in-Ok-action
returns-in-Ok-action c = of_alternative declaration 5 refl (sym c.if-is_word-2.ensures) c.in-Ok-action.ensures

pub returns-in-Err-action : goal.returns-in-Err-action
returns-in-Err-action c = in_alternative declaration 5 refl (sym c.if-is_word-2.ensures) c.in-Err-action.ensures

pub returns-in-Ok-in_port : goal.returns-in-Ok-in_port
returns-in-Ok-in_port c = of_alternative declaration 4 refl (sym c.if-is_word-3.ensures) c.in-Ok-in_port.ensures

pub returns-in-Err-in_port : goal.returns-in-Err-in_port
returns-in-Err-in_port c = in_alternative declaration 4 refl (sym c.if-is_word-3.ensures) c.in-Err-in_port.ensures

pub returns-in-Ok-out_port : goal.returns-in-Ok-out_port
returns-in-Ok-out_port c = of_alternative declaration 3 refl (sym c.if-is_word-4.ensures) c.in-Ok-out_port.ensures

pub returns-in-Err-out_port : goal.returns-in-Err-out_port
returns-in-Err-out_port c = in_alternative declaration 3 refl (sym c.if-is_word-4.ensures) c.in-Err-out_port.ensures

pub returns-in-Ok-structure : goal.returns-in-Ok-structure
returns-in-Ok-structure c = of_alternative declaration 2 refl (sym c.if-is_word-5.ensures) c.in-Ok-structure.ensures

pub returns-in-Err-structure : goal.returns-in-Err-structure
returns-in-Err-structure c = in_alternative declaration 2 refl (sym c.if-is_word-5.ensures) c.in-Err-structure.ensures

pub returns-in-Ok-enumeration : goal.returns-in-Ok-enumeration
returns-in-Ok-enumeration c = of_alternative declaration 1 refl (sym c.if-is_word-6.ensures) c.in-Ok-enumeration.ensures

pub returns-in-Err-enumeration : goal.returns-in-Err-enumeration
returns-in-Err-enumeration c = in_alternative declaration 1 refl (sym c.if-is_word-6.ensures) c.in-Err-enumeration.ensures

pub returns-in-Ok-states : goal.returns-in-Ok-states
returns-in-Ok-states c = of_alternative declaration 0 refl (sym c.if-is_word-7.ensures) c.in-Ok-states.ensures

pub returns-in-Err-states : goal.returns-in-Err-states
returns-in-Err-states c = in_alternative declaration 0 refl (sym c.if-is_word-7.ensures) c.in-Err-states.ensures

pub returns : goal.returns
returns c =
    at_no_alternative declaration
    (neither_ahead names_of (word_kind StateDeclaration ∷ word_kind Enumeration ∷ word_kind Structure ∷ word_kind OutPort ∷ word_kind InPort ∷ word_kind Action ∷ word_kind Transition ∷ []) c.args.tokens.now (sym c.if-is_name.ensures)
    (neither_ahead (word_kind StateDeclaration ∷ []) (word_kind Enumeration ∷ word_kind Structure ∷ word_kind OutPort ∷ word_kind InPort ∷ word_kind Action ∷ word_kind Transition ∷ []) c.args.tokens.now (sym c.if-is_word-7.ensures)
    (neither_ahead (word_kind Enumeration ∷ []) (word_kind Structure ∷ word_kind OutPort ∷ word_kind InPort ∷ word_kind Action ∷ word_kind Transition ∷ []) c.args.tokens.now (sym c.if-is_word-6.ensures)
    (neither_ahead (word_kind Structure ∷ []) (word_kind OutPort ∷ word_kind InPort ∷ word_kind Action ∷ word_kind Transition ∷ []) c.args.tokens.now (sym c.if-is_word-5.ensures)
    (neither_ahead (word_kind OutPort ∷ []) (word_kind InPort ∷ word_kind Action ∷ word_kind Transition ∷ []) c.args.tokens.now (sym c.if-is_word-4.ensures)
    (neither_ahead (word_kind InPort ∷ []) (word_kind Action ∷ word_kind Transition ∷ []) c.args.tokens.now (sym c.if-is_word-3.ensures)
    (neither_ahead (word_kind Action ∷ []) (word_kind Transition ∷ []) c.args.tokens.now (sym c.if-is_word-2.ensures)
    (sym c.if-is_word.ensures))))))))
    c.refuse.ensures
