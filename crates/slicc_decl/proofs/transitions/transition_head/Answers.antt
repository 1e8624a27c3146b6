use Rattle.slicc_ast.specs.Declarations.{pairs}
use Rattle.slicc_ast.specs.Machines.{names}
use Rattle.slicc_ast.specs.Prelude.{next_parts, Parts, ◌▸◌}
use Rattle.slicc_ast.specs.Names.{sign as sign_of}
use Rattle.slicc_ast.specs.declared.tree.token.Sign.TheVariants.{CloseParenthesis, Comma}
use Rattle.slicc_ast.specs.Parts.{sign}
use Rattle.slicc_reading.proofs.GoingOn.{nests}
use Rattle.slicc_decl.specs.Prelude.{transition_inside}
use Rattle.slicc_decl.specs.declared.transitions.TransitionHead.{TransitionHead}
use Rattle.slicc_decl.proofs.transitions.transition_head.Goals as goal

abbrev head_parts : TransitionHead → Parts → Parts
head_parts head others = names head.states (sign_of Comma (names head.events (next_parts head.next (pairs head.pairs others))))

pub returns-in-Ok : goal.returns-in-Ok
returns-in-Ok c =
    nests (transition_inside ▸ sign CloseParenthesis) (λ head others. head_parts head (sign_of CloseParenthesis others)) c.ended.result c.in-Ok.ensures.opened
    (c.ended.ensures.read transition_inside head_parts c.in-Ok.inside.now c.transition_inside.ensures)

pub returns-in-Err : goal.returns-in-Err
returns-in-Err c = c.in-Err.ensures.refused _
