use Rattle.slicc_ast.specs.Names.{sign as sign_of, word as word_of}
use Rattle.slicc_ast.specs.declared.tree.token.Sign.TheVariants.{CloseParenthesis, OpenParenthesis}
use Rattle.slicc_ast.specs.Parts.{sign, word}
use Rattle.slicc_ast.specs.Prelude.{◌▸◌, parentheses}
use Rattle.slicc_reading.proofs.GoingOn.{calls, weaker}
use Rattle.slicc_reading.proofs.kept.ended_call.Goals as goal

pub returns-clause-read : goal.returns-clause-read
returns-clause-read g c head part parts start inside is h =
    c.ended.ensures.read (word head ▸ parentheses part) (λ v others. word_of head (sign_of OpenParenthesis (parts v (sign_of CloseParenthesis others)))) start
    (calls (part ▸ sign CloseParenthesis) (λ v others. parts v (sign_of CloseParenthesis others)) c.ended-closed.result is (c.ended-closed.ensures.read part parts inside h))

pub returns-clause-shorter : goal.returns-clause-shorter
returns-clause-shorter g c size h = c.ended.ensures.shorter size (weaker _ c.ended-closed.result (c.ended-closed.ensures.shorter size h))
