use Rattle.std.proofs.lemmas.Result.{IfErr-weaker, IfOk-weaker}
use Rattle.std.proofs.Common.{◌∷◌, []}
use Rattle.slicc_ast.specs.Prelude.{nested, sign_kind}
use Rattle.slicc_ast.specs.declared.tree.token.Sign.TheVariants.{OpenParenthesis}
use Rattle.slicc_reading.proofs.Parts.{at_first, behind}
use Rattle.slicc_reading.proofs.kept.called.Goals as goal

pub returns-in-Ok-clause-called : goal.returns-in-Ok-clause-called
returns-in-Ok-clause-called c =
    IfOk-weaker c.open.result _ _ (λ left is. record { between = c.in-Ok.behind.now; is_head = c.in-Ok.ensures.read; opened = is }) c.open.ensures.opened

pub returns-in-Ok-clause-refused : goal.returns-in-Ok-clause-refused
returns-in-Ok-clause-refused c =
    IfErr-weaker c.open.result _ _ (λ fault is inside. behind c.in-Ok.ensures.read (is inside)) c.open.ensures.refused

pub returns-in-Err-clause-refused : goal.returns-in-Err-clause-refused
returns-in-Err-clause-refused c inside = at_first (nested (sign_kind OpenParenthesis ∷ []) inside) c.in-Err.ensures.read
