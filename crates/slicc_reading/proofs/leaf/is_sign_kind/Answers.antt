use Rattle.std.proofs.Common.{◌∷◌, ◌∙◌, [], sym, ap}
use Rattle.slicc_ast.specs.declared.tree.token.TokenKind.TheVariants.{Sign}
use Rattle.slicc_ast.specs.Prelude.{has, kind_of, sign_kind}
use Rattle.slicc_reading.proofs.KindsApart.{no_sign, sign_same, sign_tested}
use Rattle.slicc_reading.proofs.leaf.is_sign_kind.Goals as goal

pub returns-in-Sign-clause-value : goal.returns-in-Sign-clause-value
returns-in-Sign-clause-value c =
    sign_tested c.eq.result c.in-Sign.found c.args.sign c.eq.ensures ∙ ap (λ kind. has (sign_kind c.args.sign ∷ []) (kind_of kind)) (sym c.in-Sign.is)

pub returns-in-Sign-clause-same : goal.returns-in-Sign-clause-same
returns-in-Sign-clause-same c = λ so. c.in-Sign.is ∙ ap Sign (sign_same c.eq.result c.in-Sign.found c.args.sign c.eq.ensures so)

pub returns-in_default-clause-value : goal.returns-in_default-clause-value
returns-in_default-clause-value c = no_sign c.args.kind.now c.args.sign c.in_default.not-Sign
