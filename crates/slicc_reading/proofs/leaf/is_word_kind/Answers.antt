use Rattle.std.proofs.Common.{◌∷◌, ◌∙◌, [], sym, ap}
use Rattle.slicc_ast.specs.declared.tree.token.TokenKind.TheVariants.{Word}
use Rattle.slicc_ast.specs.Prelude.{has, kind_of, word_kind}
use Rattle.slicc_reading.proofs.KindsApart.{no_word, word_same, word_tested}
use Rattle.slicc_reading.proofs.leaf.is_word_kind.Goals as goal

pub returns-in-Word-clause-value : goal.returns-in-Word-clause-value
returns-in-Word-clause-value c =
    word_tested c.eq.result c.in-Word.found c.args.word c.eq.ensures ∙ ap (λ kind. has (word_kind c.args.word ∷ []) (kind_of kind)) (sym c.in-Word.is)

pub returns-in-Word-clause-same : goal.returns-in-Word-clause-same
returns-in-Word-clause-same c = λ so. c.in-Word.is ∙ ap Word (word_same c.eq.result c.in-Word.found c.args.word c.eq.ensures so)

pub returns-in_default-clause-value : goal.returns-in_default-clause-value
returns-in_default-clause-value c = no_word c.args.kind.now c.args.word c.in_default.not-Word
