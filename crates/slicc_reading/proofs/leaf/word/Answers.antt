use Rattle.std.proofs.Common.{◌∷◌, []}
use Rattle.slicc_ast.specs.declared.tree.token.TokenKind.TheVariants.{Word}
use Rattle.slicc_ast.specs.Prelude.{word_kind}
use Rattle.slicc_reading.proofs.Parts.{token_read, other_token_refused, no_token_refused}
use Rattle.slicc_reading.proofs.leaf.word.Goals as goal

pub returns-then-is_word_kind-clause-read : goal.returns-then-is_word_kind-clause-read
returns-then-is_word_kind-clause-read c =
    token_read c.args.room (word_kind c.args.word ∷ []) (Word c.args.word) c.in-Some.first.now c.args.tokens.now c.in-Some.left.now
    c.in-Some.ensures (cc) (c.is_word_kind.ensures.same c.if-is_word_kind.true)

pub returns-else-is_word_kind-clause-read : goal.returns-else-is_word_kind-clause-read
returns-else-is_word_kind-clause-read c =
    other_token_refused c.args.room (word_kind c.args.word ∷ []) c.in-Some.first.now c.args.tokens.now c.in-Some.left.now c.refuse.result
    c.in-Some.ensures (cc) c.refuse.ensures

pub returns-in-None-clause-read : goal.returns-in-None-clause-read
returns-in-None-clause-read c =
    no_token_refused c.args.room (word_kind c.args.word ∷ []) c.args.tokens.now c.refuse-in-None.result c.in-None.ensures c.refuse-in-None.ensures
