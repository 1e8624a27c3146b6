use Rattle.std.proofs.Common.{Ok, List, sym, subst, inl, inr, ⊎_elim}
use Rattle.slicc_lex.specs.declared.token.Token.{Token}
use Rattle.slicc_lex.specs.Prelude.{Reads}
use Rattle.slicc_lex.proofs.Lexed.{lexed_more, lexed_fault, lexed_all, rest_empty, same_lexed}
use Rattle.slicc_lex.proofs.lexer.lex.Goals as goal

pub returns-in-Err-front : goal.returns-in-Err-front
returns-in-Err-front c =
    ⊎_elim (λ none. inl none)
    (λ fault. inr (lexed_fault c.args.file c.args.bytes.now c.loop-rest.tokens c.loop-rest.at c.loop-rest.rest.now c.in-Err-front.fault c.loop-rest.invariant fault))
    c.in-Err-front.ensures

pub loop-rest-preserved : goal.loop-rest-preserved
loop-rest-preserved c =
    same_lexed _ _ _ _ _ _ _ (sym c.in-Ok-add.ensures) (sym c.split_at.ensures.back)
    (lexed_more c.args.file c.args.bytes.now c.loop-rest.tokens c.loop-rest.at c.loop-rest.rest.now c.in-Ok-front.found.0 c.in-Ok-front.found.1 c.loop-rest.invariant c.in-Ok-front.ensures)

pub returns : goal.returns
returns c =
    subst (λ (ts : List Token). Reads c.args.file 0 c.args.bytes.now (Ok ts)) (sym c.in-Ok-add-2.ensures)
    (lexed_all c.args.file c.args.bytes.now c.loop-rest.tokens c.loop-rest.at c.loop-rest.rest.now c.loop-rest.invariant (rest_empty c.loop-rest.rest.now (sym c.loop-rest-test.ensures)))
