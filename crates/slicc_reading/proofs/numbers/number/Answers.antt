use Rattle.std.proofs.Common.{◌≡◌, true, rules, ◌∷◌, [], refl, sym, subst}
use Rattle.slicc_ast.specs.declared.tree.token.TokenKind.TheVariants.{Number}
use Rattle.slicc_ast.specs.Prelude.{has, kind_of, number}
use Rattle.slicc_reading.proofs.Parts.{other_token_refused, no_token_refused, token_read}
use Rattle.slicc_reading.proofs.numbers.number.Goals as goal

pub returns-in_default-clause-read : goal.returns-in_default-clause-read
returns-in_default-clause-read c = no_token_refused c.args.room (number ∷ []) c.args.tokens.now c.refuse.result c.in_default.ensures c.refuse.ensures

pub returns-in-Some-number_of-clause-read : goal.returns-in-Some-number_of-clause-read
returns-in-Some-number_of-clause-read c =
    let is_number = subst (λ k. has (number ∷ []) (kind_of k) ≡ true) (sym c.in-Some-number_of.ensures) refl in
    let read = token_read c.args.room (number ∷ []) (Number c.in-Some-number_of.found) c.in-Some.first.now c.args.tokens.now c.in-Some.left.now c.in-Some.ensures is_number c.in-Some-number_of.ensures in
    search (rules, read)

pub returns-in-None-clause-read : goal.returns-in-None-clause-read
returns-in-None-clause-read c =
    other_token_refused c.args.room (number ∷ []) c.in-Some.first.now c.args.tokens.now c.in-Some.left.now c.refuse-in-None.result
    c.in-Some.ensures c.in-None.ensures c.refuse-in-None.ensures
