use Rattle.std.proofs.Common.{◌+◌, subst, arith, inr}
use Rattle.std.proofs.lemmas.List.Sums.{prefix_len-le-length}
use Rattle.slicc_ast.specs.declared.tree.token.TokenKind.TheVariants.{Number}
use Rattle.slicc_lex.specs.declared.piece.Piece.TheVariants.{Lexeme}
use Rattle.slicc_lex.specs.Prelude.{is_digit, Stands}
use Rattle.slicc_lex.proofs.FoundNumbers.{found_hexadecimal, hexadecimal_too_large, found_decimal, decimal_too_large, hexadecimal_fits, same_number}
use Rattle.slicc_lex.proofs.front.number.Goals as goal

pub split_at-requires-then-hexadecimal-gt0 : goal.split_at-requires-then-hexadecimal-gt0
split_at-requires-then-hexadecimal-gt0 c = hexadecimal_fits c.args.bytes.now c.split_at.result.1.now c.hexadecimal_size-hexadecimal.result c.hexadecimal_size-hexadecimal.ensures (omega arith) c.split_at.ensures.back

pub returns-in-Some : goal.returns-in-Some
returns-in-Some c =
    subst (λ n. Stands c.args.bytes.now (Lexeme (Number n)) (2 + c.hexadecimal_size-hexadecimal.result)) (same_number c.in-Some.n _ c.in-Some.ensures)
    (found_hexadecimal c.args.bytes.now c.split_at-then-hexadecimal-gt0.result.0.now c.split_at.result.1.now c.hexadecimal_size-hexadecimal.result c.in-Some.n c.requires c.hexadecimal_size-hexadecimal.ensures (omega arith) c.split_at.ensures.back c.split_at-then-hexadecimal-gt0.ensures.front c.in-Some.ensures)

pub returns-in-None : goal.returns-in-None
returns-in-None c =
    inr (hexadecimal_too_large c.args.at c.args.bytes.now c.split_at-then-hexadecimal-gt0.result.0.now c.split_at.result.1.now c.hexadecimal_size-hexadecimal.result c.requires c.hexadecimal_size-hexadecimal.ensures (omega arith) c.split_at.ensures.back c.split_at-then-hexadecimal-gt0.ensures.front c.in-None.ensures)

pub split_at-requires-2 : goal.split_at-requires-2
split_at-requires-2 c = omega (arith, c.digit_len-size.ensures, prefix_len-le-length is_digit c.args.bytes.now)

pub returns-in-Some-number_of : goal.returns-in-Some-number_of
returns-in-Some-number_of c =
    subst (λ n. Stands c.args.bytes.now (Lexeme (Number n)) c.digit_len-size.result) (same_number c.in-Some-number_of.n _ c.in-Some-number_of.ensures)
    (found_decimal c.args.bytes.now c.split_at-2.result.0.now c.digit_len-size.result c.hexadecimal_size-hexadecimal.result c.in-Some-number_of.n c.requires c.hexadecimal_size-hexadecimal.ensures c.if-hexadecimal-gt0.false c.digit_len-size.ensures c.split_at-2.ensures.front c.in-Some-number_of.ensures)

pub returns-in-None-number_of : goal.returns-in-None-number_of
returns-in-None-number_of c =
    inr (decimal_too_large c.args.at c.args.bytes.now c.split_at-2.result.0.now c.digit_len-size.result c.hexadecimal_size-hexadecimal.result c.requires c.hexadecimal_size-hexadecimal.ensures c.if-hexadecimal-gt0.false c.digit_len-size.ensures c.split_at-2.ensures.front c.in-None-number_of.ensures)
