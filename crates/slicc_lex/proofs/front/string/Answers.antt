use Rattle.std.proofs.Common.{arith, inr}
use Rattle.std.proofs.lemmas.List.Sums.{prefix_len-le-length}
use Rattle.slicc_lex.specs.Prelude.{is_inside}
use Rattle.slicc_lex.proofs.FoundStrings.{string_open, found_string, bad_inside, no_quote, other_quote, all_printable, closed_by}
use Rattle.slicc_lex.proofs.front.string.Goals as goal

pub split_at-requires : goal.split_at-requires
split_at-requires c = omega (arith, c.inside_len.ensures, prefix_len-le-length (is_inside c.args.quote) c.args.behind.now)

pub returns-in_default : goal.returns-in_default
returns-in_default c =
    inr (string_open c.args.at c.args.quote c.args.behind.now c.split_at.result.1.now c.inside_len.result c.requires.quote c.inside_len.ensures c.split_at.ensures.back
    (no_quote c.args.quote c.split_at.result.1.now c.in_default.ensures))

pub returns-then-close-quote : goal.returns-then-close-quote
returns-then-close-quote c =
    inr (string_open c.args.at c.args.quote c.args.behind.now c.split_at.result.1.now c.inside_len.result c.requires.quote c.inside_len.ensures c.split_at.ensures.back
    (other_quote c.args.quote c.in-Some.close.now c.split_at.result.1.now _ c.in-Some.ensures c.if-close-quote.true))

pub returns-then-printable-text : goal.returns-then-printable-text
returns-then-printable-text c =
    inr (bad_inside c.args.quote c.args.behind.now c.split_at.result.0.now c.split_at.result.1.now _ c.inside_len.result c.requires.quote c.inside_len.ensures c.split_at.ensures.front c.split_at.ensures.back
    (closed_by c.args.quote c.in-Some.close.now c.split_at.result.1.now _ c.in-Some.ensures c.if-close-quote.false)
    c.args.at c.printable_len-printable.result c.printable_len-printable.ensures c.if-printable-text.true)

pub returns-in-Ok : goal.returns-in-Ok
returns-in-Ok c =
    found_string c.args.quote c.args.behind.now c.split_at.result.0.now c.split_at.result.1.now _ c.inside_len.result c.requires.quote c.inside_len.ensures c.split_at.ensures.front c.split_at.ensures.back
    (closed_by c.args.quote c.in-Some.close.now c.split_at.result.1.now _ c.in-Some.ensures c.if-close-quote.false)
    c.in-Ok.copy c.in-Ok.ensures
    (all_printable c.split_at.result.0.now c.printable_len-printable.result c.printable_len-printable.ensures c.if-printable-text.false)
