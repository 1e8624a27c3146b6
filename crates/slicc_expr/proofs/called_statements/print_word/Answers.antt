use Rattle.slicc_reading.proofs.Parts.{other_token_refused, no_token_refused}
use Rattle.slicc_expr.specs.Prelude.{print_kinds}
use Rattle.slicc_expr.proofs.StatementForms.{print_word_read}
use Rattle.slicc_expr.proofs.called_statements.print_word.Goals as goal

pub returns-in_default-clause-read : goal.returns-in_default-clause-read
returns-in_default-clause-read c =
    no_token_refused c.args.room print_kinds c.args.tokens.now c.refuse.result c.in_default.ensures c.refuse.ensures

pub returns-in-Some-print_word_kind-clause-read : goal.returns-in-Some-print_word_kind-clause-read
returns-in-Some-print_word_kind-clause-read c =
    print_word_read c.args.room c.in-Some-print_word_kind.which c.in-Some.first.now c.args.tokens.now c.in-Some.left.now c.in-Some.ensures c.in-Some-print_word_kind.ensures

pub returns-in-None-clause-read : goal.returns-in-None-clause-read
returns-in-None-clause-read c =
    other_token_refused c.args.room print_kinds c.in-Some.first.now c.args.tokens.now c.in-Some.left.now c.refuse-in-None.result
    c.in-Some.ensures c.in-None.ensures c.refuse-in-None.ensures
