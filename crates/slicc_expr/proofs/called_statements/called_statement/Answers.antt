use Rattle.std.proofs.Common.{refl, sym}
use Rattle.slicc_ast.specs.Prelude.{Form}
use Rattle.slicc_reading.proofs.Parts.{in_alternative, match_map, of_alternative}
use Rattle.slicc_expr.proofs.StatementForms.{print_ahead}
use Rattle.slicc_expr.proofs.called_statements.called_statement.Goals as goal

pub returns-then-is_word-clause-read : goal.returns-then-is_word-clause-read
returns-then-is_word-clause-read c =
    match_map c.stall_and_wait.result c.stall_and_wait.ensures.read
    (λ read is. of_alternative Form.statement 6 refl (sym c.if-is_word.ensures) is)
    (λ fault is. in_alternative Form.statement 6 refl (sym c.if-is_word.ensures) is)

pub returns-then-is_word-2-clause-read : goal.returns-then-is_word-2-clause-read
returns-then-is_word-2-clause-read c =
    match_map c.check_allocate.result c.check_allocate.ensures.read
    (λ read is. of_alternative Form.statement 7 refl (sym c.if-is_word-2.ensures) is)
    (λ fault is. in_alternative Form.statement 7 refl (sym c.if-is_word-2.ensures) is)

pub returns-then-is_word-3-clause-read : goal.returns-then-is_word-3-clause-read
returns-then-is_word-3-clause-read c =
    match_map c.error.result c.error.ensures.read
    (λ read is. of_alternative Form.statement 8 refl (sym c.if-is_word-3.ensures) is)
    (λ fault is. in_alternative Form.statement 8 refl (sym c.if-is_word-3.ensures) is)

pub returns-then-is_word-4-clause-read : goal.returns-then-is_word-4-clause-read
returns-then-is_word-4-clause-read c =
    match_map c.assert.result c.assert.ensures.read
    (λ read is. of_alternative Form.statement 9 refl (sym c.if-is_word-4.ensures) is)
    (λ fault is. in_alternative Form.statement 9 refl (sym c.if-is_word-4.ensures) is)

pub returns-clause-read : goal.returns-clause-read
returns-clause-read c =
    let ahead = print_ahead c.args.tokens.now c.requires (sym c.if-is_word.ensures) (sym c.if-is_word-2.ensures) (sym c.if-is_word-3.ensures) (sym c.if-is_word-4.ensures) in
    match_map c.print_statement.result c.print_statement.ensures.read (λ read is. of_alternative Form.statement 10 refl ahead is) (λ fault is. in_alternative Form.statement 10 refl ahead is)
