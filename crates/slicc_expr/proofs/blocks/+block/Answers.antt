use Rattle.std.proofs.Common.{refl, sym, ◌<◌, length, arith, rules}
use Rattle.slicc_ast.specs.Prelude.{done, stmt_list, Form, ◌▸◌, of, repeated}
use Rattle.slicc_ast.specs.declared.tree.token.Sign.TheVariants.{CloseBrace}
use Rattle.slicc_ast.specs.Names.{word as word_of}
use Rattle.slicc_ast.specs.Statements.{block}
use Rattle.slicc_ast.specs.Parts.{sign, word}
use Rattle.slicc_reading.specs.Prelude.{no_memory}
use Rattle.slicc_reading.proofs.Parts.{◌then◌, as_node, as_part, as_tree, at_first, at_no_alternative, behind, in_alternative, match_map, of_alternative}
use Rattle.slicc_reading.proofs.Choices.{absent, fault_in_nesting, fault_in_present, in_nesting, present}
use Rattle.slicc_reading.proofs.GoingOn.{fewer, fewer_still, of_read, of_value, on_fault}
use Rattle.slicc_reading.proofs.Repeats.{all_read, fault_in_one, none_yet, one_more}
use Rattle.slicc_expr.specs.Prelude.{branch, branch_parts, branches_end, condition_parts, enqueue_head, enqueue_head_parts, other_branches_parts, peek_head, peek_head_parts}
use Rattle.slicc_expr.proofs.Branches.{all_branches, calling_ahead, each_stmt, enqueue_ahead, enqueue_outline, fault_in_else_if, fault_on, if_is, no_else_if, no_if, no_otherwise, one_else_if, peek_outline, read_tree, stmt_parts}
use Rattle.slicc_ast.specs.declared.tree.statement.Stmt.TheViews.{the_lemmas}
use Rattle.slicc_ast.specs.declared.tree.token.Word.TheVariants.{Else, If}
use Rattle.slicc_expr.proofs.blocks.+block.Goals as goal

pub if_branch-returns-in-Err-clause-read : goal.if_branch-returns-in-Err-clause-read
if_branch-returns-in-Err-clause-read t c =
    at_first (of Form.block) c.in-Err.ensures.read

pub conditional-returns-in-Err-clause-read : goal.conditional-returns-in-Err-clause-read
conditional-returns-in-Err-clause-read t c =
    in_alternative Form.conditional 0 refl c.requires (at_first branches_end c.in-Err.ensures.read)

pub else_if-returns-in-Ok-if_branch-clause-read : goal.else_if-returns-in-Ok-if_branch-clause-read
else_if-returns-in-Ok-if_branch-clause-read t c =
    c.in-Ok.ensures.read then c.in-Ok-if_branch.ensures.read

pub else_if-returns-in-Err-if_branch-clause-read : goal.else_if-returns-in-Err-if_branch-clause-read
else_if-returns-in-Err-if_branch-clause-read t c =
    behind c.in-Ok.ensures.read c.in-Err-if_branch.ensures.read

pub else_if-returns-in-Err-clause-read : goal.else_if-returns-in-Err-clause-read
else_if-returns-in-Err-clause-read t c =
    at_first branch c.in-Err.ensures.read

pub else_ifs-branches-init : goal.else_ifs-branches-init
else_ifs-branches-init t c =
    no_else_if c.args.room c.args.tokens.now c.new-others.result c.new-others.ensures

pub else_ifs-branches-preserved : goal.else_ifs-branches-preserved
else_ifs-branches-preserved t c =
    one_else_if c.branches.others c.in-Ok.next c.push.new.self c.in-Ok-push.ensures.ok (sym c.branches-test.ensures) c.in-Ok.ensures.read c.branches.invariant

pub else_ifs-returns-in-Err-push-clause-read : goal.else_ifs-returns-in-Err-push-clause-read
else_ifs-returns-in-Err-push-clause-read t c =
    no_memory

pub else_ifs-returns-in-Err-clause-read : goal.else_ifs-returns-in-Err-clause-read
else_ifs-returns-in-Err-clause-read t c =
    fault_in_else_if (sym c.branches-test.ensures) c.in-Err.ensures.read c.branches.invariant

pub enqueue-returns-in-Err-clause-read : goal.enqueue-returns-in-Err-clause-read
enqueue-returns-in-Err-clause-read t c =
    at_first (of Form.block) c.in-Err.ensures.read

pub peek-returns-in-Err-clause-read : goal.peek-returns-in-Err-clause-read
peek-returns-in-Err-clause-read t c =
    at_first (of Form.block) c.in-Err.ensures.read

pub last_block-returns-then-not-is_sign-clause-read : goal.last_block-returns-then-not-is_sign-clause-read
last_block-returns-then-not-is_sign-clause-read t c =
    at_no_alternative Form.otherwise (no_otherwise c.args.tokens.now c.requires (sym c.if-not-is_sign.ensures)) c.refuse.ensures

pub last_block-returns-clause-read : goal.last_block-returns-clause-read
last_block-returns-clause-read t c =
    match_map c.statement_block.result c.statement_block.ensures.read
    (λ read is. of_alternative Form.otherwise 1 refl (sym c.if-not-is_sign.ensures) is)
    (λ fault is. in_alternative Form.otherwise 1 refl (sym c.if-not-is_sign.ensures) is)

pub last_branch-returns-then-not-is_word : goal.last_branch-returns-then-not-is_word
last_branch-returns-then-not-is_word t c =
    absent ((word Else ▸ of Form.otherwise) done) (sym c.if-not-is_word.ensures)

pub last_branch-last_block-requires : goal.last_branch-last_block-requires
last_branch-last_block-requires t c =
    (let shorter : length c.in-Ok.behind.now < length c.args.tokens.now = c.in-Ok.ensures.shorter in omega arith, no_if c.requires c.in-Ok.ensures.read)

pub last_branch-returns-in-Ok-last_block : goal.last_branch-returns-in-Ok-last_block
last_branch-returns-in-Ok-last_block t c =
    present (sym c.if-not-is_word.ensures) (c.in-Ok.ensures.read then as_part c.in-Ok-last_block.ensures.read)

pub last_branch-returns-in-Err-last_block : goal.last_branch-returns-in-Err-last_block
last_branch-returns-in-Err-last_block t c =
    fault_in_present (sym c.if-not-is_word.ensures) (behind c.in-Ok.ensures.read c.in-Err-last_block.ensures.read)

pub last_branch-returns-in-Err : goal.last_branch-returns-in-Err
last_branch-returns-in-Err t c =
    fault_in_present (sym c.if-not-is_word.ensures) (at_first (of Form.otherwise) c.in-Err.ensures.read)

pub nesting_statement-returns-in-Ok-clause-read : goal.nesting_statement-returns-in-Ok-clause-read
nesting_statement-returns-in-Ok-clause-read t c =
    of_alternative Form.statement 3 refl (sym c.if-is_word.ensures) c.in-Ok.ensures.read

pub nesting_statement-returns-in-Err-clause-read : goal.nesting_statement-returns-in-Err-clause-read
nesting_statement-returns-in-Err-clause-read t c =
    in_alternative Form.statement 3 refl (sym c.if-is_word.ensures) c.in-Err.ensures.read

pub nesting_statement-returns-then-is_word-2-clause-read : goal.nesting_statement-returns-then-is_word-2-clause-read
nesting_statement-returns-then-is_word-2-clause-read t c =
    match_map c.peek.result c.peek.ensures.read
    (λ read is. of_alternative Form.statement 4 refl (sym c.if-is_word-2.ensures) is)
    (λ fault is. in_alternative Form.statement 4 refl (sym c.if-is_word-2.ensures) is)

pub nesting_statement-returns-clause-read : goal.nesting_statement-returns-clause-read
nesting_statement-returns-clause-read t c =
    let ahead = enqueue_ahead c.args.tokens.now c.requires (sym c.if-is_word.ensures) (sym c.if-is_word-2.ensures) in
    match_map c.enqueue.result c.enqueue.ensures.read
    (λ read is. of_alternative Form.statement 5 refl ahead is)
    (λ fault is. in_alternative Form.statement 5 refl ahead is)

pub other_branches-returns-in-Ok-last_branch : goal.other_branches-returns-in-Ok-last_branch
other_branches-returns-in-Ok-last_branch t c =
    all_branches c.in-Ok.ensures.read c.in-Ok-last_branch.ensures

pub other_branches-returns-in-Err-last_branch : goal.other_branches-returns-in-Err-last_branch
other_branches-returns-in-Err-last_branch t c =
    fault_on c.in-Ok.ensures.read.leads c.in-Err-last_branch.ensures

pub statement-returns-then-is_name-clause-read : goal.statement-returns-then-is_name-clause-read
statement-returns-then-is_name-clause-read t c =
    match_map c.name_statement.result c.name_statement.ensures.read
    (λ read is. of_alternative Form.statement 0 refl (sym c.if-is_name.ensures) is)
    (λ fault is. in_alternative Form.statement 0 refl (sym c.if-is_name.ensures) is)

pub statement-returns-then-begins_opening-clause-read : goal.statement-returns-then-begins_opening-clause-read
statement-returns-then-begins_opening-clause-read t c =
    match_map c.opening_statement.result c.opening_statement.ensures.read
    (λ read is. of_alternative Form.statement 1 refl (sym c.if-begins_opening.ensures) is)
    (λ fault is. in_alternative Form.statement 1 refl (sym c.if-begins_opening.ensures) is)

pub statement-returns-then-is_word-clause-read : goal.statement-returns-then-is_word-clause-read
statement-returns-then-is_word-clause-read t c =
    match_map c.return_statement.result c.return_statement.ensures.read
    (λ read is. of_alternative Form.statement 2 refl (sym c.if-is_word.ensures) is)
    (λ fault is. in_alternative Form.statement 2 refl (sym c.if-is_word.ensures) is)

pub statement-called_statement-requires : goal.statement-called_statement-requires
statement-called_statement-requires t c =
    calling_ahead c.args.tokens.now c.requires (sym c.if-is_name.ensures) (sym c.if-begins_opening.ensures) (sym c.if-is_word.ensures) (sym c.if-begins_nesting.ensures)

pub statement_block-returns-then-not-is_sign-clause-read : goal.statement_block-returns-then-not-is_sign-clause-read
statement_block-returns-then-not-is_sign-clause-read t c =
    at_no_alternative Form.block (sym c.if-not-is_sign.ensures) c.refuse.ensures

pub statement_block-returns-in-Ok-statements-clause-read : goal.statement_block-returns-in-Ok-statements-clause-read
statement_block-returns-in-Ok-statements-clause-read t c =
    of_alternative Form.block 0 refl (sym c.if-not-is_sign.ensures)
    (as_node c.span-span.result c.span-span.ensures (in_nesting c.in-Ok.ensures.opened c.in-Ok-statements.ensures))

pub statement_block-returns-in-Err-statements-clause-read : goal.statement_block-returns-in-Err-statements-clause-read
statement_block-returns-in-Err-statements-clause-read t c =
    in_alternative Form.block 0 refl (sym c.if-not-is_sign.ensures) (fault_in_nesting c.in-Ok.ensures.opened c.in-Err-statements.ensures)

pub statement_block-returns-in-Err-clause-read : goal.statement_block-returns-in-Err-clause-read
statement_block-returns-in-Err-clause-read t c =
    in_alternative Form.block 0 refl (sym c.if-not-is_sign.ensures) (c.in-Err.ensures.refused _)

pub statements-more-init : goal.statements-more-init
statements-more-init t c =
    none_yet stmt_parts c.args.room (of Form.statement) c.args.tokens.now c.new-items.result c.new-items.ensures

pub statements-more-preserved : goal.statements-more-preserved
statements-more-preserved t c =
    let a = c.in-Ok.ensures.added in
    one_more c.more.items a.0 c.added.new.items a.1 (sym c.more-test.ensures) (as_part (of_read _ _ c.statement.result c.statement.ensures.read a.2)) c.more.invariant

pub statements-returns-in-Err : goal.statements-returns-in-Err
statements-returns-in-Err t c =
    at_first (sign CloseBrace) (fault_in_one (sym c.more-test.ensures) (c.in-Err.ensures.refused _ _ _ (on_fault _ _ c.statement.result c.statement.ensures.read)) c.more.invariant)

pub statements-returns : goal.statements-returns
statements-returns t c =
    c.ended.ensures.read (repeated (of Form.statement)) stmt_list c.args.tokens.now
    (all_read (stmt_list c.more.items) (each_stmt c.more.items) (sym c.more-test.ensures) c.more.invariant)

pub if_branch-returns-in-Ok : goal.if_branch-returns-in-Ok
if_branch-returns-in-Ok t c =
    record {
      read = c.joined.ensures.read c.args.room _ _ (λ e others. word_of If (condition_parts e others)) block _ _ c.in-Ok.ensures.read
          (match_map c.statement_block.result c.statement_block.ensures.read (λ read is. as_part is) (λ fault is. is));
      shorter = c.joined.ensures.shorter _ (fewer_still c.statement_block.result c.in-Ok.ensures.shorter c.statement_block.ensures.shorter);
    }

pub conditional-returns-in-Ok-joined-clause-read : goal.conditional-returns-in-Ok-joined-clause-read
conditional-returns-in-Ok-joined-clause-read t c =
    let whole = as_node c.span-span.result c.span-span.ensures
    (c.in-Ok-joined.ensures.read c.args.room branch branches_end branch_parts other_branches_parts c.args.tokens.now c.in-Ok.behind.now c.in-Ok.ensures.read c.other_branches.ensures) in
    of_alternative Form.conditional 0 refl c.requires (read_tree whole (search (rules, the_lemmas, if_is)))

pub conditional-returns-in-Ok-joined-clause-shorter : goal.conditional-returns-in-Ok-joined-clause-shorter
conditional-returns-in-Ok-joined-clause-shorter t c =
    c.in-Ok-joined.ensures.shorter (length c.args.tokens.now) (fewer c.args.room branches_end c.in-Ok.behind.now other_branches_parts c.other_branches.result c.in-Ok.ensures.shorter c.other_branches.ensures)

pub conditional-returns-in-Err-joined-clause-read : goal.conditional-returns-in-Err-joined-clause-read
conditional-returns-in-Err-joined-clause-read t c =
    in_alternative Form.conditional 0 refl c.requires (c.in-Err-joined.ensures.read c.args.room _ _ branch_parts other_branches_parts _ _ c.in-Ok.ensures.read c.other_branches.ensures)

pub enqueue-returns-in-Ok-joined-clause-read : goal.enqueue-returns-in-Ok-joined-clause-read
enqueue-returns-in-Ok-joined-clause-read t c =
    let read = c.in-Ok-joined.read in
    as_tree _ (enqueue_outline read.0.0.0 read.0.0.1 read.0.1 read.1 c.span-span.result)
    (as_node c.span-span.result c.span-span.ensures
    (c.in-Ok-joined.ensures.read c.args.room enqueue_head (of Form.block) enqueue_head_parts block c.args.tokens.now c.in-Ok.behind.now c.in-Ok.ensures.read
    (match_map c.statement_block.result c.statement_block.ensures.read (λ read is. as_part is) (λ fault is. is))))

pub enqueue-returns-in-Ok-joined-clause-shorter : goal.enqueue-returns-in-Ok-joined-clause-shorter
enqueue-returns-in-Ok-joined-clause-shorter t c =
    c.in-Ok-joined.ensures.shorter (length c.args.tokens.now) (fewer_still c.statement_block.result c.in-Ok.ensures.shorter c.statement_block.ensures.shorter)

pub enqueue-returns-in-Err-joined-clause-read : goal.enqueue-returns-in-Err-joined-clause-read
enqueue-returns-in-Err-joined-clause-read t c =
    c.in-Err-joined.ensures.read c.args.room _ _ enqueue_head_parts block _ _ c.in-Ok.ensures.read
    (match_map c.statement_block.result c.statement_block.ensures.read (λ read is. as_part is) (λ fault is. is))

pub peek-returns-in-Ok-joined-clause-read : goal.peek-returns-in-Ok-joined-clause-read
peek-returns-in-Ok-joined-clause-read t c =
    let read = c.in-Ok-joined.read in
    as_tree _ (peek_outline read.0.0.0 read.0.0.1 read.0.1 read.1 c.span-span.result)
    (as_node c.span-span.result c.span-span.ensures
    (c.in-Ok-joined.ensures.read c.args.room peek_head (of Form.block) peek_head_parts block c.args.tokens.now c.in-Ok.behind.now c.in-Ok.ensures.read
    (match_map c.statement_block.result c.statement_block.ensures.read (λ read is. as_part is) (λ fault is. is))))

pub peek-returns-in-Ok-joined-clause-shorter : goal.peek-returns-in-Ok-joined-clause-shorter
peek-returns-in-Ok-joined-clause-shorter t c =
    c.in-Ok-joined.ensures.shorter (length c.args.tokens.now) (fewer_still c.statement_block.result c.in-Ok.ensures.shorter c.statement_block.ensures.shorter)

pub peek-returns-in-Err-joined-clause-read : goal.peek-returns-in-Err-joined-clause-read
peek-returns-in-Err-joined-clause-read t c =
    c.in-Err-joined.ensures.read c.args.room _ _ peek_head_parts block _ _ c.in-Ok.ensures.read
    (match_map c.statement_block.result c.statement_block.ensures.read (λ read is. as_part is) (λ fault is. is))

pub statements-more-smaller : goal.statements-more-smaller
statements-more-smaller t c =
    of_value _ c.statement.result c.statement.ensures.shorter c.in-Ok.ensures.added.2
