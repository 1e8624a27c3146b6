-- Lists of statements, and those behind an `if`, are alike where their items are.
use Rattle.std.proofs.Common.{rules, ◌==◌, ◌≡◌, ◌&&◌, Bool, true, false, Option, Some, None, List, [], ◌∷◌, refl, ap, ◌∙◌}
use Rattle.slicc_ast.specs.declared.tree.statement.Block.{Block}
use Rattle.slicc_ast.specs.declared.tree.statement.ElseIf.{ElseIf}
use Rattle.slicc_ast.specs.declared.tree.statement.If.{If, If', None', Some', Row_of-ElseIf, end_of-ElseIf, more_of-ElseIf, items-the_row-ElseIf, out-If}
use Rattle.slicc_ast.specs.declared.tree.statement.PrintWord.{PrintWord}
use Rattle.slicc_ast.specs.declared.tree.statement.PrintWord.TheVariants.{Dprintf}
use Rattle.slicc_ast.specs.declared.tree.statement.Stmt.{Stmt, Row_of-Stmt, end_of-Stmt, more_of-Stmt, items-the_row-Stmt}
use Rattle.slicc_ast.specs.declared.tree.statement.Stmt.TheViews.{the_lemmas}
use Rattle.slicc_ast.specs.declared.tree.token.Sign.TheVariants.{OpenParenthesis, CloseParenthesis}
use Rattle.slicc_ast.specs.declared.tree.token.Word.TheVariants.{Else, If as IfWord}
use Rattle.slicc_ast.specs.Prelude.{expr, Outline, node, Parts, none, part, block_end, block_part, else_if_row, if_outline, print_word, stmt, stmt_list, stmt_row}
use Rattle.slicc_ast.specs.Names.{sign, word}
use Rattle.slicc_same.specs.Prelude.{all_alike, same_parts, same_shape, word_number, alike_else, alike_else_if, alike_stmt}

pub statements_alike : (xs ys : List Stmt) → same_parts (stmt_list xs block_end) (stmt_list ys block_end) ≡ all_alike alike_stmt xs ys
statements_alike [] [] = refl
statements_alike [] (y ∷ ys) = refl
statements_alike (x ∷ xs) [] = refl
statements_alike (x ∷ xs) (y ∷ ys) = ap (λ b. alike_stmt x y && b) (statements_alike xs ys)

pub statements_of_row : (n : _) (row : Row_of-Stmt n) → stmt_row row block_end ≡ stmt_list (items-the_row-Stmt n row) block_end
statements_of_row n end_of-Stmt = refl
statements_of_row n (more_of-Stmt first row) = ap (λ parts. part (stmt first) parts) (statements_of_row _ row)

-- what is behind the first block of an `if`
abbrev pub else_parts : Option Block → Parts
else_parts None = none
else_parts (Some b) = word Else (block_part b.span (stmt_list b.statements block_end) none)

abbrev pub else_if_list : List ElseIf → Parts → Parts
else_if_list [] parts = parts
else_if_list (first ∷ others) parts =
    word Else (word IfWord (sign OpenParenthesis (part (expr first.condition) (sign CloseParenthesis
    (block_part first.then.span (stmt_list first.then.statements block_end) (else_if_list others parts))))))

step : (a b r t s : Bool) → r ≡ t && s → a && (b && r) ≡ ((a && b) && t) && s
step true true r t s is = is
step true false r t s is = refl
step false b r t s is = refl

alone : (a : Bool) → a && true ≡ a
alone true = refl
alone false = refl

pub else_ifs_alike : (xs ys : List ElseIf) (o p : Option Block) → same_parts (else_if_list xs (else_parts o)) (else_if_list ys (else_parts p)) ≡ all_alike alike_else_if xs ys && alike_else o p
else_ifs_alike [] [] None None = refl
else_ifs_alike [] [] None (Some b) = refl
else_ifs_alike [] [] (Some a) None = refl
else_ifs_alike [] [] (Some a) (Some b) = alone (alike_else (Some a) (Some b))
else_ifs_alike [] (y ∷ ys) None p = refl
else_ifs_alike [] (y ∷ ys) (Some a) p = refl
else_ifs_alike (x ∷ xs) [] o None = refl
else_ifs_alike (x ∷ xs) [] o (Some b) = refl
else_ifs_alike (x ∷ xs) (y ∷ ys) o p =
    step (same_shape (expr x.condition) (expr y.condition)) (same_parts (stmt_list x.then.statements block_end) (stmt_list y.then.statements block_end))
    _ (all_alike alike_else_if xs ys) (alike_else o p) (else_ifs_alike xs ys o p)

else_ifs_of_row : (n : _) (row : Row_of-ElseIf n) (parts : Parts) → else_if_row row parts ≡ else_if_list (items-the_row-ElseIf n row) parts
else_ifs_of_row n end_of-ElseIf parts = refl
else_ifs_of_row n (more_of-ElseIf condition shape inner block more) parts =
    let later = else_ifs_of_row _ more parts in
    search (rules, the_lemmas, later, statements_of_row)

abbrev if_node : If → Outline
if_node i =
    node (out-If i).span (word IfWord (sign OpenParenthesis (part (expr (out-If i).condition) (sign CloseParenthesis
    (block_part (out-If i).then.span (stmt_list (out-If i).then.statements block_end)
    (else_if_list (out-If i).others (else_parts (out-If i).otherwise)))))))

pub if_is : (i : If) → if_outline i ≡ if_node i
if_is (If' condition shape row block n others None' span) = search (rules, the_lemmas, statements_of_row, else_ifs_of_row)
if_is (If' condition shape row block n others (Some' s r b) span) = search (rules, the_lemmas, statements_of_row, else_ifs_of_row)

pub if_alike : (i j : If) → same_shape (if_outline i) (if_outline j)
    ≡ same_shape (expr (out-If i).condition) (expr (out-If j).condition)
    && (same_parts (stmt_list (out-If i).then.statements block_end) (stmt_list (out-If j).then.statements block_end)
    && (all_alike alike_else_if (out-If i).others (out-If j).others && alike_else (out-If i).otherwise (out-If j).otherwise))
if_alike i j =
    ap (λ o. same_shape o (if_outline j)) (if_is i) ∙ ap (λ o. same_shape (if_node i) o) (if_is j)
    ∙ ap (λ b. same_shape (expr (out-If i).condition) (expr (out-If j).condition) && (same_parts (stmt_list (out-If i).then.statements block_end) (stmt_list (out-If j).then.statements block_end) && b))
    (else_ifs_alike (out-If i).others (out-If j).others (out-If i).otherwise (out-If j).otherwise)

-- no other statement begins with a word of one that prints
pub return_print : (w : PrintWord) → (16 == word_number (print_word w)) ≡ false
return_print Dprintf = refl
return_print w = refl

pub print_return : (w : PrintWord) → (word_number (print_word w) == 16) ≡ false
print_return Dprintf = refl
print_return w = refl

pub if_print : (w : PrintWord) → (14 == word_number (print_word w)) ≡ false
if_print Dprintf = refl
if_print w = refl

pub print_if : (w : PrintWord) → (word_number (print_word w) == 14) ≡ false
print_if Dprintf = refl
print_if w = refl

pub peek_print : (w : PrintWord) → (10 == word_number (print_word w)) ≡ false
peek_print Dprintf = refl
peek_print w = refl

pub print_peek : (w : PrintWord) → (word_number (print_word w) == 10) ≡ false
print_peek Dprintf = refl
print_peek w = refl

pub enqueue_print : (w : PrintWord) → (11 == word_number (print_word w)) ≡ false
enqueue_print Dprintf = refl
enqueue_print w = refl

pub print_enqueue : (w : PrintWord) → (word_number (print_word w) == 11) ≡ false
print_enqueue Dprintf = refl
print_enqueue w = refl

pub stall_print : (w : PrintWord) → (12 == word_number (print_word w)) ≡ false
stall_print Dprintf = refl
stall_print w = refl

pub print_stall : (w : PrintWord) → (word_number (print_word w) == 12) ≡ false
print_stall Dprintf = refl
print_stall w = refl

pub check_print : (w : PrintWord) → (13 == word_number (print_word w)) ≡ false
check_print Dprintf = refl
check_print w = refl

pub print_check : (w : PrintWord) → (word_number (print_word w) == 13) ≡ false
print_check Dprintf = refl
print_check w = refl

pub error_print : (w : PrintWord) → (24 == word_number (print_word w)) ≡ false
error_print Dprintf = refl
error_print w = refl

pub print_error : (w : PrintWord) → (word_number (print_word w) == 24) ≡ false
print_error Dprintf = refl
print_error w = refl

pub assert_print : (w : PrintWord) → (25 == word_number (print_word w)) ≡ false
assert_print Dprintf = refl
assert_print w = refl

pub print_assert : (w : PrintWord) → (word_number (print_word w) == 25) ≡ false
print_assert Dprintf = refl
print_assert w = refl
