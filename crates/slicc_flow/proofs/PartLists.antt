-- The parts in the rows of a tree are those of the items, one after another.
use Rattle.std.proofs.Common.{rules, arith, ◌≡◌, ℕ, zero, suc, ◌+◌, ◌<◌, get_or, add-one, Option, Some, None, List, [], ◌∷◌, ◌++◌, length, take, refl, sym, ap, ◌∙◌, append_assoc, append-nil}
use Rattle.std.proofs.Math.Seq.{take-suc}
use Rattle.std.proofs.lemmas.Grind.{flat_map-append}
use Rattle.std.specs.List.{flat_map}
use Rattle.slicc_ast.specs.declared.tree.expression.Suffix.{Suffix}
use Rattle.slicc_ast.specs.declared.tree.declaration.Pairs.{Pairs}
use Rattle.slicc_ast.specs.declared.tree.name.Name.{Name}
use Rattle.slicc_ast.specs.declared.tree.name.TypeName.{TypeName}
use Rattle.slicc_ast.specs.declared.tree.span.Span.{Span}
use Rattle.slicc_ast.specs.declared.tree.expression.Expr.{Expr, Row_of-Expr, end_of-Expr, more_of-Expr, items-the_row-Expr, Row_of-Operand, end_of-Operand, more_of-Operand, items-the_row-Operand, Row_of-Suffix, end_of-Suffix, more_of-Suffix, items-the_row-Suffix}
use Rattle.slicc_ast.specs.declared.tree.statement.Block.{Block}
use Rattle.slicc_ast.specs.declared.tree.statement.ElseIf.{ElseIf}
use Rattle.slicc_ast.specs.declared.tree.statement.Stmt.{Stmt, Row_of-Stmt, end_of-Stmt, more_of-Stmt, items-the_row-Stmt}
use Rattle.slicc_ast.specs.declared.tree.statement.Stmt.TheBlock as block
use Rattle.slicc_ast.specs.declared.tree.statement.Stmt.TheViews as views
use Rattle.slicc_ast.specs.declared.tree.statement.Stmt.TheViews.{the_lemmas}
use Rattle.slicc_ast.specs.declared.tree.statement.If.{If, If', None', Some', Row_of-ElseIf, end_of-ElseIf, more_of-ElseIf, items-the_row-ElseIf, out-If}
use Rattle.slicc_plan.specs.declared.part.Part.{Part}
use Rattle.slicc_plan.specs.declared.part.Part.TheVariants.{Plain}
use Rattle.slicc_plan.specs.Prelude.{Names, arguments_parts, block_parts, expr_parts, if_parts, operands_parts, optional_parts, others_parts, row_parts, stmt_parts, suffix_parts, suffixes_parts}
use Rattle.slicc_flow.specs.Prelude.{else_if_parts, operand_parts, receiver_at, suffix_list_parts}

pub argument_rows : (names : Names) (n : _) (row : Row_of-Expr n) → arguments_parts names row ≡ flat_map (expr_parts names) (items-the_row-Expr n row)
argument_rows names n end_of-Expr = refl
argument_rows names n (more_of-Expr first row) = ap (λ parts. expr_parts names first ++ parts) (argument_rows names _ row)

pub operand_rows : (names : Names) (n : _) (row : Row_of-Operand n) → operands_parts names row ≡ flat_map (operand_parts names) (items-the_row-Operand n row)
operand_rows names n end_of-Operand = refl
operand_rows names n (more_of-Operand operator value row) = ap (λ parts. (Plain ∷ expr_parts names value) ++ parts) (operand_rows names _ row)

later_rows : (names : Names) (place : Span) (n : _) (row : Row_of-Suffix n) → suffixes_parts names None place row ≡ flat_map (suffix_parts names None place) (items-the_row-Suffix n row)
later_rows names place n end_of-Suffix = refl
later_rows names place n (more_of-Suffix first row) = ap (λ parts. suffix_parts names None place first ++ parts) (later_rows names place _ row)

pub suffix_rows : (names : Names) (receiver : Option (List ℕ)) (place : Span) (n : _) (row : Row_of-Suffix n) → suffixes_parts names receiver place row ≡ suffix_list_parts names receiver place (items-the_row-Suffix n row)
suffix_rows names receiver place n end_of-Suffix = refl
suffix_rows names receiver place n (more_of-Suffix first row) = ap (λ parts. suffix_parts names receiver place first ++ parts) (later_rows names place _ row)

pub stmt_rows : (names : Names) (n : _) (row : Row_of-Stmt n) → row_parts names row ≡ flat_map (stmt_parts names) (items-the_row-Stmt n row)
stmt_rows names n end_of-Stmt = refl
stmt_rows names n (more_of-Stmt first row) = ap (λ parts. stmt_parts names first ++ parts) (stmt_rows names _ row)

pub statements_held : (statements : List Stmt) → items-the_row-Stmt _ (block.hidden-the_row-Stmt-0 statements) ≡ statements
statements_held statements = search (rules, the_lemmas)

held_parts : (names : Names) (statements : List Stmt) → row_parts names (block.hidden-the_row-Stmt-0 statements) ≡ flat_map (stmt_parts names) statements
held_parts names statements =
    stmt_rows names _ (block.hidden-the_row-Stmt-0 statements) ∙ ap (flat_map (stmt_parts names)) (statements_held statements)

pub stmt_parts_of_Peek : (names : Names) (port : Name) (message : TypeName) (pairs : Pairs) (body : Block) (span : Span) → stmt_parts names (views.Peek port message pairs body span) ≡ Plain ∷ block_parts names body
stmt_parts_of_Peek names port message pairs body span = ap (λ (parts : List Part). Plain ∷ parts) (held_parts names body.statements)

pub stmt_parts_of_Enqueue : (names : Names) (port : Name) (message : TypeName) (latency : Option Expr) (body : Block) (span : Span) → stmt_parts names (views.Enqueue port message latency body span) ≡ Plain ∷ (optional_parts names latency ++ block_parts names body)
stmt_parts_of_Enqueue names port message latency body span =
    ap (λ (parts : List Part). Plain ∷ (optional_parts names latency ++ parts)) (held_parts names body.statements)

pub others_rows : (names : Names) (n : _) (row : Row_of-ElseIf n) → others_parts names row ≡ flat_map (else_if_parts names) (items-the_row-ElseIf n row)
others_rows names n end_of-ElseIf = refl
others_rows names n (more_of-ElseIf condition shape inner block more) =
    let later = others_rows names _ more in
    let held = stmt_rows names _ inner in
    search (rules, the_lemmas, later, held, stmt_rows)

abbrev pub optional_block_parts : Names → Option Block → List Part
optional_block_parts names None = []
optional_block_parts names (Some b) = block_parts names b

pub if_rows : (names : Names) (i : If) → if_parts names i ≡ expr_parts names (out-If i).condition ++ (block_parts names (out-If i).then ++ (flat_map (else_if_parts names) (out-If i).others ++ optional_block_parts names (out-If i).otherwise))
if_rows names (If' condition shape row block n others None' span) = search (rules, the_lemmas, stmt_rows, others_rows, append-nil)
if_rows names (If' condition shape row block n others (Some' s r b) span) = search (rules, the_lemmas, stmt_rows, others_rows, append-nil)

pub if_some : (names : Names) (i : If) (b : Block) → (out-If i).otherwise ≡ Some b → if_parts names i ≡ expr_parts names (out-If i).condition ++ (block_parts names (out-If i).then ++ (flat_map (else_if_parts names) (out-If i).others ++ block_parts names b))
if_some names i b is = if_rows names i ∙ ap (λ o. expr_parts names (out-If i).condition ++ (block_parts names (out-If i).then ++ (flat_map (else_if_parts names) (out-If i).others ++ optional_block_parts names o))) is

pub if_none : (names : Names) (i : If) → (out-If i).otherwise ≡ None → if_parts names i ≡ expr_parts names (out-If i).condition ++ (block_parts names (out-If i).then ++ (flat_map (else_if_parts names) (out-If i).others ++ []))
if_none names i is = if_rows names i ∙ ap (λ o. expr_parts names (out-If i).condition ++ (block_parts names (out-If i).then ++ (flat_map (else_if_parts names) (out-If i).others ++ optional_block_parts names o))) is

-- parts that were added one after another
pub added_both : {X : Type 0} (old a b one two : List X) → one ≡ old ++ a → two ≡ one ++ b → two ≡ old ++ (a ++ b)
added_both old a b one two p q = q ∙ ap (λ xs. xs ++ b) p ∙ append_assoc old a b

pub added_three : {X : Type 0} (old a b c one two new all : List X) → one ≡ old ++ a → two ≡ one ++ b → new ≡ two ++ c → all ≡ a ++ (b ++ c) → new ≡ old ++ all
added_three old a b c one two new all p q r i =
    added_both old (a ++ b) c two new (added_both old a b one two p q) r ∙ ap (λ xs. old ++ xs) (append_assoc a b c ∙ sym i)

regrouped : {X : Type 0} (a b c d : List X) → ((a ++ b) ++ c) ++ d ≡ a ++ (b ++ (c ++ d))
regrouped a b c d = append_assoc (a ++ b) c d ∙ append_assoc a b (c ++ d)

pub added_four : {X : Type 0} (old a b c d one two three new all : List X) → one ≡ old ++ a → two ≡ one ++ b → three ≡ two ++ c → new ≡ three ++ d → all ≡ a ++ (b ++ (c ++ d)) → new ≡ old ++ all
added_four old a b c d one two three new all p q r s i =
    added_both old ((a ++ b) ++ c) d three new (added_both old (a ++ b) c two three (added_both old a b one two p q) r) s
    ∙ ap (λ xs. old ++ xs) (regrouped a b c d ∙ sym i)

-- the parts of an `if`, added one after another
pub added_if_some : (names : Names) (i : If) (b : Block) (others : List ElseIf) (old one two three new : List Part) → (out-If i).otherwise ≡ Some b → others ≡ (out-If i).others → one ≡ old ++ expr_parts names (out-If i).condition → two ≡ one ++ block_parts names (out-If i).then → three ≡ two ++ flat_map (else_if_parts names) others → new ≡ three ++ block_parts names b → new ≡ old ++ if_parts names i
added_if_some names i b others old one two three new is same p q r s =
    added_four old (expr_parts names (out-If i).condition) (block_parts names (out-If i).then) (flat_map (else_if_parts names) (out-If i).others) (block_parts names b) one two three new (if_parts names i)
    p q (r ∙ ap (λ xs. two ++ flat_map (else_if_parts names) xs) same) s (if_some names i b is)

pub added_if_none : (names : Names) (i : If) (others : List ElseIf) (old one two three : List Part) → (out-If i).otherwise ≡ None → others ≡ (out-If i).others → one ≡ old ++ expr_parts names (out-If i).condition → two ≡ one ++ block_parts names (out-If i).then → three ≡ two ++ flat_map (else_if_parts names) others → three ≡ old ++ if_parts names i
added_if_none names i others old one two three is same p q r =
    added_four old (expr_parts names (out-If i).condition) (block_parts names (out-If i).then) (flat_map (else_if_parts names) (out-If i).others) [] one two three three (if_parts names i)
    p q (r ∙ ap (λ xs. two ++ flat_map (else_if_parts names) xs) same) (sym (append-nil three)) (if_none names i is)

-- the parts of a statement with a block, added one after another
pub added_peek : (names : Names) (s : Stmt) (port : Name) (message : TypeName) (pairs : Pairs) (body : Block) (span : Span) (old one new : List Part) → s ≡ views.Peek port message pairs body span → one ≡ old ++ Plain ∷ [] → new ≡ one ++ block_parts names body → new ≡ old ++ stmt_parts names s
added_peek names s port message pairs body span old one new is p q =
    added_both old (Plain ∷ []) (block_parts names body) one new p q
    ∙ ap (λ xs. old ++ xs) (sym (ap (stmt_parts names) is ∙ stmt_parts_of_Peek names port message pairs body span))

pub added_enqueue : (names : Names) (s : Stmt) (port : Name) (message : TypeName) (latency : Option Expr) (body : Block) (span : Span) (old one two new : List Part) → s ≡ views.Enqueue port message latency body span → one ≡ old ++ Plain ∷ [] → two ≡ one ++ optional_parts names latency → new ≡ two ++ block_parts names body → new ≡ old ++ stmt_parts names s
added_enqueue names s port message latency body span old one two new is p q r =
    added_three old (Plain ∷ []) (optional_parts names latency) (block_parts names body) one two new (stmt_parts names s) p q r
    (ap (stmt_parts names) is ∙ stmt_parts_of_Enqueue names port message latency body span)

-- one more suffix
later_step : (names : Names) (place : Span) (xs : List Suffix) (j : ℕ) (d : Suffix) → j < length xs → flat_map (suffix_parts names None place) (take (suc j) xs) ≡ flat_map (suffix_parts names None place) (take j xs) ++ suffix_parts names None place (get_or xs j d)
later_step names place xs j d h =
    let taken : take (suc j) xs ≡ take j xs ++ get_or xs j d ∷ [] = take-suc xs j d h in
    rw (taken, flat_map-append (suffix_parts names None place) (take j xs) (get_or xs j d ∷ []), append-nil (suffix_parts names None place (get_or xs j d))) refl

pub suffix_step : (names : Names) (r : Option (List ℕ)) (place : Span) (xs : List Suffix) (i : ℕ) (d : Suffix) → i < length xs → suffix_list_parts names r place (take (suc i) xs) ≡ suffix_list_parts names r place (take i xs) ++ suffix_parts names (receiver_at r i) place (get_or xs i d)
suffix_step names r place [] i d h = grind arith
suffix_step names r place (x ∷ xs) zero d h = append-nil (suffix_parts names r place x)
suffix_step names r place (x ∷ xs) (suc j) d h =
    let below : j < length xs = omega arith in
    ap (λ parts. suffix_parts names r place x ++ parts) (later_step names place xs j d below)
    ∙ sym (append_assoc (suffix_parts names r place x) (flat_map (suffix_parts names None place) (take j xs)) (suffix_parts names None place (get_or xs j d)))

-- what was added for one more suffix
pub added_suffix : (names : Names) (r behind : Option (List ℕ)) (place : Span) (xs : List Suffix) (i : ℕ) (d : Suffix) (old before after : List Part) → i < length xs → before ≡ old ++ suffix_list_parts names r place (take i xs) → behind ≡ receiver_at r i → after ≡ before ++ suffix_parts names behind place (get_or xs i d) → after ≡ old ++ suffix_list_parts names r place (take (i + 1) xs)
added_suffix names r behind place xs i d old before after h p is q =
    let step : suffix_list_parts names r place (take (i + 1) xs) ≡ suffix_list_parts names r place (take i xs) ++ suffix_parts names (receiver_at r i) place (get_or xs i d) = rw (add-one) (suffix_step names r place xs i d h) in
    added_both old (suffix_list_parts names r place (take i xs)) (suffix_parts names behind place (get_or xs i d)) before after p q
    ∙ ap (λ xs. old ++ xs) (ap (λ b. suffix_list_parts names r place (take i xs) ++ suffix_parts names b place (get_or xs i d)) is ∙ sym step)
