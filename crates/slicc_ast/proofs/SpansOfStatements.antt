-- The spans in lists of statements, and in those behind an `if`, are those of the items, one after another.
use Rattle.std.proofs.Common.{rules, ◌≡◌, Option, Some, None, List, [], ◌∷◌, ◌++◌, refl, sym, ap, ◌∙◌, append_assoc, append-nil}
use Rattle.slicc_ast.specs.declared.tree.statement.Stmt.TheViews.{the_lemmas}
use Rattle.std.specs.List.{flat_map}
use Rattle.slicc_ast.proofs.SpansOfLists.{added_both}
use Rattle.slicc_ast.specs.declared.tree.span.Span.{Span}
use Rattle.slicc_ast.specs.declared.tree.name.Name.{Name}
use Rattle.slicc_ast.specs.declared.tree.name.TypeName.{TypeName}
use Rattle.slicc_ast.specs.declared.tree.declaration.Pairs.{Pairs}
use Rattle.slicc_ast.specs.declared.tree.token.Sign.TheVariants.{Semicolon}
use Rattle.slicc_ast.specs.declared.tree.statement.Stmt.{Stmt, Return, Peek, Enqueue, Row_of-Stmt, end_of-Stmt, more_of-Stmt, items-the_row-Stmt}
use Rattle.slicc_ast.specs.declared.tree.statement.If.{If, If', None', Some', Row_of-ElseIf, end_of-ElseIf, more_of-ElseIf, items-the_row-ElseIf, out-If}
use Rattle.slicc_ast.specs.declared.tree.expression.Expr.{Expr}
use Rattle.slicc_ast.specs.declared.tree.statement.Block.{Block}
use Rattle.slicc_ast.specs.Prelude.{else_if_spans, Parts, none, spans_of, spans_in, expr, pair_list, stmt, stmt_row, stmt_list, block_end, block_outline, if_outline, else_if_row, latency_parts, optional_expr}
use Rattle.slicc_ast.specs.Names.{sign}

pub stmt_list_spans : (ss : List Stmt) → spans_in (stmt_list ss block_end) ≡ flat_map (λ s. spans_of (stmt s)) ss
stmt_list_spans [] = refl
stmt_list_spans (first ∷ others) = ap (λ spans. spans_of (stmt first) ++ spans) (stmt_list_spans others)

pub stmt_row_spans : (n : _) (row : Row_of-Stmt n) → spans_in (stmt_row row block_end) ≡ spans_in (stmt_list (items-the_row-Stmt n row) block_end)
stmt_row_spans n end_of-Stmt = refl
stmt_row_spans n (more_of-Stmt first row) = ap (λ spans. spans_of (stmt first) ++ spans) (stmt_row_spans _ row)

regrouped : {X : Type 0} (c b f p : List X) → c ++ (b ++ (f ++ p)) ≡ ((c ++ b) ++ f) ++ p
regrouped c b f p = sym (append_assoc c b (f ++ p)) ∙ sym (append_assoc (c ++ b) f p)

pub others_spans : (n : _) (row : Row_of-ElseIf n) (parts : Parts) → spans_in (else_if_row row parts) ≡ flat_map else_if_spans (items-the_row-ElseIf n row) ++ spans_in parts
others_spans n end_of-ElseIf parts = refl
others_spans n (more_of-ElseIf condition shape inner block more) parts =
    let later = others_spans _ more parts in
    let held = stmt_row_spans _ inner in
    search (rules, the_lemmas, later, held, stmt_row_spans, append_assoc)

abbrev pub optional_spans : Option Block → List Span
optional_spans None = []
optional_spans (Some b) = spans_of (block_outline b)

pub if_spans : (i : If) → spans_of (if_outline i) ≡ (out-If i).span ∷ (spans_of (expr (out-If i).condition) ++ (spans_of (block_outline (out-If i).then) ++ (flat_map else_if_spans (out-If i).others ++ optional_spans (out-If i).otherwise)))
if_spans (If' condition shape row block n others None' span) = search (rules, the_lemmas, stmt_row_spans, others_spans, append-nil)
if_spans (If' condition shape row block n others (Some' s r b) span) = search (rules, the_lemmas, stmt_row_spans, others_spans, append-nil)

pub added_four : {X : Type 0} (old : List X) (a : X) (c b f s one two three four new all : List X) → one ≡ old ++ a ∷ [] → two ≡ one ++ c → three ≡ two ++ b → four ≡ three ++ f → new ≡ four ++ s → all ≡ a ∷ (c ++ (b ++ (f ++ s))) → new ≡ old ++ all
added_four old a c b f s one two three four new all p q r u n i =
    added_both old ((((a ∷ []) ++ c) ++ b) ++ f) s four new
    (added_both old (((a ∷ []) ++ c) ++ b) f three four (added_both old ((a ∷ []) ++ c) b two three (added_both old (a ∷ []) c one two p q) r) u) n
    ∙ ap (λ xs. old ++ xs) (sym (regrouped (a ∷ c) b f s) ∙ sym i)

pub if_some : (i : If) (b : Block) → (out-If i).otherwise ≡ Some b → spans_of (if_outline i) ≡ (out-If i).span ∷ (spans_of (expr (out-If i).condition) ++ (spans_of (block_outline (out-If i).then) ++ (flat_map else_if_spans (out-If i).others ++ spans_of (block_outline b))))
if_some i b is = if_spans i ∙ ap (λ o. (out-If i).span ∷ (spans_of (expr (out-If i).condition) ++ (spans_of (block_outline (out-If i).then) ++ (flat_map else_if_spans (out-If i).others ++ optional_spans o)))) is

pub if_none : (i : If) → (out-If i).otherwise ≡ None → spans_of (if_outline i) ≡ (out-If i).span ∷ (spans_of (expr (out-If i).condition) ++ (spans_of (block_outline (out-If i).then) ++ (flat_map else_if_spans (out-If i).others ++ [])))
if_none i is = if_spans i ∙ ap (λ o. (out-If i).span ∷ (spans_of (expr (out-If i).condition) ++ (spans_of (block_outline (out-If i).then) ++ (flat_map else_if_spans (out-If i).others ++ optional_spans o)))) is

optional_spans_behind : (value : Option Expr) (parts : Parts) → spans_in (optional_expr value parts) ≡ spans_in (optional_expr value none) ++ spans_in parts
optional_spans_behind None parts = refl
optional_spans_behind (Some e) parts = ap (λ xs. xs ++ spans_in parts) (sym (append-nil (spans_of (expr e))))

latency_spans : (latency : Option Expr) (parts : Parts) → spans_in (latency_parts latency parts) ≡ spans_in (optional_expr latency none) ++ spans_in parts
latency_spans None parts = refl
latency_spans (Some e) parts = ap (λ xs. xs ++ spans_in parts) (sym (append-nil (spans_of (expr e))))

pub spans_of_Return : (value : Option Expr) (span : Span) → spans_of (stmt (Return value span)) ≡ (span ∷ []) ++ spans_in (optional_expr value none)
spans_of_Return value span = ap (λ xs. span ∷ xs) (optional_spans_behind value (sign Semicolon none) ∙ append-nil (spans_in (optional_expr value none)))

pub spans_of_Peek : (port : Name) (message : TypeName) (attributes : Pairs) (body : Block) (span : Span) → spans_of (stmt (Peek port message attributes body span)) ≡ ((span ∷ port.span ∷ message.span ∷ []) ++ attributes.span ∷ spans_in (pair_list attributes.items)) ++ spans_of (block_outline body)
spans_of_Peek port message attributes body span = search (rules, the_lemmas, stmt_row_spans, append-nil)

pub spans_of_Enqueue : (port : Name) (message : TypeName) (latency : Option Expr) (body : Block) (span : Span) → spans_of (stmt (Enqueue port message latency body span)) ≡ ((span ∷ port.span ∷ message.span ∷ []) ++ spans_in (optional_expr latency none)) ++ spans_of (block_outline body)
spans_of_Enqueue port message latency body span = search (rules, the_lemmas, stmt_row_spans, append-nil, latency_spans)
