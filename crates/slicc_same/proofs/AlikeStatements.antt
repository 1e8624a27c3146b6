-- Whether two statements of one form are alike.
use Rattle.std.proofs.Common.{rules, ◌≡◌, ◌==◌, ◌&&◌, ◌∙◌, ℕ, Bool, Option, None, Some, List}
use Rattle.std.specs.Str.{bytes_eq}
use Rattle.slicc_ast.specs.declared.tree.span.Span.{Span}
use Rattle.slicc_ast.specs.declared.tree.name.Name.{Name}
use Rattle.slicc_ast.specs.declared.tree.name.TypeName.{TypeName}
use Rattle.slicc_ast.specs.declared.tree.balanced.Balanced.{Balanced}
use Rattle.slicc_ast.specs.declared.tree.declaration.Pairs.{Pairs}
use Rattle.slicc_ast.specs.declared.tree.expression.Expr.{Expr}
use Rattle.slicc_ast.specs.declared.tree.statement.Block.{Block}
use Rattle.slicc_ast.specs.declared.tree.statement.PrintWord.{PrintWord}
use Rattle.slicc_ast.specs.declared.tree.statement.Stmt as made
use Rattle.slicc_ast.specs.declared.tree.statement.Stmt.TheViews.{the_lemmas}
use Rattle.slicc_ast.specs.Prelude.{pair_list, expr, balanced_list, none, block_end, optional_expr, print_word, stmt, stmt_list}
use Rattle.slicc_same.specs.Prelude.{same_parts, same_shape, word_number}
use Rattle.slicc_same.proofs.Bools.{and_grouped, and_true}
use Rattle.slicc_same.proofs.StatementLists.{statements_of_row}

four : (a b c d : Bool) → a && (b && (c && d)) ≡ ((a && b) && c) && d
four a b c d = and_grouped a b (c && d) ∙ and_grouped (a && b) c d

pub alike_Declare : (k l : TypeName) (n m : Name) (x y : Expr) (s t : Span) → same_shape (stmt (made.Declare k n x s)) (stmt (made.Declare l m y t)) ≡ (bytes_eq k.text l.text && bytes_eq n.text m.text) && same_shape (expr x) (expr y)
alike_Declare k l n m x y s t =
    let same : same_shape (stmt (made.Declare k n x s)) (stmt (made.Declare l m y t)) ≡ bytes_eq k.text l.text && (bytes_eq n.text m.text && same_shape (expr x) (expr y)) = search (rules, and_true) in
    same ∙ and_grouped (bytes_eq k.text l.text) (bytes_eq n.text m.text) (same_shape (expr x) (expr y))

pub alike_Assign : (p q x y : Expr) (s t : Span) → same_shape (stmt (made.Assign p x s)) (stmt (made.Assign q y t)) ≡ same_shape (expr p) (expr q) && same_shape (expr x) (expr y)
alike_Assign p q x y s t = search (rules, and_true)

pub alike_Evaluate : (x y : Expr) (s t : Span) → same_shape (stmt (made.Evaluate x s)) (stmt (made.Evaluate y t)) ≡ same_shape (expr x) (expr y)
alike_Evaluate x y s t = search (rules, and_true)

pub alike_Assert : (x y : Expr) (s t : Span) → same_shape (stmt (made.Assert x s)) (stmt (made.Assert y t)) ≡ same_shape (expr x) (expr y)
alike_Assert x y s t = search (rules, and_true)

pub alike_Return : (x y : Option Expr) (s t : Span) → same_shape (stmt (made.Return x s)) (stmt (made.Return y t)) ≡ same_parts (optional_expr x none) (optional_expr y none)
alike_Return None None s t = search rules
alike_Return None (Some y) s t = search rules
alike_Return (Some x) None s t = search rules
alike_Return (Some x) (Some y) s t = search rules

pub alike_Peek : (p q : Name) (k l : TypeName) (ps qs : Pairs) (a b : Block) (s t : Span) → same_shape (stmt (made.Peek p k ps a s)) (stmt (made.Peek q l qs b t)) ≡ ((bytes_eq p.text q.text && bytes_eq k.text l.text) && same_parts (pair_list ps.items) (pair_list qs.items)) && same_parts (stmt_list a.statements block_end) (stmt_list b.statements block_end)
alike_Peek p q k l ps qs a b s t =
    let same : same_shape (stmt (made.Peek p k ps a s)) (stmt (made.Peek q l qs b t)) ≡ bytes_eq p.text q.text && (bytes_eq k.text l.text && (same_parts (pair_list ps.items) (pair_list qs.items) && same_parts (stmt_list a.statements block_end) (stmt_list b.statements block_end))) =
    search (rules, the_lemmas, statements_of_row, and_true) in
    same ∙ four (bytes_eq p.text q.text) (bytes_eq k.text l.text) (same_parts (pair_list ps.items) (pair_list qs.items)) (same_parts (stmt_list a.statements block_end) (stmt_list b.statements block_end))

enqueue_parts : (p q : Name) (k l : TypeName) (x y : Option Expr) (a b : Block) (s t : Span) → same_shape (stmt (made.Enqueue p k x a s)) (stmt (made.Enqueue q l y b t)) ≡ bytes_eq p.text q.text && (bytes_eq k.text l.text && (same_parts (optional_expr x none) (optional_expr y none) && same_parts (stmt_list a.statements block_end) (stmt_list b.statements block_end)))
enqueue_parts p q k l None None a b s t = search (rules, the_lemmas, statements_of_row, and_true)
enqueue_parts p q k l None (Some y) a b s t = search (rules, the_lemmas, statements_of_row, and_true)
enqueue_parts p q k l (Some x) None a b s t = search (rules, the_lemmas, statements_of_row, and_true)
enqueue_parts p q k l (Some x) (Some y) a b s t = search (rules, the_lemmas, statements_of_row, and_true)

pub alike_Enqueue : (p q : Name) (k l : TypeName) (x y : Option Expr) (a b : Block) (s t : Span) → same_shape (stmt (made.Enqueue p k x a s)) (stmt (made.Enqueue q l y b t)) ≡ ((bytes_eq p.text q.text && bytes_eq k.text l.text) && same_parts (optional_expr x none) (optional_expr y none)) && same_parts (stmt_list a.statements block_end) (stmt_list b.statements block_end)
alike_Enqueue p q k l x y a b s t =
    enqueue_parts p q k l x y a b s t ∙ four (bytes_eq p.text q.text) (bytes_eq k.text l.text) (same_parts (optional_expr x none) (optional_expr y none)) (same_parts (stmt_list a.statements block_end) (stmt_list b.statements block_end))

pub alike_StallAndWait : (p q : Name) (x y : Expr) (s t : Span) → same_shape (stmt (made.StallAndWait p x s)) (stmt (made.StallAndWait q y t)) ≡ bytes_eq p.text q.text && same_shape (expr x) (expr y)
alike_StallAndWait p q x y s t = search (rules, and_true)

pub alike_CheckAllocate : (n m : Name) (s t : Span) → same_shape (stmt (made.CheckAllocate n s)) (stmt (made.CheckAllocate m t)) ≡ bytes_eq n.text m.text
alike_CheckAllocate n m s t = search (rules, and_true)

pub alike_Error : (x y : List ℕ) (s t : Span) → same_shape (stmt (made.Error x s)) (stmt (made.Error y t)) ≡ bytes_eq x y
alike_Error x y s t = search (rules, and_true)

pub alike_Print : (v w : PrintWord) (a b : Balanced) (s t : Span) → same_shape (stmt (made.Print v a s)) (stmt (made.Print w b t)) ≡ (word_number (print_word v) == word_number (print_word w)) && same_parts (balanced_list a.parts) (balanced_list b.parts)
alike_Print v w a b s t = search (rules, and_true)
