-- The spans in a list of a tree's parts are those of its items, one after another.
use Rattle.std.proofs.Common.{◌≡◌, List, [], ◌∷◌, ◌++◌, ℕ, ◌≤◌, length, take, refl, sym, subst, ap, ◌∙◌, append_assoc, append-nil}
use Rattle.std.proofs.lemmas.List.{take_all}
use Rattle.std.specs.List.{flat_map}
use Rattle.slicc_ast.specs.declared.tree.expression.Expr.{Expr, Row_of-Expr, end_of-Expr, more_of-Expr, items-the_row-Expr, Row_of-Operand, end_of-Operand, more_of-Operand, items-the_row-Operand, Row_of-Suffix, end_of-Suffix, more_of-Suffix, items-the_row-Suffix}
use Rattle.slicc_ast.specs.Prelude.{spans_of, spans_in, expr, operand_row, suffix_row, args_row, more_args_row, args_list, more_args, operand_spans, suffix_spans}
use Rattle.slicc_ast.specs.Expressions.{suffix}

more_args_spans : (es : List Expr) → spans_in (more_args es) ≡ flat_map (λ e. spans_of (expr e)) es
more_args_spans [] = refl
more_args_spans (first ∷ others) = ap (λ spans. spans_of (expr first) ++ spans) (more_args_spans others)

pub args_spans : (es : List Expr) → spans_in (args_list es) ≡ flat_map (λ e. spans_of (expr e)) es
args_spans [] = refl
args_spans (first ∷ others) = ap (λ spans. spans_of (expr first) ++ spans) (more_args_spans others)

more_args_row_spans : {n : _} (row : Row_of-Expr n) → spans_in (more_args_row row) ≡ spans_in (more_args (items-the_row-Expr n row))
more_args_row_spans end_of-Expr = refl
more_args_row_spans (more_of-Expr first row) = ap (λ spans. spans_of (expr first) ++ spans) (more_args_row_spans row)

pub args_row_spans : (n : _) (row : Row_of-Expr n) → spans_in (args_row row) ≡ spans_in (args_list (items-the_row-Expr n row))
args_row_spans n end_of-Expr = refl
args_row_spans n (more_of-Expr first row) = ap (λ spans. spans_of (expr first) ++ spans) (more_args_row_spans row)

pub operand_row_spans : (level : ℕ) (n : _) (row : Row_of-Operand n) → spans_in (operand_row level row) ≡ flat_map operand_spans (items-the_row-Operand n row)
operand_row_spans level n end_of-Operand = refl
operand_row_spans level n (more_of-Operand operator value row) = ap (λ spans. spans_of (expr value) ++ spans) (operand_row_spans level _ row)

pub suffix_row_spans : (n : _) (row : Row_of-Suffix n) → spans_in (suffix_row row) ≡ flat_map suffix_spans (items-the_row-Suffix n row)
suffix_row_spans n end_of-Suffix = refl
suffix_row_spans n (more_of-Suffix first row) = ap (λ spans. spans_of (suffix first) ++ spans) (suffix_row_spans _ row)

-- spans that were added one after another
pub added_all : {X Y : Type 0} (f : Y → List X) (old : List X) (a : X) (items lent : List Y) (i : ℕ) (one new inside : List X) → one ≡ old ++ a ∷ [] → lent ≡ items → length lent ≤ i → new ≡ one ++ flat_map f (take i items) → inside ≡ flat_map f items → new ≡ old ++ a ∷ inside
added_all f old a items lent i one new inside p same le r s =
    r ∙ ap (λ xs. one ++ flat_map f xs) (take_all i items (subst (λ xs. length xs ≤ i) same le)) ∙ ap (λ xs. xs ++ flat_map f items) p
    ∙ append_assoc old (a ∷ []) (flat_map f items) ∙ ap (λ xs. old ++ a ∷ xs) (sym s)

pub added_list : {X Y : Type 0} (f : Y → List X) (old : List X) (a : X) (items lent : List Y) (one new inside : List X) → one ≡ old ++ a ∷ [] → lent ≡ items → new ≡ one ++ flat_map f lent → inside ≡ flat_map f items → new ≡ old ++ a ∷ inside
added_list f old a items lent one new inside p same n i =
    n ∙ ap (λ xs. one ++ flat_map f xs) same ∙ ap (λ xs. xs ++ flat_map f items) p ∙ append_assoc old (a ∷ []) (flat_map f items) ∙ ap (λ xs. old ++ a ∷ xs) (sym i)

-- a list at the end, after what was added before it
pub added_behind : {X Y : Type 0} (f : Y → List X) (old before : List X) (items lent : List Y) (one new all : List X) → one ≡ old ++ before → lent ≡ items → new ≡ one ++ flat_map f lent → all ≡ before ++ flat_map f items → new ≡ old ++ all
added_behind f old before items lent one new all p same n i =
    n ∙ ap (λ xs. one ++ flat_map f xs) same ∙ ap (λ xs. xs ++ flat_map f items) p ∙ append_assoc old before (flat_map f items) ∙ ap (λ xs. old ++ xs) (sym i)

-- two steps as one
pub added_both : {X : Type 0} (old a b one two : List X) → one ≡ old ++ a → two ≡ one ++ b → two ≡ old ++ (a ++ b)
added_both old a b one two p q = q ∙ ap (λ xs. xs ++ b) p ∙ append_assoc old a b

-- what is added to the last of what was added before it
pub added_after : {X : Type 0} (old before more one new all : List X) → one ≡ old ++ before → all ≡ before ++ more → new ≡ one ++ more → new ≡ old ++ all
added_after old before more one new all p same q = added_both old before more one new p q ∙ ap (λ xs. old ++ xs) (sym same)

-- the same where nothing is behind it in the node
pub added_last : {X : Type 0} (old before more one new all : List X) → one ≡ old ++ before → all ≡ before ++ (more ++ []) → new ≡ one ++ more → new ≡ old ++ all
added_last old before more one new all p same = added_after old before more one new all p (same ∙ ap (λ xs. before ++ xs) (append-nil more))

-- the same where what was added is known as one
pub added_closed : {X : Type 0} (old before more new all : List X) → all ≡ before ++ (more ++ []) → new ≡ old ++ (before ++ more) → new ≡ old ++ all
added_closed old before more new all same q = q ∙ ap (λ xs. old ++ xs) (sym (same ∙ ap (λ xs. before ++ xs) (append-nil more)))

pub added_alone : {X : Type 0} (old more new all : List X) → all ≡ more → new ≡ old ++ more → new ≡ old ++ all
added_alone old more new all same q = q ∙ ap (λ xs. old ++ xs) (sym same)

-- a node, a name, attributes and a list
pub added_declaration : {X Y : Type 0} (f : Y → List X) (old : List X) (a b c : X) (pairs : List X) (items lent : List Y) (one two new inside : List X) → one ≡ old ++ a ∷ b ∷ [] → two ≡ one ++ c ∷ pairs → lent ≡ items → new ≡ two ++ flat_map f lent → inside ≡ flat_map f items ++ [] → new ≡ old ++ (a ∷ b ∷ c ∷ (pairs ++ inside))
added_declaration f old a b c pairs items lent one two new inside p q same n i =
    added_behind f old (a ∷ b ∷ c ∷ pairs) items lent two new _ (added_both old (a ∷ b ∷ []) (c ∷ pairs) one two p q) same n
    (ap (λ xs. a ∷ b ∷ c ∷ (pairs ++ xs)) (i ∙ append-nil (flat_map f items)))
