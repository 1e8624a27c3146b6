-- Whether two expressions are alike, form by form.
use Rattle.std.proofs.Common.{rules, ◌≡◌, ◌==◌, ◌&&◌, ◌∙◌, ℕ, ℤ, Bool, true, false, Option, Some, None, List, length, refl, sym, ap}
use Rattle.std.specs.Str.{bytes_eq}
use Rattle.slicc_ast.specs.declared.tree.span.Span.{Span}
use Rattle.slicc_ast.specs.declared.tree.name.Name.{Name}
use Rattle.slicc_ast.specs.declared.tree.name.TypeName.{TypeName}
use Rattle.slicc_ast.specs.declared.tree.expression.Args.{Args}
use Rattle.slicc_ast.specs.declared.tree.expression.Expr.{Expr}
use Rattle.slicc_ast.specs.declared.tree.expression.Expr as made
use Rattle.slicc_ast.specs.declared.tree.expression.Operand.{Operand}
use Rattle.slicc_ast.specs.declared.tree.expression.Suffix.{Suffix}
use Rattle.slicc_ast.specs.declared.tree.expression.Suffix as suffixed
use Rattle.slicc_ast.specs.declared.tree.expression.Expr.TheViews.{the_lemmas}
use Rattle.slicc_ast.proofs.RowsOfExpressions.{args_of_row}
use Rattle.slicc_ast.specs.Expressions.{suffix}
use Rattle.slicc_ast.specs.Prelude.{args_list, expr, list_level, mode_parts, Outline, none, part, shape_of}
use Rattle.slicc_ast.specs.declared.tree.token.Sign.TheVariants.{CloseParenthesis}
use Rattle.slicc_ast.specs.Names.{sign}
use Rattle.slicc_same.specs.Prelude.{alike, all_alike, same_parts, same_shape, alike_operand, alike_suffix}
use Rattle.slicc_same.proofs.Bools.{and_true, and_false, second_false}
use Rattle.slicc_ast.specs.declared.tree.expression.Expr.TheBlock as block
use Rattle.slicc_same.proofs.ExpressionForms.{ExprIs, is_Not, is_Negate, is_Number, is_True, is_False, is_Nothing, is_Variable, is_New, is_IsValid, is_IsInvalid, is_Cast, is_Group, is_Member, is_Call, is_Operation, is_Postfix}
use Rattle.slicc_same.proofs.ExpressionLists.{operands_alike, operands_suffixes, suffixes_alike, suffixes_operands}
use Rattle.slicc_same.proofs.NotExpressions.{operands_colon, operands_open, suffixes_token}
use Rattle.slicc_same.proofs.ShapesOfBoxes.{shape_of_Not, shape_of_Negate, shape_of_IsValid, shape_of_IsInvalid, shape_of_Group, shape_of_Cast, shape_of_Operation, shape_of_Postfix}
use Rattle.slicc_same.proofs.Symmetric.{symmetric}

pub same_at : {A : Type 0} (f : A → Outline) (a b x y : A) → a ≡ x → b ≡ y → same_shape (f a) (f b) ≡ same_shape (f x) (f y)
same_at f a b x y p q = ap (λ e. same_shape (f e) (f b)) p ∙ ap (λ e. same_shape (f x) (f e)) q

-- where the answer for the first part is known
pub known_first : (r first rest whole v : Bool) → r ≡ first → r ≡ v → whole ≡ first && rest → whole ≡ v && rest
known_first r first rest whole v e is w = w ∙ ap (λ b. b && rest) (sym e ∙ is)

-- what two shapes answer, by what they are
pub shapes : (a b x y : Outline) → a ≡ x → b ≡ y → alike a b ≡ alike x y
shapes a b x y p q = ap (λ e. alike e b) p ∙ ap (λ e. alike x e) q

-- where the answer for the second part is known
pub known_second : (first r second whole v : Bool) → r ≡ second → r ≡ v → whole ≡ first && second → whole ≡ first && v
known_second first r second whole v e is w = w ∙ ap (λ b. first && b) (sym e ∙ is)

-- two expressions of one form
pub alike_Not : (x y : Expr) (s t : Span) → same_shape (expr (made.Not x s)) (expr (made.Not y t)) ≡ same_shape (expr x) (expr y)
alike_Not x y s t = shapes _ _ _ _ (shape_of_Not x s) (shape_of_Not y t) ∙ and_true (same_shape (expr x) (expr y))

pub alike_Negate : (x y : Expr) (s t : Span) → same_shape (expr (made.Negate x s)) (expr (made.Negate y t)) ≡ same_shape (expr x) (expr y)
alike_Negate x y s t = shapes _ _ _ _ (shape_of_Negate x s) (shape_of_Negate y t) ∙ and_true (same_shape (expr x) (expr y))

pub alike_IsValid : (x y : Expr) (s t : Span) → same_shape (expr (made.IsValid x s)) (expr (made.IsValid y t)) ≡ same_shape (expr x) (expr y)
alike_IsValid x y s t = shapes _ _ _ _ (shape_of_IsValid x s) (shape_of_IsValid y t) ∙ and_true (same_shape (expr x) (expr y))

pub alike_IsInvalid : (x y : Expr) (s t : Span) → same_shape (expr (made.IsInvalid x s)) (expr (made.IsInvalid y t)) ≡ same_shape (expr x) (expr y)
alike_IsInvalid x y s t = shapes _ _ _ _ (shape_of_IsInvalid x s) (shape_of_IsInvalid y t) ∙ and_true (same_shape (expr x) (expr y))

pub alike_Group : (x y : Expr) (s t : Span) → same_shape (expr (made.Group x s)) (expr (made.Group y t)) ≡ same_shape (expr x) (expr y)
alike_Group x y s t = shapes _ _ _ _ (shape_of_Group x s) (shape_of_Group y t) ∙ and_true (same_shape (expr x) (expr y))

pub alike_Operation : (x y : Expr) (xs ys : List Operand) (s t : Span) → same_shape (expr (made.Operation x xs s)) (expr (made.Operation y ys t)) ≡ same_shape (expr x) (expr y) && all_alike alike_operand xs ys
alike_Operation x y xs ys s t =
    shapes _ _ _ _ (shape_of_Operation x xs s) (shape_of_Operation y ys t)
    ∙ ap (λ b. same_shape (expr x) (expr y) && b) (operands_alike (list_level xs) (list_level ys) xs ys)

pub alike_Postfix : (x y : Expr) (xs ys : List Suffix) (s t : Span) → same_shape (expr (made.Postfix x xs s)) (expr (made.Postfix y ys t)) ≡ same_shape (expr x) (expr y) && all_alike alike_suffix xs ys
alike_Postfix x y xs ys s t =
    shapes _ _ _ _ (shape_of_Postfix x xs s) (shape_of_Postfix y ys t)
    ∙ ap (λ b. same_shape (expr x) (expr y) && b) (suffixes_alike xs ys)

-- operators are like suffixes only where there is none of either
pub alike_Operation_Postfix : (x y : Expr) (xs : List Operand) (ys : List Suffix) (s t : Span) → same_shape (expr (made.Operation x xs s)) (expr (made.Postfix y ys t)) ≡ same_shape (expr x) (expr y) && ((length xs == 0) && (length ys == 0))
alike_Operation_Postfix x y xs ys s t =
    shapes _ _ _ _ (shape_of_Operation x xs s) (shape_of_Postfix y ys t)
    ∙ ap (λ b. same_shape (expr x) (expr y) && b) (operands_suffixes (list_level xs) xs ys)

pub alike_Postfix_Operation : (x y : Expr) (xs : List Suffix) (ys : List Operand) (s t : Span) → same_shape (expr (made.Postfix x xs s)) (expr (made.Operation y ys t)) ≡ same_shape (expr x) (expr y) && ((length ys == 0) && (length xs == 0))
alike_Postfix_Operation x y xs ys s t =
    shapes _ _ _ _ (shape_of_Postfix x xs s) (shape_of_Operation y ys t)
    ∙ ap (λ b. same_shape (expr x) (expr y) && b) (suffixes_operands (list_level ys) ys xs)

moded : (a b : Bool) → a && (b && true) ≡ (a && true) && b
moded true b = and_true b
moded false b = refl

cast_parts : (m n : Option (List ℕ)) (x y : Expr) (b : Bool)
    → b && same_parts (mode_parts m (part (expr x) (sign CloseParenthesis none))) (mode_parts n (part (expr y) (sign CloseParenthesis none)))
    ≡ (b && same_parts (mode_parts m none) (mode_parts n none)) && same_shape (expr x) (expr y)
cast_parts m n x y false = refl
cast_parts None None x y true = and_true (same_shape (expr x) (expr y))
cast_parts None (Some q) x y true = refl
cast_parts (Some p) None x y true = refl
cast_parts (Some p) (Some q) x y true = moded (bytes_eq p q) (same_shape (expr x) (expr y))

pub alike_Cast : (k l : TypeName) (m n : Option (List ℕ)) (x y : Expr) (s t : Span) → same_shape (expr (made.Cast k m x s)) (expr (made.Cast l n y t)) ≡ (bytes_eq k.text l.text && same_parts (mode_parts m none) (mode_parts n none)) && same_shape (expr x) (expr y)
alike_Cast k l m n x y s t =
    shapes _ _ _ _ (shape_of_Cast k m x s) (shape_of_Cast l n y t) ∙ cast_parts m n x y (bytes_eq k.text l.text && true)
    ∙ ap (λ b. (b && same_parts (mode_parts m none) (mode_parts n none)) && same_shape (expr x) (expr y)) (and_true (bytes_eq k.text l.text))

pub alike_Call : (n m : Name) (p q : Args) (s t : Span) → same_shape (expr (made.Call n p s)) (expr (made.Call m q t)) ≡ bytes_eq n.text m.text && same_parts (args_list p.items) (args_list q.items)
alike_Call n m p q s t = search (rules, the_lemmas, args_of_row, and_true)

pub alike_Method : (n m : Name) (p q : Args) (s t : Span) → same_shape (suffix (suffixed.Method n p s)) (suffix (suffixed.Method m q t)) ≡ bytes_eq n.text m.text && same_parts (args_list p.items) (args_list q.items)
alike_Method n m p q s t = search (rules, the_lemmas, args_of_row, and_true)

pub alike_Member : (n m o p : Name) (s t : Span) → same_shape (expr (made.Member n o s)) (expr (made.Member m p t)) ≡ bytes_eq n.text m.text && bytes_eq o.text p.text
alike_Member n m o p s t = search (rules, and_true)

pub alike_New : (n m : Name) (s t : Span) → same_shape (expr (made.New n s)) (expr (made.New m t)) ≡ bytes_eq n.text m.text
alike_New n m s t = search (rules, and_true)

pub alike_Field : (n m : Name) (s t : Span) → same_shape (suffix (suffixed.Field n s)) (suffix (suffixed.Field m t)) ≡ bytes_eq n.text m.text
alike_Field n m s t = search (rules, and_true)

-- an expression of one form and one of another
pub unlike : (a b x : Expr) → a ≡ x → false ≡ same_shape (expr x) (expr b) → false ≡ same_shape (expr a) (expr b)
unlike a b x is differ = differ ∙ ap (λ e. same_shape (expr e) (expr b)) (sym is)

operation_member : (e : Expr) (xs : List Operand) (s : Span) (n m : Name) (t : Span) → false ≡ same_shape (expr (made.Operation e xs s)) (expr (made.Member n m t))
operation_member e xs s n m t = second_false _ _ (operands_colon (list_level xs) xs _) ∙ sym (shapes _ _ _ _ (shape_of_Operation e xs s) refl)

operation_call : (e : Expr) (xs : List Operand) (s : Span) (n : Name) (a : Args) (t : Span) → false ≡ same_shape (expr (made.Operation e xs s)) (expr (made.Call n a t))
operation_call e xs s n a t = second_false _ _ (operands_open (list_level xs) xs _) ∙ sym (shapes _ _ _ _ (shape_of_Operation e xs s) refl)

postfix_member : (e : Expr) (xs : List Suffix) (s : Span) (n m : Name) (t : Span) → false ≡ same_shape (expr (made.Postfix e xs s)) (expr (made.Member n m t))
postfix_member e xs s n m t = second_false _ _ (suffixes_token xs _ _) ∙ sym (shapes _ _ _ _ (shape_of_Postfix e xs s) refl)

postfix_call : (e : Expr) (xs : List Suffix) (s : Span) (n : Name) (a : Args) (t : Span) → false ≡ same_shape (expr (made.Postfix e xs s)) (expr (made.Call n a t))
postfix_call e xs s n a t = second_false _ _ (suffixes_token xs _ _) ∙ sym (shapes _ _ _ _ (shape_of_Postfix e xs s) refl)

turned : (a b : Expr) → false ≡ same_shape (expr a) (expr b) → false ≡ same_shape (expr b) (expr a)
turned a b is = is ∙ symmetric (shape_of (expr a)) (shape_of (expr b))

pub unlike_Not : (e : Expr) (span : Span) (b : Expr) → ExprIs b → ((x : Expr) (s : Span) → b ≡ made.Not x s → ⊥) → false ≡ same_shape (expr (made.Not e span)) (expr b)
unfolding block.hidden-the_row-Expr-0 denote.Hole.Carrier.hidden
unlike_Not e span b (is_Not x s) not = absurd (not x s refl)
unlike_Not e span b form not = refl

pub unlike_Negate : (e : Expr) (span : Span) (b : Expr) → ExprIs b → ((x : Expr) (s : Span) → b ≡ made.Negate x s → ⊥) → false ≡ same_shape (expr (made.Negate e span)) (expr b)
unfolding block.hidden-the_row-Expr-0 denote.Hole.Carrier.hidden
unlike_Negate e span b (is_Negate x s) not = absurd (not x s refl)
unlike_Negate e span b form not = refl

pub unlike_Number : (n : ℤ) (span : Span) (b : Expr) → ExprIs b → ((m : ℤ) (s : Span) → b ≡ made.Number m s → ⊥) → false ≡ same_shape (expr (made.Number n span)) (expr b)
unfolding block.hidden-the_row-Expr-0 denote.Hole.Carrier.hidden
unlike_Number n span b (is_Number m s) not = absurd (not m s refl)
unlike_Number n span b form not = refl

pub unlike_True : (span : Span) (b : Expr) → ExprIs b → ((s : Span) → b ≡ made.True s → ⊥) → false ≡ same_shape (expr (made.True span)) (expr b)
unfolding block.hidden-the_row-Expr-0 denote.Hole.Carrier.hidden
unlike_True span b (is_True s) not = absurd (not s refl)
unlike_True span b form not = refl

pub unlike_False : (span : Span) (b : Expr) → ExprIs b → ((s : Span) → b ≡ made.False s → ⊥) → false ≡ same_shape (expr (made.False span)) (expr b)
unfolding block.hidden-the_row-Expr-0 denote.Hole.Carrier.hidden
unlike_False span b (is_False s) not = absurd (not s refl)
unlike_False span b form not = refl

pub unlike_Nothing : (span : Span) (b : Expr) → ExprIs b → ((s : Span) → b ≡ made.Nothing s → ⊥) → false ≡ same_shape (expr (made.Nothing span)) (expr b)
unfolding block.hidden-the_row-Expr-0 denote.Hole.Carrier.hidden
unlike_Nothing span b (is_Nothing s) not = absurd (not s refl)
unlike_Nothing span b form not = refl

pub unlike_Variable : (name : Name) (b : Expr) → ExprIs b → ((other : Name) → b ≡ made.Variable other → ⊥) → false ≡ same_shape (expr (made.Variable name)) (expr b)
unfolding block.hidden-the_row-Expr-0 denote.Hole.Carrier.hidden
unlike_Variable name b (is_Variable other) not = absurd (not other refl)
unlike_Variable name b form not = refl

pub unlike_New : (name : Name) (span : Span) (b : Expr) → ExprIs b → ((other : Name) (s : Span) → b ≡ made.New other s → ⊥) → false ≡ same_shape (expr (made.New name span)) (expr b)
unfolding block.hidden-the_row-Expr-0 denote.Hole.Carrier.hidden
unlike_New name span b (is_New other s) not = absurd (not other s refl)
unlike_New name span b form not = refl

pub unlike_IsValid : (e : Expr) (span : Span) (b : Expr) → ExprIs b → ((x : Expr) (s : Span) → b ≡ made.IsValid x s → ⊥) → false ≡ same_shape (expr (made.IsValid e span)) (expr b)
unfolding block.hidden-the_row-Expr-0 denote.Hole.Carrier.hidden
unlike_IsValid e span b (is_IsValid x s) not = absurd (not x s refl)
unlike_IsValid e span b form not = refl

pub unlike_IsInvalid : (e : Expr) (span : Span) (b : Expr) → ExprIs b → ((x : Expr) (s : Span) → b ≡ made.IsInvalid x s → ⊥) → false ≡ same_shape (expr (made.IsInvalid e span)) (expr b)
unfolding block.hidden-the_row-Expr-0 denote.Hole.Carrier.hidden
unlike_IsInvalid e span b (is_IsInvalid x s) not = absurd (not x s refl)
unlike_IsInvalid e span b form not = refl

pub unlike_Cast : (target : TypeName) (mode : Option (List ℕ)) (e : Expr) (span : Span) (b : Expr) → ExprIs b → ((other : TypeName) (m : Option (List ℕ)) (x : Expr) (s : Span) → b ≡ made.Cast other m x s → ⊥)
    → false ≡ same_shape (expr (made.Cast target mode e span)) (expr b)
unfolding block.hidden-the_row-Expr-0 denote.Hole.Carrier.hidden
unlike_Cast target mode e span b (is_Cast other m x s) not = absurd (not other m x s refl)
unlike_Cast target mode e span b form not = refl

pub unlike_Group : (e : Expr) (span : Span) (b : Expr) → ExprIs b → ((x : Expr) (s : Span) → b ≡ made.Group x s → ⊥) → false ≡ same_shape (expr (made.Group e span)) (expr b)
unfolding block.hidden-the_row-Expr-0 denote.Hole.Carrier.hidden
unlike_Group e span b (is_Group x s) not = absurd (not x s refl)
unlike_Group e span b form not = refl

pub unlike_Member : (owner : Name) (member : Name) (span : Span) (b : Expr) → ExprIs b → ((other : Name) (x : Name) (s : Span) → b ≡ made.Member other x s → ⊥)
    → false ≡ same_shape (expr (made.Member owner member span)) (expr b)
unfolding block.hidden-the_row-Expr-0 denote.Hole.Carrier.hidden
unlike_Member owner member span b (is_Member other x s) not = absurd (not other x s refl)
unlike_Member owner member span b (is_Operation x xs s) not = turned (made.Operation x xs s) (made.Member owner member span) (operation_member x xs s owner member span)
unlike_Member owner member span b (is_Postfix x xs s) not = turned (made.Postfix x xs s) (made.Member owner member span) (postfix_member x xs s owner member span)
unlike_Member owner member span b (is_Call other more s) not = sym (and_false _)
unlike_Member owner member span b form not = refl

pub unlike_Call : (name : Name) (arguments : Args) (span : Span) (b : Expr) → ExprIs b → ((other : Name) (more : Args) (s : Span) → b ≡ made.Call other more s → ⊥)
    → false ≡ same_shape (expr (made.Call name arguments span)) (expr b)
unfolding block.hidden-the_row-Expr-0 denote.Hole.Carrier.hidden
unlike_Call name arguments span b (is_Call other more s) not = absurd (not other more s refl)
unlike_Call name arguments span b (is_Operation x xs s) not = turned (made.Operation x xs s) (made.Call name arguments span) (operation_call x xs s name arguments span)
unlike_Call name arguments span b (is_Postfix x xs s) not = turned (made.Postfix x xs s) (made.Call name arguments span) (postfix_call x xs s name arguments span)
unlike_Call name arguments span b (is_Member other x s) not = sym (and_false _)
unlike_Call name arguments span b form not = refl

pub unlike_Operation : (e : Expr) (others : List Operand) (span : Span) (b : Expr) → ExprIs b → ((x : Expr) (xs : List Operand) (s : Span) → b ≡ made.Operation x xs s → ⊥) → ((x : Expr) (xs : List Suffix) (s : Span) → b ≡ made.Postfix x xs s → ⊥)
    → false ≡ same_shape (expr (made.Operation e others span)) (expr b)
unfolding block.hidden-the_row-Expr-0 denote.Hole.Carrier.hidden
unlike_Operation e others span b (is_Operation x xs s) not also = absurd (not x xs s refl)
unlike_Operation e others span b (is_Postfix x xs s) not also = absurd (also x xs s refl)
unlike_Operation e others span b (is_Member other x s) not also = operation_member e others span other x s
unlike_Operation e others span b (is_Call other more s) not also = operation_call e others span other more s
unlike_Operation e others span b form not also = refl

pub unlike_Postfix : (e : Expr) (suffixes : List Suffix) (span : Span) (b : Expr) → ExprIs b → ((x : Expr) (xs : List Operand) (s : Span) → b ≡ made.Operation x xs s → ⊥) → ((x : Expr) (xs : List Suffix) (s : Span) → b ≡ made.Postfix x xs s → ⊥)
    → false ≡ same_shape (expr (made.Postfix e suffixes span)) (expr b)
unfolding block.hidden-the_row-Expr-0 denote.Hole.Carrier.hidden
unlike_Postfix e suffixes span b (is_Operation x xs s) not also = absurd (not x xs s refl)
unlike_Postfix e suffixes span b (is_Postfix x xs s) not also = absurd (also x xs s refl)
unlike_Postfix e suffixes span b (is_Member other x s) not also = postfix_member e suffixes span other x s
unlike_Postfix e suffixes span b (is_Call other more s) not also = postfix_call e suffixes span other more s
unlike_Postfix e suffixes span b form not also = refl
