-- Lists of balanced parts are alike where their parts are.
use Rattle.std.proofs.Common.{◌≡◌, ◌&&◌, Bool, true, false, List, [], ◌∷◌, refl, sym, ap, ◌∙◌}
use Rattle.slicc_ast.specs.declared.tree.balanced.Part.{Part, Token, Parentheses', Brackets', Braces', Row_of-Part, end_of-Part, more_of-Part, items-the_row-Part}
use Rattle.slicc_ast.specs.declared.tree.token.TokenKind.TheVariants.{Sign}
use Rattle.slicc_ast.specs.declared.tree.token.Sign.TheVariants.{OpenParenthesis, OpenBracket, OpenBrace, CloseParenthesis, CloseBracket, CloseBrace}
use Rattle.slicc_ast.specs.Names.{sign, balanced_part}
use Rattle.slicc_ast.specs.Prelude.{balanced_row, balanced_list, Outline, node, Parts, part, shape_of, shape_in}
use Rattle.slicc_same.specs.Prelude.{alike_in, alike_kind, all_alike, same_parts, alike_part}
use Rattle.slicc_same.proofs.Bools.{and_true, and_false}

pub list_of_row : (n : _) (row : Row_of-Part n) → balanced_row row ≡ balanced_list (items-the_row-Part n row)
list_of_row n end_of-Part = refl
list_of_row n (more_of-Part first row) = ap (balanced_part first) (list_of_row _ row)

-- no list of parts begins with a node
no_node : (xs : List Part) (o : Outline) (p : Parts) → alike_in (shape_in (balanced_list xs)) (part o p) ≡ false
no_node [] o p = refl
no_node (Token kind ∷ xs) o p = refl
no_node (Parentheses' shape row span ∷ xs) o p = refl
no_node (Brackets' shape row span ∷ xs) o p = refl
no_node (Braces' shape row span ∷ xs) o p = refl

is_no_node : (xs : List Part) (o : Outline) (p : Parts) → alike_in (part o p) (shape_in (balanced_list xs)) ≡ false
is_no_node [] o p = refl
is_no_node (Token kind ∷ xs) o p = refl
is_no_node (Parentheses' shape row span ∷ xs) o p = refl
is_no_node (Brackets' shape row span ∷ xs) o p = refl
is_no_node (Braces' shape row span ∷ xs) o p = refl

single : (a r : Bool) → a && r ≡ (a && true) && r
single a r = ap (λ b. b && r) (sym (and_true a))

never : (a b r : Bool) → b ≡ false → a && b ≡ (a && false) && r
never a b r is = ap (λ c. a && c) is ∙ and_false a ∙ ap (λ c. c && r) (sym (and_false a))

step : (p q : Part) (xs ys : List Part) → same_parts (balanced_part p (balanced_list xs)) (balanced_part q (balanced_list ys)) ≡ alike_part p q && same_parts (balanced_list xs) (balanced_list ys)
step (Token a) (Token b) xs ys = single (alike_kind a b) (same_parts (balanced_list xs) (balanced_list ys))
step (Token a) (Parentheses' t more other) xs ys = never (alike_kind a (Sign OpenParenthesis)) _ (same_parts (balanced_list xs) (balanced_list ys)) (no_node xs _ _)
step (Token a) (Brackets' t more other) xs ys = never (alike_kind a (Sign OpenBracket)) _ (same_parts (balanced_list xs) (balanced_list ys)) (no_node xs _ _)
step (Token a) (Braces' t more other) xs ys = never (alike_kind a (Sign OpenBrace)) _ (same_parts (balanced_list xs) (balanced_list ys)) (no_node xs _ _)
step (Parentheses' s row span) (Token b) xs ys =
    never (alike_kind (Sign OpenParenthesis) b) _ (same_parts (balanced_list xs) (balanced_list ys)) (is_no_node ys (shape_of (node span (balanced_row row))) (shape_in (sign CloseParenthesis (balanced_list xs))))
step (Brackets' s row span) (Token b) xs ys =
    never (alike_kind (Sign OpenBracket) b) _ (same_parts (balanced_list xs) (balanced_list ys)) (is_no_node ys (shape_of (node span (balanced_row row))) (shape_in (sign CloseBracket (balanced_list xs))))
step (Braces' s row span) (Token b) xs ys =
    never (alike_kind (Sign OpenBrace) b) _ (same_parts (balanced_list xs) (balanced_list ys)) (is_no_node ys (shape_of (node span (balanced_row row))) (shape_in (sign CloseBrace (balanced_list xs))))
step (Parentheses' s row span) (Parentheses' t more other) xs ys = single (same_parts (balanced_row row) (balanced_row more)) (same_parts (balanced_list xs) (balanced_list ys))
step (Brackets' s row span) (Brackets' t more other) xs ys = single (same_parts (balanced_row row) (balanced_row more)) (same_parts (balanced_list xs) (balanced_list ys))
step (Braces' s row span) (Braces' t more other) xs ys = single (same_parts (balanced_row row) (balanced_row more)) (same_parts (balanced_list xs) (balanced_list ys))
step (Parentheses' s row span) (Brackets' t more other) xs ys = refl
step (Parentheses' s row span) (Braces' t more other) xs ys = refl
step (Brackets' s row span) (Parentheses' t more other) xs ys = refl
step (Brackets' s row span) (Braces' t more other) xs ys = refl
step (Braces' s row span) (Parentheses' t more other) xs ys = refl
step (Braces' s row span) (Brackets' t more other) xs ys = refl

nothing_alike : (q : Part) (ys : List Part) → same_parts (balanced_list []) (balanced_list (q ∷ ys)) ≡ false
nothing_alike (Token b) ys = refl
nothing_alike (Parentheses' t more other) ys = refl
nothing_alike (Brackets' t more other) ys = refl
nothing_alike (Braces' t more other) ys = refl

alike_nothing : (p : Part) (xs : List Part) → same_parts (balanced_list (p ∷ xs)) (balanced_list []) ≡ false
alike_nothing (Token b) ys = refl
alike_nothing (Parentheses' t more other) ys = refl
alike_nothing (Brackets' t more other) ys = refl
alike_nothing (Braces' t more other) ys = refl

pub balanced_alike : (xs ys : List Part) → same_parts (balanced_list xs) (balanced_list ys) ≡ all_alike alike_part xs ys
balanced_alike [] [] = refl
balanced_alike [] (q ∷ ys) = nothing_alike q ys
balanced_alike (p ∷ xs) [] = alike_nothing p xs
balanced_alike (p ∷ xs) (q ∷ ys) = step p q xs ys ∙ ap (λ b. alike_part p q && b) (balanced_alike xs ys)
