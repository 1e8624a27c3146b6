-- Lists in machines and files are alike where their items are.
use Rattle.std.proofs.Common.{◌≡◌, ◌&&◌, ℕ, Bool, true, false, Option, Some, None, List, [], ◌∷◌, refl, ap, ◌∙◌}
use Rattle.slicc_ast.specs.declared.tree.item.Item.{Item}
use Rattle.slicc_ast.specs.declared.tree.machine.Decl.{Decl}
use Rattle.slicc_ast.specs.declared.tree.machine.Parameter.{Parameter}
use Rattle.std.specs.Str.{bytes_eq}
use Rattle.slicc_ast.specs.declared.tree.machine.Names.{Names}
use Rattle.slicc_ast.specs.declared.tree.machine.Names.TheVariants.{One, Several}
use Rattle.slicc_ast.specs.declared.tree.machine.NextState.{NextState}
use Rattle.slicc_ast.specs.declared.tree.machine.NextState.TheVariants.{Named, Asked}
use Rattle.slicc_ast.specs.declared.tree.name.Name.{Name}
use Rattle.slicc_ast.specs.declared.tree.statement.Block.{Block}
use Rattle.slicc_ast.specs.declared.tree.token.TokenKind.TheVariants.{Sign}
use Rattle.slicc_ast.specs.declared.tree.token.Sign.TheVariants.{OpenBrace, CloseBrace}
use Rattle.slicc_ast.specs.Outline.{token}
use Rattle.slicc_ast.specs.Prelude.{Outline, Parts, none, part, shape_in, action_list, decl, decl_list, function_body, more_names, name_list, next_parts, parameter_list, item_list, protocol_parts}
use Rattle.slicc_ast.specs.Names.{sign}
use Rattle.slicc_ast.specs.Machines.{names, parameter}
use Rattle.slicc_ast.specs.Trees.{item}
use Rattle.slicc_same.specs.Prelude.{alike_in, all_alike, same_parts, same_shape, alike_name}
use Rattle.slicc_same.proofs.Bools.{and_grouped}

name_step : (a r s : Bool) → r ≡ s → (a && true) && r ≡ a && s
name_step true r s is = is
name_step false r s is = refl

more_names_alike : (xs ys : List Name) → same_parts (more_names xs (sign CloseBrace none)) (more_names ys (sign CloseBrace none)) ≡ all_alike alike_name xs ys
more_names_alike [] [] = refl
more_names_alike [] (y ∷ ys) = refl
more_names_alike (x ∷ xs) [] = refl
more_names_alike (x ∷ xs) (y ∷ ys) = name_step (alike_name x y) _ _ (more_names_alike xs ys)

pub names_alike : (xs ys : List Name) → same_parts (name_list xs (sign CloseBrace none)) (name_list ys (sign CloseBrace none)) ≡ all_alike alike_name xs ys
names_alike [] [] = refl
names_alike [] (y ∷ ys) = refl
names_alike (x ∷ xs) [] = refl
names_alike (x ∷ xs) (y ∷ ys) = name_step (alike_name x y) _ _ (more_names_alike xs ys)

pub actions_alike : (xs ys : List Name) → same_parts (action_list xs (sign CloseBrace none)) (action_list ys (sign CloseBrace none)) ≡ all_alike alike_name xs ys
actions_alike [] [] = refl
actions_alike [] (y ∷ ys) = refl
actions_alike (x ∷ xs) [] = refl
actions_alike (x ∷ xs) (y ∷ ys) = name_step (alike_name x y) _ _ (actions_alike xs ys)

pub decls_alike : (xs ys : List Decl) → same_parts (decl_list xs (sign CloseBrace none)) (decl_list ys (sign CloseBrace none)) ≡ all_alike (λ a b. same_shape (decl a) (decl b)) xs ys
decls_alike [] [] = refl
decls_alike [] (y ∷ ys) = refl
decls_alike (x ∷ xs) [] = refl
decls_alike (x ∷ xs) (y ∷ ys) = ap (λ b. same_shape (decl x) (decl y) && b) (decls_alike xs ys)

pub items_alike : (xs ys : List Item) → same_parts (item_list xs) (item_list ys) ≡ all_alike (λ a b. same_shape (item a) (item b)) xs ys
items_alike [] [] = refl
items_alike [] (y ∷ ys) = refl
items_alike (x ∷ xs) [] = refl
items_alike (x ∷ xs) (y ∷ ys) = ap (λ b. same_shape (item x) (item y) && b) (items_alike xs ys)

-- parameters before the brace of a machine
pub parameters_alike : (xs ys : List Parameter) (p q : Parts) → same_parts (parameter_list xs (sign OpenBrace p)) (parameter_list ys (sign OpenBrace q)) ≡ all_alike (λ a b. same_shape (parameter a) (parameter b)) xs ys && same_parts p q
parameters_alike [] [] p q = refl
parameters_alike [] (y ∷ ys) p q = refl
parameters_alike (x ∷ xs) [] p q = refl
parameters_alike (x ∷ xs) (y ∷ ys) p q =
    ap (λ b. same_shape (parameter x) (parameter y) && b) (parameters_alike xs ys p q)
    ∙ and_grouped (same_shape (parameter x) (parameter y)) (all_alike (λ a b. same_shape (parameter a) (parameter b)) xs ys) (same_parts p q)

single : (a r : Bool) → a && r ≡ (a && true) && r
single true r = refl
single false r = refl

-- parts that others stand behind
pub names_behind : (a b : Names) (p q : Parts) → same_parts (names a p) (names b q) ≡ same_parts (names a none) (names b none) && same_parts p q
names_behind (One a) (One b) p q = single (alike_name a b && true) (same_parts p q)
names_behind (One a) (Several b other) p q = refl
names_behind (Several a span) (One b) p q = refl
names_behind (Several a span) (Several b other) p q = single (same_parts (name_list a (sign CloseBrace none)) (name_list b (sign CloseBrace none))) (same_parts p q)

pub next_behind : (a b : Option NextState) (o u : Outline) (p q : Parts) → same_parts (next_parts a (part o p)) (next_parts b (part u q)) ≡ same_parts (next_parts a none) (next_parts b none) && same_parts (part o p) (part u q)
next_behind None None o u p q = refl
next_behind None (Some (Named b)) o u p q = refl
next_behind None (Some (Asked there)) o u p q = refl
next_behind (Some (Named a)) None o u p q = refl
next_behind (Some (Asked here)) None o u p q = refl
next_behind (Some (Named a)) (Some (Named b)) o u p q = single (alike_name a b && true) (same_parts (part o p) (part u q))
next_behind (Some (Named a)) (Some (Asked there)) o u p q = refl
next_behind (Some (Asked here)) (Some (Named b)) o u p q = refl
next_behind (Some (Asked here)) (Some (Asked there)) o u p q = refl

pub protocol_behind : (a b : Option (List ℕ)) (xs ys : List Item) → same_parts (protocol_parts a (item_list xs)) (protocol_parts b (item_list ys)) ≡ same_parts (protocol_parts a none) (protocol_parts b none) && same_parts (item_list xs) (item_list ys)
protocol_behind None None xs ys = refl
protocol_behind None (Some b) [] ys = refl
protocol_behind None (Some b) (x ∷ xs) ys = refl
protocol_behind (Some a) None xs [] = refl
protocol_behind (Some a) None xs (y ∷ ys) = refl
protocol_behind (Some a) (Some b) xs ys = single (bytes_eq a b) (same_parts (item_list xs) (item_list ys))

-- a body is no brace
pub body_brace : (b : Option Block) (p : Parts) → alike_in (shape_in (function_body b)) (token (Sign OpenBrace) p) ≡ false
body_brace None p = refl
body_brace (Some b) p = refl
