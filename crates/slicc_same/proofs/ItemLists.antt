-- Lists of a tree's parts are alike where their items are.
use Rattle.std.proofs.Common.{◌≡◌, ◌&&◌, Bool, true, false, List, [], ◌∷◌, refl, ap}
use Rattle.slicc_ast.specs.declared.tree.declaration.Formal.{Formal}
use Rattle.slicc_ast.specs.declared.tree.declaration.Member.{Member}
use Rattle.slicc_ast.specs.declared.tree.declaration.Pair.{Pair}
use Rattle.slicc_ast.specs.declared.tree.declaration.State.{State}
use Rattle.slicc_ast.specs.declared.tree.declaration.Symbol.{Symbol}
use Rattle.slicc_ast.specs.declared.tree.token.Sign.TheVariants.{CloseBrace}
use Rattle.slicc_ast.specs.Prelude.{none, pair_list, more_formals, formal_list, symbol_list, state_list, member_list}
use Rattle.slicc_ast.specs.Names.{sign}
use Rattle.slicc_ast.specs.Declarations.{pair, formal, member}
use Rattle.slicc_same.specs.Prelude.{all_alike, same_parts, same_shape, alike_name, alike_state, alike_symbol}

pub pairs_alike : (xs ys : List Pair) → same_parts (pair_list xs) (pair_list ys) ≡ all_alike (λ a b. same_shape (pair a) (pair b)) xs ys
pairs_alike [] [] = refl
pairs_alike [] (y ∷ ys) = refl
pairs_alike (x ∷ xs) [] = refl
pairs_alike (x ∷ xs) (y ∷ ys) = ap (λ b. same_shape (pair x) (pair y) && b) (pairs_alike xs ys)

more_formals_alike : (xs ys : List Formal) → same_parts (more_formals xs) (more_formals ys) ≡ all_alike (λ a b. same_shape (formal a) (formal b)) xs ys
more_formals_alike [] [] = refl
more_formals_alike [] (y ∷ ys) = refl
more_formals_alike (x ∷ xs) [] = refl
more_formals_alike (x ∷ xs) (y ∷ ys) = ap (λ b. same_shape (formal x) (formal y) && b) (more_formals_alike xs ys)

pub formals_alike : (xs ys : List Formal) → same_parts (formal_list xs) (formal_list ys) ≡ all_alike (λ a b. same_shape (formal a) (formal b)) xs ys
formals_alike [] [] = refl
formals_alike [] (y ∷ ys) = refl
formals_alike (x ∷ xs) [] = refl
formals_alike (x ∷ xs) (y ∷ ys) = ap (λ b. same_shape (formal x) (formal y) && b) (more_formals_alike xs ys)

pub members_alike : (xs ys : List Member) → same_parts (member_list xs (sign CloseBrace none)) (member_list ys (sign CloseBrace none)) ≡ all_alike (λ a b. same_shape (member a) (member b)) xs ys
members_alike [] [] = refl
members_alike [] (y ∷ ys) = refl
members_alike (x ∷ xs) [] = refl
members_alike (x ∷ xs) (y ∷ ys) = ap (λ b. same_shape (member x) (member y) && b) (members_alike xs ys)

symbol_step : (a b r s : Bool) → r ≡ s → (a && true) && (b && r) ≡ (a && b) && s
symbol_step true b r s is = ap (λ x. b && x) is
symbol_step false b r s is = refl

pub symbols_alike : (xs ys : List Symbol) → same_parts (symbol_list xs (sign CloseBrace none)) (symbol_list ys (sign CloseBrace none)) ≡ all_alike alike_symbol xs ys
symbols_alike [] [] = refl
symbols_alike [] (y ∷ ys) = refl
symbols_alike (x ∷ xs) [] = refl
symbols_alike (x ∷ xs) (y ∷ ys) =
    symbol_step (alike_name x.name y.name) (same_parts (pair_list x.pairs.items) (pair_list y.pairs.items)) _ _ (symbols_alike xs ys)

state_step : (a b c d r s : Bool) → r ≡ s → (a && true) && ((b && true) && ((c && true) && (d && r))) ≡ (((a && b) && c) && d) && s
state_step true true true d r s is = ap (λ x. d && x) is
state_step true true false d r s is = refl
state_step true false c d r s is = refl
state_step false b c d r s is = refl

pub states_alike : (xs ys : List State) → same_parts (state_list xs (sign CloseBrace none)) (state_list ys (sign CloseBrace none)) ≡ all_alike alike_state xs ys
states_alike [] [] = refl
states_alike [] (y ∷ ys) = refl
states_alike (x ∷ xs) [] = refl
states_alike (x ∷ xs) (y ∷ ys) =
    state_step (alike_name x.name y.name) (alike_name x.owner y.owner) (alike_name x.permission y.permission)
    (same_parts (pair_list x.pairs.items) (pair_list y.pairs.items)) _ _ (states_alike xs ys)
