-- What is broken by attributes is what each of them breaks.
use Rattle.std.proofs.Common.{◌≡◌, ◌++◌, ℕ, Bool, true, false, not, cond, Option, None, Some, List, [], ◌∷◌, map, filter, filter_map, flat_map, refl, ◌∙◌, ap, sym}
use Rattle.std.specs.List.{cons_option}
use Rattle.slicc_ast.specs.declared.tree.declaration.Pair.{Pair}
use Rattle.slicc_ast.specs.declared.tree.declaration.Pairs.{Pairs}
use Rattle.slicc_ast.specs.declared.tree.declaration.PairValue.{PairValue}
use Rattle.slicc_plan.specs.declared.broken.Broken.{Broken}
use Rattle.slicc_plan.specs.Prelude.{Attribute, attribute_in, bad_attributes, bad_value}
use Rattle.declaration_rules.specs.Prelude.{bad_attribute, bad_pair, told_bad}

abbrev pub places : List Attribute → List Broken
places found = map (λ (a : Attribute). bad_value a.place) found

pub some_step : (v : Bool) (a : Attribute) (found : List Attribute) (bs : List Broken) → places found ≡ bs → places (cond (not v) (a ∷ found) found) ≡ told_bad v a.place ++ bs
some_step true a found bs e = e
some_step false a found bs e = ap (λ xs. bad_value a.place ∷ xs) e

abbrev pub shown : (PairValue → Bool) → List Attribute → List Broken
shown is_right found = places (filter (λ (a : Attribute). not (is_right a.value)) found)

pub pair_step : (is_right : PairValue → Bool) (o : Option Attribute) (found : List Attribute) (bs : List Broken) → shown is_right found ≡ bs → shown is_right (cons_option o found) ≡ bad_attribute is_right o ++ bs
pair_step is_right None found bs e = e
pair_step is_right (Some a) found bs e = some_step (is_right a.value) a (filter (λ (b : Attribute). not (is_right b.value)) found) bs e

pub each_pair : (key : List ℕ) (is_right : PairValue → Bool) (ps : List Pair) → shown is_right (filter_map (attribute_in key) ps) ≡ flat_map (bad_pair key is_right) ps
each_pair key is_right [] = refl
each_pair key is_right (p ∷ ps) = pair_step is_right (attribute_in key p) (filter_map (attribute_in key) ps) (flat_map (bad_pair key is_right) ps) (each_pair key is_right ps)

pub by_each_pair : (key : List ℕ) (is_right : PairValue → Bool) (ps : List Pair) (pairs : Pairs) → ps ≡ pairs.items → flat_map (bad_pair key is_right) ps ≡ bad_attributes key is_right pairs
by_each_pair key is_right ps pairs e = ap (flat_map (bad_pair key is_right)) e ∙ sym (each_pair key is_right pairs.items)
