-- What the rule on values says of the numbers that attributes write.
use Rattle.std.proofs.Common.{◌≡◌, ◌++◌, ◌<◌, ◌≤◌, ℕ, zero, suc, true, cond, Option, Some, List, [], ◌∷◌, ap, flat_map, length, map, refl, slice_index_or, subst, sym, ◌∙◌, arith}
use Rattle.std.specs.Prelude.{codes}
use Rattle.slicc_ast.specs.declared.tree.declaration.Pairs.{Pairs}
use Rattle.slicc_ast.specs.declared.tree.item.Tree.{Tree}
use Rattle.slicc_ast.specs.declared.tree.machine.Machine.{Machine}
use Rattle.slicc_plan.specs.declared.built_in.BuiltInType.TheVariants.{Buffer, TbeTable}
use Rattle.slicc_plan.specs.Prelude.{attributes, BufferIn, Place, own, to_network, from_network, buffer_in, Declaration, within, written_entries, KnownType, is_built_in, bad_buffer_attributes, bad_entries, bad_object_attributes, bad_values_of}
use Rattle.slicc_plan.proofs.Room.{first_within, left_none, right_none}
use Rattle.slicc_plan.proofs.SetupNetworks.{BufferInLimits, PlaceInLimits, declared_within}
use Rattle.type_numbers.specs.Prelude.{IsOnNetwork}

pub few_entries : (t : Option KnownType) (pairs : Pairs) → bad_object_attributes t pairs ≡ [] → is_built_in TbeTable t ≡ true → written_entries pairs ≤ 256
few_entries t pairs e is =
    let kept = right_none (cond (is_built_in Buffer t) (bad_buffer_attributes pairs) []) (cond (is_built_in TbeTable t) (bad_entries pairs) []) e in
    let entries : bad_entries pairs ≡ [] = subst (λ b. cond b (bad_entries pairs) [] ≡ []) is kept in
    (first_within 1 256 16 (attributes (codes "entries") pairs) _ (omega arith) (omega arith) refl entries).1

on_network : (p : Place) → PlaceInLimits p → IsOnNetwork p
on_network own h = tt
on_network (to_network n) h = h
on_network (from_network n) h = h

-- of a buffer that is declared
pub buffer_on : (trees : List Tree) (m : Machine) (d : Declaration) (b : BufferIn) → bad_values_of trees (within m) d ≡ [] → buffer_in trees m d ≡ Some b → IsOnNetwork b.place
buffer_on trees m d b e is =
    on_network b.place (subst BufferInLimits is (declared_within trees m d e))

-- what none of a list breaks one of them doesn't break
pub kept_at : {X Y Z : Type 0} (f : Y → List Z) (g : X → Y) (xs : List X) (ys : List Y) (n : ℕ) (x : X) → map g xs ≡ ys → flat_map f ys ≡ [] → n < length xs → x ≡ slice_index_or xs n x → f (g x) ≡ []
kept_at f g [] ys n x same e below is = absurd (omega arith)
kept_at f g (z ∷ zs) ys zero x same e below is =
    let all : f (g z) ++ flat_map f (map g zs) ≡ [] = ap (flat_map f) same ∙ e in
    subst (λ y. f (g y) ≡ []) (sym is) (left_none (f (g z)) (flat_map f (map g zs)) all)
kept_at f g (z ∷ zs) ys (suc n) x same e below is =
    let all : f (g z) ++ flat_map f (map g zs) ≡ [] = ap (flat_map f) same ∙ e in
    kept_at f g zs (map g zs) n x refl (right_none (f (g z)) (flat_map f (map g zs)) all) (omega arith) is
