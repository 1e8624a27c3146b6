-- Lists of what is seen, and the parts of what a machine declares.
use Rattle.std.proofs.Common.{◌≡◌, ◌++◌, ◌+◌, ◌<◌, ◌≤◌, ℕ, zero, suc, All, Bool, Bor, not, cond, length, Option, None, Some, List, [], ◌∷◌, filter, flat_map, map, refl, slice_index_or, subst, sym, ◌∙◌, ap, arith}
use Rattle.std.specs.Prelude.{IfSome, position}
use Rattle.std.specs.List.{prefix_len}
use Rattle.std.proofs.lemmas.List.Elements.{All-head, All-tail, filter-append}
use Rattle.std.proofs.lemmas.List.{length-map, map-append}
use Rattle.std.proofs.lemmas.List.Quantifiers.{position-Some}
use Rattle.slicc_ast.specs.declared.tree.machine.Machine.{Machine}
use Rattle.slicc_ast.specs.declared.tree.machine.Parameter.{Parameter}
use Rattle.slicc_plan.specs.Prelude.{machine, named_declarations, parameter, within, made_in, made_with_its_own}
use Rattle.type_numbers.specs.declared.numbering.TypeSort.{TypeSort}
use Rattle.type_numbers.specs.declared.numbering.TypeSort.TheVariants.{Enumeration, Structure}
use Rattle.type_numbers.specs.Prelude.{has_sort}

prefix_len_map : {X Y : Type 0} (p : Y → Bool) (f : X → Y) (xs : List X) → prefix_len p (map f xs) ≡ prefix_len (λ x. p (f x)) xs
prefix_len_map p f [] = refl
prefix_len_map p f (x ∷ xs) = ap (λ n. cond (p (f x)) (1 + n) 0) (prefix_len_map p f xs)

pub position_map : {X Y : Type 0} (p : Y → Bool) (f : X → Y) (xs : List X) → position p (map f xs) ≡ position (λ x. p (f x)) xs
position_map p f xs = rw (prefix_len_map (λ y. not (p y)) f xs, length-map xs f) refl

-- what is found of each list apart
pub filter_flat_map : {X Y : Type 0} (p : Y → Bool) (f : X → List Y) (xs : List X) → filter p (flat_map f xs) ≡ flat_map (λ x. filter p (f x)) xs
filter_flat_map p f [] = refl
filter_flat_map p f (x ∷ xs) = filter-append p (f x) (flat_map f xs) ∙ ap (λ ys. filter p (f x) ++ ys) (filter_flat_map p f xs)

-- no parameter declares a type
no_parameter : (sort : TypeSort) (m : Machine) (ps : List Parameter) → filter (has_sort sort) (map (made_in (within m)) (map parameter ps)) ≡ []
no_parameter sort m [] = refl
no_parameter Enumeration m (p ∷ ps) = no_parameter Enumeration m ps
no_parameter Structure m (p ∷ ps) = no_parameter Structure m ps

map_flat_map : {X Y Z : Type 0} (g : Y → Z) (f : X → List Y) (xs : List X) → map g (flat_map f xs) ≡ flat_map (λ x. map g (f x)) xs
map_flat_map g f [] = refl
map_flat_map g f (x ∷ xs) = map-append g (f x) (flat_map f xs) ∙ ap (λ ys. map g (f x) ++ ys) (map_flat_map g f xs)

its_own : (sort : TypeSort) (m : Machine) → filter (has_sort sort) (map (made_in (within m)) (map parameter m.parameters ++ flat_map named_declarations m.declarations)) ≡ flat_map (λ d. filter (has_sort sort) (map (made_in (within m)) (named_declarations d))) m.declarations
its_own sort m =
    ap (filter (has_sort sort)) (map-append (made_in (within m)) (map parameter m.parameters) (flat_map named_declarations m.declarations))
    ∙ filter-append (has_sort sort) (map (made_in (within m)) (map parameter m.parameters)) (map (made_in (within m)) (flat_map named_declarations m.declarations))
    ∙ ap (λ ys. ys ++ filter (has_sort sort) (map (made_in (within m)) (flat_map named_declarations m.declarations))) (no_parameter sort m m.parameters)
    ∙ ap (filter (has_sort sort)) (map_flat_map (made_in (within m)) named_declarations m.declarations)
    ∙ filter_flat_map (has_sort sort) (λ d. map (made_in (within m)) (named_declarations d)) m.declarations

-- of what a machine declares only its declarations behind the parameters may be types
pub machine_types : (sort : TypeSort) (m : Machine) → filter (has_sort sort) (made_with_its_own (machine m)) ≡ flat_map (λ d. filter (has_sort sort) (map (made_in (within m)) (named_declarations d))) m.declarations
machine_types Enumeration m = its_own Enumeration m
machine_types Structure m = its_own Structure m

-- what is put into an empty list
pub from_nothing : {X Y : Type 0} (f : X → Y) (new : List Y) (old : List X) (more : List Y) → old ≡ [] → new ≡ map f old ++ more → new ≡ more
from_nothing f new old more e g = g ∙ ap (λ xs. map f xs ++ more) e

-- a place that is found is one of the list
pub position_within : {X : Type 0} (p : X → Bool) (xs : List X) (o : Option ℕ) → o ≡ position p xs → IfSome o (λ n. n < length xs)
position_within p xs None e = tt
position_within p [] (Some n) e = absurd (cc e)
position_within p (x ∷ xs) (Some n) e = (position-Some p (x ∷ xs) n x (sym e)).0

-- which has a number of 16 bits, where the list is short
pub numbered_within : (o : Option ℕ) (n : ℕ) → n ≤ 65535 → IfSome o (λ k. k < n) → IfSome o (λ k. k ≤ 65535)
numbered_within None n few h = tt
numbered_within (Some k) n few h = omega arith

-- what is seen is as much as there is
pub few_seen : {X Y : Type 0} (f : X → Y) (xs : List X) (ys : List Y) (n : ℕ) → map f xs ≡ ys → length ys ≤ n → length xs ≤ n
few_seen f xs ys n e few = omega (arith, length-map xs f, ap length e)

-- what holds of all that is seen holds of one
pub seen_at : {X Y : Type 0} (P : Y → Type 0) (f : X → Y) (xs : List X) (n : ℕ) (x : X) → All P (map f xs) → n < length xs → x ≡ slice_index_or xs n x → P (f x)
seen_at P f [] n x all below is = absurd (omega arith)
seen_at P f (y ∷ ys) zero x all below is = subst (λ z. P (f z)) (sym is) (All-head P (f y) (map f ys) all)
seen_at P f (y ∷ ys) (suc n) x all below is = seen_at P f ys n x (All-tail P (f y) (map f ys) all) (omega arith) is

pub machine_texts : (ms : List (Bor Machine)) → map (λ (m : Bor Machine). m.now.name.text) ms ≡ map (λ (m : Machine). m.name.text) (map (λ (m : Bor Machine). m.now) ms)
machine_texts [] = refl
machine_texts (m ∷ ms) = ap (λ (texts : List (List ℕ)). m.now.name.text ∷ texts) (machine_texts ms)
