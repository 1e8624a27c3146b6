-- What is in a list, and what is declared in a protocol.
use Rattle.std.proofs.Common.{◌≡◌, ◌++◌, ◌+◌, ◌<◌, ℕ, zero, suc, Bool, true, false, cond, Some, List, [], ◌∷◌, All, filter, find, flat_map, get_or, length, map, slice_get, refl, sym, ◌∙◌, ap, subst, arith}
use Rattle.std.proofs.lemmas.Bool.{cond_both}
use Rattle.std.proofs.lemmas.List.Elements.{All-head, All-tail}
use Rattle.std.proofs.lemmas.Option.{slice_get-get_or, slice_get_within}
use Rattle.slicc_ast.specs.declared.tree.item.Tree.{Tree}
use Rattle.slicc_ast.specs.declared.tree.machine.Machine.{Machine}
use Rattle.slicc_plan.specs.Prelude.{Declaration, machine, everywhere, within, global_declarations, machine_declarations, machine_in, made_in, made_with_its_own, scoped_declarations}

pub get_left : {X : Type 0} (xs ys : List X) (n : ℕ) → n < length xs → slice_get (xs ++ ys) n ≡ slice_get xs n
get_left [] ys n lt = absurd (omega arith)
get_left (x ∷ xs) ys zero lt = refl
get_left (x ∷ xs) ys (suc n) lt = get_left xs ys n (omega arith)

pub get_right : {X : Type 0} (xs ys : List X) (n m : ℕ) → n ≡ length xs + m → slice_get (xs ++ ys) n ≡ slice_get ys m
get_right [] ys n m e = let same : n ≡ m = omega arith in ap (slice_get ys) same
get_right (x ∷ xs) ys zero m e = absurd (omega arith)
get_right (x ∷ xs) ys (suc n) m e = get_right xs ys n m (omega arith)

abbrev pub There : {X : Type 0} → List X → X → Type 0
There xs x = (k : ℕ) × (slice_get xs k ≡ Some x)

module _ {X : Type 0} where
  pub there_first : (x : X) (xs : List X) → There (x ∷ xs) x
  there_first x xs = (0, refl)

  pub there_later : (y x : X) (xs : List X) → There xs x → There (y ∷ xs) x
  there_later y x xs there = (suc there.0, there.1)

  pub there_left : (xs ys : List X) (x : X) → There xs x → There (xs ++ ys) x
  there_left xs ys x there = (there.0, get_left xs ys there.0 (slice_get_within xs there.0 x there.1) ∙ there.1)

  pub there_right : (xs ys : List X) (x : X) → There ys x → There (xs ++ ys) x
  there_right xs ys x there = (length xs + there.0, get_right xs ys (length xs + there.0) there.0 refl ∙ there.1)

  pub there_found : (p : X → Bool) (xs : List X) (x : X) → find p xs ≡ Some x → There xs x
  there_found p [] x is = absurd (cc is)
  there_found p (y ∷ ys) x is = by (λ rest. there_found p ys x rest) (p y) is
    where
      by : (find p ys ≡ Some x → There ys x) → (b : Bool) → cond b (Some y) (find p ys) ≡ Some x → There (y ∷ ys) x
      by later true same = (0, same)
      by later false rest = there_later y x ys (later rest)

  pub all_there : (P : X → Type 0) (xs : List X) (x : X) → All P xs → There xs x → P x
  all_there P [] x all there = absurd (cc there.1)
  all_there P (y ∷ ys) x all (zero, at) = let same : y ≡ x = cc at in subst P same (All-head P y ys all)
  all_there P (y ∷ ys) x all (suc k, at) = all_there P ys x (All-tail P y ys all) (k, at)

  pub all_from : (P : X → Type 0) (xs : List X) → ((x : X) → There xs x → P x) → All P xs
  all_from P xs each k d below = each (get_or xs k d) (k, slice_get-get_or xs k d below)

  -- what a search finds passes its test
  pub found_passes : (p : X → Bool) (xs : List X) (x : X) → find p xs ≡ Some x → p x ≡ true
  found_passes p [] x is = absurd (cc is)
  found_passes p (y ∷ ys) x is = by (λ rest. found_passes p ys x rest) (p y) refl is
    where
      by : (find p ys ≡ Some x → p x ≡ true) → (b : Bool) → p y ≡ b → cond b (Some y) (find p ys) ≡ Some x → p x ≡ true
      by later true here same = let equal : y ≡ x = cc same in ap p (sym equal) ∙ here
      by later false here rest = later rest

  pub there_filtered : (p : X → Bool) (xs : List X) (x : X) → There xs x → p x ≡ true → There (filter p xs) x
  there_filtered p [] x there passes = absurd (cc there.1)
  there_filtered p (y ∷ ys) x (zero, at) passes =
      let same : y ≡ x = cc at in
      let first : filter p (y ∷ ys) ≡ y ∷ filter p ys = ap (λ b. cond b (y ∷ filter p ys) (filter p ys)) (ap p same ∙ passes) in
      (0, ap (λ (zs : List X). slice_get zs 0) first ∙ at)
  there_filtered p (y ∷ ys) x (suc k, at) passes =
      let rest = there_filtered p ys x (k, at) passes in
      cond_both (p y) (y ∷ filter p ys) (filter p ys) (λ (zs : List X). There zs x) (λ _. there_later y x (filter p ys) rest) (λ _. rest)

module _ {X Y : Type 0} where
  pub there_mapped : (f : X → Y) (xs : List X) (x : X) → There xs x → There (map f xs) (f x)
  there_mapped f [] x there = absurd (cc there.1)
  there_mapped f (y ∷ ys) x (zero, at) = let same : y ≡ x = cc at in (0, ap (λ (z : X). Some (f z)) same)
  there_mapped f (y ∷ ys) x (suc k, at) = there_later (f y) (f x) (map f ys) (there_mapped f ys x (k, at))

  pub there_flat : (f : X → List Y) (xs : List X) (x : X) (y : Y) → There xs x → There (f x) y → There (flat_map f xs) y
  there_flat f [] x y there at = absurd (cc there.1)
  there_flat f (z ∷ zs) x y (zero, is) at =
      let same : z ≡ x = cc is in
      there_left (f z) (flat_map f zs) y (subst (λ (w : X). There (f w) y) (sym same) at)
  there_flat f (z ∷ zs) x y (suc k, is) at = there_right (f z) (flat_map f zs) y (there_flat f zs x y (k, is) at)

-- a machine of the protocol is declared in it
pub machine_there : (ds : List Declaration) (m : Machine) → There (flat_map machine_in ds) m → There ds (machine m)
machine_there [] m there = absurd (cc there.1)
machine_there (machine n ∷ ds) m (zero, at) = let same : n ≡ m = cc at in (0, ap (λ (x : Machine). Some (machine x)) same)
machine_there (machine n ∷ ds) m (suc k, at) = there_later (machine n) (machine m) ds (machine_there ds m (k, at))
machine_there (d ∷ ds) m there = there_later d (machine m) ds (machine_there ds m there)

pub in_machine : (trees : List Tree) (m : Machine) (d : Declaration) → There (global_declarations trees) (machine m) → There (machine_declarations m) d → There (scoped_declarations trees) (made_in (within m) d)
in_machine trees m d there at =
    there_flat made_with_its_own (global_declarations trees) (machine m) (made_in (within m) d) there
    (there_later (made_in everywhere (machine m)) (made_in (within m) d) (map (made_in (within m)) (machine_declarations m))
    (there_mapped (made_in (within m)) (machine_declarations m) d at))
