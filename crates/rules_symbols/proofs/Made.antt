-- What a name finds among things that are made of declarations, at most one of each.
use Rattle.std.proofs.Common.{◌≡◌, ◌∙◌, ◌+◌, ℕ, zero, suc, Bool, true, None, Some, List, [], ◌∷◌, flat_map, position, slice_get, refl, sym, ap, subst, arith, inl, inr}
use Rattle.std.specs.Prelude.{◌⊎◌}
use Rattle.std.proofs.lemmas.Bool.{false_from_ne_true}
use Rattle.slicc_plan.specs.SymbolsOfMachines.{numbered_from}
use Rattle.slicc_plan.proofs.There.{There, there_first, there_flat, there_left, there_right}
use Rattle.rules_symbols.proofs.Lists.{flat_there, position_none, position_some, position_there, there_append}

pub only_there : {Y : Type 0} (y z : Y) → There (y ∷ []) z → y ≡ z
only_there y z (zero, is) = cc is
only_there y z (suc j, is) = absurd (cc is)

pub none_there : {Y : Type 0} (ys : List Y) (y : Y) → ys ≡ [] → There ys y → ⊥
none_there [] y is there = cc there.1
none_there (z ∷ ys) y is there = cc is

module _ {X Y : Type 0} (f : X → List Y) (p : X → Bool) (q : Y → Bool) (alike : (x : X) (y : Y) → There (f x) y → q y ≡ p x) where
  pub named_none : (xs : List X) → ((x : X) → There xs x → p x ≡ true → f x ≡ []) → position q (flat_map f xs) ≡ None
  named_none xs none =
      position_none q (flat_map f xs)
      (λ y there. false_from_ne_true (q y)
      (λ passes.
      let from = flat_there f xs y there in
      none_there (f from.0) y (none from.0 from.1 (sym (alike from.0 y from.2) ∙ passes)) from.2))

  pub named_some : (xs : List X) (x : X) (y : Y) → There xs x → p x ≡ true → f x ≡ y ∷ [] → ((z : X) → There xs z → p z ≡ true → z ≡ x)
      → (n : ℕ) × (position q (flat_map f xs) ≡ Some n) × (slice_get (flat_map f xs) n ≡ Some y)
  named_some xs x y there passes made only =
      let in_one : There (f x) y = subst (λ (ys : List Y). There ys y) (sym made) (there_first y []) in
      let found = position_some q (flat_map f xs) y (there_flat f xs x y there in_one) (alike x y in_one ∙ passes) in
      let place = position_there q (flat_map f xs) found.0 found.1 in
      let from = flat_there f xs place.0 (found.0, place.1) in
      let same : from.0 ≡ x = only from.0 from.1 (sym (alike from.0 place.0 from.2) ∙ place.2) in
      let is : y ≡ place.0 = only_there y place.0 (subst (λ (ys : List Y). There ys place.0) (ap f same ∙ made) from.2) in
      (found.0, found.1, place.1 ∙ ap Some (sym is))

module _ {X Y : Type 0} (f : ℕ → X → List Y) where
  pub numbered_there : (n : ℕ) (xs : List X) (y : Y) → There (numbered_from f n xs) y → (j : ℕ) × (x : X) × (slice_get xs j ≡ Some x) × There (f (n + j) x) y
  numbered_there n [] y there = absurd (cc there.1)
  numbered_there n (x ∷ xs) y there = by (λ rest. numbered_there (n + 1) xs y rest) (there_append (f n x) (numbered_from f (n + 1) xs) y there)
    where
      by : (There (numbered_from f (n + 1) xs) y → (j : ℕ) × (z : X) × (slice_get xs j ≡ Some z) × There (f (n + 1 + j) z) y) → There (f n x) y ⊎ There (numbered_from f (n + 1) xs) y
          → (j : ℕ) × (z : X) × (slice_get (x ∷ xs) j ≡ Some z) × There (f (n + j) z) y
      by in_rest (inl here) = let same : n ≡ n + 0 = omega arith in (0, x, refl, subst (λ (i : ℕ). There (f i x) y) same here)
      by in_rest (inr later) =
          let rest = in_rest later in
          let same : n + 1 + rest.0 ≡ n + suc rest.0 = omega arith in
          (suc rest.0, rest.1, rest.2, subst (λ (i : ℕ). There (f i rest.1) y) same rest.3)

  pub there_numbered : (n : ℕ) (xs : List X) (j : ℕ) (x : X) (y : Y) → slice_get xs j ≡ Some x → There (f (n + j) x) y → There (numbered_from f n xs) y
  there_numbered n [] j x y at there = absurd (cc at)
  there_numbered n (z ∷ zs) zero x y at there =
      let one : z ≡ x = cc at in
      let same : n + 0 ≡ n = omega arith in
      there_left (f n z) (numbered_from f (n + 1) zs) y (subst (λ (w : X). There (f n w) y) (sym one) (subst (λ (i : ℕ). There (f i x) y) same there))
  there_numbered n (z ∷ zs) (suc j) x y at there =
      let same : n + suc j ≡ n + 1 + j = omega arith in
      there_right (f n z) (numbered_from f (n + 1) zs) y (there_numbered (n + 1) zs j x y at (subst (λ (i : ℕ). There (f i x) y) same there))

  module _ (p : X → Bool) (q : Y → Bool) (alike : (j : ℕ) (x : X) (y : Y) → There (f j x) y → q y ≡ p x) where
    pub numbered_none : (xs : List X) → ((x : X) → There xs x → p x ≡ true → (j : ℕ) → f j x ≡ []) → position q (numbered_from f 0 xs) ≡ None
    numbered_none xs none =
        position_none q (numbered_from f 0 xs)
        (λ y there. false_from_ne_true (q y)
        (λ passes.
        let from = numbered_there 0 xs y there in
        none_there (f (0 + from.0) from.1) y (none from.1 (from.0, from.2) (sym (alike (0 + from.0) from.1 y from.3) ∙ passes) (0 + from.0)) from.3))

    pub numbered_some : (xs : List X) (x : X) → There xs x → p x ≡ true → ((j : ℕ) → (y : Y) × (f j x ≡ y ∷ [])) → ((z : X) → There xs z → p z ≡ true → z ≡ x)
        → (n : ℕ) × (j : ℕ) × (y : Y) × (position q (numbered_from f 0 xs) ≡ Some n) × (slice_get (numbered_from f 0 xs) n ≡ Some y) × (slice_get xs j ≡ Some x) × (f j x ≡ y ∷ [])
    numbered_some xs x there passes made only =
        let first = made (0 + there.0) in
        let in_one : There (f (0 + there.0) x) first.0 = subst (λ (ys : List Y). There ys first.0) (sym first.1) (there_first first.0 []) in
        let found = position_some q (numbered_from f 0 xs) first.0 (there_numbered 0 xs there.0 x first.0 there.1 in_one) (alike (0 + there.0) x first.0 in_one ∙ passes) in
        let place = position_there q (numbered_from f 0 xs) found.0 found.1 in
        let from = numbered_there 0 xs place.0 (found.0, place.1) in
        let same : from.1 ≡ x = only from.1 (from.0, from.2) (sym (alike (0 + from.0) from.1 place.0 from.3) ∙ place.2) in
        let zero_less : 0 + from.0 ≡ from.0 = omega arith in
        let its = made from.0 in
        let is : its.0 ≡ place.0 = only_there its.0 place.0 (subst (λ (ys : List Y). There ys place.0) (ap (λ (i : ℕ). f i from.1) zero_less ∙ ap (f from.0) same ∙ its.1) from.3) in
        (found.0, from.0, place.0, found.1, place.1, from.2 ∙ ap Some same, its.1 ∙ ap (λ (y : Y). y ∷ []) is)
