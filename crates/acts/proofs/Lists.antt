-- Lists that are filtered, and an item that is put into one that ascends: which of these steps may be swapped.
use Rattle.std.proofs.Common.{◌≡◌, Bool, true, false, cond, List, [], ◌∷◌, ◌++◌, map, filter, All, ◌⊎◌, ⊎_elim, refl, sym, ap, ◌∙◌, append_assoc}
use Rattle.std.proofs.lemmas.List.Elements.{All-head, All-tail, All-weaker, filter-append}
use Rattle.std.proofs.lemmas.List.{append-nil, map-append}
use Rattle.std.specs.List.{AllPairs}
use Rattle.ruby_value.proofs.Ordered.{AllPairs-head, AllPairs-tail}
use Rattle.ruby_value.specs.Prelude.{inserted}

module _ {X : Type 0} (p q : X → Bool) where
  -- filters may be swapped
  pub filters_swap : (xs : List X) → filter p (filter q xs) ≡ filter q (filter p xs)
  filters_swap [] = refl
  filters_swap (x ∷ xs) = go (filters_swap xs) (p x) (q x) refl refl
    where
      go : filter p (filter q xs) ≡ filter q (filter p xs) → (b c : Bool) → p x ≡ b → q x ≡ c → filter p (cond c (x ∷ filter q xs) (filter q xs)) ≡ filter q (cond b (x ∷ filter p xs) (filter p xs))
      go rest true true is_p is_q = ap (λ (t : Bool). cond t (x ∷ filter p (filter q xs)) (filter p (filter q xs))) is_p ∙ ap (λ (ys : List X). x ∷ ys) rest ∙ ap (λ (t : Bool). cond t (x ∷ filter q (filter p xs)) (filter q (filter p xs))) (sym is_q)
      go rest true false is_p is_q = rest ∙ ap (λ (t : Bool). cond t (x ∷ filter q (filter p xs)) (filter q (filter p xs))) (sym is_q)
      go rest false true is_p is_q = ap (λ (t : Bool). cond t (x ∷ filter p (filter q xs)) (filter p (filter q xs))) is_p ∙ rest
      go rest false false is_p is_q = rest

  -- nothing passes two tests of which the one refuses what the other lets through
  pub none_left : ((x : X) → q x ≡ true → p x ≡ false) → (xs : List X) → filter p (filter q xs) ≡ []
  none_left apart [] = refl
  none_left apart (x ∷ xs) = go (none_left apart xs) (q x) refl
    where
      go : filter p (filter q xs) ≡ [] → (c : Bool) → q x ≡ c → filter p (cond c (x ∷ filter q xs) (filter q xs)) ≡ []
      go rest true is = ap (λ (t : Bool). cond t (x ∷ filter p (filter q xs)) (filter p (filter q xs))) (apart x is) ∙ rest
      go rest false is = rest

module _ {X : Type 0} (p : X → Bool) where
  pub all_left : (xs : List X) → All (λ x. p x ≡ true) xs → filter p xs ≡ xs
  all_left [] all = refl
  all_left (x ∷ xs) all =
      ap (λ (t : Bool). cond t (x ∷ filter p xs) (filter p xs)) (All-head (λ y. p y ≡ true) x xs all)
      ∙ ap (λ (ys : List X). x ∷ ys) (all_left xs (All-tail (λ y. p y ≡ true) x xs all))

  pub none_passes : (xs : List X) → All (λ x. p x ≡ false) xs → filter p xs ≡ []
  none_passes [] all = refl
  none_passes (x ∷ xs) all =
      ap (λ (t : Bool). cond t (x ∷ filter p xs) (filter p xs)) (All-head (λ y. p y ≡ false) x xs all)
      ∙ none_passes xs (All-tail (λ y. p y ≡ false) x xs all)

  -- a change that the test doesn't see
  pub filter_map_swap : (change : X → X) → ((x : X) → p (change x) ≡ p x) → (xs : List X) → filter p (map change xs) ≡ map change (filter p xs)
  filter_map_swap change same [] = refl
  filter_map_swap change same (x ∷ xs) = go (filter_map_swap change same xs) (p x) refl
    where
      go : filter p (map change xs) ≡ map change (filter p xs) → (b : Bool) → p x ≡ b → cond (p (change x)) (change x ∷ filter p (map change xs)) (filter p (map change xs)) ≡ map change (cond b (x ∷ filter p xs) (filter p xs))
      go rest true is = ap (λ (t : Bool). cond t (change x ∷ filter p (map change xs)) (filter p (map change xs))) (same x ∙ is) ∙ ap (λ (ys : List X). change x ∷ ys) rest
      go rest false is = ap (λ (t : Bool). cond t (change x ∷ filter p (map change xs)) (filter p (map change xs))) (same x ∙ is) ∙ rest

module _ {X : Type 0} (before : X → X → Bool) where
  -- the item passes the test
  pub filter_put : (p : X → Bool) (xs : List X) (m : X) → p m ≡ true → filter p (inserted before xs m) ≡ inserted before (filter p xs) m
  filter_put p xs m is =
      let low : X → Bool = λ o. before o m in
      let high : X → Bool = λ o. before m o in
      filter-append p (filter low xs) (m ∷ filter high xs)
      ∙ ap (λ (t : Bool). filter p (filter low xs) ++ cond t (m ∷ filter p (filter high xs)) (filter p (filter high xs))) is
      ∙ ap (λ (ys : List X). ys ++ m ∷ filter p (filter high xs)) (filters_swap p low xs)
      ∙ ap (λ (ys : List X). filter low (filter p xs) ++ m ∷ ys) (filters_swap p high xs)

  -- a change that leaves the item and the order
  pub map_put : (change : X → X) (xs : List X) (m : X) → change m ≡ m → ((x : X) → before (change x) m ≡ before x m) → ((x : X) → before m (change x) ≡ before m x)
      → map change (inserted before xs m) ≡ inserted before (map change xs) m
  map_put change xs m same low_same high_same =
      let low : X → Bool = λ o. before o m in
      let high : X → Bool = λ o. before m o in
      map-append change (filter low xs) (m ∷ filter high xs)
      ∙ ap (λ (y : X). map change (filter low xs) ++ y ∷ map change (filter high xs)) same
      ∙ ap (λ (ys : List X). ys ++ m ∷ map change (filter high xs)) (sym (filter_map_swap low change low_same xs))
      ∙ ap (λ (ys : List X). filter low (map change xs) ++ m ∷ ys) (sym (filter_map_swap high change high_same xs))

  -- two items, of which the one comes before the other
  pub puts_swap : (a b : X) → before a b ≡ true → before b a ≡ false → ((x : X) → before x a ≡ true → before b x ≡ false) → (xs : List X)
      → inserted before (inserted before xs a) b ≡ inserted before (inserted before xs b) a
  puts_swap a b first not_after apart xs =
      let below_a : X → Bool = λ o. before o a in
      let above_a : X → Bool = λ o. before a o in
      let below_b : X → Bool = λ o. before o b in
      let above_b : X → Bool = λ o. before b o in
      let low = filter below_a xs in
      let high = filter above_b xs in
      let left_low : filter below_b (inserted before xs a) ≡ filter below_b low ++ a ∷ filter below_b (filter above_a xs) =
      filter-append below_b low (a ∷ filter above_a xs)
      ∙ ap (λ (t : Bool). filter below_b low ++ cond t (a ∷ filter below_b (filter above_a xs)) (filter below_b (filter above_a xs))) first in
      let left_high : filter above_b (inserted before xs a) ≡ filter above_b (filter above_a xs) =
      filter-append above_b low (a ∷ filter above_a xs)
      ∙ ap (λ (t : Bool). filter above_b low ++ cond t (a ∷ filter above_b (filter above_a xs)) (filter above_b (filter above_a xs))) not_after
      ∙ ap (λ (ys : List X). ys ++ filter above_b (filter above_a xs)) (none_left above_b below_a apart xs) in
      let right_low : filter below_a (inserted before xs b) ≡ filter below_a (filter below_b xs) ++ [] =
      filter-append below_a (filter below_b xs) (b ∷ high)
      ∙ ap (λ (t : Bool). filter below_a (filter below_b xs) ++ cond t (b ∷ filter below_a high) (filter below_a high)) not_after
      ∙ ap (λ (ys : List X). filter below_a (filter below_b xs) ++ ys) (filters_swap below_a above_b xs ∙ none_left above_b below_a apart xs) in
      let right_high : filter above_a (inserted before xs b) ≡ filter above_a (filter below_b xs) ++ b ∷ filter above_a high =
      filter-append above_a (filter below_b xs) (b ∷ high)
      ∙ ap (λ (t : Bool). filter above_a (filter below_b xs) ++ cond t (b ∷ filter above_a high) (filter above_a high)) first in
      ap (λ (ys : List X). ys ++ b ∷ filter above_b (inserted before xs a)) left_low
      ∙ ap (λ (ys : List X). (filter below_b low ++ a ∷ filter below_b (filter above_a xs)) ++ b ∷ ys) (left_high ∙ filters_swap above_b above_a xs)
      ∙ ap (λ (ys : List X). (ys ++ a ∷ filter below_b (filter above_a xs)) ++ b ∷ filter above_a high) (filters_swap below_b below_a xs)
      ∙ ap (λ (ys : List X). (filter below_a (filter below_b xs) ++ a ∷ ys) ++ b ∷ filter above_a high) (filters_swap below_b above_a xs)
      ∙ append_assoc (filter below_a (filter below_b xs)) (a ∷ filter above_a (filter below_b xs)) (b ∷ filter above_a high)
      ∙ sym (ap (λ (ys : List X). filter below_a (filter below_b xs) ++ a ∷ ys) right_high)
      ∙ sym (ap (λ (ys : List X). ys ++ a ∷ filter above_a (inserted before xs b)) (right_low ∙ append-nil (filter below_a (filter below_b xs))))

  -- A list that ascends is what comes before an item that isn't in it, and what comes after.
  module _ (one_way : (a b : X) → before a b ≡ true → before b a ≡ false) (goes_on : (a b c : X) → before a b ≡ true → before b c ≡ true → before a c ≡ true) (m : X) where
    pub parted : (xs : List X) → AllPairs (λ a b. before a b ≡ true) xs → All (λ x. (before x m ≡ true) ⊎ (before m x ≡ true)) xs
        → filter (λ o. before o m) xs ++ filter (λ o. before m o) xs ≡ xs
    parted [] ascends apart = refl
    parted (x ∷ xs) ascends apart =
        ⊎_elim
        (λ (low : before x m ≡ true).
        ap (λ (t : Bool). cond t (x ∷ filter (λ o. before o m) xs) (filter (λ o. before o m) xs) ++ filter (λ o. before m o) (x ∷ xs)) low
        ∙ ap (λ (t : Bool). (x ∷ filter (λ o. before o m) xs) ++ cond t (x ∷ filter (λ o. before m o) xs) (filter (λ o. before m o) xs)) (one_way x m low)
        ∙ ap (λ (ys : List X). x ∷ ys) (parted xs (AllPairs-tail (λ a b. before a b ≡ true) x xs ascends) (All-tail (λ y. (before y m ≡ true) ⊎ (before m y ≡ true)) x xs apart)))
        (λ (high : before m x ≡ true).
        let rest : All (λ y. before m y ≡ true) xs = All-weaker (λ y. before x y ≡ true) (λ y. before m y ≡ true) (λ y after. goes_on m x y high after) xs (AllPairs-head (λ a b. before a b ≡ true) x xs ascends) in
        ap (λ (t : Bool). cond t (x ∷ filter (λ o. before o m) xs) (filter (λ o. before o m) xs) ++ filter (λ o. before m o) (x ∷ xs)) (one_way m x high)
        ∙ ap (λ (ys : List X). ys ++ filter (λ o. before m o) (x ∷ xs)) (none_passes (λ o. before o m) xs (All-weaker (λ y. before m y ≡ true) (λ y. before y m ≡ false) (λ y after. one_way m y after) xs rest))
        ∙ ap (λ (t : Bool). cond t (x ∷ filter (λ o. before m o) xs) (filter (λ o. before m o) xs)) high
        ∙ ap (λ (ys : List X). x ∷ ys) (all_left (λ o. before m o) xs rest))
        (All-head (λ y. (before y m ≡ true) ⊎ (before m y ≡ true)) x xs apart)

    -- so what doesn't pass a test may be put in before the test, or not
    pub filter_passes_over : (t : X → Bool) (xs : List X) → t m ≡ false → AllPairs (λ a b. before a b ≡ true) xs → All (λ x. (before x m ≡ true) ⊎ (before m x ≡ true)) xs
        → filter t (inserted before xs m) ≡ filter t xs
    filter_passes_over t xs is ascends apart =
        let low = filter (λ o. before o m) xs in
        let high = filter (λ o. before m o) xs in
        filter-append t low (m ∷ high)
        ∙ ap (λ (b : Bool). filter t low ++ cond b (m ∷ filter t high) (filter t high)) is
        ∙ sym (filter-append t low high)
        ∙ ap (filter t) (parted xs ascends apart)
