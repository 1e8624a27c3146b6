-- Lists whose items have numbers, each once, in ascending order: an item in its place, and what is found of a number.
use Rattle.std.proofs.Common.{◌≡◌, ◌≢◌, ◌⊎◌, ℕ, zero, suc, ◌-◌, ◌<◌, ◌≤◌, Bool, true, false, cond, List, [], ◌∷◌, ◌++◌, length, get_or, set, drop, insert, refl, sym, ap, subst, ◌∙◌, inl, inr, ⊎_elim, filter, All, arith}
use Rattle.std.proofs.lemmas.List.Elements.{All-head, All-tail}
use Rattle.std.proofs.lemmas.List.Sums.{fold-append}
use Rattle.std.specs.List.{AllPairs, fold}
use Rattle.ruby_value.specs.declared.message.MsgNo.{MsgNo}
use Rattle.ruby_value.specs.Prelude.{IsBefore, inserted, number_before, same_number}
use Rattle.ruby_value.proofs.Fronts.{number-comes}
use Rattle.ruby_value.proofs.Ordered.{AllPairs-insert}
use Rattle.stall_map.specs.Prelude.{IsSplit}
use Rattle.stall_map.proofs.Numbers.{All-back, Climbs, at-or-above, before-else, before-is, differ-is, far, not-back, not-itself, not-same, not-same-back, same-is, same-itself}
use Rattle.stall_map.proofs.Placed.{filter-all, filter-none, placed}

-- an item in the place of one that neither comes before it nor after it
module _ {X : Type 0} (before : X → X → Bool) (m : X) where
  pub record IsHere (xs : List X) (at : ℕ) : Type 0 where
    pub within : at < length xs
    pub below : (k : ℕ) (d : X) → k < at → before (get_or xs k d) m ≡ true
    pub not_above : (k : ℕ) (d : X) → k ≤ at → before m (get_or xs k d) ≡ false
    pub not_here : (d : X) → before (get_or xs at d) m ≡ false
    pub above : (k : ℕ) (d : X) → at < k → k < length xs → before m (get_or xs k d) ≡ true
    pub not_below : (k : ℕ) (d : X) → at < k → k < length xs → before (get_or xs k d) m ≡ false

  further : (x : X) (xs : List X) (at : ℕ) → IsHere (x ∷ xs) (suc at) → IsHere xs at
  further x xs at is = record {
    within = omega (arith, is.within);
    below = λ k d lt. is.below (suc k) d (omega arith);
    not_above = λ k d le. is.not_above (suc k) d (omega arith);
    not_here = λ d. is.not_here d;
    above = λ k d le lt. is.above (suc k) d (omega arith) (omega arith);
    not_below = λ k d le lt. is.not_below (suc k) d (omega arith) (omega arith);
  }

  pub replaced : (xs : List X) (at : ℕ) → IsHere xs at → set xs at m ≡ inserted before xs m
  replaced [] at is = absurd (omega (arith, is.within))
  replaced (x ∷ xs) zero is =
      rw (
        is.not_here x,
        is.not_above 0 x (omega arith),
        filter-none (λ o. before o m) xs (λ k d lt. is.not_below (suc k) d (omega arith) (omega arith)),
        filter-all (λ o. before m o) xs (λ k d lt. is.above (suc k) d (omega arith) (omega arith)),
      ) refl
  replaced (x ∷ xs) (suc at) is =
      rw (is.below 0 x (omega arith), is.not_above 0 x (omega arith)) (ap (λ z. x ∷ z) (replaced xs at (further x xs at is)))

module _ {X : Type 0} (number_of : X → MsgNo) where
  abbrev pub comes : X → X → Bool
  comes a b = number_before (number_of a) (number_of b)

  abbrev pub Rise : List X → Type 0
  Rise xs = AllPairs (λ (a b : X). IsBefore (number_of a) (number_of b)) xs

  pub climbs : (xs : List X) → Rise xs → Climbs number_of xs
  climbs xs rise i j d lt within = not-back (number_of (get_or xs i d)) (number_of (get_or xs j d)) (rise i j d lt within)

  pub rise-with : (xs : List X) (x : X) → Rise xs → Rise (inserted comes xs x)
  rise-with xs x rise =
      AllPairs-insert (λ (a b : X). IsBefore (number_of a) (number_of b)) (λ a b c ab bc. far (number_of a) (number_of b) (number_of c) ab bc)
      (λ o. comes o x) (λ o. comes x o) x (λ a is. number-comes (number_of a) (number_of x) is) (λ b is. number-comes (number_of x) (number_of b) is) xs rise

  module _ (xs : List X) (n : MsgNo) (at : ℕ) (rise : Rise xs) (split : IsSplit number_of n xs at) where
    last-one : (k : ℕ) → k < at → (k < at - 1) ⊎ (at - 1 ≡ k)
    last-one k lt = grind (arith, lt)

    -- before the last one of those up to the number, each comes before it
    under-last : (k : ℕ) (d : X) → k < at - 1 → IsBefore (number_of (get_or xs k d)) n
    under-last k d lt =
        let last = number_of (get_or xs (at - 1) d) in
        let up : IsBefore (number_of (get_or xs k d)) last = rise k (at - 1) d lt (omega (arith, split.within)) in
        ⊎_elim
        (λ (same : last ≡ n). subst (IsBefore (number_of (get_or xs k d))) same up)
        (λ (other : last ≢ n). far (number_of (get_or xs k d)) last n up (before-else last n other (split.below (at - 1) d (omega arith))))
        (same-or-not last n)
      where
        same-or-not : (a b : MsgNo) → (a ≡ b) ⊎ (a ≢ b)
        same-or-not a b = by (same_number a b) refl
          where
            by : (t : Bool) → same_number a b ≡ t → (a ≡ b) ⊎ (a ≢ b)
            by true is = inl (same-is a b is)
            by false is = inr (differ-is a b is)

    -- the number isn't there
    module _ (apart : (d : X) → 0 < at → number_of (get_or xs (at - 1) d) ≢ n) where
      pub under : (k : ℕ) (d : X) → k < at → IsBefore (number_of (get_or xs k d)) n
      under k d lt =
          ⊎_elim
          (λ (earlier : k < at - 1). under-last k d earlier)
          (λ (it : at - 1 ≡ k).
          subst (λ j. IsBefore (number_of (get_or xs j d)) n) it
          (before-else (number_of (get_or xs (at - 1) d)) n (apart d (omega arith)) (split.below (at - 1) d (omega arith))))
          (last-one k lt)

      pub put-new : (x : X) → number_of x ≡ n → insert xs at x ≡ inserted comes xs x
      put-new x is =
          placed comes x xs at (record {
            within = split.within;
            below = λ k d lt. before-is (number_of (get_or xs k d)) (number_of x) (subst (IsBefore (number_of (get_or xs k d))) (sym is) (under k d lt));
            not_above = λ k d lt. not-back (number_of (get_or xs k d)) (number_of x) (subst (IsBefore (number_of (get_or xs k d))) (sym is) (under k d lt));
            above = λ k d le lt. subst (λ (z : MsgNo). number_before z (number_of (get_or xs k d)) ≡ true) (sym is) (split.above k d le lt);
            not_below = λ k d le lt.
                not-back (number_of x) (number_of (get_or xs k d))
                (number-comes (number_of x) (number_of (get_or xs k d)) (subst (λ (z : MsgNo). number_before z (number_of (get_or xs k d)) ≡ true) (sym is) (split.above k d le lt)));
          })

      pub none-same : All (λ (x : X). same_number (number_of x) n ≡ false) xs
      none-same k d lt =
          ⊎_elim
          (λ (less : k < at). not-same (number_of (get_or xs k d)) n (under k d less))
          (λ (ge : at ≤ k). not-same-back (number_of (get_or xs k d)) n (number-comes n (number_of (get_or xs k d)) (split.above k d ge lt)))
          (at-or-above k at)

    -- the number is that of the last one of those up to it
    module _ (positive : 0 < at) (same : (d : X) → number_of (get_or xs (at - 1) d) ≡ n) where
      pub put-again : (x : X) → number_of x ≡ n → set xs (at - 1) x ≡ inserted comes xs x
      put-again x is =
          replaced comes x xs (at - 1) (record {
            within = omega (arith, split.within);
            below = λ k d lt. before-is (number_of (get_or xs k d)) (number_of x) (subst (IsBefore (number_of (get_or xs k d))) (sym is) (under-last k d lt));
            not_above = λ k d le. subst (λ (z : MsgNo). number_before z (number_of (get_or xs k d)) ≡ false) (sym is) (split.below k d (omega arith));
            not_here = λ d. subst (λ (z : MsgNo). number_before z (number_of x) ≡ false) (sym (same d)) (subst (λ (z : MsgNo). number_before n z ≡ false) (sym is) (not-itself n));
            above = λ k d le lt. subst (λ (z : MsgNo). number_before z (number_of (get_or xs k d)) ≡ true) (sym is) (split.above k d (omega arith) lt);
            not_below = λ k d le lt.
                not-back (number_of x) (number_of (get_or xs k d))
                (number-comes (number_of x) (number_of (get_or xs k d)) (subst (λ (z : MsgNo). number_before z (number_of (get_or xs k d)) ≡ true) (sym is) (split.above k d (omega arith) lt)));
          })

      pub later-differ : All (λ (x : X). same_number (number_of x) n ≡ false) (drop at xs)
      later-differ =
          All-back (λ (x : X). same_number (number_of x) n ≡ false) xs at
          (λ k d le lt. not-same-back (number_of (get_or xs k d)) n (number-comes n (number_of (get_or xs k d)) (split.above k d le lt)))

  module _ {V : Type 0} (value_of : X → V) (n : MsgNo) where
    abbrev newer : V → X → V
    newer v x = cond (same_number (number_of x) n) (value_of x) v

    -- what is found of a number: what its item has, or what was there before
    abbrev pub found : List X → V → V
    found xs v = fold newer v xs

    pub found-none : (xs : List X) (v : V) → All (λ (x : X). same_number (number_of x) n ≡ false) xs → found xs v ≡ v
    found-none [] v all = refl
    found-none (x ∷ xs) v all =
        ap (found xs) (ap (λ b. cond b (value_of x) v) (All-head (λ (y : X). same_number (number_of y) n ≡ false) x xs all))
        ∙ found-none xs v (All-tail (λ (y : X). same_number (number_of y) n ≡ false) x xs all)

    pub found-at : (xs : List X) (v : V) (at : ℕ) (d : X) → at < length xs → number_of (get_or xs at d) ≡ n
        → All (λ (x : X). same_number (number_of x) n ≡ false) (drop (suc at) xs) → found xs v ≡ value_of (get_or xs at d)
    found-at [] v at d within is all = absurd (omega arith)
    found-at (x ∷ xs) v zero d within is all =
        ap (found xs) (ap (λ b. cond b (value_of x) v) (subst (λ (z : MsgNo). same_number z n ≡ true) (sym is) (same-itself n)))
        ∙ found-none xs (value_of x) all
    found-at (x ∷ xs) v (suc at) d within is all = found-at xs (newer v x) at d (omega arith) is all

    -- a test that all items of the number pass keeps what is found of it, and one that none passes drops it
    kept-one : (p : X → Bool) (x : X) (xs : List X) (v : V) → (number_of x ≡ n → p x ≡ true) → ((w : V) → found (filter p xs) w ≡ found xs w)
        → (a b : Bool) → p x ≡ a → same_number (number_of x) n ≡ b → found (cond a (x ∷ filter p xs) (filter p xs)) v ≡ found xs (cond b (value_of x) v)
    kept-one p x xs v passes rest true b is same = ap (λ t. found (filter p xs) (cond t (value_of x) v)) same ∙ rest (cond b (value_of x) v)
    kept-one p x xs v passes rest false true is same = let yes : p x ≡ true = passes (same-is (number_of x) n same) in absurd (cc (is, yes))
    kept-one p x xs v passes rest false false is same = rest v

    pub found-kept : (p : X → Bool) → ((x : X) → number_of x ≡ n → p x ≡ true) → (xs : List X) (v : V) → found (filter p xs) v ≡ found xs v
    found-kept p passes [] v = refl
    found-kept p passes (x ∷ xs) v =
        kept-one p x xs v (passes x) (λ w. found-kept p passes xs w) (p x) (same_number (number_of x) n) refl refl

    dropped-one : (p : X → Bool) (x : X) (xs : List X) (v : V) → (number_of x ≡ n → p x ≡ false) → found (filter p xs) v ≡ v
        → (a b : Bool) → p x ≡ a → same_number (number_of x) n ≡ b → found (cond a (x ∷ filter p xs) (filter p xs)) v ≡ v
    dropped-one p x xs v fails rest true true is same = let no : p x ≡ false = fails (same-is (number_of x) n same) in absurd (cc (is, no))
    dropped-one p x xs v fails rest true false is same = ap (λ t. found (filter p xs) (cond t (value_of x) v)) same ∙ rest
    dropped-one p x xs v fails rest false b is same = rest

    pub found-dropped : (p : X → Bool) → ((x : X) → number_of x ≡ n → p x ≡ false) → (xs : List X) (v : V) → found (filter p xs) v ≡ v
    found-dropped p fails [] v = refl
    found-dropped p fails (x ∷ xs) v =
        dropped-one p x xs v (fails x) (found-dropped p fails xs v) (p x) (same_number (number_of x) n) refl refl

    pub found-append : (xs ys : List X) (v : V) → found (xs ++ ys) v ≡ found ys (found xs v)
    found-append xs ys v = fold-append newer v xs ys

    -- an item in its place is what is found of its number
    module _ (xs : List X) (x : X) (v : V) where
      abbrev low : X → Bool
      low o = comes o x

      abbrev high : X → Bool
      high o = comes x o

      parts : found (inserted comes xs x) v ≡ found (filter high xs) (newer (found (filter low xs) v) x)
      parts = found-append (filter (λ o. comes o x) xs) (x ∷ filter (λ o. comes x o) xs) v

      not-high : number_of x ≡ n → (o : X) → number_of o ≡ n → high o ≡ false
      not-high is o same = subst (λ (z : MsgNo). number_before z (number_of o) ≡ false) (sym is) (subst (λ (z : MsgNo). number_before n z ≡ false) (sym same) (not-itself n))

      low-at : IsBefore n (number_of x) → (o : X) → number_of o ≡ n → low o ≡ true
      low-at lt o same = subst (λ (z : MsgNo). number_before z (number_of x) ≡ true) (sym same) (before-is n (number_of x) lt)

      high-not : IsBefore n (number_of x) → (o : X) → number_of o ≡ n → high o ≡ false
      high-not lt o same = subst (λ (z : MsgNo). number_before (number_of x) z ≡ false) (sym same) (not-back n (number_of x) lt)

      low-not : IsBefore (number_of x) n → (o : X) → number_of o ≡ n → low o ≡ false
      low-not gt o same = subst (λ (z : MsgNo). number_before z (number_of x) ≡ false) (sym same) (not-back (number_of x) n gt)

      high-at : IsBefore (number_of x) n → (o : X) → number_of o ≡ n → high o ≡ true
      high-at gt o same = subst (λ (z : MsgNo). number_before (number_of x) z ≡ true) (sym same) (before-is (number_of x) n gt)

      between : (w : V) → same_number (number_of x) n ≡ false → newer w x ≡ w
      between w differ = ap (λ b. cond b (value_of x) w) differ

      apart : same_number (number_of x) n ≡ false → IsBefore n (number_of x) ⊎ (number_before n (number_of x) ≡ false) → found (inserted comes xs x) v ≡ found xs v
      apart differ (inl lt) =
          parts ∙ (found-dropped high (high-not lt) xs (newer (found (filter low xs) v) x) ∙ (between (found (filter low xs) v) differ ∙ found-kept low (low-at lt) xs v))
      apart differ (inr not) =
          let gt : IsBefore (number_of x) n = before-else (number_of x) n (differ-is (number_of x) n differ) not in
          parts ∙ (ap (found (filter high xs)) (between (found (filter low xs) v) differ ∙ found-dropped low (low-not gt) xs v) ∙ found-kept high (high-at gt) xs v)

      comes-or-not : (a b : MsgNo) → IsBefore a b ⊎ (number_before a b ≡ false)
      comes-or-not a b = test (number_before a b) refl
        where
          test : (t : Bool) → number_before a b ≡ t → IsBefore a b ⊎ (number_before a b ≡ false)
          test true is = inl (number-comes a b is)
          test false is = inr is

      by : (b : Bool) → same_number (number_of x) n ≡ b → found (inserted comes xs x) v ≡ cond b (value_of x) (found xs v)
      by true is =
          parts
          ∙ (found-dropped high (not-high (same-is (number_of x) n is)) xs (newer (found (filter low xs) v) x)
          ∙ ap (λ b. cond b (value_of x) (found (filter low xs) v)) is)
      by false is = apart is (comes-or-not n (number_of x))

      pub found-with : found (inserted comes xs x) v ≡ cond (same_number (number_of x) n) (value_of x) (found xs v)
      found-with = by (same_number (number_of x) n) refl
