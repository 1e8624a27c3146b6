-- Places in lists.
use Rattle.std.proofs.Common.{◌≡◌, ◌∙◌, ◌+◌, ◌≤◌, ◌<◌, ◌++◌, ◌&&◌, ℕ, zero, suc, Bool, true, false, cond, Option, None, Some, List, [], ◌∷◌, All, filter, find, flat_map, length, lt-ltb, ltb, map, not, position, slice_get, refl, sym, ap, subst, arith, option_and_then, inl, inr}
use Rattle.std.specs.Prelude.{◌⊎◌}
use Rattle.std.specs.List.{AllPairs, position_or_len}
use Rattle.std.specs.Option.{option_map, option_or}
use Rattle.std.proofs.lemmas.Bool.{and_parts, false_from_ne_true}
use Rattle.std.proofs.lemmas.List.Elements.{All-tail}
use Rattle.std.proofs.lemmas.List.Folds.{find_at}
use Rattle.std.proofs.lemmas.List.Quantifiers.{position-Some}
use Rattle.ruby_symbols.specs.Numbers.{number_of, short_number}
use Rattle.ruby_value.proofs.Ordered.{AllPairs-head, AllPairs-tail}
use Rattle.slicc_plan.proofs.There.{There, all_there, there_first, there_later}

pub position_cons : {X : Type 0} (p : X → Bool) (x : X) (xs : List X) → position p (x ∷ xs) ≡ cond (p x) (Some 0) (option_map suc (position p xs))
position_cons p x xs = by (p x) (position_or_len p xs) (length xs)
  where
    later : (n l : ℕ) → ltb (1 + n) (suc l) ≡ ltb n l
    later n l = grind arith

    one : (v : Bool) (n : ℕ) → cond v (Some (1 + n)) None ≡ option_map suc (cond v (Some n) None)
    one true n = let same : 1 + n ≡ suc n = omega arith in ap Some same
    one false n = refl

    by : (b : Bool) (n l : ℕ) → cond (ltb (cond (not b) (1 + n) 0) (suc l)) (Some (cond (not b) (1 + n) 0)) None ≡ cond b (Some 0) (option_map suc (cond (ltb n l) (Some n) None))
    by true n l = let below : 0 < suc l = omega arith in ap (λ v. cond v (Some 0) None) (lt-ltb 0 (suc l) below)
    by false n l = ap (λ v. cond v (Some (1 + n)) None) (later n l) ∙ one (ltb n l) n

-- where each passes one test as it passes another
pub position_alike : {X : Type 0} (p q : X → Bool) (xs : List X) → ((x : X) → There xs x → p x ≡ q x) → position p xs ≡ position q xs
position_alike p q [] same = refl
position_alike p q (x ∷ xs) same =
    position_cons p x xs
    ∙ ap (λ b. cond b (Some 0) (option_map suc (position p xs))) (same x (there_first x xs))
    ∙ ap (λ o. cond (q x) (Some 0) (option_map suc o)) (position_alike p q xs (λ y there. same y (there_later x y xs there)))
    ∙ sym (position_cons q x xs)

-- where each makes one, which passes a test as that passes another
pub position_made : {X Y : Type 0} (f : X → List Y) (p : X → Bool) (q : Y → Bool) (xs : List X) → ((x : X) → There xs x → (y : Y) × (f x ≡ y ∷ []) × (q y ≡ p x)) → position q (flat_map f xs) ≡ position p xs
position_made f p q [] same = refl
position_made f p q (x ∷ xs) same =
    let here = same x (there_first x xs) in
    ap (λ ys. position q (ys ++ flat_map f xs)) here.1
    ∙ position_cons q here.0 (flat_map f xs)
    ∙ ap (λ b. cond b (Some 0) (option_map suc (position q (flat_map f xs)))) here.2
    ∙ ap (λ o. cond (p x) (Some 0) (option_map suc o)) (position_made f p q xs (λ y there. same y (there_later x y xs there)))
    ∙ sym (position_cons p x xs)

-- where none passes
pub position_none : {X : Type 0} (p : X → Bool) (xs : List X) → ((x : X) → There xs x → p x ≡ false) → position p xs ≡ None
position_none p [] none = refl
position_none p (x ∷ xs) none =
    position_cons p x xs
    ∙ ap (λ b. cond b (Some 0) (option_map suc (position p xs))) (none x (there_first x xs))
    ∙ ap (option_map suc) (position_none p xs (λ y there. none y (there_later x y xs there)))

pub position_mapped : {X Y : Type 0} (p : Y → Bool) (f : X → Y) (xs : List X) → position p (map f xs) ≡ position (λ x. p (f x)) xs
position_mapped p f [] = refl
position_mapped p f (x ∷ xs) =
    position_cons p (f x) (map f xs) ∙ ap (λ o. cond (p (f x)) (Some 0) (option_map suc o)) (position_mapped p f xs) ∙ sym (position_cons (λ y. p (f y)) x xs)

pub position_append : {X : Type 0} (p : X → Bool) (xs ys : List X) → position p (xs ++ ys) ≡ option_or (position p xs) (option_map (λ n. length xs + n) (position p ys))
position_append p [] ys = by (position p ys)
  where
    by : (o : Option ℕ) → o ≡ option_map (λ n. 0 + n) o
    by None = refl
    by (Some n) = let same : n ≡ 0 + n = omega arith in ap Some same
position_append p (x ∷ xs) ys =
    position_cons p x (xs ++ ys)
    ∙ ap (λ o. cond (p x) (Some 0) (option_map suc o)) (position_append p xs ys)
    ∙ by (p x) (position p xs) (position p ys)
    ∙ ap (λ o. option_or o (option_map (λ n. length (x ∷ xs) + n) (position p ys))) (sym (position_cons p x xs))
  where
    by : (b : Bool) (o u : Option ℕ) → cond b (Some 0) (option_map suc (option_or o (option_map (λ n. length xs + n) u))) ≡ option_or (cond b (Some 0) (option_map suc o)) (option_map (λ n. suc (length xs) + n) u)
    by true o u = refl
    by false (Some n) u = refl
    by false None None = refl
    by false None (Some n) = let same : suc (length xs + n) ≡ suc (length xs) + n = omega arith in ap Some same

-- what is found is there, passes, and is below the list's length
pub position_there : {X : Type 0} (p : X → Bool) (xs : List X) (n : ℕ) → position p xs ≡ Some n → (x : X) × (slice_get xs n ≡ Some x) × (p x ≡ true)
position_there p [] n is = absurd (cc is)
position_there {X} p (x ∷ xs) n is = by (λ k some. position_there p xs k some) (p x) refl n (sym (position_cons p x xs) ∙ is)
  where
    later : ((k : ℕ) → position p xs ≡ Some k → (y : X) × (slice_get xs k ≡ Some y) × (p y ≡ true)) → (o : Option ℕ) → position p xs ≡ o → (j : ℕ) → option_map suc o ≡ Some j → (y : X) × (slice_get (x ∷ xs) j ≡ Some y) × (p y ≡ true)
    later in_rest None none j found = absurd (cc found)
    later in_rest (Some k) some zero found = absurd (cc found)
    later in_rest (Some k) some (suc j) found =
        let same : k ≡ j = cc found in
        let rest = in_rest k some in
        (rest.0, ap (slice_get xs) (sym same) ∙ rest.1, rest.2)

    by : ((k : ℕ) → position p xs ≡ Some k → (y : X) × (slice_get xs k ≡ Some y) × (p y ≡ true)) → (b : Bool) → p x ≡ b → (j : ℕ) → cond b (Some 0) (option_map suc (position p xs)) ≡ Some j → (y : X) × (slice_get (x ∷ xs) j ≡ Some y) × (p y ≡ true)
    by in_rest true passes j found = let same : 0 ≡ j = cc found in (x, ap (slice_get (x ∷ xs)) (sym same), passes)
    by in_rest false passes j found = later in_rest (position p xs) refl j found

-- what comes first is found by its place
pub position_first : {X : Type 0} (p : X → Bool) (xs : List X) (k : ℕ) (x : X) → slice_get xs k ≡ Some x → p x ≡ true → ((j : ℕ) (y : X) → j < k → slice_get xs j ≡ Some y → p y ≡ false) → position p xs ≡ Some k
position_first p [] k x at passes before = absurd (cc at)
position_first p (y ∷ ys) zero x at passes before =
    let same : y ≡ x = cc at in
    position_cons p y ys ∙ ap (λ b. cond b (Some 0) (option_map suc (position p ys))) (ap p same ∙ passes)
position_first p (y ∷ ys) (suc k) x at passes before =
    let below : 0 < suc k = omega arith in
    position_cons p y ys ∙ ap (λ b. cond b (Some 0) (option_map suc (position p ys))) (before 0 y below refl)
    ∙ ap (option_map suc) (position_first p ys k x at passes (λ j z lt is. before (suc j) z (omega (arith, lt)) is))

-- Numbers of 16 bits.

pub short_fits : (n : ℕ) → n < 65536 → short_number n ≡ Some n
short_fits n few = ap (λ b. cond b (Some n) None) (lt-ltb n 65536 few)

pub short_position : {X : Type 0} (p : X → Bool) (xs : List X) → length xs ≤ 65536 → number_of p xs ≡ position p xs
short_position p [] few = refl
short_position {X} p (x ∷ xs) few = by (position p (x ∷ xs)) refl
  where
    by : (o : Option ℕ) → position p (x ∷ xs) ≡ o → option_and_then short_number o ≡ o
    by None e = refl
    by (Some k) e =
        let found = position-Some p (x ∷ xs) k x e in
        let below : k < 65536 = omega (arith, found.0, few) in short_fits k below

-- Of a list in which each stands in a relation to each later one.

module _ {X : Type 0} (R : X → X → Type 0) where
  pub pairs_right : (xs ys : List X) → AllPairs R (xs ++ ys) → AllPairs R ys
  pairs_right [] ys pairs = pairs
  pairs_right (x ∷ xs) ys pairs = pairs_right xs ys (AllPairs-tail R x (xs ++ ys) pairs)

  pub pair_at : (xs : List X) (i j : ℕ) (x y : X) → AllPairs R xs → i < j → slice_get xs i ≡ Some x → slice_get xs j ≡ Some y → R x y
  pair_at [] i j x y pairs before at_x at_y = absurd (cc at_x)
  pair_at (z ∷ zs) i zero x y pairs before at_x at_y = absurd (omega (arith, before))
  pair_at (z ∷ zs) zero (suc j) x y pairs before at_x at_y =
      let same : z ≡ x = cc at_x in
      subst (λ w. R w y) same (all_there (R z) zs y (AllPairs-head R z zs pairs) (j, at_y))
  pair_at (z ∷ zs) (suc i) (suc j) x y pairs before at_x at_y = pair_at zs i j x y (AllPairs-tail R z zs pairs) (omega (arith, before)) at_x at_y

  -- two are one, where neither can stand in the relation to the other
  pub only_one : (xs : List X) (x y : X) → AllPairs R xs → There xs x → There xs y → (R x y → ⊥) → (R y x → ⊥) → x ≡ y
  only_one [] x y pairs first second not nor = absurd (cc first.1)
  only_one (z ∷ zs) x y pairs (zero, at_x) (zero, at_y) not nor = let both : Some x ≡ Some y = sym at_x ∙ at_y in cc both
  only_one (z ∷ zs) x y pairs (zero, at_x) (suc j, at_y) not nor =
      let below : 0 < suc j = omega arith in absurd (not (pair_at (z ∷ zs) 0 (suc j) x y pairs below at_x at_y))
  only_one (z ∷ zs) x y pairs (suc i, at_x) (zero, at_y) not nor =
      let below : 0 < suc i = omega arith in absurd (nor (pair_at (z ∷ zs) 0 (suc i) y x pairs below at_y at_x))
  only_one (z ∷ zs) x y pairs (suc i, at_x) (suc j, at_y) not nor =
      only_one zs x y (AllPairs-tail R z zs pairs) (i, at_x) (j, at_y) not nor

pub all_right : {X : Type 0} (P : X → Type 0) (xs ys : List X) → All P (xs ++ ys) → All P ys
all_right P [] ys all = all
all_right P (x ∷ xs) ys all = all_right P xs ys (All-tail P x (xs ++ ys) all)

pub there_append : {X : Type 0} (xs ys : List X) (x : X) → There (xs ++ ys) x → There xs x ⊎ There ys x
there_append [] ys x there = inr there
there_append (z ∷ zs) ys x (zero, at) = inl (0, at)
there_append (z ∷ zs) ys x (suc k, at) = by (there_append zs ys x (k, at))
  where
    by : There zs x ⊎ There ys x → There (z ∷ zs) x ⊎ There ys x
    by (inl there) = inl (there_later z x zs there)
    by (inr there) = inr there

pub there_map : {X Y : Type 0} (f : X → Y) (xs : List X) (y : Y) → There (map f xs) y → (x : X) × There xs x × (y ≡ f x)
there_map f [] y there = absurd (cc there.1)
there_map f (x ∷ xs) y (zero, at) = let same : f x ≡ y = cc at in (x, there_first x xs, sym same)
there_map f (x ∷ xs) y (suc k, at) =
    let rest = there_map f xs y (k, at) in (rest.0, there_later x rest.0 xs rest.1, rest.2)

pub flat_there : {X Y : Type 0} (f : X → List Y) (xs : List X) (y : Y) → There (flat_map f xs) y → (x : X) × There xs x × There (f x) y
flat_there f [] y there = absurd (cc there.1)
flat_there {X} {Y} f (x ∷ xs) y there = by (λ rest. flat_there f xs y rest) (there_append (f x) (flat_map f xs) y there)
  where
    by : (There (flat_map f xs) y → (z : X) × There xs z × There (f z) y) → There (f x) y ⊎ There (flat_map f xs) y → (z : X) × There (x ∷ xs) z × There (f z) y
    by in_rest (inl here) = (x, there_first x xs, here)
    by in_rest (inr later) = let rest = in_rest later in (rest.0, there_later x rest.0 xs rest.1, rest.2)

pub filter_there : {X : Type 0} (p : X → Bool) (xs : List X) (x : X) → There (filter p xs) x → There xs x × (p x ≡ true)
filter_there p [] x there = absurd (cc there.1)
filter_there {X} p (y ∷ ys) x there = by (λ rest. filter_there p ys x rest) (p y) refl there
  where
    by : (There (filter p ys) x → There ys x × (p x ≡ true)) → (b : Bool) → p y ≡ b → There (cond b (y ∷ filter p ys) (filter p ys)) x → There (y ∷ ys) x × (p x ≡ true)
    by in_rest true passes (zero, at) = let same : y ≡ x = cc at in ((0, at), ap p (sym same) ∙ passes)
    by in_rest true passes (suc k, at) = let rest = in_rest (k, at) in (there_later y x ys rest.0, rest.1)
    by in_rest false passes at = let rest = in_rest at in (there_later y x ys rest.0, rest.1)

-- the first that passes is there, and it is the one that is there, if only one can pass
pub find_some : {X : Type 0} (p : X → Bool) (xs : List X) (x : X) → There xs x → p x ≡ true → (y : X) × (find p xs ≡ Some y)
find_some p [] x there passes = absurd (cc there.1)
find_some p (y ∷ ys) x (zero, at) passes = let same : y ≡ x = cc at in (y, ap (λ b. cond b (Some y) (find p ys)) (ap p same ∙ passes))
find_some {X} p (y ∷ ys) x (suc k, at) passes = by (p y) (find_some p ys x (k, at) passes)
  where
    by : (b : Bool) → (z : X) × (find p ys ≡ Some z) → (z : X) × (cond b (Some y) (find p ys) ≡ Some z)
    by true rest = (y, refl)
    by false rest = rest

pub find_none : {X : Type 0} (p : X → Bool) (xs : List X) (x : X) → find p xs ≡ None → There xs x → p x ≡ false
find_none p xs x none there =
    false_from_ne_true (p x) (λ passes. let found = find_some p xs x there passes in cc (sym none ∙ found.1))

pub position_some : {X : Type 0} (p : X → Bool) (xs : List X) (x : X) → There xs x → p x ≡ true → (n : ℕ) × (position p xs ≡ Some n)
position_some p [] x there passes = absurd (cc there.1)
position_some p (y ∷ ys) x (zero, at) passes =
    let same : y ≡ x = cc at in
    (0, position_cons p y ys ∙ ap (λ b. cond b (Some 0) (option_map suc (position p ys))) (ap p same ∙ passes))
position_some {X} p (y ∷ ys) x (suc k, at) passes =
    let rest = position_some p ys x (k, at) passes in
    let here = by (p y) (position p ys) rest.0 rest.1 in (here.0, position_cons p y ys ∙ here.1)
  where
    by : (b : Bool) (o : Option ℕ) (n : ℕ) → o ≡ Some n → (j : ℕ) × (cond b (Some 0) (option_map suc o) ≡ Some j)
    by true o n is = (0, refl)
    by false o n is = (suc n, ap (option_map suc) is)

pub find_position : {X : Type 0} (p : X → Bool) (xs : List X) (n : ℕ) → position p xs ≡ Some n → find p xs ≡ slice_get xs n
find_position p xs n is = find_at p xs ∙ ap (slice_get xs) (by (ltb (position_or_len p xs) (length xs)) (position_or_len p xs) is)
  where
    by : (b : Bool) (k : ℕ) → cond b (Some k) None ≡ Some n → k ≡ n
    by true k same = cc same
    by false k same = absurd (cc same)

-- a test of a whole list that computes
abbrev pub every : {X : Type 0} → (X → Bool) → List X → Bool
every p [] = true
every p (x ∷ xs) = p x && every p xs

pub every_there : {X : Type 0} (p : X → Bool) (xs : List X) (x : X) → every p xs ≡ true → There xs x → p x ≡ true
every_there p [] x all there = absurd (cc there.1)
every_there p (y ∷ ys) x all (zero, at) =
    let same : y ≡ x = cc at in let parts = and_parts (p y) (every p ys) all in ap p (sym same) ∙ parts.0
every_there p (y ∷ ys) x all (suc k, at) = let parts = and_parts (p y) (every p ys) all in every_there p ys x parts.1 (k, at)
