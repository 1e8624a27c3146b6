-- What is found in a list, and where.
use Rattle.std.proofs.Common.{◌≡◌, ◌<◌, ◌≤◌, ◌+◌, ◌∙◌, ℕ, zero, suc, Bool, true, false, cond, ltb, Option, None, Some, List, [], ◌∷◌, ◌||◌, ap, refl, sym, subst, arith, length, get_or, map, lt-ltb, option_and_then}
use Rattle.std.specs.Prelude.{AllPairs, IfSome, IsSomeAnd, count_by, position, slice_get}
use Rattle.std.specs.List.{All, cons_option, enumerate_from, filter_map, list_any, position_or_len, range_with_len}
use Rattle.std.specs.Option.{option_map}
use Rattle.std.proofs.lemmas.Bool.{false_from_ne_true}
use Rattle.std.proofs.lemmas.List.Elements.{All-cons, All-head, All-nil, All-tail}
use Rattle.std.proofs.lemmas.List.Kept.{AllPairs-cons}
use Rattle.std.proofs.lemmas.List.Folds.{list_any_at}
use Rattle.std.proofs.lemmas.List.FromFn.{length-range_with_len, get_or-range_with_len}
use Rattle.std.proofs.lemmas.List.Quantifiers.{position-Some}
use Rattle.std.proofs.lemmas.List.Sums.{position_or_len_is, sum_by-cons}
use Rattle.std.proofs.lemmas.Option.{cond_some, get_or_from_slice_get, slice_get-get_or, slice_get_within, slice_get-map}
use Rattle.ruby_symbols.specs.Prelude.{number_of, short_number}

-- what is there and gives an answer
pub and_then_found : {A B : Type 0} (f : A → Option B) (o : Option A) (y : B) → option_and_then f o ≡ Some y → (x : A) × (o ≡ Some x) × (f x ≡ Some y)
and_then_found f None y e = absurd (cc e)
and_then_found f (Some x) y e = (x, refl, e)

pub map_found : {A B : Type 0} (f : A → B) (o : Option A) (y : B) → option_map f o ≡ Some y → (x : A) × (o ≡ Some x) × (f x ≡ y)
map_found f None y e = absurd (cc e)
map_found f (Some x) y e = let same : f x ≡ y = cc e in (x, refl, same)

-- an item of a list that a function makes of another
pub mapped_at : {A B : Type 0} (f : A → B) (xs : List A) (k : ℕ) (x : A) → slice_get xs k ≡ Some x → slice_get (map f xs) k ≡ Some (f x)
mapped_at f xs k x at = slice_get-map f xs k ∙ ap (option_map f) at

counted_at : (n k : ℕ) → k < n → slice_get (range_with_len 0 n) k ≡ Some k
counted_at n k lt =
    let long : length (range_with_len 0 n) ≡ n = length-range_with_len 0 n in
    let item : get_or (range_with_len 0 n) k 0 ≡ 0 + k = get_or-range_with_len 0 n k 0 lt in
    let same : get_or (range_with_len 0 n) k 0 ≡ k = omega arith in
    slice_get-get_or (range_with_len 0 n) k 0 (omega arith) ∙ ap Some same

pub ranged_at : {B : Type 0} (f : ℕ → B) (n k : ℕ) → k < n → slice_get (map f (range_with_len 0 n)) k ≡ Some (f k)
ranged_at f n k lt = mapped_at f (range_with_len 0 n) k k (counted_at n k lt)

-- The first that passes a test.

pub at_position : {X : Type 0} (p : X → Bool) (xs : List X) (k : ℕ) → position p xs ≡ Some k → (x : X) × (slice_get xs k ≡ Some x) × (p x ≡ true)
at_position p [] k e = absurd (cc e)
at_position p (x ∷ xs) k e =
    let h = position-Some p (x ∷ xs) k x e in
    (get_or (x ∷ xs) k x, slice_get-get_or (x ∷ xs) k x h.0, h.1)

pub position_is : {X : Type 0} (p : X → Bool) (xs : List X) (k : ℕ) (x : X) → slice_get xs k ≡ Some x → p x ≡ true → ((j : ℕ) → j < k → p (get_or xs j x) ≡ false) → position p xs ≡ Some k
position_is p xs k x at passes fails =
    let inside : k < length xs = slice_get_within xs k x at in
    let here : p (get_or xs k x) ≡ true = ap p (get_or_from_slice_get xs k x x at) ∙ passes in
    let first : position_or_len p xs ≡ k = position_or_len_is p xs k x (omega arith) fails (λ l. here) in
    let test : ltb k (length xs) ≡ true = lt-ltb k (length xs) inside in
    ap (λ n. cond (ltb n (length xs)) (Some n) None) first ∙ ap (λ b. cond b (Some k) None) test

-- as a number
pub short_is : (n k : ℕ) → short_number n ≡ Some k → n ≡ k
short_is n k e = (cond_some (ltb n 65536) n k e).1

pub short_fits : (n : ℕ) → n < 65536 → short_number n ≡ Some n
short_fits n lt = ap (λ b. cond b (Some n) None) (lt-ltb n 65536 lt)

pub position_numbered : {X : Type 0} (p : X → Bool) (xs : List X) (k : ℕ) → number_of p xs ≡ Some k → position p xs ≡ Some k
position_numbered p xs k e =
    let found = and_then_found short_number (position p xs) k e in
    found.1 ∙ ap Some (short_is found.0 k found.2)

pub at_number : {X : Type 0} (p : X → Bool) (xs : List X) (k : ℕ) → number_of p xs ≡ Some k → (x : X) × (slice_get xs k ≡ Some x) × (p x ≡ true)
at_number p xs k e = at_position p xs k (position_numbered p xs k e)

pub number_is : {X : Type 0} (p : X → Bool) (xs : List X) (k : ℕ) → k < 65536 → position p xs ≡ Some k → number_of p xs ≡ Some k
number_is p xs k few e = ap (option_and_then short_number) e ∙ short_fits k few

-- The only one that passes a test.

one_there : {X : Type 0} (p : X → Bool) (xs : List X) (j : ℕ) (d : X) → j < length xs → p (get_or xs j d) ≡ true → 1 ≤ count_by p xs
one_there p [] j d lt e = absurd (omega arith)
one_there p (x ∷ xs) zero d lt e =
    let all = sum_by-cons (λ y. cond (p y) 1 0) x xs in
    let here : ◌≡◌ {A = ℕ} (cond (p x) 1 0) 1 = ap (λ b. cond b 1 0) e in
    omega (arith, all, here)
one_there p (x ∷ xs) (suc j) d lt e =
    let all = sum_by-cons (λ y. cond (p y) 1 0) x xs in
    let rest = one_there p xs j d (omega arith) e in
    omega (arith, all, rest)

two_there : {X : Type 0} (p : X → Bool) (xs : List X) (i j : ℕ) (d : X) → i < j → j < length xs → p (get_or xs i d) ≡ true → p (get_or xs j d) ≡ true → 2 ≤ count_by p xs
two_there p [] i j d lt inside e f = absurd (omega arith)
two_there p (x ∷ xs) i zero d lt inside e f = absurd (omega arith)
two_there p (x ∷ xs) zero (suc j) d lt inside e f =
    let all = sum_by-cons (λ y. cond (p y) 1 0) x xs in
    let here : ◌≡◌ {A = ℕ} (cond (p x) 1 0) 1 = ap (λ b. cond b 1 0) e in
    let rest = one_there p xs j d (omega arith) f in
    omega (arith, all, here, rest)
two_there p (x ∷ xs) (suc i) (suc j) d lt inside e f =
    let all = sum_by-cons (λ y. cond (p y) 1 0) x xs in
    let rest = two_there p xs i j d (omega arith) (omega arith) e f in
    omega (arith, all, rest)

pub only_position : {X : Type 0} (p : X → Bool) (xs : List X) (k : ℕ) (x : X) → count_by p xs ≤ 1 → slice_get xs k ≡ Some x → p x ≡ true → position p xs ≡ Some k
only_position p xs k x once at passes =
    let inside : k < length xs = slice_get_within xs k x at in
    let here : p (get_or xs k x) ≡ true = ap p (get_or_from_slice_get xs k x x at) ∙ passes in
    position_is p xs k x at passes
    (λ j lt. false_from_ne_true (p (get_or xs j x)) (λ e. let two = two_there p xs j k x lt inside e here in absurd (omega (arith, two, once))))

pub position_first : {X : Type 0} (p : X → Bool) (x : X) (xs : List X) → p x ≡ true → position p (x ∷ xs) ≡ Some 0
position_first p x xs e = position_is p (x ∷ xs) 0 x refl e (λ j lt. absurd (omega arith))

pub position_next : {X : Type 0} (p : X → Bool) (x : X) (xs : List X) (k : ℕ) → p x ≡ false → position p xs ≡ Some k → position p (x ∷ xs) ≡ Some (suc k)
position_next {X} p x xs k e found =
    let at = at_position p xs k found in
    let before = (position-Some p xs k at.0 found).2 in
    position_is p (x ∷ xs) (suc k) at.0 at.1 at.2 (earlier at.0 before)
  where
    earlier : (y : X) → ((j : ℕ) → j < k → p (get_or xs j y) ≡ false) → (j : ℕ) → j < suc k → p (get_or (x ∷ xs) j y) ≡ false
    earlier y before zero lt = e
    earlier y before (suc j) lt = before j (omega arith)

pub any_position : {X : Type 0} (p : X → Bool) (xs : List X) → list_any p xs ≡ true → (k : ℕ) × (position p xs ≡ Some k)
any_position p [] e = absurd (cc e)
any_position {X} p (x ∷ xs) e = by_test (any_position p xs) (p x) refl e
  where
    by_test : (list_any p xs ≡ true → (k : ℕ) × (position p xs ≡ Some k)) → (b : Bool) → p x ≡ b → (b || list_any p xs) ≡ true → (k : ℕ) × (position p (x ∷ xs) ≡ Some k)
    by_test later true is h = (0, position_first p x xs is)
    by_test later false is h = let rest = later h in (suc rest.0, position_next p x xs rest.0 is rest.1)

pub any_get : {X : Type 0} (p : X → Bool) (xs : List X) (k : ℕ) (x : X) → slice_get xs k ≡ Some x → p x ≡ true → list_any p xs ≡ true
any_get p xs k x at e =
    list_any_at p xs k x (slice_get_within xs k x at) (ap p (get_or_from_slice_get xs k x x at) ∙ e)

-- All items.

pub all_from_gets : {X : Type 0} (P : X → Type 0) (xs : List X) → ((k : ℕ) (x : X) → slice_get xs k ≡ Some x → P x) → All P xs
all_from_gets P xs h k d lt = h k (get_or xs k d) (slice_get-get_or xs k d lt)

pub all_at : {X : Type 0} (P : X → Type 0) (xs : List X) (k : ℕ) (x : X) → All P xs → slice_get xs k ≡ Some x → P x
all_at P xs k x all at = subst P (get_or_from_slice_get xs k x x at) (all k x (slice_get_within xs k x at))

pub if_some : {X : Type 0} (P : X → Type 0) (o : Option X) → ((x : X) → o ≡ Some x → P x) → IfSome o P
if_some P None h = tt
if_some P (Some x) h = h x refl

pub some_and : {X : Type 0} (P : X → Type 0) (o : Option X) (x : X) → o ≡ Some x → P x → IsSomeAnd o P
some_and P o x e h = subst (λ p. IsSomeAnd p P) (sym e) h

pub picked : {A B : Type 0} (P : A → Type 0) (Q : B → Type 0) (pick : A → Option B) → ((x : A) (y : B) → P x → pick x ≡ Some y → Q y) → (xs : List A) → All P xs → All Q (filter_map pick xs)
picked P Q pick holds [] all = All-nil Q
picked {A} {B} P Q pick holds (x ∷ xs) all =
    with_first (pick x) refl (picked P Q pick holds xs (All-tail P x xs all))
  where
    with_first : (o : Option B) → pick x ≡ o → All Q (filter_map pick xs) → All Q (cons_option o (filter_map pick xs))
    with_first None e rest = rest
    with_first (Some y) e rest = All-cons Q y (filter_map pick xs) (holds x y (All-head P x xs all) e) rest

pub pairs_picked : {A B : Type 0} (R : A → A → Type 0) (S : B → B → Type 0) (pick : A → Option B) → ((a b : A) (x y : B) → R a b → pick a ≡ Some x → pick b ≡ Some y → S x y) → (xs : List A) → AllPairs R xs → AllPairs S (filter_map pick xs)
pairs_picked R S pick holds [] all = λ i j d lt within. absurd (omega arith)
pairs_picked {A} {B} R S pick holds (a ∷ xs) all =
    with_first (pick a) refl (pairs_picked R S pick holds xs (λ i j d lt within. all (suc i) (suc j) d (omega arith) (omega arith)))
  where
    with_first : (o : Option B) → pick a ≡ o → AllPairs S (filter_map pick xs) → AllPairs S (cons_option o (filter_map pick xs))
    with_first None e rest = rest
    with_first (Some x) e rest =
        AllPairs-cons S x (filter_map pick xs)
        (picked (R a) (S x) pick (λ b y r f. holds a b x y r e f) xs (λ k d lt. all 0 (suc k) d (omega arith) (omega arith))) rest

-- What a function makes of all items with their numbers, where it makes something of each.

first_of : {Y : Type 0} (o : Option Y) (y : Y) (rest : List Y) → o ≡ Some y → slice_get (cons_option o rest) 0 ≡ o
first_of None y rest e = absurd (cc e)
first_of (Some z) y rest e = refl

next_of : {Y : Type 0} (o : Option Y) (y : Y) (rest : List Y) (k : ℕ) → o ≡ Some y → slice_get (cons_option o rest) (suc k) ≡ slice_get rest k
next_of None y rest k e = absurd (cc e)
next_of (Some z) y rest k e = refl

one_longer : {Y : Type 0} (o : Option Y) (y : Y) (rest : List Y) → o ≡ Some y → length (cons_option o rest) ≡ suc (length rest)
one_longer None y rest e = absurd (cc e)
one_longer (Some z) y rest e = refl

module _ {X Y : Type 0} (f : ℕ → X → Option Y) where
  abbrev pub AreThere : ℕ → List X → Type 0
  AreThere n xs = (k : ℕ) (x : X) → slice_get xs k ≡ Some x → (y : Y) × (f (n + k) x ≡ Some y)

  first_there : (n : ℕ) (x : X) (xs : List X) → AreThere n (x ∷ xs) → (y : Y) × (f n x ≡ Some y)
  first_there n x xs there =
      let h = there 0 x refl in
      let same : n + 0 ≡ n = omega arith in
      (h.0, sym (ap (λ j. f j x) same) ∙ h.1)

  rest_there : (n : ℕ) (x : X) (xs : List X) → AreThere n (x ∷ xs) → AreThere (n + 1) xs
  rest_there n x xs there k z at =
      let h = there (suc k) z at in
      let same : n + suc k ≡ n + 1 + k = omega arith in
      (h.0, sym (ap (λ j. f j z) same) ∙ h.1)

  pub each_at : (n : ℕ) (xs : List X) → AreThere n xs → (k : ℕ) → slice_get (filter_map (λ (e : ℕ × X). f e.0 e.1) (enumerate_from n xs)) k ≡ option_and_then (f (n + k)) (slice_get xs k)
  each_at n [] there k = refl
  each_at n (x ∷ xs) there zero =
      let h = first_there n x xs there in
      let same : n ≡ n + 0 = omega arith in
      first_of (f n x) h.0 (filter_map (λ (e : ℕ × X). f e.0 e.1) (enumerate_from (n + 1) xs)) h.1 ∙ ap (λ j. f j x) same
  each_at n (x ∷ xs) there (suc k) =
      let h = first_there n x xs there in
      let same : n + 1 + k ≡ n + suc k = omega arith in
      next_of (f n x) h.0 (filter_map (λ (e : ℕ × X). f e.0 e.1) (enumerate_from (n + 1) xs)) k h.1
      ∙ each_at (n + 1) xs (rest_there n x xs there) k ∙ ap (λ j. option_and_then (f j) (slice_get xs k)) same

  pub each_counted : (n : ℕ) (xs : List X) → AreThere n xs → length (filter_map (λ (e : ℕ × X). f e.0 e.1) (enumerate_from n xs)) ≡ length xs
  each_counted n [] there = refl
  each_counted n (x ∷ xs) there =
      let h = first_there n x xs there in
      one_longer (f n x) h.0 (filter_map (λ (e : ℕ × X). f e.0 e.1) (enumerate_from (n + 1) xs)) h.1
      ∙ ap suc (each_counted (n + 1) xs (rest_there n x xs there))
