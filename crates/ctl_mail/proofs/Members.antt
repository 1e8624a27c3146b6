-- Going over an ascending list of numbers, from each to the next one.
use Rattle.std.proofs.Common.{◌≡◌, ℕ, ◌+◌, ◌<◌, ◌≤◌, ◌&&◌, ◌++◌, Bool, true, false, cond, not, nat_lt, Option, None, Some, List, [], ◌∷◌, refl, sym, subst, ap, slice_get, length, All, is_some, get_or, unwrap_or, arith}
use Rattle.std.specs.Option.{option_and_then, option_flatten}
use Rattle.std.proofs.lemmas.Option.{slice_get_past}
use Rattle.std.specs.List.{AllPairs, list_all}
use Rattle.std.specs.List.Sorted.{IsStrictlyIncreasing}
use Rattle.std.proofs.lemmas.Bool.{lt-ltb, le-ltb, ltb-true, ltb-false}
use Rattle.std.proofs.lemmas.List.Elements.{All-cons, All-head, All-nil, All-tail}
use Rattle.std.proofs.lemmas.List.Kept.{AllPairs-from_increasing}
use Rattle.ruby_value.proofs.Ordered.{AllPairs-head, AllPairs-tail}
use Rattle.ctl_face.specs.declared.routes.Routes.{Routes}
use Rattle.ctl_mail.specs.Prelude.{is_routed, members_from}

abbrev Rise : List ℕ → Type 0
Rise xs = AllPairs (λ (a b : ℕ). a < b) xs

pub rise-from : (xs : List ℕ) → IsStrictlyIncreasing xs → Rise xs
rise-from xs is = AllPairs-from_increasing xs is

-- nothing is below a number that all are above
none-below : (from : ℕ) (xs : List ℕ) → All (λ x. from ≤ x) xs → members_from from xs ≡ xs
none-below from [] all = refl
none-below from (x ∷ xs) all =
    let here : from ≤ x = All-head (λ y. from ≤ y) x xs all in
    rw (le-ltb x from here) (ap (λ (ys : List ℕ). x ∷ ys) (none-below from xs (All-tail (λ y. from ≤ y) x xs all)))

pub from-zero : (xs : List ℕ) → members_from 0 xs ≡ xs
from-zero xs = none-below 0 xs (λ k d within. omega arith)

all-after : (x : ℕ) (xs : List ℕ) → All (λ y. x < y) xs → All (λ y. x + 1 ≤ y) xs
all-after x xs all k d within = let so : x < get_or xs k d = all k d within in omega arith

all-from : (from x : ℕ) (xs : List ℕ) → from ≤ x → All (λ y. x < y) xs → All (λ y. from ≤ y) xs
all-from from x xs le all k d within = let so : x < get_or xs k d = all k d within in omega arith

-- what is seen of the first, by whether it is below
abbrev Seen : Bool → ℕ → ℕ → List ℕ → List ℕ
Seen b from x xs = cond (not b) (x ∷ members_from from xs) (members_from from xs)

-- the least that isn't below, and those after it
abbrev Next : List ℕ → ℕ → ℕ → Type 0
Next xs from r = (from ≤ r) × (members_from from xs ≡ r ∷ members_from (r + 1) xs)

next-by : (x : ℕ) (xs : List ℕ) → All (λ y. x < y) xs → (from r : ℕ) → (slice_get (members_from from xs) 0 ≡ Some r → Next xs from r)
    → (b : Bool) → nat_lt x from ≡ b → slice_get (Seen b from x xs) 0 ≡ Some r → Next (x ∷ xs) from r
next-by x xs later from r rest true low is =
    let below : x < from = ltb-true x from low in
    let so = rest is in
    (so.0, rw (low, lt-ltb x (r + 1) (omega (arith, so.0))) so.1)
next-by x xs later from r rest false high is =
    let above : from ≤ x = ltb-false x from high in
    let it : x ≡ r = cc is in
    subst (λ z. Next (x ∷ xs) from z) it
    (above, rw (high, lt-ltb x (x + 1) (omega arith), none-below from xs (all-from from x xs above later), none-below (x + 1) xs (all-after x xs later)) refl)

pub next-member : (xs : List ℕ) → Rise xs → (from r : ℕ) → slice_get (members_from from xs) 0 ≡ Some r → Next xs from r
next-member [] rise from r is = absurd (cc is)
next-member (x ∷ xs) rise from r is =
    next-by x xs (AllPairs-head (λ a b. a < b) x xs rise) from r (next-member xs (AllPairs-tail (λ a b. a < b) x xs rise) from r) (nat_lt x from) refl is

pub no-next : (xs : List ℕ) → slice_get xs 0 ≡ None → xs ≡ []
no-next [] is = refl
no-next (x ∷ xs) is = absurd (cc is)

-- all are below a number from which on there is none
below-by : (x : ℕ) (xs : List ℕ) (most : ℕ) → (members_from most xs ≡ [] → All (λ y. y < most) xs) → (b : Bool) → nat_lt x most ≡ b → Seen b most x xs ≡ [] → All (λ y. y < most) (x ∷ xs)
below-by x xs most rest true low none = All-cons (λ y. y < most) x xs (ltb-true x most low) (rest none)
below-by x xs most rest false high none = absurd (cc none)

pub all-below : (xs : List ℕ) (most : ℕ) → members_from most xs ≡ [] → All (λ x. x < most) xs
all-below [] most none = All-nil (λ x. x < most)
all-below (x ∷ xs) most none = below-by x xs most (all-below xs most) (nat_lt x most) refl none

-- what is from a number on is among all
holds-by : (P : ℕ → Type 0) (x : ℕ) (xs : List ℕ) (from r : ℕ) → P x → (slice_get (members_from from xs) 0 ≡ Some r → P r) → (b : Bool) → slice_get (Seen b from x xs) 0 ≡ Some r → P r
holds-by P x xs from r here rest true is = rest is
holds-by P x xs from r here rest false is = let it : x ≡ r = cc is in subst P it here

pub member-holds : (P : ℕ → Type 0) (xs : List ℕ) (from r : ℕ) → All P xs → slice_get (members_from from xs) 0 ≡ Some r → P r
member-holds P [] from r all is = absurd (cc is)
member-holds P (x ∷ xs) from r all is = holds-by P x xs from r (All-head P x xs all) (member-holds P xs from r (All-tail P x xs all)) (nat_lt x from) is

-- one that a test fails
fails-second : (b c : Bool) → c ≡ false → (b && c) ≡ false
fails-second true c is = is
fails-second false c is = refl

fails-first : (b c : Bool) → b ≡ false → (b && c) ≡ false
fails-first true c is = absurd (cc is)
fails-first false c is = refl

fails-by : (p : ℕ → Bool) (x : ℕ) (xs : List ℕ) (from r : ℕ) → p r ≡ false → (slice_get (members_from from xs) 0 ≡ Some r → list_all p xs ≡ false)
    → (b : Bool) → slice_get (Seen b from x xs) 0 ≡ Some r → list_all p (x ∷ xs) ≡ false
fails-by p x xs from r fails rest true is = fails-second (p x) (list_all p xs) (rest is)
fails-by p x xs from r fails rest false is =
    let it : x ≡ r = cc is in
    fails-first (p x) (list_all p xs) (subst (λ z. p z ≡ false) (sym it) fails)

pub one-fails : (p : ℕ → Bool) (xs : List ℕ) (from r : ℕ) → slice_get (members_from from xs) 0 ≡ Some r → p r ≡ false → list_all p xs ≡ false
one-fails p [] from r is fails = absurd (cc is)
one-fails p (x ∷ xs) from r is fails = fails-by p x xs from r fails (λ there. one-fails p xs from r there fails) (nat_lt x from) is

pub some-there : (o : Option ℕ) → is_some o ≡ true → o ≡ Some (unwrap_or o 0)
some-there None is = absurd (cc is)
some-there (Some x) is = refl

pub none-there : (o : Option ℕ) → is_some o ≡ false → o ≡ None
none-there None is = refl
none-there (Some x) is = absurd (cc is)

pub and-first : (b c : Bool) → b ≡ true → (b && c) ≡ c
and-first true c is = refl
and-first false c is = absurd (cc is)

-- a number that is no controller's takes no messages
pub past-routes : (routes : Routes) (network receiver : ℕ) → length routes.receiving ≤ receiver → is_routed routes network receiver ≡ false
past-routes routes network receiver le =
    ap (λ (o : Option (List (Option ℕ))). is_some (option_and_then (λ buffers. option_flatten (slice_get buffers network)) o)) (slice_get_past routes.receiving receiver le)

-- what holds of all holds of the last, and of those before it
pub push-parts : {X : Type 0} (P : X → Type 0) (xs : List X) (x : X) → All P (xs ++ x ∷ []) → All P xs × P x
push-parts P [] x all = (All-nil P, All-head P x [] all)
push-parts P (y ∷ ys) x all =
    let rest = push-parts P ys x (All-tail P y (ys ++ x ∷ []) all) in
    (All-cons P y ys (All-head P y (ys ++ x ∷ []) all) rest.0, rest.1)

pub no-longer : (xs : List ℕ) → length xs ≤ 0 → xs ≡ []
no-longer [] le = refl
no-longer (x ∷ xs) le = absurd (omega arith)
