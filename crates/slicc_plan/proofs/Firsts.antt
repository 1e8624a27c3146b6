-- The order of broken rules is one: two of which neither comes before the other are equal in it, and the first is found by
-- going through them.
use Rattle.std.proofs.Common.{◌≡◌, ◌<◌, ◌++◌, ℕ, Bool, true, false, cond, Option, None, Some, List, [], ◌∷◌, flat_map, refl, sym, ap, ◌∙◌, take, add-one, ◌+◌, subst, arith, lit<, suc, Contains, All, slice_index_or, length}
use Rattle.std.proofs.Math.Seq.{take-suc}
use Rattle.std.proofs.Common.{append-nil, append_assoc}
use Rattle.std.proofs.lemmas.Grind.{flat_map-append}
use Rattle.std.proofs.lemmas.List.Elements.{All-push, All-nil, Contains-append_left}
use Rattle.slicc_plan.specs.declared.broken.Broken.{Broken}
use Rattle.slicc_plan.specs.Prelude.{IsFirstBroken, IsFirstOf, comes_before, earlier_of, earlier_of_both, first_after, first_of, is_less, rank_of}

pub equal_unless_less : (ms ns : List ℕ) → is_less ms ns ≡ false → is_less ns ms ≡ false → ms ≡ ns
equal_unless_less [] [] h k = refl
equal_unless_less [] (n ∷ ns) h k = cc
equal_unless_less (m ∷ ms) [] h k = cc
equal_unless_less (m ∷ ms) (n ∷ ns) h k = grind (arith, equal_unless_less ms ns)

pub less_trans : (ls ms ns : List ℕ) → is_less ls ms ≡ true → is_less ms ns ≡ true → is_less ls ns ≡ true
less_trans [] [] ns h k = cc
less_trans [] (m ∷ ms) [] h k = cc
less_trans [] (m ∷ ms) (n ∷ ns) h k = refl
less_trans (l ∷ ls) [] ns h k = cc
less_trans (l ∷ ls) (m ∷ ms) [] h k = cc
less_trans (l ∷ ls) (m ∷ ms) (n ∷ ns) h k = grind (arith, less_trans ls ms ns)

pub not_less_self : (ns : List ℕ) → is_less ns ns ≡ false
not_less_self [] = refl
not_less_self (n ∷ ns) = grind (arith, not_less_self ns)

-- what isn't before one isn't before another that is before that
pub not_less : (cs bs fs : List ℕ) (v : Bool) → v ≡ is_less cs bs → is_less bs fs ≡ true → is_less cs fs ≡ false → is_less cs bs ≡ false
not_less cs bs fs true e earlier h = let both = less_trans cs bs fs (sym e) earlier in cc
not_less cs bs fs false e earlier h = sym e

pub not_before : (c b f : Broken) → comes_before b f ≡ true → comes_before c f ≡ false → comes_before c b ≡ false
not_before c b f earlier h =
    not_less (rank_of c) (rank_of b) (rank_of f) (comes_before c b) refl earlier h

-- what holds of each element holds of this one
pub of_contained : (all : List Broken) (b c : Broken) → All (λ (a : Broken). comes_before a b ≡ false) all → Contains all c → comes_before c b ≡ false
of_contained all b c h (k, below, e) =
    let P : Broken → Type 0 = λ a. comes_before a b ≡ false in subst P e (h k c below)

pub first_rank : (all : List Broken) (b c : Broken) → IsFirstBroken all b → IsFirstBroken all c → rank_of b ≡ rank_of c
first_rank all b c first other =
    equal_unless_less (rank_of b) (rank_of c) (of_contained all c b other.is_first first.is_among) (of_contained all b c first.is_first other.is_among)

pub last_of : (all : List Broken) (b : Broken) → Contains (all ++ b ∷ []) b
last_of [] b = (0, lit< tt, refl)
last_of (a ∷ all) b = let (k, below, e) = last_of all b in (suc k, omega (arith, below), e)

-- one more that comes before the first so far is the first
pub first_by : (all : List Broken) (f b : Broken) (v : Bool) → v ≡ comes_before b f → IsFirstBroken all f → IsFirstBroken (all ++ b ∷ []) (cond v b f)
first_by all f b true e first =
    record {
      is_among = last_of all b;
      is_first = All-push (λ (c : Broken). comes_before c b ≡ false) all b (λ k d below. not_before (slice_index_or all k d) b f (sym e) (first.is_first k d below)) (not_less_self (rank_of b));
    }
first_by all f b false e first =
    record {
      is_among = Contains-append_left all (b ∷ []) f first.is_among;
      is_first = All-push (λ (c : Broken). comes_before c f ≡ false) all b first.is_first (sym e);
    }

pub first_of_one : (b : Broken) → IsFirstBroken (b ∷ []) b
first_of_one b =
    record {
      is_among = last_of [] b;
      is_first = All-push (λ (c : Broken). comes_before c b ≡ false) [] b (All-nil (λ (c : Broken). comes_before c b ≡ false)) (not_less_self (rank_of b));
    }

pub first_of_push : (all : List Broken) (o : Option Broken) (b : Broken) → IsFirstOf all o → IsFirstOf (all ++ b ∷ []) (Some (earlier_of o b))
first_of_push all None b empty =
    let P : List Broken → Type 0 = λ xs. IsFirstBroken (xs ++ b ∷ []) b in subst P (sym empty) (first_of_one b)
first_of_push all (Some f) b first = first_by all f b (comes_before b f) refl first

-- after one more step through the list
pub first_of_taken : (xs : List Broken) (i : ℕ) (o : Option Broken) (d r : Broken) → i < length xs → r ≡ earlier_of o (slice_index_or xs i d) → IsFirstOf (take i xs) o → IsFirstBroken (take (i + 1) xs) r
first_of_taken xs i o d r below e first =
    let taken : take (i + 1) xs ≡ take i xs ++ slice_index_or xs i d ∷ [] = rw (add-one, take-suc xs i d below) refl in
    subst (λ ys. IsFirstBroken ys r) (sym taken) (subst (λ b. IsFirstBroken (take i xs ++ slice_index_or xs i d ∷ []) b) (sym e) (first_of_push (take i xs) o (slice_index_or xs i d) first))

-- Going through broken rules by `first_after`.

pub first_after_from : (before all : List Broken) (o : Option Broken) → IsFirstOf before o → IsFirstOf (before ++ all) (first_after o all)
first_after_from before [] o first = subst (λ bs. IsFirstOf bs o) (sym (append-nil before)) first
first_after_from before (b ∷ all) o first =
    subst (λ bs. IsFirstOf bs (first_after (Some (earlier_of o b)) all)) (append_assoc before (b ∷ []) all) (first_after_from (before ++ b ∷ []) all (Some (earlier_of o b)) (first_of_push before o b first))

pub first_after_none : (all : List Broken) → IsFirstOf all (first_after None all)
first_after_none all = first_after_from [] all None refl

-- two lists one behind the other
pub first_after-append : (o : Option Broken) (bs cs : List Broken) → first_after o (bs ++ cs) ≡ first_after (first_after o bs) cs
first_after-append o [] cs = refl
first_after-append o (b ∷ bs) cs = first_after-append (Some (earlier_of o b)) bs cs

-- one more step of a loop in which each element has a list of broken rules
pub first_after-flat_map : {X : Type 0} (f : X → List Broken) (xs : List X) (i : ℕ) (d : X) (o : Option Broken) → i < length xs → first_after o (flat_map f (take (i + 1) xs)) ≡ first_after (first_after o (flat_map f (take i xs))) (f (slice_index_or xs i d))
first_after-flat_map f xs i d o below =
    let taken : take (i + 1) xs ≡ take i xs ++ slice_index_or xs i d ∷ [] = rw (add-one, take-suc xs i d below) refl in
    let flat : flat_map f (take (i + 1) xs) ≡ flat_map f (take i xs) ++ f (slice_index_or xs i d) =
    rw (taken, flat_map-append f (take i xs) (slice_index_or xs i d ∷ []), append-nil (f (slice_index_or xs i d))) refl in
    rw (flat) (first_after-append o (flat_map f (take i xs)) (f (slice_index_or xs i d)))

-- what isn't before a second one isn't before a first one either that the second isn't before
pub not_less_back : (ls ms ns : List ℕ) → is_less ms ls ≡ false → is_less ns ms ≡ false → is_less ns ls ≡ false
not_less_back ls ms ns h k = go (is_less ns ls) refl (is_less ls ms) refl
  where
    go : (v : Bool) → v ≡ is_less ns ls → (w : Bool) → w ≡ is_less ls ms → is_less ns ls ≡ false
    go false e w f = sym e
    go true e true f = let both = less_trans ns ls ms (sym e) (sym f) in cc
    go true e false f = let same = equal_unless_less ls ms (sym f) h in cc

-- to take the first of three it is no matter which two are compared first
pub earlier-assoc : (a b c : Broken) → earlier_of (Some (earlier_of (Some a) b)) c ≡ earlier_of (Some a) (earlier_of (Some b) c)
earlier-assoc a b c = go (comes_before b a) refl (comes_before c b) refl (comes_before c a) refl
  where
    go : (p : Bool) → comes_before b a ≡ p → (q : Bool) → comes_before c b ≡ q → (r : Bool) → comes_before c a ≡ r → cond (comes_before c (cond (comes_before b a) b a)) c (cond (comes_before b a) b a) ≡ cond (comes_before (cond (comes_before c b) c b) a) (cond (comes_before c b) c b) a
    go true e true f true g = rw (e, f, g) refl
    go true e true f false g = let r = less_trans (rank_of c) (rank_of b) (rank_of a) f e in absurd (cc (g, r))
    go true e false f r g = rw (e, f, e) refl
    go false e true f r g = rw (e, f) refl
    go false e false f true g = let r = not_less_back (rank_of a) (rank_of b) (rank_of c) e f in absurd (cc (g, r))
    go false e false f false g = rw (e, f, g, e) refl

both-assoc : (o : Option Broken) (b : Broken) (f : Option Broken) → earlier_of_both (Some (earlier_of o b)) f ≡ earlier_of_both o (earlier_of_both (Some b) f)
both-assoc o b None = refl
both-assoc None b (Some c) = refl
both-assoc (Some a) b (Some c) = ap Some (earlier-assoc a b c)

-- what was found before is compared with the first of all that follows
pub first_after-first_of : (o : Option Broken) (bs : List Broken) → first_after o bs ≡ earlier_of_both o (first_of bs)
first_after-first_of o [] = refl
first_after-first_of o (b ∷ bs) =
    first_after-first_of (Some (earlier_of o b)) bs ∙ both-assoc o b (first_of bs) ∙ ap (earlier_of_both o) (sym (first_after-first_of (Some b) bs))

pub first_of-append : (bs cs : List Broken) → first_of (bs ++ cs) ≡ earlier_of_both (first_of bs) (first_of cs)
first_of-append bs cs = first_after-append None bs cs ∙ first_after-first_of (first_of bs) cs

pub both-none : (o : Option Broken) → earlier_of_both None o ≡ o
both-none None = refl
both-none (Some b) = refl

pub both-assoc_all : (o p q : Option Broken) → earlier_of_both (earlier_of_both o p) q ≡ earlier_of_both o (earlier_of_both p q)
both-assoc_all o None q = ap (earlier_of_both o) (sym (both-none q))
both-assoc_all o (Some b) q = both-assoc o b q
