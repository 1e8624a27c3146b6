-- Histories: what begins another, and whose entries are in it.
use Rattle.std.proofs.Common.{◌≡◌, ◌≢◌, ℕ, ◌≤◌, ◌⊎◌, inl, inr, ⊎_elim, Bool, true, false, cond, eqb, ltb, List, [], ◌∷◌, ◌++◌, length, drop, All, refl, sym, ap, ◌∙◌, subst, append_assoc, append-nil, arith, eq-eqb, ne_eqb, ltb-true, ltb-false}
use Rattle.std.proofs.lemmas.List.Elements.{filter-append, All-cons, All-head, All-tail}
use Rattle.std.proofs.lemmas.List.Prefix.{front_rest}
use Rattle.turn_lock.specs.Histories.{owner, owned, IsPrefix, AreOwned, Continues, Adds, longer}

pub begins_itself : (xs : List ℕ) → IsPrefix xs xs
begins_itself xs = ([], sym (append-nil xs))

pub begins_with_none : (xs : List ℕ) → IsPrefix [] xs
begins_with_none xs = (xs, refl)

pub begins_further : (xs ys zs : List ℕ) → IsPrefix xs ys → IsPrefix ys zs → IsPrefix xs zs
begins_further xs ys zs a b = (a.0 ++ b.0, b.1 ∙ ap (λ (l : List ℕ). l ++ b.0) a.1 ∙ append_assoc xs a.0 b.0)

-- of two lists that begin one list, the shorter begins the other
pub begins_longer : (xs ys zs : List ℕ) → IsPrefix xs zs → IsPrefix ys zs → length xs ≤ length ys → IsPrefix xs ys
begins_longer [] ys zs a b le = (ys, refl)
begins_longer (x ∷ xs) [] zs a b le = absurd (omega arith)
begins_longer (x ∷ xs) (y ∷ ys) [] a b le = let e : [] ≡ x ∷ (xs ++ a.0) = a.1 in cc
begins_longer (x ∷ xs) (y ∷ ys) (z ∷ zs) a b le =
    let e : z ∷ zs ≡ x ∷ (xs ++ a.0) = a.1 in
    let f : z ∷ zs ≡ y ∷ (ys ++ b.0) = b.1 in
    let e' : zs ≡ xs ++ a.0 = cc in
    let f' : zs ≡ ys ++ b.0 = cc in
    let t = begins_longer xs ys zs (a.0, e') (b.0, f') (omega arith) in
    let g : ys ≡ xs ++ t.0 = t.1 in
    let h : y ∷ ys ≡ x ∷ (xs ++ t.0) = cc in
    (t.0, h)

nothing_first : (xs ys : List ℕ) → xs ++ ys ≡ [] → xs ≡ []
nothing_first [] ys e = refl
nothing_first (x ∷ xs) ys e = let f : x ∷ (xs ++ ys) ≡ [] = e in cc

nothing_after : (xs ys : List ℕ) → xs ++ ys ≡ xs → ys ≡ []
nothing_after [] ys e = e
nothing_after (x ∷ xs) ys e = let f : x ∷ (xs ++ ys) ≡ x ∷ xs = e in nothing_after xs ys (cc)

pub begins_nothing : (xs : List ℕ) → IsPrefix xs [] → xs ≡ []
begins_nothing xs a = nothing_first xs a.0 (sym a.1)

pub owned-append : (k : ℕ) (xs ys : List ℕ) → owned k (xs ++ ys) ≡ owned k xs ++ owned k ys
owned-append k xs ys = filter-append (λ n. eqb (owner n) k) xs ys

pub owned_all : (k : ℕ) (xs : List ℕ) → All (λ n. owner n ≡ k) xs → owned k xs ≡ xs
owned_all k [] a = refl
owned_all k (x ∷ xs) a = ap (λ (b : Bool). cond b (x ∷ owned k xs) (owned k xs)) (eq-eqb (owner x) k (All-head (λ n. owner n ≡ k) x xs a)) ∙ ap (λ (l : List ℕ). x ∷ l) (owned_all k xs (All-tail (λ n. owner n ≡ k) x xs a))

pub owned_none : (j k : ℕ) (xs : List ℕ) → j ≢ k → All (λ n. owner n ≡ k) xs → owned j xs ≡ []
owned_none j k [] other a = refl
owned_none j k (x ∷ xs) other a = ap (λ (b : Bool). cond b (x ∷ owned j xs) (owned j xs)) (ne_eqb (owner x) j (λ e. other (sym e ∙ All-head (λ n. owner n ≡ k) x xs a))) ∙ owned_none j k xs other (All-tail (λ n. owner n ≡ k) x xs a)

-- where a history has no more entries of k than its beginning has, all that lies between the two has them too
pub owned_between : (k : ℕ) (xs ys zs : List ℕ) → IsPrefix xs ys → IsPrefix ys zs → owned k zs ≡ owned k xs → owned k ys ≡ owned k xs
owned_between k xs ys zs a b e =
    let one : owned k ys ≡ owned k xs ++ owned k a.0 = ap (owned k) a.1 ∙ owned-append k xs a.0 in
    let two : owned k zs ≡ owned k ys ++ owned k b.0 = ap (owned k) b.1 ∙ owned-append k ys b.0 in
    let all : (owned k xs ++ owned k a.0) ++ owned k b.0 ≡ owned k xs = ap (λ (l : List ℕ). l ++ owned k b.0) (sym one) ∙ sym two ∙ e in
    let none = nothing_after (owned k xs) (owned k a.0 ++ owned k b.0) (sym (append_assoc (owned k xs) (owned k a.0) (owned k b.0)) ∙ all) in
    one ∙ ap (λ (l : List ℕ). owned k xs ++ l) (nothing_first (owned k a.0) (owned k b.0) none) ∙ append-nil (owned k xs)

pub continues : (k : ℕ) (seen log : List ℕ) → IsPrefix seen log → owned k log ≡ owned k seen → Continues k seen log
continues k seen log a e = (a.0, a.1, nothing_after (owned k seen) (owned k a.0) (sym (owned-append k seen a.0) ∙ sym (ap (owned k) a.1) ∙ e))

-- the entries that a turn added
added : (k : ℕ) (entered log : List ℕ) (a : Adds k entered log) → drop (length entered) log ≡ a.0.0
added k entered log a = front_rest log entered a.0.0 a.0.1

all_added : (k : ℕ) (entered log : List ℕ) (a : Adds k entered log) → All (λ n. owner n ≡ k) a.0.0
all_added k entered log a = subst (All (λ n. owner n ≡ k)) (added k entered log a) a.1

pub owned_mine : (k : ℕ) (entered log : List ℕ) → Adds k entered log → owned k log ≡ owned k entered ++ drop (length entered) log
owned_mine k entered log a = ap (owned k) a.0.1 ∙ owned-append k entered a.0.0 ∙ ap (λ (l : List ℕ). owned k entered ++ l) (owned_all k a.0.0 (all_added k entered log a) ∙ sym (added k entered log a))

pub owned_theirs : (j k : ℕ) (entered log : List ℕ) → j ≢ k → Adds k entered log → owned j log ≡ owned j entered
owned_theirs j k entered log other a = ap (owned j) a.0.1 ∙ owned-append j entered a.0.0 ∙ ap (λ (l : List ℕ). owned j entered ++ l) (owned_none j k a.0.0 other (all_added k entered log a)) ∙ append-nil (owned j entered)

pub adds_more : (k : ℕ) (log xs : List ℕ) → All (λ n. owner n ≡ k) xs → Adds k log (log ++ xs)
adds_more k log xs a = ((xs, refl), subst (All (λ n. owner n ≡ k)) (sym (front_rest (log ++ xs) log xs refl)) a)

pub adds_none : (k : ℕ) (log : List ℕ) → Adds k log log
adds_none k log = (begins_itself log, subst (All (λ n. owner n ≡ k)) (sym (front_rest log log [] (sym (append-nil log)))) (λ i d lt. absurd (omega arith)))

longer_by : (xs ys : List ℕ) (b : Bool) → ltb (length xs) (length ys) ≡ b → ((longer xs ys ≡ xs) × (length ys ≤ length xs)) ⊎ ((longer xs ys ≡ ys) × (length xs ≤ length ys))
longer_by xs ys true e = inr (ap (λ (b : Bool). cond b ys xs) e, (let lt = ltb-true (length xs) (length ys) e in omega arith))
longer_by xs ys false e = inl (ap (λ (b : Bool). cond b ys xs) e, ltb-false (length xs) (length ys) e)

pub longer_is : (xs ys : List ℕ) → ((longer xs ys ≡ xs) × (length ys ≤ length xs)) ⊎ ((longer xs ys ≡ ys) × (length xs ≤ length ys))
longer_is xs ys = longer_by xs ys (ltb (length xs) (length ys)) refl

module _ (xs ys zs : List ℕ) (a : IsPrefix xs zs) (b : IsPrefix ys zs) where
  pub longer_left : IsPrefix xs (longer xs ys)
  longer_left = ⊎_elim (λ t. subst (IsPrefix xs) (sym t.0) (begins_itself xs)) (λ t. subst (IsPrefix xs) (sym t.0) (begins_longer xs ys zs a b t.1)) (longer_is xs ys)

  pub longer_right : IsPrefix ys (longer xs ys)
  longer_right = ⊎_elim (λ t. subst (IsPrefix ys) (sym t.0) (begins_longer ys xs zs b a t.1)) (λ t. subst (IsPrefix ys) (sym t.0) (begins_itself ys)) (longer_is xs ys)

  pub longer_within : IsPrefix (longer xs ys) zs
  longer_within = ⊎_elim (λ t. subst (λ l. IsPrefix l zs) (sym t.0) a) (λ t. subst (λ l. IsPrefix l zs) (sym t.0) b) (longer_is xs ys)

pub begins_same : (xs ys : List ℕ) → IsPrefix xs ys → IsPrefix ys xs → ys ≡ xs
begins_same xs ys a b =
    let round : xs ++ (a.0 ++ b.0) ≡ xs = sym (append_assoc xs a.0 b.0) ∙ ap (λ (l : List ℕ). l ++ b.0) (sym a.1) ∙ sym b.1 in
    let none = nothing_first a.0 b.0 (nothing_after xs (a.0 ++ b.0) round) in
    a.1 ∙ ap (λ (l : List ℕ). xs ++ l) none ∙ append-nil xs

pub all_owned : (k : ℕ) (mine : List ℕ) (others : List (ℕ × List ℕ)) (log : List ℕ) → owned k log ≡ mine → AreOwned others log → AreOwned ((k, mine) ∷ others) log
all_owned k mine others log e a = All-cons (λ o. owned o.0 log ≡ o.1) (k, mine) others e a
