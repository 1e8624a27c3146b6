-- What the test of a table says of each alternative of a form, and of two of them.
use Rattle.std.proofs.Common.{◌≡◌, ℕ, zero, suc, ◌<◌, Bool, true, not, ◌&&◌, ◌||◌, List, [], ◌∷◌, length, slice_index_or, Option, Some, None, refl, sym, subst, ap, ◌∙◌, inl, inr, arith}
use Rattle.std.specs.List.{slice_get, list_all, flat_map, Contains}
use Rattle.std.proofs.lemmas.Bool.{or_cases, and_parts, and_from, both_ways, not-true, cases_eq}
use Rattle.std.proofs.lemmas.Option.{same_Some}
use Rattle.slicc_ast.specs.Prelude.{has, is_subset, are_disjoint, Row, Grammar, is_nullable, first_of, further_of, is_decided, differs_from_all, are_different, agrees_with, is_form_predictive, is_predictive, IsPredictive}
use Rattle.slicc_ast.proofs.KindSets.{of_disjoint}

pub and_three : (x y z : Bool) → x && y && z ≡ true → (x ≡ true) × (y ≡ true) × (z ≡ true)
and_three x y z all = let p = and_parts (x && y) z all in let q = and_parts x y p.0 in (q.0, q.1, p.1)

pub and_four : (x y z u : Bool) → x && y && z && u ≡ true → (x ≡ true) × (y ≡ true) × (z ≡ true) × (u ≡ true)
and_four x y z u all = let p = and_parts (x && y && z) u all in let q = and_three x y z p.0 in (q.0, q.1, q.2, p.1)

pub and_five : (x y z u v : Bool) → x && y && z && u && v ≡ true → (x ≡ true) × (y ≡ true) × (z ≡ true) × (u ≡ true) × (v ≡ true)
and_five x y z u v all = let p = and_parts (x && y && z && u) v all in let q = and_four x y z u p.0 in (q.0, q.1, q.2, q.3, p.1)

pub all_at : {X : Type 0} (test : X → Bool) (xs : List X) (place : ℕ) (x : X) → list_all test xs ≡ true → slice_get xs place ≡ Some x → test x ≡ true
all_at {X} test [] place x all at = absurd (let no : ◌≡◌ {A = Option X} None (Some x) = at in grind arith)
all_at test (y ∷ ys) zero x all at = subst (λ z. test z ≡ true) (same_Some y x at) (and_parts (test y) (list_all test ys) all).0
all_at test (y ∷ ys) (suc place) x all at = all_at test ys place x (and_parts (test y) (list_all test ys) all).1 at

-- what holds of an alternative
pub record Agrees {F : Type 0} (g : Grammar F) (n : F) (row : Row F) : Type 0 where
  pub decided : is_decided g row ≡ true
  pub first : is_subset (first_of g row) (g.first n) ≡ true
  pub further : is_subset (further_of g row) (g.further n) ≡ true
  pub empty : is_nullable g row ≡ true → (g.may_be_empty n ≡ true) × (is_subset (g.first n) (g.further n) ≡ true)

parts_of_form : {F : Type 0} (g : Grammar F) → IsPredictive g → (n : F) → (list_all (agrees_with g n) (g.alternatives n) ≡ true) × (are_different g (g.alternatives n) ≡ true) × (is_subset (g.first n) (flat_map (first_of g) (g.alternatives n)) ≡ true)
parts_of_form g predictive n =
    and_three (list_all (agrees_with g n) (g.alternatives n)) (are_different g (g.alternatives n)) (is_subset (g.first n) (flat_map (first_of g) (g.alternatives n))) (predictive n)

pub agrees_at : {F : Type 0} (g : Grammar F) → IsPredictive g → (n : F) (place : ℕ) (row : Row F) → slice_get (g.alternatives n) place ≡ Some row → Agrees g n row
agrees_at g predictive n place row at =
    let agrees : agrees_with g n row ≡ true = all_at (agrees_with g n) (g.alternatives n) place row (parts_of_form g predictive n).0 at in
    let parts = and_four (is_decided g row) (is_subset (first_of g row) (g.first n)) (is_subset (further_of g row) (g.further n)) (not (is_nullable g row) || (g.may_be_empty n && is_subset (g.first n) (g.further n))) agrees in
    record {
      decided = parts.0;
      first = parts.1;
      further = parts.2;
      empty = λ nullable. elim (or_cases (not (is_nullable g row)) (g.may_be_empty n && is_subset (g.first n) (g.further n)) parts.3) [
        | inl not_nullable ↦ absurd (both_ways (is_nullable g row) (not-true (is_nullable g row) not_nullable) nullable)
        | inr both ↦ and_parts (g.may_be_empty n) (is_subset (g.first n) (g.further n)) both
      ];
    }

-- what holds of two alternatives
pub record Differs {F : Type 0} (g : Grammar F) (row other : Row F) : Type 0 where
  pub first : (kind : ℕ) → has (first_of g row) kind ≡ true → has (first_of g other) kind ≡ true → ⊥
  pub empty : is_nullable g row ≡ true → is_nullable g other ≡ true → ⊥

turned : {F : Type 0} (g : Grammar F) (row other : Row F) → Differs g row other → Differs g other row
turned g row other d = record { first = λ kind is also. d.first kind also is; empty = λ is also. d.empty also is }

differs_later : {F : Type 0} (g : Grammar F) (row other : Row F) (others : List (Row F)) (place : ℕ) → differs_from_all g row others ≡ true → slice_get others place ≡ Some other → Differs g row other
differs_later {F} g row other [] place differs at = absurd (let no : ◌≡◌ {A = Option (Row F)} None (Some other) = at in grind arith)
differs_later g row other (next ∷ others) zero differs at =
    let parts = and_three (are_disjoint (first_of g row) (first_of g next)) (not (is_nullable g row && is_nullable g next)) (differs_from_all g row others) differs in
    subst (λ o. Differs g row o) (same_Some next other at) (record {
      first = λ kind is also. of_disjoint (first_of g row) (first_of g next) kind parts.0 is also;
      empty = λ is also. both_ways (is_nullable g row && is_nullable g next) (not-true (is_nullable g row && is_nullable g next) parts.1) (and_from (is_nullable g row) (is_nullable g next) is also);
    })
differs_later g row other (next ∷ others) (suc place) differs at =
    differs_later g row other others place
    (and_three (are_disjoint (first_of g row) (first_of g next)) (not (is_nullable g row && is_nullable g next)) (differs_from_all g row others) differs).2 at

different_at : {F : Type 0} (g : Grammar F) (rows : List (Row F)) (row other : Row F) (i j : ℕ) → are_different g rows ≡ true → slice_get rows i ≡ Some row → slice_get rows j ≡ Some other → (i ≡ j → ⊥) → Differs g row other
different_at {F} g [] row other i j different at also ne = absurd (let no : ◌≡◌ {A = Option (Row F)} None (Some row) = at in grind arith)
different_at g (r ∷ rows) row other zero zero different at also ne = absurd (ne refl)
different_at g (r ∷ rows) row other zero (suc j) different at also ne =
    subst (λ v. Differs g v other) (same_Some r row at) (differs_later g r other rows j (and_parts (differs_from_all g r rows) (are_different g rows) different).0 also)
different_at g (r ∷ rows) row other (suc i) zero different at also ne =
    subst (λ v. Differs g row v) (same_Some r other also) (turned g r row (differs_later g r row rows i (and_parts (differs_from_all g r rows) (are_different g rows) different).0 at))
different_at g (r ∷ rows) row other (suc i) (suc j) different at also ne =
    different_at g rows row other i j (and_parts (differs_from_all g r rows) (are_different g rows) different).1 at also (λ same. ne (ap suc same))

-- two alternatives of a form that begin with one token, or may both be empty, are one
pub one_first : {F : Type 0} (g : Grammar F) → IsPredictive g → (n : F) (i j : ℕ) (row other : Row F) (kind : ℕ) → slice_get (g.alternatives n) i ≡ Some row → slice_get (g.alternatives n) j ≡ Some other → has (first_of g row) kind ≡ true → has (first_of g other) kind ≡ true → i ≡ j
one_first g predictive n i j row other kind at also is has_also =
    elim (cases_eq i j) [
      | inl same ↦ same
      | inr ne ↦ absurd ((different_at g (g.alternatives n) row other i j (parts_of_form g predictive n).1 at also ne).first kind is has_also)
    ]

pub one_empty : {F : Type 0} (g : Grammar F) → IsPredictive g → (n : F) (i j : ℕ) (row other : Row F) → slice_get (g.alternatives n) i ≡ Some row → slice_get (g.alternatives n) j ≡ Some other → is_nullable g row ≡ true → is_nullable g other ≡ true → i ≡ j
one_empty g predictive n i j row other at also is is_also =
    elim (cases_eq i j) [
      | inl same ↦ same
      | inr ne ↦ absurd ((different_at g (g.alternatives n) row other i j (parts_of_form g predictive n).1 at also ne).empty is is_also)
    ]

-- one place has one alternative
pub one_row : {F : Type 0} (g : Grammar F) (n : F) (i j : ℕ) (row other : Row F) → slice_get (g.alternatives n) i ≡ Some row → slice_get (g.alternatives n) j ≡ Some other → i ≡ j → row ≡ other
one_row g n i j row other at also same =
    same_Some row other (sym at ∙ ap (slice_get (g.alternatives n)) same ∙ also)

all_index : {X : Type 0} (test : X → Bool) (xs : List X) (x : X) (k : ℕ) → list_all test xs ≡ true → k < length xs → slice_index_or xs k x ≡ x → test x ≡ true
all_index test [] x k all lt is = absurd (let no : k < 0 = lt in omega arith)
all_index test (y ∷ ys) x zero all lt is = subst (λ z. test z ≡ true) is (and_parts (test y) (list_all test ys) all).0
all_index test (y ∷ ys) x (suc k) all lt is = all_index test ys x k (and_parts (test y) (list_all test ys) all).1 (omega arith) is

all_of : {X : Type 0} (test : X → Bool) (xs : List X) (x : X) → list_all test xs ≡ true → Contains xs x → test x ≡ true
all_of test xs x all among = all_index test xs x among.0 all among.1 among.2

-- where the test of each of a list of forms holds, and these are all the forms, it holds of the table
pub predictive_by : {F : Type 0} (g : Grammar F) (forms : List F) → ((n : F) → Contains forms n) → is_predictive g forms ≡ true → IsPredictive g
predictive_by g forms among all n = all_of (is_form_predictive g) forms n all (among n)
