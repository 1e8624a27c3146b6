-- What holds of each line of a list, and of a map, after an edit; and the kinds of fields of which one is written.
use Rattle.std.proofs.Common.{◌≡◌, ℕ, zero, suc, Bool, true, false, cond, eqb, List, [], ◌∷◌, All, IsTrue, IfSome, IsSomeAnd, refl, subst, Option, Some, slice_get, set, unwrap_or}
use Rattle.std.proofs.lemmas.Bool.{and_from, and_parts, eqb-true}
use Rattle.std.proofs.lemmas.List.Elements.{All-nil, All-cons, All-head, All-tail}
use Rattle.std.specs.Map.{lookup, remove_entry, set_value}
use Rattle.ruby_value.specs.declared.kind.Kind.{Kind}
use Rattle.ruby_value.specs.declared.value.Value.{Value}
use Rattle.ruby_value.specs.Prelude.{has_kinds, has_kind}

module _ {X : Type 0} (P : ℕ × X → Type 0) where
  pub All-removed : (test : ℕ → Bool) (xs : List (ℕ × X)) → All P xs → All P (remove_entry test xs)
  All-removed test [] all = all
  All-removed test (x ∷ xs) all =
      elim (test x.0) as (λ b. All P (cond b xs (x ∷ remove_entry test xs))) [
        | true ↦ All-tail P x xs all
        | false ↦ All-cons P x (remove_entry test xs) (All-head P x xs all) (All-removed test xs (All-tail P x xs all))
      ]

  pub All-written : (test : ℕ → Bool) (w : X) → ((x : ℕ × X) → P x → P (x.0, w)) → (xs : List (ℕ × X)) → All P xs → All P (set_value test xs w)
  All-written test w keeps [] all = all
  All-written test w keeps (x ∷ xs) all =
      let here = All-head P x xs all in
      let rest = All-tail P x xs all in
      elim (test x.0) as (λ b. All P (cond b ((x.0, w) ∷ xs) (x ∷ set_value test xs w))) [
        | true ↦ All-cons P (x.0, w) xs (keeps x here) rest
        | false ↦ All-cons P x (set_value test xs w) here (All-written test w keeps xs rest)
      ]

  -- what a look-up finds
  pub lookup_holds : (line : ℕ) (xs : List (ℕ × X)) → All P xs → IfSome (lookup (λ l. eqb l line) xs) (λ v. P (line, v))
  lookup_holds line [] all = tt
  lookup_holds line (x ∷ xs) all =
      elim (eqb x.0 line) as (λ b. eqb x.0 line ≡ b → IfSome (cond b (Some x.1) (lookup (λ l. eqb l line) xs)) (λ v. P (line, v))) [
        | true ↦ λ same. let Q : ℕ → Type 0 = λ n. P (n, x.1) in subst Q (eqb-true x.0 line same) (All-head P x xs all)
        | false ↦ λ other. lookup_holds line xs (All-tail P x xs all)
      ] refl

-- what holds of each element holds of the one at a place, if there is one
pub All-found : {X : Type 0} (P : X → Type 0) (xs : List X) (place : ℕ) → All P xs → IfSome (slice_get xs place) P
All-found P [] place all = tt
All-found P (x ∷ xs) zero all = All-head P x xs all
All-found P (x ∷ xs) (suc place) all = All-found P xs place (All-tail P x xs all)

pub All-at : {X : Type 0} (P : X → Type 0) (lists : List (List X)) (place : ℕ) → All (All P) lists → All P (unwrap_or (slice_get lists place) [])
All-at P [] place all = All-nil P
All-at P (xs ∷ lists) zero all = All-head (All P) xs lists all
All-at P (xs ∷ lists) (suc place) all = All-at P lists place (All-tail (All P) xs lists all)

-- what holds at each place holds there after one element is written
pub holds_after_set : {X : Type 0} (P : ℕ → Option X → Type 0) (xs : List X) (place : ℕ) (x : X) → ((j : ℕ) → P j (slice_get xs j)) → P place (Some x) → (j : ℕ) → P j (slice_get (set xs place x) j)
holds_after_set P [] place x holds here j = holds j
holds_after_set P (y ∷ ys) zero x holds here zero = here
holds_after_set P (y ∷ ys) zero x holds here (suc j) = holds (suc j)
holds_after_set P (y ∷ ys) (suc place) x holds here zero = holds 0
holds_after_set P (y ∷ ys) (suc place) x holds here (suc j) = holds_after_set (λ k. P (suc k)) ys place x (λ k. holds (suc k)) here j

-- a field takes a value of its kind
pub has_kinds-set : (kinds : List Kind) (fields : List Value) (field : ℕ) (value : Value) → IsSomeAnd (slice_get kinds field) (λ k. IsTrue (has_kind k value)) → IsTrue (has_kinds kinds fields) → IsTrue (has_kinds kinds (set fields field value))
has_kinds-set [] fields field value is all = absurd is
has_kinds-set (k ∷ ks) [] field value is all = all
has_kinds-set (k ∷ ks) (v ∷ vs) zero value is all = and_from (has_kind k value) (has_kinds ks vs) is (and_parts (has_kind k v) (has_kinds ks vs) all).1
has_kinds-set (k ∷ ks) (v ∷ vs) (suc field) value is all =
    let parts = and_parts (has_kind k v) (has_kinds ks vs) all in
    and_from (has_kind k v) (has_kinds ks (set vs field value)) parts.0 (has_kinds-set ks vs field value is parts.1)
