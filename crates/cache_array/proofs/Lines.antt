-- The first place of a line in a list of lines, and what an edit at that place makes of the list.
use Rattle.std.proofs.Common.{◌≡◌, ℕ, zero, suc, ◌<◌, ◌≤◌, Bool, true, false, cond, eqb, ltb, List, [], ◌∷◌, length, get_or, set, Some, None, refl, sym, ap, ◌∙◌, arith}
use Rattle.std.specs.List.{position, position_or_len, remove}
use Rattle.std.specs.Map.{lookup, remove_entry, set_value}
use Rattle.std.proofs.lemmas.Bool.{eqb-true, ltb-false}
use Rattle.std.proofs.lemmas.List.Quantifiers.{position-Some}
use Rattle.std.proofs.lemmas.List.Sums.{fails_before_first}
use Rattle.std.proofs.lemmas.Option.{none-some}
use Rattle.ruby_value.specs.Prelude.{Roomy}

module _ {X : Type 0} (test : ℕ → Bool) where
  -- the first entry that passes stands at this place
  pub record IsFirst (xs : List (ℕ × X)) (at : ℕ) (d : ℕ × X) : Type 0 where
    pub in_range : at < length xs
    pub passes : test (get_or xs at d).0 ≡ true
    pub before : (k : ℕ) → k < at → test (get_or xs k d).0 ≡ false

  later : (x : ℕ × X) (xs : List (ℕ × X)) (at : ℕ) (d : ℕ × X) → IsFirst (x ∷ xs) (suc at) d → IsFirst xs at d
  later x xs at d first = record { in_range = omega (arith, first.in_range); passes = first.passes; before = λ k lt. first.before (suc k) (omega arith) }

  pub lookup_first : (xs : List (ℕ × X)) (at : ℕ) (d : ℕ × X) → IsFirst xs at d → lookup test xs ≡ Some (get_or xs at d).1
  lookup_first [] at d first = absurd (omega (arith, first.in_range))
  lookup_first (x ∷ xs) zero d first = rw first.passes refl
  lookup_first (x ∷ xs) (suc at) d first = rw (first.before 0 (omega arith)) (lookup_first xs at d (later x xs at d first))

  pub remove_first : (xs : List (ℕ × X)) (at : ℕ) (d : ℕ × X) → IsFirst xs at d → remove_entry test xs ≡ remove xs at
  remove_first [] at d first = absurd (omega (arith, first.in_range))
  remove_first (x ∷ xs) zero d first = rw first.passes refl
  remove_first (x ∷ xs) (suc at) d first = rw (first.before 0 (omega arith)) (ap (λ z. x ∷ z) (remove_first xs at d (later x xs at d first)))

  pub set_first : (xs : List (ℕ × X)) (at : ℕ) (d : ℕ × X) (w : X) → IsFirst xs at d → set_value test xs w ≡ set xs at ((get_or xs at d).0, w)
  set_first [] at d w first = absurd (omega (arith, first.in_range))
  set_first (x ∷ xs) zero d w first = rw first.passes refl
  set_first (x ∷ xs) (suc at) d w first = rw (first.before 0 (omega arith)) (ap (λ z. x ∷ z) (set_first xs at d w (later x xs at d first)))

  pub lookup_nowhere : (xs : List (ℕ × X)) (d : ℕ × X) → ((k : ℕ) → k < length xs → test (get_or xs k d).0 ≡ false) → lookup test xs ≡ None
  lookup_nowhere [] d fails = refl
  lookup_nowhere (x ∷ xs) d fails = rw (fails 0 (omega arith)) (lookup_nowhere xs d (λ k lt. fails (suc k) (omega arith)))

  pub remove_nowhere : (xs : List (ℕ × X)) → lookup test xs ≡ None → remove_entry test xs ≡ xs
  remove_nowhere [] none = refl
  remove_nowhere (x ∷ xs) none =
      elim (test x.0) as (λ b. cond b (Some x.1) (lookup test xs) ≡ None → cond b xs (x ∷ remove_entry test xs) ≡ x ∷ xs) [
        | true ↦ λ wrong. absurd (none-some x.1 (sym wrong))
        | false ↦ λ rest. ap (λ z. x ∷ z) (remove_nowhere xs rest)
      ] none

-- the line was found at this place, where the entry e stands
pub record IsFound {X : Type 0} (xs : List (ℕ × X)) (line at : ℕ) (e : ℕ × X) : Type 0 where
  pub in_range : at < length xs
  pub is_line : e.0 ≡ line
  pub looked_up : lookup (λ l. eqb l line) xs ≡ Some e.1
  pub removed : remove_entry (λ l. eqb l line) xs ≡ remove xs at
  pub written : (w : X) → set_value (λ l. eqb l line) xs w ≡ set xs at (e.0, w)

-- the lines that were searched are those of which the entry is read
pub found : {X : Type 0} {xs seen : List (ℕ × X)} {line at : ℕ} {e : ℕ × X} → xs ≡ seen → Some at ≡ position (λ l. eqb l.0 line) seen → e ≡ get_or xs at e → IsFound xs line at e
found {X} {xs} {seen} {line} {at} {e} same is stands =
    let here = position-Some (λ l. eqb l.0 line) xs at e (sym (rw (← same) at is)) in
    let first : IsFirst (λ l. eqb l line) xs at e = record { in_range = here.0; passes = here.1; before = here.2 } in
    record {
      in_range = here.0;
      is_line = rw stands (eqb-true _ _ here.1);
      looked_up = lookup_first (λ l. eqb l line) xs at e first ∙ ap (λ x. Some x.1) (sym stands);
      removed = remove_first (λ l. eqb l line) xs at e first;
      written = λ w. set_first (λ l. eqb l line) xs at e w first ∙ ap (λ x. set xs at (x.0, w)) (sym stands);
    }

cond_none : {A : Type 0} (b : Bool) (x : A) → cond b (Some x) None ≡ None → b ≡ false
cond_none true x wrong = absurd (none-some x (sym wrong))
cond_none false x is = refl

-- the line is nowhere
pub absent : {X : Type 0} (xs : List (ℕ × X)) (line : ℕ) → position (λ l. eqb l.0 line) xs ≡ None → lookup (λ l. eqb l line) xs ≡ None
absent [] line none = refl
absent (x ∷ xs) line none =
    let n = position_or_len (λ l. eqb l.0 line) (x ∷ xs) in
    let past : length (x ∷ xs) ≤ n = ltb-false n (length (x ∷ xs)) (cond_none (ltb n (length (x ∷ xs))) n none) in
    lookup_nowhere (λ l. eqb l line) (x ∷ xs) x (λ k lt. fails_before_first (λ l. eqb l.0 line) (x ∷ xs) k x (omega arith))

-- two lists with room that are the same keep the same lines
pub kept : {X : Type 0} {a b : Roomy X} → a ≡ b → a.kept ≡ b.kept
kept {X} is = ap (λ (r : Roomy X). r.kept) is
