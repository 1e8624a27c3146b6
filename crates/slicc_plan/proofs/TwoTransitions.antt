-- Where no transitions share a pair, none after one that is written for a pair is written for it too.
use Rattle.std.proofs.Common.{◌≡◌, ◌==◌, ℕ, Bool, true, false, cond, ◌||◌, Option, None, Some, List, [], ◌∷◌, ◌++◌, find, refl, sym, ap, ◌∙◌, arith}
use Rattle.std.specs.List.{list_any}
use Rattle.std.proofs.lemmas.Bool.{and_parts}
use Rattle.std.proofs.lemmas.List.Folds.{list_any-append}
use Rattle.slicc_plan.specs.declared.row.Written.{Written}
use Rattle.slicc_plan.specs.Machines.{is_for}
use Rattle.slicc_plan.specs.Prelude.{includes, share_pair, shared_after}
use Rattle.slicc_plan.specs.TwoTransitions.{told_with}
use Rattle.slicc_plan.proofs.Room.{left_none, right_none}

pub or_true : (b : Bool) → (b || true) ≡ true
or_true true = refl
or_true false = refl

any_at : (xs : List ℕ) (k : ℕ) (p : ℕ → Bool) → includes xs k ≡ true → p k ≡ true → list_any p xs ≡ true
any_at [] k p h e = cc
any_at (x ∷ xs) k p h e = by (λ g. any_at xs k p g e) (x == k) refl h
  where
    by : (includes xs k ≡ true → list_any p xs ≡ true) → (b : Bool) → b ≡ (x == k) → (b || includes xs k) ≡ true → (p x || list_any p xs) ≡ true
    by more true is g =
        let same : x ≡ k = grind arith in
        let here : p x ≡ true = ap p same ∙ e in
        rw here refl
    by more false is g = ap (λ b. p x || b) (more g) ∙ or_true (p x)

share_of : (s e : ℕ) (t u : Written) → is_for s e t ≡ true → is_for s e u ≡ true → share_pair t u ≡ true
share_of s e t u h g =
    let parts = and_parts (includes t.states s) (includes t.events e) h in
    any_at t.states s (λ s. list_any (λ e. is_for s e u) t.events) parts.0 (any_at t.events e (λ e. is_for s e u) parts.1 g)

module _ {X : Type 0} where
  find_none : (p : X → Bool) (xs : List X) → find p xs ≡ None → list_any p xs ≡ false
  find_none p [] h = refl
  find_none p (x ∷ xs) h = by (find_none p xs) (p x) h
    where
      by : (find p xs ≡ None → list_any p xs ≡ false) → (b : Bool) → cond b (Some x) (find p xs) ≡ None → (b || list_any p xs) ≡ false
      by more true h = cc
      by more false h = more h

  any_mono : (p q : X → Bool) (xs : List X) → ((x : X) → p x ≡ true → q x ≡ true) → list_any p xs ≡ true → list_any q xs ≡ true
  any_mono p q [] f h = cc
  any_mono p q (x ∷ xs) f h = by (any_mono p q xs f) (p x) refl h
    where
      by : (list_any p xs ≡ true → list_any q xs ≡ true) → (b : Bool) → b ≡ p x → (b || list_any p xs) ≡ true → (q x || list_any q xs) ≡ true
      by more true e g =
          let here : q x ≡ true = f x (sym e) in
          rw here refl
      by more false e g = ap (λ b. q x || b) (more g) ∙ or_true (q x)

told_none : (number : ℕ) (t : Written) (o : Option Written) → told_with number t o ≡ [] → o ≡ None
told_none number t None h = refl
told_none number t (Some u) h = cc

pub unshared : (number : ℕ) (before ts : List Written) (s e : ℕ) → shared_after number before ts ≡ [] → list_any (is_for s e) before ≡ true → list_any (is_for s e) ts ≡ false
unshared number before [] s e h there = refl
unshared number before (t ∷ ts) s e h there =
    let told = told_with number t (find (share_pair t) before) in
    let later = shared_after number (before ++ t ∷ []) ts in
    let apart : list_any (share_pair t) before ≡ false = find_none (share_pair t) before (told_none number t (find (share_pair t) before) (left_none told later h)) in
    by (is_for s e t) refl apart (unshared number (before ++ t ∷ []) ts s e (right_none told later h) (list_any-append (is_for s e) before (t ∷ []) ∙ ap (λ b. b || list_any (is_for s e) (t ∷ [])) there))
  where
    by : (b : Bool) → b ≡ is_for s e t → list_any (share_pair t) before ≡ false → list_any (is_for s e) ts ≡ false → (b || list_any (is_for s e) ts) ≡ false
    by true is apart more =
        let share = any_mono (is_for s e) (share_pair t) before (λ u h. share_of s e t u (sym is) h) there in
        cc
    by false is apart more = more

-- what is before the others with one more that is written for a pair
pub written_before : (before : List Written) (t : Written) (s e : ℕ) → is_for s e t ≡ true → list_any (is_for s e) (before ++ t ∷ []) ≡ true
written_before before t s e is =
    list_any-append (is_for s e) before (t ∷ []) ∙ ap (λ b. list_any (is_for s e) before || (b || false)) is ∙ or_true (list_any (is_for s e) before)
