-- The next cycle is the least one above this at which something must act.
use Rattle.std.proofs.Common.{◌≡◌, ◌<◌, ◌≤◌, ◌⊎◌, ℕ, zero, suc, ◌==◌, Option, None, Some, List, [], ◌∷◌, min, nat_lt, refl, sym, subst, ap, inl, inr, ⊎_elim, IsTrue, eqb-true, eq-eqb, arith}
use Rattle.std.proofs.lemmas.Bool.{cases_lt, or_right, or_left, or_cases, cond_both, ltb-true, ltb-false}
use Rattle.std.proofs.lemmas.Option.{same_Some}
use Rattle.ruby_value.specs.Prelude.{has_mark}
use Rattle.protocol_runs.specs.Prelude.{Rules, Place, must_wake, IsLeastAboveIfAny, MustAct, IsNextCycle, earlier, above, least_above, later, next_cycle}

-- two properties that hold of the same cycles
like : (P Q : ℕ → Type 0) (now : ℕ) → ((m : ℕ) → P m → Q m) → ((m : ℕ) → Q m → P m) → (o : Option ℕ) → IsLeastAboveIfAny P now o → IsLeastAboveIfAny Q now o
like P Q now to from None is = λ m q after. is m (from m q) after
like P Q now to from (Some cycle) is =
    record { has = to cycle is.has; later = is.later; least = λ other q after. is.least other (from other q) after }

-- the lesser of two answers answers for both properties
either : (P Q : ℕ → Type 0) (now : ℕ) (a b : Option ℕ) → IsLeastAboveIfAny P now a → IsLeastAboveIfAny Q now b → IsLeastAboveIfAny (λ m. P m ⊎ Q m) now (earlier a b)
either P Q now None None p q = λ m h after. ⊎_elim (λ x. p m x after) (λ x. q m x after) h
either P Q now None (Some b) p q =
    record { has = inr q.has; later = q.later; least = λ m h after. ⊎_elim (λ x. absurd (p m x after)) (λ x. q.least m x after) h }
either P Q now (Some a) None p q =
    record { has = inl p.has; later = p.later; least = λ m h after. ⊎_elim (λ x. p.least m x after) (λ x. absurd (q m x after)) h }
either P Q now (Some a) (Some b) p q =
    let is_a : a < b → a ≡ min a b = λ less. omega arith in
    let is_b : b ≤ a → b ≡ min a b = λ less. omega arith in
    record {
      has = ⊎_elim (λ less. inl (subst P (is_a less) p.has)) (λ less. inr (subst Q (is_b less) q.has)) (cases_lt a b);
      later = omega (arith, p.later, q.later);
      least = λ m h after. ⊎_elim (λ x. omega (arith, p.least m x after)) (λ x. omega (arith, q.least m x after)) h;
    }

above-is : (now mark : ℕ) → IsLeastAboveIfAny (λ m. m ≡ mark) now (above now mark)
above-is now mark =
    cond_both (nat_lt now mark) (Some mark) None (IsLeastAboveIfAny (λ m. m ≡ mark) now)
    (λ is. record { has = refl; later = ltb-true now mark is; least = λ other same after. omega (arith, same) })
    (λ not m same after. omega (arith, same, ltb-false now mark not))

-- the marks of one controller
marks-is : (now : ℕ) (marks : List ℕ) → IsLeastAboveIfAny (λ m. IsTrue (has_mark marks m)) now (least_above now marks)
marks-is now [] = λ m none after. absurd (cc none)
marks-is now (mark ∷ marks) =
    like (λ m. (m ≡ mark) ⊎ IsTrue (has_mark marks m)) (λ m. IsTrue (has_mark (mark ∷ marks) m)) now
    (λ m. ⊎_elim (λ same. or_left (mark == m) (has_mark marks m) (eq-eqb mark m (sym same))) (λ there. or_right (mark == m) (has_mark marks m) there))
    (λ m there. ⊎_elim (λ same. inl (sym (eqb-true mark m same))) inr (or_cases (mark == m) (has_mark marks m) there))
    (earlier (above now mark) (least_above now marks))
    (either (λ m. m ≡ mark) (λ m. IsTrue (has_mark marks m)) now (above now mark) (least_above now marks) (above-is now mark) (marks-is now marks))

driver-is : (now : ℕ) (next : Option ℕ) → IsLeastAboveIfAny (λ m. next ≡ Some m) now (later now next)
driver-is now None = λ m is after. absurd (cc is)
driver-is now (Some mark) =
    like (λ m. m ≡ mark) (λ m. Some mark ≡ Some m) now (λ m same. ap Some (sym same)) (λ m same. cc same) (above now mark) (above-is now mark)

module _ {C M D : Type 0} (r : Rules C M D) where
  without-places : (next : Option ℕ) (m : ℕ) → MustAct r next [] m → next ≡ Some m
  without-places next m (inl is) = is
  without-places next m (inr (c, p, there, has)) = absurd (cc there)

  split-place : (next : Option ℕ) (p : Place C) (places : List (Place C)) (m : ℕ) → MustAct r next (p ∷ places) m → IsTrue (must_wake r m p) ⊎ MustAct r next places m
  split-place next p places m (inl is) = inr (inl is)
  split-place next p places m (inr (zero, q, there, has)) = inl (subst (λ (x : Place C). IsTrue (must_wake r m x)) (sym (same_Some p q there)) has)
  split-place next p places m (inr (suc c, q, there, has)) = inr (inr (c, q, there, has))

  join-place : (next : Option ℕ) (p : Place C) (places : List (Place C)) (m : ℕ) → IsTrue (must_wake r m p) ⊎ MustAct r next places m → MustAct r next (p ∷ places) m
  join-place next p places m (inl has) = inr (0, p, refl, has)
  join-place next p places m (inr (inl is)) = inl is
  join-place next p places m (inr (inr (c, q, there, has))) = inr (suc c, q, there, has)

  pub next_cycle-is : (now : ℕ) (next : Option ℕ) (places : List (Place C)) → IsNextCycle r now next places (next_cycle r now next places)
  next_cycle-is now next [] =
      like (λ m. next ≡ Some m) (MustAct r next []) now (λ m is. inl is) (without-places next) (later now next) (driver-is now next)
  next_cycle-is now next (p ∷ places) =
      like (λ m. IsTrue (must_wake r m p) ⊎ MustAct r next places m) (MustAct r next (p ∷ places)) now
      (join-place next p places) (split-place next p places) (next_cycle r now next (p ∷ places))
      (either (λ m. IsTrue (must_wake r m p)) (MustAct r next places) now (least_above now (r.marks p.controller)) (next_cycle r now next places)
      (marks-is now (r.marks p.controller)) (next_cycle-is now next places))
