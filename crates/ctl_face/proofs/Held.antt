-- What a list contains, what is kept of it by a test, and what a change makes of it.
use Rattle.std.proofs.Common.{◌≡◌, suc, Bool, true, false, List, [], ◌∷◌, cond, refl, ap, subst, ⊎_elim, Contains, filter, map, arith}
use Rattle.ruby_value.proofs.Contained.{Contains-cons_cases}

module _ {X : Type 0} where
  pub nothing-there : (x : X) → Contains [] x → ⊥
  nothing-there x has = omega (arith, has.1)

  pub at-head : (x : X) (xs : List X) → Contains (x ∷ xs) x
  at-head x xs = (0, omega arith, refl)

  pub in-rest : (y x : X) (ys : List X) → Contains ys x → Contains (y ∷ ys) x
  in-rest y x ys has = (suc has.0, omega (arith, has.1), has.2)

  kept-by : (y x : X) (ys : List X) (p : X → Bool) (b : Bool) → p y ≡ b → p x ≡ true → Contains (y ∷ ys) x → (Contains ys x → Contains (filter p ys) x) → Contains (cond b (y ∷ filter p ys) (filter p ys)) x
  kept-by y x ys p true is passes has rest =
      ⊎_elim (λ same. (0, omega arith, same)) (λ there. in-rest y x (filter p ys) (rest there)) (Contains-cons_cases y x ys has)
  kept-by y x ys p false is passes has rest =
      ⊎_elim (λ same. let so : p x ≡ false = subst (λ z. p z ≡ false) same is in absurd (cc (so, passes))) rest (Contains-cons_cases y x ys has)

  -- what passes is kept
  pub in-filter : (p : X → Bool) (xs : List X) (x : X) → p x ≡ true → Contains xs x → Contains (filter p xs) x
  in-filter p [] x passes has = absurd (nothing-there x has)
  in-filter p (y ∷ ys) x passes has = kept-by y x ys p (p y) refl passes has (in-filter p ys x passes)

  from-by : (y x : X) (ys : List X) (p : X → Bool) (b : Bool) → p y ≡ b → Contains (cond b (y ∷ filter p ys) (filter p ys)) x → (Contains (filter p ys) x → Contains ys x × (p x ≡ true)) → Contains (y ∷ ys) x × (p x ≡ true)
  from-by y x ys p true is has rest =
      ⊎_elim
      (λ same. ((0, omega arith, same), subst (λ z. p z ≡ true) same is))
      (λ there. let so = rest there in (in-rest y x ys so.0, so.1))
      (Contains-cons_cases y x (filter p ys) has)
  from-by y x ys p false is has rest = let so = rest has in (in-rest y x ys so.0, so.1)

  -- what is kept was there and passes
  pub from-filter : (p : X → Bool) (xs : List X) (x : X) → Contains (filter p xs) x → Contains xs x × (p x ≡ true)
  from-filter p [] x has = absurd (nothing-there x has)
  from-filter p (y ∷ ys) x has = from-by y x ys p (p y) refl has (from-filter p ys x)

module _ {X Y : Type 0} (f : X → Y) where
  -- what a changed list contains is what one of its elements became
  pub from-map : (xs : List X) (y : Y) → Contains (map f xs) y → (x : X) × Contains xs x × (f x ≡ y)
  from-map [] y has = absurd (nothing-there y has)
  from-map (x ∷ xs) y has =
      ⊎_elim
      (λ (same : f x ≡ y). (x, at-head x xs, same))
      (λ there. let so = from-map xs y there in (so.0, in-rest x so.0 xs so.1, so.2))
      (Contains-cons_cases (f x) y (map f xs) has)

  pub to-map : (xs : List X) (x : X) → Contains xs x → Contains (map f xs) (f x)
  to-map [] x has = absurd (nothing-there x has)
  to-map (z ∷ xs) x has =
      ⊎_elim
      (λ (same : z ≡ x). (0, omega arith, ap f same))
      (λ there. in-rest (f z) (f x) (map f xs) (to-map xs x there))
      (Contains-cons_cases z x xs has)
