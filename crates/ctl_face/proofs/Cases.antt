-- What holds of the good answer of a call that goes by cases.
use Rattle.std.proofs.Common.{◌≡◌, Bool, true, false, cond, Result, Ok, Err, subst}
use Rattle.std.proofs.lemmas.Bool.{cond_both}

pub record Good {X E : Type 0} (P : X → Type 0) (r : Result X E) : Type 0 where
  pub good : (x : X) → r ≡ Ok x → P x

module _ {X E : Type 0} (P : X → Type 0) where
  pub good_ok : (x : X) → P x → Good {E = E} P (Ok x)
  good_ok x holds = record { good = λ y is. let same : x ≡ y = cc in subst P same holds }

  pub good_err : (e : E) → Good {X = X} P (Err e)
  good_err e = record { good = λ y is. let wrong : ⊥ = cc in absurd wrong }

  pub good_cond : (b : Bool) (x y : Result X E) → (b ≡ true → Good P x) → (b ≡ false → Good P y) → Good P (cond b x y)
  good_cond b x y = cond_both b x y (Good P)

  -- a fault where the test holds
  pub good_unless : (b : Bool) (e : E) (y : Result X E) → Good P y → Good P (cond b (Err e) y)
  good_unless b e y good = good_cond b (Err e) y (λ _. good_err e) (λ _. good)
