-- Whether a buffer is short of slots: where nothing is counted, and by what is free, if it is asked for at all.
use Rattle.std.proofs.Common.{◌≡◌, ◌==◌, ℕ, Bool, true, false, arith, Option, None, Some, Ok, Err, nat_lt, refl}
use Rattle.std.proofs.lemmas.Bool.Decides.{nat_tests}
use Rattle.ctl_face.specs.declared.trouble.Trouble.{Trouble}
use Rattle.ctl_face.specs.Prelude.{LocalView}
use Rattle.acts.specs.Act as act
use Rattle.acts.specs.Prelude.{act as done, DoesAs, itself}
use Rattle.acts.proofs.Walk.{does_ends_as, false_does, then_does, then_stops, true_does}
use Rattle.body_meaning.specs.Prelude.{buffer_short, is_fewer}

pub none_more : (n : ℕ) → false ≡ nat_lt 0 n → (n == 0) ≡ true
none_more n is = grind (arith, nat_tests)

pub some_more : (n : ℕ) → true ≡ nat_lt 0 n → (n == 0) ≡ false
some_more n is = grind (arith, nat_tests)

none_below : (n : ℕ) → (n == 0) ≡ true → (k : ℕ) → nat_lt k n ≡ false
none_below n is k = grind (arith, nat_tests)

few_of_none : (n : ℕ) → (n == 0) ≡ true → (free : Option ℕ) → false ≡ is_fewer free n
few_of_none n is None = refl
few_of_none n is (Some k) = let same = none_below n is k in cc

-- By what is free.

module _ (counts : ℕ → ℕ) (buffer : ℕ) (v : LocalView) where
  pub nothing_short : (counts buffer == 0) ≡ true → DoesAs itself (buffer_short counts buffer) (Ok false) v v
  nothing_short none = true_does _ _ _ _ _ _ _ none (does_ends_as _ _ _ _ refl)

  by_test : (free : Option ℕ) → DoesAs itself (done (act.Slots buffer)) (Ok free) v v → (b : Bool) → b ≡ is_fewer free (counts buffer)
      → (test : Bool) → (counts buffer == 0) ≡ test → DoesAs itself (buffer_short counts buffer) (Ok b) v v
  by_test free asked b is true none =
      let same = few_of_none (counts buffer) none free in
      let no : b ≡ false = cc in
      true_does _ _ _ _ _ _ _ none (does_ends_as _ _ _ _ no)
  by_test free asked b is false some = false_does _ _ _ _ _ _ _ some (then_does _ _ _ _ _ _ _ _ _ asked (does_ends_as _ _ _ _ is))

  pub short_by : (free : Option ℕ) → DoesAs itself (done (act.Slots buffer)) (Ok free) v v → (b : Bool) → b ≡ is_fewer free (counts buffer)
      → DoesAs itself (buffer_short counts buffer) (Ok b) v v
  short_by free asked b is = by_test free asked b is (counts buffer == 0) refl

  pub slots_stop : (e : Trouble) → DoesAs itself (done (act.Slots buffer)) (Err e) v v → (counts buffer == 0) ≡ false
      → DoesAs itself (buffer_short counts buffer) (Err e) v v
  slots_stop e asked some = false_does _ _ _ _ _ _ _ some (then_stops _ _ _ _ _ _ _ _ asked)
