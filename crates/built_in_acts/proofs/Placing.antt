-- The search for a controller's machine, and the numbers of a range, one step at a time.
use Rattle.std.proofs.Common.{◌≡◌, ◌+◌, ◌-◌, ℕ, zero, suc, List, Result, refl, subst, sym, arith}
use Rattle.ruby_value.specs.Prelude.{with_member}
use Rattle.ctl_face.specs.declared.trouble.Trouble.{Trouble}
use Rattle.ctl_face.specs.Prelude.{LocalView}
use Rattle.acts.specs.Prelude.{Acting, ends, ◌>>=◌, either, DoesAs, itself}
use Rattle.built_in_acts.specs.declared.machines.KeptMachines.{KeptMachines}
use Rattle.built_in_acts.specs.declared.machines.Placed.{Placed}
use Rattle.built_in_acts.specs.Prelude.{index_in, is_in, placed_from, range_at, with_numbers}

abbrev pub first_place : Placed
first_place = record { machine = 0; index = 0 }

module _ (kept : KeptMachines) (controller : ℕ) where
  pub placed_none : (left machine : ℕ) (result : Result Placed Trouble) (v w : LocalView) → left ≡ 0 → DoesAs itself (ends first_place) result v w
      → DoesAs itself (placed_from kept controller left machine) result v w
  unfolding placed_from
  placed_none left machine result v w is rest = subst (λ (n : ℕ). DoesAs itself (placed_from kept controller n machine) result v w) (sym is) rest

  pub placed_more : (left machine : ℕ) (result : Result Placed Trouble) (v w : LocalView) → ¬ (left ≡ 0)
      → DoesAs itself (range_at kept machine >>= (λ r. either (is_in r controller) (ends (record { machine = machine; index = index_in r controller })) (placed_from kept controller (left - 1) (machine + 1)))) result v w
      → DoesAs itself (placed_from kept controller left machine) result v w
  unfolding placed_from
  placed_more zero machine result v w some rest = absurd (some refl)
  placed_more (suc n) machine result v w some rest =
      let less : suc n - 1 ≡ n = omega arith in
      subst (λ (k : ℕ). DoesAs itself (range_at kept machine >>= (λ r. either (is_in r controller) (ends (record { machine = machine; index = index_in r controller })) (placed_from kept controller k (machine + 1)))) result v w) less rest

pub numbers_none : (members : List ℕ) (first left : ℕ) → left ≡ 0 → with_numbers members first left ≡ members
numbers_none members first left is = subst (λ (n : ℕ). with_numbers members first n ≡ members) (sym is) refl

pub numbers_more : (members : List ℕ) (first left : ℕ) → ¬ (left ≡ 0) → with_numbers members first left ≡ with_numbers (with_member members first) (first + 1) (left - 1)
numbers_more members first zero some = absurd (some refl)
numbers_more members first (suc n) some =
    let less : suc n - 1 ≡ n = omega arith in
    subst (λ (k : ℕ). with_numbers members first (suc n) ≡ with_numbers (with_member members first) (first + 1) k) (sym less) refl
