-- Whether a signed number is a latency.
use Rattle.std.proofs.Common.{◌≡◌, ℕ, ℤ, Bool, true, false, cond, nat_abs, Option, None, Some, refl, sym, subst, ◌∙◌}
use Rattle.std.proofs.lemmas.Int.{to_z-of_z}
use mir.Val.{SFits, of_z, to_z}
use mir.Syntax.{w64}
use Rattle.ctl_face.specs.Prelude.{is_latency}

judged-some : (b : Bool) (n later : ℕ) → cond b (Some n) None ≡ Some later → (b ≡ true) × (n ≡ later)
judged-some true n later is = (refl, cc (is))
judged-some false n later is = absurd (cc is)

-- what a call answers that judged it, to which it was passed as its bits
pub judged : (latency : ℤ) (answer : Option ℕ) (later : ℕ) → SFits w64 latency
    → answer ≡ cond (is_latency (to_z w64 (of_z w64 latency))) (Some (nat_abs (to_z w64 (of_z w64 latency)))) None
    → answer ≡ Some later → (is_latency latency ≡ true) × (nat_abs latency ≡ later)
judged latency answer later fits value is =
    let told : answer ≡ cond (is_latency latency) (Some (nat_abs latency)) None =
    subst (λ (z : ℤ). answer ≡ cond (is_latency z) (Some (nat_abs z)) None) (to_z-of_z w64 latency fits) value in
    judged-some (is_latency latency) (nat_abs latency) later (sym told ∙ is)

judged-none : (b : Bool) (n : ℕ) → cond b (Some n) None ≡ None → b ≡ false
judged-none true n is = absurd (cc is)
judged-none false n is = refl

pub refused : (latency : ℤ) (answer : Option ℕ) → SFits w64 latency
    → answer ≡ cond (is_latency (to_z w64 (of_z w64 latency))) (Some (nat_abs (to_z w64 (of_z w64 latency)))) None
    → answer ≡ None → is_latency latency ≡ false
refused latency answer fits value is =
    let told : answer ≡ cond (is_latency latency) (Some (nat_abs latency)) None =
    subst (λ (z : ℤ). answer ≡ cond (is_latency z) (Some (nat_abs z)) None) (to_z-of_z w64 latency fits) value in
    judged-none (is_latency latency) (nat_abs latency) (sym told ∙ is)
