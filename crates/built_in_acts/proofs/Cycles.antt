-- The cycle of a local is a signed number of 64 bits, since the local is lawful.
use Rattle.std.proofs.Common.{◌≡◌, ◌<◌, ◌≤◌, ◌^◌, ◌∙◌, ℕ, Result, Ok, refl, sym, ap, arith}
use Rattle.ruby_value.specs.declared.fault.Fault.{Fault}
use Rattle.ctl_face.specs.Prelude.{IsLawful, LocalView}
use Rattle.acts.specs.Prelude.{Now, Acting, act, DoesAs, itself, Done}
use Rattle.acts.proofs.Calls.{now_does}

module _ {A : Type 0} where
  abbrev answered : Result (Done A) Fault → Result (Done A) Fault
  answered r = r

  abbrev an_end : Done A → Done A
  an_end d = d

one_answer : {A : Type 0} (p : Acting A) (x y : A) (v w : LocalView) → DoesAs itself p (Ok x) v w → DoesAs itself p (Ok y) v w → x ≡ y
unfolding DoesAs
one_answer {A} p x y v w first second =
    let same : answered (Ok (record { value = x; view = w })) ≡ answered (Ok (record { value = y; view = w })) = sym first ∙ second in
    let both : an_end (record { value = x; view = w }) ≡ an_end (record { value = y; view = w }) = cc same in
    ap (λ (d : Done A). d.value) both

-- what was answered as the cycle is it
pub is_cycle : (v : LocalView) (n : ℕ) → DoesAs itself (act Now) (Ok n) v v → n ≡ v.now
is_cycle v n does = one_answer (act Now) n v.now v v does (now_does v v.now refl)

pub cycle_is_small : (v : LocalView) → IsLawful v → v.now < 2 ^ 63
cycle_is_small v is = let last : v.now ≤ 10 ^ 12 = is.scan.now in omega arith
