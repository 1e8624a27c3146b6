-- A call whose answer is dropped, or made into a value.
use Rattle.std.proofs.Common.{◌≡◌, Option, None, Some, Result, Ok, Err, IsErrAnd, refl, ap}
use Rattle.ruby_value.specs.declared.value.Value.{Value}
use Rattle.ctl_face.specs.declared.trouble.Trouble.{Trouble}
use Rattle.ctl_face.specs.declared.trouble.Trouble.TheVariants.{NoMemory}
use Rattle.ctl_face.specs.Prelude.{LocalView}
use Rattle.acts.specs.Prelude.{Acting, ends, DoesAs, itself}
use Rattle.acts.proofs.Walk.{does_ends_as, does_without_memory, then_does, then_stops}
use Rattle.built_in_acts.specs.Prelude.{silent, told}

module _ {A : Type 0} (p : Acting A) where
  pub silent_does : (x : A) (v w : LocalView) → DoesAs itself p (Ok x) v w → DoesAs itself (silent p) (Ok None) v w
  unfolding silent
  silent_does x v w first = then_does itself itself p (λ _. ends None) x (Ok None) v w w first (does_ends_as itself None None w refl)

  pub silent_stops : (e : Trouble) (v u w : LocalView) → DoesAs itself p (Err e) v u → DoesAs itself (silent p) (Err e) v w
  unfolding silent
  silent_stops e v u w first = then_stops itself itself p (λ _. ends None) e v u w first

  pub told_does : (made : A → Value) (x : A) (y : Value) (v w : LocalView) → DoesAs itself p (Ok x) v w → y ≡ made x → DoesAs itself (told made p) (Ok (Some y)) v w
  unfolding told
  told_does made x y v w first is =
      then_does itself itself p (λ z. ends (Some (made z))) x (Ok (Some y)) v w w first (does_ends_as itself (Some (made x)) (Some y) w (ap (λ (z : Value). Some z) is))

  pub told_stops : (made : A → Value) (e : Trouble) (v u w : LocalView) → DoesAs itself p (Err e) v u → DoesAs itself (told made p) (Err e) v w
  unfolding told
  told_stops made e v u w first = then_stops itself itself p (λ z. ends (Some (made z))) e v u w first

-- the same where the act is given by an equation, and the error is passed on
module _ {A : Type 0} {p q : Acting A} (same : p ≡ q) where
  pub silent_as : (x : A) (v w : LocalView) → DoesAs itself p (Ok x) v w → DoesAs itself (silent q) (Ok None) v w
  silent_as x v w first = rw (← same) (silent_does p x v w first)

  pub silent_fails : (r : Result (Option Value) Trouble) (e : Trouble) (v u w : LocalView) → DoesAs itself p (Err e) v u → IsErrAnd r (λ f. f ≡ e) → DoesAs itself (silent q) r v w
  silent_fails (Ok x) e v u w first is = absurd is
  silent_fails (Err f) e v u w first is = rw (is, ← same) (silent_stops p e v u w first)

  pub told_as : (made : A → Value) (x : A) (y : Value) (v w : LocalView) → DoesAs itself p (Ok x) v w → y ≡ made x → DoesAs itself (told made q) (Ok (Some y)) v w
  told_as made x y v w first is = rw (← same) (told_does p made x y v w first is)

  pub told_fails : (made : A → Value) (r : Result (Option Value) Trouble) (e : Trouble) (v u w : LocalView) → DoesAs itself p (Err e) v u → IsErrAnd r (λ f. f ≡ e) → DoesAs itself (told made q) r v w
  told_fails made (Ok x) e v u w first is = absurd is
  told_fails made (Err f) e v u w first is = rw (is, ← same) (told_stops p made e v u w first)

pub without_memory : {A : Type 0} (p : Acting A) (r : Result A Trouble) (v w : LocalView) → IsErrAnd r (λ f. f ≡ NoMemory) → DoesAs itself p r v w
without_memory p (Ok x) v w is = absurd is
without_memory p (Err f) v w is = rw is (does_without_memory itself p v w)

pub ruleset told_steps = (silent_does, silent_stops, told_does, told_stops)
