-- What needs no controller, or was found, where a body ends with it.
use Rattle.std.proofs.Common.{◌≡◌, Option, None, Some, Result, Ok, Err, refl}
use Rattle.ruby_value.specs.declared.fault.Fault.{Fault}
use Rattle.ctl_face.specs.declared.trouble.Trouble.{Trouble}
use Rattle.ctl_face.specs.declared.trouble.Trouble.TheVariants as trouble
use Rattle.ctl_face.specs.Prelude.{LocalView}
use Rattle.acts.specs.declared.body_fault.BodyFault.{BodyFault}
use Rattle.acts.specs.Prelude.{fault_of, found, given, DoesAs}
use Rattle.acts.proofs.Walk.{does_ends_as, does_stops}

module _ {A R : Type 0} (means : R → A) where
  pub given_ends : (o : Result A BodyFault) (x : A) (r : R) (v : LocalView) → o ≡ Ok x → means r ≡ x → DoesAs means (given o) (Ok r) v v
  unfolding given
  given_ends o x r v is same = rw is (does_ends_as means x r v same)

  pub given_fails : (o : Result A BodyFault) (f : BodyFault) (e : Trouble) (v w : LocalView) → o ≡ Err f → e ≡ trouble.Fault (fault_of f) → DoesAs means (given o) (Err e) v w
  unfolding given
  given_fails o f e v w is same = rw (is, same) (does_stops means f (fault_of f) v w refl)

  pub found_ends : (o : Option A) (f : BodyFault) (x : A) (r : R) (v : LocalView) → o ≡ Some x → means r ≡ x → DoesAs means (found f o) (Ok r) v v
  unfolding found
  found_ends o f x r v is same = rw is (does_ends_as means x r v same)

  pub found_fails : (o : Option A) (f : BodyFault) (fault : Fault) (v w : LocalView) → o ≡ None → fault ≡ fault_of f → DoesAs means (found f o) (Err (trouble.Fault fault)) v w
  unfolding found
  found_fails o f fault v w is same = rw is (does_stops means f fault v w same)

pub ruleset last_steps = (given_ends, given_fails, found_ends, found_fails)
