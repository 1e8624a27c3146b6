-- The steps by which a function that walks through what a body does is proved to do it: one after another, what needs no controller,
-- and choices. A crate whose functions walk takes them all by `using(acts::proofs::Walk::walk_steps)`.
use Rattle.std.proofs.Common.{◌≡◌, Bool, true, false, Option, None, Some, Result, Ok, Err, refl, sym, ap, ◌∙◌}
use Rattle.ruby_value.specs.declared.fault.Fault.{Fault}
use Rattle.ctl_face.specs.declared.trouble.Trouble.{Trouble}
use Rattle.ctl_face.specs.declared.trouble.Trouble.TheVariants as trouble
use Rattle.ctl_face.specs.Prelude.{LocalView}
use Rattle.acts.specs.declared.body_fault.BodyFault.{BodyFault}
use Rattle.acts.specs.Prelude.{Acting, ends, stops, acts, ◌>>=◌, ◌>>◌, decided, either, fault_of, follow, found, given, run, DoesAs, Done, does}

module _ {A B C : Type 0} where
  follow_twice : (r : Result (Done A) Fault) (f : A → LocalView → Result (Done B) Fault) (g : B → LocalView → Result (Done C) Fault) (h : A → LocalView → Result (Done C) Fault)
      → ((x : A) (w : LocalView) → h x w ≡ follow (f x w) g) → follow r h ≡ follow (follow r f) g
  follow_twice (Ok d) f g h same = same d.value d.view
  follow_twice (Err e) f g h same = refl

pub run-then : {A B : Type 0} (p : Acting A) (next : A → Acting B) (v : LocalView) → run (p >>= next) v ≡ follow (run p v) (λ x w. run (next x) w)
unfolding run ◌>>=◌
run-then (ends x) next v = refl
run-then (stops f) next v = refl
run-then (acts a more) next v =
    follow_twice (does a v) (λ x w. run (more x) w) (λ x w. run (next x) w) (λ x w. run (more x >>= next) w) (λ x w. run-then (more x) next w)

module _ {A B R S : Type 0} (means : R → A) (next_means : S → B) (p : Acting A) (next : A → Acting B) where
  pub then_does : (r : R) (result : Result S Trouble) (u v w : LocalView) → DoesAs means p (Ok r) u v → DoesAs next_means (next (means r)) result v w
      → DoesAs next_means (p >>= next) result u w
  unfolding DoesAs
  then_does r (Ok s) u v w first rest = run-then p next u ∙ ap (λ o. follow o (λ x t. run (next x) t)) first ∙ rest
  then_does r (Err (trouble.Fault f)) u v w first rest = run-then p next u ∙ ap (λ o. follow o (λ x t. run (next x) t)) first ∙ rest
  then_does r (Err trouble.NoMemory) u v w first rest = tt

  pub then_stops : (e : Trouble) (u v w : LocalView) → DoesAs means p (Err e) u v → DoesAs next_means (p >>= next) (Err e) u w
  unfolding DoesAs
  then_stops (trouble.Fault f) u v w first = run-then p next u ∙ ap (λ o. follow o (λ x t. run (next x) t)) first
  then_stops trouble.NoMemory u v w first = tt

module _ {A B R S : Type 0} (means : R → A) (next_means : S → B) (p : Acting A) (next : Acting B) where
  pub and_does : (r : R) (result : Result S Trouble) (u v w : LocalView) → DoesAs means p (Ok r) u v → DoesAs next_means next result v w
      → DoesAs next_means (p >> next) result u w
  unfolding ◌>>◌
  and_does r result u v w first rest = then_does means next_means p (λ _. next) r result u v w first rest

  pub and_stops : (e : Trouble) (u v w : LocalView) → DoesAs means p (Err e) u v → DoesAs next_means (p >> next) (Err e) u w
  unfolding ◌>>◌
  and_stops e u v w first = then_stops means next_means p (λ _. next) e u v w first

module _ {A R : Type 0} (means : R → A) where
  pub does_ends_as : (x : A) (r : R) (v : LocalView) → means r ≡ x → DoesAs means (ends x) (Ok r) v v
  unfolding DoesAs run
  does_ends_as x r v is = ap (λ (y : A). Ok (record { value = y; view = v })) (sym is)

  pub does_stops : (f : BodyFault) (fault : Fault) (v w : LocalView) → fault ≡ fault_of f → DoesAs means (stops f) (Err (trouble.Fault fault)) v w
  unfolding DoesAs run
  does_stops f fault v w is = ap (λ (g : Fault). Err g) (sym is)

  pub does_without_memory : (p : Acting A) (v w : LocalView) → DoesAs means p (Err trouble.NoMemory) v w
  unfolding DoesAs
  does_without_memory p v w = tt

  pub decided_does : (o : Option A) (p : Acting A) (x : A) (r : R) (v : LocalView) → o ≡ Some x → means r ≡ x → DoesAs means (decided o p) (Ok r) v v
  unfolding decided
  decided_does o p x r v is same = rw is (does_ends_as x r v same)

  pub undecided_does : (o : Option A) (p : Acting A) (result : Result R Trouble) (v w : LocalView) → o ≡ None → DoesAs means p result v w → DoesAs means (decided o p) result v w
  unfolding decided
  undecided_does o p result v w is rest = rw is rest

  pub true_does : (b : Bool) (p q : Acting A) (result : Result R Trouble) (v w : LocalView) → b ≡ true → DoesAs means p result v w → DoesAs means (either b p q) result v w
  unfolding either
  true_does b p q result v w is rest = rw is rest

  pub false_does : (b : Bool) (p q : Acting A) (result : Result R Trouble) (v w : LocalView) → b ≡ false → DoesAs means q result v w → DoesAs means (either b p q) result v w
  unfolding either
  false_does b p q result v w is rest = rw is rest

module _ {A B S : Type 0} (means : S → B) (next : A → Acting B) where
  pub given_does : (o : Result A BodyFault) (x : A) (result : Result S Trouble) (v w : LocalView) → o ≡ Ok x → DoesAs means (next x) result v w → DoesAs means (given o >>= next) result v w
  unfolding given ◌>>=◌
  given_does o x result v w is rest = rw is rest

  pub given_stops : (o : Result A BodyFault) (f : BodyFault) (e : Trouble) (v w : LocalView) → o ≡ Err f → e ≡ trouble.Fault (fault_of f) → DoesAs means (given o >>= next) (Err e) v w
  unfolding given ◌>>=◌
  given_stops o f e v w is same = rw (is, same) (does_stops means f (fault_of f) v w refl)

  pub found_does : (o : Option A) (f : BodyFault) (x : A) (result : Result S Trouble) (v w : LocalView) → o ≡ Some x → DoesAs means (next x) result v w → DoesAs means (found f o >>= next) result v w
  unfolding found ◌>>=◌
  found_does o f x result v w is rest = rw is rest

  pub found_stops : (o : Option A) (f : BodyFault) (fault : Fault) (v w : LocalView) → o ≡ None → fault ≡ fault_of f → DoesAs means (found f o >>= next) (Err (trouble.Fault fault)) v w
  unfolding found ◌>>=◌
  found_stops o f fault v w is same = rw is (does_stops means f fault v w same)

pub ruleset walk_steps = (then_does, then_stops, and_does, and_stops, does_ends_as, does_stops, does_without_memory, decided_does, undecided_does, true_does, false_does, given_does, given_stops, found_does, found_stops)
