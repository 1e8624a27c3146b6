-- What follows of bodies that do the same: one after another, and in each other's place.
use Rattle.std.proofs.Common.{◌≡◌, Result, Ok, Err, refl, sym, ap, subst, ◌∙◌}
use Rattle.ruby_value.specs.declared.fault.Fault.{Fault}
use Rattle.ruby_value.specs.declared.setup.MachineSetup.{MachineSetup}
use Rattle.ctl_face.specs.Prelude.{IsLawful, LocalView, SameScan}
use Rattle.acts.specs.Prelude.{Acting, ends, ◌>>=◌, follow, run, HoldsAfter, Done}
use Rattle.acts.proofs.Instances.{stays_in_scan, stays_lawful}
use Rattle.acts.proofs.Walk.{run-then}
use Rattle.code_meaning.specs.Answers.{HoldsOfAnswer as Holds}
use Rattle.code_meaning.proofs.Gives.{Gives, any_gives}
use Rattle.code_laws.specs.Same.{Same}

follow_twice : {A B C : Type 0} (r : Result (Done A) Fault) (f : A → LocalView → Result (Done B) Fault) (g : B → LocalView → Result (Done C) Fault) (h : A → LocalView → Result (Done C) Fault)
    → ((x : A) (w : LocalView) → h x w ≡ follow (f x w) g) → follow r h ≡ follow (follow r f) g
follow_twice (Ok d) f g h same = same d.value d.view
follow_twice (Err e) f g h same = refl

-- one after another, of three
pub then_then : {A B C : Type 0} (p : Acting A) (f : A → Acting B) (g : B → Acting C) (v : LocalView) → run (p >>= f >>= g) v ≡ run (p >>= (λ x. f x >>= g)) v
then_then p f g v =
    run-then (p >>= f) g v ∙ ap (λ o. follow o (λ x w. run (g x) w)) (run-then p f v)
    ∙ sym (run-then p (λ x. f x >>= g) v ∙ follow_twice (run p v) (λ x w. run (f x) w) (λ x w. run (g x) w) (λ x w. run (f x >>= g) w) (λ x w. run-then (f x) g w))

module _ (setup : MachineSetup) where
  pub same_itself : {A : Type 0} (p : Acting A) → Same setup p p
  same_itself p = record { same = λ v lawful is. refl }

  pub same_by : {A : Type 0} {p q : Acting A} → p ≡ q → Same setup p q
  same_by e = record { same = λ v lawful is. ap (λ r. run r v) e }

  pub turned : {A : Type 0} {p q : Acting A} → Same setup p q → Same setup q p
  turned s = record { same = λ v lawful is. sym (s.same v lawful is) }

  pub joined : {A : Type 0} {p q r : Acting A} → Same setup p q → Same setup q r → Same setup p r
  joined s t = record { same = λ v lawful is. s.same v lawful is ∙ t.same v lawful is }

  after : {A B : Type 0} (R : A → Type 0) (f g : A → Acting B) → ((x : A) → R x → Same setup (f x) (g x)) → (v : LocalView) → v.machine ≡ setup
      → (r : Result (Done A) Fault) → Holds R r → HoldsAfter IsLawful r → HoldsAfter (SameScan v) r → follow r (λ x w. run (f x) w) ≡ follow r (λ x w. run (g x) w)
  after R f g each v is (Ok d) holds lawful scan = let s = each d.value holds in s.same d.view lawful (scan.machine ∙ is)
  after R f g each v is (Err e) holds lawful scan = refl

  -- by what the first one answers
  pub then_same : {A B : Type 0} {R : A → Type 0} {p : Acting A} {f g : A → Acting B} → Gives setup R p → ((x : A) → R x → Same setup (f x) (g x)) → Same setup (p >>= f) (p >>= g)
  then_same {R} {p} {f} {g} gives each = record {
    same = λ v lawful is.
        run-then p f v ∙ after R f g each v is (run p v) (gives.gives v lawful is) (stays_lawful p v lawful) (stays_in_scan p v) ∙ sym (run-then p g v);
  }

  pub each_same : {A B : Type 0} (p : Acting A) {f g : A → Acting B} → ((x : A) → Same setup (f x) (g x)) → Same setup (p >>= f) (p >>= g)
  each_same p each = then_same (any_gives setup p) (λ x holds. each x)

  pub same_then : {A B : Type 0} {p q : Acting A} (f : A → Acting B) → Same setup p q → Same setup (p >>= f) (q >>= f)
  same_then {p} {q} f s = record {
    same = λ v lawful is. run-then p f v ∙ ap (λ o. follow o (λ x w. run (f x) w)) (s.same v lawful is) ∙ sym (run-then q f v);
  }

  pub regrouped : {A B C : Type 0} (p : Acting A) (f : A → Acting B) (g : B → Acting C) → Same setup (p >>= f >>= g) (p >>= (λ x. f x >>= g))
  regrouped p f g = record { same = λ v lawful is. then_then p f g v }

  -- what ends at once
  pub at_once : {A B : Type 0} (x : A) (f : A → Acting B) → Same setup (ends x >>= f) (f x)
  unfolding ◌>>=◌
  at_once x f = same_itself (f x)

  -- an answer that is handed on as it is
  pub handed_on : {A : Type 0} (p : Acting A) → Same setup (p >>= (λ x. ends x)) p
  unfolding run
  handed_on {A} p = record { same = λ v lawful is. run-then p (λ x. ends x) v ∙ by (run p v) }
    where
      by : (r : Result (Done A) Fault) → follow r (λ x w. run {A = A} (ends x) w) ≡ r
      by (Ok d) = refl
      by (Err e) = refl

  -- what holds of the answers of the one holds of those of the other
  pub same_gives : {A : Type 0} {R : A → Type 0} {p q : Acting A} → Same setup p q → Gives setup R p → Gives setup R q
  same_gives {R} s g = record { gives = λ v lawful is. subst (Holds R) (s.same v lawful is) (g.gives v lawful is) }
