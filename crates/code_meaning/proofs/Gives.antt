-- What holds of each answer of a body that is done in a lawful local of one machine.
use Rattle.std.proofs.Common.{◌≡◌, Bool, true, false, cond, Option, None, Some, IfSome, IfOk, Result, Ok, Err, refl, sym, subst, ◌∙◌}
use Rattle.ruby_value.specs.declared.fault.Fault.{Fault}
use Rattle.ruby_value.specs.declared.fault.Fault.TheVariants.{Reference}
use Rattle.ruby_value.specs.declared.setup.MachineSetup.{MachineSetup}
use Rattle.ctl_face.specs.Prelude.{IsLawful, LocalView, SameScan}
use Rattle.acts.specs.declared.body_fault.BodyFault.{BodyFault}
use Rattle.acts.specs.Prelude.{Act, answer, Acting, ends, stops, ◌>>=◌, ◌>>◌, act, follow, found, given, run, HoldsAfter, Done, does, does_served, serves}
use Rattle.acts.proofs.Walk.{run-then}
use Rattle.code_meaning.specs.Answers.{HoldsOfAnswer as Holds}
use Rattle.acts.proofs.Instances.{stays_in_scan, stays_lawful}

pub record Gives (setup : MachineSetup) {A : Type 0} (R : A → Type 0) (p : Acting A) : Type 0 where
  pub gives : (v : LocalView) → IsLawful v → v.machine ≡ setup → Holds R (run p v)

module _ (setup : MachineSetup) where
  after : {A B : Type 0} (R : A → Type 0) (Q : B → Type 0) (next : A → Acting B) → ((x : A) → R x → Gives setup Q (next x)) → (v : LocalView) → v.machine ≡ setup
      → (r : Result (Done A) Fault) → Holds R r → HoldsAfter IsLawful r → HoldsAfter (SameScan v) r → Holds Q (follow r (λ x w. run (next x) w))
  after R Q next rest v is (Ok d) holds lawful scan = let g = rest d.value holds in g.gives d.view lawful (scan.machine ∙ is)
  after R Q next rest v is (Err f) holds lawful scan = tt

  module _ {A B : Type 0} {R : A → Type 0} {Q : B → Type 0} where
    pub then_gives : {p : Acting A} {next : A → Acting B} → Gives setup R p → ((x : A) → R x → Gives setup Q (next x)) → Gives setup Q (p >>= next)
    then_gives {p} {next} first rest = record {
      gives = λ v lawful is. subst (Holds Q) (sym (run-then p next v)) (after R Q next rest v is (run p v) (first.gives v lawful is) (stays_lawful p v lawful) (stays_in_scan p v));
    }

    pub and_gives : {p : Acting A} {next : Acting B} → Gives setup R p → Gives setup Q next → Gives setup Q (p >> next)
    unfolding ◌>>◌
    and_gives {p} {next} first rest = then_gives {p = p} {next = λ _. next} first (λ x holds. rest)

  module _ {A : Type 0} {R : A → Type 0} where
    pub ends_gives : {x : A} → R x → Gives setup R (ends x)
    unfolding run
    ends_gives holds = record { gives = λ v lawful is. holds }

    pub stops_gives : {f : BodyFault} → Gives setup R (stops f)
    unfolding run
    stops_gives = record { gives = λ v lawful is. tt }

    pub found_gives : (f : BodyFault) (o : Option A) → IfSome o R → Gives setup R (found f o)
    unfolding found
    found_gives f (Some x) holds = ends_gives holds
    found_gives f None holds = stops_gives

    pub given_gives : (o : Result A BodyFault) → IfOk o R → Gives setup R (given o)
    unfolding given
    given_gives (Ok x) holds = ends_gives holds
    given_gives (Err f) holds = stops_gives

    weaker : {Q : A → Type 0} → ((x : A) → R x → Q x) → (r : Result (Done A) Fault) → Holds R r → Holds Q r
    weaker holds (Ok d) first = holds d.value first
    weaker holds (Err f) first = tt

    pub weaker_gives : {Q : A → Type 0} {p : Acting A} → Gives setup R p → ((x : A) → R x → Q x) → Gives setup Q p
    weaker_gives {Q} {p} first holds = record { gives = λ v lawful is. weaker {Q = Q} holds (run p v) (first.gives v lawful is) }

  -- whatever it answers
  anything : {A : Type 0} (r : Result (Done A) Fault) → Holds (λ (x : A). Unit {0}) r
  anything (Ok d) = tt
  anything (Err f) = tt

  pub any_gives : {A : Type 0} (p : Acting A) → Gives setup (λ (x : A). Unit {0}) p
  any_gives p = record { gives = λ v lawful is. anything (run p v) }

  -- of an act it is enough to look at what is served
  run_act : (a : Act) (v : LocalView) → run (act a) v ≡ does a v
  unfolding run act
  run_act a v = go (does a v)
    where
      go : (r : Result (Done (answer a)) Fault) → follow r (λ x w. run {A = answer a} (ends x) w) ≡ r
      go (Ok d) = refl
      go (Err f) = refl

  pub act_gives : (a : Act) (R : answer a → Type 0) → ((v : LocalView) → IsLawful v → v.machine ≡ setup → Holds R (does_served a v)) → Gives setup R (act a)
  unfolding does
  act_gives a R served = record {
    gives = λ v lawful is. subst (Holds R) (sym (run_act a v)) (by v (serves v.machine a) (served v lawful is));
  }
    where
      by : (v : LocalView) (b : Bool) → Holds R (does_served a v) → Holds R (cond b (does_served a v) (Err Reference))
      by v true holds = holds
      by v false holds = tt
