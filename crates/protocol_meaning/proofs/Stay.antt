-- Bodies that stay within bounds, made of others that do.
use Rattle.std.proofs.Common.{◌≡◌, Bool, true, false, cond, refl, Option, None, Some, IfSome, IfOk, Result, Ok, Err}
use Rattle.acts.specs.declared.body_fault.BodyFault.{BodyFault}
use Rattle.acts.specs.Prelude.{Act, answer, Acting, ends, stops, acts, ◌>>=◌, ◌>>◌, act, decided, either, found, given}
use Rattle.protocol_meaning.proofs.Bodies.{AnswersWithin, AsksWithin, Stays}
use Rattle.protocol_meaning.proofs.Bounds.{Bounds}

pub record Stay (b : Bounds) {A : Type 0} (R : A → Type 0) (p : Acting A) : Type 0 where
  pub stays : Stays b R p

module _ (b : Bounds) where
  then_go : {A B : Type 0} (R : A → Type 0) (Q : B → Type 0) (p : Acting A) (next : A → Acting B) → Stays b R p → ((x : A) → R x → Stays b Q (next x)) → Stays b Q (p >>= next)
  unfolding ◌>>=◌
  then_go R Q (ends x) next first rest = rest x first
  then_go R Q (stops f) next first rest = tt
  then_go R Q (acts a more) next first rest = (first.0, λ x answers. then_go R Q (more x) next (first.1 x answers) rest)

  weaker_go : {A : Type 0} (R Q : A → Type 0) (p : Acting A) → Stays b R p → ((x : A) → R x → Q x) → Stays b Q p
  weaker_go R Q (ends x) first holds = holds x first
  weaker_go R Q (stops f) first holds = tt
  weaker_go R Q (acts a more) first holds = (first.0, λ x answers. weaker_go R Q (more x) (first.1 x answers) holds)

  module _ {A B : Type 0} {R : A → Type 0} {Q : B → Type 0} where
    pub then_stays : {p : Acting A} {next : A → Acting B} → Stay b R p → ((x : A) → R x → Stay b Q (next x)) → Stay b Q (p >>= next)
    then_stays {p} {next} first rest = record { stays = then_go R Q p next first.stays (λ x here. let r = rest x here in r.stays) }

    pub and_stays : {p : Acting A} {next : Acting B} → Stay b R p → Stay b Q next → Stay b Q (p >> next)
    unfolding ◌>>◌
    and_stays {p} {next} first rest = record { stays = then_go R Q p (λ _. next) first.stays (λ x here. rest.stays) }

  module _ {A : Type 0} {R : A → Type 0} where
    pub ends_stays : {x : A} → R x → Stay b R (ends x)
    ends_stays here = record { stays = here }

    pub stops_stays : {f : BodyFault} → Stay b R (stops f)
    stops_stays = record { stays = tt }

    pub found_stays : (f : BodyFault) (o : Option A) → IfSome o R → Stay b R (found f o)
    unfolding found
    found_stays f (Some x) here = record { stays = here }
    found_stays f None here = record { stays = tt }

    pub given_stays : (o : Result A BodyFault) → IfOk o R → Stay b R (given o)
    unfolding given
    given_stays (Ok x) here = record { stays = here }
    given_stays (Err f) here = record { stays = tt }

    pub decided_stays : (o : Option A) {p : Acting A} → IfSome o R → Stay b R p → Stay b R (decided o p)
    unfolding decided
    decided_stays (Some x) here rest = record { stays = here }
    decided_stays None here rest = rest

    pub either_stays : (test : Bool) {p q : Acting A} → (test ≡ true → Stay b R p) → (test ≡ false → Stay b R q) → Stay b R (either test p q)
    unfolding either
    either_stays true first second = first refl
    either_stays false first second = second refl

    pub cond_stays : (test : Bool) (p q : Acting A) → Stay b R p → Stay b R q → Stay b R (cond test p q)
    cond_stays true p q first second = first
    cond_stays false p q first second = second

  pub weaker_stays : {A : Type 0} {R Q : A → Type 0} {p : Acting A} → Stay b R p → ((x : A) → R x → Q x) → Stay b Q p
  weaker_stays {A} {R} {Q} {p} first holds = record { stays = weaker_go R Q p first.stays holds }

  pub act_stays : (a : Act) → AsksWithin b a → Stay b (AnswersWithin b a) (act a)
  unfolding act
  act_stays a asks = record { stays = (asks, λ x answers. answers) }

  -- what is asked of an act whatever its answer is
  pub done_stays : (a : Act) → AsksWithin b a → Stay b (λ (x : answer a). Unit {0}) (act a)
  unfolding act
  done_stays a asks = record { stays = (asks, λ x answers. tt) }
