-- A worker's turn under the lock that takes a controller, makes the turn of the cycle, or finds nothing to do.
use Rattle.std.proofs.Common.{◌≡◌, ◌≢◌, ◌<◌, ◌&&◌, ℕ, Bool, true, false, List, [], ◌∷◌, Option, None, Some, Result, Ok, Err, IfOk, OnErr, All, is_some, length, position, slice_get, refl, sym, ap, ◌∙◌, subst, arith}
use Rattle.std.specs.Option.{option_copied, option_map_or}
use Rattle.std.specs.Borrow.{Bor}
use Rattle.std.proofs.lemmas.List.Quantifiers.{position-Some}
use Rattle.std.proofs.lemmas.List.Elements.{All-cons, All-nil}
use Rattle.std.proofs.lemmas.Option.{slice_get-get_or, slice_get_within}
use Rattle.ruby_base.specs.declared.memory.NoMemory.{NoMemory}
use Rattle.run_journal.specs.declared.event.Event.{Event}
use Rattle.run_journal.specs.declared.event.Event.TheVariants.{Take, Turn}
use Rattle.run_journal.specs.declared.verdict.Verdict.{Verdict}
use Rattle.ctl_face.specs.Prelude.{Ctl}
use Rattle.protocol_runs.specs.Prelude.{AreOfOthers, Place, is_free}
use Rattle.ruby_world.specs.declared.world.Held.{Held as HeldController}
use Rattle.ruby_world.specs.Prelude.{CanTake, HasAddedAll, Holds, InWorld, WorldView, rules_in}
use Rattle.sequencer.specs.Prelude.{Drive, Seat}
use Rattle.turn_lock.specs.Prelude.{Adds, Standing, leaving}
use Rattle.network_book.specs.declared.plan.RunPlan.{RunPlan}
use Rattle.network_book.specs.declared.taken.Taken.{Taken}
use Rattle.network_book.specs.declared.taken.Taken.TheVariants.{Held, Turned, Rest, Ended}
use Rattle.network_book.specs.Numbers.{IsSmall, numbers_of, worker_of}
use Rattle.network_book.specs.Visits.{HasVisited}
use Rattle.network_book.specs.Taking.{Comes, IsNewlyHeld, IsTaken, IsTakenIn, added_by}
use Rattle.network_book.specs.Plans.{HoldsAfter}
use Rattle.network_book.specs.Posting.{HoldsBy, KeepsAll}
use Rattle.network_book.proofs.Visiting.{HandsOver, HasActed, HasEntered, IsLawfulView, added-none, adds, after-found, holds-found, holds-then, keeps, known-found, none-others, one-other, other-controller, small-after, visited}
use Rattle.network_book.proofs.Posts.{AreFew}

abbrev events_by : ℕ → Result Taken NoMemory → List Event
events_by worker (Ok t) = added_by worker t
events_by worker (Err e) = []

-- a place that is there is one of so many
there-within : {X : Type 0} (f : X → Bool) (xs : List X) (c : ℕ) (o : Option X) → slice_get xs c ≡ o → option_map_or f o false ≡ true → c < length xs
there-within f xs c None at free = absurd (cc free)
there-within f xs c (Some x) at free = slice_get_within xs c x at

and-false-true : (b : Bool) → (b && false) ≡ true → ⊥
and-false-true true is = cc is
and-false-true false is = cc is

module _ {D : Type 0} (least : D → ℕ) (drive : D → List Seat → ℕ → Drive D) where
  can-small : AreFew least drive → (v : WorldView D) → IsLawfulView least drive v → (c : ℕ) → InWorld drive v (CanTake drive v c) → c < 256
  can-small few v lawful c can =
      let count = few v lawful.fits lawful.cycles lawful.enough lawful.world lawful.is in
      let within = there-within (is_free (rules_in drive v) lawful.world.now) lawful.world.places c (slice_get lawful.world.places c) refl (can lawful.world lawful.is).free in
      omega (arith, count, within)

  -- what is held can't be taken
  not-held : (v : WorldView D) → IsLawfulView least drive v → (worker : ℕ) (h : HeldController) → Holds drive v worker h → (c : ℕ) → InWorld drive v (CanTake drive v c) → c ≢ h.controller
  not-held v lawful worker h holds c can same =
      let R = rules_in drive v in
      let w = lawful.world in
      let at = (holds.holding w lawful.is).held.place in
      let free = (can w lawful.is).free in
      and-false-true _
      (sym (ap (λ (o : Option (Place Ctl)). option_map_or (is_free R w.now) o false) (ap (λ d. slice_get w.places d) same ∙ at)) ∙ free)

  module _ (hands : HandsOver least drive) (few : AreFew least drive) (pass inside : Standing (RunPlan D)) (v after : WorldView D) (entered : HasEntered least drive pass inside v)
      (r : Result Taken NoMemory) (ok : IfOk r (IsTakenIn drive pass.number v after)) (err : OnErr r (after ≡ v)) (number : pass.number < 64) (lawful : IsLawfulView least drive after) where
    own-by : (t : Taken) → All (λ (e : Event). worker_of e ≡ pass.number) (added_by pass.number t)
    own-by (Held h) = All-cons (λ (e : Event). worker_of e ≡ pass.number) (Take pass.number h.controller) [] refl (All-nil (λ (e : Event). worker_of e ≡ pass.number))
    own-by Turned = All-cons (λ (e : Event). worker_of e ≡ pass.number) (Turn pass.number) [] refl (All-nil (λ (e : Event). worker_of e ≡ pass.number))
    own-by Rest = All-nil (λ (e : Event). worker_of e ≡ pass.number)
    own-by Ended = All-nil (λ (e : Event). worker_of e ≡ pass.number)

    small-by : (t : Taken) → IsTakenIn drive pass.number v after t → All IsSmall (added_by pass.number t)
    small-by (Held h) is =
        All-cons IsSmall (Take pass.number h.controller) [] (record { worker = omega (arith, number); controller = can-small few v entered.lawful h.controller is.comes }) (All-nil IsSmall)
    small-by Turned is = All-cons IsSmall (Turn pass.number) [] (record { worker = omega (arith, number); controller = omega arith }) (All-nil IsSmall)
    small-by Rest is = All-nil IsSmall
    small-by Ended is = All-nil IsSmall

    acted-by : (q : Result Taken NoMemory) → IfOk q (IsTakenIn drive pass.number v after) → OnErr q (after ≡ v) → HasActed least drive pass v after (events_by pass.number q)
    acted-by (Ok t) is same = record { added = is.added; own = own-by t; small = small-by t is; lawful = lawful }
    acted-by (Err e) is same = record { added = added-none v after same; own = All-nil (λ (e : Event). worker_of e ≡ pass.number); small = All-nil IsSmall; lawful = lawful }

    acted : HasActed least drive pass v after (events_by pass.number r)
    acted = acted-by r ok err

    pub take-small : All IsSmall after.history
    take-small = small-after least drive hands pass inside v entered after (events_by pass.number r) acted

    pub take-adds : Adds inside.number inside.entered (numbers_of after.history)
    take-adds = adds least drive hands pass inside v entered after (events_by pass.number r) acted

    others-by : (h : HeldController) → HoldsBy least drive pass h → (q : Result Taken NoMemory) → IfOk q (IsTakenIn drive pass.number v after) → AreOfOthers pass.number h.controller (events_by pass.number q)
    others-by h holds (Ok (Held k)) is =
        one-other pass.number h.controller (Take pass.number k.controller)
        (other-controller pass.number pass.number k.controller h.controller
        (not-held v entered.lawful pass.number h (holds-found least drive hands pass inside v entered h holds) k.controller is.comes))
    others-by h holds (Ok Turned) is = one-other pass.number h.controller (Turn pass.number) refl
    others-by h holds (Ok Rest) is = none-others pass.number h.controller
    others-by h holds (Ok Ended) is = none-others pass.number h.controller
    others-by h holds (Err e) is = none-others pass.number h.controller

    module _ (new : Standing (RunPlan D)) (left : new ≡ leaving (numbers_of after.history) inside) where
      held-by : (t : Taken) → HasActed least drive pass v after (added_by pass.number t) → IsNewlyHeld drive (Holds drive after pass.number) t
          → IsNewlyHeld drive (HoldsAfter least drive new.plan new.seen new.number) t
      held-by (Held h) did is = (holds-then least drive hands pass inside v entered after (added_by pass.number (Held h)) did new left h is.0, is.1)
      held-by Turned did is = tt
      held-by Rest did is = tt
      held-by Ended did is = tt

      taken-by : (q : Result Taken NoMemory) → IfOk q (IsTakenIn drive pass.number v after) → OnErr q (after ≡ v) → IfOk q (IsTaken least drive pass new)
      taken-by (Ok t) is same =
          let did = acted-by (Ok t) is same in
          record {
            visit = visited least drive hands pass inside v entered after (added_by pass.number t) did new left;
            known = known-found least drive hands pass inside v entered;
            comes = after-found least drive hands pass inside v entered (Comes drive t) is.comes;
            held = held-by t did is.held;
          }
      taken-by (Err e) is same = tt

      pub take-taken : IfOk r (IsTaken least drive pass new)
      take-taken = taken-by r ok err

      pub take-keeps : KeepsAll least drive pass new
      take-keeps = λ h holds. keeps least drive hands pass inside v entered after (events_by pass.number r) acted new left h (others-by h holds r ok) holds

      nothing-by : (q : Result Taken NoMemory) → IfOk q (IsTakenIn drive pass.number v after) → OnErr q (after ≡ v) → OnErr q (HasVisited pass new [])
      nothing-by (Ok t) is same = tt
      nothing-by (Err e) is same = visited least drive hands pass inside v entered after [] (acted-by (Err e) is same) new left

      pub take-nothing : OnErr r (HasVisited pass new [])
      take-nothing = nothing-by r ok err

no-verdict : {A : Type 0} (o : Option (Bor A)) → is_some o ≡ false → option_copied o ≡ None
no-verdict None none = refl
no-verdict (Some b) none = absurd (cc none)

first-passes : {X : Type 0} (f : X → Bool) (xs : List X) (c : ℕ) → position f xs ≡ Some c → option_map_or f (slice_get xs c) false ≡ true
first-passes f [] c is = absurd (cc is)
first-passes {X = X} f (x ∷ xs) c is =
    let found = position-Some f (x ∷ xs) c x is in
    ap (λ (o : Option X). option_map_or f o false) (slice_get-get_or (x ∷ xs) c x found.0) ∙ found.1

module _ {D : Type 0} (drive : D → List Seat → ℕ → Drive D) where
  -- where the run goes on, the least controller that is due and free can be taken
  pub can-take : (v : WorldView D) (c : ℕ) (o : Option (Bor Verdict)) → InWorld drive v (λ w. option_copied o ≡ w.verdict) → is_some o ≡ false
      → InWorld drive v (λ w. Some c ≡ position (is_free (rules_in drive v) w.now) w.places) → InWorld drive v (CanTake drive v c)
  can-take v c o told none next = λ w is. record {
    goes_on = sym (told w is) ∙ no-verdict o none;
    free = first-passes (is_free (rules_in drive v) w.now) w.places c (sym (next w is));
  }

  pub taken-held : (worker : ℕ) (v after : WorldView D) (c : ℕ) (h : HeldController) → h.controller ≡ c → InWorld drive v (CanTake drive v c) → HasAddedAll v (Take worker c ∷ []) after
      → Holds drive after worker h → h.stalled ≡ false → IsTakenIn drive worker v after (Held h)
  taken-held worker v after c h number can added holds stalled = record {
    comes = subst (λ (n : ℕ). InWorld drive v (CanTake drive v n)) (sym number) can;
    added = subst (λ (n : ℕ). HasAddedAll v (Take worker n ∷ []) after) (sym number) added;
    held = (holds, stalled);
  }
