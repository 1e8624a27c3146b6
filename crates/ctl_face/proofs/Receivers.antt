-- Each copy that a controller of a run sends fits its receiver.
use Rattle.std.proofs.Common.{◌≡◌, Bool, ℕ, zero, suc, ◌+◌, ◌<◌, ◌≤◌, List, [], ◌∷◌, map, length, All, IsTrue, IfSome, IsSomeAnd, refl, ap, subst, arith, Option, None, Some, nat_abs, slice_get, inl, inr}
use Rattle.std.proofs.lemmas.Bool.{cases_lt}
use Rattle.std.proofs.lemmas.List.Elements.{All-cons, All-head, All-nil, All-weaker}
use Rattle.std.specs.Option.{option_and_then, option_flatten}
use Rattle.ruby_value.specs.declared.setup.BufferPlace.{BufferPlace}
use Rattle.ruby_value.specs.declared.setup.BufferPlace.TheVariants as place
use Rattle.ruby_value.specs.declared.setup.BufferSetup.{BufferSetup}
use Rattle.ruby_value.specs.declared.setup.MachineSetup.{MachineSetup}
use Rattle.ruby_value.specs.declared.value.Value.{Value}
use Rattle.ruby_value.specs.Prelude.{has_kinds, network_of}
use Rattle.ruby_value.specs.declared.message.Delivery.{Delivery}
use Rattle.ruby_value.specs.declared.message.Message.{Message}
use Rattle.ctl_face.specs.Prelude.{IsRouted, messages_among, Mail, FitsReceiver, SendsFit, IsController, IsInRun, AgreeOnType, Actor, LocalView, TakesFields, AgreeOnTypes, AreNumbered, IsFrom, ReceivesFrom, NobodyElseReceives, RoutesFit, IsOfMachine, receiving_buffer, Sending, IsNetworkCopy, IsOwnCopy, SendAdds}
use Rattle.ctl_face.specs.declared.routes.Routes.{Routes}
use Rattle.ctl_face.proofs.Lines.{All-found}
use Rattle.ctl_face.proofs.Routed.{SentOn, sent_on}
use Rattle.ctl_face.proofs.Sendings.{other_takes}
use Rattle.ctl_face.proofs.SendAdds.{send_adds}

-- a number below the free one is in a range
somewhere : (ranges : List (ℕ × ℕ)) (first free controller : ℕ) → AreNumbered first free ranges → first ≤ controller → controller < free → (at : ℕ) × IsOfMachine ranges at controller
somewhere [] first free controller is above below = absurd (omega (arith, is))
somewhere (p ∷ ranges) first free controller is above below =
    elim (cases_lt controller (first + p.1)) [
      | inl here ↦ (0, ((let same = is.0 in omega arith), (let same = is.0 in omega arith)))
      | inr later ↦ let rest = somewhere ranges (first + p.1) free controller is.2 later below in (suc rest.0, rest.1)
    ]

routed_within : (rows : List (List (Option ℕ))) (receiver network b : ℕ) → option_and_then (λ (buffers : List (Option ℕ)). option_flatten (slice_get buffers network)) (slice_get rows receiver) ≡ Some b → receiver < length rows
routed_within [] receiver network b is = absurd (cc is)
routed_within (row ∷ rows) zero network b is = omega arith
routed_within (row ∷ rows) (suc receiver) network b is = let rest = routed_within rows receiver network b is in omega arith

-- lists of one length have something at the same places
beside : {X Y : Type 0} (P : X → Type 0) (xs : List X) (ys : List Y) (at : ℕ) → length xs ≡ length ys → IsSomeAnd (slice_get xs at) P → (y : Y) × (slice_get ys at ≡ Some y)
beside P [] ys at same there = absurd there
beside P (x ∷ xs) [] at same there = absurd (cc same)
beside P (x ∷ xs) (y ∷ ys) zero same there = (y, refl)
beside P (x ∷ xs) (y ∷ ys) (suc at) same there = beside P xs ys at (let less : length xs ≡ length ys = omega arith in less) there

found : {X : Type 0} (P : X → Type 0) (xs : List X) (at : ℕ) (x : X) → slice_get xs at ≡ Some x → All P xs → P x
found P xs at x is all = subst (λ o. IfSome o P) is (All-found P xs at all)

-- what holds of the copies for the one receiver
all_for : (P Q : Delivery Message → Type 0) (me : ℕ) → ((c : Delivery Message) → c.receiver ≡ me → P c → Q c) → (copies : List (Delivery Message)) → map (λ (c : Delivery Message). c.receiver) copies ≡ me ∷ [] → All P copies → All Q copies
all_for P Q me holds [] is all = absurd (cc is)
all_for P Q me holds (c ∷ []) is all = All-cons Q c [] (holds c (cc is) (All-head P c [] all)) (All-nil Q)
all_for P Q me holds (c ∷ d ∷ rest) is all = absurd (cc is)

pub nobody_else : (machines : List MachineSetup) (ranges : List (ℕ × ℕ)) (routes : Routes) → RoutesFit machines ranges routes → NobodyElseReceives ranges routes
nobody_else machines ranges routes fit controller network no_machine = go (receiving_buffer routes controller network) refl
  where
    go : (o : Option ℕ) → receiving_buffer routes controller network ≡ o → o ≡ None
    go None is = refl
    go (Some b) is =
        let within = routed_within routes.receiving controller network b is in
        let rows = fit.receiving.all_rows in
        let there = somewhere ranges 0 fit.total controller fit.numbers.numbered (omega arith) (omega arith) in
        absurd (no_machine there.0 there.1)

module _ (machines : List MachineSetup) (ranges : List (ℕ × ℕ)) (m : MachineSetup) (actor : Actor) (here : IsController machines ranges m actor) (buffer : ℕ) (fields : List Value) (s : BufferSetup) (there : slice_get m.buffers buffer ≡ Some s) (takes : IsTrue (has_kinds s.kinds fields)) where
  fit : RoutesFit machines ranges actor.routes
  fit = here.routes

  at_other : (network receiver b at : ℕ) (other : MachineSetup) → network_of s.place ≡ Some network → receiving_buffer actor.routes receiver network ≡ Some b → IsOfMachine ranges at receiver → slice_get machines at ≡ Some other
      → TakesFields other.buffers b fields
  at_other network receiver b at other on routed stands_there is_other =
      let from : ReceivesFrom other receiver actor.routes = subst (λ (o : Option MachineSetup). IfSome o (λ (x : MachineSetup). ReceivesFrom x receiver actor.routes)) is_other (fit.receivers at receiver stands_there) in
      let from_network = subst (IsFrom other network) routed (from network) in
      let agree = found (AgreeOnTypes m) machines at other is_other (found (λ (x : MachineSetup). All (AgreeOnTypes x) machines) machines here.machine m here.is fit.one_type) in
      let agrees = found (λ (a : BufferSetup). All (AgreeOnType a) other.buffers) m.buffers buffer s there agree in
      other_takes network fields s on takes other.buffers b (slice_get other.buffers b) refl from_network (All-found (AgreeOnType s) other.buffers b agrees)

  routed_fits : (network : ℕ) (c : Delivery Message) → network_of s.place ≡ Some network → receiving_buffer actor.routes c.receiver network ≡ Some c.message.buffer → c.message.fields ≡ fields → FitsReceiver machines ranges c
  routed_fits network c on receives fields_sent =
      let within = routed_within actor.routes.receiving c.receiver network c.message.buffer receives in
      let rows = fit.receiving.all_rows in
      let stands_there = somewhere ranges 0 fit.total c.receiver fit.numbers.numbered (omega arith) (omega arith) in
      let other = beside _ ranges machines stands_there.0 fit.numbers.each_machine stands_there.1 in
      let takes_there = at_other network c.receiver c.message.buffer stands_there.0 other.0 on receives stands_there.1 other.1 in
      record {
        machine = stands_there.0;
        of_machine = stands_there.1;
        takes = rw (other.1, fields_sent) takes_there;
      }

  own_copy_fits : (ordered : Bool) (latency now : ℕ) (mail : Mail) (c : Delivery Message) → c.receiver ≡ actor.me → IsOwnCopy ordered mail buffer latency fields now c → FitsReceiver machines ranges c
  own_copy_fits ordered latency now mail c mine copy = record {
    machine = here.machine;
    of_machine = rw mine here.of_machine;
    takes = rw (here.is, copy.buffer, copy.fields_sent, there) takes;
  }

  each_fits : (p : BufferPlace) (latency now : ℕ) (mail : Mail) (sending : Sending) → s.place ≡ p → SendAdds p s.ordered actor mail buffer latency fields now sending → All (FitsReceiver machines ranges) sending.copies
  each_fits place.Local latency now mail sending at_place adds =
      all_for (IsOwnCopy s.ordered mail buffer latency fields now) (FitsReceiver machines ranges) actor.me (own_copy_fits s.ordered latency now mail) sending.copies adds.0.to adds.0.each
  each_fits (place.To network destination) latency now mail sending at_place adds =
      All-weaker (IsNetworkCopy actor mail network latency fields now) (FitsReceiver machines ranges) (λ c copy. routed_fits network c (ap network_of at_place) copy.buffer copy.fields_sent) sending.copies adds.0.each
  each_fits (place.From network) latency now mail sending at_place adds =
      All-weaker (λ (c : Delivery Message). ⊥) (FitsReceiver machines ranges) (λ c no. absurd no) sending.copies adds.0.each

pub sends_fit : (machines : List MachineSetup) (ranges : List (ℕ × ℕ)) (m : MachineSetup) (actor : Actor) → IsController machines ranges m actor → SendsFit machines ranges m actor
sends_fit machines ranges m actor here mail buffer latency fields now sending takes sent = from (slice_get m.buffers buffer) refl takes
  where
    from : (o : Option BufferSetup) → slice_get m.buffers buffer ≡ o → IsSomeAnd o (λ (s : BufferSetup). IsTrue (has_kinds s.kinds fields)) → All (FitsReceiver machines ranges) sending.copies
    from None there none = absurd none
    from (Some s) there kinds =
        each_fits machines ranges m actor here buffer fields s there kinds s.place (nat_abs latency) now mail sending refl
        (send_adds m actor mail buffer latency fields now s sending there sent)

pub posted_fit : (machines : List MachineSetup) (ranges : List (ℕ × ℕ)) (v : LocalView) → IsInRun machines ranges v → All (FitsReceiver machines ranges) (messages_among v.acts.posted)
posted_fit machines ranges v in_run =
    All-weaker (IsRouted v.machine v.actor.routes) (FitsReceiver machines ranges) (λ c routed. one c (sent_on v.machine v.actor.routes c routed)) (messages_among v.acts.posted) in_run.lawful.acts.0.routed
  where
    one : (c : Delivery Message) → SentOn v.machine v.actor.routes c → FitsReceiver machines ranges c
    one c on = routed_fits machines ranges v.machine v.actor in_run.controller on.buffer c.message.fields on.on on.there on.takes on.network c on.to on.receives refl
