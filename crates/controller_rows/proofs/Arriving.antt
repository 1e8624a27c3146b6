-- A controller goes on after a message has come to it, or a load was issued in its sequencer.
use Rattle.std.proofs.Common.{◌≡◌, ◌≢◌, ◌≤◌, ◌+◌, ◌-◌, ◌^◌, ℕ, zero, suc, Bool, true, false, ◌&&◌, not, cond, is_none, is_some, Option, None, Some, List, [], ◌∷◌, Result, Ok, Err, OnOk, OnErr, refl, sym, subst, ap, ◌∙◌, All, arith}
use Rattle.std.specs.List.{count_by}
use Rattle.std.proofs.Math.Nat.{le-min}
use Rattle.std.proofs.lemmas.List.Elements.{All-nil}
use Rattle.std.proofs.lemmas.List.Sums.{sum_by-cons}
use Rattle.ruby_value.specs.declared.asked.Asked.{Asked}
use Rattle.ruby_value.specs.declared.message.Message.{Message}
use Rattle.ruby_value.specs.declared.message.MsgNo.{MsgNo}
use Rattle.ruby_value.specs.Prelude.{IsRequest, Requests, with_request, without_first_answer, Roomy}
use Rattle.ctl_face.specs.Between as between
use Rattle.ctl_face.specs.Prelude.{with_arrival, Ctl, InboxMessage, Fits, TakesFields}
use Rattle.ctl_face.specs.declared.routes.Routes.{Routes}
use Rattle.ctl_face.proofs.Betweens.{answer_keeps, arrival_keeps, request_keeps}
use Rattle.ctl_mail.specs.Prelude.{capped, is_queued, is_recycled, is_stalled, IsNewIn}
use Rattle.ctl_store.specs.declared.parts.Parts.{Parts}
use Rattle.ctl_store.specs.Prelude.{ctl_of, machine_of, me_of, requests_of, with_sequencer, IsSameStore}
use Rattle.controller_rows.specs.Prelude.{GoesOn}
use Rattle.controller_rows.proofs.Going.{goes_as, same_then}

-- each message is queued, stalled or recycled
abbrev told : Bool → ℕ
told b = cond b 1 0

counts_once : (waiting : Option ℕ) (recycled : Bool) → told (is_none waiting && not recycled) ≡ 0 → told (is_some waiting) ≡ 0 → told (is_none waiting && recycled) ≡ 0 → ⊥
counts_once (Some line) recycled queued stalled again = omega (arith, stalled)
counts_once None true queued stalled again = omega (arith, again)
counts_once None false queued stalled again = omega (arith, queued)

none_in_front : (p : InboxMessage → Bool) (x : InboxMessage) (xs : List InboxMessage) → count_by p (x ∷ xs) ≡ 0 → told (p x) ≡ 0
none_in_front p x xs none = omega (arith, none, sum_by-cons (λ (o : InboxMessage). told (p o)) x xs)

none_left : (xs : List InboxMessage) → count_by is_queued xs ≡ 0 → count_by is_stalled xs ≡ 0 → count_by is_recycled xs ≡ 0 → xs ≡ []
none_left [] queued stalled again = refl
none_left (x ∷ xs) queued stalled again =
    absurd (counts_once x.waiting x.message.recycled (none_in_front is_queued x xs queued) (none_in_front is_stalled x xs stalled) (none_in_front is_recycled x xs again))

none_capped : (n : ℕ) → capped n ≡ 0 → n ≡ 0
none_capped zero is = refl
none_capped (suc n) is =
    let one : 1 ≤ suc n = omega (arith) in
    let most : 1 ≤ 2 ^ 64 - 1 = omega (arith) in
    let more : 1 ≤ capped (suc n) = le-min one most in
    absurd (omega (arith, is, more))

-- an inbox of which nothing is told is empty
pub none_told : (xs : List InboxMessage) (queued stalled again : ℕ) → queued ≡ capped (count_by is_queued xs) → stalled ≡ count_by is_stalled xs
    → again ≡ capped (count_by is_recycled xs) → queued ≡ 0 → stalled ≡ 0 → again ≡ 0 → xs ≡ []
none_told xs queued stalled again q s r no_queued no_stalled no_again =
    none_left xs (none_capped (count_by is_queued xs) (sym q ∙ no_queued)) (sym s ∙ no_stalled) (none_capped (count_by is_recycled xs) (sym r ∙ no_again))

pub new_in_none : (c d : Ctl) (number : MsgNo) → d ≡ c → c.mail.inbox ≡ [] → IsNewIn d.mail number
new_in_none c d number same none =
    subst (λ (xs : List InboxMessage). All (λ (o : InboxMessage). o.message.number ≢ number) xs) (sym (ap (λ (e : Ctl). e.mail.inbox) same ∙ none))
    (All-nil (λ (o : InboxMessage). o.message.number ≢ number))

module _ (p q : Parts) (routes : Routes) (now : ℕ) (goes : GoesOn p routes now) (same : ctl_of q ≡ ctl_of p) (first : IsSameStore p q) where
  pub same_goes : GoesOn q routes now
  same_goes = goes_as p q routes now (ctl_of p) first goes.routes_fit goes.fits same

  pub arrived_goes : (r : Parts) (m : Message) → IsSameStore q r → ctl_of r ≡ with_arrival (ctl_of q) m
      → TakesFields (machine_of p).buffers m.buffer m.fields → (m.number.sender ≡ me_of p → ⊥) → GoesOn r routes now
  arrived_goes r m then after takes other =
      goes_as p r routes now (with_arrival (ctl_of p) m) (same_then p q r first then) goes.routes_fit
      (arrival_keeps (machine_of p) (me_of p) now (ctl_of p) m takes other goes.fits) (after ∙ ap (λ (c : Ctl). with_arrival c m) same)

-- an answer was taken in the sequencer that a store lends, or a request issued there, or refused
module _ (p : Parts) (routes : Routes) (now : ℕ) (goes : GoesOn p routes now) (lent left : Roomy Requests) (there : requests_of (Some lent) ≡ (ctl_of p).sequencer) where
  abbrev FitsWith : Option Requests → Type 0
  FitsWith o = Fits (machine_of p) (me_of p) (record (ctl_of p) { sequencer = o }) now

  pub answered_goes : left.kept ≡ without_first_answer lent.kept → GoesOn (with_sequencer p left) routes now
  answered_goes is =
      let same : Some left.kept ≡ (between.without_first_answer (ctl_of p)).sequencer =
      ap (λ (r : Requests). Some r) is ∙ ap (λ (o : Option Requests). (between.without_first_answer (record (ctl_of p) { sequencer = o })).sequencer) there in
      record { routes_fit = goes.routes_fit; fits = subst FitsWith (sym same) (answer_keeps (machine_of p) (me_of p) now (ctl_of p) goes.fits) }

  module _ (asked : Asked) (request : IsRequest asked) where
    issued_in : {A E : Type 0} → (r : Result A E) → OnOk r (left.kept ≡ with_request lent.kept asked) → OnErr r (left.kept ≡ lent.kept) → FitsWith (Some left.kept)
    issued_in (Ok a) is refused =
        let same : Some left.kept ≡ (between.with_request (ctl_of p) asked).sequencer =
        ap (λ (r : Requests). Some r) is ∙ ap (λ (o : Option Requests). (between.with_request (record (ctl_of p) { sequencer = o }) asked).sequencer) there
        in subst FitsWith (sym same) (request_keeps (machine_of p) (me_of p) now (ctl_of p) asked request goes.fits)
    issued_in (Err e) ok same = subst FitsWith (sym (ap (λ (r : Requests). Some r) same ∙ there)) goes.fits

    pub issued_goes : {A E : Type 0} → (r : Result A E) → OnOk r (left.kept ≡ with_request lent.kept asked) → OnErr r (left.kept ≡ lent.kept)
        → GoesOn (with_sequencer p left) routes now
    issued_goes r ok refused = record { routes_fit = goes.routes_fit; fits = issued_in r ok refused }
