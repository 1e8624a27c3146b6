-- In a run messages and credits that come to a controller are nothing to its scan, where they are nothing to each scan of the protocol.
use Rattle.std.proofs.Common.{◌≡◌, ◌<◌, ◌+◌, ℕ, Bool, true, false, List, [], ◌∷◌, All, map, refl, sym, ◌∙◌, ap, arith}
use Rattle.std.specs.List.{AllPairs, flat_map}
use Rattle.std.proofs.lemmas.List.Elements.{All-cons, All-head, All-nil, All-tail, All-weaker}
use Rattle.std.proofs.lemmas.List.Kept.{AllPairs-cons}
use Rattle.ruby_value.proofs.Ordered.{AllPairs-nil}
use Rattle.ruby_value.specs.Prelude.{same_number}
use Rattle.ruby_value.specs.declared.message.Message.{Message}
use Rattle.ruby_value.specs.declared.message.MsgNo.{MsgNo}
use Rattle.ctl_face.specs.declared.parcel.Credit.{Credit}
use Rattle.ctl_face.specs.declared.parcel.Parcel.{Parcel}
use Rattle.ctl_face.specs.declared.parcel.Parcel.TheVariants as parcel
use Rattle.ctl_face.specs.Prelude.{Ctl, InboxMessage, parcel_arrival, with_arrival, with_one_fired, with_parcel_arrival, with_stop, with_wake_up}
use Rattle.acts.specs.Added.{Added, AreNew, IsNew, ctl_with}
use Rattle.acts.proofs.Later.{mark_passes, same_is_not}
use Rattle.sequencer.specs.Prelude.{Drive, Seat}
use Rattle.protocol_runs.specs.Prelude.{Rules, Outcome, Full, Fired, Stop, Idle, Mailed, Scan, IsSetting, CreditSuits, FitsRun, MessageSuits, SuitsReceiver, Meaning, mailed, parcel_numbers, rules, Setting, AreNewFor, MayCome, with_arrivals, IsFramed, IsFramedMeaning, outcome_with, scan_with}
use Rattle.protocol_runs.proofs.Scans.{begun, fitting, lawful, scan-is}
use Rattle.protocol_runs.proofs.Tallies.{one, tally, tally-append, tally-map}
use Rattle.protocol_runs.proofs.Accounting.{mail}
use Rattle.protocol_runs.proofs.HeldNew.{brought, counted-new, new-counted}

-- a number that is counted nowhere is none of these
apart-all : {X : Type 0} (number : MsgNo) (f : X → MsgNo) (xs : List X) → tally (λ (x : X). same_number number (f x)) xs ≡ 0 → All (λ (x : X). ¬ (number ≡ f x)) xs
apart-all {X = X} number f [] none = All-nil (λ (x : X). ¬ (number ≡ f x))
apart-all {X = X} number f (x ∷ xs) none =
    by (same_number number (f x)) refl (λ rest. apart-all number f xs rest) none
  where
    by : (b : Bool) → same_number number (f x) ≡ b
        → (tally (λ (y : X). same_number number (f y)) xs ≡ 0 → All (λ (y : X). ¬ (number ≡ f y)) xs) → one b + tally (λ (y : X). same_number number (f y)) xs ≡ 0 → All (λ (y : X). ¬ (number ≡ f y)) (x ∷ xs)
    by true is others some = absurd (omega arith)
    by false is others none = All-cons (λ (y : X). ¬ (number ≡ f y)) x xs (same_is_not number (f x) is) (others (omega arith))

own-counted : (number : MsgNo) → one (same_number number number) ≡ 1
own-counted number = by (same_number number number) refl
  where
    by : (b : Bool) → same_number number number ≡ b → one b ≡ 1
    by true is = refl
    by false is = absurd (same_is_not number number is refl)

outcome-same : {C M : Type 0} (f g : C → C) → ((x : C) → f x ≡ g x) → (o : Outcome C M) → outcome_with f o ≡ outcome_with g o
outcome-same f g same Full = refl
outcome-same f g same (Fired note acts copies after) = ap (λ y. Fired note acts copies y) (same after)
outcome-same f g same (Stop at) = refl
outcome-same f g same (Idle after) = ap (λ y. Idle y) (same after)

scan-same : {C M : Type 0} (f g : C → C) → ((x : C) → f x ≡ g x) → (a : Scan C M) → scan_with f a ≡ scan_with g a
scan-same f g same a = ap (λ (o : Outcome _ _). let b : Scan _ _ = record { outcome = o; tried = a.tried } in b) (outcome-same f g same a.outcome)

-- what comes, each with its mark
abbrev message-of : Parcel → List Message
message-of (parcel.Message m) = m ∷ []
message-of (parcel.Credit c) = []

abbrev credit-of : Parcel → List Credit
credit-of (parcel.Message m) = []
credit-of (parcel.Credit c) = c ∷ []

abbrev messages-in : List Parcel → List Message
messages-in ps = flat_map message-of ps

abbrev credits-in : List Parcel → List Credit
credits-in ps = flat_map credit-of ps

abbrev coming : List Parcel → Added
coming ps = record { messages = messages-in ps; credits = credits-in ps; marks = map parcel_arrival ps }

numbers-in : (ps : List Parcel) → flat_map parcel_numbers ps ≡ map (λ (m : Message). m.number) (messages-in ps)
numbers-in [] = refl
numbers-in (parcel.Message m ∷ ps) = ap (λ (ns : List MsgNo). m.number ∷ ns) (numbers-in ps)
numbers-in (parcel.Credit c ∷ ps) = numbers-in ps

module _ {D : Type 0} (p : Meaning) (drive : D → List Seat → ℕ → Drive D) (least : D → ℕ) (s : Setting D) (is : IsSetting least s) where
  abbrev R : Rules Ctl Parcel D
  R = rules p drive s

  arrivals-are : (x : Ctl) (ps : List Parcel) → with_arrivals R x ps ≡ ctl_with (coming ps) x
  arrivals-are x [] = refl
  arrivals-are x (parcel.Message m ∷ ps) = arrivals-are (with_arrival x m) ps
  arrivals-are x (parcel.Credit c ∷ ps) = arrivals-are (with_parcel_arrival x (parcel.Credit c)) ps

  fires-framed : (x : Ctl) (ps : List Parcel) → with_one_fired (with_arrivals R x ps) ≡ with_arrivals R (with_one_fired x) ps
  fires-framed x [] = refl
  fires-framed x (parcel.Message m ∷ ps) = fires-framed (with_arrival x m) ps
  fires-framed x (parcel.Credit c ∷ ps) = fires-framed (with_parcel_arrival x (parcel.Credit c)) ps

  stops-framed : (x : Ctl) (ps : List Parcel) → with_stop (with_arrivals R x ps) ≡ with_arrivals R (with_stop x) ps
  stops-framed x [] = refl
  stops-framed x (parcel.Message m ∷ ps) = stops-framed (with_arrival x m) ps
  stops-framed x (parcel.Credit c ∷ ps) = stops-framed (with_parcel_arrival x (parcel.Credit c)) ps

  -- a controller with other marks
  abbrev marked-so : Ctl → List ℕ → Ctl
  marked-so y marks = record y { mail = record y.mail { marks = marks } }

  mark-swaps : (x : Ctl) (p : Parcel) (cycle : ℕ) → with_wake_up (with_parcel_arrival x p) cycle ≡ with_parcel_arrival (with_wake_up x cycle) p
  mark-swaps x (parcel.Message m) cycle =
      let passes = mark_passes 0 0 x.mail.inbox m.arrival in ap (λ (marks : List ℕ). marked-so (with_arrival x m) marks) (passes.mark x.mail.marks cycle)
  mark-swaps x (parcel.Credit c) cycle =
      let passes = mark_passes 0 0 x.mail.inbox c.arrival in
      ap (λ (marks : List ℕ). marked-so (with_parcel_arrival x (parcel.Credit c)) marks) (passes.mark x.mail.marks cycle)

  marks-framed : (x : Ctl) (ps : List Parcel) (cycle : ℕ) → with_wake_up (with_arrivals R x ps) cycle ≡ with_arrivals R (with_wake_up x cycle) ps
  marks-framed x [] cycle = refl
  marks-framed x (p ∷ ps) cycle = marks-framed (with_parcel_arrival x p) ps cycle ∙ ap (λ (y : Ctl). with_arrivals R y ps) (mark-swaps x p cycle)

  -- numbers that are counted once at most are new, and differ
  first-own : (x : Ctl) (m : Message) (ps : List Parcel) → AreNewFor R x (parcel.Message m ∷ ps)
      → (brought R (same_number m.number) ps ≡ 0) × (mail R (same_number m.number) x ≡ 0)
  first-own x m ps new =
      let few = new-counted R x (parcel.Message m ∷ ps) new m.number in
      let own = own-counted m.number in
      (omega (arith, few, own), omega (arith, few, own))

  rest-new : (x : Ctl) (p : Parcel) (ps : List Parcel) → AreNewFor R x (p ∷ ps) → AreNewFor R x ps
  rest-new x p ps new =
      counted-new R x ps
      (λ number. let few = new-counted R x (p ∷ ps) new number in omega (arith, few, tally-append (same_number number) (parcel_numbers p) (flat_map parcel_numbers ps)))

  unknown : (x : Ctl) (m : Message) → mail R (same_number m.number) x ≡ 0 → All (λ (o : InboxMessage). ¬ (o.message.number ≡ m.number)) x.mail.inbox
  unknown x m none =
      All-weaker (λ (o : InboxMessage). ¬ (m.number ≡ o.message.number)) (λ (o : InboxMessage). ¬ (o.message.number ≡ m.number)) (λ o apart same. apart (sym same)) x.mail.inbox
      (apart-all m.number (λ (o : InboxMessage). o.message.number) x.mail.inbox
      (sym (tally-map (λ (o : Mailed). same_number m.number o.number) mailed x.mail.inbox) ∙ none))

  differ : (m : Message) (ps : List Parcel) → brought R (same_number m.number) ps ≡ 0 → All (λ (n : Message). ¬ (m.number ≡ n.number)) (messages-in ps)
  differ m ps none =
      let f : MsgNo → Bool = same_number m.number in
      let number : Message → MsgNo = λ n. n.number in
      apart-all m.number number (messages-in ps)
      (sym (tally-map f number (messages-in ps)) ∙ sym (ap (tally f) (numbers-in ps)) ∙ none)

  module _ (c now : ℕ) (x : Ctl) where
    abbrev Suits : Parcel → Type 0
    Suits p = SuitsReceiver s c p now

    each-new : (ps : List Parcel) → All Suits ps → AreNewFor R x ps → All (IsNew c now x.mail.inbox) (messages-in ps)
    each-new [] suit new = All-nil (IsNew c now x.mail.inbox)
    each-new (parcel.Message m ∷ ps) suit new =
        let first : MessageSuits s c m now = All-head Suits (parcel.Message m) ps suit in
        let own = first-own x m ps new in
        All-cons (IsNew c now x.mail.inbox) m (messages-in ps) (record { later = first.later; other = first.other; unknown = unknown x m own.1 })
        (each-new ps (All-tail Suits (parcel.Message m) ps suit) (rest-new x (parcel.Message m) ps new))
    each-new (parcel.Credit k ∷ ps) suit new = each-new ps (All-tail Suits (parcel.Credit k) ps suit) (rest-new x (parcel.Credit k) ps new)

    abbrev IsLater : Credit → Type 0
    IsLater k = now < k.arrival

    credits-later : (ps : List Parcel) → All Suits ps → All IsLater (credits-in ps)
    credits-later [] suit = All-nil IsLater
    credits-later (parcel.Message m ∷ ps) suit = credits-later ps (All-tail Suits (parcel.Message m) ps suit)
    credits-later (parcel.Credit k ∷ ps) suit =
        let first : CreditSuits s c k now = All-head Suits (parcel.Credit k) ps suit in
        All-cons IsLater k (credits-in ps) first.later (credits-later ps (All-tail Suits (parcel.Credit k) ps suit))

    abbrev Differ : Message → Message → Type 0
    Differ a b = ¬ (a.number ≡ b.number)

    all-differ : (ps : List Parcel) → AreNewFor R x ps → AllPairs Differ (messages-in ps)
    all-differ [] new = AllPairs-nil Differ
    all-differ (parcel.Message m ∷ ps) new =
        let own = first-own x m ps new in
        AllPairs-cons Differ m (messages-in ps) (differ m ps own.0) (all-differ ps (rest-new x (parcel.Message m) ps new))
    all-differ (parcel.Credit k ∷ ps) new = all-differ ps (rest-new x (parcel.Credit k) ps new)

    scans-framed : IsFramedMeaning p → (ps : List Parcel) → MayCome R (FitsRun s) (SuitsReceiver s) c now x ps
        → R.scan c (with_arrivals R x ps) now ≡ scan_with (λ after. with_arrivals R after ps) (R.scan c x now)
    scans-framed framed ps may =
        let fit = fitting p drive least s is c x now may.fits in
        let local = begun p drive least s is c fit.setup x now in
        let come : AreNew local (coming ps) = record {
          each = each-new ps may.suit may.new;
          credits_later = credits-later ps may.suit;
          differ = all-differ ps may.new;
        } in
        ap (λ (y : Ctl). R.scan c y now) (arrivals-are x ps)
        ∙ scan-is p drive least s is c (ctl_with (coming ps) x) now fit.setup fit.one
        ∙ framed fit.one.machine fit.setup local.actor now s.limit x (coming ps) (lawful p drive least s is c x now fit) come
        ∙ ap (scan_with (ctl_with (coming ps))) (sym (scan-is p drive least s is c x now fit.setup fit.one))
        ∙ scan-same (ctl_with (coming ps)) (λ after. with_arrivals R after ps) (λ after. sym (arrivals-are after ps)) (R.scan c x now)

  pub runs-framed : IsFramedMeaning p → IsFramed R (FitsRun s) (SuitsReceiver s)
  runs-framed framed = record {
    scans = λ c now x ps may. scans-framed c now x framed ps may;
    fires = fires-framed;
    marks = marks-framed;
    stops = λ x ps at. stops-framed x ps;
  }
