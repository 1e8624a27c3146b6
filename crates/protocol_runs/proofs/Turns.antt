-- A driver's turn among controllers that fit: its seats fit it, each controller keeps fitting, and the messages of its requests have
-- the driver's next numbers, and fit their receivers.
use Rattle.std.proofs.Common.{◌≡◌, ◌<◌, ◌+◌, ◌++◌, ℕ, Bool, true, false, List, [], ◌∷◌, Option, None, Some, All, IfSome, IsSomeAnd, IsTrue, map, length, refl, sym, ap, subst, ◌∙◌, arith, get_or, slice_get}
use Rattle.std.proofs.lemmas.Bool.{cond_both}
use Rattle.std.proofs.lemmas.List.{length-map, length-set}
use Rattle.std.proofs.lemmas.List.Elements.{All-append, All-cons, All-head, All-map, All-nil, All-tail, All-weaker}
use Rattle.std.proofs.lemmas.List.Kept.{AllPairs-cons}
use Rattle.std.proofs.lemmas.Option.{slice_get-get_or}
use Rattle.std.specs.List.{AllPairs, flat_map}
use Rattle.std.specs.Option.{option_and_then, option_map}
use Rattle.ruby_value.specs.declared.asked.Asked.{Asked}
use Rattle.ruby_value.specs.declared.kind.Kind.{Kind}
use Rattle.ruby_value.specs.declared.message.Delivery.{Delivery}
use Rattle.ruby_value.specs.declared.message.MsgNo.{MsgNo}
use Rattle.ruby_value.specs.declared.setup.BufferSetup.{BufferSetup}
use Rattle.ruby_value.specs.declared.setup.MachineSetup.{MachineSetup}
use Rattle.ruby_value.specs.Prelude.{has_kinds, numbers_from, FitsRequests, IsRequest, Requests, with_request, without_first_answer}
use Rattle.ruby_value.proofs.Ordered.{AllPairs-head, AllPairs-nil, AllPairs-tail}
use Rattle.protocol_runs.specs.Premises as runs
use Rattle.protocol_runs.specs.Prelude.{Rules, delivery_numbers, AreApart, HasQueue, IsSetting, TakesRequests, FitsRun, HasSeats, SuitsReceiver, setup_of, Meaning, request_at, request_fields, request_kinds, request_message, request_messages, rules, SeatSetup, Setting, acts_at, is_seat_of, issued_at, seat_in, seats_in, served, taken_at}
use Rattle.ctl_face.specs.declared.parcel.Parcel.{Parcel}
use Rattle.ctl_face.specs.declared.parcel.Parcel.TheVariants as parcel
use Rattle.ctl_face.specs.Prelude.{DriverAct, IsDriverAct, Issues, Takes, after_driver_act, after_driver_acts, Ctl, Mail, FitsSequencer, TakesFields}
use Rattle.acts.specs.Prelude.{AreCreditsMarked, AreMarked}
use Rattle.ctl_face.proofs.Betweens.{driver_keeps, driver_mail}
use Rattle.sequencer.specs.declared.issued.Issued.{Issued}
use Rattle.sequencer.specs.Prelude.{CanIssue, Drive, IsLawful, Taken, after_taking, seats_after_taking, FitSeats, FitsSeat, Seat, Seating, changed_at, changed_seat, with_issued, with_seat, without_answer_at}
use Rattle.sequencer.specs.Seats as seats
use Rattle.protocol_runs.proofs.Controllers.{and-some, at-place, below-count, of-one, one-of, some-and}
use Rattle.protocol_runs.proofs.Driver.{IsDriver}
use Rattle.protocol_runs.proofs.Scans.{fits-run, fitting}

-- of a list whose elements are apart, what they are mapped to is apart, too
apart-map : {X Y : Type 0} (P : X → X → Type 0) (Q : Y → Y → Type 0) (f : X → Y) → ((a b : X) → P a b → Q (f a) (f b))
    → (xs : List X) → AllPairs P xs → AllPairs Q (map f xs)
apart-map P Q f to [] pairs = AllPairs-nil Q
apart-map P Q f to (x ∷ xs) pairs =
    AllPairs-cons Q (f x) (map f xs)
    (All-map (Q (f x)) f xs (All-weaker (P x) (λ b. Q (f x) (f b)) (to x) xs (AllPairs-head P x xs pairs)))
    (apart-map P Q f to xs (AllPairs-tail P x xs pairs))

sequencer-fits : (has : Bool) (o : Option Requests) → FitsSequencer has o → IfSome o FitsRequests
sequencer-fits has None fits = tt
sequencer-fits true (Some r) fits = fits
sequencer-fits false (Some r) fits = absurd fits

-- no turn changes how many seats there are
same-count : (change : Requests → Requests) (xs : List Seat) (k : ℕ) (o : Option Seat) → length (with_seat xs k (option_map (changed_seat change) o)) ≡ length xs
same-count change xs k None = refl
same-count change xs k (Some x) = length-set xs k (changed_seat change x)

pub taken-count : (xs : List Seat) (ts : List Taken) → length (after_taking xs ts) ≡ length xs
taken-count xs [] = refl
taken-count xs (t ∷ ts) =
    taken-count (without_answer_at xs t.seat) ts ∙ same-count without_first_answer xs t.seat (slice_get xs t.seat)

-- what is known of each request that is issued
pub record IsIssued (count : ℕ) (i : Issued) : Type 0 where
  pub seat : i.seat < count
  pub request : IsRequest i.asked

pub all-issued : (now count : ℕ) (s : Seating) (xs : List Issued) → length s.seats ≡ count → CanIssue now s xs → All (IsIssued count) xs
all-issued now count s [] same can = All-nil (IsIssued count)
all-issued now count s (i ∷ rest) same can =
    let first = can.0 in
    All-cons (IsIssued count) i rest (record { seat = omega (arith, same, first.seat); request = first.request })
    (all-issued now count (with_issued s i) rest (same-count (λ q. with_request q i.asked) s.seats i.seat (slice_get s.seats i.seat) ∙ same) can.1)

-- the fields of a request are those of its type
request-kinds : (a : Asked) → has_kinds request_kinds (request_fields a) ≡ true
request-kinds a = refl

-- each act of a turn at a controller is one of a driver
module _ (setups : List SeatSetup) (c count : ℕ) where
  all-taken : (ts : List Taken) → All IsDriverAct (flat_map (taken_at setups c) ts)
  all-taken [] = All-nil IsDriverAct
  all-taken (t ∷ ts) =
      All-append IsDriverAct (taken_at setups c t) (flat_map (taken_at setups c) ts)
      (cond_both (is_seat_of c (slice_get setups t.seat)) (Takes ∷ []) [] (All IsDriverAct) (λ _. All-cons IsDriverAct Takes [] tt (All-nil IsDriverAct)) (λ _. All-nil IsDriverAct))
      (all-taken ts)

  all-put : (xs : List Issued) → All (IsIssued count) xs → All IsDriverAct (flat_map (issued_at setups c) xs)
  all-put [] all = All-nil IsDriverAct
  all-put (i ∷ xs) all =
      let known = All-head (IsIssued count) i xs all in
      All-append IsDriverAct (issued_at setups c i) (flat_map (issued_at setups c) xs)
      (cond_both (is_seat_of c (slice_get setups i.seat)) (Issues i.asked ∷ []) [] (All IsDriverAct)
      (λ _. All-cons IsDriverAct (Issues i.asked) [] known.request (All-nil IsDriverAct)) (λ _. All-nil IsDriverAct))
      (all-put xs (All-tail (IsIssued count) i xs all))

  pub driver-acts : {D : Type 0} (d : Drive D) → All (IsIssued count) d.issued → All IsDriverAct (acts_at setups c d)
  driver-acts d all = All-append IsDriverAct (flat_map (taken_at setups c) d.taken) (flat_map (issued_at setups c) d.issued) (all-taken d.taken) (all-put d.issued all)

driver-fired : (acts : List DriverAct) (x : Ctl) → (after_driver_acts x acts).fired ≡ x.fired
driver-fired [] x = refl
driver-fired (Takes ∷ acts) x = driver-fired acts (after_driver_act x Takes)
driver-fired (Issues asked ∷ acts) x = driver-fired acts (after_driver_act x (Issues asked))

-- the controllers of a run at the seats of its driver
module _ {D : Type 0} (p : Meaning) (drive : D → List Seat → ℕ → Drive D) (least : D → ℕ) (s : Setting D) (is : IsSetting least s) where
  abbrev R : Rules Ctl Parcel D
  R = rules p drive s

  requests-fit : (c now : ℕ) (x : Ctl) → FitsRun s c x now → IfSome x.sequencer FitsRequests
  requests-fit c now x fits = let fit = fitting p drive least s is c x now fits in sequencer-fits fit.setup.has_sequencer x.sequencer fit.fits.sequencer

  seat-fits : (xs : List Ctl) (now : ℕ) → ((c : ℕ) (x : Ctl) → slice_get xs c ≡ Some x → FitsRun s c x now) → (st : SeatSetup) → FitsSeat (seat_in xs st)
  seat-fits xs now fits st =
      cond_both st.has_sequencer (option_and_then (λ (x : Ctl). x.sequencer) (slice_get xs st.controller)) None (λ (o : Option Requests). IfSome o FitsRequests)
      (λ _. at (slice_get xs st.controller) refl) (λ _. tt)
    where
      at : (o : Option Ctl) → slice_get xs st.controller ≡ o → IfSome (option_and_then (λ (x : Ctl). x.sequencer) o) FitsRequests
      at None there = tt
      at (Some x) there = requests-fit st.controller now x (fits st.controller x there)

  pub seats-fit : (d : D) (xs : List Ctl) (now issued : ℕ) → runs.IsAsked R (FitsRun s) (SuitsReceiver s) (HasSeats s least) d xs now issued
      → FitSeats (least d) (seats_in s.seats xs)
  seats-fit d xs now issued asked = record {
    enough = (let leads = asked.leads in let count = length-map s.seats (seat_in xs) in omega (arith, leads.enough, count));
    apart = apart-map AreApart seats.AreApart (seat_in xs) (λ a b differ. differ) s.seats is.apart;
    each = All-map FitsSeat (seat_in xs) s.seats (λ k st within. seat-fits xs now asked.fits (get_or s.seats k st));
  }

  module _ (needs : D → ℕ → ℕ) (driver : IsDriver drive needs least) (d : D) (xs : List Ctl) (now issued : ℕ)
      (asked : runs.IsAsked R (FitsRun s) (SuitsReceiver s) (HasSeats s least) d xs now issued) where
    abbrev pub turn : Drive D
    turn = drive d (seats_in s.seats xs) now

    abbrev seated : Seating
    seated = record { seats = seats_in s.seats xs; issued = [] }

    pub lawful-turn : IsLawful (needs d now) now seated turn
    lawful-turn =
        driver.lawful d seated now (seats-fit d xs now issued asked)
        (let leads = asked.leads in omega (arith, leads.bound, is.cycles))

    pub issued-known : All (IsIssued (length s.seats)) turn.issued
    issued-known =
        all-issued now (length s.seats) (seats_after_taking seated turn) turn.issued
        (taken-count seated.seats turn.taken ∙ length-map s.seats (seat_in xs)) lawful-turn.issued

    pub served-fits : (c : ℕ) (x : Ctl) → FitsRun s c x now → FitsRun s c (served s.seats c turn x) now
    served-fits c x fits =
        let fit = fitting p drive least s is c x now fits in
        fits-run p drive least s is c (served s.seats c turn x) now fit.setup fit.one
        (driver_keeps (acts_at s.seats c turn) (driver-acts s.seats c (length s.seats) turn issued-known) fit.setup c now x fit.fits)
        (subst (λ (mail : Mail). AreMarked now mail.marks mail.inbox) (sym (driver_mail (acts_at s.seats c turn) x)) fit.marked)
        (subst (λ (mail : Mail). AreCreditsMarked now mail.marks mail.credits) (sym (driver_mail (acts_at s.seats c turn) x)) fit.credits_marked)
        (let same = driver-fired (acts_at s.seats c turn) x in omega (arith, same, fit.few)) fit.bound

  -- the messages of requests
  abbrev pub driver_number : ℕ
  driver_number = length R.controllers

  abbrev SuitsAt : ℕ → Delivery Parcel → Type 0
  SuitsAt now e = SuitsReceiver s e.receiver e.message now

  -- what is known of each of them
  pub record IsRequestFor (now : ℕ) (e : Delivery Parcel) : Type 0 where
    pub suits : SuitsReceiver s e.receiver e.message now
    pub receiver : e.receiver < driver_number

  takes-request : (queue : ℕ) (m : MachineSetup) (a : Asked) → HasQueue queue m → TakesFields m.buffers queue (request_fields a)
  takes-request queue m a has =
      let (b, there, takes) = and-some TakesRequests (slice_get m.buffers queue) has in
      some-and (λ (x : BufferSetup). IsTrue (has_kinds x.kinds (request_fields a))) (slice_get m.buffers queue) b there
      (ap (λ (kinds : List Kind). has_kinds kinds (request_fields a)) takes.kinds ∙ request-kinds a)

  request-for : (now count : ℕ) (st : SeatSetup) (a : Asked) → IsSomeAnd (setup_of s st.controller) (HasQueue st.queue)
      → IsRequestFor now (record { receiver = st.controller; message = parcel.Message (request_message (record { sender = driver_number; count = count }) st.queue now a) })
  request-for now count st a has =
      let (m, there, queue) = and-some (HasQueue st.queue) (setup_of s st.controller) has in
      let one = one-of s st.controller m there in
      let below = below-count s least is st.controller one.machine (of-one s least is st.controller m one) in
      record {
        suits = record {
          other = λ own. omega (arith, below, own);
          takes = some-and (λ (setup : MachineSetup). TakesFields setup.buffers st.queue (request_fields a)) (setup_of s st.controller) m there (takes-request st.queue m a queue);
          later = omega arith;
          not_recycled = refl;
        };
        receiver = below;
      }

  pub requests-known : (now count : ℕ) (xs : List Issued) → All (IsRequestFor now) (request_messages s.seats driver_number count now xs)
  requests-known now count [] = All-nil (IsRequestFor now)
  requests-known now count (i ∷ rest) =
      All-append (IsRequestFor now) (request_at (slice_get s.seats i.seat) (record { sender = driver_number; count = count }) now i.asked)
      (request_messages s.seats driver_number (count + 1) now rest) (at (slice_get s.seats i.seat) refl) (requests-known now (count + 1) rest)
    where
      at : (o : Option SeatSetup) → slice_get s.seats i.seat ≡ o → All (IsRequestFor now) (request_at o (record { sender = driver_number; count = count }) now i.asked)
      at None there = All-nil (IsRequestFor now)
      at (Some st) there =
          All-cons (IsRequestFor now) _ [] (request-for now count st i.asked (at-place (λ (x : SeatSetup). IsSomeAnd (setup_of s x.controller) (HasQueue x.queue)) s.seats i.seat st there is.queues))
          (All-nil (IsRequestFor now))

  abbrev numbers : List (Delivery Parcel) → List MsgNo
  numbers es = delivery_numbers R es

  -- their numbers are the driver's next ones
  pub requests-numbered : (now count : ℕ) (xs : List Issued) → All (IsIssued (length s.seats)) xs
      → numbers (request_messages s.seats driver_number count now xs) ≡ numbers_from driver_number count (length (request_messages s.seats driver_number count now xs))
  requests-numbered now count [] all = refl
  requests-numbered now count (i ∷ rest) all = at (slice_get s.seats i.seat) refl (requests-numbered now (count + 1) rest (All-tail (IsIssued (length s.seats)) i rest all))
    where
      within : i.seat < length s.seats
      within = let first = All-head (IsIssued (length s.seats)) i rest all in first.seat

      at : (o : Option SeatSetup) → slice_get s.seats i.seat ≡ o
          → numbers (request_messages s.seats driver_number (count + 1) now rest)
          ≡ numbers_from driver_number (count + 1) (length (request_messages s.seats driver_number (count + 1) now rest))
          → numbers (request_at o (record { sender = driver_number; count = count }) now i.asked ++ request_messages s.seats driver_number (count + 1) now rest)
          ≡ numbers_from driver_number count (length (request_at o (record { sender = driver_number; count = count }) now i.asked ++ request_messages s.seats driver_number (count + 1) now rest))
      at None there more = absurd (cc (sym there ∙ slice_get-get_or s.seats i.seat (record { controller = 0; has_sequencer = false; queue = 0 }) within))
      at (Some st) there more = ap (λ (ns : List MsgNo). record { sender = driver_number; count = count } ∷ ns) more
