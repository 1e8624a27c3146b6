-- The controllers of a protocol, their messages and a driver meet what the laws of runs need.
use Rattle.std.proofs.Common.{◌≡◌, ◌<◌, ◌≤◌, ◌+◌, ◌||◌, ◌⊎◌, ◌==◌, ℕ, Bool, true, false, not, nat_lt, List, [], ◌∷◌, Option, Some, All, IsTrue, inl, inr, ⊎_elim, map, length, refl, sym, ap, cond, subst, ◌∙◌, arith, slice_get}
use Rattle.std.specs.Prelude.{count_by}
use Rattle.std.proofs.lemmas.Bool.{eq-eqb, eqb-true, or_left, or_right}
use Rattle.std.proofs.lemmas.Bool.Decides.{nat_tests}
use Rattle.std.proofs.lemmas.List.Elements.{All-cons, All-filter, All-nil, All-weaker}
use Rattle.std.proofs.lemmas.List.Sums.{sum_by-cons}
use Rattle.std.proofs.lemmas.Option.{same_Some}
use Rattle.ruby_value.specs.Prelude.{has_mark, marks_from, with_mark, number_before, same_number}
use Rattle.ruby_value.specs.declared.fault.Fault.TheVariants.{Invalid}
use Rattle.ruby_value.specs.declared.message.Delivery.{Delivery}
use Rattle.ruby_value.specs.declared.message.Message.{Message}
use Rattle.ruby_value.specs.declared.message.MsgNo.{MsgNo}
use Rattle.ruby_value.specs.declared.setup.MachineSetup.{MachineSetup}
use Rattle.run_journal.specs.declared.entry.FireNote.{FireNote}
use Rattle.run_journal.specs.declared.entry.StopAt.{StopAt}
use Rattle.protocol_runs.specs.Prelude.{times, IsInvalidTry, invalid_at, Acts, Fired, Idle, Rules, Stop, Tried, IsSetting, FitsRun, HasSeats, MessageSuits, SuitsReceiver, setup_of, acts_at, seats_in, IsFired, IsMeaning, Meaning, Rests, acts_told, has_row_of, mailed, rules, Setting}
use Rattle.protocol_runs.specs.Premises as runs
use Rattle.protocol_runs.specs.RunRules as runs_rules
use Rattle.ctl_face.specs.declared.parcel.Credit.{Credit}
use Rattle.ctl_face.specs.declared.parcel.Parcel.{Parcel}
use Rattle.ctl_face.specs.declared.parcel.Parcel.TheVariants as parcel
use Rattle.ctl_face.specs.Prelude.{credits_from, with_parcel_arrival, numbers_in, with_arrival, with_one_fired, with_stop, with_wake_up, Ctl, InboxMessage, Mail, Fits, incoming_message, TakesFields}
use Rattle.ctl_face.specs.Inbox.{with_message}
use Rattle.ctl_face.proofs.Betweens.{arrival_keeps, begun_keeps, credit_keeps, driver_mail, halted_keeps, wake_up_keeps}
use Rattle.ctl_face.proofs.Moved as moved
use Rattle.ctl_face.proofs.OneKey.{marks_from-has, with_mark-has}
use Rattle.ctl_face.proofs.Opened.{opening_fits}
use Rattle.acts.specs.Prelude.{AreCreditsMarked, AreMarked}
use Rattle.acts.proofs.Marks.{credits_marked, credits_put, marked_put, marked_with, marks_kept, marks_with, same_bool}
use Rattle.sequencer.specs.Drive as own
use Rattle.sequencer.specs.Prelude.{Seat}
use Rattle.protocol_runs.proofs.Controllers.{Opened, and-some, lawful-machine, one-by, opened, setup-is}
use Rattle.protocol_runs.proofs.Driver.{IsDriver}
use Rattle.protocol_runs.proofs.Scans.{Fitting, begun, copies-suit, fits-run, fitting, left-awake, left-credits, left-few, left-fits, left-later, left-marked, maps-join, moves, scan-of}
use Rattle.protocol_runs.proofs.Turns.{IsRequestFor, issued-known, requests-known, requests-numbered, served-fits, turn}

-- a later mark doesn't change whether there is one for this cycle
later-mark : (marks : List ℕ) (mark now : ℕ) → now < mark → has_mark (with_mark marks mark) now ≡ has_mark marks now
later-mark marks mark now later = let kept = marks_with marks marks now mark later (marks_kept marks now) in kept.none_due now (omega arith)

mark-beside : (marks : List ℕ) (mark cycle : ℕ) → IsTrue (has_mark marks cycle) → IsTrue (has_mark (with_mark marks mark) cycle)
mark-beside marks mark cycle has = (with_mark-has marks mark cycle).1 (inr has)

marked : (marks : List ℕ) (mark cycle : ℕ) → has_mark (with_mark marks mark) cycle ≡ (mark == cycle || has_mark marks cycle)
marked marks mark cycle =
    same_bool (has_mark (with_mark marks mark) cycle) (mark == cycle || has_mark marks cycle)
    (λ has.
    ⊎_elim
    (λ same. or_left (mark == cycle) (has_mark marks cycle) (eq-eqb mark cycle same))
    (λ old. or_right (mark == cycle) (has_mark marks cycle) old)
    ((with_mark-has marks mark cycle).0 has))
    (λ has. (with_mark-has marks mark cycle).1 (by (mark == cycle) refl has))
  where
    by : (b : Bool) → (mark == cycle) ≡ b → (b || has_mark marks cycle) ≡ true → (mark ≡ cycle) ⊎ IsTrue (has_mark marks cycle)
    by true same has = inl (eqb-true mark cycle same)
    by false other has = inr has

later-left : (marks : List ℕ) (next cycle : ℕ) → next ≤ cycle → has_mark (marks_from next marks) cycle ≡ has_mark marks cycle
later-left marks next cycle later =
    same_bool (has_mark (marks_from next marks) cycle) (has_mark marks cycle)
    (λ has. ((marks_from-has marks next cycle).0 has).1)
    (λ has. (marks_from-has marks next cycle).1 (later, has))

-- as a cycle begins
begun-marked : (marks : List ℕ) (now next : ℕ) (inbox : List InboxMessage) → now < next → AreMarked now marks inbox → AreMarked next (marks_from next marks) inbox
begun-marked marks now next inbox above all =
    All-weaker (λ (o : InboxMessage). now < o.message.arrival → IsTrue (has_mark marks o.message.arrival))
    (λ (o : InboxMessage). next < o.message.arrival → IsTrue (has_mark (marks_from next marks) o.message.arrival))
    (λ o has later. (marks_from-has marks next o.message.arrival).1 (omega (arith, later), has (omega (arith, above, later)))) inbox all

begun-credits : (marks : List ℕ) (now next : ℕ) (credits : List Credit) → now < next → AreCreditsMarked now marks credits → AreCreditsMarked next (marks_from next marks) (credits_from next credits)
begun-credits marks now next credits above all =
    let P : Credit → Type 0 = λ c. next < c.arrival → IsTrue (has_mark (marks_from next marks) c.arrival) in
    All-filter (λ (c : Credit). nat_lt next c.arrival) P credits
    (All-weaker (λ (c : Credit). now < c.arrival → IsTrue (has_mark marks c.arrival)) P
    (λ c has later. (marks_from-has marks next c.arrival).1 (omega (arith, later), has (omega (arith, above, later)))) credits all)

same-own : (a : MsgNo) → moved.one (same_number a) a ≡ 1
same-own a = let same : same_number a a ≡ true = grind (arith, nat_tests) in ap (λ b. cond b 1 0) same

-- a number that isn't in an inbox comes before or after each that is
apart : (a b : MsgNo) → same_number a b ≡ false → number_before a b ≡ not (number_before b a)
apart a b differ = grind (arith, nat_tests, differ)

all-apart : (number : MsgNo) (inbox : List InboxMessage) → times number (numbers_in inbox) ≡ 0
    → All (λ (o : InboxMessage). number_before number o.message.number ≡ not (number_before o.message.number number)) inbox
all-apart number [] none = All-nil (λ (o : InboxMessage). number_before number o.message.number ≡ not (number_before o.message.number number))
all-apart number (o ∷ inbox) none =
    let whole = sum_by-cons (λ n. moved.one (same_number number) n) o.message.number (numbers_in inbox) in
    All-cons (λ (x : InboxMessage). number_before number x.message.number ≡ not (number_before x.message.number number)) o inbox
    (apart number o.message.number (by (same_number number o.message.number) refl whole)) (all-apart number inbox (omega (arith, whole, none)))
  where
    by : (b : Bool) → same_number number o.message.number ≡ b → times number (numbers_in (o ∷ inbox)) ≡ moved.one (same_number number) o.message.number + times number (numbers_in inbox)
        → same_number number o.message.number ≡ false
    by false same whole = same
    by true same whole = let one : moved.one (same_number number) o.message.number ≡ 1 = ap (λ b. cond b 1 0) same in absurd (omega (arith, whole, none, one))

module _ {D : Type 0} (p : Meaning) (drive : D → List Seat → ℕ → own.Drive D) (needs : D → ℕ → ℕ) (least : D → ℕ) (s : Setting D)
    (means : IsMeaning p) (driver : IsDriver drive needs least) (is : IsSetting least s) where
  abbrev R : Rules Ctl Parcel D
  R = rules p drive s

  abbrev Keeps : ℕ → ℕ → Ctl → Ctl → Type 0
  Keeps c now before after = runs.Keeps R (FitsRun s) (SuitsReceiver s) (HasSeats s least) c now before after

  opening-is : (c : ℕ) (x : Ctl) → slice_get R.controllers c ≡ Some x → Opened s.machines s.ranges c x
  opening-is c x there =
      subst (λ (n : ℕ). Opened s.machines s.ranges n x) (omega arith)
      (opened s.machines s.ranges 0 is.routes.total c x is.routes.numbers.numbered there)

  opens : (c : ℕ) (x : Ctl) → slice_get R.controllers c ≡ Some x → FitsRun s c x 0
  opens c x there =
      let o = opening-is c x there in
      let one = one-by s least is c o.machine o.setup o.of_machine o.there in
      fits-run p drive least s is c x 0 o.setup one
      (subst (λ (y : Ctl). Fits o.setup c y 0) (sym o.is) (opening_fits o.setup c 0 (lawful-machine s least is c o.setup one)))
      (subst (λ (y : Ctl). AreMarked 0 y.mail.marks y.mail.inbox) (sym o.is) (All-nil (λ (m : InboxMessage). 0 < m.message.arrival → IsTrue (has_mark [] m.message.arrival))))
      (subst (λ (y : Ctl). AreCreditsMarked 0 y.mail.marks y.mail.credits) (sym o.is) (All-nil (λ (m : Credit). 0 < m.arrival → IsTrue (has_mark [] m.arrival))))
      (let none : x.fired ≡ 0 = ap (λ (y : Ctl). y.fired) o.is in omega (arith, none)) (omega arith)

  module _ (c now : ℕ) (x : Ctl) (fits : FitsRun s c x now) where
    abbrev fit : Fitting p drive least s is c x now
    fit = fitting p drive least s is c x now fits

    -- with another controller of the same machine
    keeps : (after : Ctl) → Fits fit.setup c after now → AreMarked now after.mail.marks after.mail.inbox → AreCreditsMarked now after.mail.marks after.mail.credits → after.fired ≤ s.limit
        → has_mark after.mail.marks now ≡ has_mark x.mail.marks now → ((cycle : ℕ) → IsTrue (has_mark x.mail.marks cycle) → IsTrue (has_mark after.mail.marks cycle))
        → Keeps c now x after
    keeps after here marked credits few awake later = record {
      fits = fits-run p drive least s is c after now fit.setup fit.one here marked credits few fit.bound;
      awake = awake;
      later = λ cycle above has. later cycle has;
    }

    fires : (note : FireNote) (acts : Acts) (copies : List (Delivery Parcel)) (after : Ctl) → (R.scan c x now).outcome ≡ Fired note acts copies after
        → IsFired (begun p drive least s is c fit.setup x now) s.limit acts copies after
    fires note acts copies after fired = let scan = scan-of p drive least s is means c x now fit.setup fit.one in scan.fires note acts copies after fired

    fires-keeps : (acts : Acts) (copies : List (Delivery Parcel)) (after : Ctl) → IsFired (begun p drive least s is c fit.setup x now) s.limit acts copies after
        → Keeps c now x (with_one_fired after) × runs.AllSuit R (FitsRun s) (SuitsReceiver s) (HasSeats s least) now copies
    fires-keeps acts copies after f = (
      keeps (with_one_fired after)
          (subst (λ (y : Ctl). Fits fit.setup c (with_one_fired y) now) (sym f.after_is) (left-fits p drive least s is c x now fit f.local f.left))
          (subst (λ (y : Ctl). AreMarked now y.mail.marks y.mail.inbox) (sym f.after_is) (left-marked p drive least s is c x now fit f.local f.left))
          (subst (λ (y : Ctl). AreCreditsMarked now y.mail.marks y.mail.credits) (sym f.after_is) (left-credits p drive least s is c x now fit f.local f.left))
          (subst (λ (y : Ctl). (with_one_fired y).fired ≤ s.limit) (sym f.after_is) (left-few p drive least s is c x now fit f.local f.left f.few))
          (ap (λ (y : Ctl). has_mark y.mail.marks now) f.after_is ∙ left-awake p drive least s is c x now fit f.local f.left)
          (λ cycle has. subst (λ (y : Ctl). IsTrue (has_mark y.mail.marks cycle)) (sym f.after_is) (left-later p drive least s is c x now fit f.local f.left cycle has)),
      subst (λ (ds : List (Delivery Parcel)). All (λ (d : Delivery Parcel). SuitsReceiver s d.receiver d.message now) ds) (sym f.copies_are)
          (copies-suit p drive least s is c x now fit f.local f.left),
    )

    fires-moves : (acts : Acts) (copies : List (Delivery Parcel)) (after : Ctl) → IsFired (begun p drive least s is c fit.setup x now) s.limit acts copies after
        → runs.MovesMail R c x acts copies (with_one_fired after)
    fires-moves acts copies after f =
        subst (λ (a : Acts). runs.MovesMail R c x a copies (with_one_fired after)) (sym f.acts_are)
        (subst (λ (ds : List (Delivery Parcel)). runs.MovesMail R c x (acts_told f.local.acts) ds (with_one_fired after)) (sym f.copies_are)
        (subst (λ (y : Ctl). runs.MovesMail R c x (acts_told f.local.acts) f.local.acts.posted (with_one_fired y)) (sym f.after_is)
        (moves p drive least s is c x now fit f.local f.left)))

    marked-keeps : (mark : ℕ) → now < mark → Keeps c now x (with_wake_up x mark)
    marked-keeps mark later = keeps (with_wake_up x mark) (wake_up_keeps fit.setup c now x mark fit.fits) (marked_with now mark x.mail.marks x.mail.inbox fit.marked)
        (credits_marked now mark x.mail.marks x.mail.credits fit.credits_marked) fit.few (later-mark x.mail.marks mark now later) (mark-beside x.mail.marks mark)

    rests : (after : Ctl) → (R.scan c x now).outcome ≡ Idle after → Rests (begun p drive least s is c fit.setup x now) after
    rests after idle = let scan = scan-of p drive least s is means c x now fit.setup fit.one in scan.idles after idle

    rest-keeps : (after : Ctl) → Rests (begun p drive least s is c fit.setup x now) after → Keeps c now x after
    rest-keeps after (inl same) = subst (λ (y : Ctl). Keeps c now x y) (sym same) (keeps x fit.fits fit.marked fit.credits_marked fit.few refl (λ cycle has. has))
    rest-keeps after (inr same) = subst (λ (y : Ctl). Keeps c now x y) (sym same) (marked-keeps (now + 1) (omega arith))

    rest-mail : (after : Ctl) → Rests (begun p drive least s is c fit.setup x now) after → runs.KeepsMail R x after
    rest-mail after (inl same) = subst (λ (y : Ctl). runs.KeepsMail R x y) (sym same) (record { mail = refl; sent = refl })
    rest-mail after (inr same) = subst (λ (y : Ctl). runs.KeepsMail R x y) (sym same) (record { mail = refl; sent = refl })

    message-arrives : (m : Message) → MessageSuits s c m now → Keeps c now x (with_arrival x m)
    message-arrives m suits =
        let (setup, there, takes) = and-some (λ (setup : MachineSetup). TakesFields setup.buffers m.buffer m.fields) (setup_of s c) suits.takes in
        let same : setup ≡ fit.setup = same_Some setup fit.setup (sym there ∙ setup-is s c fit.setup fit.one) in
        keeps (with_arrival x m)
        (arrival_keeps fit.setup c now x m (subst (λ (k : MachineSetup). TakesFields k.buffers m.buffer m.fields) same takes) suits.other fit.fits)
        (marked_put now x.mail.marks x.mail.inbox m fit.marked) (credits_marked now m.arrival x.mail.marks x.mail.credits fit.credits_marked) fit.few
        (later-mark x.mail.marks m.arrival now suits.later) (mark-beside x.mail.marks m.arrival)

    arrives : (p : Parcel) → SuitsReceiver s c p now → Keeps c now x (with_parcel_arrival x p)
    arrives (parcel.Message m) suits = message-arrives m suits
    arrives (parcel.Credit credit) suits =
        keeps (with_parcel_arrival x (parcel.Credit credit)) (credit_keeps fit.setup c now x credit fit.fits)
        (marked_with now credit.arrival x.mail.marks x.mail.inbox fit.marked) (credits_put now x.mail.marks x.mail.credits credit fit.credits_marked) fit.few
        (later-mark x.mail.marks credit.arrival now suits.later) (mark-beside x.mail.marks credit.arrival)

    -- what a try of its scan has, by the protocol
    row-is : (state event : ℕ) → R.has_row c state event ≡ p.has_row fit.one.machine state event
    row-is state event = ap (λ (o : Option ℕ). has_row_of p drive s o state event) fit.one.found

    caused : (at : StopAt) → (R.scan c x now).outcome ≡ Stop at → at.fault ≡ Invalid → (t : Tried) × (at ≡ invalid_at t) × IsInvalidTry R c x now t
    caused at stop invalid =
        let scan = scan-of p drive least s is means c x now fit.setup fit.one in
        let (t, same, refused) = scan.caused at stop invalid in
        (t, same, record { tried = refused.tried; no_row = row-is t.state t.event ∙ refused.no_row })

    comes : (t : Tried) → IsInvalidTry R c x now t → (R.scan c x now).outcome ≡ Stop (invalid_at t)
    comes t try =
        let scan = scan-of p drive least s is means c x now fit.setup fit.one in
        scan.comes t (record { tried = try.tried; no_row = sym (row-is t.state t.event) ∙ try.no_row })

  begins : (c now next : ℕ) (x : Ctl) → FitsRun s c x now → now < next → next ≤ s.cycles → FitsRun s c (R.at_cycle x next) next
  begins c now next x fits later within =
      let f = fitting p drive least s is c x now fits in
      fits-run p drive least s is c (R.at_cycle x next) next f.setup f.one (begun_keeps f.setup c now next x later f.fits)
      (begun-marked x.mail.marks now next x.mail.inbox later f.marked)
      (begun-credits x.mail.marks now next x.mail.credits later f.credits_marked) (omega arith) within

  abbrev Asked : D → List Ctl → ℕ → ℕ → Type 0
  Asked d xs now issued = runs.IsAsked R (FitsRun s) (SuitsReceiver s) (HasSeats s least) d xs now issued

  serves : (d : D) (xs : List Ctl) (now issued : ℕ) → Asked d xs now issued → (c : ℕ) (x : Ctl) → slice_get xs c ≡ Some x
      → Keeps c now x ((R.driver_turn d xs now issued).controller_after c x)
  serves d xs now issued asked c x there =
      let same = driver_mail (acts_at s.seats c (turn p drive least s is needs driver d xs now issued asked)) x in
      record {
        fits = served-fits p drive least s is needs driver d xs now issued asked c x (asked.fits c x there);
        awake = ap (λ (mail : Mail). has_mark mail.marks now) same;
        later = λ cycle above has. subst (λ (mail : Mail). IsTrue (has_mark mail.marks cycle)) (sym same) has;
      }

  requests : (d : D) (xs : List Ctl) (now issued : ℕ) → Asked d xs now issued → All (IsRequestFor p drive least s is now) (R.driver_turn d xs now issued).requests
  requests d xs now issued asked = requests-known p drive least s is now issued (turn p drive least s is needs driver d xs now issued asked).issued

  pub sound : runs.IsSound R (FitsRun s) (SuitsReceiver s) (HasSeats s least)
  sound = record {
    opens = opens;
    starts = record { enough = is.enough; bound = omega arith };
    fires = λ c now x fits note acts copies after fired. fires-keeps c now x fits acts copies after (fires c now x fits note acts copies after fired);
    idles = λ c now x fits after idle. rest-keeps c now x fits after (rests c now x fits after idle);
    fills = λ c now x fits full. marked-keeps c now x fits (now + 1) (omega arith);
    stops = λ c now x fits at stop. keeps c now x fits (with_stop x) (let f = fitting p drive least s is c x now fits in halted_keeps f.setup c now x f.fits) fits.marked fits.credits_marked fits.few refl (λ cycle has. has);
    arrives = λ c now x m fits suits. arrives c now x fits m suits;
    begins = begins;
    serves = serves;
    asks = λ d xs now issued asked.
        All-weaker (IsRequestFor p drive least s is now) (λ (e : Delivery Parcel). SuitsReceiver s e.receiver e.message now) (λ e known. known.suits)
        (R.driver_turn d xs now issued).requests (requests d xs now issued asked);
    goes_on = λ d xs now issued next asked later within. record {
      enough = (let leads = asked.leads in let same = driver.lasting d (seats_in s.seats xs) now in omega (arith, same, leads.enough));
      bound = within;
    };
  }

  pub keeps_marks : runs.KeepsMarks R
  keeps_marks = record {
    marked = λ x mark cycle. marked x.mail.marks mark cycle;
    begins = λ x next cycle later. later-left x.mail.marks next cycle later;
  }

  numbers-of : (inbox : List InboxMessage) → map (λ (o : runs_rules.Mailed). o.number) (map mailed inbox) ≡ numbers_in inbox
  numbers-of inbox = maps-join (λ (o : runs_rules.Mailed). o.number) mailed inbox

  takes-mail : (x : Ctl) (p : Parcel) → runs.IsNew R x p → runs.TakesMail R x p (with_parcel_arrival x p)
  takes-mail x (parcel.Credit c) new = record { mail = λ f. omega arith; sent = refl }
  takes-mail x (parcel.Message m) new = record {
    mail = λ f.
        let own : times m.number (m.number ∷ []) ≡ 1 = moved.single (same_number m.number) m.number ∙ same-own m.number in
        let none : times m.number (runs.mail_numbers R x) ≡ 0 = omega (arith, own, new m.number) in
        let all = all-apart m.number x.mail.inbox (sym (ap (times m.number) (numbers-of x.mail.inbox)) ∙ none) in
        ap (count_by f) (numbers-of (with_message x.mail.inbox (incoming_message m)))
        ∙ moved.put f x.mail.inbox (incoming_message m) all
        ∙ ap (λ (n : ℕ). n + count_by f (numbers_in x.mail.inbox)) (sym (moved.single f m.number))
        ∙ ap (λ (n : ℕ). count_by f (m.number ∷ []) + n) (sym (ap (count_by f) (numbers-of x.mail.inbox)));
    sent = refl;
  }

  opens-empty : (c : ℕ) (x : Ctl) → slice_get R.controllers c ≡ Some x → (R.mail x ≡ []) × (R.sent x ≡ 0)
  opens-empty c x there =
      let o = opening-is c x there in
      (ap (λ (y : Ctl). R.mail y) o.is, ap (λ (y : Ctl). R.sent y) o.is)

  pub carries_mail : runs.CarriesMail R (FitsRun s) (SuitsReceiver s) (HasSeats s least)
  carries_mail = record {
    opens = opens-empty;
    fires = λ c now x fits once note acts copies after fired. fires-moves c now x fits acts copies after (fires c now x fits note acts copies after fired);
    idles = λ c now x fits after idle. rest-mail c now x fits after (rests c now x fits after idle);
    marks = λ x cycle. record { mail = refl; sent = refl };
    stops = λ x at. record { mail = refl; sent = refl };
    begins = λ x next. record { mail = refl; sent = refl };
    arrives = λ c now x m fits suits new. takes-mail x m new;
    serves = λ d xs now issued asked c x there.
        let same = driver_mail (acts_at s.seats c (turn p drive least s is needs driver d xs now issued asked)) x in
        record { mail = ap (λ mail. map mailed mail.inbox) same; sent = ap (λ mail. mail.sent) same };
    asks = λ d xs now issued asked.
        requests-numbered p drive least s is now issued (turn p drive least s is needs driver d xs now issued asked).issued
        (issued-known p drive least s is needs driver d xs now issued asked);
    receivers = λ d xs now issued asked.
        All-weaker (IsRequestFor p drive least s is now) (λ (e : Delivery Parcel). e.receiver < length R.controllers) (λ e known. known.receiver)
        (R.driver_turn d xs now issued).requests (requests d xs now issued asked);
  }

  pub reports_invalid : runs.ReportsInvalid R (FitsRun s) (SuitsReceiver s) (HasSeats s least)
  reports_invalid = record {
    caused = λ c now x fits at stop invalid. caused c now x fits at stop invalid;
    comes = λ c now x fits t try. comes c now x fits t try;
  }
