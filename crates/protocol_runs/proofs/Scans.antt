-- What a scan that fired leaves, and what it has sent.
use Rattle.std.proofs.Common.{◌≡◌, ◌<◌, ◌≤◌, ◌+◌, ℕ, List, [], ◌∷◌, Option, All, IsTrue, slice_get, map, length, refl, sym, ap, subst, ◌∙◌, arith}
use Rattle.std.specs.Prelude.{count_by}
use Rattle.std.proofs.lemmas.List.Elements.{All-weaker}
use Rattle.ruby_value.specs.Prelude.{has_mark}
use Rattle.ruby_value.specs.declared.message.Delivery.{Delivery}
use Rattle.ruby_value.specs.declared.message.Message.{Message}
use Rattle.ruby_value.specs.declared.message.Sent.{Sent}
use Rattle.ruby_value.specs.declared.setup.MachineSetup.{MachineSetup}
use Rattle.protocol_runs.specs.Premises as runs
use Rattle.protocol_runs.specs.RunRules as runs_rules
use Rattle.protocol_runs.specs.Prelude.{Rules, delivery_numbers, IsSetting, FitsRun, MessageSuits, SuitsReceiver, actor_of, setup_of, IsMeaning, IsScanOf, Meaning, acts_told, mailed, rules, scan_by, scan_of, Setting}
use Rattle.ctl_face.specs.declared.parcel.Credit.{Credit}
use Rattle.ctl_face.specs.declared.parcel.Parcel.{Parcel}
use Rattle.ctl_face.specs.declared.parcel.Parcel.TheVariants as parcel
use Rattle.ctl_face.specs.Prelude.{numbers_in, with_one_fired, Ctl, InboxMessage, Fits, IsLawful, FitsReceiver, IsCreditFor, IsInRun, Actor, LocalView, SameScan, TakesFields, credits_among, messages_among, scan_view}
use Rattle.ctl_face.proofs.Betweens.{fired_keeps}
use Rattle.ctl_face.proofs.LawfulAfter.{scan_begins}
use Rattle.ctl_face.proofs.OwnBuffers.{fit_each}
use Rattle.acts.specs.Prelude.{AreCreditsMarked, AreMarked, IsMarked, IsLeft, HasMailed, IsPosted}
use Rattle.acts.specs.Mailed as mailed_acts
use Rattle.acts.proofs.Left.{left_copies, left_counts, left_lawful, left_mailed, left_marked, left_marks, left_scan}
use Rattle.sequencer.specs.Drive as own
use Rattle.sequencer.specs.Prelude.{Seat}
use Rattle.protocol_runs.proofs.Parcels.{all-parcels, numbers-among}
use Rattle.protocol_runs.proofs.Controllers.{IsOne, below-count, controller-is, count-is, lawful-machine, one-by, one-of, setup-is, some-and, and-some}

pub maps-join : {X Y Z : Type 0} (f : Y → Z) (g : X → Y) (xs : List X) → map f (map g xs) ≡ map (λ x. f (g x)) xs
maps-join f g [] = refl
maps-join f g (x ∷ xs) = ap (λ zs. f (g x) ∷ zs) (maps-join f g xs)

all-both : {X : Type 0} (P Q : X → Type 0) (xs : List X) → All P xs → All Q xs → All (λ x. P x × Q x) xs
all-both P Q xs first second = λ k d within. (first k d within, second k d within)

-- what a local of the same scan has kept, by what the scan began with
module _ (v w : LocalView) (same : SameScan v w) where
  fits-still : Fits w.machine w.actor.me w.ctl w.now → Fits v.machine v.actor.me w.ctl v.now
  fits-still fits =
      subst (λ (m : MachineSetup). Fits m v.actor.me w.ctl v.now) same.machine
      (subst (λ (a : Actor). Fits w.machine a.me w.ctl v.now) same.actor (subst (λ (n : ℕ). Fits w.machine w.actor.me w.ctl n) same.now fits))

  moves-still : mailed_acts.MovesMail w.actor.me w.start.mail w.acts w.ctl.mail → mailed_acts.MovesMail v.actor.me v.start.mail w.acts w.ctl.mail
  moves-still moves =
      subst (λ (a : Actor). mailed_acts.MovesMail a.me v.start.mail w.acts w.ctl.mail) same.actor
      (subst (λ (x : Ctl). mailed_acts.MovesMail w.actor.me x.mail w.acts w.ctl.mail) same.start moves)

  posted-still : All (IsPosted w.actor.me w.now) (messages_among w.acts.posted) → All (IsPosted v.actor.me v.now) (messages_among w.acts.posted)
  posted-still posted =
      subst (λ (a : Actor). All (IsPosted a.me v.now) (messages_among w.acts.posted)) same.actor
      (subst (λ (n : ℕ). All (IsPosted w.actor.me n) (messages_among w.acts.posted)) same.now posted)

  credits-still : All (IsCreditFor w.actor w.now) (credits_among w.acts.posted) → All (IsCreditFor v.actor v.now) (credits_among w.acts.posted)
  credits-still posted =
      subst (λ (a : Actor). All (IsCreditFor a v.now) (credits_among w.acts.posted)) same.actor
      (subst (λ (n : ℕ). All (IsCreditFor w.actor n) (credits_among w.acts.posted)) same.now posted)

module _ {D : Type 0} (p : Meaning) (drive : D → List Seat → ℕ → own.Drive D) (least : D → ℕ) (s : Setting D) (is : IsSetting least s) where
  abbrev R : Rules Ctl Parcel D
  R = rules p drive s

  -- the local in which a scan of a controller begins
  abbrev pub begun : ℕ → MachineSetup → Ctl → ℕ → LocalView
  begun c m x now = scan_view m (actor_of s c) now x

  -- a controller that fits, with its machine
  pub record Fitting (c : ℕ) (x : Ctl) (now : ℕ) : Type 0 where
    pub setup : MachineSetup
    pub one : IsOne s c setup
    pub fits : Fits setup c x now
    pub marked : AreMarked now x.mail.marks x.mail.inbox
    pub credits_marked : AreCreditsMarked now x.mail.marks x.mail.credits
    pub few : x.fired ≤ s.limit
    pub bound : now ≤ s.cycles

  pub fitting : (c : ℕ) (x : Ctl) (now : ℕ) → FitsRun s c x now → Fitting c x now
  fitting c x now fits =
      let (m, there, holds) = and-some (λ (m : MachineSetup). Fits m c x now) (setup_of s c) fits.fits in
      record { setup = m; one = one-of s c m there; fits = holds; marked = fits.marked; credits_marked = fits.credits_marked; few = fits.few; bound = fits.bound }

  pub fits-run : (c : ℕ) (x : Ctl) (now : ℕ) (m : MachineSetup) → IsOne s c m → Fits m c x now → AreMarked now x.mail.marks x.mail.inbox → AreCreditsMarked now x.mail.marks x.mail.credits
      → x.fired ≤ s.limit → now ≤ s.cycles → FitsRun s c x now
  fits-run c x now m one fits marked credits few bound =
      record { fits = some-and (λ (setup : MachineSetup). Fits setup c x now) (setup_of s c) m (setup-is s c m one) fits; marked = marked; credits_marked = credits; few = few; bound = bound }

  -- its scan, as the protocol has it
  pub scan-is : (c : ℕ) (x : Ctl) (now : ℕ) (m : MachineSetup) (one : IsOne s c m) → R.scan c x now ≡ p.scan one.machine (begun c m x now) s.limit
  scan-is c x now m one =
      ap (λ (o : Option ℕ). scan_of p drive s c x now o) one.found ∙ ap (λ (o : Option MachineSetup). scan_by p drive s c x now one.machine o) one.there

  pub scan-of : IsMeaning p → (c : ℕ) (x : Ctl) (now : ℕ) (m : MachineSetup) (one : IsOne s c m)
      → IsScanOf (begun c m x now) s.limit (p.has_row one.machine) (R.scan c x now)
  scan-of means c x now m one =
      subst (IsScanOf (begun c m x now) s.limit (p.has_row one.machine)) (sym (scan-is c x now m one)) (means one.machine m (actor_of s c) now s.limit x)

  module _ (c : ℕ) (x : Ctl) (now : ℕ) (fit : Fitting c x now) where
    abbrev V : LocalView
    V = begun c fit.setup x now

    pub lawful : IsLawful V
    lawful =
        scan_begins fit.setup (actor_of s c) now x (lawful-machine s least is c fit.setup fit.one)
        (fit_each s.machines s.ranges fit.setup (actor_of s c) (controller-is s least is c fit.setup fit.one)) (omega (arith, fit.bound, is.cycles)) fit.fits

    in-run : IsInRun s.machines s.ranges V
    in-run = record { controller = controller-is s least is c fit.setup fit.one; lawful = lawful }

    module _ (w : LocalView) (left : IsLeft V w) where
      same : SameScan V w
      same = left_scan V w left

      pub left-fits : Fits fit.setup c (with_one_fired w.ctl) now
      left-fits = let after = left_lawful V w left lawful in fired_keeps fit.setup c now w.ctl (fits-still V w same after.scan.fits)

      after-marked : IsMarked w
      after-marked = left_marked V w left (record { arrivals = fit.marked; credits = fit.credits_marked; next = λ again. absurd (cc again) })

      pub left-marked : AreMarked now w.ctl.mail.marks w.ctl.mail.inbox
      left-marked = subst (λ (n : ℕ). AreMarked n w.ctl.mail.marks w.ctl.mail.inbox) same.now after-marked.arrivals

      pub left-credits : AreCreditsMarked now w.ctl.mail.marks w.ctl.mail.credits
      left-credits = subst (λ (n : ℕ). AreCreditsMarked n w.ctl.mail.marks w.ctl.mail.credits) same.now after-marked.credits

      pub left-few : x.fired < s.limit → (with_one_fired w.ctl).fired ≤ s.limit
      left-few few = let counts = left_counts V w left in omega (arith, few, counts.fired)

      pub left-later : (cycle : ℕ) → IsTrue (has_mark x.mail.marks cycle) → IsTrue (has_mark w.ctl.mail.marks cycle)
      left-later = let marks = left_marks V w left in marks.stay

      pub left-awake : has_mark w.ctl.mail.marks now ≡ has_mark x.mail.marks now
      left-awake = let marks = left_marks V w left in marks.none_due now (omega arith)

      mailed-left : HasMailed w
      mailed-left = left_mailed V w left lawful

      posted : All (λ (d : Delivery Message). IsPosted c now d × FitsReceiver s.machines s.ranges d) (messages_among w.acts.posted)
      posted =
          all-both (IsPosted c now) (FitsReceiver s.machines s.ranges) (messages_among w.acts.posted) (posted-still V w same mailed-left.posted)
          (left_copies V w left s.machines s.ranges in-run)

      posted-credits : All (IsCreditFor (actor_of s c) now) (credits_among w.acts.posted)
      posted-credits = credits-still V w same mailed-left.credits

      suits : (d : Delivery Message) → IsPosted c now d × FitsReceiver s.machines s.ranges d → MessageSuits s d.receiver d.message now
      suits d (from, fits) =
          let (m, there, takes) = and-some (λ (m : MachineSetup). TakesFields m.buffers d.message.buffer d.message.fields) (slice_get s.machines fits.machine) fits.takes in
          let one = one-by s least is d.receiver fits.machine m fits.of_machine there in
          record {
            other = λ own. from.other (sym own ∙ from.sender);
            takes = some-and (λ (setup : MachineSetup). TakesFields setup.buffers d.message.buffer d.message.fields) (setup_of s d.receiver) m (setup-is s d.receiver m one) takes;
            later = from.later;
            not_recycled = from.not_recycled;
          }

      pub copies-suit : All (λ (d : Delivery Parcel). SuitsReceiver s d.receiver d.message now) w.acts.posted
      copies-suit =
          all-parcels (λ (d : Delivery Message). IsPosted c now d × FitsReceiver s.machines s.ranges d) (IsCreditFor (actor_of s c) now) (λ receiver p. SuitsReceiver s receiver p now)
          suits (λ d for. record { other = λ own. for.to_other (sym own ∙ for.of_this); later = omega (arith, for.arrival) }) w.acts.posted posted posted-credits

      have-receivers : All (λ (d : Delivery Parcel). d.receiver < length R.controllers) w.acts.posted
      have-receivers =
          all-parcels (λ (d : Delivery Message). IsPosted c now d × FitsReceiver s.machines s.ranges d) (IsCreditFor (actor_of s c) now) (λ receiver p. receiver < length R.controllers)
          (λ d (from, fits). below-count s least is d.receiver fits.machine fits.of_machine)
          (λ d for. (let all = is.routes.receiving in omega (arith, for.to_controller, count-is s least is, all.all_rows))) w.acts.posted posted posted-credits

      numbers-in : (inbox : List InboxMessage) → map (λ (o : runs_rules.Mailed). o.number) (map mailed inbox) ≡ numbers_in inbox
      numbers-in inbox = maps-join (λ (o : runs_rules.Mailed). o.number) mailed inbox

      pub moves : runs.MovesMail R c x (acts_told w.acts) w.acts.posted (with_one_fired w.ctl)
      moves =
          let has = moves-still V w same mailed-left.moves in
          record {
            moved = λ f.
                ap (λ (k : ℕ). k + count_by f (map (λ (n : Sent). n.number) w.acts.sent)) (ap (count_by f) (numbers-in x.mail.inbox))
                ∙ has.moved f
                ∙ sym (ap (λ (k : ℕ). count_by f w.acts.consumed + k + count_by f (numbers_in w.ctl.mail.inbox)) (ap (count_by f) (numbers-among w.acts.posted)))
                ∙ sym (ap (λ (k : ℕ). count_by f w.acts.consumed + count_by f (delivery_numbers R w.acts.posted) + k) (ap (count_by f) (numbers-in w.ctl.mail.inbox)));
            numbers = has.numbers;
            sent = has.sent;
            receivers = have-receivers;
          }
