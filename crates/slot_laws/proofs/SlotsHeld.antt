-- The slots of each buffer with a size are held in each world of a run.
use Rattle.std.proofs.Common.{◌≡◌, ◌<◌, ◌+◌, ◌-◌, ◌==◌, ℕ, zero, suc, Bool, true, false, cond, List, [], ◌∷◌, Option, Some, eq-eqb, get_or, length, refl, sym, ap, subst, arith, slice_get}
use Rattle.std.specs.Prelude.{is_some}
use Rattle.std.specs.List.{find}
use Rattle.std.specs.Option.{option_map}
use Rattle.std.proofs.lemmas.Bool.{and_from}
use Rattle.std.proofs.lemmas.Option.{slice_get-get_or}
use Rattle.run_journal.specs.declared.entry.Entry.{Entry}
use Rattle.run_journal.specs.declared.event.Event.{Event}
use Rattle.ctl_face.specs.declared.parcel.Parcel.{Parcel}
use Rattle.ctl_face.specs.declared.routes.Routes.{Routes}
use Rattle.ctl_face.specs.Prelude.{Ctl, IsSlot, is_slot_of, lent_at, slot_buffer, slot_receiver, slot_size}
use Rattle.sequencer.specs.Prelude.{Drive, Seat}
use Rattle.protocol_runs.specs.Prelude.{FitsRun, HasSeats, IsMeaning, IsRun, IsSetting, Meaning, Place, Rules, Setting, SuitsReceiver, World, rules}
use Rattle.protocol_runs.proofs.Controllers.{below-count}
use Rattle.protocol_runs.proofs.Driver.{IsDriver}
use Rattle.protocol_runs.proofs.Fitting as fitting_runs
use Rattle.protocol_runs.proofs.Premises as own
use Rattle.slot_laws.specs.Prelude.{SlotsHold, TakesFreeSlots, credits_held, has_size, messages_at}
use Rattle.slot_laws.proofs.Settling.{arrived_are_held}
use Rattle.slot_laws.proofs.SlotRuns.{held_along}

-- an item that passes a test is found
found : {X Y : Type 0} (p : X → Bool) (f : X → Y) (xs : List X) (k : ℕ) (d : X) → k < length xs → p (get_or xs k d) ≡ true → is_some (option_map f (find p xs)) ≡ true
found p f [] k d within is = absurd (omega arith)
found p f (x ∷ xs) zero d within is = ap (λ (b : Bool). is_some (option_map f (cond b (Some x) (find p xs)))) is
found p f (x ∷ xs) (suc k) d within is = by (p x) (found p f xs k d (omega arith) is)
  where
    by : (b : Bool) → is_some (option_map f (find p xs)) ≡ true → is_some (option_map f (cond b (Some x) (find p xs))) ≡ true
    by true rest = refl
    by false rest = rest

-- each buffer that is listed has a size
pub sizes_found : (routes : Routes) (k : ℕ) (d : ℕ × ℕ × ℕ) → k < length routes.slots → has_size routes (slot_receiver (get_or routes.slots k d)) (slot_buffer (get_or routes.slots k d)) ≡ true
sizes_found routes k d within =
    let slot : ℕ × ℕ × ℕ = get_or routes.slots k d in
    let r = slot_receiver slot in
    let b = slot_buffer slot in
    found (is_slot_of r b) slot_size routes.slots k d within
    (and_from (slot_receiver slot == r) (slot_buffer slot == b) (eq-eqb (slot_receiver slot) r refl) (eq-eqb (slot_buffer slot) b refl))

module _ {D : Type 0} (drive : D → List Seat → ℕ → Drive D) (needs : D → ℕ → ℕ) (least : D → ℕ) (driver : IsDriver drive needs least)
    (p : Meaning) (s : Setting D) (means : IsMeaning p) (is : IsSetting least s) (takes : TakesFreeSlots s (rules p drive s)) where
  abbrev R : Rules Ctl Parcel D
  R = rules p drive s

  pub slots_held : (history : List Event) (w : World Ctl D) (journal : List Entry) → IsRun R history w journal → SlotsHold s w
  slots_held history w journal run c x at k d within =
      let slot : ℕ × ℕ × ℕ = get_or s.routes.slots k d in
      let r = slot_receiver slot in
      let b = slot_buffer slot in
      let there : IsSlot s.machines s.ranges slot = is.routes.slots k d within in
      let below = below-count s least is r there.machine there.of_machine in
      let fits = fitting_runs.world-fits R (FitsRun s) (SuitsReceiver s) (HasSeats s least) (own.sound p drive needs least s means driver is) history w journal run in
      let inside : r < length w.places = omega (arith, below, fits.count) in
      let to : Place Ctl = get_or w.places r x in
      let at_r : slice_get w.places r ≡ Some to = slice_get-get_or w.places r x inside in
      let h =
      held_along p drive needs least s means driver is r b (slot_size slot) (sizes_found s.routes k d within)
      (λ i now y fit note acts copies after fired. takes i now y fit note acts copies after fired k d within) history w journal run c x to at at_r in
      let few = arrived_are_held x.controller.mail.credits r b w.now in
      record {
        used = subst (λ (o : Option (Place Ctl)). lent_at x.controller.mail.lent r b ≡ credits_held x.controller.mail.credits r b + messages_at o c b) (sym at_r) h.used;
        within = h.within;
        free = (let used = h.used in omega arith);
      }
