-- What holds of a controller holds after each act between its scans.
use Rattle.std.proofs.Common.{◌≡◌, ℕ, ◌+◌, ◌*◌, ◌^◌, ◌<◌, ◌≤◌, Bool, true, false, IsTrue, IsSomeAnd, List, [], ◌∷◌, refl, arith, Option, None, Some, slice_get}
use Rattle.std.proofs.lemmas.List.Elements.{All-head, All-map, All-tail, All-weaker}
use Rattle.std.specs.FinMap as map
use Rattle.std.specs.List.{All}
use Rattle.std.specs.Option.{option_map}
use Rattle.ruby_value.specs.declared.asked.Answer.{Answer}
use Rattle.ruby_value.specs.declared.asked.Asked.{Asked}
use Rattle.ruby_value.specs.declared.message.Message.{Message}
use Rattle.ruby_value.specs.declared.setup.BufferSetup.{BufferSetup}
use Rattle.ruby_value.specs.declared.setup.MachineSetup.{MachineSetup}
use Rattle.ruby_value.specs.Prelude.{has_kinds, rest_of, Requests, FitsRequests, IsRequest}
use Rattle.ruby_value.proofs.Ordered.{AllPairs-tail}
use Rattle.ctl_face.specs.declared.parcel.Credit.{Credit}
use Rattle.ctl_face.specs.declared.parcel.Lent.{Lent}
use Rattle.ctl_face.specs.declared.parcel.Parcel.TheVariants as parcel
use Rattle.ctl_face.specs.Prelude.{settled, with_parcel, with_parcel_arrival, DriverAct, Takes, Issues, IsDriverAct, after_driver_acts, at_cycle, with_one_fired, with_stop, with_arrival, with_request, with_wake_up, without_first_answer, Ctl, Fits, FitsSequencer, ScanFits, LocalView, copy_limit}
use Rattle.ctl_face.proofs.Callbacks.{Outstanding}
use Rattle.ctl_face.proofs.MailKept.{arrived_fits, credit_fits, mark_fits}
use Rattle.ctl_face.proofs.Maps.{insert_keeps}
use Rattle.ctl_face.proofs.Marks.{IsStrictlyIncreasing-marks_from}

module _ (machine : MachineSetup) (me now : ℕ) where
  pub arrival_keeps : (ctl : Ctl) (m : Message) → IsSomeAnd (slice_get machine.buffers m.buffer) (λ (s : BufferSetup). IsTrue (has_kinds s.kinds m.fields)) → ¬ (m.number.sender ≡ me) → Fits machine me ctl now → Fits machine me (with_arrival ctl m) now
  arrival_keeps ctl m takes other fits = record {
    tables = fits.tables;
    mail = arrived_fits machine.buffers me now ctl.mail m (record { fields = takes; own_number = λ own. absurd (other own); line = tt }) fits.mail;
    sequencer = fits.sequencer;
  }

  pub wake_up_keeps : (ctl : Ctl) (cycle : ℕ) → Fits machine me ctl now → Fits machine me (with_wake_up ctl cycle) now
  wake_up_keeps ctl cycle fits = record {
    tables = fits.tables;
    mail = mark_fits machine.buffers me now ctl.mail cycle fits.mail;
    sequencer = fits.sequencer;
  }

  pub credit_keeps : (ctl : Ctl) (c : Credit) → Fits machine me ctl now → Fits machine me (with_parcel_arrival ctl (parcel.Credit c)) now
  credit_keeps ctl c fits =
      wake_up_keeps (with_parcel ctl (parcel.Credit c)) c.arrival
      (record { tables = fits.tables; mail = credit_fits machine.buffers me now ctl.mail c fits.mail; sequencer = fits.sequencer })

  pub fired_keeps : (ctl : Ctl) → Fits machine me ctl now → Fits machine me (with_one_fired ctl) now
  fired_keeps ctl fits = record { tables = fits.tables; mail = fits.mail; sequencer = fits.sequencer }

  pub halted_keeps : (ctl : Ctl) → Fits machine me ctl now → Fits machine me (with_stop ctl) now
  halted_keeps ctl fits = record { tables = fits.tables; mail = fits.mail; sequencer = fits.sequencer }

  with_sequencer : (ctl : Ctl) (requests : Option Requests) → FitsSequencer machine.has_sequencer requests → Fits machine me ctl now → Fits machine me (record ctl { sequencer = requests }) now
  with_sequencer ctl requests here fits = record { tables = fits.tables; mail = fits.mail; sequencer = here }

  pub request_keeps : (ctl : Ctl) (asked : Asked) → IsRequest asked → Fits machine me ctl now → Fits machine me (with_request ctl asked) now
  request_keeps ctl asked is fits = with_sequencer ctl (with_request ctl asked).sequencer (requested machine.has_sequencer ctl.sequencer fits.sequencer) fits
    where
      requested : (has : Bool) (o : Option Requests) → FitsSequencer has o → FitsSequencer has (option_map (λ (r : Requests). record r { outstanding = map.insert r.outstanding asked.line asked }) o)
      requested false None here = tt
      requested true (Some r) here = record {
        outstanding = insert_keeps Outstanding r.outstanding asked.line asked here.outstanding (refl, is);
        finished = here.finished;
        finished_ascend = here.finished_ascend;
      }
      requested false (Some r) here = absurd here
      requested true None here = absurd here

  rest_fits : (r : Requests) → FitsRequests r → (answers : List Answer) → r.finished ≡ answers → FitsRequests (record r { finished = rest_of r.finished })
  rest_fits r here [] is = rw is (record { outstanding = here.outstanding; finished = rw is at here.finished; finished_ascend = rw is at here.finished_ascend })
  rest_fits r here (a ∷ rest) is =
      rw is (record {
        outstanding = here.outstanding;
        finished = All-tail (λ (x : Answer). IsRequest x.asked) a rest (rw is at here.finished);
        finished_ascend = AllPairs-tail (λ (x y : Answer). x.asked.line ≤ y.asked.line) a rest (rw is at here.finished_ascend);
      })

  pub answer_keeps : (ctl : Ctl) → Fits machine me ctl now → Fits machine me (without_first_answer ctl) now
  answer_keeps ctl fits = with_sequencer ctl (without_first_answer ctl).sequencer (taken machine.has_sequencer ctl.sequencer fits.sequencer) fits
    where
      taken : (has : Bool) (o : Option Requests) → FitsSequencer has o → FitsSequencer has (option_map (λ (r : Requests). record r { finished = rest_of r.finished }) o)
      taken false None here = tt
      taken true (Some r) here = rest_fits r here r.finished refl
      taken false (Some r) here = absurd here
      taken true None here = absurd here

pub driver_keeps : (acts : List DriverAct) → All IsDriverAct acts → (machine : MachineSetup) (me now : ℕ) (ctl : Ctl) → Fits machine me ctl now
    → Fits machine me (after_driver_acts ctl acts) now
driver_keeps [] all machine me now ctl fits = fits
driver_keeps (Takes ∷ acts) all machine me now ctl fits =
    driver_keeps acts (All-tail IsDriverAct Takes acts all) machine me now (without_first_answer ctl) (answer_keeps machine me now ctl fits)
driver_keeps (Issues asked ∷ acts) all machine me now ctl fits =
    driver_keeps acts (All-tail IsDriverAct (Issues asked) acts all) machine me now (with_request ctl asked)
    (request_keeps machine me now ctl asked (All-head IsDriverAct (Issues asked) acts all) fits)

pub driver_mail : (acts : List DriverAct) (ctl : Ctl) → (after_driver_acts ctl acts).mail ≡ ctl.mail
driver_mail [] ctl = refl
driver_mail (Takes ∷ acts) ctl = driver_mail acts (without_first_answer ctl)
driver_mail (Issues asked ∷ acts) ctl = driver_mail acts (with_request ctl asked)

more : (n old new copies : ℕ) → n ≤ copy_limit * old + copies → copies ≤ copy_limit → old < new → n ≤ copy_limit * new + 0
more n old new copies first second third = omega arith

pub later_fits : (machine : MachineSetup) (me old now : ℕ) (ctl : Ctl) → old ≤ now → Fits machine me ctl old → Fits machine me ctl now
later_fits machine me old now ctl later fits =
    let mail = fits.mail in
    record {
      tables = fits.tables;
      mail = record {
        inbox_ascends = mail.inbox_ascends;
        messages = mail.messages;
        marks_ascend = mail.marks_ascend;
        networks = mail.networks;
        copies = mail.copies;
        sent = (let before = mail.sent in omega arith);
        drawn = (let before = mail.drawn in omega arith);
        lent = mail.lent;
      };
      sequencer = fits.sequencer;
    }

pub begun_keeps : (machine : MachineSetup) (me old now : ℕ) (ctl : Ctl) → old < now → Fits machine me ctl old → Fits machine me (at_cycle ctl now) now
begun_keeps machine me old now ctl later fits = record {
  tables = fits.tables;
  mail = record {
    inbox_ascends = fits.mail.inbox_ascends;
    messages = fits.mail.messages;
    marks_ascend = IsStrictlyIncreasing-marks_from now ctl.mail.marks fits.mail.marks_ascend;
    networks = fits.mail.networks;
    copies = omega arith;
    sent = more ctl.mail.sent old now ctl.mail.copies fits.mail.sent fits.mail.copies later;
    drawn = more ctl.mail.drawn old now ctl.mail.copies fits.mail.drawn fits.mail.copies later;
    lent = All-map (λ (l : Lent). l.count ≤ ctl.mail.sent) (settled ctl.mail.credits now) ctl.mail.lent
        (All-weaker (λ (l : Lent). l.count ≤ ctl.mail.sent) (λ (l : Lent). (settled ctl.mail.credits now l).count ≤ ctl.mail.sent) (λ l below. omega arith) ctl.mail.lent fits.mail.lent);
  };
  sequencer = fits.sequencer;
}

few : (n now copies : ℕ) → n ≤ copy_limit * now + copies → copies ≤ copy_limit → now ≤ 10 ^ 12 → n + copy_limit < 2 ^ 64
few n now copies first second third = omega arith

pub numbers_left : (v : LocalView) → ScanFits v → (v.ctl.mail.sent + copy_limit < 2 ^ 64) × (v.ctl.mail.drawn + copy_limit < 2 ^ 64)
numbers_left v lawful =
    let mail = lawful.fits.mail in
    (few v.ctl.mail.sent v.now v.ctl.mail.copies mail.sent mail.copies lawful.now, few v.ctl.mail.drawn v.now v.ctl.mail.copies mail.drawn mail.copies lawful.now)
