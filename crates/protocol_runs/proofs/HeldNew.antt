-- Messages beside a held controller have numbers that aren't in its inbox, also once it has fired and others have sent it more.
use Rattle.std.proofs.Common.{◌≡◌, ◌≢◌, ◌≤◌, ◌+◌, ℕ, Bool, true, false, None, Some, List, [], ◌∷◌, ◌++◌, All, cond, eqb, length, map, refl, ◌∙◌, ap, subst, slice_get, slice_set, arith, Option, sym}
use Rattle.std.specs.Prelude.{count_by}
use Rattle.std.specs.List.{flat_map}
use Rattle.std.proofs.lemmas.Bool.{eqb-true}
use Rattle.std.proofs.lemmas.List.{append-nil}
use Rattle.std.proofs.lemmas.List.Elements.{All-cons, All-head, All-nil, All-tail, All-append}
use Rattle.ruby_value.specs.declared.message.Delivery.{Delivery}
use Rattle.ruby_value.specs.declared.message.MsgNo.{MsgNo}
use Rattle.ruby_value.specs.declared.message.Sent.{Sent}
use Rattle.ruby_value.specs.Prelude.{same_number}
use Rattle.run_journal.specs.declared.entry.Entry.{Entry}
use Rattle.run_journal.specs.declared.entry.FireNote.{FireNote}
use Rattle.run_journal.specs.declared.event.Event.{Event}
use Rattle.run_journal.specs.declared.event.Event.TheVariants.{Fire}
use Rattle.protocol_runs.specs.Prelude.{Rules, Acts, Fired, Mailed, Place, World, Stepped, step, fired_entry, with_arrival, with_controller, with_moved, delivery_numbers, IsRun, FiredBy, Moves, sent_numbers, sent_in, mail_numbers, CarriesMail, IsNew, IsOnce, IsSound, MovesMail, AreNewFor, MayCome, messages_for, with_arrivals}
use Rattle.protocol_runs.proofs.Steps.{change-steps}
use Rattle.protocol_runs.proofs.Runs.{run-more}
use Rattle.protocol_runs.proofs.Places.{set-at}
use Rattle.protocol_runs.proofs.Fitting.{all-fit}
use Rattle.protocol_runs.proofs.Tallies.{tally, counted, tally-append, tally-map, tally-more, tally-set, tally-within}
use Rattle.protocol_runs.proofs.Accounting.{held, kept-le, mail}
use Rattle.protocol_runs.proofs.Accounted.{kept-along}

-- what is counted of messages for one controller is at most what is counted of all copies
for-one : {M : Type 0} (numbers : M → List MsgNo) (f : MsgNo → Bool) (c : ℕ) (ds : List (Delivery M))
    → tally f (flat_map numbers (messages_for c ds)) ≤ tally f (flat_map (λ (d : Delivery M). numbers d.message) ds)
for-one numbers f c [] = omega arith
for-one {M = M} numbers f c (d ∷ ds) =
    let rest = for-one numbers f c ds in
    let whole = tally-append f (numbers d.message) (flat_map (λ (e : Delivery M). numbers e.message) ds) in
    by (eqb d.receiver c) rest whole
  where
    by : (b : Bool)
        → tally f (flat_map numbers (messages_for c ds)) ≤ tally f (flat_map (λ (e : Delivery M). numbers e.message) ds)
        → tally f (flat_map (λ (e : Delivery M). numbers e.message) (d ∷ ds)) ≡ tally f (numbers d.message) + tally f (flat_map (λ (e : Delivery M). numbers e.message) ds)
        → tally f (flat_map numbers (cond b (d.message ∷ []) [] ++ messages_for c ds)) ≤ tally f (flat_map (λ (e : Delivery M). numbers e.message) (d ∷ ds))
    by true rest whole = omega (arith, rest, whole, tally-append f (numbers d.message) (flat_map numbers (messages_for c ds)))
    by false rest whole = omega (arith, rest, whole)

-- and what holds of each copy at its receiver holds of each message for one
pub suits-for : {M : Type 0} (Suits : ℕ → M → ℕ → Type 0) (now c : ℕ) (ds : List (Delivery M))
    → All (λ (d : Delivery M). Suits d.receiver d.message now) ds → All (λ (m : M). Suits c m now) (messages_for c ds)
suits-for Suits now c [] all = All-nil (λ m. Suits c m now)
suits-for {M = M} Suits now c (d ∷ ds) all =
    let P = λ (e : Delivery M). Suits e.receiver e.message now in
    by (eqb d.receiver c) refl (All-head P d ds all) (suits-for Suits now c ds (All-tail P d ds all))
  where
    by : (b : Bool) → eqb d.receiver c ≡ b → Suits d.receiver d.message now → All (λ (m : M). Suits c m now) (messages_for c ds)
        → All (λ (m : M). Suits c m now) (cond b (d.message ∷ []) [] ++ messages_for c ds)
    by true is first rest =
        All-cons (λ (m : M). Suits c m now) d.message (messages_for c ds) (subst (λ (i : ℕ). Suits i d.message now) (eqb-true d.receiver c is) first) rest
    by false is first rest = rest

module _ {C M D : Type 0} (r : Rules C M D) where
  -- as counts
  abbrev pub brought : (MsgNo → Bool) → List M → ℕ
  brought f ms = tally f (flat_map r.numbers ms)

  pub brought-more : (f : MsgNo → Bool) (ms more : List M) → brought f (ms ++ more) ≡ brought f ms + brought f more
  brought-more f ms more = tally-more f r.numbers ms more

  pub mail-is : (f : MsgNo → Bool) (x : C) → count_by f (mail_numbers r x) ≡ mail r f x
  mail-is f x = counted f (mail_numbers r x) ∙ tally-map f (λ (m : Mailed). m.number) (r.mail x)

  pub new-counted : (x : C) (ms : List M) → AreNewFor r x ms → (number : MsgNo) → brought (same_number number) ms + mail r (same_number number) x ≤ 1
  new-counted x ms new number =
      let f : MsgNo → Bool = same_number number in
      omega (arith, new number, counted f (flat_map r.numbers ms), mail-is f x)

  pub counted-new : (x : C) (ms : List M) → ((number : MsgNo) → brought (same_number number) ms + mail r (same_number number) x ≤ 1) → AreNewFor r x ms
  counted-new x ms few number =
      let f : MsgNo → Bool = same_number number in
      omega (arith, few number, counted f (flat_map r.numbers ms), mail-is f x)

module _ {C M D : Type 0} (r : Rules C M D) (Fits : ℕ → C → ℕ → Type 0) (Suits : ℕ → M → ℕ → Type 0) (Leads : D → ℕ → ℕ → Type 0)
    (sound : IsSound r Fits Suits Leads) (carries : CarriesMail r Fits Suits Leads) where
  -- a controller to which messages with new numbers have come fits, and has them in its inbox
  pub record HaveCome (c now : ℕ) (x : C) (ms : List M) : Type 0 where
    pub fits : Fits c (with_arrivals r x ms) now
    pub mails : (f : MsgNo → Bool) → mail r f (with_arrivals r x ms) ≡ brought r f ms + mail r f x

  come-all : (c now : ℕ) (x : C) (ms : List M) → Fits c x now → All (λ (m : M). Suits c m now) ms → AreNewFor r x ms → HaveCome c now x ms
  come-all c now x [] fits suit new = record { fits = fits; mails = λ f. omega arith }
  come-all c now x (m ∷ ms) fits suit new =
      let P = λ (n : M). Suits c n now in
      let first : P m = All-head P m ms suit in
      let both : (f : MsgNo → Bool) → brought r f (m ∷ ms) ≡ tally f (r.numbers m) + brought r f ms =
      λ f. tally-append f (r.numbers m) (flat_map r.numbers ms) in
      let one : IsNew r x m =
      λ number.
      let f : MsgNo → Bool = same_number number in
      omega (arith, new-counted r x (m ∷ ms) new number, both f, counted f (r.numbers m), mail-is r f x) in
      let takes = carries.arrives c now x m fits first one in
      let more : (f : MsgNo → Bool) → mail r f (with_arrival r x m) ≡ tally f (r.numbers m) + mail r f x =
      λ f. omega (arith, takes.mail f, counted f (r.numbers m), mail-is r f x, mail-is r f (with_arrival r x m)) in
      let keeps = sound.arrives c now x m fits first in
      let rest =
      come-all c now (with_arrival r x m) ms keeps.fits (All-tail P m ms suit)
      (counted-new r (with_arrival r x m) ms
      (λ number. omega (arith, new-counted r x (m ∷ ms) new number, both (same_number number), more (same_number number)))) in
      record { fits = rest.fits; mails = λ f. omega (arith, rest.mails f, both f, more f) }

  pub have-come : (c now : ℕ) (x : C) (ms : List M) → MayCome r Fits Suits c now x ms → HaveCome c now x ms
  have-come c now x ms come = come-all c now x ms come.fits come.suit come.new

  -- no number is in an inbox of a run twice
  pub inbox-once : (history : List Event) (w : World C D) (journal : List Entry) → IsRun r history w journal
      → (d : ℕ) (q : Place C) → slice_get w.places d ≡ Some q → IsOnce r q.controller
  inbox-once history w journal is d q there number =
      let f : MsgNo → Bool = same_number number in
      let kept = kept-along r Fits Suits Leads sound carries history w journal is in
      let within : mail r f q.controller ≤ held r f w.places = tally-within (λ (m : Mailed). f m.number) (λ (p : Place C). r.mail p.controller) w.places d q there in
      omega (arith, within, kept.moved f, kept-le r w journal kept number, mail-is r f q.controller)

  -- Where a controller fires, the numbers of its copies are in no inbox, its own after it included.
  module _ (history : List Event) (w : World C D) (journal : List Entry) (is : IsRun r history w journal) (running : w.verdict ≡ None)
      (worker d : ℕ) (q : Place C) (there : slice_get w.places d ≡ Some q) (holds : q.holder ≡ Some worker)
      (note : FireNote) (acts : Acts) (copies : List (Delivery M)) (after : C) (fired : (r.scan d q.controller w.now).outcome ≡ Fired note acts copies after) where
    abbrev entry : Entry
    entry = fired_entry w.now d note acts

    abbrev pub fired-step : Stepped C D
    fired-step = record {
      world = with_moved r w d (record { place = with_controller q (r.with_one_fired after); copies = copies; entry = Some entry });
      entry = Some entry;
    }

    abbrev pub fired-places : List (Place C)
    fired-places = slice_set w.places d (with_controller q (r.with_one_fired after))

    pub fires : step r (length journal) w (Fire worker d) ≡ Some fired-step
    fires =
        change-steps r (length journal) w (Fire worker d) fired-step running
        (Moves d q (Fire worker d) (record { place = with_controller q (r.with_one_fired after); copies = copies; entry = Some entry }) there
        (FiredBy worker note acts copies after holds fired))

    pub fired-moves : MovesMail r d q.controller acts copies (r.with_one_fired after)
    fired-moves =
        carries.fires d w.now q.controller (all-fit r Fits Suits Leads sound history w journal is d q there)
        (inbox-once history w journal is d q there) note acts copies after fired

    pub copies-new : (number : MsgNo) → tally (same_number number) (delivery_numbers r copies) + held r (same_number number) fired-places ≤ 1
    copies-new number =
        let f : MsgNo → Bool = same_number number in
        let own : List MsgNo = map (λ (s : Sent). s.number) acts.sent in
        let kept = kept-along r Fits Suits Leads sound carries history w journal is in
        let onward = run-more r history (Fire worker d) w journal fired-step is fires in
        let after_kept = kept-along r Fits Suits Leads sound carries (history ++ Fire worker d ∷ []) fired-step.world (journal ++ entry ∷ []) onward in
        let few : tally f (sent_numbers (journal ++ entry ∷ [])) ≤ 1 = kept-le r fired-step.world (journal ++ entry ∷ []) after_kept number in
        let more = tally-more f sent_in journal (entry ∷ []) in
        let sends : tally f (sent_numbers (entry ∷ [])) ≡ tally f own = ap (tally f) (append-nil own) in
        let set =
        tally-set (λ (m : Mailed). f m.number) (λ (p : Place C). r.mail p.controller) w.places d q (with_controller q (r.with_one_fired after)) there in
        let moves = fired-moves in
        omega (arith, few, more, sends, set, moves.moved f, kept.moved f, mail-is r f q.controller, mail-is r f (r.with_one_fired after), counted f own, counted f acts.consumed, counted f (delivery_numbers r copies))

    -- so what comes of them to one controller, which has it then beside what came before
    pub still-new : (c : ℕ) (x : C) (ms : List M) (p : Place C) → slice_get fired-places c ≡ Some p
        → ((f : MsgNo → Bool) → mail r f p.controller ≡ brought r f ms + mail r f x)
        → AreNewFor r x (ms ++ messages_for c copies)
    still-new c x ms p at mails =
        counted-new r x (ms ++ messages_for c copies)
        (λ number.
        let f : MsgNo → Bool = same_number number in
        let within : mail r f p.controller ≤ held r f fired-places = tally-within (λ (m : Mailed). f m.number) (λ (s : Place C). r.mail s.controller) fired-places c p at in
        omega (arith, within, copies-new number, mails f, brought-more r f ms (messages_for c copies), for-one r.numbers f c copies))

    -- what comes of them to another controller may come to it
    pub come-more : (c : ℕ) (p : Place C) (x : C) (ms : List M) → c ≢ d → slice_get w.places c ≡ Some p → p.controller ≡ with_arrivals r x ms
        → MayCome r Fits Suits c w.now x ms → MayCome r Fits Suits c w.now x (ms ++ messages_for c copies)
    come-more c p x ms apart at is_with come =
        let have = have-come c w.now x ms come in
        let both = sound.fires d w.now q.controller (all-fit r Fits Suits Leads sound history w journal is d q there) note acts copies after fired in
        let still : slice_get fired-places c ≡ Some p =
        set-at (λ (o : Option (Place C)). o ≡ Some p) w.places d c q (with_controller q (r.with_one_fired after)) there
        (λ same. absurd (apart (sym same))) (λ other. at) in
        record {
          fits = come.fits;
          suit = All-append (λ (m : M). Suits c m w.now) ms (messages_for c copies) come.suit (suits-for Suits w.now c copies both.1);
          new = still-new c x ms p still (λ f. ap (mail r f) is_with ∙ have.mails f);
        }
