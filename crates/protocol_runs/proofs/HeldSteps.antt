-- What a worker has of a controller that it holds is enough to fire, to end the wake-up and to give it back.
use Rattle.std.proofs.Common.{◌≡◌, ◌+◌, ℕ, Bool, Option, None, Some, List, [], ◌∷◌, ◌++◌, length, refl, sym, ◌∙◌, ap, subst, slice_get, slice_set, arith, map}
use Rattle.std.proofs.lemmas.List.Elements.{All-append}
use Rattle.ruby_value.specs.declared.message.Delivery.{Delivery}
use Rattle.ruby_value.specs.declared.message.MsgNo.{MsgNo}
use Rattle.ruby_value.specs.Prelude.{same_number}
use Rattle.run_journal.specs.declared.entry.End.{End}
use Rattle.run_journal.specs.declared.entry.End.TheVariants as end
use Rattle.run_journal.specs.declared.entry.Entry.{Entry}
use Rattle.run_journal.specs.declared.entry.FireNote.{FireNote}
use Rattle.run_journal.specs.declared.event.Event.{Event}
use Rattle.run_journal.specs.declared.event.Event.TheVariants.{Fire, Done, Release}
use Rattle.protocol_runs.specs.Prelude.{Rules, Acts, Fired, Full, Idle, Outcome, Place, Scan, Stop, World, Moved, Stepped, fired_entry, given_back, held_by_nobody, with_controller, with_moved, IsRun, Ends, Idled, Filled, Halted, Moves, EndedBy, Released, CarriesMail, IsOnce, IsSound, IsHeldBy, IsLawfulMove, MayCome, held_place, copies_in, messages_for, messages_since_take, with_arrivals, HeldEnds, HeldFires, HeldIsReleased, IsFramed, outcome_with, KeepsMail, Mailed, mail_numbers, times}
use Rattle.protocol_runs.proofs.Steps.{change-steps}
use Rattle.protocol_runs.proofs.Places.{set-at}
use Rattle.protocol_runs.proofs.Accounting.{mail}
use Rattle.protocol_runs.proofs.HeldGrow.{arrivals-more, deliveries-at, fired-copies, since-one}
use Rattle.protocol_runs.proofs.HeldNew.{brought, fired-moves, fires, have-come, mail-is, new-counted, still-new, suits-for}

pub set-here : {X : Type 0} (xs : List X) (c : ℕ) (x y : X) → slice_get xs c ≡ Some x → slice_get (slice_set xs c y) c ≡ Some y
set-here xs c x y there = set-at (λ (o : Option _). o ≡ Some y) xs c c x y there (λ same. refl) (λ apart. absurd (apart refl))

module _ {C M D : Type 0} (r : Rules C M D) (Fits : ℕ → C → ℕ → Type 0) (Suits : ℕ → M → ℕ → Type 0) where
  pub held-is-released : HeldIsReleased r Fits Suits
  held-is-released history w journal worker c x is has =
      let here : Place C = held_place r worker x (messages_since_take r c history) in
      let m : Moved C M = record { place = held_by_nobody here; copies = []; entry = None } in
      change-steps r (length journal) w (Release worker c) (record { world = with_moved r w c m; entry = None }) has.goes_on
      (Moves c here (Release worker c) m has.place (Released worker refl))

  module _ (framed : IsFramed r Fits Suits) (w : World C D) (worker c : ℕ) (x : C) (ms : List M) (has : IsHeldBy r Fits Suits worker c x ms w) where
    scanned : (o : Outcome C M) → (r.scan c x w.now).outcome ≡ o → (r.scan c (with_arrivals r x ms) w.now).outcome ≡ outcome_with (λ after. with_arrivals r after ms) o
    scanned o is = ap (λ (a : Scan C M). a.outcome) (framed.scans c w.now x ms has.come) ∙ ap (outcome_with (λ after. with_arrivals r after ms)) is

    pub ends-there : (after : C) (e : End) → Ends r c w.now x after e → Ends r c w.now (with_arrivals r x ms) (with_arrivals r after ms) e
    ends-there after e (Idled y is) = Idled (with_arrivals r y ms) (scanned (Idle y) is)
    ends-there after e (Filled is) =
        subst (λ (z : C). Ends r c w.now (with_arrivals r x ms) z end.Full) (framed.marks x ms (w.now + 1)) (Filled (scanned Full is))
    ends-there after e (Halted at is) =
        subst (λ (z : C). Ends r c w.now (with_arrivals r x ms) z (end.Stop at)) (framed.stops x ms at) (Halted at (scanned (Stop at) is))

module _ {C M D : Type 0} (r : Rules C M D) (Fits : ℕ → C → ℕ → Type 0) (Suits : ℕ → M → ℕ → Type 0) (Leads : D → ℕ → ℕ → Type 0)
    (sound : IsSound r Fits Suits Leads) (carries : CarriesMail r Fits Suits Leads) (framed : IsFramed r Fits Suits) where
  -- the end of a wake-up
  ends-fits : (c now : ℕ) (x after : C) (e : End) → Fits c x now → Ends r c now x after e → Fits c after now × KeepsMail r x after
  ends-fits c now x after e fits (Idled y is) = let keeps = sound.idles c now x fits y is in (keeps.fits, carries.idles c now x fits y is)
  ends-fits c now x after e fits (Filled is) = let keeps = sound.fills c now x fits is in (keeps.fits, carries.marks x (now + 1))
  ends-fits c now x after e fits (Halted at is) = let keeps = sound.stops c now x fits at is in (keeps.fits, carries.stops x at)

  come-after : (c now : ℕ) (x after : C) (e : End) (ms : List M) → MayCome r Fits Suits c now x ms → Ends r c now x after e → MayCome r Fits Suits c now after ms
  come-after c now x after e ms come ends =
      let both = ends-fits c now x after e come.fits ends in
      let keeps : KeepsMail r x after = both.1 in
      record {
        fits = both.0;
        suit = come.suit;
        new = λ number.
            let same : times number (mail_numbers r after) ≡ times number (mail_numbers r x) =
            ap (λ (l : List Mailed). times number (map (λ (o : Mailed). o.number) l)) keeps.mail in
            omega (arith, same, come.new number);
      }

  pub held-ends : HeldEnds r Fits Suits
  held-ends history w journal worker c x is has after e ends =
      let ms : List M = messages_since_take r c history in
      let here : Place C = held_place r worker x ms in
      let m : Moved C M = given_back r w.now c (with_arrivals r after ms) e in (
        change-steps r (length journal) w (Done worker c) (record { world = with_moved r w c m; entry = m.entry }) has.goes_on
            (Moves c here (Done worker c) m has.place
            (EndedBy worker (with_arrivals r after ms) e refl (ends-there r Fits Suits framed w worker c x ms has after e ends))),
        come-after c w.now x after e ms has.come ends,
      )

  -- a transition
  module _ (history : List Event) (w : World C D) (journal : List Entry) (is : IsRun r history w journal) (worker c : ℕ) (x : C) (ms : List M)
      (has : IsHeldBy r Fits Suits worker c x ms w)
      (note : FireNote) (acts : Acts) (copies : List (Delivery M)) (after : C) (fired : (r.scan c x w.now).outcome ≡ Fired note acts copies after) where
    abbrev here : Place C
    here = held_place r worker x ms

    there-fired : (r.scan c (with_arrivals r x ms) w.now).outcome ≡ Fired note acts copies (with_arrivals r after ms)
    there-fired = scanned r Fits Suits framed w worker c x ms has (Fired note acts copies after) fired

    -- the controller that the worker has then, and the one in the world
    abbrev own : C
    own = r.with_one_fired after

    abbrev whole : C
    whole = r.with_one_fired (with_arrivals r after ms)

    mails-after : (f : MsgNo → Bool) → mail r f whole ≡ brought r f ms + mail r f own
    mails-after f =
        let may = has.come in
        let come = have-come r Fits Suits Leads sound carries c w.now x ms may in
        let once : IsOnce r x =
        λ number. let g : MsgNo → Bool = same_number number in omega (arith, new-counted r x ms may.new number, mail-is r g x) in
        let alone = carries.fires c w.now x may.fits once note acts copies after fired in
        let all =
        fired-moves r Fits Suits Leads sound carries history w journal is has.goes_on worker c here has.place refl note acts copies (with_arrivals r after ms) there-fired in
        omega (arith, come.mails f, alone.moved f, all.moved f, mail-is r f x, mail-is r f (with_arrivals r x ms), mail-is r f own, mail-is r f whole)

    abbrev move : Moved C M
    move = record { place = held_place r worker own ms; copies = copies; entry = Some (fired_entry w.now c note acts) }

    -- which are one
    one-place : with_controller here whole ≡ held_place r worker own ms
    one-place = ap (λ (z : C). with_controller here z) (framed.fires after ms)

    fires-so : IsLawfulMove r (length journal) w (Fire worker c) c move
    fires-so =
        fires r Fits Suits Leads sound carries history w journal is has.goes_on worker c here has.place refl note acts copies (with_arrivals r after ms) there-fired
        ∙ ap (λ (q : Place C). let st : Stepped C D = record { world = with_moved r w c (record move { place = q }); entry = move.entry } in Some st) one-place

    has-fired : IsHeldBy r Fits Suits worker c own (ms ++ messages_for c copies) (with_moved r w c move)
    has-fired =
        let may = has.come in
        let both = sound.fires c w.now x may.fits note acts copies after fired in
        let q : Place C = held_place r worker own ms in
        let set = set-here w.places c here q has.place in
        record {
          goes_on = has.goes_on;
          place = deliveries-at r c (slice_set w.places c q) copies q set
              ∙ ap (λ (z : C). Some (with_controller q z)) (arrivals-more r own ms (messages_for c copies));
          come = record {
            fits = both.0.fits;
            suit = All-append (λ (m : M). Suits c m w.now) ms (messages_for c copies) may.suit (suits-for Suits w.now c copies both.1);
            new = still-new r Fits Suits Leads sound carries history w journal is has.goes_on worker c here has.place refl note acts copies (with_arrivals r after ms) there-fired
                c own ms (with_controller here whole) (set-here w.places c here (with_controller here whole) has.place) mails-after;
          };
        }

  pub held-fires : HeldFires r Fits Suits
  held-fires history w journal worker c x is has note acts copies after fired =
      let ms : List M = messages_since_take r c history in
      let sent : copies_in r w (Fire worker c) ≡ copies =
      fired-copies r w worker c (held_place r worker x ms) _ has.place (there-fired history w journal is worker c x ms has note acts copies after fired) in
      let since : ms ++ messages_for c copies ≡ messages_since_take r c (history ++ Fire worker c ∷ []) =
      ap (λ (ds : List (Delivery M)). ms ++ messages_for c ds) (sym sent) ∙ sym (since-one r c history w journal (Fire worker c) is) in (
        fires-so history w journal is worker c x ms has note acts copies after fired,
        subst (λ (l : List M). IsHeldBy r Fits Suits worker c (r.with_one_fired after) l (with_moved r w c (move history w journal is worker c x ms has note acts copies after fired))) since
            (has-fired history w journal is worker c x ms has note acts copies after fired),
      )
