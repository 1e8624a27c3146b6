-- A worker that takes a controller holds it as it is, and goes on holding it whatever others do.
use Rattle.std.proofs.Common.{◌≡◌, ◌≢◌, ◌&&◌, ℕ, Bool, true, false, not, None, Some, List, [], ◌∷◌, ◌++◌, cond, is_none, length, refl, sym, ◌∙◌, ap, subst, slice_get, arith}
use Rattle.std.proofs.lemmas.Bool.{eq-eqb}
use Rattle.std.proofs.lemmas.List.{append-nil}
use Rattle.std.proofs.lemmas.List.Elements.{All-head, All-nil, All-tail}
use Rattle.ruby_value.specs.declared.message.Delivery.{Delivery}
use Rattle.ruby_value.specs.Prelude.{same_number}
use Rattle.run_journal.specs.declared.entry.Entry.{Entry}
use Rattle.run_journal.specs.declared.event.Event.{Event}
use Rattle.run_journal.specs.declared.event.Event.TheVariants.{Fire, Take}
use Rattle.protocol_runs.specs.Prelude.{Rules, Fired, Place, World, must_wake, Moved, Stepped, held_by, with_controller, with_moved, Ran, IsRun, Change, Moves, Closes, Turns, Move, Taken, FiredBy, EndedBy, Released, CarriesMail, IsSound, AreOfOthers, IsHeldBy, held_place, copies_in, is_on, messages_after, messages_along, messages_for, messages_since_take, OthersLeaveHeld, TakesHold, MayCome, CopiesMayCome, with_arrivals}
use Rattle.protocol_runs.proofs.Steps.{change-steps, step-changes, step-running}
use Rattle.protocol_runs.proofs.Runs.{Here, Path, Then, rest-path, run-more, with_step}
use Rattle.protocol_runs.proofs.Fitting.{all-fit}
use Rattle.protocol_runs.proofs.HeldGrow.{along-step, arrivals-more, change-leaves, change-no-take, fired-copies, other-place, same-place, since-append, since-grows, since-one, move-place}
use Rattle.protocol_runs.proofs.HeldNew.{counted-new, inbox-once, mail-is, come-more}
use Rattle.protocol_runs.proofs.HeldSteps.{set-here}

-- nobody is free whose wake-up has ended
free-open : (must finished none : Bool) → ((must && not finished) && none) ≡ true → finished ≡ false
free-open true true none is = absurd (cc is)
free-open true false none is = refl
free-open false finished none is = absurd (cc is)

module _ {C M D : Type 0} (r : Rules C M D) (Fits : ℕ → C → ℕ → Type 0) (Suits : ℕ → M → ℕ → Type 0) (Leads : D → ℕ → ℕ → Type 0)
    (sound : IsSound r Fits Suits Leads) (carries : CarriesMail r Fits Suits Leads) where
  pub takes-hold : TakesHold r Fits Suits
  takes-hold history w journal worker c p is running there free =
      let m : Moved C M = record { place = held_by worker p; copies = []; entry = None } in
      let v : World C D = with_moved r w c m in
      let open_place : p.finished ≡ false = free-open (must_wake r w.now p) p.finished (is_none p.holder) free in
      let none : messages_since_take r c (history ++ Take worker c ∷ []) ≡ [] =
      since-one r c history w journal (Take worker c) is ∙ ap (λ (b : Bool). cond b [] (messages_since_take r c history ++ [])) (eq-eqb c c refl) in
      let holds : IsHeldBy r Fits Suits worker c p.controller [] v = record {
        goes_on = running;
        place = set-here w.places c p (held_by worker p) there
            ∙ ap (λ (b : Bool). let q : Place C = record { controller = p.controller; finished = b; holder = Some worker } in Some q) open_place;
        come = record {
          fits = all-fit r Fits Suits Leads sound history w journal is c p there;
          suit = All-nil (λ (n : M). Suits c n w.now);
          new = counted-new r p.controller []
              (λ number. let once = inbox-once r Fits Suits Leads sound carries history w journal is c p there number in omega (arith, once, mail-is r (same_number number) p.controller));
        };
      } in (
        change-steps r (length journal) w (Take worker c) (record { world = v; entry = None }) running (Moves c p (Take worker c) m there (Taken worker free)),
        none,
        subst (λ (ms : List M). IsHeldBy r Fits Suits worker c p.controller ms v) (sym none) holds,
      )

  -- what an event of one controller sends to another may come to it
  module _ (history : List Event) (w : World C D) (journal : List Entry) (is : IsRun r history w journal) (running : w.verdict ≡ None)
      (c : ℕ) (p : Place C) (x : C) (ms : List M) (at : slice_get w.places c ≡ Some p) (same : p.controller ≡ with_arrivals r x ms)
      (come : MayCome r Fits Suits c w.now x ms) where
    abbrev Comes : List M → Type 0
    Comes more = MayCome r Fits Suits c w.now x (ms ++ more)

    none-comes : Comes []
    none-comes = subst (λ (l : List M). MayCome r Fits Suits c w.now x l) (sym (append-nil ms)) come

    move-comes : (d : ℕ) (q : Place C) (e : Event) (m : Moved C M) → slice_get w.places d ≡ Some q → Move r w.now d q e m → d ≢ c
        → Comes (messages_for c (copies_in r w e))
    move-comes d q e m there (Taken other free) apart = none-comes
    move-comes d q e m there (FiredBy other note acts copies after holds fired) apart =
        subst (λ (ds : List (Delivery M)). Comes (messages_for c ds)) (sym (fired-copies r w other d q (Fired note acts copies after) there fired))
        (come-more r Fits Suits Leads sound carries history w journal is running other d q there holds note acts copies after fired
        c p x ms (λ own. apart (sym own)) at same come)
    move-comes d q e m there (EndedBy other after end holds ends) apart = none-comes
    move-comes d q e m there (Released other holds) apart = none-comes

    -- a transition
    at-fire : (worker d k : ℕ) (q : Place C) (e : Event) (m : Moved C M) → Move r w.now k q e m → e ≡ Fire worker d → k ≡ d
    at-fire worker d k q e m (Taken other free) is = absurd (cc is)
    at-fire worker d k q e m (FiredBy other note acts copies after holds fired) is = cc is
    at-fire worker d k q e m (EndedBy other after end holds ends) is = absurd (cc is)
    at-fire worker d k q e m (Released other holds) is = absurd (cc is)

    abbrev CopiesCome : World C D → Event → Type 0
    CopiesCome v e =
        (slice_get v.places c ≡ Some (with_controller p (with_arrivals r x (ms ++ messages_for c (copies_in r w e))))) × Comes (messages_for c (copies_in r w e))

    fire-comes : (n worker d : ℕ) (e : Event) (st : Stepped C D) → c ≢ d → Change r n w e st → e ≡ Fire worker d → CopiesCome st.world e
    fire-comes n worker d e st apart (Moves k q f m there move) is =
        let other : k ≢ c = λ own. apart (sym own ∙ at-fire worker d k q e m move is) in
        let more : List M = messages_for c (copies_in r w e) in (
          move-place r w c k p q e m at there move other
              ∙ ap (λ (z : C). Some (with_controller p z)) (ap (λ (z : C). with_arrivals r z more) same ∙ arrivals-more r x ms more),
          move-comes k q e m there move other,
        )
    fire-comes n worker d e st apart (Closes other k idle least) is = absurd (cc is)
    fire-comes n worker d e st apart (Turns other idle least) is = absurd (cc is)

  pub copies-may-come : CopiesMayCome r Fits Suits
  copies-may-come history w journal worker d st is steps c p x ms apart at same come =
      fire-comes history w journal is (step-running r (length journal) w (Fire worker d) st steps) c p x ms at same come (length journal) worker d (Fire worker d) st apart
      (step-changes r (length journal) w (Fire worker d) st steps) refl

  module _ (worker c : ℕ) (x : C) where
    module _ (ms : List M) (history : List Event) (w : World C D) (journal : List Entry) (is : IsRun r history w journal)
        (has : IsHeldBy r Fits Suits worker c x ms w) where
      abbrev here : Place C
      here = held_place r worker x ms

      change-comes : (n : ℕ) (e : Event) (st : Stepped C D) → Change r n w e st → is_on worker c e ≡ false
          → MayCome r Fits Suits c w.now x (ms ++ messages_for c (copies_in r w e))
      change-comes n e st (Moves d q f m there move) others =
          move-comes history w journal is has.goes_on c here x ms has.place refl has.come d q e m there move
          (λ at. other-place r worker c w.now d here q e m refl (same-place r worker c w here has.place refl d q there at) move others at)
      change-comes n e st (Closes other d idle least) others = none-comes history w journal is has.goes_on c here x ms has.place refl has.come
      change-comes n e st (Turns other idle least) others = none-comes history w journal is has.goes_on c here x ms has.place refl has.come

      still-held : (n : ℕ) (e : Event) (st : Stepped C D) → Change r n w e st → is_on worker c e ≡ false
          → IsHeldBy r Fits Suits worker c x (ms ++ messages_for c (copies_in r w e)) st.world
      still-held n e st change others =
          let left = change-leaves r worker c w here has.place refl n e st change others in
          let more : List M = messages_for c (copies_in r w e) in
          record {
            goes_on = left.verdict ∙ has.goes_on;
            place = left.place ∙ ap (λ (z : C). Some (with_controller here z)) (arrivals-more r x ms more);
            come = subst (λ (now : ℕ). MayCome r Fits Suits c now x (ms ++ more)) (sym left.now) (change-comes n e st change others);
          }

    held-along : (ms : List M) (history : List Event) (a : Ran C D) (es : List Event) (b : Ran C D) → IsRun r history a.world a.journal → Path r a es b
        → AreOfOthers worker c es → IsHeldBy r Fits Suits worker c x ms a.world
        → IsHeldBy r Fits Suits worker c x (messages_along r c ms (Some a) es) b.world
    held-along ms history a [] b is (Here z) others has = has
    held-along ms history a (f ∷ fs) b is (Then z e es st u goes rest) others has =
        let other : is_on worker c e ≡ false = All-head (λ (g : Event). is_on worker c g ≡ false) e es others in
        let next : List M = ms ++ messages_for c (copies_in r a.world e) in
        let held = still-held ms history a.world a.journal is has (length a.journal) e st goes.change other in
        let more : messages_after r c ms (Some a) e ≡ next =
        since-grows r worker c ms a e
        (change-no-take r worker c a.world (here ms history a.world a.journal is has) has.place refl (length a.journal) e st goes.change other) in
        let since : messages_along r c next (Some (with_step a st)) es ≡ messages_along r c ms (Some a) (e ∷ es) =
        ap (λ (l : List M). messages_along r c l (Some (with_step a st)) es) (sym more) ∙ sym (along-step r c ms a e es st goes.is) in
        subst (λ (l : List M). IsHeldBy r Fits Suits worker c x l b.world) since
        (held-along next (history ++ e ∷ []) (with_step a st) es b (run-more r history e a.world a.journal st is goes.is) rest
        (All-tail (λ (g : Event). is_on worker c g ≡ false) e es others) held)

  pub others-leave-held : OthersLeaveHeld r Fits Suits
  others-leave-held history rest w v journal later worker c x is whole others has =
      subst (λ (l : List M). IsHeldBy r Fits Suits worker c x l v) (sym (since-append r c history rest w journal is))
      (held-along worker c x (messages_since_take r c history) history (record { world = w; journal = journal }) rest (record { world = v; journal = later }) is
      (rest-path r history rest w v journal later is whole) others has)
