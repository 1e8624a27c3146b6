-- A controller that a worker holds: what others do leaves it held, and no more than messages come to it.
use Rattle.std.proofs.Common.{◌≡◌, ◌≢◌, ◌&&◌, ℕ, Bool, true, false, Option, None, Some, List, [], ◌∷◌, ◌++◌, cond, eqb, fold, is_none, is_some, length, refl, sym, ◌∙◌, ap, subst, slice_get, slice_set}
use Rattle.std.proofs.lemmas.Bool.{eq-eqb, eqb-false, eqb-true, ne_eqb, or_parts}
use Rattle.std.proofs.lemmas.List.{append-nil, append_assoc}
use Rattle.std.proofs.lemmas.List.Elements.{All-head, All-tail}
use Rattle.std.proofs.lemmas.List.Sums.{fold-append}
use Rattle.std.proofs.lemmas.Option.{same_Some}
use Rattle.run_journal.specs.declared.entry.Entry.{Entry}
use Rattle.run_journal.specs.declared.event.Event.{Event}
use Rattle.run_journal.specs.declared.event.Event.TheVariants.{Fire}
use Rattle.ruby_value.specs.declared.message.Delivery.{Delivery}
use Rattle.protocol_runs.specs.Prelude.{Rules, Fired, Outcome, Place, World, is_busy, is_due, is_held, Moved, Stepped, step, with_arrival, with_controller, with_delivery, with_delivery_at, with_deliveries, with_moved, Ran, go_on, ran_on, start, IsRun, Change, Moves, Closes, Turns, IsIdle, Move, Taken, FiredBy, EndedBy, Released, AreOfOthers, HasOnlyGrown, copies_at, copies_in, copies_of, is_on, is_take_of, messages_after, messages_along, messages_for, messages_since_take, with_arrivals, HeldControllersGrow}
use Rattle.protocol_runs.proofs.Places.{set-at}
use Rattle.protocol_runs.proofs.Runs.{Here, Path, Then, rest-path, with_step}
use Rattle.protocol_runs.proofs.Woken.{none-at}

module _ {C M D : Type 0} (r : Rules C M D) where
  -- messages that come one after the other
  pub arrivals-more : (x : C) (ms more : List M) → with_arrivals r (with_arrivals r x ms) more ≡ with_arrivals r x (ms ++ more)
  arrivals-more x ms more = sym (fold-append (with_arrival r) x ms more)

  -- a place to which messages have come
  abbrev pub grown : Place C → List M → Place C
  grown p ms = with_controller p (with_arrivals r p.controller ms)

  grown-more : (p : Place C) (ms more : List M) → grown (grown p ms) more ≡ grown p (ms ++ more)
  grown-more p ms more = ap (with_controller p) (arrivals-more p.controller ms more)

  -- one copy
  delivery-at : (c : ℕ) (places : List (Place C)) (d : Delivery M) (p : Place C) (b : Bool) → slice_get places c ≡ Some p → eqb d.receiver c ≡ b
      → slice_get (with_delivery r places d) c ≡ Some (grown p (cond b (d.message ∷ []) []))
  delivery-at c places d p true there is =
      let same : d.receiver ≡ c = eqb-true d.receiver c is in
      let here : slice_get places d.receiver ≡ Some p = ap (λ (i : ℕ). slice_get places i) same ∙ there in
      let q : Place C = with_controller p (with_arrival r p.controller d.message) in
      ap (λ (o : Option (Place C)). slice_get (with_delivery_at r places d o) c) here
      ∙ set-at (λ (o : Option (Place C)). o ≡ Some q) places d.receiver c p q here (λ own. refl) (λ apart. absurd (apart same))
  delivery-at c places d p false there is = by (slice_get places d.receiver) refl
    where
      by : (o : Option (Place C)) → slice_get places d.receiver ≡ o → slice_get (with_delivery_at r places d o) c ≡ Some p
      by None none = there
      by (Some q) here =
          set-at (λ (o : Option (Place C)). o ≡ Some p) places d.receiver c q (with_controller q (with_arrival r q.controller d.message)) here
          (λ same. absurd (eqb-false d.receiver c is same)) (λ apart. there)

  -- what comes to a place of copies
  pub deliveries-at : (c : ℕ) (places : List (Place C)) (ds : List (Delivery M)) (p : Place C) → slice_get places c ≡ Some p
      → slice_get (with_deliveries r places ds) c ≡ Some (grown p (messages_for c ds))
  deliveries-at c places [] p there = there
  deliveries-at c places (d ∷ ds) p there =
      let first : List M = cond (eqb d.receiver c) (d.message ∷ []) [] in
      deliveries-at c (with_delivery r places d) ds (grown p first) (delivery-at c places d p (eqb d.receiver c) there refl)
      ∙ ap (λ (q : Place C). Some q) (grown-more p first (messages_for c ds))

  -- the messages since a take, by a run and what follows on it
  along-append : (c : ℕ) (ms : List M) (ran : Option (Ran C D)) (es fs : List Event)
      → messages_along r c ms ran (es ++ fs) ≡ messages_along r c (messages_along r c ms ran es) (fold (go_on r) ran es) fs
  along-append c ms ran [] fs = refl
  along-append c ms ran (e ∷ es) fs = along-append c (messages_after r c ms ran e) (go_on r ran e) es fs

  pub since-append : (c : ℕ) (history rest : List Event) (w : World C D) (journal : List Entry) → IsRun r history w journal
      → messages_since_take r c (history ++ rest)
      ≡ messages_along r c (messages_since_take r c history) (Some (record { world = w; journal = journal })) rest
  since-append c history rest w journal is =
      along-append c [] (Some (start r)) history rest ∙ ap (λ (o : Option (Ran C D)). messages_along r c (messages_since_take r c history) o rest) is

  -- by one event more
  pub since-one : (c : ℕ) (history : List Event) (w : World C D) (journal : List Entry) (e : Event) → IsRun r history w journal
      → messages_since_take r c (history ++ e ∷ []) ≡ messages_after r c (messages_since_take r c history) (Some (record { world = w; journal = journal })) e
  since-one c history w journal e is = since-append c history (e ∷ []) w journal is

  pub along-step : (c : ℕ) (ms : List M) (x : Ran C D) (e : Event) (es : List Event) (st : Stepped C D) → step r (length x.journal) x.world e ≡ Some st
      → messages_along r c ms (Some x) (e ∷ es) ≡ messages_along r c (messages_after r c ms (Some x) e) (Some (with_step x st)) es
  along-step c ms x e es st is =
      ap (λ (o : Option (Stepped C D)). messages_along r c (messages_after r c ms (Some x) e) (ran_on x.journal o) es) is

  -- the copies of a transition
  pub fired-copies : (w : World C D) (worker d : ℕ) (q : Place C) (o : Outcome C M) → slice_get w.places d ≡ Some q → (r.scan d q.controller w.now).outcome ≡ o
      → copies_in r w (Fire worker d) ≡ copies_of r o
  fired-copies w worker d q o there is = ap (copies_at r w.now d) there ∙ ap (copies_of r) is

  moved-copies : (w : World C D) (d : ℕ) (q : Place C) (e : Event) (m : Moved C M) → slice_get w.places d ≡ Some q → Move r w.now d q e m
      → m.copies ≡ copies_in r w e
  moved-copies w d q e m there (Taken worker free) = refl
  moved-copies w d q e m there (FiredBy worker note acts copies after holds is) = sym (fired-copies w worker d q (Fired note acts copies after) there is)
  moved-copies w d q e m there (EndedBy worker after end holds ends) = refl
  moved-copies w d q e m there (Released worker holds) = refl

  -- what an event of one controller leaves of the place of another
  pub move-place : (w : World C D) (c d : ℕ) (p q : Place C) (e : Event) (m : Moved C M) → slice_get w.places c ≡ Some p → slice_get w.places d ≡ Some q
      → Move r w.now d q e m → d ≢ c → slice_get (with_moved r w d m).places c ≡ Some (grown p (messages_for c (copies_in r w e)))
  move-place w c d p q e m there here move apart =
      deliveries-at c (slice_set w.places d m.place) m.copies p
      (set-at (λ (o : Option (Place C)). o ≡ Some p) w.places d c q m.place here (λ same. absurd (apart same)) (λ other. there))
      ∙ ap (λ (ds : List (Delivery M)). Some (grown p (messages_for c ds))) (moved-copies w d q e m here move)

  module _ (worker c : ℕ) where
    own : (other d : ℕ) → other ≡ worker → d ≡ c → (eqb other worker && eqb d c) ≡ true
    own other d by at = ap (λ (b : Bool). b && eqb d c) (eq-eqb other worker by) ∙ eq-eqb d c at

    holders-same : (p : Place C) (other : ℕ) → p.holder ≡ Some worker → p.holder ≡ Some other → other ≡ worker
    holders-same p other holds also = same_Some other worker (sym also ∙ holds)

    -- an event of another is on another controller
    pub other-place : (now d : ℕ) (p q : Place C) (e : Event) (m : Moved C M) → p.holder ≡ Some worker → q ≡ p → Move r now d q e m → is_on worker c e ≡ false → d ≢ c
    other-place now d p q e m holds same (Taken other free) others at =
        let none : is_none p.holder ≡ true = not-free q.holder (is_due r now q) free (ap (λ (s : Place C). s.holder) same) in
        absurd (cc (none, holds))
      where
        not-free : (o : Option ℕ) (due : Bool) → (due && is_none o) ≡ true → o ≡ p.holder → is_none p.holder ≡ true
        not-free o true free is = ap (λ (h : Option ℕ). is_none h) (sym is) ∙ free
        not-free o false free is = absurd (cc free)
    other-place now d p q e m holds same (FiredBy other note acts copies after also is) others at =
        let by = holders-same p other holds (ap (λ (s : Place C). s.holder) (sym same) ∙ also) in
        absurd (cc (own other d by at, others))
    other-place now d p q e m holds same (EndedBy other after end also ends) others at =
        let by = holders-same p other holds (ap (λ (s : Place C). s.holder) (sym same) ∙ also) in
        absurd (cc (own other d by at, others))
    other-place now d p q e m holds same (Released other also) others at =
        let by = holders-same p other holds (ap (λ (s : Place C). s.holder) (sym same) ∙ also) in
        absurd (cc (own other d by at, others))

    -- what an event of another leaves of the place, and of the rest of the world
    pub record IsLeft (w v : World C D) (e : Event) (p : Place C) : Type 0 where
      pub now : v.now ≡ w.now
      pub verdict : v.verdict ≡ w.verdict
      pub place : slice_get v.places c ≡ Some (grown p (messages_for c (copies_in r w e)))

    module _ (w : World C D) (p : Place C) (there : slice_get w.places c ≡ Some p) (holds : p.holder ≡ Some worker) where
      not-idle : IsIdle r w → ⊥
      not-idle idle =
          let parts = or_parts (is_held p) (is_due r w.now p) (none-at (is_busy r w.now) w.places c p idle there) in
          absurd (cc (parts.0, ap (λ (o : Option ℕ). is_some o) holds))

      pub same-place : (d : ℕ) (q : Place C) → slice_get w.places d ≡ Some q → d ≡ c → q ≡ p
      same-place d q here at = same_Some q p (sym here ∙ ap (λ (i : ℕ). slice_get w.places i) at ∙ there)

      move-leaves : (d : ℕ) (q : Place C) (e : Event) (m : Moved C M) → slice_get w.places d ≡ Some q → Move r w.now d q e m → d ≢ c
          → IsLeft w (with_moved r w d m) e p
      move-leaves d q e m here move apart = record { now = refl; verdict = refl; place = move-place w c d p q e m there here move apart }

      apart-by : (d : ℕ) (q : Place C) (e : Event) (m : Moved C M) → slice_get w.places d ≡ Some q → Move r w.now d q e m → is_on worker c e ≡ false → d ≢ c
      apart-by d q e m here move others at = other-place w.now d p q e m holds (same-place d q here at) move others at

      pub change-leaves : (n : ℕ) (e : Event) (st : Stepped C D) → Change r n w e st → is_on worker c e ≡ false → IsLeft w st.world e p
      change-leaves n e st (Moves d q f m here move) others = move-leaves d q e m here move (apart-by d q e m here move others)
      change-leaves n e st (Closes other d idle least) others = absurd (not-idle idle)
      change-leaves n e st (Turns other idle least) others = absurd (not-idle idle)

      no-take : (d : ℕ) (q : Place C) (e : Event) (m : Moved C M) → Move r w.now d q e m → d ≢ c → is_take_of c e ≡ false
      no-take d q e m (Taken other free) apart = ne_eqb d c apart
      no-take d q e m (FiredBy other note acts copies after also is) apart = refl
      no-take d q e m (EndedBy other after end also ends) apart = refl
      no-take d q e m (Released other also) apart = refl

      pub change-no-take : (n : ℕ) (e : Event) (st : Stepped C D) → Change r n w e st → is_on worker c e ≡ false → is_take_of c e ≡ false
      change-no-take n e st (Moves d q f m here move) others = no-take d q e m move (apart-by d q e m here move others)
      change-no-take n e st (Closes other d idle least) others = refl
      change-no-take n e st (Turns other idle least) others = refl

    -- so the messages since the take grow by those that the event sends
    pub since-grows : (ms : List M) (x : Ran C D) (e : Event) → is_take_of c e ≡ false → messages_after r c ms (Some x) e ≡ ms ++ messages_for c (copies_in r x.world e)
    since-grows ms x e none = ap (λ (b : Bool). cond b [] (ms ++ messages_for c (copies_in r x.world e))) none

    grown-joined : (w u v : World C D) (e : Event) (p : Place C) (ms since : List M) → slice_get w.places c ≡ Some p → IsLeft w u e p
        → HasOnlyGrown r c u v (ms ++ messages_for c (copies_in r w e)) since → HasOnlyGrown r c w v ms since
    grown-joined w u v e p ms since there left rest =
        let first : List M = messages_for c (copies_in r w e) in
        record {
          more = first ++ rest.more;
          since_is = rest.since_is ∙ append_assoc ms first rest.more;
          now = rest.now ∙ left.now;
          verdict = rest.verdict ∙ left.verdict;
          place = λ q at.
              let same : q ≡ p = same_Some q p (sym at ∙ there) in
              rest.place (grown p first) left.place ∙ ap (λ (s : Place C). Some s) (grown-more p first rest.more)
              ∙ ap (λ (s : Place C). Some (grown s (first ++ rest.more))) (sym same);
        }

    grows-along : (ms : List M) (x : Ran C D) (es : List Event) (y : Ran C D) (p : Place C) → Path r x es y → slice_get x.world.places c ≡ Some p
        → p.holder ≡ Some worker → AreOfOthers worker c es → HasOnlyGrown r c x.world y.world ms (messages_along r c ms (Some x) es)
    grows-along ms x [] y p (Here z) there holds others =
        record { more = []; since_is = sym (append-nil ms); now = refl; verdict = refl; place = λ q at. at }
    grows-along ms x (f ∷ fs) y p (Then z e es st u goes rest) there holds others =
        let other : is_on worker c e ≡ false = All-head (λ (g : Event). is_on worker c g ≡ false) e es others in
        let left = change-leaves x.world p there holds (length x.journal) e st goes.change other in
        let more : messages_after r c ms (Some x) e ≡ ms ++ messages_for c (copies_in r x.world e) =
        since-grows ms x e (change-no-take x.world p there holds (length x.journal) e st goes.change other) in
        let onward =
        grows-along (ms ++ messages_for c (copies_in r x.world e)) (with_step x st) es y (grown p (messages_for c (copies_in r x.world e))) rest left.place holds
        (All-tail (λ (g : Event). is_on worker c g ≡ false) e es others) in
        let since : messages_along r c (ms ++ messages_for c (copies_in r x.world e)) (Some (with_step x st)) es ≡ messages_along r c ms (Some x) (e ∷ es) =
        ap (λ (l : List M). messages_along r c l (Some (with_step x st)) es) (sym more) ∙ sym (along-step c ms x e es st goes.is) in
        grown-joined x.world st.world y.world e p ms (messages_along r c ms (Some x) (e ∷ es)) there left
        (subst (HasOnlyGrown r c st.world y.world (ms ++ messages_for c (copies_in r x.world e))) since onward)

  pub held-controllers-grow : HeldControllersGrow r
  held-controllers-grow history rest w v journal later worker c p is whole there holds others =
      subst (HasOnlyGrown r c w v (messages_since_take r c history)) (sym (since-append c history rest w journal is))
      (grows-along worker c (messages_since_take r c history) (record { world = w; journal = journal }) rest (record { world = v; journal = later }) p
      (rest-path r history rest w v journal later is whole) there holds others)
