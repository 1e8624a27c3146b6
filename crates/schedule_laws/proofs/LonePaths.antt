-- Acts by controllers that don't fall, up to a world in which nobody is due, are what one worker does: it takes the controller of each act
-- where it doesn't hold it already, and that is the least one that is due.
use Rattle.std.proofs.Common.{◌≡◌, ◌≤◌, ◌<◌, ◌+◌, ◌++◌, ◌⊎◌, inl, inr, ⊎_elim, ℕ, suc, Bool, true, false, is_some, Option, None, Some, List, [], ◌∷◌, All, nat_lt, length, position, get_or, refl, sym, ◌∙◌, ap, subst, slice_get, slice_set, arith}
use Rattle.std.specs.List.{list_any, position_or_len}
use Rattle.std.proofs.lemmas.Bool.{cases_eq, cases_lt, cond-true, lt-ltb}
use Rattle.std.proofs.lemmas.List.{append-nil, append_assoc, length-append}
use Rattle.std.proofs.lemmas.List.Elements.{All-cons, All-head, All-tail, All-weaker}
use Rattle.std.proofs.lemmas.List.Quantifiers.{position-Some}
use Rattle.std.proofs.lemmas.List.Sums.{fails_before_first}
use Rattle.std.proofs.lemmas.Option.{get_or_from_slice_get, same_Some, slice_get-get_or, slice_get_within}
use Rattle.ruby_value.proofs.Ordered.{AllPairs-head, AllPairs-tail}
use Rattle.run_journal.specs.declared.entry.End.TheVariants as end
use Rattle.run_journal.specs.declared.entry.Entry.{Entry}
use Rattle.run_journal.specs.declared.event.Event.{Event}
use Rattle.run_journal.specs.declared.event.Event.TheVariants.{Done, Fire, Take}
use Rattle.cycle_order.specs.Prelude.{Rises, owner}
use Rattle.cycle_order.proofs.Ordered.{NotAfter}
use Rattle.protocol_runs.specs.Prelude.{CarriesMail, Filled, Fired, Full, Halted, Idle, Idled, IsAlone, IsAloneEvent, IsRun, IsSound, Outcome, Place, Ran, Rules, Stop, World, is_free, is_held, messages_for}
use Rattle.protocol_runs.proofs.Fitting.{all-fit}
use Rattle.protocol_runs.proofs.HeldGrow.{deliveries-at}
use Rattle.protocol_runs.proofs.HeldSteps.{set-here}
use Rattle.protocol_runs.proofs.Places.{set-at}
use Rattle.schedule_laws.specs.Prelude.{act, act_by, act_entry, acted, acted_by, entry_by}
use Rattle.schedule_laws.proofs.ActPaths.{ActPath, First, first-owner, headed}
use Rattle.schedule_laws.proofs.Acting.{Reached, act-reached, by-outcome, done-run, fire-run, fired-place, free-is, free-parts, take-run, taken}
use Rattle.schedule_laws.proofs.Crossing.{copies-come, sent-comes, still-free}
use Rattle.schedule_laws.proofs.Delivered.{came-from, come-at, set-other}

-- no element passes a test
pub none-any : {X : Type 0} (f : X → Bool) (xs : List X) → ((i : ℕ) (x : X) → slice_get xs i ≡ Some x → f x ≡ false) → list_any f xs ≡ false
none-any f [] none = refl
none-any f (x ∷ xs) none = grind (arith, none 0 x refl, none-any f xs (λ i y there. none (suc i) y there))

-- the first one that passes
position-is : {X : Type 0} (f : X → Bool) (xs : List X) (d : ℕ) (q : X) → slice_get xs d ≡ Some q → f q ≡ true
    → ((c : ℕ) (p : X) → slice_get xs c ≡ Some p → f p ≡ true → d ≤ c) → position f xs ≡ Some d
position-is {X = X} f xs d q there passes least =
    let i : ℕ = position_or_len f xs in
    let within = slice_get_within xs d q there in
    let not_after : i ≤ d =
    ⊎_elim
    (λ below. absurd (cc (fails_before_first f xs d q below, ap f (get_or_from_slice_get xs d q q there), passes)))
    (λ is. is)
    (cases_lt d i) in
    let inside : i < length xs = omega (arith, within, not_after) in
    let found : position f xs ≡ Some i = cond-true (nat_lt i (length xs)) (Some i) None (lt-ltb i (length xs) inside) in
    let parts = position-Some f xs i q found in
    let not_before : d ≤ i = least i (get_or xs i q) (slice_get-get_or xs i q inside) parts.1 in
    let same : i ≡ d = omega (arith, not_after, not_before) in
    found ∙ ap (λ (k : ℕ). Some k) same

-- an event is the last one of a history, or one before
last-split : {X : Type 0} (h : List X) (e : X) (before : List X) (f : X) (after : List X) → h ++ e ∷ [] ≡ before ++ f ∷ after
    → ((before ≡ h) × (f ≡ e)) ⊎ ((rest : List X) × (h ≡ before ++ f ∷ rest))
last-split [] e [] f after is = inl (refl, cc is)
last-split [] e (b ∷ before) f after is = absurd (omega (arith, ap length is, length-append before (f ∷ after)))
last-split (x ∷ h) e [] f after is = inr (h, cc is)
last-split (x ∷ h) e (b ∷ before) f after is =
    let first : b ≡ x = cc is in
    let rest : h ++ e ∷ [] ≡ before ++ f ∷ after = cc is in
    ⊎_elim
    (λ last. inl (ap (λ z. z ∷ before) first ∙ ap (λ l. x ∷ l) last.0, last.1))
    (λ more. inr (more.0, ap (λ l. x ∷ l) more.1 ∙ ap (λ z. z ∷ (before ++ f ∷ more.0)) (sym first)))
    (last-split h e before f after rest)

module _ {C M D : Type 0} (r : Rules C M D) where
  pub alone-none : IsAlone r []
  alone-none [] after e w journal is ran = absurd (cc is)
  alone-none (f ∷ before) after e w journal is ran = absurd (cc is)

  -- one event more by one worker
  pub alone-more : (history : List Event) (w : World C D) (journal : List Entry) (e : Event) → IsAlone r history → IsRun r history w journal → IsAloneEvent r w e
      → IsAlone r (history ++ e ∷ [])
  alone-more history w journal e alone is does =
      λ before after f u told split ran.
      ⊎_elim
      (λ last.
      let a : Ran C D = record { world = w; journal = journal } in
      let b : Ran C D = record { world = u; journal = told } in
      let same : a ≡ b = same_Some a b (sym is ∙ subst (λ (h : List Event). IsRun r h u told) last.0 ran) in
      subst (λ (g : Event). IsAloneEvent r u g) (sym last.1) (subst (λ (x : Ran C D). IsAloneEvent r x.world e) same does))
      (λ more. alone before more.0 f u told more.1 ran)
      (last-split history e before f after split)

  -- nobody is held, and nobody is to be taken
  abbrev pub AreFree : World C D → Type 0
  AreFree w = (c : ℕ) (p : Place C) → slice_get w.places c ≡ Some p → p.holder ≡ None

  abbrev pub NoneFree : World C D → Type 0
  NoneFree w = (c : ℕ) (p : Place C) → slice_get w.places c ≡ Some p → is_free r w.now p ≡ true → ⊥

  act-holder : (now c : ℕ) (p : Place C) (o : Outcome C M) → p.holder ≡ None → (act_by r now c p o).place.holder ≡ None
  act-holder now c p (Fired note acts copies after) none = none
  act-holder now c p Full none = refl
  act-holder now c p (Stop at) none = refl
  act-holder now c p (Idle after) none = refl

  act-free : (w : World C D) (d : ℕ) (q : Place C) → slice_get w.places d ≡ Some q → AreFree w → AreFree (acted r w d q)
  act-free w d q there free c p1 at =
      let m = act r w.now d q in
      let (p, was, is) = came-from r (slice_set w.places d m.place) m.copies c p1 at in
      let none : p.holder ≡ None =
      set-at (λ (o : Option (Place C)). o ≡ Some p → p.holder ≡ None) w.places d c q m.place there
      (λ same own. ap (λ (s : Place C). s.holder) (sym (same_Some m.place p own)) ∙ act-holder w.now d q (r.scan d q.controller w.now).outcome (free d q there))
      (λ apart other. free c p other)
      was in
      ap (λ (s : Place C). s.holder) (sym is) ∙ none

  -- a run by one worker that comes to a world
  pub record Lone (w : World C D) (journal : List Entry) : Type 0 where
    pub history : List Event
    pub run : IsRun r history w journal
    pub alone : IsAlone r history

  -- the worker is at a world between two acts: it holds nobody, or the controller that has fired, and acts of no lesser one are to come
  pub data Standing (w : World C D) (journal : List Entry) (es : List Entry) : Type 0 where
    HoldsNobody : Lone w journal → Standing w journal es
    Holds : (c : ℕ) (p : Place C) → slice_get w.places c ≡ Some p → is_free r w.now p ≡ true → Lone (taken r w c p) journal
        → All (λ (e : Entry). c ≤ owner e) es → Standing w journal es

module _ {C M D : Type 0} (r : Rules C M D) (Fits : ℕ → C → ℕ → Type 0) (Suits : ℕ → M → ℕ → Type 0) (Leads : D → ℕ → ℕ → Type 0)
    (sound : IsSound r Fits Suits Leads) (carries : CarriesMail r Fits Suits Leads) where
  -- who is to be taken acts later, and is none of lesser number
  acts-from : (w : World C D) (es : List Entry) (v : World C D) (n : ℕ) → ActPath r w es v → Reached r w → All (λ (e : Entry). n ≤ owner e) es → NoneFree r v
      → (c : ℕ) (p : Place C) → slice_get w.places c ≡ Some p → is_free r w.now p ≡ true → n ≤ c
  acts-from w [] v n way reached all none c p there free =
      let same : w ≡ v = headed r w [] v way in
      absurd (subst (λ (u : World C D). NoneFree r u) (sym same) none c p there free)
  acts-from w (e ∷ es) v n way reached all none c p there free =
      let first : First r w e es v = headed r w (e ∷ es) v way in
      let P = λ (f : Entry). n ≤ owner f in
      let here : n ≤ owner e = All-head P e es all in
      ⊎_elim
      (λ same. omega (arith, here, first-owner r w e es v first, same))
      (λ apart.
      let d : ℕ = first.c in
      let m = act r w.now d first.p in
      let stays : slice_get (slice_set w.places d m.place) c ≡ Some p = set-other w.places d c first.p m.place first.there apart ∙ there in
      let may = copies-come r Fits Suits Leads sound carries w d first.p reached first.there first.free c p stays in
      acts-from (acted r w d first.p) es v n first.rest (act-reached r w d first.p reached first.there first.free) (All-tail P e es all) none
      c (come-at r m.copies c p) (deliveries-at r c (slice_set w.places d m.place) m.copies p stays)
      (still-free r Fits Suits Leads sound carries c w.now p (messages_for c m.copies) may ∙ free))
      (cases_eq first.c c)

  -- one act of the controller that the worker holds
  module _ (w : World C D) (d : ℕ) (q : Place C) (reached : Reached r w) (there : slice_get w.places d ≡ Some q) (free : is_free r w.now q ≡ true)
      (journal : List Entry) (lone : Lone r (taken r w d q) journal) (es : List Entry) (from : All (λ (e : Entry). d ≤ owner e) es) where
    act-alone : (o : Outcome C M) → (r.scan d q.controller w.now).outcome ≡ o → Standing r (acted_by r w d q o) (journal ++ entry_by r w.now d o ∷ []) es
    act-alone (Fired note acts copies after) is =
        let fp : Place C = fired-place r q after in
        let keeps = sound.fires d w.now q.controller (all-fit r Fits Suits Leads sound reached.history w reached.journal reached.is d q there) note acts copies after is in
        let parts = free-parts r w.now q free in
        let own : is_free r w.now fp ≡ true = free-is r w.now fp (record { awake = keeps.0.awake ∙ parts.awake; finished = parts.finished; holder = parts.holder }) in
        let may =
        sent-comes r Fits Suits Leads sound carries w d q reached there free d (Fired note acts copies after) is
        (by-outcome r w d q reached there free (Fired note acts copies after) is) fp (set-here w.places d q fp there) in
        Holds d (come-at r copies d fp)
        (deliveries-at r d (slice_set w.places d fp) copies fp (set-here w.places d q fp there))
        (still-free r Fits Suits Leads sound carries d w.now fp (messages_for d copies) may ∙ own)
        (record {
          history = lone.history ++ Fire 0 d ∷ [];
          run = fire-run r lone.history w journal reached.running d q there note acts copies after lone.run is;
          alone = alone-more r lone.history (taken r w d q) journal (Fire 0 d) lone.alone lone.run refl;
        })
        from
    act-alone Full is =
        HoldsNobody (record {
          history = lone.history ++ Done 0 d ∷ [];
          run = done-run r lone.history w journal reached.running d q there (r.with_mark q.controller (w.now + 1)) end.Full lone.run (Filled is);
          alone = alone-more r lone.history (taken r w d q) journal (Done 0 d) lone.alone lone.run refl;
        })
    act-alone (Stop at) is =
        HoldsNobody (record {
          history = lone.history ++ Done 0 d ∷ [];
          run = done-run r lone.history w journal reached.running d q there (r.with_stop q.controller at) (end.Stop at) lone.run (Halted at is);
          alone = alone-more r lone.history (taken r w d q) journal (Done 0 d) lone.alone lone.run refl;
        })
    act-alone (Idle after) is =
        HoldsNobody (record {
          history = lone.history ++ Done 0 d ∷ [];
          run = done-run r lone.history w journal reached.running d q there after end.Idle lone.run (Idled after is);
          alone = alone-more r lone.history (taken r w d q) journal (Done 0 d) lone.alone lone.run refl;
        })

  -- the worker comes to hold the controller of the first act
  module _ (w : World C D) (e : Entry) (es : List Entry) (v : World C D) (way : ActPath r w (e ∷ es) v) (reached : Reached r w) (rises : Rises (e ∷ es))
      (free : AreFree r w) (none : NoneFree r v) (journal : List Entry) (first : First r w e es v) where
    from-first : All (λ (f : Entry). first.c ≤ owner f) (e ∷ es)
    from-first =
        let is = first-owner r w e es v first in
        let P = λ (f : Entry). first.c ≤ owner f in
        All-cons P e es (omega (arith, is)) (All-weaker (NotAfter e) P (λ f from. omega (arith, is, from)) es (AllPairs-head NotAfter e es rises))

    least : (c : ℕ) (p : Place C) → slice_get w.places c ≡ Some p → is_free r w.now p ≡ true → first.c ≤ c
    least = acts-from w (e ∷ es) v first.c way reached from-first none

    holds-first : Standing r w journal (e ∷ es) → Lone r (taken r w first.c first.p) journal
    holds-first (HoldsNobody lone) = record {
      history = lone.history ++ Take 0 first.c ∷ [];
      run = take-run r lone.history w journal reached.running first.c first.p first.there lone.run first.free;
      alone = alone-more r lone.history w journal (Take 0 first.c) lone.alone lone.run
          (record {
            worker_0 = refl;
            nobody = none-any is_held w.places (λ i x at. ap (λ (o : Option ℕ). is_some o) (free i x at));
            least = position-is (is_free r w.now) w.places first.c first.p first.there first.free least;
          });
    }
    holds-first (Holds c p there is_free_p lone from) =
        let below : c ≤ owner e = All-head (λ (f : Entry). c ≤ owner f) e es from in
        let same : c ≡ first.c = omega (arith, below, first-owner r w e es v first, least c p there is_free_p) in
        let place : p ≡ first.p = same_Some p first.p (sym there ∙ ap (λ (i : ℕ). slice_get w.places i) same ∙ first.there) in
        subst (λ (s : Place C). Lone r (taken r w first.c s) journal) place (subst (λ (i : ℕ). Lone r (taken r w i p) journal) same lone)

  -- and so on to the last act
  pub run-on : (w : World C D) (es : List Entry) (v : World C D) (journal : List Entry) → ActPath r w es v → Reached r w → Rises es → AreFree r w → NoneFree r v
      → Standing r w journal es → Lone r v (journal ++ es)
  run-on w [] v journal way reached rises free none standing = by standing
    where
      here : w ≡ v
      here = headed r w [] v way

      by : Standing r w journal [] → Lone r v (journal ++ [])
      by (HoldsNobody lone) = subst (λ (l : List Entry). Lone r v l) (sym (append-nil journal)) (subst (λ (u : World C D). Lone r u journal) here lone)
      by (Holds c p there is_free_p lone from) = absurd (subst (λ (u : World C D). NoneFree r u) (sym here) none c p there is_free_p)
  run-on w (e ∷ es) v journal way reached rises free none standing =
      let first : First r w e es v = headed r w (e ∷ es) v way in
      let holds = holds-first w e es v way reached rises free none journal first standing in
      let next : Standing r (acted r w first.c first.p) (journal ++ act_entry r w.now first.c first.p ∷ []) es =
      act-alone w first.c first.p reached first.there first.free journal holds es (All-tail (λ (f : Entry). first.c ≤ owner f) e es (from-first w e es v way reached rises free none journal first))
      (r.scan first.c first.p.controller w.now).outcome refl in
      let so : Standing r (acted r w first.c first.p) (journal ++ e ∷ []) es =
      subst (λ (f : Entry). Standing r (acted r w first.c first.p) (journal ++ f ∷ []) es) first.entry next in
      subst (λ (l : List Entry). Lone r v l) (append_assoc journal (e ∷ []) es)
      (run-on (acted r w first.c first.p) es v (journal ++ e ∷ []) first.rest (act-reached r w first.c first.p reached first.there first.free)
      (AllPairs-tail NotAfter e es rises) (act-free r w first.c first.p first.there free) none so)
