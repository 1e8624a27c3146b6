-- A worker's turn under the lock, between what the lock gives and what it takes back.
use Rattle.std.proofs.Common.{◌≡◌, ◌≢◌, ◌≤◌, ◌++◌, ◌&&◌, ℕ, Bool, true, false, List, [], ◌∷◌, All, drop, eqb, length, refl, sym, ap, ◌∙◌, subst, append_assoc, append-nil, ne_eqb, get_or}
use Rattle.std.proofs.lemmas.List.{map-append}
use Rattle.std.proofs.lemmas.List.Prefix.{front_rest}
use Rattle.std.proofs.lemmas.List.Elements.{All-append, All-cons, All-map, All-nil}
use Rattle.std.proofs.lemmas.Option.{same_Some}
use Rattle.run_journal.specs.declared.entry.Entry.{Entry}
use Rattle.run_journal.specs.declared.event.Event.{Event}
use Rattle.ctl_face.specs.Prelude.{Ctl, last_cycle}
use Rattle.protocol_runs.specs.Prelude.{AreOfOthers, Ran, World, is_on}
use Rattle.protocol_meaning.specs.Prelude.{FitsPlan}
use Rattle.ruby_world.specs.declared.world.Held.{Held}
use Rattle.ruby_world.specs.Prelude.{HasAddedAll, Holds, InWorld, IsWorldOf, WorldView}
use Rattle.sequencer.specs.Prelude.{Drive, Seat}
use Rattle.turn_lock.specs.Prelude.{Adds, Continues, Standing, entering, leaving, owner}
use Rattle.turn_lock.proofs.Histories.{adds_more}
use Rattle.network_book.specs.declared.plan.RunPlan.{RunPlan}
use Rattle.network_book.specs.Numbers.{IsSmall, event_of, events_of, number_of, numbers_of, worker_of}
use Rattle.network_book.specs.Plans.{After, HoldsAfter, IsKnown, plan_of, view_after}
use Rattle.network_book.specs.Visits.{HasVisited, after_visit}
use Rattle.network_book.specs.Posting.{HoldsBy}
use Rattle.network_book.proofs.Numbering.{history-back, of-others, owner-of}

-- what a world's run is, and what holds of it
pub record IsLawfulView {D : Type 0} (least : D → ℕ) (drive : D → List Seat → ℕ → Drive D) (v : WorldView D) : Type 0 where
  pub fits : FitsPlan v.trees v.topology
  pub cycles : v.limits.cycles ≤ last_cycle
  pub enough : least v.opening ≤ length v.topology.seats
  pub world : World Ctl D
  pub is : IsWorldOf drive v world

module _ {D : Type 0} where
  -- the numbers of a small history tell its world
  view-back : (v : WorldView D) → All IsSmall v.history → view_after (plan_of v) (numbers_of v.history) v.journal ≡ v
  view-back v small = ap (λ (l : List Event). let u : WorldView D = record v { history = l } in u) (history-back v.history small)

  pub view-is : (run : RunPlan D) (seen : List ℕ) (v : WorldView D) → plan_of v ≡ run → numbers_of v.history ≡ seen → All IsSmall v.history → view_after run seen v.journal ≡ v
  view-is run seen v plan numbers small =
      ap (λ (q : RunPlan D). view_after q seen v.journal) (sym plan) ∙ ap (λ (l : List ℕ). view_after (plan_of v) l v.journal) (sym numbers) ∙ view-back v small

  pub plan-after : (v after : WorldView D) (events : List Event) → HasAddedAll v events after → plan_of after ≡ plan_of v
  plan-after v after events added =
      ap (λ t. let q : RunPlan D = record { plan = t; topology = after.topology; limits = after.limits; driver = after.opening } in q) added.trees
      ∙ ap (λ t. let q : RunPlan D = record { plan = v.trees; topology = t; limits = after.limits; driver = after.opening } in q) added.topology
      ∙ ap (λ l. let q : RunPlan D = record { plan = v.trees; topology = v.topology; limits = l; driver = after.opening } in q) added.limits
      ∙ ap (λ (d : D). let q : RunPlan D = record { plan = v.trees; topology = v.topology; limits = v.limits; driver = d } in q) added.opening

  pub added-none : (v after : WorldView D) → after ≡ v → HasAddedAll v [] after
  added-none v after same =
      subst (λ (u : WorldView D). HasAddedAll v [] u) (sym same)
      (record { trees = refl; topology = refl; limits = refl; opening = refl; history = sym (append-nil v.history) })

module _ {D : Type 0} (least : D → ℕ) (drive : D → List Seat → ℕ → Drive D) where
  -- a world, what it was read from, and what is said of it
  module _ (run : RunPlan D) (seen : List ℕ) (v : WorldView D) (plan : plan_of v ≡ run) (numbers : numbers_of v.history ≡ seen) (small : All IsSmall v.history)
      (is : IsLawfulView least drive v) where
    here : view_after run seen v.journal ≡ v
    here = view-is run seen v plan numbers small

    abbrev known-by : IsKnown least drive run seen
    known-by = record {
      fits = subst (λ (q : RunPlan D). FitsPlan q.plan q.topology) plan is.fits;
      cycles = subst (λ (q : RunPlan D). q.limits.cycles ≤ last_cycle) plan is.cycles;
      enough = subst (λ (q : RunPlan D). least q.driver ≤ length q.topology.seats) plan is.enough;
      journal = v.journal;
      world = is.world;
      is = subst (λ (u : WorldView D). IsWorldOf drive u is.world) (sym here) is.is;
    }

    -- the numbers lead to this world alone
    same-view : (journal : List Entry) (w : World Ctl D) → IsWorldOf drive (view_after run seen journal) w → view_after run seen journal ≡ v
    same-view journal w leads =
        let one : Ran Ctl D = record { world = w; journal = journal } in
        let two : Ran Ctl D = record { world = is.world; journal = v.journal } in
        let same : one ≡ two = same_Some one two (sym leads ∙ known-by.is) in
        ap (λ (r : Ran Ctl D). view_after run seen r.journal) same ∙ here

    after-by : (P : WorldView D → World Ctl D → Type 0) → InWorld drive v (P v) → After drive run seen P
    after-by P all =
        λ journal w leads.
        let same = same-view journal w leads in
        subst (λ (u : WorldView D). P u w) (sym same) (all w (subst (λ (u : WorldView D). IsWorldOf drive u w) same leads))

    holds-here : (worker : ℕ) (h : Held) → HoldsAfter least drive run seen worker h → Holds drive v worker h
    holds-here worker h holds = subst (λ (u : WorldView D). Holds drive u worker h) (same-view holds.known.journal holds.known.world holds.known.is) holds.holds

    holds-by : (worker : ℕ) (h : Held) → Holds drive v worker h → HoldsAfter least drive run seen worker h
    holds-by worker h holds = record { known = known-by; holds = subst (λ (u : WorldView D). Holds drive u worker h) (sym here) holds }

  -- a pass has come in, and found this world
  pub record HasEntered (pass inside : Standing (RunPlan D)) (v : WorldView D) : Type 0 where
    pub is : inside ≡ entering (numbers_of v.history) pass
    pub plan : plan_of v ≡ pass.plan
    pub continues : Continues pass.number pass.seen (numbers_of v.history)
    pub small : All IsSmall v.history
    pub lawful : IsLawfulView least drive v

  -- and what its worker has added
  pub record HasActed (pass : Standing (RunPlan D)) (v after : WorldView D) (events : List Event) : Type 0 where
    pub added : HasAddedAll v events after
    pub own : All (λ (e : Event). worker_of e ≡ pass.number) events
    pub small : All IsSmall events
    pub lawful : IsLawfulView least drive after

  abbrev pub HandsOver : Type 0
  HandsOver =
      (run : RunPlan D) (seen rest : List ℕ) (worker : ℕ) (h : Held) → IsKnown least drive run (seen ++ rest) → AreOfOthers worker h.controller (events_of rest)
      → HoldsAfter least drive run seen worker h → HoldsAfter least drive run (seen ++ rest) worker h

  module _ (hands : HandsOver) (pass inside : Standing (RunPlan D)) (v : WorldView D) (entered : HasEntered pass inside v) where
    abbrev pub found : List ℕ
    found = entered.continues.0

    found-is : numbers_of v.history ≡ pass.seen ++ found
    found-is = entered.continues.1

    pub known-found : IsKnown least drive pass.plan (pass.seen ++ found)
    known-found = known-by pass.plan (pass.seen ++ found) v entered.plan found-is entered.small entered.lawful

    pub after-found : (P : WorldView D → World Ctl D → Type 0) → InWorld drive v (P v) → After drive pass.plan (pass.seen ++ found) P
    after-found = after-by pass.plan (pass.seen ++ found) v entered.plan found-is entered.small entered.lawful

    pub holds-found : (h : Held) → HoldsBy least drive pass h → Holds drive v pass.number h
    holds-found h holds =
        holds-here pass.plan (pass.seen ++ found) v entered.plan found-is entered.small entered.lawful pass.number h
        (hands pass.plan pass.seen found pass.number h known-found (of-others pass.number h.controller found entered.continues.2) holds)

    module _ (after : WorldView D) (events : List Event) (acted : HasActed pass v after events) where
      pub small-after : All IsSmall after.history
      small-after = subst (λ (l : List Event). All IsSmall l) (sym acted.added.history) (All-append IsSmall v.history events entered.small acted.small)

      plan-then : plan_of after ≡ pass.plan
      plan-then = plan-after v after events acted.added ∙ entered.plan

      pub plan-kept : plan_of after ≡ inside.plan
      plan-kept = plan-then ∙ ap (λ (p : Standing (RunPlan D)). p.plan) (sym entered.is)

      numbers-added : numbers_of after.history ≡ numbers_of v.history ++ numbers_of events
      numbers-added = ap numbers_of acted.added.history ∙ map-append number_of v.history events

      numbers-then : numbers_of after.history ≡ (pass.seen ++ found) ++ numbers_of events
      numbers-then = numbers-added ∙ ap (λ (l : List ℕ). l ++ numbers_of events) found-is

      owners : All (λ n. owner n ≡ pass.number) (numbers_of events)
      owners =
          All-map (λ n. owner n ≡ pass.number) number_of events
          (λ k d lt. owner-of (get_or events k d) (acted.small k d lt) ∙ acted.own k d lt)

      pub adds : Adds inside.number inside.entered (numbers_of after.history)
      adds =
          subst (λ (p : Standing (RunPlan D)). Adds p.number p.entered (numbers_of after.history)) (sym entered.is)
          (subst (λ (l : List ℕ). Adds pass.number (numbers_of v.history) l) (sym numbers-added) (adds_more pass.number (numbers_of v.history) (numbers_of events) owners))

      left-is : leaving (numbers_of after.history) (entering (numbers_of v.history) pass) ≡ after_visit pass found (numbers_of events)
      left-is =
          ap (λ (l : List ℕ). let p : Standing (RunPlan D) = record pass { inside = false; seen = l; mine = pass.mine ++ drop (length (numbers_of v.history)) (numbers_of after.history); entered = [] } in p) numbers-then
          ∙ ap (λ (l : List ℕ). let p : Standing (RunPlan D) = record pass { inside = false; seen = (pass.seen ++ found) ++ numbers_of events; mine = pass.mine ++ l; entered = [] } in p)
          (front_rest (numbers_of after.history) (numbers_of v.history) (numbers_of events) numbers-added)

      module _ (new : Standing (RunPlan D)) (left : new ≡ leaving (numbers_of after.history) inside) where
        pub new-is : new ≡ after_visit pass found (numbers_of events)
        new-is = left ∙ ap (leaving (numbers_of after.history)) entered.is ∙ left-is

        abbrev pub visited : HasVisited pass new (numbers_of events)
        visited = record { found = found; of_others = entered.continues.2; is = new-is }

        pub known-then : IsKnown least drive new.plan new.seen
        known-then =
            subst (λ (p : Standing (RunPlan D)). IsKnown least drive p.plan p.seen) (sym new-is)
            (known-by pass.plan ((pass.seen ++ found) ++ numbers_of events) after plan-then numbers-then small-after acted.lawful)

        pub after-then : (P : WorldView D → World Ctl D → Type 0) → InWorld drive after (P after) → After drive new.plan new.seen P
        after-then P all =
            subst (λ (p : Standing (RunPlan D)). After drive p.plan p.seen P) (sym new-is)
            (after-by pass.plan ((pass.seen ++ found) ++ numbers_of events) after plan-then numbers-then small-after acted.lawful P all)

        pub holds-then : (h : Held) → Holds drive after pass.number h → HoldsBy least drive new h
        holds-then h holds =
            subst (λ (p : Standing (RunPlan D)). HoldsBy least drive p h) (sym new-is)
            (holds-by pass.plan ((pass.seen ++ found) ++ numbers_of events) after plan-then numbers-then small-after acted.lawful pass.number h holds)

        -- what it held otherwise it still holds
        others-then : (h : Held) → AreOfOthers pass.number h.controller events → AreOfOthers pass.number h.controller (events_of (found ++ numbers_of events))
        others-then h others =
            subst (λ (l : List Event). AreOfOthers pass.number h.controller l)
            (ap (λ (l : List Event). events_of found ++ l) (sym (history-back events acted.small)) ∙ sym (map-append event_of found (numbers_of events)))
            (All-append (λ (e : Event). is_on pass.number h.controller e ≡ false) (events_of found) events (of-others pass.number h.controller found entered.continues.2) others)

        pub keeps : (h : Held) → AreOfOthers pass.number h.controller events → HoldsBy least drive pass h → HoldsBy least drive new h
        keeps h others holds =
            let assoc : (pass.seen ++ found) ++ numbers_of events ≡ pass.seen ++ (found ++ numbers_of events) = append_assoc pass.seen found (numbers_of events) in
            let known : IsKnown least drive pass.plan (pass.seen ++ (found ++ numbers_of events)) =
            subst (λ (l : List ℕ). IsKnown least drive pass.plan l) assoc
            (known-by pass.plan ((pass.seen ++ found) ++ numbers_of events) after plan-then numbers-then small-after acted.lawful) in
            subst (λ (p : Standing (RunPlan D)). HoldsBy least drive p h) (sym new-is)
            (subst (λ (l : List ℕ). HoldsAfter least drive pass.plan l pass.number h) (sym assoc)
            (hands pass.plan pass.seen (found ++ numbers_of events) pass.number h known (others-then h others) holds))

-- no event at all is of others alone, and so is one of another controller
pub none-others : (worker c : ℕ) → AreOfOthers worker c []
none-others worker c = All-nil (λ (e : Event). is_on worker c e ≡ false)

pub one-other : (worker c : ℕ) (e : Event) → is_on worker c e ≡ false → AreOfOthers worker c (e ∷ [])
one-other worker c e other = All-cons (λ (f : Event). is_on worker c f ≡ false) e [] other (none-others worker c)

and-false : (b : Bool) → (b && false) ≡ false
and-false true = refl
and-false false = refl

pub other-controller : (by worker d c : ℕ) → d ≢ c → (eqb by worker && eqb d c) ≡ false
other-controller by worker d c other = ap (λ b. eqb by worker && b) (ne_eqb d c other) ∙ and-false (eqb by worker)
