-- A worker's turn under the lock that does one event, or none without memory: what comes of it for its pass and for what it holds.
use Rattle.std.proofs.Common.{◌≡◌, ◌≤◌, ◌<◌, ◌++◌, ℕ, false, List, [], ◌∷◌, Result, Ok, Err, IfOk, OnOk, OnErr, All, length, sym, ap, ◌∙◌, subst, arith}
use Rattle.std.proofs.lemmas.List.Elements.{All-cons, All-nil}
use Rattle.std.proofs.lemmas.Option.{slice_get_within}
use Rattle.run_journal.specs.declared.entry.Entry.{Entry}
use Rattle.run_journal.specs.declared.event.Event.{Event}
use Rattle.ctl_face.specs.Prelude.{Ctl, last_cycle}
use Rattle.protocol_runs.specs.Prelude.{AreOfOthers, World, is_on}
use Rattle.protocol_meaning.specs.Prelude.{FitsPlan}
use Rattle.ruby_world.specs.declared.world.Held.{Held}
use Rattle.ruby_world.specs.Prelude.{HasAdded, HasAddedAll, Holds, IsWorldOf, WorldView}
use Rattle.sequencer.specs.Prelude.{Drive, Seat}
use Rattle.turn_lock.specs.Prelude.{Adds, Continues, Standing, entering, leaving}
use Rattle.network_book.specs.declared.plan.RunPlan.{RunPlan}
use Rattle.network_book.specs.Numbers.{IsSmall, number_of, numbers_of, worker_of}
use Rattle.network_book.specs.Plans.{plan_of}
use Rattle.network_book.specs.Visits.{HasVisited}
use Rattle.network_book.specs.Posting.{EndsWith, HoldsBy, IsWritten}
use Rattle.network_book.proofs.Visiting.{HandsOver, HasActed, HasEntered, IsLawfulView, added-none, adds, after-then, holds-then, keeps, none-others, one-other, small-after, visited}

module _ {A E : Type 0} where
  -- one event, where there was memory for it
  abbrev pub events_if : Result A E → Event → List Event
  events_if (Ok a) e = e ∷ []
  events_if (Err x) e = []

  pub visited-ok : {P : Type 0} (r : Result A E) (e : Event) (old new : Standing P) → HasVisited old new (numbers_of (events_if r e)) → OnOk r (HasVisited old new (number_of e ∷ []))
  visited-ok (Ok a) e old new is = is
  visited-ok (Err x) e old new is = tt

  pub visited-err : {P : Type 0} (r : Result A E) (e : Event) (old new : Standing P) → HasVisited old new (numbers_of (events_if r e)) → OnErr r (HasVisited old new [])
  visited-err (Ok a) e old new is = tt
  visited-err (Err x) e old new is = is

  others-if : (r : Result A E) (e : Event) (worker c : ℕ) → is_on worker c e ≡ false → AreOfOthers worker c (events_if r e)
  others-if (Ok a) e worker c other = one-other worker c e other
  others-if (Err x) e worker c other = none-others worker c

  added-if : {D : Type 0} (v after : WorldView D) (r : Result A E) (e : Event) → OnOk r (HasAdded v e after) → OnErr r (after ≡ v) → HasAddedAll v (events_if r e) after
  added-if v after (Ok a) e added same = added
  added-if v after (Err x) e added same = added-none v after same

  all-if : (Q : Event → Type 0) (r : Result A E) (e : Event) → Q e → All Q (events_if r e)
  all-if Q (Ok a) e q = All-cons Q e [] q (All-nil Q)
  all-if Q (Err x) e q = All-nil Q

module _ {D : Type 0} (least : D → ℕ) (drive : D → List Seat → ℕ → Drive D) where
  abbrev pub AreFew : Type 0
  AreFew =
      (v : WorldView D) → FitsPlan v.trees v.topology → v.limits.cycles ≤ last_cycle → least v.opening ≤ length v.topology.seats
      → (w : World Ctl D) → IsWorldOf drive v w → length w.places ≤ 64

  pub entered-by : (pass inside : Standing (RunPlan D)) (book v : WorldView D) → v ≡ book → inside ≡ entering (numbers_of book.history) pass → plan_of book ≡ pass.plan
      → Continues pass.number pass.seen (numbers_of book.history) → All IsSmall v.history → IsLawfulView least drive v → HasEntered least drive pass inside v
  entered-by pass inside book v same is plan continues small lawful = record {
    is = is ∙ ap (λ (u : WorldView D). entering (numbers_of u.history) pass) (sym same);
    plan = ap plan_of same ∙ plan;
    continues = subst (λ (u : WorldView D). Continues pass.number pass.seen (numbers_of u.history)) (sym same) continues;
    small = small;
    lawful = lawful;
  }

  -- what is held has its place among 64
  pub held-small : AreFew → (v : WorldView D) → IsLawfulView least drive v → (worker : ℕ) (h : Held) → Holds drive v worker h → h.controller < 256
  held-small few v lawful worker h holds =
      let count = few v lawful.fits lawful.cycles lawful.enough lawful.world lawful.is in
      let within = slice_get_within lawful.world.places h.controller _ (holds.holding lawful.world lawful.is).held.place in
      omega (arith, count, within)

  module _ (hands : HandsOver least drive) (pass inside : Standing (RunPlan D)) (v after : WorldView D) (entered : HasEntered least drive pass inside v) {A E : Type 0}
      (r : Result A E) (e : Event) (added : OnOk r (HasAdded v e after)) (err : OnErr r (after ≡ v)) (own : worker_of e ≡ pass.number) (small : IsSmall e)
      (lawful : IsLawfulView least drive after) where
    acted : HasActed least drive pass v after (events_if r e)
    acted = record {
      added = added-if v after r e added err;
      own = all-if (λ (f : Event). worker_of f ≡ pass.number) r e own;
      small = all-if IsSmall r e small;
      lawful = lawful;
    }

    pub post-small : All IsSmall after.history
    post-small = small-after least drive hands pass inside v entered after (events_if r e) acted

    pub post-adds : Adds inside.number inside.entered (numbers_of after.history)
    post-adds = adds least drive hands pass inside v entered after (events_if r e) acted

    module _ (new : Standing (RunPlan D)) (left : new ≡ leaving (numbers_of after.history) inside) where
      pub post-visited : OnOk r (HasVisited pass new (number_of e ∷ []))
      post-visited = visited-ok r e pass new (visited least drive hands pass inside v entered after (events_if r e) acted new left)

      pub post-nothing : OnErr r (HasVisited pass new [])
      post-nothing = visited-err r e pass new (visited least drive hands pass inside v entered after (events_if r e) acted new left)

      pub post-holds : (h : Held) → Holds drive after pass.number h → HoldsBy least drive new h
      post-holds = holds-then least drive hands pass inside v entered after (events_if r e) acted new left

      pub post-keeps : (h : Held) → is_on pass.number h.controller e ≡ false → HoldsBy least drive pass h → HoldsBy least drive new h
      post-keeps h other =
          keeps least drive hands pass inside v entered after (events_if r e) acted new left h (others-if r e pass.number h.controller other)

      pub post-written : (n : ℕ) (entry : Entry) → after.journal ≡ v.journal ++ entry ∷ [] → n ≡ length v.journal → IsWritten drive new n entry
      post-written n entry journal place =
          after-then least drive hands pass inside v entered after (events_if r e) acted new left (λ u w. EndsWith n entry u.journal)
          (λ w is. record { before = v.journal; is = journal; at = sym place })

-- the same, where there was memory
pub if-written : {A E : Type 0} (r : Result A E) (P : A → Type 0) (J : Type 0) (N : A → Type 0) → ((a : A) → J → N a → P a) → OnOk r J → IfOk r N → IfOk r P
if-written (Ok a) P J N all journal place = all a journal place
if-written (Err x) P J N all journal place = tt
