-- In a run no mark is lost before its cycle.
use Rattle.std.proofs.Common.{◌≡◌, ◌<◌, ◌≤◌, ℕ, Option, None, Some, List, IsTrue, length, refl, sym, ap, subst, ◌∙◌, slice_get, slice_set}
use Rattle.std.proofs.lemmas.Option.{slice_get-map}
use Rattle.std.specs.Option.{option_map}
use Rattle.run_journal.specs.declared.entry.Entry.{Entry}
use Rattle.run_journal.specs.declared.event.Event.{Event}
use Rattle.protocol_runs.specs.Prelude.{Rules, Place, World, Stepped, begun_place, with_moved, step, IsRun, IsSound, KeepsMarks, Change, Moves, Closes, Turns, MarksStay, marked_at, driven_world, IsOutcome, StopsAt, EndsWith, ContinuesAt}
use Rattle.protocol_runs.proofs.Outcomes.{change-outcome}
use Rattle.protocol_runs.proofs.Steps.{step-changes, step-running}
use Rattle.protocol_runs.proofs.Places.{AreLater, set-at}
use Rattle.protocol_runs.proofs.Fitting.{move-keeps, moved-grown, drive-grown, WorldFits, world-fits}

module _ {C M D : Type 0} (r : Rules C M D) where
  later-marked : (now cycle : ℕ) → now < cycle → (o u : Option (Place C)) → AreLater r now o u → IsTrue (marked_at r cycle o) → IsTrue (marked_at r cycle u)
  later-marked now cycle above None u later has = absurd (cc has)
  later-marked now cycle above (Some p) None later has = absurd later
  later-marked now cycle above (Some p) (Some q) later has = later.later cycle above has

  begun-marked : KeepsMarks r → (next cycle : ℕ) → next ≤ cycle → (o : Option (Place C)) → IsTrue (marked_at r cycle o) → IsTrue (marked_at r cycle (option_map (begun_place r next) o))
  begun-marked keeps next cycle within None has = has
  begun-marked keeps next cycle within (Some p) has = keeps.begins p.controller next cycle within ∙ has

module _ {C M D : Type 0} (r : Rules C M D) (Fits : ℕ → C → ℕ → Type 0) (Suits : ℕ → M → ℕ → Type 0) (Leads : D → ℕ → ℕ → Type 0) (sound : IsSound r Fits Suits Leads) (keeps : KeepsMarks r) where
  turn-marked : (n : ℕ) (w : World C D) (st : Stepped C D) → IsOutcome r n w st → w.verdict ≡ None → WorldFits r Fits Suits Leads sound w → MarksStay r w st.world
  turn-marked n w st (StopsAt c least) running fits d cycle above within has = has
  turn-marked n w st (EndsWith v nobody comes) running fits d cycle above within has =
      let grown = drive-grown r Fits Suits Leads sound w running fits in
      later-marked r w.now cycle above (slice_get w.places d) (slice_get (driven_world r w).places d) (grown.later d) has
  turn-marked n w st (ContinuesAt next nobody on) running fits d cycle above within has =
      let grown = drive-grown r Fits Suits Leads sound w running fits in
      let driven = later-marked r w.now cycle above (slice_get w.places d) (slice_get (driven_world r w).places d) (grown.later d) has in
      subst (λ (o : Option (Place C)). IsTrue (marked_at r cycle o)) (sym (slice_get-map (begun_place r next) (driven_world r w).places d))
      (begun-marked r keeps next cycle within (slice_get (driven_world r w).places d) driven)

  change-marked : (n : ℕ) (w : World C D) (e : Event) (st : Stepped C D) → Change r n w e st → w.verdict ≡ None → WorldFits r Fits Suits Leads sound w → MarksStay r w st.world
  change-marked n w e st (Moves c p f m there move) running fits d cycle above within has =
      let moved = move-keeps r Fits Suits Leads sound w.now c p e m (fits.fit c p there) move in
      let grown = moved-grown r Fits Suits Leads sound w c p e m there move fits in
      let set = slice_set w.places c m.place in
      let changed : IsTrue (marked_at r cycle (slice_get set d)) =
      set-at (λ (o : Option (Place C)). IsTrue (marked_at r cycle o)) w.places c d p m.place there
      (λ same. moved.later cycle above (subst (λ (o : Option (Place C)). IsTrue (marked_at r cycle o)) (ap (λ (i : ℕ). slice_get w.places i) (sym same) ∙ there) has))
      (λ apart. has) in
      later-marked r w.now cycle above (slice_get set d) (slice_get (with_moved r w c m).places d) (grown.later d) changed
  change-marked n w e st (Closes worker c idle least) running fits d cycle above within has =
      turn-marked n w st (change-outcome r n w e st (Closes worker c idle least) refl) running fits d cycle above within has
  change-marked n w e st (Turns worker idle least) running fits d cycle above within has =
      turn-marked n w st (change-outcome r n w e st (Turns worker idle least) refl) running fits d cycle above within has

  pub marks-stay : (history : List Event) (e : Event) (w : World C D) (journal : List Entry) (st : Stepped C D) → IsRun r history w journal
      → step r (length journal) w e ≡ Some st → MarksStay r w st.world
  marks-stay history e w journal st is goes =
      change-marked (length journal) w e st (step-changes r (length journal) w e st goes) (step-running r (length journal) w e st goes)
      (world-fits r Fits Suits Leads sound history w journal is)
