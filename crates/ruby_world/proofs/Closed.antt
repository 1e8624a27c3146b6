-- Where a verdict stands nobody is held.
use Rattle.std.proofs.Common.{◌≡◌, ◌||◌, ℕ, false, Bool, List, [], ◌∷◌, Option, None, Some, IsSome, refl, ◌∙◌, ap, length}
use Rattle.std.specs.List.{list_any}
use Rattle.std.proofs.lemmas.Bool.{or_parts}
use Rattle.run_journal.specs.declared.entry.Entry.{Entry}
use Rattle.run_journal.specs.declared.event.Event.{Event}
use Rattle.run_journal.specs.declared.event.Event.TheVariants.{Turn}
use Rattle.run_journal.specs.declared.verdict.Verdict.{Verdict}
use Rattle.protocol_runs.specs.Prelude.{Change, Closes, Moves, Turns, Rules, HasEnded, IsRun, Ran, Stepped, is_busy, step, Place, World, is_due, is_held}
use Rattle.protocol_runs.proofs.Runs.{hold-along}
use Rattle.ruby_world.proofs.Holders.{turn-nobody}

module _ {C M D : Type 0} (r : Rules C M D) where
  -- where nobody is busy nobody is held
  idle-held : (now : ℕ) (places : List (Place C)) → list_any (is_busy r now) places ≡ false → list_any is_held places ≡ false
  idle-held now [] none = refl
  idle-held now (p ∷ places) none =
      let parts = or_parts (is_busy r now p) (list_any (is_busy r now) places) none in
      let held = or_parts (is_held p) (is_due r now p) parts.0 in
      ap (λ (b : Bool). b || list_any is_held places) held.0 ∙ idle-held now places parts.1

  abbrev IsClosed : Ran C D → Type 0
  IsClosed x = HasEnded x.world → list_any is_held x.world.places ≡ false

  running-not : (o : Option Verdict) → IsSome o → o ≡ None → ⊥
  running-not o some none = absurd (cc (some, none))

  change-closed : (n : ℕ) (w : World C D) (e : Event) (st : Stepped C D) → step r n w e ≡ Some st → Change r n w e st → w.verdict ≡ None → HasEnded st.world
      → list_any is_held st.world.places ≡ false
  change-closed n w e st is (Moves c p f m there move) running ended = absurd (running-not w.verdict ended running)
  change-closed n w e st is (Closes worker c idle least) running ended = idle-held w.now w.places idle
  change-closed n w e st is (Turns worker idle least) running ended = turn-nobody r n w (Turn worker) _ is refl (idle-held w.now w.places idle)

  -- where a verdict stands
  pub ended-nobody : (history : List Event) (w : World C D) (journal : List Entry) → IsRun r history w journal → HasEnded w → list_any is_held w.places ≡ false
  ended-nobody history w journal is_run =
      hold-along r IsClosed (λ x e st goes holds ended. change-closed (length x.journal) x.world e st goes.is goes.change goes.running ended)
      history w journal (λ ended. absurd (running-not None ended refl)) is_run
