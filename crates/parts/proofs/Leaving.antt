-- What an event of a worker leaves to others.
use Rattle.std.proofs.Common.{◌≡◌, ◌==◌, ◌&&◌, ℕ, Bool, false, List, Option, None, Some, ap, is_some, refl, ◌∙◌}
use Rattle.run_journal.specs.declared.event.Event.{Event}
use Rattle.protocol_runs.specs.Prelude.{is_on}
use Rattle.sequencer.specs.Prelude.{Drive, Seat}
use Rattle.ruby_world.specs.declared.world.Held.{Held}
use Rattle.ruby_world.specs.Prelude.{HasAdded, Holds, WorldView}
use Rattle.parts.specs.Held.{IsHand, IsLawful, IsSameRun, LeavesOthers}

pub none-by : {X : Type 0} (o : Option X) → is_some o ≡ false → o ≡ None
none-by None is = refl
none-by (Some x) is = absurd (cc is)

pub same-run : {D : Type 0} (v : WorldView D) → IsSameRun v v
same-run v = record { trees = refl; topology = refl; limits = refl }

-- another worker's event isn't on what one holds
pub not-on : (same what : Bool) → same ≡ false → (same && what) ≡ false
not-on same what is = ap (λ (b : Bool). b && what) is

module _ {D : Type 0} (drive : D → List Seat → ℕ → Drive D) (least : D → ℕ) where
  -- what an event leaves that isn't a worker's own
  abbrev pub Law : Type 0
  Law =
      (old new : WorldView D) (e : Event) (worker : ℕ) (h : Held) → IsLawful drive least old → IsLawful drive least new → HasAdded old e new
      → is_on worker h.controller e ≡ false → Holds drive old worker h → Holds drive new worker h

  pub leaves-none : (worker : ℕ) (v : WorldView D) → LeavesOthers drive worker v v
  leaves-none worker v = record { run = same-run v; others = λ other h apart holds. holds }

  pub leaves-by : (law : Law) (old new : WorldView D) (e : Event) (worker : ℕ) → IsLawful drive least old → IsLawful drive least new → HasAdded old e new
      → ((other c : ℕ) → (worker == other) ≡ false → is_on other c e ≡ false) → LeavesOthers drive worker old new
  leaves-by law old new e worker before after added apart = record {
    run = record { trees = added.trees; topology = added.topology; limits = added.limits };
    others = λ other h is holds. law old new e other h before after added (apart other h.controller is) holds;
  }

  pub hand-stays : (old new : WorldView D) (worker other : ℕ) (hand : Option Held) → (worker == other) ≡ false → LeavesOthers drive worker old new
      → IsHand drive old other hand → IsHand drive new other hand
  hand-stays old new worker other None apart leaves holds = holds
  hand-stays old new worker other (Some h) apart leaves holds = leaves.others other h apart holds

pub run-then : {D : Type 0} (first second third : WorldView D) → IsSameRun first second → IsSameRun second third → IsSameRun first third
run-then first second third one other = record { trees = other.trees ∙ one.trees; topology = other.topology ∙ one.topology; limits = other.limits ∙ one.limits }
