-- What a worker hands back of a controller that it holds. What came of a scan is said by the run's rules alone, so that a scan needs no world.
-- Its entry is then the last of the journal to which what the pass has seen leads.
use Rattle.std.specs.Prelude.{◌≡◌, ◌≢◌, ◌++◌, ◌∷◌, ℕ, List, [], length}
use Rattle.run_journal.specs.declared.entry.End.{End}
use Rattle.run_journal.specs.declared.entry.Entry.{Entry}
use Rattle.ctl_store.specs.declared.outcome.Outcome.{Outcome}
use Rattle.ruby_world.specs.declared.world.Held.{Held}
use Rattle.ruby_world.specs.Prelude.{IsScanEnded, IsScanFired}
use Rattle.sequencer.specs.Prelude.{Drive, Seat}
use Rattle.turn_lock.specs.Prelude.{Standing}
use Rattle.network_book.specs.declared.plan.RunPlan.{RunPlan}
use Rattle.network_book.specs.Plans.{After, HoldsAfter, begun}

-- the journal's entry at this place is this one, and it is the last
pub record EndsWith (place : ℕ) (e : Entry) (journal : List Entry) : Type 0 where
  pub before : List Entry
  pub is : journal ≡ before ++ e ∷ []
  pub at : length before ≡ place

module _ {D : Type 0} (drive : D → List Seat → ℕ → Drive D) where
  abbrev pub HasFired : RunPlan D → Held → Outcome → Type 0
  HasFired run h o = IsScanFired drive (begun run) h o

  abbrev pub HasDone : RunPlan D → Held → End → Type 0
  HasDone run h e = IsScanEnded drive (begun run) h e

  abbrev pub IsWritten : Standing (RunPlan D) → ℕ → Entry → Type 0
  IsWritten pass place e = After drive pass.plan pass.seen (λ v w. EndsWith place e v.journal)

module _ {D : Type 0} (least : D → ℕ) (drive : D → List Seat → ℕ → Drive D) where
  -- the pass's worker holds the controller so, by what the pass has seen
  abbrev pub HoldsBy : Standing (RunPlan D) → Held → Type 0
  HoldsBy pass h = HoldsAfter least drive pass.plan pass.seen pass.number h

  -- what the pass's worker held it still holds so, but for the controller of this number
  abbrev pub Keeps : (old new : Standing (RunPlan D)) → ℕ → Type 0
  Keeps old new c = (h : Held) → h.controller ≢ c → HoldsBy old h → HoldsBy new h

  -- but for none
  abbrev pub KeepsAll : (old new : Standing (RunPlan D)) → Type 0
  KeepsAll old new = (h : Held) → HoldsBy old h → HoldsBy new h
