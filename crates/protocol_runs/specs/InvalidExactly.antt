-- The fault `invalid` comes exactly where a port triggers a pair of state and event for which no transition is written. Which
-- pairs the ports of a scan have triggered, the scan tells. What is known of such a stop is the address, the state and the
-- event of that pair. Where a scan tried such a pair, the controller doesn't fire either.
use Rattle.std.specs.Prelude.{◌≡◌, ◌++◌, ℕ, Some, false, List, ◌∷◌, slice_get, Contains}
use Rattle.ruby_value.specs.declared.fault.Fault.TheVariants.{Invalid}
use Rattle.run_journal.specs.declared.entry.End.{End}
use Rattle.run_journal.specs.declared.entry.End.TheVariants as end
use Rattle.run_journal.specs.declared.entry.Entry.{Entry}
use Rattle.run_journal.specs.declared.entry.Entry.TheVariants.{Ended}
use Rattle.run_journal.specs.declared.entry.StopAt.{StopAt}
use Rattle.run_journal.specs.declared.event.Event.{Event}
use Rattle.run_journal.specs.declared.event.Event.TheVariants.{Done, Fire}
use Rattle.protocol_runs.specs.RunRules.{Rules, Tried}
use Rattle.protocol_runs.specs.World.{Place, World}
use Rattle.protocol_runs.specs.Run.{IsRun}

abbrev pub invalid_at : Tried → StopAt
invalid_at t =
    record { address = Some t.address; state = Some t.state; event = Some t.event; fault = Invalid }

module _ {C M D : Type 0} (r : Rules C M D) where
  -- the scan of this controller tried this pair, for which no transition is written
  pub record IsInvalidTry (c : ℕ) (x : C) (now : ℕ) (t : Tried) : Type 0 where
    pub tried : Contains (r.scan c x now).tried t
    pub no_row : r.has_row c t.state t.event ≡ false

  -- this is how a wake-up ended: as `invalid` exactly where the scan tried a pair without a transition, and then with that
  -- address, state and event
  pub record IsExact (c : ℕ) (x : C) (now : ℕ) (e : End) : Type 0 where
    pub caused :
        (at : StopAt) → e ≡ end.Stop at → at.fault ≡ Invalid
        → (t : Tried) × (at ≡ invalid_at t) × IsInvalidTry c x now t
    pub comes : (t : Tried) → IsInvalidTry c x now t → e ≡ end.Stop (invalid_at t)

  pub record IsEndedExactly (w : World C D) (c : ℕ) (p : Place C) (sofar journal : List Entry) (e : End) : Type 0 where
    pub later : List Entry
    pub entry : journal ≡ sofar ++ Ended w.now c e ∷ later
    pub exact : IsExact c p.controller w.now e

  -- over a history: each Done has its entry, which says `invalid` exactly so
  abbrev pub EndsExactly : List Event → List Entry → Type 0
  EndsExactly history journal =
      (before after : List Event) (worker c : ℕ) (w : World C D) (sofar : List Entry) (p : Place C)
      → history ≡ before ++ Done worker c ∷ after
      → IsRun r before w sofar
      → slice_get w.places c ≡ Some p
      → (e : End) × IsEndedExactly w c p sofar journal e

  -- over a history: no Fire comes where the scan tries a pair without a transition
  abbrev pub NeverFires : List Event → Type 0
  NeverFires history =
      (before after : List Event) (worker c : ℕ) (w : World C D) (sofar : List Entry) (p : Place C) (t : Tried)
      → history ≡ before ++ Fire worker c ∷ after
      → IsRun r before w sofar
      → slice_get w.places c ≡ Some p
      → IsInvalidTry c p.controller w.now t
      → ⊥

  pub record InvalidExactly (history : List Event) (journal : List Entry) : Type 0 where
    pub ends : EndsExactly history journal
    pub never_fires : NeverFires history
