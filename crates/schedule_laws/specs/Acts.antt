-- What one scan does to a controller that is due and that nobody holds, as one act: it fires, and what it sent comes to the receivers, or
-- its wake-up ends. That a worker takes the controller before, and gives it back after, is nothing to the world but while it lasts. So a
-- cycle of a run is a list of acts, each of which is what the world makes it; who does them isn't said.
use Rattle.std.specs.Prelude.{◌≡◌, ◌≤◌, ◌+◌, ℕ, Some}
use Rattle.ruby_value.specs.declared.message.MsgNo.{MsgNo}
use Rattle.run_journal.specs.declared.entry.End.TheVariants as end
use Rattle.run_journal.specs.declared.entry.Entry.{Entry}
use Rattle.run_journal.specs.declared.entry.Entry.TheVariants as entry
use Rattle.protocol_runs.specs.Prelude.{Fired, Full, Idle, Moved, Outcome, Place, Rules, Stop, World, fired_entry, given_back, times, with_arrival, with_controller, with_moved}

module _ {C M D : Type 0} (r : Rules C M D) where
  -- what becomes of a place, by what the scan of its controller answers
  abbrev pub act_by : (now c : ℕ) → Place C → Outcome C M → Moved C M
  act_by now c p (Fired note acts copies after) =
      record { place = with_controller p (r.with_one_fired after); copies = copies; entry = Some (fired_entry now c note acts) }
  act_by now c p Full = given_back r now c (r.with_mark p.controller (now + 1)) end.Full
  act_by now c p (Stop at) = given_back r now c (r.with_stop p.controller at) (end.Stop at)
  act_by now c p (Idle after) = given_back r now c after end.Idle

  abbrev pub act : (now c : ℕ) → Place C → Moved C M
  act now c p = act_by now c p (r.scan c p.controller now).outcome

  -- its entry
  abbrev pub entry_by : (now c : ℕ) → Outcome C M → Entry
  entry_by now c (Fired note acts copies after) = fired_entry now c note acts
  entry_by now c Full = entry.Ended now c end.Full
  entry_by now c (Stop at) = entry.Ended now c (end.Stop at)
  entry_by now c (Idle after) = entry.Ended now c end.Idle

  abbrev pub act_entry : (now c : ℕ) → Place C → Entry
  act_entry now c p = entry_by now c (r.scan c p.controller now).outcome

  -- the world after it
  abbrev pub acted_by : World C D → ℕ → Place C → Outcome C M → World C D
  acted_by w c p o = with_moved r w c (act_by w.now c p o)

  abbrev pub acted : World C D → ℕ → Place C → World C D
  acted w c p = acted_by w c p (r.scan c p.controller w.now).outcome

  -- no number is in both, nor twice in one
  abbrev pub DifferInNumbers : M → M → Type 0
  DifferInNumbers a b = (number : MsgNo) → times number (r.numbers a) + times number (r.numbers b) ≤ 1

  -- two that come to a controller may come in either order, where their numbers differ; so may those that have none
  abbrev pub ArrivalsSwap : Type 0
  ArrivalsSwap =
      (x : C) (a b : M) → DifferInNumbers a b → with_arrival r (with_arrival r x a) b ≡ with_arrival r (with_arrival r x b) a
