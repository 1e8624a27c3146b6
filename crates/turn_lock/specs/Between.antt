-- What holds between any two steps of the threads. It follows from the rule, which also has what the steps need to keep it.
use Rattle.std.specs.Prelude.{◌≡◌, ◌≢◌, ℕ, ◌+◌, ◌%◌, ◌<◌, ◌≤◌, List, [], ◌∷◌, slice_index, Option, Some}
use mathlib.Core.Option.{some, none}
use lib.ListN.{get_elem?}
use Rattle.atomic_table.specs.Table.{State}
use Rattle.turn_lock.specs.declared.view.Stage.TheVariants.{Deals, Inside}
use Rattle.turn_lock.specs.declared.view.View.{View}
use Rattle.turn_lock.specs.Histories.{owned, IsPrefix}
use Rattle.turn_lock.specs.Tickets.{queued, queue_of}

-- at most 64 tickets are out, of which `turn` is the first and `drawn` the next that will be drawn
abbrev pub AtMost64AreOut : ℕ → ℕ → Type 0
AtMost64AreOut turn drawn = (turn ≤ drawn) × (drawn ≤ turn + 64)

module _ {P : Type 0} where
  -- the view of a pass that no other has met
  abbrev pub IsPass : View P → Type 0
  IsPass v = (v.stage ≢ Deals) × (0 < v.parts)

  abbrev pub HasTicket : View P → Type 0
  HasTicket v = queued v.stage ≡ 1

  -- views that are not spent have one plan
  abbrev pub HaveOnePlan : P → List (View P) → Type 0
  HaveOnePlan p views = (by : ℕ) (v : View P) → get_elem? views by ≡ some v → 0 < v.parts → v.plan ≡ Some p

  -- One history begins with what each pass has seen. A pass's own entries are the history's entries whose owner it is, in
  -- their order, and all of them are in what it has seen
  abbrev pub HaveOneHistory : List ℕ → List (View P) → Type 0
  HaveOneHistory log views = (by : ℕ) (v : View P) → get_elem? views by ≡ some v → IsPass v → IsPrefix v.seen log × (owned v.number log ≡ v.mine) × (owned v.number v.seen ≡ v.mine)

  -- each ticket that a seat has is out
  abbrev pub AreOut : ℕ → ℕ → List (View P) → Type 0
  AreOut turn drawn views = (by : ℕ) (v : View P) → get_elem? views by ≡ some v → HasTicket v → (turn ≤ v.ticket) × (v.ticket < drawn)

  -- no two seats have tickets that are the same modulo 2^64
  abbrev pub AreApart : List (View P) → Type 0
  AreApart views = (i j : ℕ) (v w : View P) → get_elem? views i ≡ some v → get_elem? views j ≡ some w → HasTicket v → HasTicket w → v.ticket % 18446744073709551616 ≡ w.ticket % 18446744073709551616 → i ≡ j

module _ {V P : Type 0} (plan : V → P) (history : V → List ℕ) where
  -- only the seat with the ticket that is served has the slot out: a seat that is inside has that ticket, and then the slot is out; and
  -- where the slot is out, a seat is inside
  abbrev pub OnlyServedHasSlot : ℕ → State (Option V) (View P) → Type 0
  OnlyServedHasSlot turn s =
      ((by : ℕ) (v : View P) → get_elem? s.views by ≡ some v → v.stage ≡ Inside → (v.ticket ≡ turn) × (s.homes ≡ none ∷ []))
      × (s.homes ≡ none ∷ [] → (by : ℕ) × (v : View P) × (get_elem? s.views by ≡ some v) × (v.stage ≡ Inside))

  -- For n passes: `turn` is the ticket that is served, `drawn` the next to be drawn, and `log` the one history
  pub record Between (n : ℕ) (p : P) (s : State (Option V) (View P)) : Type 0 where
    pub turn : ℕ
    pub drawn : ℕ
    pub log : List ℕ
    pub one_plan : HaveOnePlan p s.views
    pub one_history : HaveOneHistory log s.views
    pub of_passes : (k : ℕ) → n ≤ k → owned k log ≡ []
    pub next_ticket : slice_index s.words 0 ≡ drawn % 18446744073709551616
    pub served_ticket : slice_index s.words 1 ≡ turn % 18446744073709551616
    pub tickets : turn + queue_of s.views ≡ drawn
    pub at_most_64 : AtMost64AreOut turn drawn
    pub are_out : AreOut turn drawn s.views
    pub apart : AreApart s.views
    pub slot : OnlyServedHasSlot turn s
    pub value : (x : V) → s.homes ≡ some (Some x) ∷ [] → (plan x ≡ p) × (history x ≡ log)
