-- The rule of the lock's table, which holds between any two steps. Word 0 is the next ticket to be drawn and word 1 the ticket that is
-- served, both modulo 2^64; here they are counted without an end. The slot has the value, or nothing while it is out.
-- What follows from it for passes is said by `Between`.
use Rattle.std.specs.Prelude.{◌≡◌, ◌≢◌, ℕ, suc, ◌+◌, ◌%◌, ◌<◌, ◌≤◌, ◌⊎◌, Bool, true, false, List, [], ◌∷◌, length, All, slice_index, Option, Some, None}
use mathlib.Core.Option.{some, none}
use mathlib.Core.Option as maybe
use lib.ListN.{get_elem?}
use Rattle.atomic_table.specs.Table.{State, Me}
use Rattle.turn_lock.specs.declared.view.Stage.{Stage}
use Rattle.turn_lock.specs.declared.view.Stage.TheVariants.{Deals, Out, Waits, Inside}
use Rattle.turn_lock.specs.declared.view.View.{View}
use Rattle.turn_lock.specs.Histories.{owned, IsPrefix, AreOwned}
use Rattle.turn_lock.specs.Standing.{LockId, Standing}

-- how many tickets a seat has
abbrev pub queued : Stage → ℕ
queued Deals = 0
queued Out = 0
queued Waits = 1
queued Inside = 1

abbrev pub is_inside : Stage → Bool
is_inside Deals = false
is_inside Out = false
is_inside Waits = false
is_inside Inside = true

-- what a seat holds between two calls: inside, the slot, which is empty since the caller has the value
abbrev pub held_at : {V : Type 0} → Stage → List (ℕ × Option V)
held_at Deals = []
held_at Out = []
held_at Waits = []
held_at Inside = (0, None) ∷ []

module _ {P : Type 0} where
  abbrev pub queue_of : List (View P) → ℕ
  queue_of [] = 0
  queue_of (v ∷ vs) = queued v.stage + queue_of vs

  abbrev pub parts_of : List (View P) → ℕ
  parts_of [] = 0
  parts_of (v ∷ vs) = v.parts + parts_of vs

  -- the view of the seat that makes the passes, where n are still to be made and k is the next
  abbrev pub dealing : ℕ → ℕ → P → View P
  dealing n k p = record { stage = Deals; parts = n; number = k; plan = Some p; seen = []; mine = []; others = []; told = []; ticket = 0; entered = [] }

  -- the same at the start
  abbrev pub dealer : ℕ → P → View P
  dealer n p = dealing n 0 p

  -- the view of pass k, as it is made
  abbrev pub dealt : ℕ → Option P → View P
  dealt k p = record { stage = Out; parts = 1; number = k; plan = p; seen = []; mine = []; others = []; told = []; ticket = 0; entered = [] }

  -- what another's meeting leaves
  abbrev pub spent : View P
  spent = record { stage = Out; parts = 0; number = 0; plan = None; seen = []; mine = []; others = []; told = []; ticket = 0; entered = [] }

  -- what a view knows of its own and of others' entries
  abbrev pub Sound : View P → Type 0
  Sound v = (owned v.number v.seen ≡ v.mine) × AreOwned v.others v.seen

  -- what holds of a pass between two calls: its seat, beside the number and the count that the code keeps
  abbrev pub IsWhole : {V : Type 0} → P → ℕ → ℕ → Me (Option V) (View P) → Type 0
  IsWhole p number met me =
      (me.0.parts ≡ met) × (0 < met) × (met ≤ 64) × (me.0.plan ≡ Some p) × ((me.0.stage ≡ Out) ⊎ (me.0.stage ≡ Inside))
      × (me.1 ≡ held_at me.0.stage) × (me.0.told ≡ []) × Sound me.0 × (me.0.number ≡ number) × (number < 64)

  -- a pass, as callers see it
  abbrev pub standing : P → LockId → View P → Standing P
  standing p lock v = record { lock = lock; number = v.number; met = v.parts; plan = p; seen = v.seen; mine = v.mine; others = v.others; inside = is_inside v.stage; entered = v.entered }

  -- the pass k was met by another
  abbrev pub Gone : List (View P) → ℕ → Type 0
  Gone views k = (v : View P) × (get_elem? views (suc k) ≡ some v) × (v.parts ≡ 0)

  -- a pass that was met has made no entry since
  abbrev pub Kept : List (View P) → List ℕ → List ℕ → List ℕ → ℕ × List ℕ → Type 0
  Kept views log seen told o = Gone views o.0 × (owned o.0 log ≡ o.1) × ((owned o.0 seen ≡ o.1) ⊎ (owned o.0 told ≡ o.1))

  -- what holds of a pass that none has met, at the seat `by`
  pub record Lives (p : P) (views : List (View P)) (log : List ℕ) (by : ℕ) (v : View P) : Type 0 where
    pub place : by ≡ suc v.number
    pub plan : v.plan ≡ Some p
    pub begins : IsPrefix v.seen log
    pub tells : IsPrefix v.told log
    pub mine : owned v.number log ≡ v.mine
    pub known : owned v.number v.seen ≡ v.mine
    pub others : All (Kept views log v.seen v.told) v.others

  module _ (p : P) (views : List (View P)) (log : List ℕ) (turn drawn : ℕ) (seat : ℕ → ℕ) (out : Bool) (by : ℕ) (v : View P) where
    -- What holds of each seat. `seat` has for each ticket that is out the seat that drew it, so no two have one ticket
    abbrev pub Stands : Stage → Type 0
    Stands Deals = (by ≡ 0) × (v.plan ≡ Some p) × (length views ≡ suc v.number)
    Stands Out = 0 < v.parts → Lives p views log by v
    Stands Waits = (0 < v.parts) × Lives p views log by v × (turn ≤ v.ticket) × (v.ticket < drawn) × (seat v.ticket ≡ by)
    Stands Inside = (0 < v.parts) × Lives p views log by v × (v.ticket ≡ turn) × (turn < drawn) × (seat turn ≡ by) × (out ≡ true) × (v.entered ≡ log)

  -- the whole history has been seen by a pass that none has met, or is the last thing that it was told
  abbrev pub Known : List ℕ → List (View P) → Type 0
  Known log views = (j : ℕ) × (v : View P) × (get_elem? views j ≡ some v) × (v.stage ≢ Deals) × (0 < v.parts) × ((v.seen ≡ log) ⊎ (v.told ≡ log))

module _ {V P : Type 0} (plan : V → P) (history : V → List ℕ) where
  -- the slot: at home with a value of the plan and the history, or out with a seat that is inside
  abbrev pub Slot : P → List ℕ → List (View P) → List (maybe.Option (Option V)) → Bool → Type 0
  Slot p log views homes false = (x : V) × (homes ≡ some (Some x) ∷ []) × (plan x ≡ p) × (history x ≡ log)
  Slot p log views homes true = (homes ≡ none ∷ []) × ((j : ℕ) × (v : View P) × (get_elem? views j ≡ some v) × (v.stage ≡ Inside))

  -- for n passes of the plan p. `turn` and `drawn` are the tickets served and drawn, `log` is the history, `out` says
  -- that the slot is out
  pub record Rule (n : ℕ) (p : P) (s : State (Option V) (View P)) : Type 0 where
    pub turn : ℕ
    pub drawn : ℕ
    pub log : List ℕ
    pub seat : ℕ → ℕ
    pub out : Bool
    pub wide : length s.words ≡ 2
    pub ticket_is : slice_index s.words 0 ≡ drawn % 18446744073709551616
    pub serving_is : slice_index s.words 1 ≡ turn % 18446744073709551616
    pub waiting : turn + queue_of s.views ≡ drawn
    pub shared : parts_of s.views ≡ n
    pub few : n ≤ 64
    pub each : (by : ℕ) (v : View P) → get_elem? s.views by ≡ some v → Stands p s.views log turn drawn seat out by v v.stage
    pub slot : Slot p log s.views s.homes out
    pub known : (log ≡ []) ⊎ Known log s.views
    pub fresh : (k : ℕ) → length s.views ≤ suc k → owned k log ≡ []
    pub first : (d : View P) × (get_elem? s.views 0 ≡ some d) × (d.stage ≡ Deals) × (d.number + d.parts ≡ n)
