-- What each step tells the seat that makes it: the seat before, the number found, and the seat after.
use Rattle.std.specs.Prelude.{◌≡◌, ◌≢◌, ℕ, suc, ◌+◌, ◌-◌, ◌%◌, ◌≤◌, List, [], ◌∷◌, ◌++◌, length, drop, Option, Some}
use Rattle.atomic_table.specs.Table.{Me, Step}
use Rattle.turn_lock.specs.declared.view.Stage.TheVariants.{Out, Waits, Inside}
use Rattle.turn_lock.specs.declared.view.View.{View}
use Rattle.turn_lock.specs.Histories.{IsPrefix, Continues, longer}
use Rattle.turn_lock.specs.Tickets.{Sound, dealt}

module _ {P : Type 0} where
  abbrev pub waiting : ℕ → View P → View P
  waiting t v = record v { stage = Waits; ticket = t }

  abbrev pub inside : List ℕ → View P → View P
  inside log v = record v { stage = Inside; entered = log }

  abbrev pub outside : List ℕ → View P → View P
  outside log v = record v { stage = Out; seen = log; mine = v.mine ++ drop (length v.entered) log; entered = [] }

  abbrev pub longest : View P → View P
  longest v = record v { seen = longer v.seen v.told; told = [] }

  -- a dealer after one more pass, and that pass
  abbrev pub one_fewer : View P → View P
  one_fewer v = record v { parts = v.parts - 1; number = suc v.number }

  abbrev pub one_more : View P → View P
  one_more v = dealt v.number v.plan

  abbrev pub joined : View P → View P → View P
  joined v w = record v { parts = v.parts + w.parts; others = v.others ++ (w.number, w.mine) ∷ w.others; told = w.seen }

abbrev Sat : Type 0 → Type 0 → Type 0
Sat V P = Me (Option V) (View P)

module _ {V P : Type 0} where
  -- a ticket was drawn
  abbrev pub drew : Step (Option V) → Sat V P → ℕ → Sat V P → Type 0
  drew st m n m' = (t : ℕ) × (n ≡ t % 18446744073709551616) × (m' ≡ (waiting t m.0, m.1))

  -- not its turn yet, where nothing changes, or its turn, where it takes the slot with the value
  abbrev pub CameIn : (V → P) → (V → List ℕ) → Sat V P → Sat V P → Type 0
  CameIn plan history m m' = (x : V) × (m' ≡ (inside (history x) m.0, (0, Some x) ∷ m.1)) × (m.0.plan ≡ Some (plan x)) × Continues m.0.number m.0.seen (history x)

  abbrev pub looked : (V → P) → (V → List ℕ) → Step (Option V) → Sat V P → ℕ → Sat V P → Type 0
  looked plan history st m n m' = (n ≡ m.0.ticket % 18446744073709551616 → CameIn plan history m m') × (n ≢ m.0.ticket % 18446744073709551616 → m' ≡ m)

  -- the slot was given back with its value, and the next ticket is served
  abbrev pub handed : (V → List ℕ) → Step (Option V) → Sat V P → ℕ → Sat V P → Type 0
  handed history st m n m' = (x : V) → m.1 ≡ (0, Some x) ∷ [] → (m' ≡ (outside (history x) m.0, [])) × Sound m'.0

  -- what it was told and what it had seen are parts of one history, of which it now has the longer
  abbrev pub compared : Step (Option V) → Sat V P → ℕ → Sat V P → Type 0
  compared st m n m' = (m' ≡ (longest m.0, m.1)) × (m.0.parts ≤ 64) × IsPrefix m.0.seen (longest m.0).seen × IsPrefix m.0.told (longest m.0).seen × Sound (longest m.0)
