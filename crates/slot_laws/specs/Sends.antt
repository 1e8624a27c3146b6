-- How many messages a body sends at most on a buffer or to its network, whatever its acts answer, as far as it comes. Each send counts
-- once, however many receivers its message names: none of them gets two copies.
use Rattle.std.specs.Prelude.{ℕ, ◌-◌, ◌≤◌, cond}
use Rattle.ruby_symbols.specs.declared.machine.MachineSymbols.{MachineSymbols}
use Rattle.acts.specs.Act as act
use Rattle.acts.specs.Prelude.{Act, answer, Acting, ends, stops, acts}
use Rattle.body_meaning.specs.Actions.{counts_for}

-- what one act counts
abbrev pub sent_by : MachineSymbols → (buffer : ℕ) → Act → ℕ
sent_by m buffer (act.Send other latency fields) = cond (counts_for m buffer other) 1 0
sent_by m buffer _ = 0

-- its acts count at most n together
abbrev pub CountsAtMost : {A : Type 0} → (Act → ℕ) → ℕ → Acting A → Type 0
CountsAtMost count n (ends x) = Unit {0}
CountsAtMost count n (stops f) = Unit {0}
CountsAtMost count n (acts a more) = (count a ≤ n) × ((x : answer a) → CountsAtMost count (n - count a) (more x))

abbrev pub SendsAtMost : {A : Type 0} → MachineSymbols → (buffer : ℕ) → ℕ → Acting A → Type 0
SendsAtMost m buffer n p = CountsAtMost (sent_by m buffer) n p
