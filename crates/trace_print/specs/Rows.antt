-- The lines of a machine's table: one for each pair of a state and an event that has a transition, with the machine, the state, the
-- event, the state after it, and the actions in their order. Where the machine is asked for the state after it, that is a star.
use Rattle.std.specs.Prelude.{ℕ, Option, Some, List, [], ◌∷◌, codes, map}
use Rattle.ruby_symbols.specs.declared.machine.MachineSymbols.{MachineSymbols}
use Rattle.ruby_symbols.specs.declared.machine.Next.{Next}
use Rattle.ruby_symbols.specs.declared.machine.Next.TheVariants.{To, Asked}
use Rattle.ruby_symbols.specs.declared.symbols.Symbols.{Symbols}
use Rattle.slicc_plan.specs.declared.row.Row.{Row}
use Rattle.trace_print.specs.Lines.{line_of}
use Rattle.trace_print.specs.Names.{action_word, event_word, machine_at, machine_word, state_word}

-- a dash where there are none
abbrev pub action_words : Option MachineSymbols → List ℕ → List (List ℕ)
action_words m [] = codes "-" ∷ []
action_words m (action ∷ actions) = action_word m action ∷ map (action_word m) actions

abbrev pub next_word : Symbols → Option MachineSymbols → Next → List ℕ
next_word symbols m (To state) = state_word symbols m state
next_word symbols m Asked = codes "*"

abbrev pub row_line : Symbols → Option MachineSymbols → Row → List ℕ
row_line symbols m row =
    line_of (
    machine_word m ∷ state_word symbols m row.state ∷ event_word symbols m row.event ∷ next_word symbols m row.next
    ∷ action_words m row.actions
    )

-- of the machine with this number
abbrev pub row_lines : Symbols → ℕ → List Row → List (List ℕ)
row_lines symbols machine rows = map (row_line symbols (machine_at symbols (Some machine))) rows
