-- The lines of a run's journal: one for each fired transition, and one for each fault. Other entries have none.
use Rattle.std.specs.Prelude.{ℕ, Option, List, [], ◌∷◌, codes, decimal}
use Rattle.ruby_symbols.specs.declared.machine.MachineSymbols.{MachineSymbols}
use Rattle.ruby_symbols.specs.declared.symbols.Symbols.{Symbols}
use Rattle.ruby_value.specs.declared.fault.Fault.{Fault}
use Rattle.ruby_value.specs.declared.fault.Fault.TheVariants as fault
use Rattle.run_journal.specs.declared.entry.End.{End}
use Rattle.run_journal.specs.declared.entry.End.TheVariants as end
use Rattle.run_journal.specs.declared.entry.Entry.{Entry}
use Rattle.run_journal.specs.declared.entry.Entry.TheVariants as entry
use Rattle.run_journal.specs.declared.entry.FireNote.{FireNote}
use Rattle.run_journal.specs.declared.entry.StopAt.{StopAt}
use Rattle.trace_print.specs.Lines.{hexadecimal, known, line_of}
use Rattle.trace_print.specs.Names.{controller_machine, controller_word, event_word, state_word}

abbrev pub fault_word : Fault → List ℕ
fault_word fault.Invalid = codes "invalid"
fault_word fault.Assert = codes "assert"
fault_word (fault.Error given) = codes "error"
fault_word fault.Overflow = codes "overflow"
fault_word fault.Latency = codes "latency"
fault_word fault.Reference = codes "reference"
fault_word fault.Front = codes "front"
fault_word fault.Full = codes "full"
fault_word fault.Present = codes "present"
fault_word fault.Absent = codes "absent"
fault_word fault.Probe = codes "probe"
fault_word fault.Callback = codes "callback"
fault_word fault.Route = codes "route"
fault_word fault.Copies = codes "copies"

-- the text that the protocol gave with `error` follows that word as it stands
abbrev pub fault_words : Fault → List (List ℕ)
fault_words (fault.Error given) = codes "error" ∷ given ∷ []
fault_words f = fault_word f ∷ []

-- of a controller with this name, whose machine is m
abbrev pub fired_line : Symbols → Option MachineSymbols → ℕ → List ℕ → FireNote → List ℕ
fired_line symbols m cycle name note =
    line_of (
    decimal cycle ∷ name ∷ hexadecimal note.address ∷ state_word symbols m note.state ∷ event_word symbols m note.event
    ∷ state_word symbols m note.next ∷ []
    )

abbrev pub stop_line : Symbols → Option MachineSymbols → ℕ → List ℕ → StopAt → List ℕ
stop_line symbols m cycle name at =
    line_of (
    codes "stop" ∷ decimal cycle ∷ name ∷ known hexadecimal at.address ∷ known (state_word symbols m) at.state
    ∷ known (event_word symbols m) at.event ∷ fault_words at.fault
    )

abbrev pub end_lines : Symbols → Option MachineSymbols → ℕ → List ℕ → End → List (List ℕ)
end_lines symbols m cycle name end.Idle = []
end_lines symbols m cycle name end.Full = []
end_lines symbols m cycle name (end.Stop at) = stop_line symbols m cycle name at ∷ []

-- `names` are those of the controllers, by number
abbrev pub entry_lines : Symbols → List (List ℕ) → Entry → List (List ℕ)
entry_lines symbols names (entry.Fired cycle c note consumed sent stalled woken recycled) =
    fired_line symbols (controller_machine symbols names c) cycle (controller_word names c) note ∷ []
entry_lines symbols names (entry.Ended cycle c end) =
    end_lines symbols (controller_machine symbols names c) cycle (controller_word names c) end
entry_lines symbols names (entry.Turned cycle issued finding verdict) = []
