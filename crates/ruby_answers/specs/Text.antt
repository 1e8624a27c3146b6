-- The text of each answer, as lines. A run's are those of its journal, where it is traced, in the order that is asked for, and those
-- after it. A generated protocol's
-- run has one line that says how large the protocol was, how many transitions fired, which state is the last, and how the run ended.
-- A table has a line for each of its rows, and any other answer has one line. The texts are this project's own.
use Rattle.std.specs.Prelude.{ℕ, Bool, true, false, Option, None, Some, List, [], ◌∷◌, ◌++◌, codes, count_by, decimal, flat_map, slice_get, if◌then◌else◌}
use Rattle.std.specs.List.{concat}
use Rattle.ruby_symbols.specs.declared.symbols.Symbols.{Symbols}
use Rattle.run_journal.specs.declared.entry.Entry.{Entry}
use Rattle.run_journal.specs.declared.entry.Entry.TheVariants.{Fired, Ended, Turned}
use Rattle.run_journal.specs.declared.summary.Final.{Final}
use Rattle.cycle_order.specs.Prelude.{ordered}
use Rattle.ruby_options.specs.declared.options.Order.{Order}
use Rattle.ruby_options.specs.declared.options.Order.TheVariants.{Cycle, Journal}
use Rattle.slicc_ast.specs.declared.tree.item.Tree.{Tree}
use Rattle.slicc_files.specs.declared.gathered.Refused.{Refused as Refusal}
use Rattle.slicc_plan.specs.declared.row.Counts.{Counts}
use Rattle.slicc_plan.specs.declared.row.Row.{Row}
use Rattle.slicc_plan.specs.Prelude.{counts_of, symbols_of, numbered_from}
use Rattle.trace_print.specs.Prelude.{rest_lines, verdict_words, entry_lines, line_of, numbered, place, controller_machine, state_word, row_lines}
use Rattle.protocol_meaning.specs.declared.record.RunRecord.{RunRecord}
use Rattle.ruby_answers.specs.declared.done.Answer.{Answer}
use Rattle.ruby_answers.specs.declared.done.Answer.TheVariants.{Ran, Generated, Accepted, Tabled, Usage, Refused, Unfit, Absent, TooLarge, ReadFault}

-- Runs.

-- the entries of a journal in the order in which a run's text has them
abbrev pub in_text_order : Order → List Entry → List Entry
in_text_order Journal journal = journal
in_text_order Cycle journal = ordered journal

abbrev pub traced_lines : RunRecord → List (List ℕ)
traced_lines r =
    if r.options.trace then flat_map (entry_lines (symbols_of r.plan) r.topology.names) (in_text_order r.options.order r.journal)
    else []

-- that order of a journal, where it is another one than its own
abbrev pub reordered : Order → List Entry → Option (List Entry)
reordered Journal journal = None
reordered Cycle journal = Some (ordered journal)

abbrev pub run_lines : RunRecord → List (List ℕ)
run_lines r = traced_lines r ++ rest_lines (symbols_of r.plan) r.topology.names r.finals r.account r.verdict

abbrev pub is_fired : Entry → Bool
is_fired (Fired cycle c note consumed sent stalled woken recycled) = true
is_fired (Ended cycle c end) = false
is_fired (Turned cycle issued finding verdict) = false

-- the state of a final, where there is one
abbrev pub final_word : Symbols → List (List ℕ) → Option Final → List ℕ
final_word symbols names None = codes "-"
final_word symbols names (Some f) = state_word symbols (controller_machine symbols names f.controller) f.state

abbrev pub generated_line : RunRecord → List ℕ
generated_line r =
    let c = counts_of r.plan in
    line_of (
    codes "gen" ∷ decimal r.options.count ∷ codes "states" ∷ decimal c.states ∷ codes "fired" ∷ decimal (count_by is_fired r.journal)
    ∷ codes "final" ∷ final_word (symbols_of r.plan) r.topology.names (slice_get r.finals 0)
    ∷ verdict_words r.topology.names r.verdict
    )

-- Protocols.

abbrev pub accepted_line : Counts → List ℕ
accepted_line c =
    line_of (
    codes "accepted" ∷ codes "machines" ∷ decimal c.machines ∷ codes "states" ∷ decimal c.states ∷ codes "events"
    ∷ decimal c.events ∷ codes "pairs" ∷ decimal c.pairs ∷ []
    )

-- of tables, machine by machine
abbrev pub table_lines : List Tree → List (List Row) → List (List ℕ)
table_lines trees tables = numbered_from (row_lines (symbols_of trees)) 0 tables

-- Refusals.

-- the second place of a refusal, where there is one
abbrev pub second_place : Option (List ℕ × ℕ × ℕ) → List (List ℕ)
second_place None = []
second_place (Some (file, at_line, column)) = codes "also" ∷ place file at_line column ∷ []

abbrev pub refused_line : Refusal → List ℕ
refused_line r = line_of (codes "refused" ∷ place r.file r.line r.column ∷ r.code ∷ second_place r.other)

-- the rule of a topology that is broken, and the line of its file
abbrev pub unfit_line : ℕ → ℕ → List ℕ
unfit_line rule at_line = line_of (codes "topology" ∷ decimal at_line ∷ numbered (codes "T") rule ∷ [])

abbrev pub usage_line : List ℕ
usage_line = line_of (codes "usage: ruby run PROTOCOL TOPOLOGY, check PROTOCOL, table PROTOCOL, code PROTOCOL, gen N" ∷ [])

-- All answers.

abbrev pub lines_of : Answer → List (List ℕ)
lines_of (Ran r) = run_lines r
lines_of (Generated r) = generated_line r ∷ []
lines_of (Accepted counts) = accepted_line counts ∷ []
lines_of (Tabled trees tables) = table_lines trees tables
lines_of Usage = usage_line ∷ []
lines_of (Refused refusal) = refused_line refusal ∷ []
lines_of (Unfit rule at_line) = unfit_line rule at_line ∷ []
lines_of (Absent name) = line_of (codes "absent" ∷ name ∷ []) ∷ []
lines_of (TooLarge name) = line_of (codes "too" ∷ codes "large" ∷ name ∷ []) ∷ []
lines_of (ReadFault name) = line_of (codes "library" ∷ codes "fault" ∷ name ∷ []) ∷ []

-- the journal of an answer in the order of its text, where it is another one than its own
abbrev pub text_journal : Answer → Option (List Entry)
text_journal (Ran r) = reordered r.options.order r.journal
text_journal (Generated r) = None
text_journal (Accepted counts) = None
text_journal (Tabled trees tables) = None
text_journal Usage = None
text_journal (Refused refusal) = None
text_journal (Unfit rule at_line) = None
text_journal (Absent name) = None
text_journal (TooLarge name) = None
text_journal (ReadFault name) = None

-- all the bytes
abbrev pub text_of : Answer → List ℕ
text_of a = concat (lines_of a)
