-- The lines that follow a run's journal: one for each final state, one that says where the messages are, and one that says how the run
-- ended.
use Rattle.std.specs.Prelude.{ℕ, List, [], ◌∷◌, ◌++◌, codes, decimal, map}
use Rattle.ruby_symbols.specs.declared.symbols.Symbols.{Symbols}
use Rattle.run_journal.specs.declared.summary.Account.{Account}
use Rattle.run_journal.specs.declared.summary.Final.{Final}
use Rattle.run_journal.specs.declared.verdict.Verdict.{Verdict}
use Rattle.run_journal.specs.declared.verdict.Verdict.TheVariants as verdict
use Rattle.trace_print.specs.Lines.{hexadecimal, line_of}
use Rattle.trace_print.specs.Names.{controller_machine, controller_word, state_word}

abbrev pub final_line : Symbols → List (List ℕ) → Final → List ℕ
final_line symbols names f =
    line_of (
    codes "final" ∷ controller_word names f.controller ∷ hexadecimal f.address
    ∷ state_word symbols (controller_machine symbols names f.controller) f.state ∷ []
    )

abbrev pub account_line : Account → List ℕ
account_line a =
    line_of (
    codes "messages" ∷ decimal a.sent ∷ codes "consumed" ∷ decimal a.consumed ∷ codes "queued" ∷ decimal a.queued
    ∷ codes "stalled" ∷ decimal a.stalled ∷ codes "recycled" ∷ decimal a.recycled ∷ []
    )

-- which verdict it is and its cycle, and then what belongs to it
abbrev pub verdict_words : List (List ℕ) → Verdict → List (List ℕ)
verdict_words names (verdict.Stop cycle c) = codes "stop" ∷ decimal cycle ∷ controller_word names c ∷ []
verdict_words names (verdict.Incoherent cycle c address offset expected found) =
    codes "incoherent" ∷ decimal cycle ∷ controller_word names c ∷ hexadecimal address ∷ decimal offset ∷ decimal expected
    ∷ decimal found ∷ []
verdict_words names (verdict.Deadlock cycle c address issued) =
    codes "deadlock" ∷ decimal cycle ∷ controller_word names c ∷ hexadecimal address ∷ decimal issued ∷ []
verdict_words names (verdict.Passed cycle checks) = codes "passed" ∷ decimal cycle ∷ decimal checks ∷ []
verdict_words names (verdict.Quiet cycle) = codes "quiet" ∷ decimal cycle ∷ []
verdict_words names (verdict.Cycles cycle) = codes "cycles" ∷ decimal cycle ∷ []
verdict_words names (verdict.Journal cycle entries) = codes "journal" ∷ decimal cycle ∷ decimal entries ∷ []
verdict_words names (verdict.Mail cycle messages) = codes "mail" ∷ decimal cycle ∷ decimal messages ∷ []

abbrev pub verdict_line : List (List ℕ) → Verdict → List ℕ
verdict_line names v = line_of (codes "verdict" ∷ verdict_words names v)

abbrev pub rest_lines : Symbols → List (List ℕ) → List Final → Account → Verdict → List (List ℕ)
rest_lines symbols names finals account v = map (final_line symbols names) finals ++ account_line account ∷ verdict_line names v ∷ []
