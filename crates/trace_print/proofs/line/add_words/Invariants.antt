use Rattle.std.proofs.Common.{ℕ, Bool, List, ◌++◌, drop, map}
use Rattle.trace_print.specs.Prelude.{spaced, IsLinePut, word_bytes}
use Rattle.trace_print.proofs.line.add_words.Given as goal

abbrev pub invariant-loop-word : goal.invariant-loop-word
invariant-loop-word g l =
    (rest : List ℕ) (whole : Bool) (last : _) → IsLinePut g.S.Sink.writes l.sink (l.line.items ++ (spaced (map word_bytes (drop l.word-index l.words)) ++ rest)) whole last
    → IsLinePut g.S.Sink.writes l.initial.sink (l.initial.line.items ++ (spaced (map word_bytes l.words) ++ rest)) whole last
