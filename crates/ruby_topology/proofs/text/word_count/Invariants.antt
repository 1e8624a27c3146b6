use Rattle.std.proofs.Common.{◌≡◌, ◌+◌, ◌<◌, ◌≤◌, false, get_or, length}
use Rattle.ruby_topology.specs.Prelude.{is_blank, words_of}
use Rattle.ruby_topology.proofs.text.word_count.Given as goal

abbrev pub invariant-loop-rest : goal.invariant-loop-rest
invariant-loop-rest l =
    (l.count + length (words_of l.rest) ≡ length (words_of l.text))
    × (l.count + length l.rest ≤ length l.text)
    × (0 < length l.rest → is_blank (get_or l.rest 0 0) ≡ false)

abbrev pub decreases-loop-rest : goal.decreases-loop-rest
decreases-loop-rest l = length l.rest
