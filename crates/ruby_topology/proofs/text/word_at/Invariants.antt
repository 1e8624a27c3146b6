use Rattle.std.proofs.Common.{◌≡◌, ◌<◌, false, get_or, drop, length}
use Rattle.ruby_topology.specs.Prelude.{is_blank, words_of}
use Rattle.ruby_topology.proofs.text.word_at.Given as goal

abbrev pub invariant-loop-i : goal.invariant-loop-i
invariant-loop-i l =
    (words_of l.rest ≡ drop l._i (words_of l.text))
    × (0 < length l.rest → is_blank (get_or l.rest 0 0) ≡ false)
