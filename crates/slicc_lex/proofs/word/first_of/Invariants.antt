use Rattle.std.proofs.Common.{◌≡◌, drop, find}
use Rattle.std.specs.Str.{bytes_eq}
use Rattle.slicc_lex.specs.Prelude.{word_bytes}
use Rattle.slicc_lex.proofs.word.first_of.Given as goal

-- what the list has is what is left of it has
abbrev pub invariant-loop-word : goal.invariant-loop-word
invariant-loop-word l = find (λ word. bytes_eq l.text (word_bytes word)) l.words ≡ find (λ word. bytes_eq l.text (word_bytes word)) (drop l.word-index l.words)
