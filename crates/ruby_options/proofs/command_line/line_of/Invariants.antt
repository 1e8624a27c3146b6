use Rattle.std.proofs.Common.{◌≡◌, ◌∷◌, map, string_bytes, take}
use Rattle.ruby_options.specs.declared.tables.TheConstants.{PROGRAM}
use Rattle.ruby_options.proofs.command_line.line_of.Given as goal

abbrev pub invariant-loop-word : goal.invariant-loop-word
invariant-loop-word l = map (λ word. word.now) l.line.items ≡ PROGRAM.now ∷ map string_bytes (take l.word-index l.words)
