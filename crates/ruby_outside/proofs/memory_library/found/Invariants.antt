use Rattle.std.proofs.Common.{◌≡◌, drop}
use Rattle.ruby_outside.specs.Prelude.{bytes_of}
use Rattle.ruby_outside.proofs.memory_library.found.Given as goal

abbrev pub invariant-loop-file : goal.invariant-loop-file
invariant-loop-file l = bytes_of l.files l.name ≡ bytes_of (drop l.file-index l.files) l.name
