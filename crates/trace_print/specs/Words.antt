-- The words of a line before they are bytes.
use Rattle.std.specs.Prelude.{ℕ, List, decimal}
use Rattle.trace_print.specs.declared.line.Word.{Word}
use Rattle.trace_print.specs.declared.line.Word.TheVariants.{Bytes, Number, Address, Numbered, Place}
use Rattle.trace_print.specs.Lines.{hexadecimal, numbered, place}

abbrev pub word_bytes : Word → List ℕ
word_bytes (Bytes bytes) = bytes.now
word_bytes (Number n) = decimal n
word_bytes (Address n) = hexadecimal n
word_bytes (Numbered name n) = numbered name.now n
word_bytes (Place file at_line column) = place file.now at_line column
