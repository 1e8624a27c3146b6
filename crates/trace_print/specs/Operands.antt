-- The words of an instruction's operands, as the code has them before they are bytes.
use Rattle.std.specs.Prelude.{ℕ, List, [], ◌∷◌, decimal}
use Rattle.trace_print.specs.declared.code.Operands.{Operands}
use Rattle.trace_print.specs.declared.code.Operands.TheVariants as operands
use Rattle.trace_print.specs.Entries.{fault_words}
use Rattle.trace_print.specs.Code.{value_words}

abbrev pub words_of : Operands → List (List ℕ)
words_of operands.Nothing = []
words_of (operands.Number n) = decimal n ∷ []
words_of (operands.Numbers n on) = decimal n ∷ decimal on ∷ []
words_of (operands.Value v structure) = value_words v.now structure
words_of (operands.Fault f) = fault_words f.now
