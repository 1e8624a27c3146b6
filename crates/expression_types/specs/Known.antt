-- Expressions and arguments with the first alone of what is broken in them, which is what the code knows.
use Rattle.std.specs.Prelude.{ℕ, Bool, List, map}
use Rattle.std.specs.Str.{bytes_eq}
use Rattle.slicc_ast.specs.declared.tree.machine.Machine.{Machine}
use Rattle.slicc_plan.specs.Buffers.{listed}
use Rattle.slicc_plan.specs.Prelude.{Given, Typed, first_of}

abbrev pub known : Typed → Typed
known t = record { meaning = t.meaning; written = t.written; broken = listed (first_of t.broken) }

abbrev pub known_given : Given → Given
known_given g = record { place = g.place; typed = known g.typed }

abbrev pub all_known : List Given → List Given
all_known given = map known_given given

-- the machine has this name
abbrev pub is_called : List ℕ → Machine → Bool
is_called text m = bytes_eq m.name.text text
