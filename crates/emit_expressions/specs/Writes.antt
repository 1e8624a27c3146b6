-- What code is written after what was written before: that of a piece, and what it leaves. Without memory nothing is said.
use Rattle.std.specs.Prelude.{◌≡◌, ◌++◌, List, Result, Ok, Err, length}
use Rattle.action_code.specs.declared.instr.Instr.{Instr}
use Rattle.ruby_base.specs.declared.memory.NoMemory.{NoMemory}
use Rattle.body_code.specs.declared.left.Left.{Left}
use Rattle.body_code.specs.Prelude.{Piece, Segment}

abbrev pub Adds : Segment → (before after : List Instr) → Type 0
Adds code before after = after ≡ before ++ code (length before)

unfoldable pub AddsIfOk : {A : Type 0} → Segment → Result A NoMemory → (before after : List Instr) → Type 0
AddsIfOk code (Ok a) before after = Adds code before after
AddsIfOk code (Err none) before after = Unit {0}

unfoldable pub Writes : Piece → Result Left NoMemory → (before after : List Instr) → Type 0
Writes p (Ok l) before after = (l ≡ p.left) × Adds p.code before after
Writes p (Err none) before after = Unit {0}
