-- The code of an expression, and what it leaves: a value on top of the stack, or something that is known as the code is written.
use Rattle.std.specs.Prelude.{Option, None, Some, List}
use Rattle.ruby_value.specs.declared.kind.Kind.{Kind}
use Rattle.action_code.specs.declared.instr.Instr.{Instr}
use Rattle.body_code.specs.declared.left.Left.{Left}
use Rattle.body_code.specs.declared.left.Left.TheVariants as left
use Rattle.body_code.specs.Segments.{Segment, nothing, just, ◌⨾◌}

pub record Piece : Type 0 where
  pub left : Left
  pub code : Segment

-- known, and no code
abbrev pub known : Left → Piece
known l = record { left = l; code = nothing }

-- a value of this kind by these instructions
abbrev pub giving : Kind → List Instr → Piece
giving k instructions = record { left = left.Value k; code = just instructions }

-- with code before it
abbrev pub after : Segment → Piece → Piece
after before p = record { left = p.left; code = before ⨾ p.code }

-- the one, and then the other by what that has left
abbrev pub then : Piece → (Left → Piece) → Piece
then a next = after a.code (next a.left)

-- what may be missing, which it isn't in an accepted protocol
abbrev pub or_none : Option Piece → Piece
or_none None = known left.Nothing
or_none (Some p) = p
