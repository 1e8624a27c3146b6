-- What is known of a run at a place of a body before it is run: the kinds on the stack from the top down, and the types of the open inner
-- messages and of the open out messages, the one that is open innermost first. And which operands a stack has.
use Rattle.std.specs.Prelude.{ℕ, Bool, true, false, ◌&&◌, Option, List, [], ◌∷◌}
use Rattle.std.specs.Str.{bytes_eq}
use Rattle.ruby_value.specs.declared.kind.Kind.{Kind}
use Rattle.ruby_value.specs.Prelude.{same_kinds}
use Rattle.action_code.specs.declared.operand.Operand.{Operand}
use Rattle.action_code.specs.declared.program.MachineDecl.{MachineDecl}
use Rattle.action_code.specs.declared.shape.Shape.{Shape}
use Rattle.action_code.specs.Operations.{accepts}

-- as a body begins, and where no way leads
abbrev pub empty_shape : Shape
empty_shape = record { stack = []; inner = []; made = [] }

abbrev pub same_shape : Shape → Shape → Bool
same_shape a b = same_kinds a.stack b.stack && bytes_eq a.inner b.inner && bytes_eq a.made b.made

-- whether a stack has these operands on top
abbrev pub operands_fit : Option MachineDecl → ℕ → List Operand → List Kind → Bool
operands_fit m on [] stack = true
operands_fit m on (o ∷ operands) [] = false
operands_fit m on (o ∷ operands) (k ∷ stack) = accepts m on o k && operands_fit m on operands stack
