-- Parts of the code of statements, under names by which contracts cite them, and what is kept of how a body ends. They say nothing of their
-- own: the code of statements stands in `body_code`, with these parts written out.
use Rattle.std.specs.Prelude.{ℕ, ◌≡◌, ◌++◌, Bool, true, false, Option, None, Some, Ok, List, [], ◌∷◌, if◌then◌else◌, is_some, length, option_and_then, slice_set}
use Rattle.std.specs.Option.{option_map}
use Rattle.slicc_ast.specs.declared.tree.statement.Block.{Block}
use Rattle.slicc_ast.specs.declared.tree.statement.ElseIf.{ElseIf}
use Rattle.slicc_ast.specs.declared.tree.statement.Stmt.{Stmt}
use Rattle.action_code.specs.declared.instr.Instr.{Instr}
use Rattle.action_code.specs.declared.instr.Instr.TheVariants as instr
use Rattle.body_meaning.specs.Prelude.{Reading, message_of, port_named}
use Rattle.body_code.specs.declared.left.Home.{Home}
use Rattle.body_code.specs.declared.left.Left.{Left}
use Rattle.body_code.specs.declared.left.Left.TheVariants as left
use Rattle.body_code.specs.declared.numbers.BodyNumbers.{BodyNumbers}
use Rattle.body_code.specs.declared.own.Own.{Own}
use Rattle.body_code.specs.Prelude.{Ending, Line, Segment, all_lines, goes_on, handed_on, in_block, just, nothing, scratch_for, with_locals, with_name, within}
use Rattle.body_code.specs.Statements.{chosen}
use Rattle.emit_statements.specs.declared.ending.Ending as made
use Rattle.emit_statements.specs.LineWrites.{WritesLine}

abbrev pub instructions_without : Option ℕ → List Instr
instructions_without None = instr.Ret ∷ []
instructions_without (Some next) = handed_on next

abbrev pub ending_of : made.Ending → Ending
ending_of e = record { result = e.result; without = instructions_without e.next }

-- what was left, set aside where it is a value
abbrev pub set_aside : Left → Own → Line
set_aside (left.Value k) own =
    let x = scratch_for k own.locals in goes_on (just (instr.Store x.slot ∷ [])) (with_locals x.locals own)
set_aside _ own = goes_on nothing own

-- an operation on what is on the stack, if it is one
abbrev pub operated_by : Option ℕ → Segment
operated_by None = nothing
operated_by (Some number) = just (instr.Op number 0 ∷ [])

-- what is there, and else nothing
abbrev pub line_or : Option (Own → Line) → Own → Line
line_or None own = goes_on nothing own
line_or (Some l) own = l own

module _ (s : Reading) (n : BodyNumbers) (ending : Ending) where
  -- statements that begin with this name
  abbrev pub named_block : List ℕ → Home → List Stmt → Own → Line
  named_block text h statements own = within (with_name text h own.names) (all_lines s n ending statements) own

  -- `else`, where there is one
  abbrev pub otherwise_by : Option Block → Option (Own → Line)
  otherwise_by None = None
  otherwise_by (Some b) = Some (in_block (all_lines s n ending b.statements))

  -- `else if` and what follows it, as a list
  abbrev pub others_by : Option (Own → Line) → List ElseIf → Option (Own → Line)
  others_by otherwise [] = otherwise
  others_by otherwise (e ∷ es) =
      Some (chosen s n ending e.condition (all_lines s n ending e.then.statements) (others_by otherwise es))

-- Jumps that are left open until what they pass is written.

-- an arm of an `if` that is closed: its test, at this place, leads behind it, after a jump where one is left open
abbrev pub arm_closed : (test : ℕ) → (has_jump : Bool) → List Instr → List Instr
arm_closed test true code =
    let longer = code ++ instr.Ret ∷ [] in slice_set longer test (instr.Unless (length longer))
arm_closed test false code = slice_set code test (instr.Unless (length code))

-- its jump, if one is left open, to the end
abbrev pub filled : Option ℕ → List Instr → List Instr
filled None code = code
filled (Some at) code = slice_set code at (instr.Jump (length code))

abbrev pub filled_all : List ℕ → List Instr → List Instr
filled_all [] code = code
filled_all (at ∷ others) code = filled_all others (slice_set code at (instr.Jump (length code)))

-- a run goes on after an arm that left a jump open, or after what follows
abbrev pub goes_on_after : List ℕ → Bool → Bool
goes_on_after [] other = other
goes_on_after (at ∷ others) other = true

-- What an arm of an `if` leaves to be written: what follows it, and its jump to the end.
abbrev pub WritesArm : (Option (Own → Line) → Line) → (more : Bool) → (jump : Option ℕ) → (before after : List Instr) → Own → Type 0
WritesArm arm more jump before after own =
    (rest : Option (Own → Line)) (other : Bool) (code : List Instr) (later : Own) → is_some rest ≡ more
    → WritesLine (line_or rest own) (Ok other) after code later
    → WritesLine (arm rest) (Ok (if is_some jump then true else other)) before (filled jump code) later

-- with the jump that one more arm has left open, if it has
abbrev pub with_jump : List ℕ → Option ℕ → List ℕ
with_jump jumps None = jumps
with_jump jumps (Some at) = jumps ++ at ∷ []

-- the buffer that a port is on, and the structure of its messages
abbrev pub message_at : Reading → List ℕ → Option (ℕ × ℕ)
message_at s port =
    option_and_then (λ buffer. option_map (λ structure. (buffer, structure)) (message_of s.machine buffer)) (port_named s.machine port)
