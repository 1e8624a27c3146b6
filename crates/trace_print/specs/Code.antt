-- The lines of a listing of action code: for each body its number, and then one for each of its instructions, with the instruction's
-- place in the body, its name and its operands. Those begin with two spaces. A pushed value is the name of its kind and its number: a
-- truth value is 1 or 0, a member of an enumeration has the enumeration's number before its own, an address is hexadecimal as
-- everywhere, a set of controllers is their numbers, and a block is two hexadecimal digits a byte. A reference to a line has the numbers
-- of its table and of the line, and one to nothing that of its structure. A fault is the word that a run's text has for it. That they are
-- printed so is this project's own.
use Rattle.std.specs.Prelude.{ℕ, ◌+◌, ◌^◌, Bool, true, false, Option, None, Some, List, [], ◌∷◌, ◌++◌, codes, decimal, filter, map, nat_lt}
use Rattle.std.specs.Fmt.{signed_decimal}
use Rattle.hex.specs.Hex.{encode_lower}
use Rattle.ruby_value.specs.declared.value.Ref.{Ref}
use Rattle.ruby_value.specs.declared.value.Value.{Value}
use Rattle.ruby_value.specs.declared.value.Value.TheVariants as value
use Rattle.action_code.specs.declared.instr.Code.{Code}
use Rattle.action_code.specs.declared.instr.Instr.{Instr}
use Rattle.action_code.specs.declared.instr.Instr.TheVariants as instr
use Rattle.action_code.specs.declared.program.Program.{Program}
use Rattle.trace_print.specs.Entries.{fault_words}
use Rattle.trace_print.specs.Lines.{hexadecimal, line_of}

abbrev pub truth_digit : Bool → List ℕ
truth_digit true = codes "1"
truth_digit false = codes "0"

-- the controllers of a set: each has a number of 32 bits
abbrev pub controllers_in : List ℕ → List ℕ
controllers_in members = filter (λ m. nat_lt m (2 ^ 32)) members

abbrev pub reference_words : Option Ref → (structure : ℕ) → List (List ℕ)
reference_words None structure = decimal structure ∷ []
reference_words (Some r) structure = decimal r.table ∷ decimal r.line ∷ []

-- a value, and the number that stands beside it
abbrev pub value_words : Value → (structure : ℕ) → List (List ℕ)
value_words (value.Bool b) structure = codes "Bool" ∷ truth_digit b ∷ []
value_words (value.Int n) structure = codes "Int" ∷ signed_decimal n ∷ []
value_words (value.Enum enumeration member) structure = codes "Enum" ∷ decimal enumeration ∷ decimal member ∷ []
value_words (value.Addr a) structure = codes "Addr" ∷ hexadecimal a ∷ []
value_words (value.Machine controller) structure = codes "Machine" ∷ decimal controller ∷ []
value_words (value.Dest members) structure = codes "Dest" ∷ map decimal (controllers_in members)
value_words (value.Block b) structure = codes "Block" ∷ encode_lower b.bytes ∷ []
value_words (value.Entry r) structure = codes "Entry" ∷ reference_words r structure
value_words (value.Tbe r) structure = codes "Tbe" ∷ reference_words r structure

abbrev pub instr_name : Instr → List ℕ
instr_name (instr.Push v structure) = codes "push"
instr_name (instr.Load n) = codes "load"
instr_name (instr.Store n) = codes "store"
instr_name instr.Add = codes "add"
instr_name instr.Sub = codes "sub"
instr_name instr.Mul = codes "mul"
instr_name instr.Neg = codes "neg"
instr_name instr.Not = codes "not"
instr_name instr.Lt = codes "lt"
instr_name instr.Le = codes "le"
instr_name instr.Eq = codes "eq"
instr_name (instr.Jump to) = codes "jump"
instr_name (instr.Unless to) = codes "unless"
instr_name (instr.Get field) = codes "get"
instr_name (instr.Set field) = codes "set"
instr_name (instr.Peek buffer) = codes "peek"
instr_name (instr.Infield field) = codes "infield"
instr_name instr.Unpeek = codes "unpeek"
instr_name (instr.New message) = codes "new"
instr_name (instr.Outfield field) = codes "outfield"
instr_name (instr.Setout field) = codes "setout"
instr_name (instr.Send buffer) = codes "send"
instr_name (instr.Op n on) = codes "op"
instr_name (instr.Call n) = codes "call"
instr_name (instr.Trigger event) = codes "trigger"
instr_name (instr.Stop f) = codes "stop"
instr_name instr.Ret = codes "ret"

abbrev pub operand_words : Instr → List (List ℕ)
operand_words (instr.Push v structure) = value_words v structure
operand_words (instr.Load n) = decimal n ∷ []
operand_words (instr.Store n) = decimal n ∷ []
operand_words (instr.Jump to) = decimal to ∷ []
operand_words (instr.Unless to) = decimal to ∷ []
operand_words (instr.Get field) = decimal field ∷ []
operand_words (instr.Set field) = decimal field ∷ []
operand_words (instr.Peek buffer) = decimal buffer ∷ []
operand_words (instr.Infield field) = decimal field ∷ []
operand_words (instr.New message) = decimal message ∷ []
operand_words (instr.Outfield field) = decimal field ∷ []
operand_words (instr.Setout field) = decimal field ∷ []
operand_words (instr.Send buffer) = decimal buffer ∷ []
operand_words (instr.Op n on) = decimal n ∷ decimal on ∷ []
operand_words (instr.Call n) = decimal n ∷ []
operand_words (instr.Trigger event) = decimal event ∷ []
operand_words (instr.Stop f) = fault_words f
operand_words _ = []

-- a space, and then each word after a space
abbrev pub instr_line : (at : ℕ) → Instr → List ℕ
instr_line at i = line_of (codes " " ∷ decimal at ∷ instr_name i ∷ operand_words i)

abbrev pub body_line : ℕ → List ℕ
body_line body = line_of (codes "body" ∷ decimal body ∷ [])

-- the lines of what is numbered from here on
abbrev pub lines_from : {X : Type 0} → (ℕ → X → List (List ℕ)) → ℕ → List X → List (List ℕ)
lines_from lines n [] = []
lines_from lines n (x ∷ xs) = lines n x ++ lines_from lines (n + 1) xs

abbrev pub body_lines : ℕ → Code → List (List ℕ)
body_lines body c = body_line body ∷ lines_from (λ at i. instr_line at i ∷ []) 0 c.instructions

abbrev pub code_lines : Program → List (List ℕ)
code_lines p = lines_from body_lines 0 p.bodies
