-- The code of expressions. Operands, receivers and arguments are in the order in which they are evaluated, and the value of an expression is
-- on top of the stack after its code. Tables, ports, the sequencer and messages are known as the code is written, and have no code. Of
-- `OOD` the kind is that which is expected where it stands.
use Rattle.std.specs.Prelude.{ℕ, Bool, true, false, Option, None, List, [], ◌∷◌, drop, length, slice_get}
use Rattle.std.specs.Option.{option_map}
use Rattle.slicc_ast.specs.declared.tree.expression.Operator.{Operator}
use Rattle.slicc_ast.specs.declared.tree.expression.Operator.TheVariants.{Or, And, Equal, Unequal, Less, Greater, LessOrEqual, GreaterOrEqual, Plus, Minus, Times}
use Rattle.slicc_ast.specs.declared.tree.expression.Suffix.{Suffix, Field, Method', Index}
use Rattle.slicc_ast.specs.declared.tree.expression.Expr.{Expr, Number, True, False, Nothing, Variable, Member, Call', New, Row_of-Expr, end_of-Expr, more_of-Expr, Row_of-Operand, end_of-Operand, more_of-Operand, Row_of-Suffix, end_of-Suffix, more_of-Suffix, items-the_row-Expr}
use Rattle.slicc_ast.specs.Prelude.{Operation', Not', Negate', Postfix', IsValid', IsInvalid', Cast', Group'}
use Rattle.ruby_value.specs.declared.kind.Kind.{Kind}
use Rattle.ruby_value.specs.declared.kind.Kind.TheVariants as kind
use Rattle.ruby_value.specs.declared.value.Value.TheVariants as value
use Rattle.ruby_symbols.specs.Prelude.{kind_named}
use Rattle.action_code.specs.declared.instr.Instr.{Instr}
use Rattle.action_code.specs.declared.instr.Instr.TheVariants as instr
use Rattle.action_code.specs.Prelude.{no_structure}
use Rattle.body_meaning.specs.Prelude.{Reading}
use Rattle.body_code.specs.declared.left.Left.{Left}
use Rattle.body_code.specs.declared.left.Left.TheVariants as left
use Rattle.body_code.specs.declared.left.NameAt.{NameAt}
use Rattle.body_code.specs.declared.numbers.BodyNumbers.{BodyNumbers}
use Rattle.body_code.specs.Calls.{formals_of, index, method_call, named_call}
use Rattle.body_code.specs.Fields.{field_read}
use Rattle.body_code.specs.Kinds.{entry_kind, kind_in, null, null_kind}
use Rattle.body_code.specs.Names.{member_pushed, name_read}
use Rattle.body_code.specs.Pieces.{Piece, after, giving, known, then}
use Rattle.body_code.specs.Segments.{Segment, fork, just, nothing, ◌⨾◌}

-- Operators, with their left side on the stack and the code of the right one.

abbrev pub truth : Bool → Instr
truth b = instr.Push (value.Bool b) 0

abbrev pub joined : Operator → Segment → Segment
joined Or right = fork (just (truth true ∷ [])) right
joined And right = fork right (just (truth false ∷ []))
joined Equal right = right ⨾ just (instr.Eq ∷ [])
joined Unequal right = right ⨾ just (instr.Eq ∷ instr.Not ∷ [])
joined Less right = right ⨾ just (instr.Lt ∷ [])
joined Greater right = right ⨾ just (instr.Le ∷ instr.Not ∷ [])
joined LessOrEqual right = right ⨾ just (instr.Le ∷ [])
joined GreaterOrEqual right = right ⨾ just (instr.Lt ∷ instr.Not ∷ [])
joined Plus right = right ⨾ just (instr.Add ∷ [])
joined Minus right = right ⨾ just (instr.Sub ∷ [])
joined Times right = right ⨾ just (instr.Mul ∷ [])

abbrev pub kind_joined : Operator → Kind
kind_joined Plus = kind.Int
kind_joined Minus = kind.Int
kind_joined Times = kind.Int
kind_joined _ = kind.Bool

abbrev pub operation_by : Operator → Segment → Piece
operation_by operator right = record { left = left.Value (kind_joined operator); code = joined operator right }

-- a value, and what is made of it
abbrev pub made : Kind → Piece → List Instr → Piece
made k p instructions = after p.code (giving k instructions)

-- References to nothing.

abbrev pub kind_left : Left → Kind
kind_left (left.Value k) = k
kind_left _ = kind.Entry no_structure

-- whether a reference is to nothing, and what is made of that
abbrev pub compared : Piece → List Instr → Piece
compared p instructions = made kind.Bool p (null (kind_left p.left) ∷ instr.Eq ∷ instructions)

-- the kind of the type of this name
abbrev pub kind_written : Reading → List ℕ → Option Kind
kind_written s text = option_map (kind_in s) (kind_named s.symbols s.number s.machine text)

-- in a body of a machine, where it has these names of its own
module _ (s : Reading) (n : BodyNumbers) (names : List NameAt) where
  abbrev mutual
    -- where a value of this kind is expected, if one is
    pub piece : Option Kind → Expr → Piece
    piece expected (Operation' first count others span) = then (piece None first) (λ l. operands l others)
    piece expected (Not' operand span) = made kind.Bool (piece None operand) (instr.Not ∷ [])
    piece expected (Negate' operand span) = made kind.Int (piece None operand) (instr.Neg ∷ [])
    piece expected (Postfix' inner count suffixes span) = then (piece None inner) (λ l. suffixed_all l suffixes)
    piece expected (Number k span) = giving kind.Int (instr.Push (value.Int k) 0 ∷ [])
    piece expected (True span) = giving kind.Bool (truth true ∷ [])
    piece expected (False span) = giving kind.Bool (truth false ∷ [])
    piece expected (Nothing span) = giving (null_kind expected) (null (null_kind expected) ∷ [])
    piece expected (Variable name) = name_read s names name.text
    piece expected (Member owner member span) = member_pushed s owner.text member.text
    piece expected (Call' called shape row arguments span) =
        after (all_arguments (formals_of s called.text) row) (named_call s n called.text)
    piece expected (New made span) = known left.Nothing
    piece expected (IsValid' inner span) = compared (piece None inner) (instr.Not ∷ [])
    piece expected (IsInvalid' inner span) = compared (piece None inner) []
    piece expected (Cast' target mode inner span) = piece (kind_written s target.text) inner
    piece expected (Group' inner span) = piece expected inner

    pub operands : {m : _} → Left → Row_of-Operand m → Piece
    operands l end_of-Operand = known l
    operands l (more_of-Operand operator inner row) =
        then (operation_by operator (piece None inner).code) (λ next. operands next row)

    -- behind what has left this; of the calls with a receiver one takes a reference, which is to an entry: `setMRU`
    pub suffixed : Left → Suffix → Piece
    suffixed l (Field name span) = field_read s l name.text
    suffixed l (Method' called shape row arguments span) =
        method_call s l called.text (length (items-the_row-Expr _ row)) (all_arguments (entry_kind s ∷ []) row)
    suffixed l (Index key span) = after (piece None key).code (index s l)

    pub suffixed_all : {m : _} → Left → Row_of-Suffix m → Piece
    suffixed_all l end_of-Suffix = known l
    suffixed_all l (more_of-Suffix first row) = then (suffixed l first) (λ next. suffixed_all next row)

    -- where values of these kinds are expected, as far as that is told
    pub all_arguments : {m : _} → List Kind → Row_of-Expr m → Segment
    all_arguments expected end_of-Expr = nothing
    all_arguments expected (more_of-Expr first row) =
        (piece (slice_get expected 0) first).code ⨾ all_arguments (drop 1 expected) row

  -- suffixes and arguments as lists
  abbrev pub suffixed_by : Left → List Suffix → Piece
  suffixed_by l [] = known l
  suffixed_by l (first ∷ others) = then (suffixed l first) (λ next. suffixed_by next others)

  abbrev pub piece_behind : Expr → List Suffix → Piece
  piece_behind inner suffixes = then (piece None inner) (λ l. suffixed_by l suffixes)

  abbrev pub arguments_by : List Kind → List Expr → Segment
  arguments_by expected [] = nothing
  arguments_by expected (first ∷ others) = (piece (slice_get expected 0) first).code ⨾ arguments_by (drop 1 expected) others
