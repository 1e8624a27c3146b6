-- What the bodies of a machine are made of, part by part, in the order of the text. Each statement is a part, and in expressions
-- each operator, name, literal, call, field and index. Parentheses are none, and neither are the type and the name of a local,
-- the port and the type of a `peek` or an `enqueue`, and what a text for a trace is made of. That it is these is this project's
-- own choice.
use Rattle.std.specs.Prelude.{ℕ, ◌&&◌, ◌||◌, Bool, true, false, not, is_none, is_some, cond, Option, None, Some, List, [], ◌∷◌, ◌++◌, flat_map, fold, length, map, position}
use Rattle.std.specs.List.{list_any}
use Rattle.std.specs.Str.{bytes_eq}
use Rattle.slicc_ast.specs.declared.tree.span.Span.{Span}
use Rattle.slicc_ast.specs.declared.tree.machine.Machine.{Machine}
use Rattle.slicc_ast.specs.declared.tree.machine.Decl.{Decl}
use Rattle.slicc_ast.specs.declared.tree.machine.Decl.TheVariants.{InPort, Action, Function}
use Rattle.slicc_ast.specs.declared.tree.declaration.Function.TheVariants.{Plain as PlainFunction, Skipped}
use Rattle.slicc_ast.specs.declared.tree.expression.Suffix.{Suffix, Field, Method', Index}
use Rattle.slicc_ast.specs.declared.tree.expression.Expr.{Expr, Variable, Call', Row_of-Expr, end_of-Expr, more_of-Expr, Row_of-Operand, end_of-Operand, more_of-Operand, Row_of-Suffix, end_of-Suffix, more_of-Suffix}
use Rattle.slicc_ast.specs.Prelude.{Operation', Not', Negate', Postfix', IsValid', IsInvalid', Cast', Group'}
use Rattle.slicc_ast.specs.declared.tree.statement.Block.{Block}
use Rattle.slicc_ast.specs.declared.tree.statement.If.{If, If', Held-If-otherwise, None', Some', Row_of-ElseIf, end_of-ElseIf, more_of-ElseIf}
use Rattle.slicc_ast.specs.declared.tree.statement.Stmt.{Stmt, Declare, Assign, Evaluate, Return, If as IfStmt, Peek', Enqueue', StallAndWait, CheckAllocate, Assert, Row_of-Stmt, end_of-Stmt, more_of-Stmt}
use Rattle.slicc_plan.specs.declared.part.Body.{Body}
use Rattle.slicc_plan.specs.declared.part.Part.{Part}
use Rattle.slicc_plan.specs.declared.part.Part.TheVariants.{Call, Check, Change, Plain}
use Rattle.slicc_ast.specs.declared.tree.item.Tree.{Tree}
use Rattle.slicc_plan.specs.declared.built_in.BuiltInType.TheVariants.{Cache, Directory, TbeTable}
use Rattle.slicc_plan.specs.Declarations.{Declaration, parameter, object, within, machine_declarations}
use Rattle.slicc_plan.specs.Types.{KnownType, is_built_in, type_in}
use Rattle.slicc_plan.specs.BuiltInCalls.{Call as BuiltInCall, Change as ChangeKind, of_receiver, of_block, of_lines, Receiver, nothing, calls}

-- What names stand for.

-- the names of a machine's functions that have a body, of its tables, and of those of them that are directories, by which
-- they are numbered
pub record Names : Type 0 where
  pub functions : List (List ℕ)
  pub tables : List (List ℕ)
  pub directories : List (List ℕ)

abbrev pub number_in : List (List ℕ) → List ℕ → Option ℕ
number_in names text = position (λ name. bytes_eq name text) names

-- What changes something.

abbrev pub is_free : Receiver → Bool
is_free nothing = true
is_free _ = false

abbrev pub is_of_receiver : ChangeKind → Bool
is_of_receiver of_receiver = true
is_of_receiver _ = false

-- it changes what is no local for sure: lines, or a block that is a field
abbrev pub is_beyond : ChangeKind → Bool
is_beyond of_lines = true
is_beyond of_block = true
is_beyond _ = false

abbrev pub names_of : (BuiltInCall → Bool) → List (List ℕ)
names_of is_meant = flat_map (λ (c : BuiltInCall). cond (is_meant c) (c.name ∷ []) []) calls

-- the calls without a receiver, and those with one, that change more than a local
abbrev pub free_changes : List (List ℕ)
free_changes = names_of (λ (c : BuiltInCall). is_free c.receiver && is_beyond c.change)

abbrev pub table_changes : List (List ℕ)
table_changes = names_of (λ (c : BuiltInCall). not (is_free c.receiver) && is_beyond c.change)

-- the calls that change their receiver
abbrev pub value_changes : List (List ℕ)
value_changes = names_of (λ (c : BuiltInCall). is_of_receiver c.change)

abbrev pub is_one_of : List (List ℕ) → List ℕ → Bool
is_one_of names text = list_any (λ name. bytes_eq text name) names

-- the name that an expression is, parentheses aside
abbrev pub name_in : Expr → Option (List ℕ)
name_in (Variable v) = Some v.text
name_in (Group' inner span) = name_in inner
name_in _ = None

abbrev pub is_directory : Names → Option (List ℕ) → Bool
is_directory names None = false
is_directory names (Some text) = is_some (number_in names.directories text)

-- A call on a receiver that has this name, or none, changes more than a local. Of all that is no table locals alone may be
-- changed, and they have a name; and a directory has all its lines from the start.
abbrev pub changes_more : Names → Option (List ℕ) → List ℕ → Bool
changes_more names receiver text =
    cond (is_one_of value_changes text) (is_none receiver)
    (cond (is_one_of table_changes text) (not (is_directory names receiver)) false)

-- Parts.

abbrev pub changing : Bool → Span → Part
changing true place = Change place
changing false place = Plain

-- a name that is called is that of a function of the machine, if it has one of that name, and else of a built-in call
abbrev pub call_part : List ℕ → Span → Option ℕ → Part
call_part text place (Some k) = Call k
call_part text place None = changing (is_one_of free_changes text) place

abbrev pub check_part : Option ℕ → Part
check_part (Some k) = Check k
check_part None = Plain

-- a name that may be assigned to is that of a local
abbrev pub assignment : Expr → Span → Part
assignment place span = changing (is_none (name_in place)) span

module _ (names : Names) where
  abbrev mutual
    pub expr_parts : Expr → List Part
    expr_parts (Operation' first n others span) = expr_parts first ++ operands_parts others
    expr_parts (Not' operand span) = Plain ∷ expr_parts operand
    expr_parts (Negate' operand span) = Plain ∷ expr_parts operand
    expr_parts (Postfix' value n suffixes span) = expr_parts value ++ suffixes_parts (name_in value) span suffixes
    expr_parts (Call' called shape row arguments span) =
        call_part called.text span (number_in names.functions called.text) ∷ arguments_parts row
    expr_parts (IsValid' value span) = Plain ∷ expr_parts value
    expr_parts (IsInvalid' value span) = Plain ∷ expr_parts value
    expr_parts (Cast' target mode value span) = Plain ∷ expr_parts value
    expr_parts (Group' inner span) = expr_parts inner
    expr_parts _ = Plain ∷ []

    pub operands_parts : {m : _} → Row_of-Operand m → List Part
    operands_parts end_of-Operand = []
    operands_parts (more_of-Operand operator value row) = (Plain ∷ expr_parts value) ++ operands_parts row

    -- of an expression at this place, with the name of what the suffix stands behind
    pub suffix_parts : Option (List ℕ) → Span → Suffix → List Part
    suffix_parts receiver place (Field field span) = Plain ∷ []
    suffix_parts receiver place (Method' method shape row arguments span) =
        changing (changes_more names receiver method.text) place ∷ arguments_parts row
    suffix_parts receiver place (Index key span) = Plain ∷ expr_parts key

    -- a suffix behind another is behind no name
    pub suffixes_parts : {m : _} → Option (List ℕ) → Span → Row_of-Suffix m → List Part
    suffixes_parts receiver place end_of-Suffix = []
    suffixes_parts receiver place (more_of-Suffix first row) =
        suffix_parts receiver place first ++ suffixes_parts None place row

    pub arguments_parts : {m : _} → Row_of-Expr m → List Part
    arguments_parts end_of-Expr = []
    arguments_parts (more_of-Expr first row) = expr_parts first ++ arguments_parts row

  abbrev pub optional_parts : Option Expr → List Part
  optional_parts None = []
  optional_parts (Some e) = expr_parts e

  abbrev mutual
    pub stmt_parts : Stmt → List Part
    stmt_parts (Declare kind local value span) = Plain ∷ expr_parts value
    stmt_parts (Assign place value span) = assignment place span ∷ (expr_parts place ++ expr_parts value)
    stmt_parts (Evaluate value span) = Plain ∷ expr_parts value
    stmt_parts (Return value span) = Plain ∷ optional_parts value
    stmt_parts (IfStmt i) = Plain ∷ if_parts i
    stmt_parts (Peek' port message attributes shape row block span) = Plain ∷ row_parts row
    stmt_parts (Enqueue' port message latency shape row block span) = Plain ∷ (optional_parts latency ++ row_parts row)
    stmt_parts (StallAndWait port address span) = Plain ∷ expr_parts address
    stmt_parts (CheckAllocate table span) = check_part (number_in names.tables table.text) ∷ []
    stmt_parts (Assert condition span) = Plain ∷ expr_parts condition
    stmt_parts _ = Plain ∷ []

    pub if_parts : If → List Part
    if_parts (If' condition shape row block n others otherwise span) =
        expr_parts condition ++ (row_parts row ++ (others_parts others ++ otherwise_parts otherwise))

    pub others_parts : {m : _} → Row_of-ElseIf m → List Part
    others_parts end_of-ElseIf = []
    others_parts (more_of-ElseIf condition shape row block more) =
        (expr_parts condition ++ row_parts row) ++ others_parts more

    pub otherwise_parts : Held-If-otherwise → List Part
    otherwise_parts None' = []
    otherwise_parts (Some' shape row block) = row_parts row

    pub row_parts : {m : _} → Row_of-Stmt m → List Part
    row_parts end_of-Stmt = []
    row_parts (more_of-Stmt first row) = stmt_parts first ++ row_parts row

  abbrev pub block_parts : Block → List Part
  block_parts b = flat_map stmt_parts b.statements

-- The bodies of a machine, each with its name.

pub record Written : Type 0 where
  pub name : List ℕ
  pub block : Block
  pub place : Span

abbrev pub function_in : Decl → List Written
function_in (Function (PlainFunction kind called formals attributes (Some body) span)) =
    record { name = called.text; block = body; place = span } ∷ []
function_in (Function (PlainFunction kind called formals attributes None span)) = []
function_in (Function (Skipped s)) = []
function_in _ = []

abbrev pub action_in : Decl → List Written
action_in (Action a) = record { name = a.name.text; block = a.body; place = a.span } ∷ []
action_in _ = []

abbrev pub port_in : Decl → List Written
port_in (InPort p) = record { name = p.name.text; block = p.body; place = p.span } ∷ []
port_in _ = []

-- with one more, of those of one name the first
abbrev pub with_written : List Written → Written → List Written
with_written ws w = cond (list_any (λ (x : Written). bytes_eq x.name w.name) ws) ws (ws ++ w ∷ [])

abbrev pub written_functions : Machine → List Written
written_functions m = fold with_written [] (flat_map function_in m.declarations)

abbrev pub written_actions : Machine → List Written
written_actions m = fold with_written [] (flat_map action_in m.declarations)

abbrev pub written_ports : Machine → List Written
written_ports m = flat_map port_in m.declarations

abbrev pub names_of_written : List Written → List (List ℕ)
names_of_written ws = map (λ (w : Written). w.name) ws

abbrev pub call_in : Part → List ℕ
call_in (Call k) = k ∷ []
call_in _ = []

abbrev pub check_in : Part → List ℕ
check_in (Check k) = k ∷ []
check_in _ = []

abbrev pub change_in : Part → List Span
change_in (Change place) = place ∷ []
change_in _ = []

abbrev pub body_with : Span → List Part → Body
body_with place parts =
    record { place = place; size = length parts; calls = flat_map call_in parts; checks = flat_map check_in parts; changes = flat_map change_in parts }

abbrev pub body_of : Names → Written → Body
body_of names w = body_with w.place (block_parts names w.block)

abbrev pub bodies_of : Names → List Written → List Body
bodies_of names ws = map (body_of names) ws

-- The names in a machine of a protocol. Those of several tables that have one name are one.

abbrev pub with_name : List (List ℕ) → List ℕ → List (List ℕ)
with_name names text = cond (list_any (λ name. bytes_eq name text) names) names (names ++ text ∷ [])

abbrev pub is_table_type : Option KnownType → Bool
is_table_type t = is_built_in Cache t || is_built_in Directory t || is_built_in TbeTable t

-- the name of a parameter or an object whose type passes the test
abbrev pub name_of_type : (List ℕ → Bool) → Declaration → List (List ℕ)
name_of_type is_meant (parameter p) = cond (is_meant p.kind.text) (p.name.text ∷ []) []
name_of_type is_meant (object o) = cond (is_meant o.kind.text) (o.name.text ∷ []) []
name_of_type is_meant _ = []

abbrev pub names_of_type : (List ℕ → Bool) → Machine → List (List ℕ)
names_of_type is_meant m = fold with_name [] (flat_map (name_of_type is_meant) (machine_declarations m))

-- caches, directories and TBE tables, in the order of the text
abbrev pub table_names : List Tree → Machine → List (List ℕ)
table_names trees m = names_of_type (λ kind. is_table_type (type_in trees (within m) kind)) m

abbrev pub directory_names : List Tree → Machine → List (List ℕ)
directory_names trees m = names_of_type (λ kind. is_built_in Directory (type_in trees (within m) kind)) m

abbrev pub names_in : List Tree → Machine → Names
names_in trees m =
    record { functions = names_of_written (written_functions m); tables = table_names trees m; directories = directory_names trees m }

abbrev pub function_bodies : List Tree → Machine → List Body
function_bodies trees m = bodies_of (names_in trees m) (written_functions m)

abbrev pub action_bodies : List Tree → Machine → List Body
action_bodies trees m = bodies_of (names_in trees m) (written_actions m)

abbrev pub port_bodies : List Tree → Machine → List Body
port_bodies trees m = bodies_of (names_in trees m) (written_ports m)
