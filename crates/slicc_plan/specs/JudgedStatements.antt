-- What is broken in the statements of a body, and what names each of them sees. A local is seen by the statements after its own
-- in its block, and in their blocks; `in_msg` by the block of `peek`, and `out_msg` by that of `enqueue`, whose latency doesn't
-- see it. `peek` is allowed in ports and in actions; `enqueue`, `stall_and_wait` and `check_allocate` in actions alone. The type
-- in `peek` and `enqueue` is that of the port. What is assigned to has to be writable, and has its own complaint where it isn't
-- there. Whether a `return` should have a value is another rule; the value has the type that the function answers.
use Rattle.std.specs.Prelude.{Bool, true, false, Option, None, Some, List, [], ◌∷◌, ◌++◌, codes}
use Rattle.slicc_ast.specs.declared.tree.span.Span.{Span}
use Rattle.slicc_ast.specs.declared.tree.name.Name.{Name}
use Rattle.slicc_ast.specs.declared.tree.name.TypeName.{TypeName}
use Rattle.slicc_ast.specs.declared.tree.expression.Expr.{Expr}
use Rattle.slicc_ast.specs.declared.tree.statement.Block.{Block}
use Rattle.slicc_ast.specs.declared.tree.statement.If.{If, If', Held-If-otherwise, None', Some', Row_of-ElseIf, end_of-ElseIf, more_of-ElseIf}
use Rattle.slicc_ast.specs.declared.tree.statement.Stmt.{Stmt, Declare, Assign, Evaluate, Return, If as IfStmt, Peek', Enqueue', StallAndWait, CheckAllocate, Error, Assert, Print, Row_of-Stmt, end_of-Stmt, more_of-Stmt}
use Rattle.slicc_plan.specs.declared.broken.Broken.{Broken}
use Rattle.slicc_plan.specs.declared.broken.Rule.TheVariants.{NotAllowedHere, WrongType}
use Rattle.slicc_plan.specs.declared.built_in.BuiltInType.TheVariants.{Int, Bool as Boolean, Address, TbeTable}
use Rattle.slicc_plan.specs.Buffers.{is_same_known}
use Rattle.slicc_plan.specs.BuiltInCalls.{in_actions}
use Rattle.slicc_plan.specs.CallTypes.{Typed, not_writable}
use Rattle.slicc_plan.specs.Environment.{BodySort, of_port, of_action, of_function, Environment, binding, fixed, is_allowed, local_name, meaning_named, type_named, wrong_type_name, wrong_value_name}
use Rattle.slicc_plan.specs.ExpressionTypes.{broken_where, span_of, typed}
use Rattle.slicc_plan.specs.Meanings.{Meaning, in_port, out_port, any_value, table_of, any_in_port, any_out_port, incoming_of_type, is_value, like_it, of_built_in, outgoing_of_type, unless, value_of_type}
use Rattle.slicc_plan.specs.Types.{KnownType}

-- Locals.

-- a local's type that isn't known is told at the type, and so is one that no value has
abbrev pub wrong_local_type : Environment → TypeName → Option KnownType → List Broken
wrong_local_type env kind None = wrong_type_name env kind.text kind.span
wrong_local_type env kind (Some t) = unless (is_value env.machine t) WrongType kind.span

abbrev pub local_meaning : Environment → TypeName → Meaning
local_meaning env kind = value_of_type env.machine (type_named env kind.text)

abbrev pub declared : Environment → TypeName → Expr → List Broken
declared env kind e =
    wrong_local_type env kind (type_named env kind.text) ++ broken_where env (like_it (local_meaning env kind)) e

-- the names after a statement
abbrev pub after : Environment → Stmt → Environment
after env (Declare kind called value span) = binding env (local_name called.text (local_meaning env kind))
after env _ = env

-- Assignments.

abbrev pub assigned : Environment → Span → Typed → Expr → List Broken
assigned env at place e =
    place.broken ++ not_writable at place ++ broken_where env (like_it place.meaning) e

-- Messages.

abbrev pub is_peek_allowed : BodySort → Bool
is_peek_allowed of_port = true
is_peek_allowed of_action = true
is_peek_allowed of_function = false

-- the type of the messages of what a name stands for
abbrev pub in_type : Option Meaning → Option KnownType
in_type (Some (in_port t)) = t
in_type _ = None

abbrev pub out_type : Option Meaning → Option KnownType
out_type (Some (out_port t)) = t
out_type _ = None

-- the type that is written isn't known, or isn't that of the port
abbrev pub wrong_message_type : Environment → TypeName → Option KnownType → Option KnownType → List Broken
wrong_message_type env message ports None = wrong_type_name env message.text message.span
wrong_message_type env message None (Some t) = []
wrong_message_type env message (Some p) (Some t) = unless (is_same_known p t) WrongType message.span

abbrev pub peeked : Environment → Span → Name → TypeName → List Broken
peeked env span port message =
    unless (is_peek_allowed env.body) NotAllowedHere span ++ wrong_value_name env any_in_port port
    ++ wrong_message_type env message (in_type (meaning_named env port.text)) (type_named env message.text)

abbrev pub in_peek : Environment → Name → Environment
in_peek env port = binding env (fixed (codes "in_msg") (incoming_of_type (in_type (meaning_named env port.text))))

abbrev pub broken_latency : Environment → Option Expr → List Broken
broken_latency env None = []
broken_latency env (Some e) = broken_where env (of_built_in Int) e

abbrev pub enqueued : Environment → Span → Name → TypeName → Option Expr → List Broken
enqueued env span port message latency =
    unless (is_allowed env.body in_actions) NotAllowedHere span ++ wrong_value_name env any_out_port port
    ++ wrong_message_type env message (out_type (meaning_named env port.text)) (type_named env message.text)
    ++ broken_latency env latency

abbrev pub in_enqueue : Environment → Name → Environment
in_enqueue env port = binding env (fixed (codes "out_msg") (outgoing_of_type (out_type (meaning_named env port.text))))

abbrev pub stalled : Environment → Span → Name → Expr → List Broken
stalled env span port address =
    unless (is_allowed env.body in_actions) NotAllowedHere span ++ wrong_value_name env any_in_port port
    ++ broken_where env (of_built_in Address) address

abbrev pub checked : Environment → Span → Name → List Broken
checked env span name =
    unless (is_allowed env.body in_actions) NotAllowedHere span ++ wrong_value_name env (table_of TbeTable) name

abbrev pub returned : Environment → Option Expr → List Broken
returned env None = []
returned env (Some e) = broken_where env (like_it env.answer) e

-- Statements.

abbrev mutual
  pub judged : Environment → Stmt → List Broken
  judged env (Declare kind called value span) = declared env kind value
  judged env (Assign place value span) = assigned env (span_of place) (typed env place) value
  judged env (Evaluate value span) = broken_where env any_value value
  judged env (Return value span) = returned env value
  judged env (IfStmt i) = if_judged env i
  judged env (Peek' port message attributes shape row block span) =
      peeked env span port message ++ row_judged (in_peek env port) row
  judged env (Enqueue' port message latency shape row block span) =
      enqueued env span port message latency ++ row_judged (in_enqueue env port) row
  judged env (StallAndWait port address span) = stalled env span port address
  judged env (CheckAllocate name span) = checked env span name
  judged env (Error text span) = []
  judged env (Assert condition span) = broken_where env (of_built_in Boolean) condition
  judged env (Print which arguments span) = []

  pub if_judged : Environment → If → List Broken
  if_judged env (If' condition shape row block n others otherwise span) =
      broken_where env (of_built_in Boolean) condition ++ row_judged env row ++ others_judged env others
      ++ otherwise_judged env otherwise

  pub others_judged : {m : _} → Environment → Row_of-ElseIf m → List Broken
  others_judged env end_of-ElseIf = []
  others_judged env (more_of-ElseIf condition shape row block more) =
      broken_where env (of_built_in Boolean) condition ++ row_judged env row ++ others_judged env more

  pub otherwise_judged : Environment → Held-If-otherwise → List Broken
  otherwise_judged env None' = []
  otherwise_judged env (Some' shape row block) = row_judged env row

  -- of statements one after another
  pub row_judged : {m : _} → Environment → Row_of-Stmt m → List Broken
  row_judged env end_of-Stmt = []
  row_judged env (more_of-Stmt first row) = judged env first ++ row_judged (after env first) row

abbrev pub statements_judged : Environment → List Stmt → List Broken
statements_judged env [] = []
statements_judged env (s ∷ ss) = judged env s ++ statements_judged (after env s) ss

abbrev pub body_judged : Environment → Block → List Broken
body_judged env b = statements_judged env b.statements
