-- The forms of the grammar: those that it is written in, and those that a reader with one token ahead needs beside them,
-- where several alternatives begin alike.
use Rattle.std.specs.Prelude.{List, [], ◌∷◌}

pub data Form : Type 0 where
  file : Form
  item : Form
  enumeration : Form
  states : Form
  structure : Form
  member : Form
  -- what stands behind the type of a member
  member_end : Form
  -- what stands behind a type and the name `functionalRead` or `functionalWrite`
  functional_end : Form
  pair : Form
  machine : Form
  -- the name of a machine, with `MachineType` before it or not
  machine_name : Form
  parameter : Form
  literal : Form
  declaration : Form
  -- what stands behind the type of a function or an object
  declaration_end : Form
  -- what stands behind a type and any other name
  named_end : Form
  body : Form
  out_port : Form
  in_port : Form
  action : Form
  transition : Form
  -- what stands behind the comma after a transition's events
  transition_end : Form
  names : Form
  formals : Form
  formal : Form
  block : Form
  statement : Form
  -- what stands behind a name that a statement begins with
  statement_end : Form
  conditional : Form
  -- what stands behind `else`
  otherwise : Form
  expression : Form
  conjunction : Form
  equality : Form
  order : Form
  sum : Form
  product : Form
  unary : Form
  postfix : Form
  primary : Form
  -- a primary expression that doesn't begin with a name
  constant : Form
  -- a unary expression that doesn't begin with a name
  opening : Form
  -- what may stand behind a name at the start of a primary expression
  name_end : Form
  suffix : Form
  arguments : Form
  -- a token or a pair of brackets in a balanced part
  balanced_part : Form

abbrev pub all_forms : List Form
all_forms =
    Form.file ∷ Form.item ∷ Form.enumeration ∷ Form.states ∷ Form.structure ∷ Form.member ∷
    Form.member_end ∷ Form.functional_end ∷ Form.pair ∷ Form.machine ∷ Form.machine_name ∷ Form.parameter ∷
    Form.literal ∷ Form.declaration ∷ Form.declaration_end ∷ Form.named_end ∷ Form.body ∷ Form.out_port ∷
    Form.in_port ∷ Form.action ∷ Form.transition ∷ Form.transition_end ∷ Form.names ∷ Form.formals ∷
    Form.formal ∷ Form.block ∷ Form.statement ∷ Form.statement_end ∷ Form.conditional ∷ Form.otherwise ∷
    Form.expression ∷ Form.conjunction ∷ Form.equality ∷ Form.order ∷ Form.sum ∷ Form.product ∷ Form.unary ∷
    Form.postfix ∷ Form.primary ∷ Form.constant ∷ Form.opening ∷ Form.name_end ∷ Form.suffix ∷
    Form.arguments ∷ Form.balanced_part ∷ []
