-- What is broken in the bodies of a protocol, by all rules of bodies; and in declarations that bodies rest on: the type of a
-- parameter or an object is neither a table's nor a value's, that of a formal no value's, that of what a function answers
-- neither `void` nor a value's; a port's messages are no structure, or what the port is on isn't there or is no buffer. The
-- formals of a prototype aren't looked at. Types that aren't known break another rule.
use Rattle.std.specs.Prelude.{Bool, Option, None, Some, List, [], ◌∷◌, ◌++◌, flat_map}
use Rattle.slicc_ast.specs.declared.tree.name.Name.{Name}
use Rattle.slicc_ast.specs.declared.tree.name.TypeName.{TypeName}
use Rattle.slicc_ast.specs.declared.tree.item.Tree.{Tree}
use Rattle.slicc_ast.specs.declared.tree.machine.Machine.{Machine}
use Rattle.slicc_ast.specs.declared.tree.statement.Block.{Block}
use Rattle.slicc_ast.specs.declared.tree.declaration.Formal.{Formal}
use Rattle.slicc_ast.specs.declared.tree.declaration.Function.TheVariants.{Plain, Skipped}
use Rattle.slicc_plan.specs.declared.broken.Broken.{Broken}
use Rattle.slicc_plan.specs.declared.broken.Rule.TheVariants.{WrongType}
use Rattle.slicc_plan.specs.declared.built_in.BuiltInType.TheVariants.{Buffer}
use Rattle.slicc_plan.specs.Declarations.{Declaration, parameter, object, in_port, out_port, action, function, within, machine_declarations, machines_of}
use Rattle.slicc_plan.specs.Environment.{BodySort, of_port, of_action, of_function, Bound, Environment, action_names, fixed, wrong_value_name}
use Rattle.slicc_plan.specs.JudgedStatements.{body_judged}
use Rattle.slicc_plan.specs.Meanings.{Meaning, nothing, table_of, answer_of_type, is_answer_type, is_message, is_object_type, is_value, unless, value_of_type}
use Rattle.slicc_plan.specs.Returns.{missing_returns}
use Rattle.slicc_plan.specs.TransitionNames.{wrong_names}
use Rattle.slicc_plan.specs.Types.{KnownType, type_in}

-- Types of declarations.

-- the type, if it is known, isn't one of these
abbrev pub wrong_type : (KnownType → Bool) → TypeName → Option KnownType → List Broken
wrong_type is_right kind None = []
wrong_type is_right kind (Some t) = unless (is_right t) WrongType kind.span

abbrev pub wrong_type_in : List Tree → Machine → (KnownType → Bool) → TypeName → List Broken
wrong_type_in trees m is_right kind = wrong_type is_right kind (type_in trees (within m) kind.text)

abbrev pub wrong_formal : List Tree → Machine → Formal → List Broken
wrong_formal trees m f = wrong_type_in trees m (is_value m) f.kind

-- Environments of bodies.

abbrev pub environment : List Tree → Machine → BodySort → Meaning → List Bound → Environment
environment trees m body answer names =
    record { trees = trees; machine = m; body = body; answer = answer; bound = names }

abbrev pub port_environment : List Tree → Machine → Environment
port_environment trees m = environment trees m of_port nothing []

abbrev pub action_environment : List Tree → Machine → Environment
action_environment trees m = environment trees m of_action nothing (action_names m)

abbrev pub formal_name : List Tree → Machine → TypeName → Option Name → List Bound
formal_name trees m kind None = []
formal_name trees m kind (Some n) = fixed n.text (value_of_type m (type_in trees (within m) kind.text)) ∷ []

abbrev pub formal_names : List Tree → Machine → List Formal → List Bound
formal_names trees m formals = flat_map (λ (f : Formal). formal_name trees m f.kind f.name) formals

abbrev pub function_environment : List Tree → Machine → TypeName → List Formal → Environment
function_environment trees m kind formals =
    environment trees m of_function (answer_of_type m (type_in trees (within m) kind.text)) (formal_names trees m formals)

-- What is broken.

-- in what a port is on and the type of its messages
abbrev pub broken_port : List Tree → Machine → TypeName → Name → List Broken
broken_port trees m message buffer =
    wrong_type_in trees m is_message message ++ wrong_value_name (port_environment trees m) (table_of Buffer) buffer

abbrev pub broken_function : List Tree → Machine → TypeName → List Formal → Block → List Broken
broken_function trees m kind formals body =
    wrong_type_in trees m (is_answer_type m) kind ++ flat_map (wrong_formal trees m) formals
    ++ body_judged (function_environment trees m kind formals) body

abbrev pub broken_in_declaration : List Tree → Machine → Declaration → List Broken
broken_in_declaration trees m (parameter p) = wrong_type_in trees m (is_object_type m) p.kind
broken_in_declaration trees m (object o) = wrong_type_in trees m (is_object_type m) o.kind
broken_in_declaration trees m (out_port p) = broken_port trees m p.message p.buffer
broken_in_declaration trees m (in_port p) =
    broken_port trees m p.message p.buffer ++ body_judged (port_environment trees m) p.body
broken_in_declaration trees m (action a) = body_judged (action_environment trees m) a.body
broken_in_declaration trees m (function (Plain kind called formals attributes (Some body) span)) =
    broken_function trees m kind formals.items body
broken_in_declaration trees m (function (Plain kind called formals attributes None span)) = []
broken_in_declaration trees m (function (Skipped s)) = []
broken_in_declaration trees m _ = []

abbrev pub broken_in_machine : List Tree → Machine → List Broken
broken_in_machine trees m = flat_map (broken_in_declaration trees m) (machine_declarations m)

-- The order of this list is no matter.
abbrev pub broken_bodies : List Tree → List Broken
broken_bodies trees = flat_map (broken_in_machine trees) (machines_of trees) ++ wrong_names trees ++ missing_returns trees
