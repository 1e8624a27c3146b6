-- The bodies of an accepted protocol are typed.
use Rattle.std.proofs.Common.{◌≡◌, ℕ, Some, List, slice_get}
use Rattle.slicc_ast.specs.declared.tree.declaration.Formals.{Formals}
use Rattle.slicc_ast.specs.declared.tree.declaration.Function.TheVariants.{Plain}
use Rattle.slicc_ast.specs.declared.tree.declaration.Pairs.{Pairs}
use Rattle.slicc_ast.specs.declared.tree.item.Tree.{Tree}
use Rattle.slicc_ast.specs.declared.tree.machine.Action.{Action}
use Rattle.slicc_ast.specs.declared.tree.machine.InPort.{InPort}
use Rattle.slicc_ast.specs.declared.tree.machine.Machine.{Machine}
use Rattle.slicc_ast.specs.declared.tree.name.Name.{Name}
use Rattle.slicc_ast.specs.declared.tree.name.TypeName.{TypeName}
use Rattle.slicc_ast.specs.declared.tree.span.Span.{Span}
use Rattle.slicc_ast.specs.declared.tree.statement.Block.{Block}
use Rattle.slicc_plan.specs.AllRules.{IsAccepted}
use Rattle.slicc_plan.specs.BrokenBodies.{action_environment, broken_port, function_environment, port_environment}
use Rattle.slicc_plan.specs.Declarations.{action, function, in_port, machine_declarations, machines_of}
use Rattle.slicc_plan.specs.JudgedStatements.{body_judged}
use Rattle.slicc_plan.proofs.Room.{right_none}
use Rattle.slicc_plan.proofs.There.{There}
use Rattle.rules_symbols.specs.TypedBodies.{AreTyped}
use Rattle.rules_symbols.proofs.FunctionKinds.{body_is_judged}
use Rattle.rules_symbols.proofs.Parameters.{unbroken}
use Rattle.rules_symbols.proofs.TypedEnvironments.{action_typed, function_typed, port_typed}
use Rattle.rules_symbols.proofs.TypedStatements.{statements_are}

module _ (trees : List Tree) (accepted : IsAccepted trees) (k : ℕ) (m : Machine) (at : slice_get (machines_of trees) k ≡ Some m) where
  pub port_body : (p : InPort) → There (machine_declarations m) (in_port p) → AreTyped (port_environment trees m) p.body.statements
  port_body p there =
      statements_are k (port_environment trees m) (port_typed trees accepted k m at) p.body.statements
      (right_none (broken_port trees m p.message p.buffer) (body_judged (port_environment trees m) p.body) (unbroken trees accepted k m at (in_port p) there))

  pub action_body : (a : Action) → There (machine_declarations m) (action a) → AreTyped (action_environment trees m) a.body.statements
  action_body a there =
      statements_are k (action_environment trees m) (action_typed trees accepted k m at) a.body.statements (unbroken trees accepted k m at (action a) there)

  pub function_body : (kind : TypeName) (called : Name) (formals : Formals) (attributes : Pairs) (body : Block) (span : Span) → There (machine_declarations m) (function (Plain kind called formals attributes (Some body) span))
      → AreTyped (function_environment trees m kind formals.items) body.statements
  function_body kind called formals attributes body span there =
      statements_are k (function_environment trees m kind formals.items) (function_typed trees accepted k m at kind called formals attributes body span there) body.statements
      (body_is_judged trees accepted k m at kind called formals attributes body span there)
