-- Parts of a tree that declare one name at most.
use Rattle.std.specs.Prelude.{List, [], ◌∷◌}
use Rattle.slicc_ast.specs.declared.tree.declaration.Formal.{Formal}
use Rattle.slicc_ast.specs.declared.tree.declaration.Member.{Member}
use Rattle.slicc_ast.specs.declared.tree.declaration.State.{State}
use Rattle.slicc_ast.specs.declared.tree.declaration.Symbol.{Symbol}
use Rattle.slicc_ast.specs.declared.tree.machine.Parameter.{Parameter}
use Rattle.slicc_plan.specs.Prelude.{Declaration, symbol, state, member, formal, parameter}

abbrev pub one_symbol : Symbol → List Declaration
one_symbol s = symbol s ∷ []

abbrev pub one_state : State → List Declaration
one_state s = state s ∷ []

abbrev pub one_member : Member → List Declaration
one_member m = member m ∷ []

abbrev pub one_formal : Formal → List Declaration
one_formal f = formal f ∷ []

abbrev pub one_parameter : Parameter → List Declaration
one_parameter p = parameter p ∷ []
