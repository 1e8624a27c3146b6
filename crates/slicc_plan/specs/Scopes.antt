-- The scopes of a protocol, each with what is declared right in it: the protocol; each machine; the members of each enumeration
-- and state declaration; the members of each structure; the formals of each function with its outermost block; and each
-- further block. A prototype has its formals alone. The members of an external structure aren't looked at.
use Rattle.std.specs.Prelude.{None, Some, cond, List, [], ◌∷◌, flat_map, map}
use Rattle.slicc_ast.specs.declared.tree.item.Tree.{Tree}
use Rattle.slicc_ast.specs.declared.tree.machine.Machine.{Machine}
use Rattle.slicc_ast.specs.declared.tree.statement.Block.{Block}
use Rattle.slicc_ast.specs.declared.tree.declaration.Formals.{Formals}
use Rattle.slicc_ast.specs.declared.tree.declaration.Function.{Function}
use Rattle.slicc_ast.specs.declared.tree.declaration.Function.TheVariants.{Plain, Skipped}
use Rattle.slicc_ast.specs.declared.tree.declaration.Member.{Member}
use Rattle.slicc_ast.specs.declared.tree.declaration.Member.TheVariants.{Field, Method, Skipped as SkippedMember}
use Rattle.slicc_ast.specs.declared.tree.declaration.Structure.{Structure}
use Rattle.slicc_plan.specs.Blocks.{body_scopes}
use Rattle.slicc_plan.specs.Declarations.{Declaration, machine, enumeration, structure, states, in_port, action, function, symbol, state, member, formal, global_declarations, is_external, machine_declarations}

abbrev pub formal_declarations : Formals → List Declaration
formal_declarations fs = map formal fs.items

abbrev pub function_scopes : Function → List (List Declaration)
function_scopes (Plain kind called formals attributes None span) = formal_declarations formals ∷ []
function_scopes (Plain kind called formals attributes (Some body) span) = body_scopes (formal_declarations formals) body
function_scopes (Skipped s) = []

abbrev pub member_scopes : Member → List (List Declaration)
member_scopes (Field kind called attributes span) = []
member_scopes (Method kind called formals attributes span) = formal_declarations formals ∷ []
member_scopes (SkippedMember s) = []

abbrev pub structure_scopes : Structure → List (List Declaration)
structure_scopes s =
    cond (is_external s) [] (map member s.members ∷ flat_map member_scopes s.members)

-- the scopes in a declaration, those of its parts included
abbrev pub inner_scopes : Declaration → List (List Declaration)
inner_scopes (enumeration e) = map symbol e.members ∷ []
inner_scopes (states s) = map state s.members ∷ []
inner_scopes (structure s) = structure_scopes s
inner_scopes (in_port p) = body_scopes [] p.body
inner_scopes (action a) = body_scopes [] a.body
inner_scopes (function f) = function_scopes f
inner_scopes _ = []

-- the scopes in what is declared right in a protocol
abbrev pub global_scopes : Declaration → List (List Declaration)
global_scopes (machine m) = machine_declarations m ∷ flat_map inner_scopes (machine_declarations m)
global_scopes d = inner_scopes d

-- all scopes but that of the protocol
abbrev pub scopes_within : List Tree → List (List Declaration)
scopes_within trees = flat_map global_scopes (global_declarations trees)

-- the bodies of a machine
abbrev pub bodies_in : Declaration → List Block
bodies_in (in_port p) = p.body ∷ []
bodies_in (action a) = a.body ∷ []
bodies_in (function (Plain kind called formals attributes None span)) = []
bodies_in (function (Plain kind called formals attributes (Some body) span)) = body ∷ []
bodies_in (function (Skipped s)) = []
bodies_in _ = []

abbrev pub machine_bodies : Machine → List Block
machine_bodies m = flat_map bodies_in (machine_declarations m)
