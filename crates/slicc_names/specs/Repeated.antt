-- The scopes in parts of a protocol that are no declarations of their own, or hold several.
use Rattle.std.specs.Prelude.{List, [], flat_map}
use Rattle.slicc_ast.specs.declared.tree.item.Item.{Item}
use Rattle.slicc_ast.specs.declared.tree.item.Tree.{Tree}
use Rattle.slicc_ast.specs.declared.tree.machine.Decl.{Decl}
use Rattle.slicc_ast.specs.declared.tree.machine.Machine.{Machine}
use Rattle.slicc_ast.specs.declared.tree.statement.ElseIf.{ElseIf}
use Rattle.slicc_plan.specs.Prelude.{body_scopes, Declaration, item_declarations, machine, named_declarations, global_scopes, inner_scopes}

-- `else if ( expr ) block`
abbrev pub else_if_scopes : ElseIf → List (List Declaration)
else_if_scopes e = body_scopes [] e.then

-- what is declared between a machine's braces
abbrev pub decl_scopes : Decl → List (List Declaration)
decl_scopes d = flat_map inner_scopes (named_declarations d)

abbrev pub machine_scopes : Machine → List (List Declaration)
machine_scopes m = global_scopes (machine m)

abbrev pub item_scopes : Item → List (List Declaration)
item_scopes i = flat_map global_scopes (item_declarations i)

abbrev pub tree_scopes : Tree → List (List Declaration)
tree_scopes t = flat_map item_scopes t.items
