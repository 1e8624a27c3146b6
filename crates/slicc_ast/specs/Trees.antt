-- A whole file as a row of parts.
use Rattle.std.specs.Prelude.{◌==◌, ℕ, not, Option, Some, None, List, [], ◌∷◌, length}
use Rattle.slicc_ast.specs.declared.tree.token.TokenKind.TheVariants.{Quoted}
use Rattle.slicc_ast.specs.declared.tree.token.Word.TheVariants.{Protocol, Include as IncludeWord}
use Rattle.slicc_ast.specs.declared.tree.token.Sign.TheVariants.{Semicolon}
use Rattle.slicc_ast.specs.declared.tree.item.Tree.{Tree}
use Rattle.slicc_ast.specs.declared.tree.item.Item.{Item}
use Rattle.slicc_ast.specs.declared.tree.item.Item.TheVariants.{Include, Enumeration, Structure, Machine}
use Rattle.slicc_ast.specs.Outline.{Outline, node, Parts, none, token, part, provided}
use Rattle.slicc_ast.specs.Names.{word, sign}
use Rattle.slicc_ast.specs.Declarations.{enumeration, structure}
use Rattle.slicc_ast.specs.Machines.{machine}

-- item := include STRING ; | enum | struct | machine
abbrev pub item : Item → Outline
item (Include file span) = node span (word IncludeWord (token (Quoted file) (sign Semicolon none)))
item (Enumeration e) = enumeration e
item (Structure s) = structure s
item (Machine m) = machine m

abbrev pub item_list : List Item → Parts
item_list [] = none
item_list (first ∷ others) = part (item first) (item_list others)

-- [ protocol STRING ; ]
abbrev pub protocol_parts : Option (List ℕ) → Parts → Parts
protocol_parts None parts = parts
protocol_parts (Some name) parts = word Protocol (token (Quoted name) (sign Semicolon parts))

-- file := [ protocol STRING ; ] item { item }
abbrev pub tree_parts : Tree → Parts
tree_parts t = provided (not (length t.items == 0)) (protocol_parts t.protocol (item_list t.items))

abbrev pub tree : Tree → Outline
tree t = node t.span (tree_parts t)
