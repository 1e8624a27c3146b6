-- What lists of declarations and items are spelled by, member by member.
use Rattle.std.proofs.Common.{◌≡◌, Option, Some, None, List, [], ◌∷◌, refl, ap}
use Rattle.slicc_ast.specs.declared.tree.item.Item.{Item}
use Rattle.slicc_ast.specs.declared.tree.machine.Decl.{Decl}
use Rattle.slicc_ast.specs.declared.tree.statement.Block.{Block}
use Rattle.slicc_ast.specs.Prelude.{decl, decl_list, function_body, Parts, none, part, item_list}
use Rattle.slicc_ast.specs.Trees.{item}
use Rattle.slicc_parse.specs.Prelude.{body_parts, items_parts}
use Rattle.slicc_reading.proofs.Repeats.{each}

-- a machine's declarations
abbrev pub decl_parts : Decl → Parts → Parts
decl_parts d others = part (decl d) others

pub each_decl : (items : List Decl) (others : Parts) → decl_list items others ≡ each decl_parts items others
each_decl [] others = refl
each_decl (first ∷ items) others = ap (λ p. decl_parts first p) (each_decl items others)

-- a file's items
abbrev pub item_parts : Item → Parts → Parts
item_parts i others = part (item i) others

all_items : (items : List Item) (others : Parts) → items_parts items others ≡ each item_parts items others
all_items [] others = refl
all_items (first ∷ items) others = ap (λ p. item_parts first p) (all_items items others)

pub each_item : (first : Item) (items : List Item) (others : Parts) → items_parts (first ∷ items) others ≡ item_parts first (each item_parts items others)
each_item first items others = ap (λ p. item_parts first p) (all_items items others)

pub items_parts_none : (items : List Item) → items_parts items none ≡ item_list items
items_parts_none [] = refl
items_parts_none (first ∷ items) = ap (λ p. item_parts first p) (items_parts_none items)

-- a function's body
pub body_parts_none : (b : Option Block) → function_body b ≡ body_parts b none
body_parts_none None = refl
body_parts_none (Some b) = refl
