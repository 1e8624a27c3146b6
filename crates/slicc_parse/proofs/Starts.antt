-- Declarations and items have a token at least, so that what is behind one is shorter.
use Rattle.std.proofs.Common.{◌≡◌, ℕ, suc, ◌<◌, List, [], ◌∷◌, length, refl, ap, arith, length-append}
use Rattle.slicc_ast.specs.declared.tree.declaration.Function.TheVariants.{Plain, Skipped}
use Rattle.slicc_ast.specs.declared.tree.item.Item.{Item}
use Rattle.slicc_ast.specs.declared.tree.item.Item.TheVariants.{Include, Enumeration as EnumerationItem, Structure as StructureItem, Machine}
use Rattle.slicc_ast.specs.declared.tree.machine.Decl.{Decl}
use Rattle.slicc_ast.specs.declared.tree.machine.Decl.TheVariants.{States, Enumeration, Structure, OutPort, InPort, Action, Transition, Function, Object}
use Rattle.slicc_ast.specs.Prelude.{decl, Outline, kinds_of}
use Rattle.slicc_ast.specs.Trees.{item}
use Rattle.slicc_ast.specs.Parts.{Part}
use Rattle.slicc_lex.specs.declared.token.Token.{Token}
use Rattle.slicc_lex.specs.Prelude.{token_kinds}
use Rattle.slicc_reading.specs.Prelude.{IsRead}
use Rattle.slicc_reading.proofs.Spelled.{IsNodeOf, node_of}

some : (n : ℕ) → 0 < suc n
some n = omega arith

kinds_length : (tokens : List Token) → length (token_kinds tokens) ≡ length tokens
kinds_length [] = refl
kinds_length (t ∷ tokens) = ap suc (kinds_length tokens)

behind_node : (outline : Outline) (tokens left : List Token) → IsNodeOf outline tokens left → 0 < length (kinds_of outline) → length left < length tokens
behind_node outline tokens left n starts =
    omega (arith, ap length n.split, length-append n.own left, ap length n.kinds, kinds_length n.own)

decl_starts : (d : Decl) → 0 < length (kinds_of (decl d))
decl_starts (States s) = some _
decl_starts (Enumeration e) = some _
decl_starts (Structure s) = some _
decl_starts (OutPort p) = some _
decl_starts (InPort p) = some _
decl_starts (Action a) = some _
decl_starts (Transition t) = some _
decl_starts (Function (Plain kind called parameters attributes body span)) = some _
decl_starts (Function (Skipped s)) = some _
decl_starts (Object o) = some _

item_starts : (i : Item) → 0 < length (kinds_of (item i))
item_starts (Include file span) = some _
item_starts (EnumerationItem e) = some _
item_starts (StructureItem s) = some _
item_starts (Machine m) = some _

pub behind_decl : {room : ℕ} {g : Part} {tokens left : List Token} (d : Decl) → IsRead room g (decl d) tokens tokens left → length left < length tokens
behind_decl {tokens = tokens} {left = left} d r = behind_node (decl d) tokens left (node_of r.is_node) (decl_starts d)

pub behind_item : {room : ℕ} {g : Part} {tokens left : List Token} (i : Item) → IsRead room g (item i) tokens tokens left → length left < length tokens
behind_item {tokens = tokens} {left = left} i r = behind_node (item i) tokens left (node_of r.is_node) (item_starts i)
