-- A whole file from its outline.
use Rattle.std.proofs.Common.{◌≡◌, ◌==◌, ℕ, Bool, true, false, not, Option, Some, None, List, [], ◌∷◌, length, refl, ap}
use Rattle.std.proofs.Math.Path.{ap₂}
use Rattle.std.proofs.lemmas.Bool.{and_parts}
use Rattle.slicc_ast.specs.declared.tree.span.Span.{Span}
use Rattle.slicc_ast.specs.declared.tree.token.TokenKind.{TokenKind}
use Rattle.slicc_ast.specs.declared.tree.token.TokenKind.TheVariants.{Name, Number, Quoted, Word, Sign, End}
use Rattle.slicc_ast.specs.declared.tree.token.Word.{Word as Reserved}
use Rattle.slicc_ast.specs.declared.tree.token.Word.TheVariants.{Enumeration as EnumerationWord, Structure as StructureWord, Machine as MachineWord}
use Rattle.slicc_ast.specs.declared.tree.declaration.Enumeration.{Enumeration as EnumerationRecord}
use Rattle.slicc_ast.specs.declared.tree.declaration.Structure.{Structure as StructureRecord}
use Rattle.slicc_ast.specs.declared.tree.machine.Machine.{Machine as MachineRecord}
use Rattle.slicc_ast.specs.declared.tree.item.Tree.{Tree}
use Rattle.slicc_ast.specs.declared.tree.item.Item.{Item}
use Rattle.slicc_ast.specs.declared.tree.item.Item.TheVariants.{Include, Enumeration, Structure, Machine}
use Rattle.slicc_ast.specs.Outline.{token}
use Rattle.slicc_ast.specs.Prelude.{Outline, Parts, none, part, provided, is_allowed, are_allowed, item_list, protocol_parts, tree}
use Rattle.slicc_ast.specs.Trees.{item}
use Rattle.slicc_files.proofs.Bare.{bare, bare_in}
use Rattle.slicc_files.proofs.Places.{span_of, parts_of, nodes_in, is_token, beyond, text_in}
use Rattle.slicc_files.proofs.FromDeclarations.{enumeration_from, enumeration_again, structure_from, structure_again}
use Rattle.slicc_files.proofs.FromMachines.{machine_from, machine_again}

-- items, by their first word
abbrev item_by_word : Outline → Parts → Reserved → Item
item_by_word o parts EnumerationWord = Enumeration (enumeration_from o)
item_by_word o parts StructureWord = Structure (structure_from o)
item_by_word o parts MachineWord = Machine (machine_from o)
item_by_word o parts _ = Include (text_in parts) (span_of o)

abbrev item_by_token : Outline → Parts → TokenKind → Item
item_by_token o parts (Name text) = Include [] (span_of o)
item_by_token o parts (Number n) = Include [] (span_of o)
item_by_token o parts (Quoted text) = Include [] (span_of o)
item_by_token o parts (Word reserved) = item_by_word o parts reserved
item_by_token o parts (Sign which) = Include [] (span_of o)
item_by_token o parts End = Include [] (span_of o)

abbrev item_by_parts : Outline → Parts → Item
item_by_parts o none = Include [] (span_of o)
item_by_parts o (token kind parts) = item_by_token o parts kind
item_by_parts o (part outline parts) = Include [] (span_of o)
item_by_parts o (provided condition parts) = Include [] (span_of o)

abbrev item_from : Outline → Item
item_from o = item_by_parts o (parts_of o)

item_again : (i : Item) → is_allowed (item i) ≡ true → item_from (bare (item i)) ≡ i
item_again (Include file span) allowed = refl
item_again (Enumeration e) allowed = ap (λ (x : EnumerationRecord). Enumeration x) (enumeration_again e)
item_again (Structure s) allowed = ap (λ (x : StructureRecord). Structure x) (structure_again s allowed)
item_again (Machine m) allowed = ap (λ (x : MachineRecord). Machine x) (machine_again m allowed)

abbrev items_from : List Outline → List Item
items_from [] = []
items_from (outline ∷ outlines) = item_from outline ∷ items_from outlines

items_again : (is : List Item) → are_allowed (item_list is) ≡ true → items_from (nodes_in (bare_in (item_list is))) ≡ is
items_again [] allowed = refl
items_again (i ∷ is) allowed =
    let inner = and_parts (is_allowed (item i)) (are_allowed (item_list is)) allowed in
    ap₂ (λ (x : Item) (xs : List Item). x ∷ xs) (item_again i inner.0) (items_again is inner.1)

-- the protocol's name, where a token is the first part
abbrev protocol_by : Parts → Bool → Option (List ℕ)
protocol_by parts true = Some (text_in (beyond parts))
protocol_by parts false = None

abbrev pub tree_from : Outline → Tree
tree_from o =
    let parts = parts_of o in
    record {
      protocol = protocol_by parts (is_token parts);
      items = items_from (nodes_in parts);
      span = span_of o;
    }

no_protocol : (is : List Item) → protocol_by (bare_in (item_list is)) (is_token (bare_in (item_list is))) ≡ None
no_protocol [] = refl
no_protocol (i ∷ is) = refl

pub tree_again : (t : Tree) → is_allowed (tree t) ≡ true → tree_from (bare (tree t)) ≡ t
tree_again t allowed = at t.protocol t.items t.span (and_parts (not (length t.items == 0)) (are_allowed (protocol_parts t.protocol (item_list t.items))) allowed).1
  where
    at : (protocol : Option (List ℕ)) (is : List Item) (span : Span) → are_allowed (protocol_parts protocol (item_list is)) ≡ true → tree_from (bare (tree (record { protocol = protocol; items = is; span = span }))) ≡ record { protocol = protocol; items = is; span = span }
    at None is span allowed =
        ap₂ (λ (p : Option (List ℕ)) (xs : List Item). record { protocol = p; items = xs; span = span }) (no_protocol is) (items_again is allowed)
    at (Some called) is span allowed =
        ap (λ (xs : List Item). record { protocol = Some called; items = xs; span = span }) (items_again is allowed)
