-- The buffers of a network have one type, and the networks of an accepted protocol are those from 0 to 15.
use Rattle.std.proofs.Common.{◌≡◌, ◌++◌, ◌≤◌, ℕ, Bool, true, false, cond, Option, None, Some, IfSome, List, [], ◌∷◌, All, flat_map, slice_get, refl, arith}
use Rattle.std.specs.Prelude.{codes}
use Rattle.std.proofs.lemmas.List.Elements.{All-append, All-cons, All-nil}
use Rattle.ruby_value.specs.declared.setup.BufferSetup.{BufferSetup}
use Rattle.ruby_value.specs.declared.setup.Sizes.{Sizes}
use Rattle.slicc_ast.specs.declared.tree.declaration.Pairs.{Pairs}
use Rattle.slicc_ast.specs.declared.tree.item.Tree.{Tree}
use Rattle.slicc_ast.specs.declared.tree.machine.Machine.{Machine}
use Rattle.slicc_ast.specs.declared.tree.name.Name.{Name}
use Rattle.slicc_ast.specs.declared.tree.span.Span.{Span}
use Rattle.slicc_plan.specs.declared.built_in.BuiltInType.TheVariants.{Buffer, TbeTable}
use Rattle.slicc_plan.specs.Prelude.{IsAccepted, attributes, has_attribute, BufferIn, Place, own, to_network, from_network, buffer_in, buffer_of, virtual_network, Declaration, machine, states, parameter, object, action, function, symbol, state, member, formal, local, within, machine_declarations, machines_of, type_at, HasTypeOf, attributes_of, buffer_by, buffer_place, is_ordered, kinds_on, setup_in, KnownType, is_built_in, type_in, bad_attributes, bad_buffer_attributes, bad_entries, bad_literal, bad_object_attributes, bad_values_of, is_either, is_number_within}
use Rattle.slicc_plan.specs.Declarations.{enumeration, structure, out_port, in_port}
use Rattle.slicc_plan.specs.MessageTypes.{message_type}
use Rattle.ruby_value.specs.Prelude.{network_of}
use Rattle.slicc_plan.proofs.Room.{first_within, left_none, right_none, values_kept}

-- one type

placed : (trees : List Tree) (number : ℕ) (b : BufferIn) (p : Place) (v : Bool) → HasTypeOf trees (record { place = buffer_place trees p (type_at trees number b p); ordered = v; kinds = kinds_on trees (type_at trees number b p) })
placed trees number b own v = tt
placed trees number b (to_network n) v = (refl, refl)
placed trees number b (from_network n) v = refl

one_typed : (trees : List Tree) (number : ℕ) (pairs : Option Pairs) (b : Option BufferIn) → All (HasTypeOf trees) (buffer_by trees number pairs b)
one_typed trees number pairs None = All-nil (HasTypeOf trees)
one_typed trees number pairs (Some b) =
    All-cons (HasTypeOf trees) _ [] (placed trees number b b.place (is_ordered pairs)) (All-nil (HasTypeOf trees))

all_typed : (trees : List Tree) (number : ℕ) (m : Machine) (ds : List Declaration) → All (HasTypeOf trees) (flat_map (λ (d : Declaration). buffer_by trees number (attributes_of d) (buffer_in trees m d)) ds)
all_typed trees number m [] = All-nil (HasTypeOf trees)
all_typed trees number m (d ∷ ds) =
    All-append (HasTypeOf trees) _ _ (one_typed trees number (attributes_of d) (buffer_in trees m d)) (all_typed trees number m ds)

pub buffers_typed : (trees : List Tree) (number : ℕ) (sizes : Sizes) (m : Machine) → All (λ (b : BufferSetup). HasTypeOf trees b) (setup_in trees number sizes m).buffers
buffers_typed trees number sizes m = all_typed trees number m (machine_declarations m)

-- numbers of networks

abbrev OnNetwork : BufferSetup → Type 0
OnNetwork b = IfSome (network_of b.place) (λ n. n ≤ 15)

abbrev pub PlaceInLimits : Place → Type 0
PlaceInLimits own = Unit {0}
PlaceInLimits (to_network n) = n ≤ 15
PlaceInLimits (from_network n) = n ≤ 15

abbrev pub BufferInLimits : Option BufferIn → Type 0
BufferInLimits None = Unit {0}
BufferInLimits (Some b) = PlaceInLimits b.place

place_within : (to from : Bool) (n : ℕ) → n ≤ 15 → PlaceInLimits (cond to (to_network n) (cond from (from_network n) own))
place_within true from n h = h
place_within false true n h = h
place_within false false n h = tt

network_within : (pairs : Pairs) → bad_buffer_attributes pairs ≡ [] → virtual_network pairs ≤ 15
network_within pairs e =
    let kept : bad_attributes (codes "virtual_network") (is_number_within 0 15) pairs ≡ [] = right_none (bad_attributes (codes "network") (is_either (codes "To") (codes "From")) pairs) (bad_attributes (codes "virtual_network") (is_number_within 0 15) pairs) (left_none (bad_attributes (codes "network") (is_either (codes "To") (codes "From")) pairs ++ bad_attributes (codes "virtual_network") (is_number_within 0 15) pairs) (bad_attributes (codes "ordered") (is_either (codes "true") (codes "false")) pairs) e) in
    (first_within 0 15 0 (attributes (codes "virtual_network") pairs) _ (omega arith) (omega arith) refl kept).1

buffer_within : (is_buffer : Bool) (name : Name) (pairs : Pairs) (span : Span) → cond is_buffer (bad_buffer_attributes pairs) [] ≡ [] → BufferInLimits (buffer_of is_buffer name pairs span)
buffer_within true name pairs span e =
    place_within (has_attribute (codes "network") (codes "To") pairs) (has_attribute (codes "network") (codes "From") pairs) (virtual_network pairs) (network_within pairs e)
buffer_within false name pairs span e = tt

object_within : (t : Option KnownType) (name : Name) (pairs : Pairs) (span : Span) → bad_object_attributes t pairs ≡ [] → BufferInLimits (buffer_of (is_built_in Buffer t) name pairs span)
object_within t name pairs span e =
    buffer_within (is_built_in Buffer t) name pairs span (left_none (cond (is_built_in Buffer t) (bad_buffer_attributes pairs) []) (cond (is_built_in TbeTable t) (bad_entries pairs) []) e)

pub declared_within : (trees : List Tree) (m : Machine) (d : Declaration) → bad_values_of trees (within m) d ≡ [] → BufferInLimits (buffer_in trees m d)
declared_within trees m (parameter p) e =
    object_within (type_in trees (within m) p.kind.text) p.name p.pairs p.span (right_none (bad_literal (type_in trees (within m) p.kind.text) p.literal) (bad_object_attributes (type_in trees (within m) p.kind.text) p.pairs) e)
declared_within trees m (object o) e =
    object_within (type_in trees (within m) o.kind.text) o.name o.pairs o.span e
declared_within trees m (machine d) e = tt
declared_within trees m (enumeration d) e = tt
declared_within trees m (structure d) e = tt
declared_within trees m (states d) e = tt
declared_within trees m (out_port d) e = tt
declared_within trees m (in_port d) e = tt
declared_within trees m (action d) e = tt
declared_within trees m (function d) e = tt
declared_within trees m (symbol d) e = tt
declared_within trees m (state d) e = tt
declared_within trees m (member d) e = tt
declared_within trees m (formal d) e = tt
declared_within trees m (local kind called span) e = tt

on_network : (trees : List Tree) (p : Place) (t : Option KnownType) → PlaceInLimits p → IfSome (network_of (buffer_place trees p t)) (λ n. n ≤ 15)
on_network trees own t h = tt
on_network trees (to_network n) t h = h
on_network trees (from_network n) t h = h

one_on_network : (trees : List Tree) (number : ℕ) (pairs : Option Pairs) (b : Option BufferIn) → BufferInLimits b → All OnNetwork (buffer_by trees number pairs b)
one_on_network trees number pairs None h = All-nil OnNetwork
one_on_network trees number pairs (Some b) h =
    All-cons OnNetwork _ [] (on_network trees b.place (message_type trees number b) h) (All-nil OnNetwork)

all_on_networks : (trees : List Tree) (number : ℕ) (m : Machine) (ds : List Declaration) → flat_map (bad_values_of trees (within m)) ds ≡ [] → All OnNetwork (flat_map (λ (d : Declaration). buffer_by trees number (attributes_of d) (buffer_in trees m d)) ds)
all_on_networks trees number m [] e = All-nil OnNetwork
all_on_networks trees number m (d ∷ ds) e =
    All-append OnNetwork _ _ (one_on_network trees number (attributes_of d) (buffer_in trees m d) (declared_within trees m d (left_none (bad_values_of trees (within m) d) (flat_map (bad_values_of trees (within m)) ds) e)))
    (all_on_networks trees number m ds (right_none (bad_values_of trees (within m) d) (flat_map (bad_values_of trees (within m)) ds) e))

pub buffers_on_networks : (trees : List Tree) (number : ℕ) (sizes : Sizes) (m : Machine) → IsAccepted trees → slice_get (machines_of trees) number ≡ Some m → All (λ (b : BufferSetup). IfSome (network_of b.place) (λ n. n ≤ 15)) (setup_in trees number sizes m).buffers
buffers_on_networks trees number sizes m h at =
    all_on_networks trees number m (machine_declarations m) (values_kept trees number m h at)
