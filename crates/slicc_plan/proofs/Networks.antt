-- The networks of an accepted protocol are those from 0 to 15, and each carries messages of one structure.
use Rattle.std.proofs.Common.{◌≡◌, ◌≤◌, ℕ, Option, None, Some, IfSome, List, [], ◌∷◌, All, flat_map, slice_get, refl}
use Rattle.std.specs.Prelude.{option_and_then}
use Rattle.std.proofs.lemmas.List.Elements.{All-append, All-cons, All-nil}
use Rattle.ruby_symbols.specs.declared.machine.BufferSymbol.{BufferSymbol}
use Rattle.slicc_ast.specs.declared.tree.declaration.Pairs.{Pairs}
use Rattle.slicc_ast.specs.declared.tree.item.Tree.{Tree}
use Rattle.slicc_ast.specs.declared.tree.machine.Machine.{Machine}
use Rattle.slicc_plan.specs.Prelude.{IsAccepted, BufferIn, Place, own, to_network, from_network, buffer_in, Declaration, within, machine_declarations, machines_of, network_type, type_at, attributes_of, buffer_place, symbols_of, buffer_of_place, buffer_symbol, machine_symbols, structure_number, KnownType, bad_values_of, CarriesOneMessage, HasNetworks}
use Rattle.slicc_plan.specs.MessageTypes.{message_type}
use Rattle.ruby_value.specs.Prelude.{network_of}
use Rattle.slicc_plan.proofs.Room.{left_none, right_none, values_kept}
use Rattle.slicc_plan.proofs.SetupNetworks.{BufferInLimits, PlaceInLimits, declared_within}
use Rattle.slicc_plan.proofs.Machines.{all_machines}

abbrev OnNetwork : BufferSymbol → Type 0
OnNetwork b = IfSome (network_of b.place) (λ n. n ≤ 15)

placed : (trees : List Tree) (p : Place) (t : Option KnownType) → PlaceInLimits p → IfSome (network_of (buffer_place trees p t)) (λ n. n ≤ 15)
placed trees own t h = tt
placed trees (to_network n) t h = h
placed trees (from_network n) t h = h

one_on : (trees : List Tree) (number : ℕ) (pairs : Option Pairs) (b : Option BufferIn) → BufferInLimits b → All OnNetwork (buffer_of_place trees number pairs b)
one_on trees number pairs None h = All-nil OnNetwork
one_on trees number pairs (Some b) h =
    All-cons OnNetwork _ [] (placed trees b.place (message_type trees number b) h) (All-nil OnNetwork)

all_on : (trees : List Tree) (number : ℕ) (m : Machine) (ds : List Declaration) → flat_map (bad_values_of trees (within m)) ds ≡ [] → All OnNetwork (flat_map (buffer_symbol trees number m) ds)
all_on trees number m [] e = All-nil OnNetwork
all_on trees number m (d ∷ ds) e =
    All-append OnNetwork (buffer_symbol trees number m d) (flat_map (buffer_symbol trees number m) ds)
    (one_on trees number (attributes_of d) (buffer_in trees m d) (declared_within trees m d (left_none (bad_values_of trees (within m) d) (flat_map (bad_values_of trees (within m)) ds) e)))
    (all_on trees number m ds (right_none (bad_values_of trees (within m) d) (flat_map (bad_values_of trees (within m)) ds) e))

machine_on : (trees : List Tree) (k : ℕ) (m : Machine) → IsAccepted trees → slice_get (machines_of trees) k ≡ Some m → HasNetworks (machine_symbols trees k m)
unfolding machine_symbols
machine_on trees k m h at = record { all = all_on trees k m (machine_declarations m) (values_kept trees k m h at) }

pub networks_numbered : (trees : List Tree) → IsAccepted trees → All HasNetworks (symbols_of trees).machines
networks_numbered trees h = all_machines HasNetworks trees (λ k m at. machine_on trees k m h at)

-- one message

abbrev Carries : List Tree → BufferSymbol → Type 0
Carries trees b = IfSome (network_of b.place) (λ n. b.message ≡ option_and_then (structure_number trees) (network_type trees n))

by_place : (trees : List Tree) (number : ℕ) (b : BufferIn) (p : Place) → IfSome (network_of (buffer_place trees p (type_at trees number b p))) (λ n. option_and_then (structure_number trees) (type_at trees number b p) ≡ option_and_then (structure_number trees) (network_type trees n))
by_place trees number b own = tt
by_place trees number b (to_network n) = refl
by_place trees number b (from_network n) = refl

one_carries : (trees : List Tree) (number : ℕ) (pairs : Option Pairs) (b : Option BufferIn) → All (Carries trees) (buffer_of_place trees number pairs b)
one_carries trees number pairs None = All-nil (Carries trees)
one_carries trees number pairs (Some b) =
    All-cons (Carries trees) _ [] (by_place trees number b b.place) (All-nil (Carries trees))

all_carry : (trees : List Tree) (number : ℕ) (m : Machine) (ds : List Declaration) → All (Carries trees) (flat_map (buffer_symbol trees number m) ds)
all_carry trees number m [] = All-nil (Carries trees)
all_carry trees number m (d ∷ ds) =
    All-append (Carries trees) (buffer_symbol trees number m d) (flat_map (buffer_symbol trees number m) ds) (one_carries trees number (attributes_of d) (buffer_in trees m d)) (all_carry trees number m ds)

machine_carries : (trees : List Tree) (k : ℕ) (m : Machine) → CarriesOneMessage trees (machine_symbols trees k m)
unfolding machine_symbols
machine_carries trees k m = record { all = all_carry trees k m (machine_declarations m) }

pub networks_carry : (trees : List Tree) → All (CarriesOneMessage trees) (symbols_of trees).machines
networks_carry trees = all_machines (CarriesOneMessage trees) trees (λ k m at. machine_carries trees k m)
