-- The field that names the receivers of a message is a set of controllers.
use Rattle.std.proofs.Common.{◌≡◌, ◌&&◌, ℕ, zero, suc, Bool, true, false, Option, None, Some, IfSome, List, [], ◌∷◌, All, map, filter, flat_map, slice_get, refl, subst, get_or}
use Rattle.std.specs.Prelude.{option_and_then, position, codes}
use Rattle.std.specs.Str.{bytes_eq}
use Rattle.std.proofs.lemmas.List.Elements.{All-append, All-cons, All-nil}
use Rattle.std.proofs.lemmas.List.Quantifiers.{position-Some}
use Rattle.std.proofs.lemmas.Option.{slice_get-get_or}
use Rattle.ruby_value.specs.declared.kind.Kind.{Kind}
use Rattle.ruby_value.specs.declared.kind.Kind.TheVariants as kind
use Rattle.ruby_value.specs.declared.setup.BufferSetup.{BufferSetup}
use Rattle.ruby_value.specs.declared.setup.Sizes.{Sizes}
use Rattle.slicc_ast.specs.declared.tree.declaration.Member.{Member}
use Rattle.slicc_ast.specs.declared.tree.declaration.Member.TheVariants.{Field, Method, Skipped}
use Rattle.slicc_ast.specs.declared.tree.declaration.Pairs.{Pairs}
use Rattle.slicc_ast.specs.declared.tree.item.Tree.{Tree}
use Rattle.slicc_ast.specs.declared.tree.machine.Machine.{Machine}
use Rattle.slicc_plan.specs.declared.built_in.BuiltInType.TheVariants.{Int, Cycles, Tick, Bool as Boolean, Address, MachineId, MachineType, NetDest, DataBlock, AccessPermission, RequestType, MessageSize, Request, AbstractEntry, Void, Cache, Directory, TbeTable, Sequencer, Buffer}
use Rattle.slicc_plan.specs.Prelude.{BufferIn, Place, own, to_network, from_network, buffer_in, Declaration, member, Scope, machine_declarations, field_kind, is_field, receivers_field, is_destination, NamesReceivers, attributes_of, buffer_by, buffer_place, is_ordered, kinds_on, setup_in, kind_or_bool, plain_kind, KnownType, built_in, enumerated, structured, is_built_in, type_in}
use Rattle.slicc_plan.specs.FieldTypes.{field_of}
use Rattle.slicc_plan.specs.MessageTypes.{message_type}

-- what a list has at the first place that passes
position_gets : {X : Type 0} (p : X → Bool) (xs : List X) (n : ℕ) → position p xs ≡ Some n → (x : X) × (slice_get xs n ≡ Some x) × (p x ≡ true)
position_gets p [] n e = cc
position_gets p (y ∷ ys) n e =
    let (below, passes, first) = position-Some p (y ∷ ys) n y e in
    (get_or (y ∷ ys) n y, slice_get-get_or (y ∷ ys) n y below, passes)

abbrev member_kind : List Tree → Scope → Member → Kind
member_kind trees scope (Field written called attributes span) =
    field_kind trees (record { scope = scope; kind = written; attributes = attributes })
member_kind trees scope (Method written called formals attributes span) = kind.Bool
member_kind trees scope (Skipped s) = kind.Bool

-- of a field its kind stands at its place
kind_at : (trees : List Tree) (scope : Scope) (ms : List Member) (n : ℕ) (x : Member) → slice_get (filter (λ (m : Member). is_field (member m)) ms) n ≡ Some x → slice_get (map (field_kind trees) (flat_map (field_of scope) ms)) n ≡ Some (member_kind trees scope x)
kind_at trees scope [] n x e = cc
kind_at trees scope (Field written called attributes span ∷ ms) zero x e =
    let same : Field written called attributes span ≡ x = cc in
    subst (λ y. Some (member_kind trees scope (Field written called attributes span)) ≡ Some (member_kind trees scope y)) same refl
kind_at trees scope (Field written called attributes span ∷ ms) (suc n) x e = kind_at trees scope ms n x e
kind_at trees scope (Method written called formals attributes span ∷ ms) n x e = kind_at trees scope ms n x e
kind_at trees scope (Skipped s ∷ ms) n x e = kind_at trees scope ms n x e

destination_kind : (trees : List Tree) (t : Option KnownType) → is_built_in NetDest t ≡ true → kind_or_bool (option_and_then (plain_kind trees) t) ≡ kind.Dest
destination_kind trees None e = cc
destination_kind trees (Some (enumerated scope text members)) e = cc
destination_kind trees (Some (structured scope s)) e = cc
destination_kind trees (Some (built_in NetDest)) e = refl
destination_kind trees (Some (built_in Int)) e = cc
destination_kind trees (Some (built_in Cycles)) e = cc
destination_kind trees (Some (built_in Tick)) e = cc
destination_kind trees (Some (built_in Boolean)) e = cc
destination_kind trees (Some (built_in Address)) e = cc
destination_kind trees (Some (built_in MachineId)) e = cc
destination_kind trees (Some (built_in MachineType)) e = cc
destination_kind trees (Some (built_in DataBlock)) e = cc
destination_kind trees (Some (built_in AccessPermission)) e = cc
destination_kind trees (Some (built_in RequestType)) e = cc
destination_kind trees (Some (built_in MessageSize)) e = cc
destination_kind trees (Some (built_in Request)) e = cc
destination_kind trees (Some (built_in AbstractEntry)) e = cc
destination_kind trees (Some (built_in Void)) e = cc
destination_kind trees (Some (built_in Cache)) e = cc
destination_kind trees (Some (built_in Directory)) e = cc
destination_kind trees (Some (built_in TbeTable)) e = cc
destination_kind trees (Some (built_in Sequencer)) e = cc
destination_kind trees (Some (built_in Buffer)) e = cc

second : (a b : Bool) → (a && b) ≡ true → b ≡ true
second true b e = e
second false b e = cc

destination_is : (trees : List Tree) (scope : Scope) (m : Member) → is_destination trees scope m ≡ true → member_kind trees scope m ≡ kind.Dest
destination_is trees scope (Field written called attributes span) e =
    destination_kind trees (type_in trees scope written.text) (second (bytes_eq called.text (codes "Destination")) (is_built_in NetDest (type_in trees scope written.text)) e)
destination_is trees scope (Method written called formals attributes span) e = cc
destination_is trees scope (Skipped s) e = cc

among_fields : (trees : List Tree) (scope : Scope) (ms : List Member) (o : Option ℕ) → position (is_destination trees scope) (filter (λ (m : Member). is_field (member m)) ms) ≡ o → IfSome o (λ n. slice_get (map (field_kind trees) (flat_map (field_of scope) ms)) n ≡ Some kind.Dest)
among_fields trees scope ms None e = tt
among_fields trees scope ms (Some n) e =
    let (x, at, is) = position_gets (is_destination trees scope) (filter (λ (m : Member). is_field (member m)) ms) n e in
    subst (λ k. slice_get (map (field_kind trees) (flat_map (field_of scope) ms)) n ≡ Some k) (destination_is trees scope x is) (kind_at trees scope ms n x at)

of_type : (trees : List Tree) (t : Option KnownType) → IfSome (receivers_field trees t) (λ n. slice_get (kinds_on trees t) n ≡ Some kind.Dest)
of_type trees None = tt
of_type trees (Some (built_in b)) = tt
of_type trees (Some (enumerated scope text members)) = tt
of_type trees (Some (structured scope s)) = among_fields trees scope s.members _ refl

abbrev Names : BufferSetup → Type 0
Names b = NamesReceivers b

by_place : (trees : List Tree) (p : Place) (t : Option KnownType) (v : Bool) → NamesReceivers (record { place = buffer_place trees p t; ordered = v; kinds = kinds_on trees t })
by_place trees own t v = tt
by_place trees (to_network n) t v = of_type trees t
by_place trees (from_network n) t v = tt

one_names : (trees : List Tree) (number : ℕ) (pairs : Option Pairs) (b : Option BufferIn) → All Names (buffer_by trees number pairs b)
one_names trees number pairs None = All-nil Names
one_names trees number pairs (Some b) =
    All-cons Names _ [] (by_place trees b.place (message_type trees number b) (is_ordered pairs)) (All-nil Names)

names_among : (trees : List Tree) (number : ℕ) (m : Machine) (ds : List Declaration) → All Names (flat_map (λ (d : Declaration). buffer_by trees number (attributes_of d) (buffer_in trees m d)) ds)
names_among trees number m [] = All-nil Names
names_among trees number m (d ∷ ds) =
    All-append Names _ _ (one_names trees number (attributes_of d) (buffer_in trees m d)) (names_among trees number m ds)

pub buffers_name : (trees : List Tree) (number : ℕ) (sizes : Sizes) (m : Machine) → All (λ (b : BufferSetup). NamesReceivers b) (setup_in trees number sizes m).buffers
buffers_name trees number sizes m = names_among trees number m (machine_declarations m)
