-- What a machine of an accepted protocol is to its controllers keeps what their crate asks of a machine.
use Rattle.std.proofs.Common.{◌≡◌, ◌+◌, ◌<◌, ◌≤◌, ◌==◌, ◌&&◌, ℕ, Bool, true, false, Option, None, Some, IfSome, IsTrue, List, [], ◌∷◌, All, length, slice_get, refl, sym, subst, ◌∙◌, ap, arith}
use Rattle.std.specs.Option.{option_map}
use Rattle.std.proofs.lemmas.List.Elements.{All-head, All-tail, All-cons, All-nil, All-weaker}
use Rattle.std.proofs.lemmas.Option.{IfSome_then}
use Rattle.std.proofs.lemmas.Bool.Decides.{Decides-eqb}
use Rattle.ruby_value.specs.declared.kind.Kind.{Kind}
use Rattle.ruby_value.specs.declared.kind.Kind.TheVariants as kind
use Rattle.ruby_value.specs.declared.setup.BufferPlace.{BufferPlace}
use Rattle.ruby_value.specs.declared.setup.BufferPlace.TheVariants as place
use Rattle.ruby_value.specs.declared.setup.BufferSetup.{BufferSetup}
use Rattle.ruby_value.specs.declared.setup.MachineSetup.{MachineSetup}
use Rattle.ruby_value.specs.declared.setup.Sizes.{Sizes}
use Rattle.ruby_value.specs.declared.setup.TableSetup.{TableSetup}
use Rattle.ruby_value.specs.declared.setup.TableSize.{TableSize}
use Rattle.ruby_value.specs.declared.setup.TableSize.TheVariants as size
use Rattle.ruby_value.specs.Prelude.{equal_kinds, has_kinds, is_reference, same_kinds, network_of}
use Rattle.slicc_ast.specs.declared.tree.item.Tree.{Tree}
use Rattle.slicc_ast.specs.declared.tree.machine.Machine.{Machine}
use Rattle.slicc_plan.specs.Prelude.{machines_of, network_type, receivers_field, tables_of}
use Rattle.slicc_plan.specs.Setups as plan
use Rattle.ctl_face.specs.IsMachine as face

-- Tables.

places_of : (s : TableSize) → plan.HasRoom s → face.HasPlaces s
places_of (size.Cache sets ways) h = h
places_of size.Directory h = h
places_of (size.Tbe entries) h = h
places_of size.Parameters h = h

tables_lawful : (ts : List TableSetup) → All (λ (s : TableSetup). plan.HasRoom s.size) ts → All (λ (s : TableSetup). All (λ (k : Kind). is_reference k ≡ false) s.kinds) ts → All (λ (s : TableSetup). IsTrue (has_kinds s.kinds s.initial)) ts → All face.IsTableSetup ts
tables_lawful [] room plain initial = All-nil face.IsTableSetup
tables_lawful (t ∷ ts) room plain initial =
    All-cons face.IsTableSetup t ts
    (record {
      places = places_of t.size (All-head (λ (s : TableSetup). plan.HasRoom s.size) t ts room);
      plain = All-head (λ (s : TableSetup). All (λ (k : Kind). is_reference k ≡ false) s.kinds) t ts plain;
      initial = All-head (λ (s : TableSetup). IsTrue (has_kinds s.kinds s.initial)) t ts initial;
    })
    (tables_lawful ts (All-tail (λ (s : TableSetup). plan.HasRoom s.size) t ts room)
    (All-tail (λ (s : TableSetup). All (λ (k : Kind). is_reference k ≡ false) s.kinds) t ts plain)
    (All-tail (λ (s : TableSetup). IsTrue (has_kinds s.kinds s.initial)) t ts initial))

same_test : (s : TableSize) → face.is_parameters s ≡ plan.is_parameters s
same_test (size.Cache sets ways) = refl
same_test size.Directory = refl
same_test (size.Tbe entries) = refl
same_test size.Parameters = refl

parameters_lawful : (ts : List TableSetup) (n : ℕ) → length ts ≡ n + 1 → ((table : ℕ) → IfSome (slice_get ts table) (λ (s : TableSetup). plan.is_parameters s.size ≡ (table + 1 == length ts))) → face.ParametersAreLast ts
parameters_lawful ts n count last = record {
  some = omega arith;
  last_alone = λ table. IfSome_then (slice_get ts table) (last table) (λ s h. same_test s.size ∙ h);
}

-- Buffers.

network_lawful : (p : BufferPlace) → IfSome (network_of p) (λ n. n ≤ 15) → IfSome (network_of p) (λ n. n < face.network_count)
network_lawful place.Local h = tt
network_lawful (place.To n receivers) h = omega (arith, h)
network_lawful (place.From n) h = omega (arith, h)

receivers_lawful : (p : BufferPlace) (ordered : Bool) (kinds : List Kind) → plan.NamesReceivers (record { place = p; ordered = ordered; kinds = kinds }) → IfSome (face.receivers_field p) (λ field. slice_get kinds field ≡ Some kind.Dest)
receivers_lawful place.Local ordered kinds h = tt
receivers_lawful (place.To n receivers) ordered kinds h = h
receivers_lawful (place.From n) ordered kinds h = tt

buffers_lawful : (bs : List BufferSetup) → All (λ (b : BufferSetup). IfSome (network_of b.place) (λ n. n ≤ 15)) bs → All (λ (b : BufferSetup). plan.NamesReceivers b) bs → All (λ (b : BufferSetup). All (λ (k : Kind). is_reference k ≡ false) b.kinds) bs → All face.IsBufferSetup bs
buffers_lawful [] networks receivers plain = All-nil face.IsBufferSetup
buffers_lawful (b ∷ bs) networks receivers plain =
    All-cons face.IsBufferSetup b bs
    (record {
      network = network_lawful b.place (All-head (λ (b : BufferSetup). IfSome (network_of b.place) (λ n. n ≤ 15)) b bs networks);
      receivers = receivers_lawful b.place b.ordered b.kinds (All-head (λ (b : BufferSetup). plan.NamesReceivers b) b bs receivers);
      plain = All-head (λ (b : BufferSetup). All (λ (k : Kind). is_reference k ≡ false) b.kinds) b bs plain;
    })
    (buffers_lawful bs (All-tail (λ (b : BufferSetup). IfSome (network_of b.place) (λ n. n ≤ 15)) b bs networks)
    (All-tail (λ (b : BufferSetup). plan.NamesReceivers b) b bs receivers)
    (All-tail (λ (b : BufferSetup). All (λ (k : Kind). is_reference k ≡ false) b.kinds) b bs plain))

-- One type on a network.

number_itself : (a : ℕ) → IsTrue (a == a)
number_itself a = (Decides-eqb a a).1 refl

kind_itself : (k : Kind) → IsTrue (equal_kinds k k)
kind_itself kind.Bool = refl
kind_itself kind.Int = refl
kind_itself (kind.Enum a m) = number_itself a
kind_itself kind.Addr = refl
kind_itself kind.Machine = refl
kind_itself kind.Dest = refl
kind_itself kind.Block = refl
kind_itself (kind.Entry a) = number_itself a
kind_itself (kind.Tbe a) = number_itself a

and_true : (a b : Bool) → IsTrue a → IsTrue b → IsTrue (a && b)
and_true true b h g = g
and_true false b h g = h

kinds_themselves : (ks : List Kind) → IsTrue (same_kinds ks ks)
kinds_themselves [] = refl
kinds_themselves (k ∷ ks) = and_true (equal_kinds k k) (same_kinds ks ks) (kind_itself k) (kinds_themselves ks)

same_so : (ks js : List Kind) → ks ≡ js → IsTrue (same_kinds ks js)
same_so ks js e = subst (λ xs. IsTrue (same_kinds ks xs)) e (kinds_themselves ks)

kinds_by_network : (trees : List Tree) (p : BufferPlace) (ordered : Bool) (kinds : List Kind) (network : ℕ) → plan.HasTypeOf trees (record { place = p; ordered = ordered; kinds = kinds }) → network_of p ≡ Some network → kinds ≡ plan.kinds_on trees (network_type trees network)
kinds_by_network trees place.Local ordered kinds network h e = absurd (cc e)
kinds_by_network trees (place.To n receivers) ordered kinds network h e =
    let same : n ≡ network = cc e in h.0 ∙ ap (λ k. plan.kinds_on trees (network_type trees k)) same
kinds_by_network trees (place.From n) ordered kinds network h e =
    let same : n ≡ network = cc e in h ∙ ap (λ k. plan.kinds_on trees (network_type trees k)) same

-- the receivers' field is that of the network's type
abbrev Names : List Tree → ℕ → BufferPlace → Type 0
Names trees network place.Local = Unit {0}
Names trees network (place.To n receivers) = receivers ≡ receivers_field trees (network_type trees network)
Names trees network (place.From n) = Unit {0}

names_by_network : (trees : List Tree) (p : BufferPlace) (ordered : Bool) (kinds : List Kind) (network : ℕ) → plan.HasTypeOf trees (record { place = p; ordered = ordered; kinds = kinds }) → network_of p ≡ Some network → Names trees network p
names_by_network trees place.Local ordered kinds network h e = tt
names_by_network trees (place.To n receivers) ordered kinds network h e =
    let same : n ≡ network = cc e in h.1 ∙ ap (λ k. receivers_field trees (network_type trees k)) same
names_by_network trees (place.From n) ordered kinds network h e = tt

same_receivers : (trees : List Tree) (network : ℕ) (p q : BufferPlace) → Names trees network p → Names trees network q → face.SameReceivers p q
same_receivers trees network (place.To n a) (place.To m b) h g = h ∙ sym g
same_receivers trees network (place.To n a) place.Local h g = tt
same_receivers trees network (place.To n a) (place.From m) h g = tt
same_receivers trees network place.Local q h g = tt
same_receivers trees network (place.From n) q h g = tt

alike : (trees : List Tree) (a b : BufferSetup) → plan.HasTypeOf trees a → plan.HasTypeOf trees b → face.AgreeOnType a b
alike trees a b h g = record {
  kinds = λ network e. same_so a.kinds b.kinds (kinds_by_network trees a.place a.ordered a.kinds network h e.0 ∙ sym (kinds_by_network trees b.place b.ordered b.kinds network g e.1));
  receivers = λ network e. same_receivers trees network a.place b.place (names_by_network trees a.place a.ordered a.kinds network h e.0) (names_by_network trees b.place b.ordered b.kinds network g e.1);
}

pub all_alike : (trees : List Tree) (cs bs : List BufferSetup) → All (plan.HasTypeOf trees) cs → All (plan.HasTypeOf trees) bs → All (λ a. All (face.AgreeOnType a) bs) cs
all_alike trees cs bs some all =
    All-weaker (plan.HasTypeOf trees) (λ a. All (face.AgreeOnType a) bs) (λ a typed. All-weaker (plan.HasTypeOf trees) (face.AgreeOnType a) (λ b own. alike trees a b typed own) bs all) cs some

-- The machine, by what is known of its parts.

pub lawful_in : (trees : List Tree) (number : ℕ) (sizes : Sizes) (m : Machine)
    → length (plan.setup_in trees number sizes m).tables ≡ length (tables_of trees m) + 1
    → All (λ (s : TableSetup). IsTrue (has_kinds s.kinds s.initial)) (plan.setup_in trees number sizes m).tables
    → All (λ (s : TableSetup). All (λ (k : Kind). is_reference k ≡ false) s.kinds) (plan.setup_in trees number sizes m).tables
    → All (λ (b : BufferSetup). All (λ (k : Kind). is_reference k ≡ false) b.kinds) (plan.setup_in trees number sizes m).buffers
    → All (λ (b : BufferSetup). plan.NamesReceivers b) (plan.setup_in trees number sizes m).buffers
    → All (λ (s : TableSetup). plan.HasRoom s.size) (plan.setup_in trees number sizes m).tables
    → ((table : ℕ) → IfSome (slice_get (plan.setup_in trees number sizes m).tables table) (λ (s : TableSetup). plan.is_parameters s.size ≡ (table + 1 == length (plan.setup_in trees number sizes m).tables)))
    → All (λ (b : BufferSetup). plan.HasTypeOf trees b) (plan.setup_in trees number sizes m).buffers
    → All (λ (b : BufferSetup). IfSome (network_of b.place) (λ n. n ≤ 15)) (plan.setup_in trees number sizes m).buffers
    → face.IsMachine (plan.setup_in trees number sizes m)
lawful_in trees number sizes m count initial plain plain_messages receivers room last typed networks = record {
  tables = tables_lawful (plan.setup_in trees number sizes m).tables room plain initial;
  parameters = parameters_lawful (plan.setup_in trees number sizes m).tables (length (tables_of trees m)) count last;
  buffers = buffers_lawful (plan.setup_in trees number sizes m).buffers networks receivers plain_messages;
  one_type = record { one_type = all_alike trees (plan.setup_in trees number sizes m).buffers (plan.setup_in trees number sizes m).buffers typed typed };
}

found : {X Y : Type 0} (P : Y → Type 0) (f : X → Y) (o : Option X) (y : Y) → ((x : X) → o ≡ Some x → P (f x)) → option_map f o ≡ Some y → P y
found P f None y each e = absurd (cc e)
found P f (Some x) y each e = let same : f x ≡ y = cc e in subst P same (each x refl)

pub lawful : (trees : List Tree) (number : ℕ) (sizes : Sizes) (setup : MachineSetup)
    → ((m : Machine) → slice_get (machines_of trees) number ≡ Some m → face.IsMachine (plan.setup_in trees number sizes m))
    → plan.setup_of trees number sizes ≡ Some setup → face.IsMachine setup
lawful trees number sizes setup each e =
    found face.IsMachine (plan.setup_in trees number sizes) (slice_get (machines_of trees) number) setup each e
