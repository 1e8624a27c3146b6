-- Ports, buffers and networks don't agree. There are two types of messages on one virtual network, or on one buffer of a
-- machine's own. A port of another type than `RubyRequest` is on the `mandatoryQueue` of a machine with a sequencer. A type
-- without a field `Destination` of type `NetDest` is sent to a network. A machine has two buffers from one network. Or an out
-- port is on a buffer from a network, or an in port on one to a network. That is told at the port, or at the later of the two
-- buffers, in the order of machines and of the text. That a network carries one type is this project's own.
use Rattle.std.specs.Prelude.{ℕ, ◌+◌, ◌==◌, ◌&&◌, ◌||◌, ◌++◌, Bool, true, false, not, cond, None, Some, List, [], ◌∷◌, flat_map, codes}
use Rattle.std.specs.List.{list_any}
use Rattle.std.specs.Str.{bytes_eq}
use Rattle.slicc_ast.specs.declared.tree.span.Span.{Span}
use Rattle.slicc_ast.specs.declared.tree.item.Tree.{Tree}
use Rattle.slicc_ast.specs.declared.tree.machine.Machine.{Machine}
use Rattle.slicc_ast.specs.declared.tree.declaration.Member.{Member}
use Rattle.slicc_ast.specs.declared.tree.declaration.Member.TheVariants.{Field, Method, Skipped}
use Rattle.slicc_plan.specs.declared.broken.Broken.{Broken}
use Rattle.slicc_plan.specs.declared.broken.Rule.TheVariants.{Networks}
use Rattle.slicc_plan.specs.declared.built_in.BuiltInType.TheVariants.{NetDest, Request}
use Rattle.slicc_plan.specs.Buffers.{BufferIn, Place, own, to_network, from_network, PortOn, buffers_of, is_same_known, ports_of}
use Rattle.slicc_plan.specs.Declarations.{Scope, machine_declarations, machines_of}
use Rattle.slicc_plan.specs.Limits.{is_sequencer}
use Rattle.slicc_plan.specs.Machines.{in_each}
use Rattle.slicc_plan.specs.Types.{KnownType, structured, is_built_in, type_in}

abbrev pub networks_broken : ℕ → Span → Broken
networks_broken number place = record { rule = Networks; machine = number; place = place; other = None }

abbrev pub port_broken : Bool → PortOn → List Broken
port_broken is_broken p = cond is_broken (networks_broken p.machine p.span ∷ []) []

-- Two types where there may be one.

abbrev pub is_one_network : Place → Place → Bool
is_one_network (to_network v) (to_network w) = v == w
is_one_network (to_network v) (from_network w) = v == w
is_one_network (from_network v) (to_network w) = v == w
is_one_network (from_network v) (from_network w) = v == w
is_one_network _ _ = false

abbrev pub is_own : Place → Bool
is_own own = true
is_own (to_network v) = false
is_own (from_network v) = false

abbrev pub is_one_own_buffer : PortOn → PortOn → Bool
is_one_own_buffer p q =
    is_own p.buffer.place && (p.machine == q.machine) && bytes_eq p.buffer.name.text q.buffer.name.text

-- two ports through which the same messages go, of different types
abbrev pub differ : PortOn → PortOn → Bool
differ p q =
    (is_one_network p.buffer.place q.buffer.place || is_one_own_buffer p q) && not (is_same_known p.message q.message)

-- of these ports, with those before them
abbrev pub differing_after : List PortOn → List PortOn → List Broken
differing_after before [] = []
differing_after before (p ∷ ps) = port_broken (list_any (differ p) before) p ++ differing_after (before ++ p ∷ []) ps

abbrev pub all_ports_from : List Tree → ℕ → List Machine → List PortOn
all_ports_from trees number [] = []
all_ports_from trees number (m ∷ ms) = ports_of trees number m ++ all_ports_from trees (number + 1) ms

abbrev pub all_ports : List Tree → List PortOn
all_ports trees = all_ports_from trees 0 (machines_of trees)

-- What a port alone may break.

abbrev pub is_mandatory : BufferIn → Bool
is_mandatory b = bytes_eq b.name.text (codes "mandatoryQueue")

abbrev pub has_sequencer : List Tree → Machine → Bool
has_sequencer trees m = list_any (is_sequencer trees m) (machine_declarations m)

abbrev pub is_wrong_way : PortOn → Bool
is_wrong_way p = is_wrong p.is_in p.buffer.place
  where
    is_wrong : Bool → Place → Bool
    is_wrong true (to_network v) = true
    is_wrong false (from_network v) = true
    is_wrong _ _ = false

abbrev pub is_destination : List Tree → Scope → Member → Bool
is_destination trees scope (Field kind called attributes span) =
    bytes_eq called.text (codes "Destination") && is_built_in NetDest (type_in trees scope kind.text)
is_destination trees scope (Method kind called formals attributes span) = false
is_destination trees scope (Skipped s) = false

abbrev pub has_destination : List Tree → KnownType → Bool
has_destination trees (structured scope s) = list_any (is_destination trees scope) s.members
has_destination trees _ = false

abbrev pub is_sent : Bool → Place → Bool
is_sent false (to_network v) = true
is_sent _ _ = false

abbrev pub is_sent_nowhere : List Tree → PortOn → Bool
is_sent_nowhere trees p = is_sent p.is_in p.buffer.place && not (has_destination trees p.message)

abbrev pub is_no_request : List Tree → Machine → PortOn → Bool
is_no_request trees m p =
    has_sequencer trees m && is_mandatory p.buffer && not (is_built_in Request (Some p.message))

abbrev pub wrong_ports_in : List Tree → ℕ → Machine → List Broken
wrong_ports_in trees number m =
    flat_map (λ (p : PortOn). port_broken (is_wrong_way p || is_sent_nowhere trees p || is_no_request trees m p) p)
    (ports_of trees number m)

-- Two buffers from one network.

abbrev pub are_from_one : Place → Place → Bool
are_from_one (from_network v) (from_network w) = v == w
are_from_one _ _ = false

-- of these buffers, with those before them
abbrev pub doubled_after : ℕ → List BufferIn → List BufferIn → List Broken
doubled_after number before [] = []
doubled_after number before (b ∷ bs) =
    cond (list_any (λ (a : BufferIn). are_from_one a.place b.place) before) (networks_broken number b.span ∷ []) []
    ++ doubled_after number (before ++ b ∷ []) bs

abbrev pub doubled_in : List Tree → ℕ → Machine → List Broken
doubled_in trees number m = doubled_after number [] (buffers_of trees m)

abbrev pub wrong_networks : List Tree → List Broken
wrong_networks trees =
    differing_after [] (all_ports trees) ++ in_each (wrong_ports_in trees) trees ++ in_each (doubled_in trees) trees
