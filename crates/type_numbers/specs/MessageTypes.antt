-- The types of the messages of buffers, where the ports of all machines are these. Of all ports of a protocol it is the message
-- type of its buffers.
use Rattle.std.specs.Prelude.{ℕ, cond, Option, None, Some, List, find}
use Rattle.std.specs.Option.{option_or}
use Rattle.slicc_plan.specs.declared.built_in.BuiltInType.TheVariants.{Request}
use Rattle.slicc_plan.specs.Prelude.{BufferIn, Place, own, to_network, from_network, PortOn, is_on, is_on_network, port_message, is_mandatory, KnownType, built_in}

abbrev pub network_type_among : List PortOn → ℕ → Option KnownType
network_type_among ports network = port_message (find (λ (p : PortOn). is_on_network network p.buffer.place) ports)

abbrev pub own_type_among : List PortOn → ℕ → BufferIn → Option KnownType
own_type_among ports number b =
    option_or (port_message (find (is_on number b) ports)) (cond (is_mandatory b) (Some (built_in Request)) None)

abbrev pub type_at_among : List PortOn → ℕ → BufferIn → Place → Option KnownType
type_at_among ports number b own = own_type_among ports number b
type_at_among ports number b (to_network network) = network_type_among ports network
type_at_among ports number b (from_network network) = network_type_among ports network

abbrev pub type_among : List PortOn → ℕ → BufferIn → Option KnownType
type_among ports number b = type_at_among ports number b b.place
