-- The type of the messages of a buffer. All ports on one virtual network have one type, which is this project's own, and it is
-- that of each buffer on the network, whether there is a port on it or not. A machine's own buffer has the type of the ports on
-- it; without one `mandatoryQueue` has `RubyRequest`. Other buffers have no type, and carry no message.
use Rattle.std.specs.Prelude.{ℕ, ◌&&◌, ◌==◌, Bool, false, cond, Option, None, Some, List, find, filter, position}
use Rattle.std.specs.Option.{option_map, option_or}
use Rattle.std.specs.Str.{bytes_eq}
use Rattle.slicc_ast.specs.declared.tree.declaration.Member.{Member}
use Rattle.slicc_ast.specs.declared.tree.item.Tree.{Tree}
use Rattle.slicc_plan.specs.declared.built_in.BuiltInType.TheVariants.{Request}
use Rattle.slicc_plan.specs.Buffers.{BufferIn, Place, own, to_network, from_network, PortOn}
use Rattle.slicc_plan.specs.Declarations.{member}
use Rattle.slicc_plan.specs.Limits.{is_field}
use Rattle.slicc_plan.specs.Networks.{all_ports, is_destination, is_mandatory}
use Rattle.slicc_plan.specs.Types.{KnownType, built_in, structured}

abbrev pub is_on_network : ℕ → Place → Bool
is_on_network network own = false
is_on_network network (to_network n) = n == network
is_on_network network (from_network n) = n == network

-- on the buffer, which is of the machine of this number
abbrev pub is_on : ℕ → BufferIn → PortOn → Bool
is_on number b p = (p.machine == number) && bytes_eq p.buffer.name.text b.name.text

abbrev pub port_message : Option PortOn → Option KnownType
port_message p = option_map (λ (q : PortOn). q.message) p

abbrev pub network_type : List Tree → ℕ → Option KnownType
network_type trees network =
    port_message (find (λ (p : PortOn). is_on_network network p.buffer.place) (all_ports trees))

abbrev pub own_type : List Tree → ℕ → BufferIn → Option KnownType
own_type trees number b =
    option_or (port_message (find (is_on number b) (all_ports trees)))
    (cond (is_mandatory b) (Some (built_in Request)) None)

abbrev pub type_at : List Tree → ℕ → BufferIn → Place → Option KnownType
type_at trees number b own = own_type trees number b
type_at trees number b (to_network network) = network_type trees network
type_at trees number b (from_network network) = network_type trees network

-- of a buffer of the machine of this number
abbrev pub message_type : List Tree → ℕ → BufferIn → Option KnownType
message_type trees number b = type_at trees number b b.place

-- the number of the field that names the receivers of a message
abbrev pub receivers_field : List Tree → Option KnownType → Option ℕ
receivers_field trees (Some (structured scope s)) =
    position (is_destination trees scope) (filter (λ (m : Member). is_field (member m)) s.members)
receivers_field trees _ = None
