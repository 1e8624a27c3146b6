-- Buffers and ports, as the definitions of a protocol's meaning see them.
use Rattle.slicc_plan.specs.Buffers as plan
use Rattle.declared_types.specs.Prelude.{type_of}
use Rattle.machine_table.specs.declared.ports.BufferIn.{BufferIn}
use Rattle.machine_table.specs.declared.ports.Place.{Place}
use Rattle.machine_table.specs.declared.ports.Place.TheVariants.{Own, ToNetwork, FromNetwork}
use Rattle.machine_table.specs.declared.ports.PortOn.{PortOn}

abbrev pub place_seen : Place → plan.Place
place_seen Own = plan.own
place_seen (ToNetwork v) = plan.to_network v
place_seen (FromNetwork v) = plan.from_network v

abbrev pub buffer_seen : BufferIn → plan.BufferIn
buffer_seen b = record { name = b.name.now; place = place_seen b.place; span = b.span }

abbrev pub port_seen : PortOn → plan.PortOn
port_seen p =
    record { machine = p.machine; is_in = p.is_in; buffer = buffer_seen p.buffer; message = type_of p.message; span = p.span }
