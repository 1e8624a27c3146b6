use Rattle.machine_setup.proofs.Lawful.{lawful, lawful_in}
use Rattle.machine_setup.proofs.law.setup_is_machine.Goals as goal

pub returns : goal.returns
returns c = λ trees number sizes setup accepted fit e.
    lawful trees number sizes setup
    (λ m at. lawful_in trees number sizes m
    (c.setup_has_its_parts.ensures.tables trees number sizes m)
    (c.initial_fields_have_their_kinds.ensures trees number sizes m)
    (c.no_field_is_a_reference.ensures.tables trees number sizes m)
    (c.no_field_is_a_reference.ensures.buffers trees number sizes m)
    (c.receivers_are_sets.ensures trees number sizes m)
    (c.tables_have_room.ensures trees number sizes m accepted fit at)
    (λ table. c.parameters_are_last.ensures trees number sizes m table)
    (c.network_has_one_type.ensures trees number sizes m)
    (c.networks_are_numbered.ensures trees number sizes m accepted at))
    e
