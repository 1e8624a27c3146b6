use Rattle.protocol_meaning.proofs.Read.{no_wrong_networks, read_fits}
use Rattle.protocol_meaning.proofs.laws.topologies_fit.Goals as goal

pub returns : goal.returns
returns c = λ trees bytes t accepted is.
    read_fits trees bytes t
    (record {
      machines = λ number sizes setup. c.setup_is_machine.ensures trees number sizes setup accepted;
      types = c.network_has_one_type.ensures trees;
      numbers = c.lists_have_numbers.ensures trees accepted;
      networks = c.networks_have_numbers.ensures trees accepted;
      once = c.networks_are_received_once.ensures trees accepted;
    })
    (no_wrong_networks trees accepted) is
