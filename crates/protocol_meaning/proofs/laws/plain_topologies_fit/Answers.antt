use Rattle.protocol_meaning.proofs.Plain.{plain_fits}
use Rattle.protocol_meaning.proofs.laws.plain_topologies_fit.Goals as goal

pub returns : goal.returns
returns c = λ trees t accepted is.
    plain_fits trees t accepted
    (record {
      machines = λ number sizes setup. c.setup_is_machine.ensures trees number sizes setup accepted;
      types = c.network_has_one_type.ensures trees;
      numbers = c.lists_have_numbers.ensures trees accepted;
      networks = c.networks_have_numbers.ensures trees accepted;
      once = c.networks_are_received_once.ensures trees accepted;
    })
    is
