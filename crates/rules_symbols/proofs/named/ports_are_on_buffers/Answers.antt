use Rattle.rules_symbols.proofs.PortBuffers.{in_port_on, out_port_on}
use Rattle.rules_symbols.proofs.named.ports_are_on_buffers.Goals as goal

pub returns : goal.returns
returns c = record {
  in_ports = λ trees k m p t accepted at there is. in_port_on trees accepted k m at p t there is;
  out_ports = λ trees k m p t accepted at there is. out_port_on trees accepted k m at p t there is;
}
