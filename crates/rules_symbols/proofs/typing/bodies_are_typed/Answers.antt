use Rattle.rules_symbols.proofs.TypedProtocols.{action_body, function_body, port_body}
use Rattle.rules_symbols.proofs.typing.bodies_are_typed.Goals as goal

pub returns : goal.returns
returns c = record {
  ports = λ trees k m p accepted at there. port_body trees accepted k m at p there;
  actions = λ trees k m a accepted at there. action_body trees accepted k m at a there;
  functions = λ trees k m kind called formals attributes body span accepted at there. function_body trees accepted k m at kind called formals attributes body span there;
}
