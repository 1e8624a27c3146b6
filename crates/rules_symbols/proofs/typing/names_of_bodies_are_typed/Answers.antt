use Rattle.rules_symbols.proofs.TypedEnvironments.{action_typed, declared_typed, enqueue_typed, function_typed, peek_typed, port_typed}
use Rattle.rules_symbols.proofs.typing.names_of_bodies_are_typed.Goals as goal

pub returns : goal.returns
returns c = record {
  ports = λ trees k m accepted at. port_typed trees accepted k m at;
  actions = λ trees k m accepted at. action_typed trees accepted k m at;
  functions = λ trees k m kind called formals attributes body span accepted at there. function_typed trees accepted k m at kind called formals attributes body span there;
  locals = λ k env kind called e h none. declared_typed k env h kind called e none;
  peeked = λ k env span port message h none. peek_typed k env h span port message none;
  made = λ k env span port message latency h none. enqueue_typed k env h span port message latency none;
}
