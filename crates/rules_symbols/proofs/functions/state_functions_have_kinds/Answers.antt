use Rattle.rules_symbols.proofs.StateKinds.{get_state_is, set_permission_is, set_state_is}
use Rattle.rules_symbols.proofs.functions.state_functions_have_kinds.Goals as goal

pub returns : goal.returns
returns c = record {
  reading = λ trees k m kind called formals attributes body span accepted at first. get_state_is trees accepted k m at kind called formals attributes body span first;
  writing = λ trees k m kind called formals attributes body span accepted at first. set_state_is trees accepted k m at kind called formals attributes body span first;
  permitting = λ trees k m kind called formals attributes body span accepted at first. set_permission_is trees accepted k m at kind called formals attributes body span first;
}
