use Rattle.slot_laws.proofs.SendsOfBodies.{actions_send, calls_send, fired_send, next_sends, ports_send, room_sends, states_send}
use Rattle.slot_laws.proofs.sends.sends_are_counted.Goals as goal

pub returns : goal.returns
returns c = record {
  actions = λ s buffer a actions. actions_send s buffer a actions;
  fired = λ s buffer t state next row. fired_send s buffer t state next row;
  ports = λ s buffer p. ports_send s buffer p;
  calls = λ s buffer k arguments. calls_send s buffer k arguments;
  states = λ s buffer a. states_send s buffer a;
  room = λ s buffer actions. room_sends s buffer actions;
  next = λ s buffer address state next. next_sends s buffer address state next;
}
