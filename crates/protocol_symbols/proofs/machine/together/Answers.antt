use Rattle.std.proofs.Common.{◌∙◌, ap}
use Rattle.std.specs.Prelude.{codes}
use Rattle.ruby_symbols.specs.Prelude.{action_among, function_among}
use Rattle.slicc_plan.specs.Prelude.{in_port_symbol, machine_symbols, numbered_from, out_port_symbol}
use Rattle.protocol_symbols.proofs.machine.together.Goals as goal

pub returns : goal.returns
unfolding machine_symbols
returns c trees number m numbers sequencer objects bodies rest = λ i. record {
  name = rest.name i;
  states = numbers.states i;
  permissions = rest.permissions i;
  events = numbers.events i;
  tables = objects.tables i;
  values = objects.values i;
  references = objects.references i;
  buffers = objects.buffers i;
  sequencer = sequencer i;
  in_ports = (bodies.in_ports ∙ ap (λ bs. numbered_from (in_port_symbol bs) 0 m.declarations) objects.buffers) i;
  out_ports = (bodies.out_ports ∙ ap (λ bs. numbered_from (out_port_symbol bs) 0 m.declarations) objects.buffers) i;
  functions = bodies.functions i;
  actions = bodies.actions i;
  transitions = rest.transitions i;
  entry = numbers.entry i;
  directory = numbers.directory i;
  tbe = numbers.tbe i;
  get_state = (c.function_among-get_state.ensures ∙ ap (λ fs. function_among fs (codes "getState")) (c.deref.ensures ∙ bodies.functions)) i;
  set_state = (c.function_among-set_state.ensures ∙ ap (λ fs. function_among fs (codes "setState")) (c.deref-2.ensures ∙ bodies.functions)) i;
  set_permission = (c.function_among-set_permission.ensures ∙ ap (λ fs. function_among fs (codes "setAccessPermission")) (c.deref-3.ensures ∙ bodies.functions)) i;
  get_next_state = (c.function_among-get_next_state.ensures ∙ ap (λ fs. function_among fs (codes "getNextState")) (c.deref-4.ensures ∙ bodies.functions)) i;
  stall = (c.action_among-stall.ensures ∙ ap (λ xs. action_among xs (codes "z_stall")) (c.deref-5.ensures ∙ bodies.actions)) i;
}
