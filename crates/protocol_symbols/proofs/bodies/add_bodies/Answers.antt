use Rattle.std.proofs.Common.{subst}
use Rattle.std.proofs.lemmas.List.{take_all}
use Rattle.slicc_plan.specs.Prelude.{action_symbol, function_symbol, in_port_symbol, out_port_symbol}
use Rattle.type_numbers.specs.Prelude.{trees_of}
use Rattle.protocol_symbols.specs.Prelude.{AddBodies}
use Rattle.protocol_symbols.proofs.Numbered.{list_step}
use Rattle.protocol_symbols.proofs.bodies.add_bodies.Goals as goal

pub loop-number-preserved : goal.loop-number-preserved
loop-number-preserved c =
    let trees = trees_of c.args.types.now in
    let written = c.args.written.now in
    let number = c.loop-number.number in
    let d = c.index-written-number.result in
    let below = c.loop-number-test.true in
    let is = c.index-written-number.is in
    let old = c.args.bodies.now in
    let was = c.loop-number.invariant in
    let more = c.in_ok-add_body.ensures in
    record {
      in_ports = list_step (in_port_symbol c.args.buffers.now) written number d old.in_ports c.loop-number.bodies.in_ports c.add_body.new.bodies.in_ports below is more.in_ports was.in_ports;
      out_ports = list_step (out_port_symbol c.args.buffers.now) written number d old.out_ports c.loop-number.bodies.out_ports c.add_body.new.bodies.out_ports below is more.out_ports was.out_ports;
      functions = list_step (function_symbol trees c.args.m.now) written number d old.functions c.loop-number.bodies.functions c.add_body.new.bodies.functions below is more.functions was.functions;
      actions = list_step action_symbol written number d old.actions c.loop-number.bodies.actions c.add_body.new.bodies.actions below is more.actions was.actions;
    }

pub returns : goal.returns
returns c =
    subst (λ ds. AddBodies (trees_of c.args.types.now) c.args.m.now c.args.buffers.now ds c.args.bodies.now c.loop-number.bodies)
    (take_all c.loop-number.number c.args.written.now c.loop-number-test.false) c.loop-number.invariant
