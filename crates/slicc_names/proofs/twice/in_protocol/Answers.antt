use Rattle.declared_types.specs.Prelude.{declaration_of}
use Rattle.slicc_names.proofs.GlobalRepeats.{next_declaration}
use Rattle.slicc_names.proofs.twice.in_protocol.Goals as goal

pub loop-d-preserved : goal.loop-d-preserved
loop-d-preserved c =
    next_declaration declaration_of c.args.declarations.now c.loop-d.d-index c.d-item.result c.loop-d.names c.declare.new.names c.args.first c.loop-d.first c.in_ok-first.first
    c.loop-d-test.true c.d-item.is c.loop-d.invariant c.in_ok-first.ensures.told c.in_ok-first.ensures.names
