use Rattle.std.proofs.Common.{refl}
use Rattle.emit_statements.proofs.MessageSteps.{fields_end, fields_more}
use Rattle.emit_statements.proofs.messages.fields_set.Goals as goal

pub loop-k-init : goal.loop-k-init
loop-k-init c = refl

pub loop-k-preserved : goal.loop-k-preserved
loop-k-preserved c =
    fields_more c.args.fields.now c.loop-k.k c.index-fields-k.result c.loop-k.code c.field_set.new.code _ c.loop-k-test.true c.index-fields-k.is c.in_ok-field_set.ensures c.loop-k.invariant

pub returns : goal.returns
returns c = fields_end c.args.fields.now c.loop-k.k c.loop-k.code _ c.loop-k-test.false c.loop-k.invariant
