use Rattle.declared_types.proofs.Index.{indexed_after, lengths_after}
use Rattle.declared_types.proofs.table.add_firsts.Goals as goal

pub loop-number-preserved : goal.loop-number-preserved
loop-number-preserved c = record {
  same_length = lengths_after _ _ _ _ _ _ c.in_ok-add_first.ensures.names c.in_ok-add_first.ensures.firsts c.loop-number.invariant.same_length;
  indexed =
      indexed_after _ _ _ _ c.args.declarations.now c.loop-number.number c.index-declarations-number.result c.name_text.result.now c.loop-number-test.true c.index-declarations-number.is c.name_text.ensures
      c.in_ok-add_first.ensures.names c.in_ok-add_first.ensures.firsts c.loop-number.invariant.same_length c.loop-number.invariant.indexed;
}
