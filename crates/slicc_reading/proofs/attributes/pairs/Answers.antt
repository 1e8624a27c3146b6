use Rattle.std.proofs.Common.{sym}
use Rattle.slicc_reading.proofs.GoingOn.{of_read, of_value, on_fault}
use Rattle.slicc_reading.proofs.PairLists.{pairs_begin, one_pair, fault_in_pairs, pairs_end}
use Rattle.slicc_reading.proofs.attributes.pairs.Goals as goal

pub commas-init : goal.commas-init
commas-init c = pairs_begin c.args.room c.args.tokens.now c.new-items.result c.new-items.ensures

pub commas-preserved : goal.commas-preserved
commas-preserved c =
    let a = c.in-Ok.ensures.added in
    one_pair c.commas.items a.0 c.added.new.items a.1 (sym c.commas-test.ensures) (of_read _ _ c.next_pair.result c.next_pair.ensures.read a.2) c.commas.invariant

pub commas-smaller : goal.commas-smaller
commas-smaller c = of_value _ c.next_pair.result c.next_pair.ensures.shorter c.in-Ok.ensures.added.2

pub returns-in-Err : goal.returns-in-Err
returns-in-Err c =
    fault_in_pairs (sym c.commas-test.ensures) (c.in-Err.ensures.refused _ _ _ (on_fault _ _ c.next_pair.result c.next_pair.ensures.read)) c.commas.invariant

pub returns : goal.returns
returns c = pairs_end c.span-span.result c.commas.items (sym c.commas-test.ensures) c.span-span.ensures c.commas.invariant
