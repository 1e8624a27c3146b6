use Rattle.std.proofs.Common.{sym}
use Rattle.slicc_ast.specs.Prelude.{pair_list, ◌▸◌, comma, of}
use Rattle.slicc_ast.specs.Form.Form.{pair}
use Rattle.slicc_reading.specs.Prelude.{no_memory}
use Rattle.slicc_reading.proofs.GoingOn.{of_read, of_value, on_fault}
use Rattle.slicc_decl.specs.Prelude.{pair_parts}
use Rattle.slicc_decl.proofs.Lists.{each_pair}
use Rattle.slicc_reading.proofs.Repeats.{all_from, fault_in_one, one_before, one_more}
use Rattle.slicc_decl.proofs.transitions.further_pairs.Goals as goal

pub returns-in_default : goal.returns-in_default
returns-in_default c = no_memory

pub commas-preserved : goal.commas-preserved
commas-preserved c =
    let a = c.in-Ok-added.ensures.added in
    one_more c.commas.items a.0 c.added.new.items a.1 (sym c.commas-test.ensures) (of_read _ _ c.next_pair.result c.next_pair.ensures.read a.2) c.commas.invariant

pub returns-in-Err : goal.returns-in-Err
returns-in-Err c =
    fault_in_one (sym c.commas-test.ensures) (c.in-Err.ensures.refused _ _ _ (on_fault _ _ c.next_pair.result c.next_pair.ensures.read)) c.commas.invariant

pub returns : goal.returns
returns c =
    all_from c.span-span.result (pair_list c.commas.items) (each_pair c.commas.items) (sym c.commas-test.ensures) c.span-span.ensures c.commas.invariant

pub commas-init : goal.commas-init
commas-init c =
    one_before pair_parts c.args.room (comma ▸ of pair) c.args.start.now c.args.tokens.now c.new-items.result c.args.first c.push.new.self c.new-items.ensures c.in-Ok.ensures.ok
    c.requires

pub commas-smaller : goal.commas-smaller
commas-smaller c =
    of_value _ c.next_pair.result c.next_pair.ensures.shorter c.in-Ok-added.ensures.added.2
