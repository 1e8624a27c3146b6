use Rattle.std.proofs.Common.{◌∙◌, Some, ap, arith, reverse, sym, take}
use Rattle.ctl_tables.specs.declared.change.TableChange.{TableChange}
use Rattle.ctl_tables.specs.Prelude.{table_of, frame_of, lines_after, lines_beside, lines_changed}
use Rattle.ctl_tables.proofs.Counting.{one_more}
use Rattle.ctl_tables.proofs.stored.StoredTable.lines_after.Goals as goal

pub loop-change-preserved : goal.loop-change-preserved
loop-change-preserved c =
    let frame = Some (frame_of (table_of c.args.self.now)) in
    let before = lines_beside (table_of c.args.self.now) c.args.line in
    let so_far = lines_after frame c.args.table c.args.line before (reverse (take c.loop-change.change-index c.args.log.now)) in
    record {
      so_far =
          c.lines_with-lines.ensures.lines ∙ ap (lines_changed frame c.args.table c.args.line c.change-item.result) c.loop-change.invariant.so_far
          ∙ ap (λ (d : TableChange). lines_changed frame c.args.table c.args.line d so_far) c.change-item.is
          ∙ sym (one_more frame c.args.table c.args.line before c.args.log.now c.loop-change.change-index c.change-item.result c.loop-change-test.true);
      small = omega arith;
    }
