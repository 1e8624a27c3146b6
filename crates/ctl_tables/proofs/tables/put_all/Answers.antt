use Rattle.std.proofs.Common.{◌∙◌, arith}
use Rattle.ruby_value.proofs.Entries.{last_first}
use Rattle.ctl_tables.proofs.tables.put_all.Goals as goal

pub loop-line-preserved : goal.loop-line-preserved
loop-line-preserved c =
    let step = c.put-before.ensures.room in
    let cases = c.in-Some.ensures.cases in
    let before = c.loop-line.invariant in
    (omega arith, last_first _ _ _ _ _ c.put-before.ensures.after c.in-Some.ensures.items ∙ before.1)
