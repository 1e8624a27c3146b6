use Rattle.ruby_topology.proofs.Ends.{found_rows}
use Rattle.ruby_topology.proofs.paths.link_row.Goals as goal

pub returns : goal.returns
returns c =
    found_rows c.args.links.now c.args.total c.args.from c.in_ok-marks.marks.items c.as_slice.result.now c.as_slice.ensures.value c.in_ok-marks.ensures
    c.sums-row.result c.sums-row.ensures
