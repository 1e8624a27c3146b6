use Rattle.rows.proofs.Rows.{is_row}
use Rattle.rows.proofs.table.row.Goals as goal

pub returns : goal.returns
returns g c =
    is_row _ _ _ _ _ _ _ _ _ _ _ _ c.row_of-row.result c.in_ok-sink.ensures c.new.ensures c.ruby-done.ensures.answered c.bytes.ensures c.end_of-end.ensures
    c.row_of-row.ensures
