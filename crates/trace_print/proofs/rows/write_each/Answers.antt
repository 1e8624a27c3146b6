use Rattle.std.proofs.Common.{◌+◌, ◌∷◌, ap, drop, sym, ◌∙◌}
use Rattle.std.proofs.lemmas.List.{drop_more}
use Rattle.std.specs.Option.{option_copied}
use Rattle.trace_print.specs.Prelude.{row_line}
use Rattle.trace_print.proofs.Listing.{last_line, next_line, no_line}
use Rattle.trace_print.proofs.rows.write_each.Goals as goal

pub loop-row-preserved : goal.loop-row-preserved
loop-row-preserved g c =
    let l = c.loop-row in
    let rows = c.args.rows.now in
    λ whole after rest. l.invariant whole after
    (next_line g.S.Sink.writes (row_line c.args.symbols.now (option_copied c.args.m)) rows l.row-index c.row-item.result l.sink c.write_row.new.sink after whole
    (drop_more rows l.row-index c.row-item.result c.loop-row-test.true ∙ ap (λ row. row ∷ drop (l.row-index + 1) rows) (sym c.row-item.is)) c.if-not-write_row.ensures rest)

pub returns-then-not-write_row : goal.returns-then-not-write_row
returns-then-not-write_row g c =
    let l = c.loop-row in
    let rows = c.args.rows.now in
    l.invariant _ _
    (last_line g.S.Sink.writes (row_line c.args.symbols.now (option_copied c.args.m)) rows l.row-index c.row-item.result l.sink c.write_row.new.sink
    (drop_more rows l.row-index c.row-item.result c.loop-row-test.true ∙ ap (λ row. row ∷ drop (l.row-index + 1) rows) (sym c.row-item.is)) c.if-not-write_row.ensures)

pub returns : goal.returns
returns g c =
    let l = c.loop-row in
    l.invariant _ _ (no_line g.S.Sink.writes (row_line c.args.symbols.now (option_copied c.args.m)) c.args.rows.now l.row-index l.sink c.loop-row-test.false)
