use Rattle.std.proofs.Common.{◌+◌, ◌∷◌, ap, drop, sym, ◌∙◌}
use Rattle.std.proofs.lemmas.List.{drop_more}
use Rattle.trace_print.specs.Prelude.{body_lines}
use Rattle.trace_print.proofs.LinesFrom.{lines_cut, lines_next, no_lines}
use Rattle.trace_print.proofs.code.write_bodies.Goals as goal

pub loop-body-preserved : goal.loop-body-preserved
loop-body-preserved g c =
    let l = c.loop-body in
    let xs = c.args.bodies.now in
    let x = c.index-bodies-body.result in
    λ whole after rest. l.invariant whole after
    (lines_next g.S.Sink.writes body_lines xs l.body x l.sink c.write_body.new.sink after whole
    (drop_more xs l.body x c.loop-body-test.true ∙ ap (λ y. y ∷ drop (l.body + 1) xs) (sym c.index-bodies-body.is)) c.if-not-write_body.ensures rest)

pub returns-then-not-write_body : goal.returns-then-not-write_body
returns-then-not-write_body g c =
    let l = c.loop-body in
    let xs = c.args.bodies.now in
    let x = c.index-bodies-body.result in
    l.invariant _ _
    (lines_cut g.S.Sink.writes body_lines xs l.body x l.sink c.write_body.new.sink
    (drop_more xs l.body x c.loop-body-test.true ∙ ap (λ y. y ∷ drop (l.body + 1) xs) (sym c.index-bodies-body.is)) c.if-not-write_body.ensures)

pub returns : goal.returns
returns g c =
    let l = c.loop-body in l.invariant _ _ (no_lines g.S.Sink.writes body_lines c.args.bodies.now l.body l.sink c.loop-body-test.false)
