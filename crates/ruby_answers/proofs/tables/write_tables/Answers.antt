use Rattle.std.proofs.Common.{ℕ, ◌+◌, ◌∷◌, List, ap, drop, sym, ◌∙◌}
use Rattle.std.proofs.lemmas.List.{drop_all, drop_more}
use Rattle.slicc_plan.specs.declared.row.Row.{Row}
use Rattle.slicc_plan.specs.Prelude.{symbols_of, numbered_from}
use Rattle.trace_print.specs.Prelude.{row_lines}
use Rattle.ruby_answers.proofs.Following.{no_part, part_cut, part_on}
use Rattle.ruby_answers.proofs.tables.write_tables.Goals as goal

pub loop-machine-preserved : goal.loop-machine-preserved
loop-machine-preserved g c =
    let l = c.loop-machine in
    let i = l.machine in
    let f : ℕ → List Row → List (List ℕ) = row_lines (symbols_of c.args.plan.now) in
    let ts = c.args.tables.now in
    λ whole after rest. l.invariant whole after
    (part_on g.S.Sink.writes l.sink c.write_rows.new.sink after (numbered_from f i (drop i ts)) (f i c.index-tables-machine.result) (numbered_from f (i + 1) (drop (i + 1) ts)) whole
    (ap (numbered_from f i) (drop_more ts i c.index-tables-machine.result c.loop-machine-test.true ∙ ap (λ rows. rows ∷ drop (i + 1) ts) (sym c.index-tables-machine.is))) c.if-not-write_rows.ensures.pieces rest)

pub returns-then-not-write_rows : goal.returns-then-not-write_rows
returns-then-not-write_rows g c =
    let l = c.loop-machine in
    let i = l.machine in
    let f : ℕ → List Row → List (List ℕ) = row_lines (symbols_of c.args.plan.now) in
    let ts = c.args.tables.now in
    l.invariant _ _
    (part_cut g.S.Sink.writes l.sink c.write_rows.new.sink (numbered_from f i (drop i ts)) (f i c.index-tables-machine.result) (numbered_from f (i + 1) (drop (i + 1) ts))
    (ap (numbered_from f i) (drop_more ts i c.index-tables-machine.result c.loop-machine-test.true ∙ ap (λ rows. rows ∷ drop (i + 1) ts) (sym c.index-tables-machine.is))) c.if-not-write_rows.ensures.pieces)

pub returns : goal.returns
returns g c =
    let l = c.loop-machine in
    let f : ℕ → List Row → List (List ℕ) = row_lines (symbols_of c.args.plan.now) in
    l.invariant _ _ (no_part g.S.Sink.writes l.sink (numbered_from f l.machine (drop l.machine c.args.tables.now)) (ap (numbered_from f l.machine) (drop_all l.machine c.args.tables.now c.loop-machine-test.false)))
