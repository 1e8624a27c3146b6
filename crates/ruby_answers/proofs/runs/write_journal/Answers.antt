use Rattle.std.proofs.Common.{ℕ, ◌≡◌, ◌+◌, List, ◌∷◌, ap, arith, drop, flat_map, get_or, sym, ◌∙◌}
use Rattle.std.proofs.lemmas.List.{drop_all, drop_more}
use Rattle.std.proofs.lemmas.Option.{get_or_from_slice_get}
use Rattle.slicc_plan.specs.Prelude.{symbols_of}
use Rattle.run_journal.specs.declared.entry.Entry.{Entry}
use Rattle.run_journal.specs.Prelude.{entry_of}
use Rattle.trace_print.specs.Prelude.{entry_lines}
use Rattle.ruby_answers.proofs.Following.{no_part, part_cut, part_on}
use Rattle.ruby_answers.proofs.runs.write_journal.Goals as goal

pub loop-place-preserved : goal.loop-place-preserved
loop-place-preserved g c =
    let l = c.loop-place in
    let f : Entry → List (List ℕ) = entry_lines (symbols_of c.args.plan.now) c.args.names.now in
    let es = c.args.journal.now in
    let e : Entry = entry_of c.entry.result in
    let here : e ≡ get_or es l.place e = sym (get_or_from_slice_get es l.place e e c.entry.ensures) in
    λ whole after rest. l.invariant whole after
    (part_on g.S.Sink.writes l.sink c.write_entry.new.sink after (flat_map f (drop l.place es)) (f e) (flat_map f (drop (l.place + 1) es)) whole
    (ap (flat_map f) (drop_more es l.place e (omega arith) ∙ ap (λ x. x ∷ drop (l.place + 1) es) (sym here))) c.if-not-write_entry.ensures.pieces rest)

pub returns-then-not-write_entry : goal.returns-then-not-write_entry
returns-then-not-write_entry g c =
    let l = c.loop-place in
    let f : Entry → List (List ℕ) = entry_lines (symbols_of c.args.plan.now) c.args.names.now in
    let es = c.args.journal.now in
    let e : Entry = entry_of c.entry.result in
    let here : e ≡ get_or es l.place e = sym (get_or_from_slice_get es l.place e e c.entry.ensures) in
    l.invariant _ _
    (part_cut g.S.Sink.writes l.sink c.write_entry.new.sink (flat_map f (drop l.place es)) (f e) (flat_map f (drop (l.place + 1) es))
    (ap (flat_map f) (drop_more es l.place e (omega arith) ∙ ap (λ x. x ∷ drop (l.place + 1) es) (sym here))) c.if-not-write_entry.ensures.pieces)

pub returns : goal.returns
returns g c =
    let l = c.loop-place in
    let f : Entry → List (List ℕ) = entry_lines (symbols_of c.args.plan.now) c.args.names.now in
    l.invariant _ _ (no_part g.S.Sink.writes l.sink (flat_map f (drop l.place c.args.journal.now)) (ap (flat_map f) (drop_all l.place c.args.journal.now (omega arith))))
