use Rattle.std.proofs.Common.{◌≡◌, ◌+◌, arith, ap, count_by, get_or, sym, take, ◌∙◌}
use Rattle.std.proofs.lemmas.List.{take_all}
use Rattle.std.proofs.lemmas.Option.{get_or_from_slice_get}
use Rattle.run_journal.specs.declared.entry.Entry.{Entry}
use Rattle.run_journal.specs.Prelude.{entry_of}
use Rattle.ruby_answers.specs.Prelude.{is_fired}
use Rattle.ruby_answers.proofs.Counting.{count_step}
use Rattle.ruby_answers.proofs.runs.fired.Goals as goal

pub loop-place-preserved : goal.loop-place-preserved
loop-place-preserved c =
    let l = c.loop-place in
    let es = c.args.journal.now in
    let e : Entry = entry_of c.entry.result in
    let here : e ≡ get_or es l.place e = sym (get_or_from_slice_get es l.place e e c.entry.ensures) in
    record {
      count =
          ap (λ n. n + c.counted-count.result) l.invariant.count
          ∙ ap (λ n. count_by is_fired (take l.place es) + n) c.counted-count.ensures.value
          ∙ sym (count_step is_fired es l.place e (omega arith) here);
      bound = omega (arith, l.invariant.bound, c.counted-count.ensures.bound);
    }

pub returns : goal.returns
returns c = c.loop-place.invariant.count ∙ ap (count_by is_fired) (take_all c.loop-place.place c.args.journal.now (omega arith))
