use Rattle.std.proofs.Common.{◌+◌, ◌∙◌, ◌≡◌, ap, arith, drop, sym, List, Option, ℕ, map, get_or}
use Rattle.std.proofs.lemmas.Option.{get_or_from_slice_get}
use Rattle.std.specs.BTreeMap.{get}
use Rattle.run_journal.specs.declared.entry.Entry.{Entry}
use Rattle.run_journal.specs.Prelude.{entry_of, next_state}
use Rattle.run_journal.proofs.FinalStates.{final_at, finals_of_entries, if_listed}
use Rattle.run_journal.proofs.LastStates.{place_cmp, takes_in, from_here, passes_over, at_end, not_fired}
use Rattle.run_journal.proofs.last_states.finals.Goals as goal
use Rattle.run_journal.proofs.last_states.finals.Goals.{in-Fired+in_ok-_before, in_default}

pub loop-place-preserved : goal.loop-place-preserved
loop-place-preserved c = λ k a.
    let rest : List Entry = drop (c.loop-place.place + 1) c.args.j.now in
    let e : Entry = entry_of c.entry.result in
    let old : Option ℕ = get place_cmp c.loop-place.states (k, a) in
    let here : e ≡ get_or c.args.j.now c.loop-place.place e = sym (get_or_from_slice_get c.args.j.now c.loop-place.place e e c.entry.ensures) in
    let so = from_here c.args.j.now c.loop-place.place e k a old _ (omega arith) here (c.loop-place.invariant k a) in
    elim c.match-entry.branch [
      | in-Fired+in_ok-_before w ↦
          rw w.states-is
          (takes_in k a w.in-Fired.controller w.in-Fired.note.address w.in-Fired.note.next (get place_cmp w.insert.new.self (k, a)) old e rest (ap (λ x. next_state k a (entry_of x)) w.in-Fired.is) (w.in_ok-_before.ensures.updates.0 (k, a))
          ∙ so)
      | in_default w ↦ rw w.states-is (passes_over e k a rest old (not_fired c.entry.result w.in_default.not-Fired) ∙ so)
    ]

pub returns : goal.returns
returns c =
    if_listed c.args.j.now c.listed.result (map final_at c.loop-place.states.entries) c.listed.ensures.listed
    (finals_of_entries c.args.j.now c.loop-place.states.entries c.listed.ensures.ordered (λ k a.
    at_end c.args.j.now c.loop-place.place k a (get place_cmp c.loop-place.states (k, a)) _ (omega arith) (c.loop-place.invariant k a)))
