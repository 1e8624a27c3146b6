use Rattle.std.proofs.Common.{◌≡◌, ◌∙◌, arith, sym, get_or}
use Rattle.std.proofs.lemmas.Option.{get_or_from_slice_get}
use Rattle.run_journal.specs.declared.entry.Entry.{Entry}
use Rattle.run_journal.specs.Prelude.{entry_of}
use Rattle.run_journal.proofs.PartStates.{other-entry, own-entry}
use Rattle.run_journal.proofs.parts.part.Goals as goal
use Rattle.run_journal.proofs.parts.part.Goals.{then-is_of+in_ok-to_entry+in_ok-push, else-is_of}

pub loop-place-preserved : goal.loop-place-preserved
loop-place-preserved c =
    let e : Entry = entry_of c.entry-entry.result in
    let here : e ≡ get_or c.args.j.now c.loop-place.place e = sym (get_or_from_slice_get c.args.j.now c.loop-place.place e e c.entry-entry.ensures) in
    elim c.if-is_of.branch [
      | then-is_of+in_ok-to_entry+in_ok-push w ↦
          own-entry c.args.controller c.args.j.now c.loop-place.entries _ c.loop-place.place e (omega arith) here c.loop-place.invariant
          w.in_ok-to_entry.field-0 c.if-is_of.entries w.in_ok-to_entry.ensures (w.entries-is ∙ w.in_ok-push.ensures.ok) (sym c.is_of.ensures ∙ w.if-is_of.true)
      | else-is_of w ↦
          rw w.entries-is (other-entry c.args.controller c.args.j.now c.loop-place.entries _ c.loop-place.place e (omega arith) here c.loop-place.invariant (sym c.is_of.ensures ∙ w.if-is_of.false))
    ]
