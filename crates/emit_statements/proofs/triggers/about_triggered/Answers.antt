use Rattle.std.proofs.Common.{subst}
use Rattle.std.specs.Option.{option_copied}
use Rattle.body_meaning.specs.Prelude.{reading}
use Rattle.body_code.specs.Prelude.{Segment, ◌⨾◌}
use Rattle.body_code.specs.Statements.{optional, reference_written}
use Rattle.emit_expressions.specs.Prelude.{AddsIfOk}
use Rattle.emit_expressions.proofs.Adding.{adds, adds_then, not_added}
use Rattle.emit_statements.proofs.ChangeSteps.{adds_last}
use Rattle.emit_statements.proofs.TriggerSteps.{about_is}
use Rattle.emit_statements.proofs.triggers.about_triggered.Goals as goal

pub returns-in_err-optional : goal.returns-in_err-optional
returns-in_err-optional c = λ ending. not_added _ _ _ _ _ c.from_residual.ensures.1

pub returns-in_err-reference_written : goal.returns-in_err-reference_written
returns-in_err-reference_written c = λ ending. not_added _ _ _ _ _ c.from_residual-in_err-reference_written.ensures.1

pub returns : goal.returns
returns c = λ ending.
    let s = reading c.args.s in
    let n = c.args.n.now in
    let own = c.args.own.now in
    let one = optional s n ending (option_copied c.given_at.result) own in
    let two = reference_written s n ending c.is_some-has_entry.result c.entry_kind-entry.result (option_copied c.given_at-2.result) own in
    let three = reference_written s n ending c.is_some-has_tbe.result c.tbe_kind-tbe.result (option_copied c.given_at-3.result) own in
    subst (λ (a : Segment). AddsIfOk a c.reference_written-2.result c.args.code.now c.reference_written-2.new.code)
    (about_is s n ending c.args.given.now own (option_copied c.given_at.result) (option_copied c.given_at-2.result) (option_copied c.given_at-3.result)
    c.is_some-has_entry.result c.is_some-has_tbe.result c.entry_kind-entry.result c.tbe_kind-tbe.result c.tbe_place-place.result
    c.given_at.ensures c.is_some-has_entry.ensures c.entry_kind-entry.ensures c.given_at-2.ensures
    c.is_some-has_tbe.ensures c.tbe_kind-tbe.ensures c.tbe_place-place.ensures c.given_at-3.ensures)
    (adds_last (one ⨾ two) three c.reference_written-2.result c.args.code.now c.reference_written.new.code c.reference_written-2.new.code
    (adds_then c.args.code.now c.optional.new.code c.reference_written.new.code one two
    (adds _ _ _ _ (c.in_ok-optional.ensures ending)) (adds _ _ _ _ (c.in_ok-reference_written.ensures ending)))
    (c.reference_written-2.ensures ending))
