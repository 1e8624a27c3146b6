use Rattle.std.proofs.Common.{refl}
use Rattle.std.proofs.lemmas.Result.{err_from_is_err_and}
use Rattle.ruby_value.specs.declared.fault.Fault.TheVariants.{Reference}
use Rattle.acts.specs.declared.body_fault.BodyFault.TheVariants as own
use Rattle.acts.specs.Prelude.{itself}
use Rattle.acts.proofs.Walk.{does_stops, then_does, then_stops}
use Rattle.body_meaning.specs.Prelude.{calls_within, reading}
use Rattle.body_walk.proofs.PlaceForms.{other_last}
use Rattle.body_walk.proofs.finding.place_last.Goals as goal

pub returns-in_default : goal.returns-in_default
returns-in_default g c = rw (c.in_default.is, c.from.ensures) (does_stops itself own.Reference Reference _ _ refl)

pub returns-in_default-last : goal.returns-in_default-last
returns-in_default-last g c =
    rw (c.in-Some.is, other_last (reading c.args.s) (calls_within (reading c.args.s) c.args.depth) c.args.frame.now c.args.inner.now c.args.before.now c.in-Some.last.now c.in_default-last.not-Field, c.from-in_default-last.ensures)
    (does_stops itself own.Reference Reference _ _ refl)

pub returns-in_err-t : goal.returns-in_err-t
returns-in_err-t g c =
    let p = err_from_is_err_and c.from_residual.result c.from_residual.ensures.1 in
    rw (c.in-Some.is, c.in-Field.is, p.1, p.2) (then_stops _ _ _ _ _ _ _ _ c.in_err-t.ensures)

pub returns : goal.returns
returns g c = rw (c.in-Some.is, c.in-Field.is, ← c.deref.ensures, ← c.name_behind.ensures) (then_does _ _ _ _ _ _ _ _ _ c.in_ok-t.ensures c.field_place.ensures)
