use Rattle.std.proofs.Common.{◌≡◌, None, Ok, Some, refl, sym, ◌∙◌}
use Rattle.ruby_value.specs.declared.value.Ref.{Ref}
use Rattle.ruby_value.specs.declared.fault.Fault.TheVariants.{Reference}
use Rattle.acts.specs.declared.body_fault.BodyFault.TheVariants as own
use Rattle.acts.specs.Prelude.{◌>>=◌, ends, found, itself}
use Rattle.acts.proofs.Walk.{does_ends_as, found_does, found_stops}
use Rattle.built_in_acts.specs.Prelude.{reference}
use Rattle.body_meaning.specs.declared.frame.Place.TheVariants.{Line}
use Rattle.body_meaning.specs.Prelude.{line_field, line_place, reading}
use Rattle.body_walk.proofs.finding.line_place.Goals as goal

pub returns-in_default : goal.returns-in_default
unfolding line_place
returns-in_default g c = rw c.from.ensures (found_stops itself _ _ own.Reference Reference _ _ (sym c.reference.ensures ∙ c.in_default.is) refl)

pub returns-in_default-line_field : goal.returns-in_default-line_field
unfolding line_place
returns-in_default-line_field g c =
    let fields = line_field (reading c.args.s) c.in-Some.r.table c.args.name.now in
    let none : line_field (reading c.args.s) c.in-Some.r.table c.args.name.now ≡ None = cc in
    rw c.from-in_default-line_field.ensures
    (found_does itself (λ (r : Ref). found own.Reference (line_field (reading c.args.s) r.table c.args.name.now) >>= (λ k. ends (Line r k))) (reference c.args.v.now) own.Reference
    c.in-Some.r _ _ _ (sym c.reference.ensures ∙ c.in-Some.is)
    (found_stops itself (λ k. ends (Line c.in-Some.r k)) fields own.Reference Reference _ _ none refl))

pub returns : goal.returns
unfolding line_place
returns g c =
    let r = c.in-Some.r in
    let k = c.in-Some-line_field.k in
    let fields = line_field (reading c.args.s) r.table c.args.name.now in
    let some : line_field (reading c.args.s) c.in-Some.r.table c.args.name.now ≡ Some c.in-Some-line_field.k = cc in
    found_does itself (λ (x : Ref). found own.Reference (line_field (reading c.args.s) x.table c.args.name.now) >>= (λ n. ends (Line x n))) (reference c.args.v.now) own.Reference
    r (Ok (Line r k)) _ _ (sym c.reference.ensures ∙ c.in-Some.is)
    (found_does itself (λ n. ends (Line r n)) fields own.Reference k (Ok (Line r k)) _ _ some (does_ends_as itself (Line r k) (Line r k) _ refl))
