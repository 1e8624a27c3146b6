use Rattle.std.proofs.Common.{length, sym, ◌∙◌, refl}
use Rattle.ruby_symbols.specs.Prelude.{short_number}
use Rattle.ruby_value.specs.declared.fault.Fault.TheVariants.{Reference}
use Rattle.acts.specs.declared.body_fault.BodyFault.TheVariants as own
use Rattle.acts.specs.Prelude.{itself}
use Rattle.acts.proofs.Walk.{found_does, found_stops}
use Rattle.body_meaning.specs.Prelude.{parameter, thing_got}
use Rattle.body_walk.proofs.built.parameter.Goals as goal

pub returns-in_default : goal.returns-in_default
unfolding parameter
returns-in_default g c = rw c.from.ensures (found_stops itself _ _ own.Reference Reference _ _ (sym c.parameters_table.ensures ∙ c.in_default.is) refl)

pub returns : goal.returns
unfolding parameter
returns g c =
    found_does itself (λ table. thing_got (record { table = table; line = 0 }) c.args.field) (short_number (length c.args.m.now.tables)) own.Reference
    c.in-Some.table c.thing_got.result _ _ (sym c.parameters_table.ensures ∙ c.in-Some.is) c.thing_got.ensures
