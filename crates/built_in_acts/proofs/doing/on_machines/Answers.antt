use mir.Val.{SFits}
use Rattle.std.proofs.Common.{◌∙◌, refl, ap, rules, w64}
use Rattle.std.proofs.lemmas.Int.{to_z-of_z}
use Rattle.ruby_value.specs.declared.value.Value.TheVariants as value
use Rattle.built_in_acts.specs.Prelude.{home_in, place_of, range_at, with_range}
use Rattle.built_in_acts.proofs.Told.{told_as, told_fails, without_memory}
use Rattle.built_in_acts.proofs.doing.on_machines.Goals as goal

pub returns-in_err-range-in-Broadcast : goal.returns-in_err-range-in-Broadcast
returns-in_err-range-in-Broadcast g c = rw c.in-Broadcast.is (told_fails (ap (λ m. range_at c.args.kept m) c.member_at.ensures) _ _ _ _ _ _ c.in_err-range-in-Broadcast.ensures.does c.from_residual.ensures.1)

pub returns-in_err-members-in-Broadcast : goal.returns-in_err-members-in-Broadcast
returns-in_err-members-in-Broadcast g c = without_memory _ _ _ _ c.from_residual-in_err-members-in-Broadcast.ensures.1

pub returns-in_err-add_range-in-Broadcast : goal.returns-in_err-add_range-in-Broadcast
returns-in_err-add_range-in-Broadcast g c = without_memory _ _ _ _ c.from_residual-in_err-add_range-in-Broadcast.ensures.1

pub returns-in_ok-add_range-in-Broadcast : goal.returns-in_ok-add_range-in-Broadcast
returns-in_ok-add_range-in-Broadcast g c = rw c.in-Broadcast.is (told_as (ap (λ m. range_at c.args.kept m) c.member_at.ensures) _ _ _ _ _ c.in_ok-range-in-Broadcast.ensures.does (ap value.Dest (c.in_ok-add_range-in-Broadcast.ensures ∙ ap (λ ms. with_range ms c.in_ok-range-in-Broadcast.range) c.in_ok-members-in-Broadcast.ensures)))

pub returns-in_err-range-in-Home : goal.returns-in_err-range-in-Home
returns-in_err-range-in-Home g c = rw c.in-Home.is (told_fails (ap (λ m. range_at c.args.kept m) c.member_at-in-Home.ensures) _ _ _ _ _ _ c.in_err-range-in-Home.ensures.does c.from_residual-in_err-range-in-Home.ensures.1)

pub returns-in_ok-range-in-Home : goal.returns-in_ok-range-in-Home
returns-in_ok-range-in-Home g c = rw c.in-Home.is (told_as (ap (λ m. range_at c.args.kept m) c.member_at-in-Home.ensures) _ _ _ _ _ c.in_ok-range-in-Home.ensures.does (ap value.Machine (c.home_in.ensures ∙ ap (λ l. home_in l c.in_ok-range-in-Home.range) c.line_at.ensures.line)))

pub returns-in_err-placed-in-Index : goal.returns-in_err-placed-in-Index
returns-in_err-placed-in-Index g c = rw c.in-Index.is (told_fails (ap (λ n. place_of c.args.kept n) c.controller_at.ensures) _ _ _ _ _ _ c.in_err-placed-in-Index.ensures c.from_residual-in_err-placed-in-Index.ensures.1)

pub returns-in_ok-placed-in-Index : goal.returns-in_ok-placed-in-Index
returns-in_ok-placed-in-Index g c =
    let fits : SFits w64 c.from.result = search rules in
    rw c.in-Index.is (told_as (ap (λ n. place_of c.args.kept n) c.controller_at.ensures) _ _ _ _ _ c.in_ok-placed-in-Index.ensures (ap value.Int (to_z-of_z w64 c.from.result fits ∙ c.from.ensures)))

pub returns-in_err-placed-in-MachineOf : goal.returns-in_err-placed-in-MachineOf
returns-in_err-placed-in-MachineOf g c = rw c.in-MachineOf.is (told_fails (ap (λ n. place_of c.args.kept n) c.controller_at-in-MachineOf.ensures) _ _ _ _ _ _ c.in_err-placed-in-MachineOf.ensures c.from_residual-in_err-placed-in-MachineOf.ensures.1)

pub returns-in_ok-placed-in-MachineOf : goal.returns-in_ok-placed-in-MachineOf
returns-in_ok-placed-in-MachineOf g c = rw c.in-MachineOf.is (told_as (ap (λ n. place_of c.args.kept n) c.controller_at-in-MachineOf.ensures) _ _ _ _ _ c.in_ok-placed-in-MachineOf.ensures refl)
