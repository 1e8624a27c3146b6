use Rattle.std.proofs.Common.{◌≡◌, None, refl, true, false, nat_lt, arith}
use Rattle.std.proofs.lemmas.Bool.{le-ltb, lt-ltb}
use Rattle.std.proofs.lemmas.Result.{err_from_is_err_and}
use Rattle.acts.specs.Prelude.{itself}
use Rattle.acts.proofs.Walk.{does_ends_as, false_does, then_does, then_stops, true_does}
use Rattle.built_in_acts.specs.Prelude.{range_at}
use Rattle.built_in_acts.proofs.machines.range_at.Goals as goal

pub returns-then-machine-from-clause-does : goal.returns-then-machine-from-clause-does
unfolding range_at
returns-then-machine-from-clause-does g c =
    let none : nat_lt c.args.machine c.args.kept.count ≡ false = le-ltb c.args.machine c.args.kept.count (omega arith) in
    false_does itself _ _ _ _ _ _ none (does_ends_as itself None None _ refl)

pub returns-in_err-first-clause-does : goal.returns-in_err-first-clause-does
unfolding range_at
returns-in_err-first-clause-does g c =
    let some : nat_lt c.args.machine c.args.kept.count ≡ true = lt-ltb c.args.machine c.args.kept.count (omega arith) in
    let p = err_from_is_err_and c.from_residual.result c.from_residual.ensures.1 in
    rw (p.1, p.2) (true_does itself _ _ _ _ _ _ some (then_stops _ _ _ _ _ _ _ _ c.in_err-first.ensures))

pub returns-in_err-count-clause-does : goal.returns-in_err-count-clause-does
unfolding range_at
returns-in_err-count-clause-does g c =
    let some : nat_lt c.args.machine c.args.kept.count ≡ true = lt-ltb c.args.machine c.args.kept.count (omega arith) in
    let p = err_from_is_err_and c.from_residual-in_err-count.result c.from_residual-in_err-count.ensures.1 in
    rw (p.1, p.2) (true_does itself _ _ _ _ _ _ some (then_does _ _ _ _ _ _ _ _ _ c.in_ok-first.ensures (then_stops _ _ _ _ _ _ _ _ c.in_err-count.ensures)))

pub returns-clause-does : goal.returns-clause-does
unfolding range_at
returns-clause-does g c =
    let some : nat_lt c.args.machine c.args.kept.count ≡ true = lt-ltb c.args.machine c.args.kept.count (omega arith) in
    true_does itself _ _ _ _ _ _ some (then_does _ _ _ _ _ _ _ _ _ c.in_ok-first.ensures
    (then_does _ _ _ _ _ _ _ _ _ c.in_ok-count.ensures (does_ends_as itself _ _ _ c.range_of.ensures.does)))
