use Rattle.std.proofs.Common.{◌≤◌, arith, subst, sym}
use Rattle.ruby_options.specs.Prelude.{rows_given, option_row}
use Rattle.ruby_options.specs.declared.tables.TheConstants.{WORKERS}
use Rattle.ruby_options.proofs.Between.{option_between}
use Rattle.ruby_options.proofs.reading.workers_of.Goals as goal

pub overflow_cast-result : goal.overflow_cast-result
overflow_cast-result c =
    let between = option_between (rows_given c.args.given) (option_row WORKERS) (omega arith, omega arith) in
    let most : c.number_of-workers.result ≤ 16 = subst (λ n. n ≤ 16) (sym c.number_of-workers.ensures) between.1 in
    omega (arith, most)
