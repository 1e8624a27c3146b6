use Rattle.std.proofs.Common.{◌≡◌, ◌++◌, drop}
use Rattle.machine_setup.specs.Prelude.{tables_by}
use Rattle.machine_setup.proofs.machine.line_tables.Given as goal

abbrev pub invariant-loop-number : goal.invariant-loop-number
invariant-loop-number l =
    l.tables ++ tables_by l.symbols l.own l.sizes l.number (drop l.number l.written) ≡ tables_by l.symbols l.own l.sizes 0 l.written
