use Rattle.std.proofs.Common.{◌≡◌, ◌++◌, drop}
use Rattle.std.specs.List.{enumerate_from}
use Rattle.body_code.specs.Statements.{fields_set}
use Rattle.emit_statements.proofs.messages.fields_set.Given as goal

abbrev pub invariant-loop-k : goal.invariant-loop-k
invariant-loop-k l = l.code ++ fields_set (enumerate_from l.k (drop l.k l.fields)) ≡ l.initial.code ++ fields_set (enumerate_from 0 l.fields)
