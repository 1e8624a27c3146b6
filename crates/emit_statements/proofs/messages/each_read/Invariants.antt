use Rattle.std.proofs.Common.{◌≡◌, ◌++◌, drop}
use Rattle.std.specs.Prelude.{slice_get}
use Rattle.action_code.specs.declared.instr.Instr.TheVariants as instr
use Rattle.body_meaning.specs.Prelude.{reading}
use Rattle.body_code.specs.Prelude.{field_kinds}
use Rattle.body_code.specs.Statements.{each_field}
use Rattle.emit_statements.proofs.MessageSteps.{each_from}
use Rattle.emit_statements.proofs.messages.each_read.Given as goal

abbrev pub invariant-loop-k : goal.invariant-loop-k
invariant-loop-k l =
    l.code ++ each_from instr.Outfield l.k (drop l.k (field_kinds (slice_get (reading l.s).symbols.structures l.structure)))
    ≡ l.initial.code ++ each_field instr.Outfield (reading l.s) l.structure
