use Rattle.std.proofs.Common.{◌≡◌, ◌+◌, ◌++◌, reverse, take}
use Rattle.action_code.specs.declared.instr.Instr.TheVariants as instr
use Rattle.body_meaning.specs.Prelude.{reading}
use Rattle.body_code.specs.Statements.{each_field}
use Rattle.emit_statements.proofs.messages.each_stored.Given as goal

abbrev pub invariant-loop-i : goal.invariant-loop-i
invariant-loop-i l = l.code ≡ l.initial.code ++ take l.i (reverse (each_field (λ k. instr.Store (l.first + k)) (reading l.s) l.structure))
