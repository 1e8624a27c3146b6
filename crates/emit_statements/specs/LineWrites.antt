-- What code is written for a statement after what was written before, what the body has of its own then, and whether a run goes on after
-- it. Without memory nothing is said.
use Rattle.std.specs.Prelude.{◌≡◌, Bool, List, Result, Ok, Err}
use Rattle.ruby_base.specs.declared.memory.NoMemory.{NoMemory}
use Rattle.action_code.specs.declared.instr.Instr.{Instr}
use Rattle.body_code.specs.declared.own.Own.{Own}
use Rattle.body_code.specs.Prelude.{Line}
use Rattle.emit_expressions.specs.Prelude.{Adds}

unfoldable pub WritesLine : Line → Result Bool NoMemory → (before after : List Instr) → Own → Type 0
WritesLine l (Ok goes_on) before after own = (goes_on ≡ l.goes_on) × (own ≡ l.own) × Adds l.code before after
WritesLine l (Err none) before after own = Unit {0}
