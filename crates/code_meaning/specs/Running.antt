-- What a body of a program does, from its arguments to its end. It has no stuck state: a run that goes past the last instruction, and a
-- body that isn't there, end with nothing. It goes forward through the instructions, and calls go to bodies with lower numbers, so
-- each body ends.
use Rattle.std.specs.Prelude.{ℕ, zero, suc, ◌+◌, ◌-◌, ◌==◌, Option, None, Some, List, [], ◌∷◌, ◌++◌, map, slice_get, if◌then◌else◌}
use Rattle.ruby_value.specs.declared.value.Value.{Value}
use Rattle.ruby_value.specs.Prelude.{default_value}
use Rattle.acts.specs.Prelude.{Acting, ends, ◌>>=◌}
use Rattle.action_code.specs.declared.instr.Code.{Code}
use Rattle.action_code.specs.declared.instr.Instr.{Instr}
use Rattle.action_code.specs.declared.program.Program.{Program}
use Rattle.code_meaning.specs.declared.code_end.CodeEnd.{CodeEnd}
use Rattle.code_meaning.specs.declared.code_end.CodeEnd.TheVariants.{Nothing}
use Rattle.code_meaning.specs.Held.{Held, Step, On, To, Over}
use Rattle.code_meaning.specs.Stepping.{Bodies, code_step}

-- the rest of a run by a step at this place, where the rest goes on after a number of instructions that it skips
abbrev pub follow : ℕ → (ℕ → Held → Acting CodeEnd) → Step → Acting CodeEnd
follow at rest (On h) = rest 0 h
follow at rest (To to h) = rest (to - (at + 1)) h
follow at rest (Over end) = ends end

-- the instructions, which begin at a place, but for the first ones, which are skipped
abbrev pub exec : Program → Code → Bodies → List Instr → (at skip : ℕ) → Held → Acting CodeEnd
exec p c calls [] at skip h = ends Nothing
exec p c calls (i ∷ instructions) at (suc skip) h = exec p c calls instructions (at + 1) skip h
exec p c calls (i ∷ instructions) at zero h =
    code_step p c calls i h >>= follow at (λ skip after. exec p c calls instructions (at + 1) skip after)

-- as a body begins
abbrev pub entered : Code → List Value → Held
entered c arguments = record { stack = []; locals = arguments ++ map default_value c.locals; inner = []; made = [] }

abbrev pub enter : Program → Option Code → Bodies → List Value → Acting CodeEnd
enter p None calls arguments = ends Nothing
enter p (Some c) calls arguments = exec p c calls c.instructions 0 0 (entered c arguments)

-- the bodies with numbers below this one
abbrev pub bodies_below : Program → ℕ → Bodies
bodies_below p zero n arguments = ends Nothing
bodies_below p (suc body) n arguments =
    if n == body then enter p (slice_get p.bodies body) (bodies_below p body) arguments else bodies_below p body n arguments

-- the body of this number with these arguments
unfoldable pub run_body : Program → Bodies
run_body p n arguments = enter p (slice_get p.bodies n) (bodies_below p n) arguments
