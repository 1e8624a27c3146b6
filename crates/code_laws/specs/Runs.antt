-- What the code of a segment does: wherever it begins and whatever comes after it, a run from what is held before it does what a body does,
-- and goes on after the segment with what is held then by the answer of that body.
use Rattle.std.specs.Prelude.{ℕ, ◌+◌, List, ◌++◌, length}
use Rattle.ruby_value.specs.declared.setup.MachineSetup.{MachineSetup}
use Rattle.acts.specs.Prelude.{Acting, ◌>>=◌}
use Rattle.action_code.specs.declared.instr.Code.{Code}
use Rattle.action_code.specs.declared.instr.Instr.{Instr}
use Rattle.action_code.specs.declared.program.Program.{Program}
use Rattle.code_meaning.specs.Prelude.{Bodies, Held, exec}
use Rattle.body_code.specs.Prelude.{Segment}
use Rattle.code_laws.specs.Same.{Same}

-- of a body of the program, where calls do this
module _ (p : Program) (c : Code) (calls : Bodies) (setup : MachineSetup) where
  pub record Runs {A : Type 0} (code : Segment) (h : Held) (q : Acting A) (after : A → Held) : Type 0 where
    pub runs : (at : ℕ) (rest : List Instr)
        → Same setup (exec p c calls (code at ++ rest) at 0 h)
        (q >>= (λ x. exec p c calls rest (at + length (code at)) 0 (after x)))
