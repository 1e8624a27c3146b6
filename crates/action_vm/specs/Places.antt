-- Where a run of a body is: at an instruction, with a frame that has the kinds that are known there and open messages of this scan, in a
-- local of the body's machine.
use Rattle.std.specs.Prelude.{◌<◌, ◌+◌, ℕ, Result, Ok, Err, Option, None, Some, length, slice_get}
use Rattle.acts.specs.Prelude.{Acting, ends}
use Rattle.ctl_face.specs.Prelude.{LocalView}
use Rattle.action_code.specs.declared.instr.Code.{Code}
use Rattle.action_code.specs.declared.instr.Instr.{Instr}
use Rattle.action_code.specs.declared.program.Program.{Program}
use Rattle.action_code.specs.Prelude.{machine_of, shape_before}
use Rattle.code_meaning.specs.declared.code_end.CodeEnd.TheVariants.{Nothing}
use Rattle.code_meaning.specs.Prelude.{Held, IsDeclared, IsTyped, Over, Step, bodies_below, code_step}
use Rattle.action_vm.specs.declared.frame.Ended.{Ended}
use Rattle.action_vm.specs.declared.frame.Next.{Next}
use Rattle.action_vm.specs.declared.frame.Next.TheVariants as next
use Rattle.action_vm.specs.Frames.{HasPlaces, Own, held_of}

pub record IsAt (p : Program) (body : ℕ) (c : Code) (at : ℕ) (f : Own) (v : LocalView) : Type 0 where
  pub within : at < length c.instructions
  pub typed : IsTyped p c (shape_before p body c at) (held_of v f)
  pub places : HasPlaces v f.inner
  pub machine : IsDeclared p (machine_of p c) v.machine

-- what the instruction at a place does
abbrev pub step_at : Program → ℕ → Code → Option Instr → Held → Acting Step
step_at p body c None h = ends (Over Nothing)
step_at p body c (Some i) h = code_step p c (bodies_below p body) i h

abbrev pub code_at : Program → ℕ → Code → ℕ → Held → Acting Step
code_at p body c at h = step_at p body c (slice_get c.instructions at) h

-- where it goes on, or its end
abbrev pub place_after : ℕ → Next → Result ℕ Ended
place_after at next.On = Ok (at + 1)
place_after at (next.To to) = Ok to
place_after at (next.Over end) = Err end
