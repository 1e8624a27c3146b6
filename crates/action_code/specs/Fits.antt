-- A program that fits: no instruction of a body breaks a rule, and each body has one. So code can be run without a test of an operand,
-- a kind or a jump.
use Rattle.std.specs.Prelude.{◌≡◌, ◌^◌, ◌&&◌, Bool, None, List, length, nat_lt}
use Rattle.std.specs.List.{list_all}
use Rattle.action_code.specs.declared.instr.Code.{Code}
use Rattle.action_code.specs.declared.program.Program.{Program}
use Rattle.action_code.specs.Rules.{first_broken}

-- whether the instructions of each body have numbers of 32 bits
abbrev pub are_numbered : List Code → Bool
are_numbered bodies = list_all (λ (c : Code). nat_lt (length c.instructions) (2 ^ 32)) bodies

-- and the bodies too
abbrev pub is_numbered : Program → Bool
is_numbered p = nat_lt (length p.bodies) (2 ^ 32) && are_numbered p.bodies

abbrev pub Fits : Program → Type 0
Fits p = first_broken p ≡ None
