-- Code as it is put together: instructions by the place in their body at which they begin, since jumps name places. A piece of code is
-- followed by another at the place after it. By a truth value on the stack a run goes into the one piece or into the other.
use Rattle.std.specs.Prelude.{ℕ, ◌+◌, List, [], ◌∷◌, ◌++◌, length}
use Rattle.action_code.specs.declared.instr.Instr.{Instr}
use Rattle.action_code.specs.declared.instr.Instr.TheVariants as instr

abbrev pub Segment : Type 0
Segment = ℕ → List Instr

abbrev pub nothing : Segment
nothing at = []

-- instructions that don't ask where they are
abbrev pub just : List Instr → Segment
just instructions at = instructions

infixl 5 ◌⨾◌
-- the one, and after it the other
abbrev pub ◌⨾◌ : Segment → Segment → Segment
(a ⨾ b) at = let xs = a at in xs ++ b (at + length xs)

-- Where the value on the stack is true the first, and else the second. Both go on after the second.
abbrev pub fork : Segment → Segment → Segment
fork a b at =
    let xs = a (at + 1) in
    let second = at + length xs + 2 in
    let ys = b second in
    instr.Unless second ∷ (xs ++ instr.Jump (second + length ys) ∷ ys)

-- The same, where no run goes on after the first, or the second is empty: then nothing has to be passed after the first.
abbrev pub guard : Segment → Segment → Segment
guard a b at =
    let xs = a (at + 1) in
    let second = at + length xs + 1 in
    instr.Unless second ∷ (xs ++ b second)
