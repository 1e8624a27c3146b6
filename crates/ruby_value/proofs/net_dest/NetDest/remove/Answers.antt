use Rattle.std.specs.Int.{w64}
use Rattle.std.proofs.lemmas.Nat.Bits.{bit_at_clear_same, bit_at_clear_other}
use Rattle.ruby_value.proofs.Words.{clear_near, without_far, far_without}
use Rattle.ruby_value.proofs.net_dest.NetDest.remove.Goals as goal

pub invariant_of-self-else-m-lt64 : goal.invariant_of-self-else-m-lt64
invariant_of-self-else-m-lt64 c = (c.self.invariant.0, rw c.remove.ensures (far_without c.self.inside.far c.args.m c.self.invariant.1))

pub returns-then-m-lt64 : goal.returns-then-m-lt64
returns-then-m-lt64 c =
    rw (← c.self.view_is)
    (clear_near c.self.inside.near c.self.inside.far c.self.invariant.1 _ c.args.m c.if-m-lt64.true
    (λ k lt other. bit_at_clear_other w64 c.self.inside.near c.args.m c.if-m-lt64.true k lt other)
    (bit_at_clear_same w64 c.self.inside.near c.args.m c.if-m-lt64.true))

pub returns-else-m-lt64 : goal.returns-else-m-lt64
returns-else-m-lt64 c =
    rw (← c.self.view_is, c.remove.ensures) (without_far c.self.inside.near c.self.inside.far c.self.invariant.1 c.args.m c.if-m-lt64.false)
