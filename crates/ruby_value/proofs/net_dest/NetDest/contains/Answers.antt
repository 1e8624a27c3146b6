use Rattle.std.proofs.lemmas.Nat.Bits.{shr_and_one}
use Rattle.ruby_value.proofs.Words.{contains_near, contains_far}
use Rattle.ruby_value.proofs.net_dest.NetDest.contains.Goals as goal

pub returns-then-m-lt64 : goal.returns-then-m-lt64
returns-then-m-lt64 c =
    rw (← c.self.view_is, shr_and_one) (contains_near c.self.inside.near c.self.inside.far c.self.invariant.1 c.args.m c.if-m-lt64.true)

pub returns : goal.returns
returns c =
    rw (← c.self.view_is) (contains_far c.self.inside.near c.self.inside.far c.self.invariant.1 c.args.m c.contains.result c.if-m-lt64.false c.contains.ensures)
