use Rattle.std.proofs.Common.{ℕ, List, ◌++◌, sym, ap, ◌∙◌, arith}
use Rattle.std.specs.Int.{w64}
use Rattle.std.proofs.lemmas.Nat.{or_lt}
use Rattle.std.proofs.lemmas.Nat.Bits.{bit_at_set_same, bit_at_set_other}
use Rattle.std.proofs.lemmas.Result.{on_ok_weaker}
use Rattle.ruby_value.specs.Prelude.{bits_of, with_member}
use Rattle.ruby_value.proofs.Words.{member_far, far_member, set_near, far_with}
use Rattle.ruby_value.proofs.net_dest.NetDest.add.Goals as goal

pub invariant_of-self : goal.invariant_of-self
invariant_of-self c = (or_lt 64 _ _ c.self.invariant.0 (omega arith), c.self.invariant.1)

pub returns-then-m-lt64-clause-ok : goal.returns-then-m-lt64-clause-ok
returns-then-m-lt64-clause-ok c =
    rw (← c.self.view_is)
    (set_near c.self.inside.near c.self.inside.far c.self.invariant.1 _ c.args.m c.if-m-lt64.true
    (λ k lt other. bit_at_set_other w64 c.self.inside.near c.args.m c.if-m-lt64.true k other)
    (bit_at_set_same w64 c.self.inside.near c.args.m c.if-m-lt64.true))

pub invariant_of-self-2 : goal.invariant_of-self-2
invariant_of-self-2 c = (c.self.invariant.0, far_with c.self.inside.far c.add.new.self c.args.m c.add.result c.self.invariant.1 c.if-m-lt64.false c.add.ensures.ok c.add.ensures.err)

pub returns-clause-ok : goal.returns-clause-ok
returns-clause-ok c =
    on_ok_weaker c.add.result
    (λ is.
    ap (λ (xs : List ℕ). bits_of c.self.inside.near ++ xs) is
    ∙ sym (member_far c.self.inside.near c.self.inside.far c.self.invariant.1 c.args.m c.if-m-lt64.false)
    ∙ ap (λ (xs : List ℕ). with_member xs c.args.m) c.self.view_is)
    c.add.ensures.ok

pub returns-clause-there_already : goal.returns-clause-there_already
returns-clause-there_already c has =
    c.add.ensures.there_already (far_member c.self.inside.near c.self.inside.far c.self.invariant.1 c.args.m c.if-m-lt64.false (rw c.self.view_is has))
