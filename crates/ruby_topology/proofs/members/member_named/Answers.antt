use Rattle.std.proofs.Common.{◌∙◌, length, sym, arith, below_more}
use Rattle.ruby_topology.specs.Prelude.{member_in}
use Rattle.ruby_topology.proofs.Ranges.{some_at, some_nowhere}
use Rattle.ruby_topology.proofs.members.member_named.Goals as goal

pub returns-in-Some : goal.returns-in-Some
returns-in-Some c =
    sym (some_at (member_in c.args.symbols.now c.args.said.now c.args.text.now) (length c.args.symbols.now.machines) c.loop-machine.machine c.in-Some.member
    (omega arith) c.loop-machine.invariant (sym c.in-Some.ensures))

pub loop-machine-preserved : goal.loop-machine-preserved
loop-machine-preserved c = below_more _ _ c.loop-machine.invariant (sym c.member_in.ensures ∙ c.in_default.is)

pub returns : goal.returns
returns c =
    sym (some_nowhere (member_in c.args.symbols.now c.args.said.now c.args.text.now) (length c.args.symbols.now.machines)
    (λ k lt. c.loop-machine.invariant k (omega arith)))
