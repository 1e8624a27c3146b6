use Rattle.std.proofs.Common.{◌∙◌, sym, arith}
use Rattle.std.specs.Str.{bytes_eq}
use Rattle.ruby_topology.specs.Prelude.{controller_name}
use Rattle.ruby_topology.proofs.Ranges.{found_at, found_nowhere}
use Rattle.ruby_topology.proofs.members.index_named.Goals as goal

pub returns-then-is_name : goal.returns-then-is_name
returns-then-is_name c =
    sym (found_at (λ k. bytes_eq (controller_name c.args.machine.now k) c.args.text.now) c.args.count c.loop-index.index
    (omega arith) c.loop-index.invariant (sym c.is_name.ensures ∙ c.if-is_name.true))

pub returns : goal.returns
returns c =
    sym (found_nowhere (λ k. bytes_eq (controller_name c.args.machine.now k) c.args.text.now) c.args.count
    (λ k lt. c.loop-index.invariant k (omega arith)))
