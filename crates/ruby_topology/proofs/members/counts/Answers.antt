use Rattle.std.proofs.Common.{◌≡◌, ◌∙◌, ap, sym, arith, below_more, is_none, length, map, unwrap_or}
use Rattle.std.specs.List.{range_with_len}
use Rattle.ruby_topology.specs.Prelude.{count_or_none, count_of}
use Rattle.ruby_topology.proofs.Steps.{step_map}
use Rattle.ruby_topology.proofs.Totals.{any_at, any_nowhere}
use Rattle.ruby_topology.proofs.members.counts.Goals as goal

pub returns-in-None : goal.returns-in-None
returns-in-None c =
    any_at (λ m. is_none (count_of c.args.said.now m)) (length c.args.symbols.now.machines) c.loop-machine.machine (omega arith)
    (ap is_none (sym c.count_of.ensures ∙ c.in-None.is))

pub loop-machine-preserved : goal.loop-machine-preserved
loop-machine-preserved c = (
  step_map (count_or_none c.args.said.now) c.loop-machine.machine _ _ _ c.loop-machine.invariant.0 c.in_ok-push-in-Some.ensures.ok
      (sym (ap (λ o. unwrap_or o 0) (sym c.count_of.ensures ∙ c.in-Some.is))),
  below_more _ _ c.loop-machine.invariant.1 (ap is_none (sym c.count_of.ensures ∙ c.in-Some.is)),
)

pub returns : goal.returns
returns c =
    let all : c.loop-machine.machine ≡ length c.args.symbols.now.machines = omega arith in (
      any_nowhere (λ m. is_none (count_of c.args.said.now m)) (length c.args.symbols.now.machines) (λ k lt. c.loop-machine.invariant.1 k (omega arith)),
      c.loop-machine.invariant.0 ∙ ap (λ n. map (count_or_none c.args.said.now) (range_with_len 0 n)) all,
    )
