use Rattle.std.proofs.Common.{◌≡◌, ◌++◌, ℕ, drop}
use Rattle.std.specs.List.{enumerate_from, filter_map}
use Rattle.ruby_value.specs.declared.setup.Sizes.{Sizes}
use Rattle.slicc_plan.specs.Prelude.{setup_of}
use Rattle.protocol_meaning.specs.Prelude.{setups_of}
use Rattle.protocol_meaning.proofs.machine_setups.setups.Given as goal

abbrev pub invariant-loop-number : goal.invariant-loop-number
invariant-loop-number l =
    l.setups ++ filter_map (λ (n : ℕ × Sizes). setup_of l.plan n.0 n.1) (enumerate_from l.number (drop l.number l.sizes))
    ≡ setups_of l.plan l.sizes
