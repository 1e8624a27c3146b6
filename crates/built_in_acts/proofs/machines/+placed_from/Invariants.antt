use Rattle.built_in_acts.proofs.machines.+placed_from.Given as goal

abbrev pub decreases-placed_from : goal.decreases-placed_from
decreases-placed_from g l = l.left
