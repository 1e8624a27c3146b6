use Rattle.built_in_acts.proofs.machines.+add_numbers.Given as goal

abbrev pub decreases-add_numbers : goal.decreases-add_numbers
decreases-add_numbers l = l.left
