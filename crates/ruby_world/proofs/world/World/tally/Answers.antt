use Rattle.ruby_world.proofs.world.World.tally.Goals as goal

pub returns : goal.returns
returns g c = rw (← c.self.view_is) (rw c.history.ensures at c.tally_of.ensures)
