use Rattle.ruby_world.proofs.world.World.law.Goals as goal

pub returns-clause-run : goal.returns-clause-run
returns-clause-run g c = rw (← c.self.view_is) (c.self.invariant.world, c.self.invariant.kept.run)

pub returns-clause-fits : goal.returns-clause-fits
returns-clause-fits g c = rw (← c.self.view_is) c.self.invariant.fits

pub returns-clause-cycles : goal.returns-clause-cycles
returns-clause-cycles g c = rw (← c.self.view_is) c.self.invariant.cycles

pub returns-clause-enough : goal.returns-clause-enough
returns-clause-enough g c = rw (← c.self.view_is) c.self.invariant.enough
