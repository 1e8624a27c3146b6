use Rattle.parts.proofs.worlds.held.lawful.Goals as goal

pub returns : goal.returns
returns g c = record {
  run = c.law.ensures.run;
  fits = c.law.ensures.fits;
  cycles = c.law.ensures.cycles;
  enough = c.law.ensures.enough;
}
