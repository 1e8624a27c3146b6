use Rattle.ruby_world.proofs.Views.{alone-all}
use Rattle.ruby_world.proofs.laws.runs_from_the_opening_are_alone.Goals as goal

pub returns : goal.returns
returns g c = λ drive. alone-all drive
