use Rattle.ruby_options.specs.Prelude.{numbers_in_range}
use Rattle.ruby_options.proofs.reading.numbers_in_range.Goals as goal

pub returns : goal.returns
unfolding numbers_in_range
returns c = c.all_in_range.ensures
