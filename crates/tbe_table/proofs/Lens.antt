-- How many lines a finite map has after an edit.
use Rattle.std.specs.FinMap.{gets}

pub ruleset lens = gets
