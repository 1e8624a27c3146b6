-- What the words of a command line ask for, if they ask for anything.
use Rattle.std.specs.Prelude.{ℕ, Option, List}
use Rattle.std.specs.Result.{result_ok}
use Rattle.ruby_options.specs.declared.options.Options.{Options}
use Rattle.ruby_options.specs.Prelude.{asked}

abbrev pub asked_by : List (List ℕ) → Option Options
asked_by words = result_ok (asked words)
