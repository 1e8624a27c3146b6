use Rattle.std.proofs.Common.{◌∙◌, ap, sym}
use Rattle.clap.specs.Matches.{found_of}
use Rattle.clap.specs.Walk.{first_of}
use Rattle.clap.proofs.WalkLemmas.{first_value-rows}
use Rattle.ruby_options.specs.Prelude.{rows_given}
use Rattle.ruby_options.proofs.numbers.word_given.Goals as goal

pub returns-in-Some : goal.returns-in-Some
returns-in-Some c =
    c.get_str.ensures ∙ first_value-rows (found_of c.in-Some.matches.now) c.args.name.now ∙ ap (λ g. first_of c.args.name.now (rows_given g)) (sym c.in-Some.is)
