use Rattle.std.proofs.Common.{◌∙◌, Bor, List, ℕ}
use Rattle.clap.specs.Matches.{found_of}
use Rattle.clap.proofs.WalkLemmas.{first_value-rows}
use Rattle.ruby_options.specs.declared.tables.TheConstants.{COMMAND}
use Rattle.ruby_options.proofs.Given.{no_list, some_list}
use Rattle.ruby_options.proofs.reading.word_found.Goals as goal

pub returns-in-None : goal.returns-in-None
returns-in-None c = no_list c.get_str.result (λ (s : Bor (List ℕ)). s.now) _ (c.get_str.ensures ∙ first_value-rows (found_of c.args.matches.now) COMMAND.now) c.in-None.is

pub returns-in-Some : goal.returns-in-Some
returns-in-Some c = some_list c.get_str.result (λ (s : Bor (List ℕ)). s.now) _ (c.get_str.ensures ∙ first_value-rows (found_of c.args.matches.now) COMMAND.now) c.in-Some.word c.in-Some.is
