use Rattle.std.proofs.Common.{◌≡◌, arith, rules}
use Rattle.ruby_answers.specs.Prelude.{generated_name}
use Rattle.ruby_answers.proofs.Answering.{found_generated, is_gen}
use Rattle.ruby_answers.proofs.find.find_generated.Goals as goal

pub returns-clause-right : goal.returns-clause-right
returns-clause-right g c =
    let named : c.in_ok-name.name ≡ generated_name = first_of (search rules, grind arith) in
    found_generated c.args.options c.in_ok-name.name c.in_ok-library.library c.front-found.new.library c.answer_front.new.library c.front-found.result
    c.answer_front.result (is_gen c.args.options.command c.requires.generated) c.in_ok-library.ensures named c.front-found.ensures.reads
    c.answer_front.ensures.found
