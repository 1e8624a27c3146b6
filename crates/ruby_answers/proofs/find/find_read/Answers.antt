use Rattle.ruby_answers.proofs.Answering.{found_read, not_gen}
use Rattle.ruby_answers.proofs.find.find_read.Goals as goal

pub returns-clause-found : goal.returns-clause-found
returns-clause-found g c =
    found_read g.L.Library.reads c.args.options c.args.library.now c.front-found.new.library c.answer_front.new.library c.front-found.result
    c.answer_front.result (not_gen c.args.options.command c.requires.read) c.front-found.ensures.reads c.answer_front.ensures.found
