use Rattle.std.proofs.Common.{◌∙◌, sym}
use Rattle.ruby_answers.proofs.Answering.{found_unread, is_gen}
use Rattle.ruby_answers.proofs.find.find_answer.Goals as goal

pub returns-then-is_generated-clause-found : goal.returns-then-is_generated-clause-found
returns-then-is_generated-clause-found g c =
    found_unread g.L.Library.reads c.args.options c.args.library.now c.find_generated.result
    (is_gen c.args.options.command (sym c.is_generated.ensures ∙ c.if-is_generated.true)) c.find_generated.ensures.right
