use Rattle.std.proofs.Common.{List, sym, subst, ◌∙◌}
use Rattle.ruby_value.specs.declared.asked.Answer.{Answer}
use Rattle.sequencer.specs.Prelude.{AreAnswers}
use Rattle.sequencer.proofs.Answering.{answers-with}
use Rattle.sequencer.proofs.order.put_answer.Goals as goal

pub returns-clause-kept : goal.returns-clause-kept
returns-clause-kept c =
    subst AreAnswers (sym {A = List Answer} (c.in-Ok.ensures.items ∙ c.place_of_answer-at.ensures.place))
    (answers-with c.args.answers.now.items c.args.a c.requires.kept c.requires.request)
