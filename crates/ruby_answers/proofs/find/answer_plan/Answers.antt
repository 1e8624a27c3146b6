use Rattle.ruby_answers.proofs.Answering.{gen_found, plain_found}
use Rattle.ruby_answers.proofs.find.answer_plan.Goals as goal

pub returns-in-Plain-clause-found : goal.returns-in-Plain-clause-found
returns-in-Plain-clause-found g c =
    plain_found g.L.Library.reads c.args.options c.args.library.now c.args.plan c.plain_run.result c.ran.result c.in-Plain.is
    c.plain_run.ensures.ok c.plain_run.ensures.err c.ran.ensures.answer

pub returns-in-Gen-clause-found : goal.returns-in-Gen-clause-found
returns-in-Gen-clause-found g c =
    gen_found g.L.Library.reads c.args.options c.args.library.now c.args.plan c.plain_run-in-Gen.result c.generated.result c.in-Gen.is
    c.plain_run-in-Gen.ensures.ok c.plain_run-in-Gen.ensures.err c.generated.ensures.answer
