use Rattle.code_meaning.specs.Prelude.{run_body}
use Rattle.compiled_protocol.proofs.Ended.{run_tries}
use Rattle.compiled_protocol.proofs.bodies.body_run.Goals as goal

pub returns : goal.returns
returns g c =
    rw c.ended.ensures
    (run_tries c.args.k (run_body c.args.m.parts.now.program c.args.body c.args.arguments) (g.T.Local.view c.args.local.now) c.run_code.result
    (g.T.Local.view c.run_code.new.local) c.run_code.ensures.does)
