use Rattle.body_types.specs.Prelude.{environment_of}
use Rattle.call_types.proofs.Steps.{counted_all}
use Rattle.call_types.proofs.methods.wrong_given.Goals as goal

pub returns : goal.returns
returns c =
    counted_all (environment_of c.args.env) c.args.at _ _ _ _ _ _ _ c.args.given.now c.args.first _ c.new-wanted.ensures c.in_ok-add_wanted.ensures c.len-least.ensures c.in_ok-add_wanted-2.ensures c.deref.ensures c.checked.ensures
