use Rattle.std.proofs.Common.{◌≡◌, ◌∙◌, Some, sym}
use Rattle.ruby_symbols.specs.Prelude.{function_named}
use Rattle.body_meaning.specs.Prelude.{named_call}
use Rattle.body_walk.specs.Prelude.{CallsDo}
use Rattle.body_walk.proofs.built.named_call.Goals as goal

pub returns-in-Some : goal.returns-in-Some
unfolding CallsDo named_call
returns-in-Some g c =
    let is : function_named c.args.s.machine.now c.args.name.now ≡ Some c.in-Some.number = sym c.function_named.ensures ∙ c.in-Some.is in
    rw is (c.requires.does c.in-Some.number c.args.arguments _ _ c.calls.result c.calls.ensures)
