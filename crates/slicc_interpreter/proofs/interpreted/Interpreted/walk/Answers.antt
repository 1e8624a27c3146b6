use Rattle.std.proofs.Common.{◌≡◌, ◌∙◌, List, None, Some, ap, slice_get, sym}
use Rattle.std.specs.Option.{option_copied}
use Rattle.slicc_ast.specs.declared.tree.item.Tree.{Tree}
use Rattle.slicc_plan.specs.Prelude.{machines_of, symbols_of}
use Rattle.slicc_interpreter.proofs.Scans.{without_machine, without_tree}
use Rattle.slicc_interpreter.proofs.interpreted.Interpreted.walk.Goals as goal

pub returns-in-None : goal.returns-in-None
returns-in-None g c =
    let none : slice_get (symbols_of c.args.self.now).machines c.args.machine ≡ None = ap (λ (trees : List Tree). slice_get (symbols_of trees).machines c.args.machine) (sym c.self.view_is) ∙ sym c.machine_of.ensures.is ∙ ap option_copied c.in-None.is in
    without_machine c.args.self.now c.args.machine c.args.limit c.args.fired (g.T.Local.view c.args.local.now) none

pub returns-in-None-machine : goal.returns-in-None-machine
returns-in-None-machine g c =
    let is : slice_get (symbols_of c.args.self.now).machines c.args.machine ≡ Some c.in-Some.m.now = ap (λ (trees : List Tree). slice_get (symbols_of trees).machines c.args.machine) (sym c.self.view_is) ∙ sym c.machine_of.ensures.is ∙ ap option_copied c.in-Some.is in
    let none : slice_get (machines_of c.args.self.now) c.args.machine ≡ None = ap (λ (trees : List Tree). slice_get (machines_of trees) c.args.machine) (sym c.self.view_is) ∙ sym c.machine.ensures ∙ ap option_copied c.in-None-machine.is in
    without_tree c.args.self.now c.args.machine c.args.limit c.args.fired (g.T.Local.view c.args.local.now) c.in-Some.m.now is none
