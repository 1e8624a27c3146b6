use Rattle.std.proofs.Common.{◌∙◌, ap, sym}
use Rattle.slicc_ast.specs.Prelude.{decl}
use Rattle.slicc_ast.specs.declared.tree.machine.Decl.TheVariants.{InPort}
use Rattle.slicc_same.specs.Prelude.{same_shape}
use Rattle.slicc_same.proofs.machine.DeclSame.same.Goals as goal

pub returns-in-InPort-InPort : goal.returns-in-InPort-InPort
returns-in-InPort-InPort c =
    c.same_in_port.ensures ∙ ap (λ d. same_shape (decl d) (decl (InPort c.in-InPort-InPort.b))) (sym c.in-InPort-InPort.is-0)
    ∙ ap (λ d. same_shape (decl c.args.self.now) (decl d)) (sym c.in-InPort-InPort.is-1)
