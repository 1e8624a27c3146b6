use Rattle.code_frame.specs.Prelude.{IsReference, Rest}
use Rattle.code_frame.proofs.Windows.{popped_reference, rest_is, some_above}
use Rattle.code_frame.proofs.frame.Frame.pop_reference.Goals as goal

pub invariant_of-self : goal.invariant_of-self
invariant_of-self c =
    (c.self.invariant.0, some_above c.pop.new.self c.self.inside.words c.pop.result c.self.inside.apart.items c.pop.ensures c.self.inside.base c.self.inside.floor c.self.invariant.0 c.args.self.now c.self.view_is IsReference Rest c.requires)

pub returns-clause-stack : goal.returns-clause-stack
returns-clause-stack c = rw c.reference_of.ensures (popped_reference c.pop.new.self c.self.inside.words c.pop.result c.self.inside.apart.items c.pop.ensures c.self.inside.base c.self.inside.floor c.self.invariant.0 c.args.self.now c.self.view_is c.requires)

pub returns-clause-rest : goal.returns-clause-rest
returns-clause-rest c = rest_is c.pop.new.self c.self.inside.words c.pop.result c.self.inside.apart.items c.pop.ensures c.self.inside.base c.self.inside.floor c.self.invariant.0 c.args.self.now c.self.view_is IsReference Rest c.requires
