use Rattle.code_frame.specs.Prelude.{Any, Rest}
use Rattle.code_frame.proofs.Windows.{popped_kept, some_above}
use Rattle.code_frame.proofs.frame.Frame.pop.Goals as goal

pub invariant_of-self : goal.invariant_of-self
invariant_of-self c = (c.self.invariant.0, some_above c.pop-s.new.self c.self.inside.words c.pop-s.result c.self.inside.apart.items c.pop-s.ensures c.self.inside.base c.self.inside.floor c.self.invariant.0 c.args.self.now c.self.view_is Any Rest c.requires)

pub returns-clause-stack : goal.returns-clause-stack
returns-clause-stack c = let p = popped_kept c.pop-s.new.self c.self.inside.words c.pop-s.result c.self.inside.apart.items c.pop-s.ensures c.self.inside.base c.self.inside.floor c.self.invariant.0 c.args.self.now c.self.view_is Any Rest c.requires c.len.result c.take_value.result c.take_value.new.apart.items c.len.ensures c.take_value.ensures.value c.take_value.ensures.elsewhere in p.0

pub returns-clause-rest : goal.returns-clause-rest
returns-clause-rest c = let p = popped_kept c.pop-s.new.self c.self.inside.words c.pop-s.result c.self.inside.apart.items c.pop-s.ensures c.self.inside.base c.self.inside.floor c.self.invariant.0 c.args.self.now c.self.view_is Any Rest c.requires c.len.result c.take_value.result c.take_value.new.apart.items c.len.ensures c.take_value.ensures.value c.take_value.ensures.elsewhere in p.1
