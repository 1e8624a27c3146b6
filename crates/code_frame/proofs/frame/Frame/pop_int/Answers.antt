use mir.Val.{SFits}
use Rattle.std.proofs.Common.{rules, w64}
use Rattle.std.proofs.lemmas.Int.{to_z-of_z}
use Rattle.code_frame.specs.Prelude.{IsInt, Rest}
use Rattle.code_frame.proofs.Windows.{popped_int, rest_is, some_above}
use Rattle.code_frame.proofs.frame.Frame.pop_int.Goals as goal

pub invariant_of-self : goal.invariant_of-self
invariant_of-self c =
    (c.self.invariant.0, some_above c.pop.new.self c.self.inside.words c.pop.result c.self.inside.apart.items c.pop.ensures c.self.inside.base c.self.inside.floor c.self.invariant.0 c.args.self.now c.self.view_is IsInt Rest c.requires)

pub returns-clause-stack : goal.returns-clause-stack
returns-clause-stack c =
    let fits : SFits w64 c.cast_signed.result = search rules in
    rw (to_z-of_z w64 c.cast_signed.result fits) (popped_int c.pop.new.self c.self.inside.words c.pop.result c.self.inside.apart.items c.pop.ensures c.self.inside.base c.self.inside.floor c.self.invariant.0 c.args.self.now c.self.view_is c.requires c.cast_signed.result c.cast_signed.ensures)

pub returns-clause-rest : goal.returns-clause-rest
returns-clause-rest c = rest_is c.pop.new.self c.self.inside.words c.pop.result c.self.inside.apart.items c.pop.ensures c.self.inside.base c.self.inside.floor c.self.invariant.0 c.args.self.now c.self.view_is IsInt Rest c.requires
