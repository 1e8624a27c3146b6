use Rattle.std.proofs.Common.{◌<◌, length, ap, slice_set, ◌∙◌, arith}
use Rattle.std.proofs.lemmas.List.{length-take-le}
use Rattle.std.proofs.Math.Seq.{take-set-lt}
use Rattle.code_frame.proofs.words.Words.put.Goals as goal

pub returns : goal.returns
returns c =
    let within : c.args.i < c.self.inside.count = omega (arith, c.requires, ap length c.self.view_is, length-take-le c.self.inside.count c.self.inside.slots.items c.self.invariant) in
    take-set-lt c.self.inside.count c.self.inside.slots.items c.args.i c.args.s within ∙ ap (λ l. slice_set l c.args.i c.args.s) c.self.view_is
