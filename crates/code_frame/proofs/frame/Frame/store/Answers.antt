use Rattle.std.proofs.Common.{◌+◌, length, refl, ap, ◌∙◌, arith}
use Rattle.std.proofs.lemmas.List.{length-set}
use Rattle.code_frame.specs.Prelude.{Any, Rest, values_from, window}
use Rattle.code_frame.proofs.Windows.{local_low, stored_is}
use Rattle.code_frame.proofs.frame.Frame.store.Goals as goal

pub move_apart-requires : goal.move_apart-requires
move_apart-requires c = λ same. let l = local_low c.pop-s.new.self c.self.inside.words c.pop-s.result c.self.inside.apart.items c.pop-s.ensures c.self.inside.base c.self.inside.floor c.self.invariant.0 c.args.self.now c.self.view_is Any Rest c.requires.value c.args.n c.requires.local in omega (arith, l.0, l.1, same, c.len.ensures)

pub invariant_of-self : goal.invariant_of-self
invariant_of-self c = let l = local_low c.pop-s.new.self c.self.inside.words c.pop-s.result c.self.inside.apart.items c.pop-s.ensures c.self.inside.base c.self.inside.floor c.self.invariant.0 c.args.self.now c.self.view_is Any Rest c.requires.value c.args.n c.requires.local in (c.self.invariant.0, l.1)

pub put-requires : goal.put-requires
put-requires c = let l = local_low c.pop-s.new.self c.self.inside.words c.pop-s.result c.self.inside.apart.items c.pop-s.ensures c.self.inside.base c.self.inside.floor c.self.invariant.0 c.args.self.now c.self.view_is Any Rest c.requires.value c.args.n c.requires.local in omega (arith, l.0, l.1)

pub invariant_of-self-2 : goal.invariant_of-self-2
invariant_of-self-2 c =
    let l = local_low c.pop-s.new.self c.self.inside.words c.pop-s.result c.self.inside.apart.items c.pop-s.ensures c.self.inside.base c.self.inside.floor c.self.invariant.0 c.args.self.now c.self.view_is Any Rest c.requires.value c.args.n c.requires.local in
    (c.self.invariant.0, omega (arith, l.1, ap length c.put.ensures ∙ length-set c.pop-s.new.self (c.self.inside.base + c.args.n) c.pop-s.result))

pub returns : goal.returns
returns c =
    ap (λ l. window (values_from 0 l c.move_apart.new.apart.items) c.self.inside.base c.self.inside.floor) c.put.ensures
    ∙ stored_is c.pop-s.new.self c.self.inside.words c.pop-s.result c.self.inside.apart.items c.move_apart.new.apart.items c.self.inside.base c.self.inside.floor c.args.n (c.self.inside.base + c.args.n) c.len.result c.args.self.now
    c.pop-s.ensures c.self.invariant.0 c.self.view_is Any Rest c.requires.value c.requires.local refl c.len.ensures c.in_ok-move_apart.ensures
