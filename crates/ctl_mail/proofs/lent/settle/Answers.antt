use Rattle.std.proofs.Common.{◌≡◌, ◌<◌, ◌≤◌, List, get_or, length, slice_set, sym, ap, ◌∙◌, arith}
use Rattle.ctl_face.specs.declared.parcel.Lent.{Lent}
use Rattle.ctl_face.specs.Prelude.{settled}
use Rattle.ctl_mail.proofs.Lends.{mapped-all, mapped-more, mapped-none, mapped_to}
use Rattle.ctl_mail.proofs.lent.settle.Goals as goal

pub loop-i-init : goal.loop-i-init
loop-i-init c = record {
  settled = sym (mapped-none (settled c.args.credits.now c.args.now) c.args.lent.now.items);
  count = omega arith;
  room = omega arith;
}

pub loop-i-preserved : goal.loop-i-preserved
loop-i-preserved c =
    let lent = c.args.lent.now.items in
    let i = c.loop-i.i in
    let x = c.index.result.now in
    let f : Lent → Lent = settled c.args.credits.now c.args.now in
    let within : i < length lent = omega (arith, c.loop-i-test.true, c.len-i-end.ensures, c.args.lent.now.ok.0) in
    let it : x ≡ get_or (mapped_to f i lent) i x = c.index.ensures ∙ ap (λ (ls : List Lent). get_or ls i x) c.loop-i.invariant.settled in
    record {
      settled =
          ap (λ (y : Lent). slice_set c.loop-i.lent.items i y) c.settled.ensures
          ∙ (ap (λ (ls : List Lent). slice_set ls i (f x)) c.loop-i.invariant.settled ∙ mapped-more f lent i x within it);
      count = c.loop-i.invariant.count;
      room = c.loop-i.invariant.room;
    }

pub returns-clause-after : goal.returns-clause-after
returns-clause-after c =
    let lent = c.args.lent.now.items in
    let past : length lent ≤ c.loop-i.i = omega (arith, c.loop-i-test.false, c.len-i-end.ensures, c.args.lent.now.ok.0) in
    c.loop-i.invariant.settled ∙ mapped-all (settled c.args.credits.now c.args.now) lent c.loop-i.i past
