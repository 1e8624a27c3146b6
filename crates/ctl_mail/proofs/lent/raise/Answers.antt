use Rattle.std.proofs.Common.{◌≡◌, ◌<◌, ◌≤◌, ◌+◌, ◌^◌, List, get_or, length, slice_set, sym, subst, ap, ◌∙◌, arith}
use Rattle.ctl_face.specs.declared.parcel.Lent.{Lent}
use Rattle.ctl_face.specs.Prelude.{one_more}
use Rattle.ctl_mail.proofs.Lends.{mapped-all, mapped-here, mapped-more, mapped-none, mapped_to}
use Rattle.ctl_mail.proofs.lent.raise.Goals as goal

pub loop-i-init : goal.loop-i-init
loop-i-init c = record {
  raised = sym (mapped-none (one_more c.args.receiver c.args.buffer) c.args.lent.now.items);
  count = omega arith;
  room = omega arith;
}

pub one_more-requires : goal.one_more-requires
one_more-requires c =
    let lent = c.args.lent.now.items in
    let i = c.loop-i.i in
    let x = c.index.result.now in
    let within : i < length lent = omega (arith, c.loop-i-test.true, c.len-i-end.ensures, c.args.lent.now.ok.0) in
    let it : x ≡ get_or lent i x =
    c.index.ensures ∙ (ap (λ (ls : List Lent). get_or ls i x) c.loop-i.invariant.raised ∙ mapped-here (one_more c.args.receiver c.args.buffer) lent i x) in
    subst (λ (l : Lent). l.count + 1 < 2 ^ 64) (sym it) (c.requires i x within)

pub loop-i-preserved : goal.loop-i-preserved
loop-i-preserved c =
    let lent = c.args.lent.now.items in
    let i = c.loop-i.i in
    let x = c.index.result.now in
    let f : Lent → Lent = one_more c.args.receiver c.args.buffer in
    let within : i < length lent = omega (arith, c.loop-i-test.true, c.len-i-end.ensures, c.args.lent.now.ok.0) in
    let it : x ≡ get_or (mapped_to f i lent) i x = c.index.ensures ∙ ap (λ (ls : List Lent). get_or ls i x) c.loop-i.invariant.raised in
    record {
      raised =
          ap (λ (y : Lent). slice_set c.loop-i.lent.items i y) c.one_more.ensures
          ∙ (ap (λ (ls : List Lent). slice_set ls i (f x)) c.loop-i.invariant.raised ∙ mapped-more f lent i x within it);
      count = c.loop-i.invariant.count;
      room = c.loop-i.invariant.room;
    }

pub returns-clause-after : goal.returns-clause-after
returns-clause-after c =
    let lent = c.args.lent.now.items in
    let past : length lent ≤ c.loop-i.i = omega (arith, c.loop-i-test.false, c.len-i-end.ensures, c.args.lent.now.ok.0) in
    c.loop-i.invariant.raised ∙ mapped-all (one_more c.args.receiver c.args.buffer) lent c.loop-i.i past
