use Rattle.std.proofs.Common.{◌-◌, length, refl, sym, ap, ◌∙◌, arith}
use Rattle.code_frame.specs.Prelude.{values_from}
use Rattle.code_frame.proofs.Values.{values_length}
use Rattle.code_frame.proofs.Windows.{begun_is, mark_is}
use Rattle.code_frame.proofs.frame.Frame.enter.Goals as goal

pub overflow_sub-self : goal.overflow_sub-self
overflow_sub-self c =
    let b = begun_is (values_from 0 c.self-2.inside.words c.self-2.inside.apart.items) c.self-2.inside.base c.self-2.inside.floor c.args.count c.args.kinds.now c.args.self.now c.push_defaults.new.self
    (c.len-self-inside.result - length c.args.kinds.now - c.args.count) c.len-self-inside.result c.self-2.invariant.0 (omega (arith, c.self-2.invariant.1, values_length 0 c.self-2.inside.words c.self-2.inside.apart.items)) c.self-2.view_is
    c.in_ok-push_defaults.ensures.stack c.in_ok-push_defaults.ensures.rest c.requires (c.len-self-inside.ensures ∙ sym (values_length 0 c.self-2.inside.words c.self-2.inside.apart.items))
    (ap (λ k. k - length c.args.kinds.now - c.args.count) (c.len-self-inside.ensures ∙ sym (values_length 0 c.self-2.inside.words c.self-2.inside.apart.items))) in
    omega (arith, b.0, c.len-self-inside.ensures, values_length 0 c.self-2.inside.words c.self-2.inside.apart.items)

pub overflow_sub-self-2 : goal.overflow_sub-self-2
overflow_sub-self-2 c =
    let b = begun_is (values_from 0 c.self-2.inside.words c.self-2.inside.apart.items) c.self-2.inside.base c.self-2.inside.floor c.args.count c.args.kinds.now c.args.self.now c.push_defaults.new.self
    (c.len-self-inside.result - length c.args.kinds.now - c.args.count) c.len-self-inside.result c.self-2.invariant.0 (omega (arith, c.self-2.invariant.1, values_length 0 c.self-2.inside.words c.self-2.inside.apart.items)) c.self-2.view_is
    c.in_ok-push_defaults.ensures.stack c.in_ok-push_defaults.ensures.rest c.requires (c.len-self-inside.ensures ∙ sym (values_length 0 c.self-2.inside.words c.self-2.inside.apart.items))
    (ap (λ k. k - length c.args.kinds.now - c.args.count) (c.len-self-inside.ensures ∙ sym (values_length 0 c.self-2.inside.words c.self-2.inside.apart.items))) in
    omega (arith, b.0, c.len-self-inside.ensures, values_length 0 c.self-2.inside.words c.self-2.inside.apart.items)

pub returns-clause-begun : goal.returns-clause-begun
returns-clause-begun c =
    let b = begun_is (values_from 0 c.self-2.inside.words c.self-2.inside.apart.items) c.self-2.inside.base c.self-2.inside.floor c.args.count c.args.kinds.now c.args.self.now c.push_defaults.new.self
    (c.len-self-inside.result - length c.args.kinds.now - c.args.count) c.len-self-inside.result c.self-2.invariant.0 (omega (arith, c.self-2.invariant.1, values_length 0 c.self-2.inside.words c.self-2.inside.apart.items)) c.self-2.view_is
    c.in_ok-push_defaults.ensures.stack c.in_ok-push_defaults.ensures.rest c.requires (c.len-self-inside.ensures ∙ sym (values_length 0 c.self-2.inside.words c.self-2.inside.apart.items))
    (ap (λ k. k - length c.args.kinds.now - c.args.count) (c.len-self-inside.ensures ∙ sym (values_length 0 c.self-2.inside.words c.self-2.inside.apart.items))) in
    b.2

pub returns-clause-mark : goal.returns-clause-mark
returns-clause-mark c =
    mark_is (values_from 0 c.self.inside.words c.self.inside.apart.items) c.self.inside.base c.self.inside.floor (record { base = c.self.inside.base; floor = c.self.inside.floor }) c.args.self.now
    c.self.invariant.0 (omega (arith, c.self.invariant.1, values_length 0 c.self.inside.words c.self.inside.apart.items)) c.self.view_is refl refl
