use Rattle.std.proofs.Common.{◌≡◌, ◌∷◌, ◌++◌, ◌∙◌, [], List, ap, arith, length, slice_get, subst, sym}
use Rattle.std.proofs.lemmas.List.{length-append}
use Rattle.world_state.specs.declared.place.Kept.{Kept}
use Rattle.ruby_world.specs.Prelude.{IsOpenedFor}
use Rattle.ruby_world.proofs.Openings.{few-controllers, names-are, one-more}
use Rattle.ruby_world.proofs.opening.all_kept.Goals as goal

pub overflow_cast-controllers : goal.overflow_cast-controllers
overflow_cast-controllers c =
    omega (arith, few-controllers c.args.plan.now c.args.topology.now c.requires, names-are c.args.plan.now c.args.topology.now c.requires)

pub kept_at-requires-clause-there : goal.kept_at-requires-clause-there
kept_at-requires-clause-there c =
    omega (arith, names-are c.args.plan.now c.args.topology.now c.requires)

pub loop-c-preserved : goal.loop-c-preserved
loop-c-preserved c =
    let kept = c.loop-c.kept.items in
    let one = c.in_ok-one.one in
    let items : c.push.new.self.items ≡ kept ++ one ∷ [] = c.in_ok-push.ensures.items in
    let more = length-append kept (one ∷ []) in
    let count = ap (λ (ks : List Kept). length ks) items in
    record {
      count = omega (arith, more, count, c.loop-c.invariant.count);
      each = λ d k at.
          one-more (IsOpenedFor c.args.plan.now c.args.topology.now) kept one c.loop-c.invariant.each
          (subst (λ n. IsOpenedFor c.args.plan.now c.args.topology.now n one) (sym c.loop-c.invariant.count) c.in_ok-one.ensures) d k
          (sym (ap (λ (ks : List Kept). slice_get ks d) items) ∙ at);
    }

pub returns : goal.returns
returns c = record {
  count = omega (arith, c.loop-c.invariant.count, names-are c.args.plan.now c.args.topology.now c.requires);
  each = c.loop-c.invariant.each;
}
