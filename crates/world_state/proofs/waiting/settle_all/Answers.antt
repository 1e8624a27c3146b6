use Rattle.std.proofs.Common.{◌<◌, ◌≤◌, ◌∙◌, arith, refl, ⊎_elim}
use Rattle.std.proofs.lemmas.Bool.{cases_lt}
use Rattle.world_state.proofs.Posted.{none-past}
use Rattle.world_state.proofs.Settled.{can-next, partly, settled-none, then-partly, then-settled}
use Rattle.world_state.proofs.waiting.settle_all.Goals as goal

pub loop-c-init : goal.loop-c-init
loop-c-init c = (settled-none c.args.places.now.items c.args.waiting.now.items, (omega arith, refl))

pub settle_any-requires : goal.settle_any-requires
settle_any-requires c =
    can-next c.args.places.now.items c.args.waiting.now.items c.loop-c.c c.loop-c.places.items c.loop-c.waiting.items c.loop-c.invariant.0
    (c.requires.can c.loop-c.c (omega (arith, c.loop-c.invariant.1.0, c.loop-c-test.true)))

pub returns-in_err-settle_any-clause-some : goal.returns-in_err-settle_any-clause-some
returns-in_err-settle_any-clause-some c =
    then-partly c.args.places.now.items c.args.waiting.now.items c.loop-c.c c.loop-c.places.items c.loop-c.waiting.items c.loop-c.invariant.0
    c.settle_any.new.places.items c.settle_any.new.waiting.items c.settle_any.ensures.count c.settle_any.ensures.lists c.settle_any.ensures.others c.settle_any.ensures.rest
    c.in_err-settle_any.ensures.err c.in_err-settle_any.ensures.same

pub loop-c-preserved : goal.loop-c-preserved
loop-c-preserved c = (
  then-settled c.args.places.now.items c.args.waiting.now.items c.loop-c.c c.loop-c.places.items c.loop-c.waiting.items c.loop-c.invariant.0
      c.settle_any.new.places.items c.settle_any.new.waiting.items c.settle_any.ensures.count c.settle_any.ensures.lists c.settle_any.ensures.others c.settle_any.ensures.rest
      c.in_ok-settle_any.ensures.ok c.in_ok-settle_any.ensures.none,
  (c.loop-c.invariant.1.0, c.settle_any.ensures.made ∙ c.loop-c.invariant.1.1),
)

pub returns-clause-some : goal.returns-clause-some
returns-clause-some c =
    partly c.args.places.now.items c.args.waiting.now.items c.loop-c.c c.loop-c.places.items c.loop-c.waiting.items c.loop-c.invariant.0

pub returns-clause-none : goal.returns-clause-none
returns-clause-none c =
    λ k.
    ⊎_elim (λ (below : k < c.loop-c.c). c.loop-c.invariant.0.none k below)
    (λ (above : c.loop-c.c ≤ k).
    let so = c.loop-c.invariant.0 in
    none-past c.loop-c.waiting.items k
    (omega (arith, above, c.loop-c.invariant.1.0, c.loop-c-test.false, so.counted, c.requires.count)))
    (cases_lt k c.loop-c.c)

pub returns-in_err-settle_any-clause-made : goal.returns-in_err-settle_any-clause-made
returns-in_err-settle_any-clause-made c = c.settle_any.ensures.made ∙ c.loop-c.invariant.1.1
