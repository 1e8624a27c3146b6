use Rattle.slicc_same.proofs.Turns.{left_ends, next_turn, right_ends, unlike_turn}
use Rattle.slicc_same.proofs.list.all_same.Goals as goal

pub loop-x-preserved : goal.loop-x-preserved
loop-x-preserved g c =
    next_turn g.T.Same.alike c.args.a.now c.loop-x.right.now c.loop-x.x-index c.x-item.result c.y-item.result _ _
    c.loop-x.invariant c.loop-x-test.true c.x-item.is c.in-len1-up.len_at_least c.y-item.is c.same.ensures c.if-not-same.false

pub returns-then-not-same : goal.returns-then-not-same
returns-then-not-same g c =
    unlike_turn g.T.Same.alike c.args.a.now c.loop-x.right.now c.loop-x.x-index c.x-item.result c.y-item.result _ _
    c.loop-x.invariant c.loop-x-test.true c.x-item.is c.in-len1-up.len_at_least c.y-item.is c.same.ensures c.if-not-same.true

pub returns-in_default : goal.returns-in_default
returns-in_default g c = right_ends g.T.Same.alike c.args.a.now c.loop-x.right.now c.loop-x.x-index c.x-item.result _ c.loop-x.invariant c.loop-x-test.true c.in_default.len_below

pub returns : goal.returns
returns g c = left_ends g.T.Same.alike c.args.a.now c.loop-x.right.now c.loop-x.x-index _ _ c.loop-x.invariant c.loop-x-test.false c.is_empty.ensures
