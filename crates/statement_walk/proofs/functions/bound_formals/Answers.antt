use Rattle.std.proofs.Common.{rules, ◌≡◌, ◌∙◌, ap, length, sym, vec_len}
use Rattle.std.proofs.lemmas.Iterator.Adapters.{YieldsList-from_vec}
use Rattle.std.proofs.lemmas.Iterator.Consumers.{YieldsList-end}
use Rattle.body_meaning.specs.Prelude.{bound_formals}
use Rattle.statement_walk.proofs.BodyCalls.{bound-all, map-itself}
use Rattle.statement_walk.proofs.functions.bound_formals.Goals as goal

pub returns : goal.returns
returns c =
    let gives = c.into_iter-v-iterator.ensures.into_iter_gives in
    let size : vec_len c.args.arguments ≡ length c.args.arguments.items = search rules in
    let t = YieldsList-end (YieldsList-from_vec c.args.arguments.items gives.0 (gives.1 ∙ size)) c.loop-v.yielded c.loop-v.v-iterator c.loop-v.yielded_by c.next.result c.next.new.self c.in-None.is c.next.ensures.steps in
    bound-all c.loop-v.names c.loop-v.rest.now c.args.formals.now c.loop-v.yielded c.loop-v.invariant
    ∙ ap (bound_formals c.args.formals.now) (sym (map-itself c.loop-v.yielded) ∙ t.0)
