use Rattle.std.proofs.Common.{◌<◌, All, sym, ◌∙◌, subst}
use Rattle.turn_lock.specs.Prelude.{AreOwned, lists_of}
use Rattle.turn_lock_tests.specs.Meetings.{IsNew}
use Rattle.turn_lock_tests.proofs.Meetings.{all_new, all_ready, all_owned, results_long}
use Rattle.turn_lock_tests.proofs.counting.count_together.Goals as goal

pub count_each-requires : goal.count_each-requires
count_each-requires g c = (c.type_bounds.sync-R, subst (All (IsNew c.in-Ok.lock.id)) (sym (c.into_vec.ensures ∙ c.in-Ok.ensures.passes)) (all_new c.in-Ok.lock.id tt c.args.workers))

pub all_met-requires-clause-some : goal.all_met-requires-clause-some
all_met-requires-clause-some g c =
    let are = c.into_vec.ensures ∙ c.in-Ok.ensures.passes in
    let long = results_long c.in-Ok.lock.id tt c.args.workers c.args.times _ _ are c.in_ok-results.ensures.len c.in_ok-results.ensures.each in
    subst (λ n. 0 < n) (sym long) c.requires.0

pub all_met-requires-clause-each : goal.all_met-requires-clause-each
all_met-requires-clause-each g c =
    all_ready c.in-Ok.lock.id tt c.args.workers c.args.times _ _ (c.into_vec.ensures ∙ c.in-Ok.ensures.passes) c.in_ok-results.ensures.len c.in_ok-results.ensures.each

pub close-requires-clause-all : goal.close-requires-clause-all
close-requires-clause-all g c κs =
    let are = c.into_vec.ensures ∙ c.in-Ok.ensures.passes in
    c.in_ok-whole.ensures.pass.2 ∙ results_long c.in-Ok.lock.id tt c.args.workers c.args.times _ _ are c.in_ok-results.ensures.len c.in_ok-results.ensures.each ∙ sym c.in-Ok.ensures.lock

pub returns-clause-each : goal.returns-clause-each
returns-clause-each g c =
    let own = subst (AreOwned (lists_of c.in_ok-whole.whole)) (sym c.close.ensures.history) c.close.ensures.entries in
    all_owned c.in-Ok.lock.id tt c.args.workers c.args.times _ _ (c.into_vec.ensures ∙ c.in-Ok.ensures.passes) c.in_ok-results.ensures.len c.in_ok-results.ensures.each c.in_ok-whole.whole _ c.in_ok-whole.ensures.each own
