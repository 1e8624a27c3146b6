use Rattle.std.proofs.Common.{◌∷◌, [], ◌++◌, ap, ◌∙◌}
use Rattle.turn_lock_tests.proofs.Meetings.{met_more}
use Rattle.turn_lock_tests.proofs.counting.all_met.Goals as goal

pub loop-result-preserved : goal.loop-result-preserved
loop-result-preserved c =
    let inv = c.loop-result.invariant in
    let is = c.meet.ensures.pass in
    let last = c.in-Some-pop.ensures.items ∙ ap (λ r. c.pop-in-loop-result.new.self.items ++ r ∷ []) c.in_ok-pass.was in
    let more = met_more c.args.lock.now.id c.loop-result.whole c.in_ok-pass.pass c.meet.new.pass c.args.results.items c.loop-result.results.items c.pop-in-loop-result.new.self.items inv.2.0 c.requires.each is last inv.2.1 inv.2.2 inv.2.3 in
    (ap (λ v. v.lock) is ∙ inv.0, ap (λ v. v.inside) is ∙ inv.1, more)
