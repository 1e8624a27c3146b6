use Rattle.std.proofs.Common.{◌++◌, ◌∷◌, [], drop, length, ◌≡◌, IfOk, sym, ap, ◌∙◌, subst}
use Rattle.turn_lock.specs.Prelude.{Adds}
use Rattle.turn_lock_tests.specs.Counts.{count_of}
use Rattle.turn_lock_tests.proofs.Counts.{counts_own, counted}
use Rattle.turn_lock_tests.proofs.counting.count_once.Goals as goal

pub leave-requires-clause-history : goal.leave-requires-clause-history
leave-requires-clause-history g c =
    let is = c.enter-tally.ensures.pass in
    let after = c.add-added.new.self.counts in
    let own = counts_own c.add-added.result c.args.number c.args.before c.enter-tally.result.counts after c.requires.number.1 c.add-added.ensures.ok c.add-added.ensures.err in
    λ _. subst (λ k. Adds k c.enter-tally.new.pass.entered after) (sym (ap (λ v. v.number) is ∙ c.requires.number.0)) (subst (λ l. Adds c.args.number l after) (sym (ap (λ v. v.entered) is)) own)

pub returns-clause-mine : goal.returns-clause-mine
returns-clause-mine g c =
    let is = c.enter-tally.ensures.pass in
    let after = c.add-added.new.self.counts in
    let before = c.args.pass.now.mine in
    subst (λ l. IfOk c.add-added.result (λ _. l ≡ before ++ count_of c.args.number c.args.before ∷ [])) (sym (ap (λ v. v.mine) (c.leave.ensures.pass) ∙ ap (λ v. v.mine ++ drop (length v.entered) after) is)) (counted c.add-added.result c.args.number c.args.before before c.enter-tally.result.counts after c.add-added.ensures.ok)
