use Rattle.std.proofs.Common.{rules, ◌≡◌, [], ◌∷◌, Some, ap, sym, subst}
use Rattle.atomic_table.specs.Table.{opening}
use Rattle.turn_lock.specs.Tickets.{dealer, Rule}
use Rattle.turn_lock.proofs.Meets.{starts}
use Rattle.turn_lock.proofs.turnstile.Turnstile.new.Goals as goal

pub new-requires : goal.new-requires
new-requires g c =
    let items : c.push.new.self.items ≡ Some c.args.value ∷ [] = search rules in
    let plan = g.V.Kept.plan c.of.result.value in
    subst (λ xs. Rule g.V.Kept.plan g.V.Kept.history c.args.passes plan (opening (0 ∷ 0 ∷ []) xs (dealer c.args.passes plan))) (sym items)
    (starts g.V.Kept.plan g.V.Kept.history c.args.passes plan c.args.value (ap g.V.Kept.plan (sym c.of.ensures)) c.requires.empty c.requires.count.1)
