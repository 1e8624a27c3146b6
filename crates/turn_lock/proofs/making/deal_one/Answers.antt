use Rattle.std.proofs.Common.{rules, ◌<◌, ◌-◌, ap, sym, subst, arith}
use Rattle.turn_lock.proofs.Meets.{deals}
use Rattle.turn_lock.proofs.making.deal_one.Goals as goal

pub split_seat-requires : goal.split_seat-requires
split_seat-requires g c =
    let left : 0 < c.args.start.now.passes - c.args.number = omega (arith, c.requires.left) in (
      search rules,
      search rules,
      deals g.V.Kept.plan g.V.Kept.history _ _ _ _ (ap (λ m. m.0.stage) c.requires.dealer) (subst (λ n. 0 < n) (sym (ap (λ m. m.0.parts) c.requires.dealer)) left),
    )
