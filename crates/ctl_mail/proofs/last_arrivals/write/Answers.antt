use Rattle.std.proofs.Common.{◌≢◌, ◌<◌, ◌-◌, List, cond, get_or, insert, length, refl, sym, ap, subst, ◌∙◌, arith}
use Rattle.std.proofs.lemmas.List.{get_or_read}
use Rattle.stall_map.specs.Prelude.{IsSplit}
use Rattle.stall_map.proofs.Numbers.{differ-is, same-is}
use Rattle.ctl_mail.specs.declared.last_arrivals.LastArrival.{LastArrival}
use Rattle.ctl_mail.specs.Log.{place_of}
use Rattle.ctl_mail.proofs.InPlace.{written-again, written-new}
use Rattle.ctl_mail.proofs.last_arrivals.write.Goals as goal
use Rattle.ctl_mail.proofs.last_arrivals.write.Goals.{else-at-gt0-via-then-at-gt0+else-is_at, else-at-gt0-via-else-at-gt0}

pub returns-then-is_at-clause-after : goal.returns-then-is_at-clause-after
returns-then-is_at-clause-after c =
    let arrivals : List LastArrival = c.args.arrivals.now.items in
    let at = c.count_up_to-at.result in
    let split : IsSplit place_of (place_of c.args.l) arrivals at = subst (λ (xs : List LastArrival). IsSplit place_of (place_of c.args.l) xs at) c.deref.ensures.value c.count_up_to-at.ensures in
    written-again arrivals (place_of c.args.l) at c.requires.rise split c.index.result.now c.if-at-gt0.true c.index.ensures
    (same-is (place_of c.index.result.now) (place_of c.args.l) (sym c.is_at.ensures ∙ c.if-is_at.true)) c.args.l refl

pub returns-clause-after : goal.returns-clause-after
returns-clause-after c =
    let arrivals : List LastArrival = c.args.arrivals.now.items in
    let at = c.count_up_to-at.result in
    let split : IsSplit place_of (place_of c.args.l) arrivals at = subst (λ (xs : List LastArrival). IsSplit place_of (place_of c.args.l) xs at) c.deref.ensures.value c.count_up_to-at.ensures in
    let apart : (d : LastArrival) → 0 < at → place_of (get_or arrivals (at - 1) d) ≢ place_of c.args.l = λ d positive same. elim c.else-at-gt0.branch [
      | else-at-gt0-via-then-at-gt0+else-is_at w ↦
          let within : at - 1 < length arrivals = omega (arith, split.within, positive) in
          differ-is (place_of w.index.result.now) (place_of c.args.l) (sym w.is_at.ensures ∙ w.if-is_at.false)
          (ap place_of (get_or_read arrivals (at - 1) w.index.result.now within w.index.ensures d) ∙ same)
      | else-at-gt0-via-else-at-gt0 w ↦ absurd (omega (arith, w.if-at-gt0.false, positive))
    ] in
    c.insert.ensures.items
    ∙ (ap (λ b. cond b (insert arrivals at c.args.l) arrivals) (c.insert.ensures.succeeds c.requires.room)
    ∙ written-new arrivals (place_of c.args.l) at c.requires.rise split apart c.args.l refl)
