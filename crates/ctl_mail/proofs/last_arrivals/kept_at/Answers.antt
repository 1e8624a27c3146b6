use Rattle.std.proofs.Common.{◌≢◌, ◌<◌, ◌-◌, List, get_or, length, sym, ap, ◌∙◌, arith}
use Rattle.stall_map.proofs.Numbers.{differ-is, same-is}
use Rattle.std.proofs.lemmas.List.{get_or_default}
use Rattle.ctl_mail.specs.declared.last_arrivals.LastArrival.{LastArrival}
use Rattle.ctl_mail.specs.Log.{pair_of, place_of}
use Rattle.ctl_mail.proofs.InPlace.{kept-there, not-kept}
use Rattle.ctl_mail.proofs.last_arrivals.kept_at.Goals as goal
use Rattle.ctl_mail.proofs.last_arrivals.kept_at.Goals.{else-at-gt0-via-then-at-gt0+else-is_at, else-at-gt0-via-else-at-gt0}

pub returns-then-is_at : goal.returns-then-is_at
returns-then-is_at c =
    let arrivals : List LastArrival = c.args.arrivals.now in
    let at = c.count_up_to-at.result in
    let d : LastArrival = record { network = 0; receiver = 0; arrival = 0 } in
    let x : LastArrival = get_or arrivals (at - 1) d in
    kept-there arrivals (pair_of c.args.network c.args.receiver) at c.requires c.count_up_to-at.ensures x c.if-at-gt0.true
    (get_or_default arrivals (at - 1) d x (omega (arith, c.count_up_to-at.ensures.within, c.if-at-gt0.true)))
    (same-is (place_of x) (pair_of c.args.network c.args.receiver) (sym c.is_at.ensures ∙ c.if-is_at.true))

pub returns : goal.returns
returns c =
    let arrivals : List LastArrival = c.args.arrivals.now in
    let at = c.count_up_to-at.result in
    let z : LastArrival = record { network = 0; receiver = 0; arrival = 0 } in
    let pair = pair_of c.args.network c.args.receiver in
    let apart : (d : LastArrival) → 0 < at → place_of (get_or arrivals (at - 1) d) ≢ pair = λ d positive same. elim c.else-at-gt0.branch [
      | else-at-gt0-via-then-at-gt0+else-is_at w ↦
          let within : at - 1 < length arrivals = omega (arith, c.count_up_to-at.ensures.within, positive) in
          differ-is (place_of (get_or arrivals (at - 1) z)) pair (sym w.is_at.ensures ∙ w.if-is_at.false)
          (ap place_of (get_or_default arrivals (at - 1) z d within) ∙ same)
      | else-at-gt0-via-else-at-gt0 w ↦ absurd (omega (arith, w.if-at-gt0.false, positive))
    ] in
    not-kept arrivals pair at c.requires c.count_up_to-at.ensures apart
