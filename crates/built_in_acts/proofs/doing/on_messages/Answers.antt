use mir.Val.{SFits}
use Rattle.std.proofs.Common.{◌∙◌, refl, ap, rules, w64}
use Rattle.std.proofs.lemmas.Int.{to_z-of_z}
use Rattle.acts.specs.Act as act
use Rattle.acts.specs.Prelude.{act as done}
use Rattle.built_in_acts.proofs.Told.{silent_as, silent_fails, told_as, told_fails}
use Rattle.built_in_acts.proofs.doing.on_messages.Goals as goal
use Rattle.built_in_acts.proofs.doing.on_messages.Goals.{in-Dequeue+in_ok-pop-in-Dequeue, in-Recycle+in_ok-recycle-in-Recycle, in-RecycleFor+in_ok-recycle-in-RecycleFor, in-Stall+in_ok-stall-in-Stall, in-Wake+in_ok-wake-in-Wake, in-WakeAll+in_ok-wake_all-in-WakeAll}

pub returns-in_err-ready-in-IsReady : goal.returns-in_err-ready-in-IsReady
returns-in_err-ready-in-IsReady g c = rw c.in-IsReady.is (told_fails (refl) _ _ _ _ _ _ c.in_err-ready-in-IsReady.ensures c.from_residual.ensures.1)

pub returns-in_err-pop-in-Dequeue : goal.returns-in_err-pop-in-Dequeue
returns-in_err-pop-in-Dequeue g c = rw c.in-Dequeue.is (silent_fails (refl) _ _ _ _ _ c.in_err-pop-in-Dequeue.ensures c.from_residual-in_err-pop-in-Dequeue.ensures.1)

pub returns-in_err-recycle-in-Recycle : goal.returns-in_err-recycle-in-Recycle
returns-in_err-recycle-in-Recycle g c = rw c.in-Recycle.is (silent_fails (refl) _ _ _ _ _ c.in_err-recycle-in-Recycle.ensures c.from_residual-in_err-recycle-in-Recycle.ensures.1)

pub returns-in_err-recycle-in-RecycleFor : goal.returns-in_err-recycle-in-RecycleFor
returns-in_err-recycle-in-RecycleFor g c =
    let fits : SFits w64 c.number_at.result = search rules in
    rw c.in-RecycleFor.is (silent_fails (ap (λ n. done (act.Recycle c.args.on n)) (to_z-of_z w64 c.number_at.result fits ∙ c.number_at.ensures)) _ _ _ _ _ c.in_err-recycle-in-RecycleFor.ensures c.from_residual-in_err-recycle-in-RecycleFor.ensures.1)

pub returns-in_err-stall-in-Stall : goal.returns-in_err-stall-in-Stall
returns-in_err-stall-in-Stall g c = rw c.in-Stall.is (silent_fails (ap (λ l. done (act.Stall c.args.on l)) c.line_at.ensures.line) _ _ _ _ _ c.in_err-stall-in-Stall.ensures c.from_residual-in_err-stall-in-Stall.ensures.1)

pub returns-in_err-wake-in-Wake : goal.returns-in_err-wake-in-Wake
returns-in_err-wake-in-Wake g c = rw c.in-Wake.is (silent_fails (ap (λ l. done (act.Wake l)) c.line_at-in-Wake.ensures.line) _ _ _ _ _ c.in_err-wake-in-Wake.ensures c.from_residual-in_err-wake-in-Wake.ensures.1)

pub returns-in_err-wake_all-in-WakeAll : goal.returns-in_err-wake_all-in-WakeAll
returns-in_err-wake_all-in-WakeAll g c = rw c.in-WakeAll.is (silent_fails (refl) _ _ _ _ _ c.in_err-wake_all-in-WakeAll.ensures c.from_residual-in_err-wake_all-in-WakeAll.ensures.1)

pub returns-in-IsReady : goal.returns-in-IsReady
returns-in-IsReady g c = rw c.in-IsReady.is (told_as refl _ _ _ _ _ c.in_ok-ready-in-IsReady.ensures refl)

pub returns : goal.returns
returns g c = elim c.match-call.branch [
  | in-Dequeue+in_ok-pop-in-Dequeue w ↦ rw (w.in-Dequeue.is, w.local-is) (silent_as (refl) _ _ _ w.in_ok-pop-in-Dequeue.ensures)
  | in-Recycle+in_ok-recycle-in-Recycle w ↦ rw (w.in-Recycle.is, w.local-is) (silent_as (refl) _ _ _ w.in_ok-recycle-in-Recycle.ensures)
  | in-RecycleFor+in_ok-recycle-in-RecycleFor w ↦ let fits : SFits w64 w.number_at.result = search rules in rw (w.in-RecycleFor.is, w.local-is) (silent_as (ap (λ n. done (act.Recycle c.args.on n)) (to_z-of_z w64 w.number_at.result fits ∙ w.number_at.ensures)) _ _ _ w.in_ok-recycle-in-RecycleFor.ensures)
  | in-Stall+in_ok-stall-in-Stall w ↦ rw (w.in-Stall.is, w.local-is) (silent_as (ap (λ l. done (act.Stall c.args.on l)) w.line_at.ensures.line) _ _ _ w.in_ok-stall-in-Stall.ensures)
  | in-Wake+in_ok-wake-in-Wake w ↦ rw (w.in-Wake.is, w.local-is) (silent_as (ap (λ l. done (act.Wake l)) w.line_at-in-Wake.ensures.line) _ _ _ w.in_ok-wake-in-Wake.ensures)
  | in-WakeAll+in_ok-wake_all-in-WakeAll w ↦ rw (w.in-WakeAll.is, w.local-is) (silent_as (refl) _ _ _ w.in_ok-wake_all-in-WakeAll.ensures)
]
