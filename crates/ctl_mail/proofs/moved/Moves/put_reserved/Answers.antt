use Rattle.std.proofs.Common.{◌≢◌, ◌<◌, ◌-◌, List, get_or, length, sym, ap, subst, ◌∙◌, arith}
use Rattle.std.proofs.lemmas.List.{get_or_read}
use Rattle.ruby_value.specs.Prelude.{Roomy}
use Rattle.stall_map.proofs.Numbers.{differ-is, same-is}
use Rattle.ctl_mail.specs.declared.moves.Move.{Move}
use Rattle.ctl_mail.specs.Moves.{MovesRise, with_move}
use Rattle.ctl_mail.proofs.InPlace.{moved-again, moved-new, ok-holds, with-rises}
use Rattle.ctl_mail.proofs.moved.Moves.put_reserved.Goals as goal
use Rattle.ctl_mail.proofs.moved.Moves.put_reserved.Goals.{else-at-gt0-via-then-at-gt0+else-eq, else-at-gt0-via-else-at-gt0}

pub invariant_of-self : goal.invariant_of-self
invariant_of-self c =
    let moves : List Move = c.self.inside.moves.items in
    subst MovesRise
    (sym (moved-again moves c.args.number c.args.line c.count_up_to-at.result c.self.invariant c.count_up_to-at.ensures c.index.result.now c.if-at-gt0.true c.index.ensures
    (same-is c.index.result.now.number c.args.number (sym c.eq.ensures ∙ c.if-eq.true))))
    (with-rises moves c.args.number c.args.line c.self.invariant)

pub returns-then-eq-clause-after : goal.returns-then-eq-clause-after
returns-then-eq-clause-after c =
    moved-again c.self.inside.moves.items c.args.number c.args.line c.count_up_to-at.result c.self.invariant c.count_up_to-at.ensures c.index.result.now c.if-at-gt0.true c.index.ensures
    (same-is c.index.result.now.number c.args.number (sym c.eq.ensures ∙ c.if-eq.true))
    ∙ ap (λ (r : Roomy (List Move)). with_move r.kept c.args.number c.args.line) c.self.view_is

pub invariant_of-self-2 : goal.invariant_of-self-2
invariant_of-self-2 c =
    let moves : List Move = c.self.inside.moves.items in
    let at = c.count_up_to-at.result in
    let apart : (d : Move) → 0 < at → (get_or moves (at - 1) d).number ≢ c.args.number = λ d positive same. elim c.else-at-gt0.branch [
      | else-at-gt0-via-then-at-gt0+else-eq w ↦
          let within : at - 1 < length moves = omega (arith, c.count_up_to-at.ensures.within) in
          differ-is w.index.result.now.number c.args.number (sym w.eq.ensures ∙ w.if-eq.false)
          (ap (λ (m : Move). m.number) (get_or_read moves (at - 1) w.index.result.now within w.index.ensures d) ∙ same)
      | else-at-gt0-via-else-at-gt0 w ↦ absurd (omega (arith, w.if-at-gt0.false, positive))
    ] in
    subst MovesRise
    (sym (ok-holds c.insert.result (sym c.is_err.ensures.value ∙ c.if-is_err.false) c.insert.ensures.items
    ∙ moved-new moves c.args.number c.args.line at c.self.invariant c.count_up_to-at.ensures apart))
    (with-rises moves c.args.number c.args.line c.self.invariant)

pub returns-clause-after : goal.returns-clause-after
returns-clause-after c =
    let moves : List Move = c.self.inside.moves.items in
    let at = c.count_up_to-at.result in
    let apart : (d : Move) → 0 < at → (get_or moves (at - 1) d).number ≢ c.args.number = λ d positive same. elim c.else-at-gt0.branch [
      | else-at-gt0-via-then-at-gt0+else-eq w ↦
          let within : at - 1 < length moves = omega (arith, c.count_up_to-at.ensures.within) in
          differ-is w.index.result.now.number c.args.number (sym w.eq.ensures ∙ w.if-eq.false)
          (ap (λ (m : Move). m.number) (get_or_read moves (at - 1) w.index.result.now within w.index.ensures d) ∙ same)
      | else-at-gt0-via-else-at-gt0 w ↦ absurd (omega (arith, w.if-at-gt0.false, positive))
    ] in
    ok-holds c.insert.result (sym c.is_err.ensures.value ∙ c.if-is_err.false) c.insert.ensures.items
    ∙ (moved-new moves c.args.number c.args.line at c.self.invariant c.count_up_to-at.ensures apart
    ∙ ap (λ (r : Roomy (List Move)). with_move r.kept c.args.number c.args.line) c.self.view_is)
