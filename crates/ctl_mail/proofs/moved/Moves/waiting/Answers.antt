use Rattle.std.proofs.Common.{◌≡◌, ◌≢◌, ◌<◌, ◌-◌, List, get_or, length, sym, ap, ◌∙◌, arith}
use Rattle.std.proofs.lemmas.Bool.Decides.{nat_tests}
use Rattle.std.proofs.lemmas.List.{get_or_read}
use Rattle.ruby_value.specs.Prelude.{Roomy}
use Rattle.stall_map.proofs.Numbers.{differ-is, same-is}
use Rattle.ctl_mail.specs.declared.moves.Move.{Move}
use Rattle.ctl_mail.specs.Moves.{waiting_after}
use Rattle.ctl_mail.proofs.InPlace.{waiting-none, waiting-not-there, waiting-there}
use Rattle.ctl_mail.proofs.moved.Moves.waiting.Goals as goal
use Rattle.ctl_mail.proofs.moved.Moves.waiting.Goals.{else-at-gt0-via-then-at-gt0+else-eq, else-at-gt0-via-else-at-gt0}

pub returns-then-is_empty : goal.returns-then-is_empty
returns-then-is_empty c =
    let moves : List Move = c.self.inside.moves.items in
    let none : length moves ≡ 0 = grind (arith, nat_tests, c.self.inside.moves.ok) in
    waiting-none c.args.number moves c.args.before none
    ∙ ap (λ (r : Roomy (List Move)). waiting_after c.args.number r.kept c.args.before) c.self.view_is

pub returns-then-eq : goal.returns-then-eq
returns-then-eq c =
    let moves : List Move = c.self.inside.moves.items in
    let at = c.count_up_to-at.result in
    let within : at - 1 < length moves = omega (arith, c.count_up_to-at.ensures.within) in
    ap (λ (m : Move). m.line) (get_or_read moves (at - 1) c.index-then-eq.result.now within c.index-then-eq.ensures c.index.result.now ∙ sym c.index.ensures)
    ∙ (waiting-there moves c.args.number c.args.before at c.self.invariant c.count_up_to-at.ensures c.index.result.now c.if-at-gt0.true c.index.ensures
    (same-is c.index.result.now.number c.args.number (sym c.eq.ensures ∙ c.if-eq.true)) c.args.before
    ∙ ap (λ (r : Roomy (List Move)). waiting_after c.args.number r.kept c.args.before) c.self.view_is)

pub returns : goal.returns
returns c =
    let moves : List Move = c.self.inside.moves.items in
    let at = c.count_up_to-at.result in
    let apart : (d : Move) → 0 < at → (get_or moves (at - 1) d).number ≢ c.args.number = λ d positive same. elim c.else-at-gt0.branch [
      | else-at-gt0-via-then-at-gt0+else-eq w ↦
          let within : at - 1 < length moves = omega (arith, c.count_up_to-at.ensures.within) in
          differ-is w.index.result.now.number c.args.number (sym w.eq.ensures ∙ w.if-eq.false)
          (ap (λ (m : Move). m.number) (get_or_read moves (at - 1) w.index.result.now within w.index.ensures d) ∙ same)
      | else-at-gt0-via-else-at-gt0 w ↦ absurd (omega (arith, w.if-at-gt0.false, positive))
    ] in
    waiting-not-there moves c.args.number c.args.before at c.self.invariant c.count_up_to-at.ensures apart c.args.before
    ∙ ap (λ (r : Roomy (List Move)). waiting_after c.args.number r.kept c.args.before) c.self.view_is
