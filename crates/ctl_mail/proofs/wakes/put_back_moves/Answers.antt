use Rattle.std.proofs.Common.{◌≡◌, ◌++◌, None, List, [], ◌∷◌, get_or, take, refl, sym, ap, ◌∙◌, arith}
use Rattle.std.proofs.lemmas.List.{take_more}
use Rattle.std.proofs.lemmas.List.Sums.{fold-append}
use Rattle.ruby_value.specs.declared.message.MsgNo.{MsgNo}
use Rattle.ctl_mail.specs.declared.moves.Move.{Move}
use Rattle.ctl_mail.specs.Moves.{with_move, with_moves}
use Rattle.ctl_mail.proofs.wakes.put_back_moves.Goals as goal

none : (moves : List Move) → moves ≡ with_moves moves None []
unfolding with_moves
none moves = refl

one-more : (moves : List Move) (numbers : List MsgNo) (number : MsgNo) → with_move (with_moves moves None numbers) number None ≡ with_moves moves None (numbers ++ number ∷ [])
unfolding with_moves
one-more moves numbers number = sym (fold-append (λ (ms : List Move) (n : MsgNo). with_move ms n None) moves numbers (number ∷ []))

pub loop-number-init : goal.loop-number-init
loop-number-init c = record { so_far = none c.args.moves.now.kept; room = omega arith }

pub loop-number-preserved : goal.loop-number-preserved
loop-number-preserved c =
    let numbers = c.args.numbers.now in
    let i = c.loop-number.number-index in
    let d : MsgNo = record { sender = 0; count = 0 } in
    record {
      so_far =
          c.put_reserved.ensures.after
          ∙ (ap (λ (ms : List Move). with_move ms (get_or numbers i d) None) c.loop-number.invariant.so_far
          ∙ (one-more c.args.moves.now.kept (take i numbers) (get_or numbers i d)
          ∙ ap (λ (ns : List MsgNo). with_moves c.args.moves.now.kept None ns) (sym (take_more numbers i d c.loop-number-test.true))));
      room = omega (arith, c.put_reserved.ensures.room, c.loop-number.invariant.room);
    }
