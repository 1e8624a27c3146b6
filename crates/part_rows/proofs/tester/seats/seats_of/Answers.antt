use Rattle.std.proofs.Common.{◌≡◌, ◌+◌, ◌*◌, ◌++◌, ◌∙◌, [], ◌∷◌, Some, ap, arith, subst, sym}
use Rattle.std.specs.List.{AllPairs}
use Rattle.sequencer.specs.declared.owned_seat.OwnedSeat.{OwnedSeat}
use Rattle.sequencer.specs.Prelude.{seats_of, AreApart}
use Rattle.part_rows.proofs.Apart.{AreBelow, apart-more, below-more}
use Rattle.part_rows.proofs.tester.seats.seats_of.Goals as goal

pub loop-sequencer-preserved : goal.loop-sequencer-preserved
loop-sequencer-preserved c =
    let s : OwnedSeat = record { controller = 2 * c.len.result + 1; sequencer = Some c.replace.result } in
    let is : c.push.new.self.items ≡ c.loop-sequencer.seats.items ++ s ∷ [] = c.in_ok-push.ensures.items in
    let k = c.loop-sequencer.sequencer-index in
    let at : c.len.result ≡ k = c.len.ensures ∙ c.loop-sequencer.invariant.len in
    record {
      len = c.in_ok-push.ensures.len ∙ ap (λ n. n + 1) c.loop-sequencer.invariant.len;
      below = subst (λ xs. AreBelow (2 * (k + 1) + 1) xs) (sym is)
          (below-more c.loop-sequencer.seats.items (2 * k + 1) (2 * (k + 1) + 1) s c.loop-sequencer.invariant.below (omega arith) (omega arith));
      apart = subst (λ xs. AllPairs AreApart (seats_of xs)) (sym is)
          (apart-more c.loop-sequencer.seats.items (2 * k + 1) s c.loop-sequencer.invariant.below c.loop-sequencer.invariant.apart (omega arith));
    }
