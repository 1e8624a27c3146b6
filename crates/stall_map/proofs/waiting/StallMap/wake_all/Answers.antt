use Rattle.std.proofs.Common.{◌≡◌, ◌⊎◌, ℕ, None, List, [], ◌∷◌, ◌++◌, length, length-append, append_assoc, inl, inr, sym, ap, subst, ⊎_elim, ◌∙◌, arith}
use Rattle.std.proofs.lemmas.Bool.{cases_eq}
use Rattle.std.specs.List.{cons_option}
use Rattle.std.specs.Ordering.{nat_cmp}
use Rattle.std.specs.FinMap as map
use Rattle.stall_map.specs.declared.lane.Lane.{Lane}
use Rattle.stall_map.specs.declared.stalled.Stalled.{Stalled}
use Rattle.stall_map.specs.Prelude.{IsOrder, Serves, messages_of, numbers_under, waiting_of}
use Rattle.stall_map.proofs.Lanes.{gone-here, gone-there, numbers-there}
use Rattle.stall_map.proofs.Orders.{order-tail}
use Rattle.stall_map.proofs.waiting.StallMap.wake_all.Goals as goal

-- a line's lane is gone, or it serves what still waits, also once a message and its line's lane went
served : (q : ℕ) (s : Stalled) (xs : List Stalled) (longest : ℕ) (lanes : map.FinMap nat_cmp Lane)
    → (map.get lanes q ≡ None) ⊎ Serves (numbers_under (s ∷ xs) q) longest (map.get lanes q)
    → (map.get (map.remove lanes s.line) q ≡ None) ⊎ Serves (numbers_under xs q) longest (map.get (map.remove lanes s.line) q)
served q s xs longest lanes before =
    ⊎_elim
    (λ is. inl (subst (λ l. map.get (map.remove lanes s.line) l ≡ None) (sym is) (gone-here lanes s.line)))
    (λ differs.
    ⊎_elim
    (λ none. inl (gone-there lanes s.line q differs ∙ none))
    (λ serves. inr (
    subst (Serves (numbers_under xs q) longest) (sym (gone-there lanes s.line q differs))
    (subst (λ ns. Serves ns longest (map.get lanes q)) (numbers-there q s xs (λ is. differs (sym is))) serves)))
    before)
    (cases_eq q s.line)

pub loop-slot-preserved-in-Some-held : goal.loop-slot-preserved-in-Some-held
loop-slot-preserved-in-Some-held c =
    let inv = c.loop-slot.invariant in
    let out = c.loop-slot.all.items in
    let s = c.in-Some-held.s in
    let put = rw c.in-Some-held.s-is at c.push_reserved.ensures.items in
    let gone = rw c.in-Some-held.s-is at c.drop_lane.ensures.after in
    let left = c.pop_front.new.self.items in
    let whole : waiting_of c.loop-slot.self-inside.slots.items ≡ s ∷ waiting_of left = ap waiting_of c.in-Some.ensures.items ∙ ap (λ o. cons_option o (waiting_of left)) c.in-Some-held.is in
    record {
      out = ap (λ ms. ms ++ messages_of (waiting_of left)) put
          ∙ (append_assoc out (s.message ∷ []) (messages_of (waiting_of left)) ∙ (ap (λ ws. out ++ messages_of ws) (sym whole) ∙ inv.out));
      places = omega (arith, ap length put, length-append out (s.message ∷ []), ap length whole, c.push_reserved.ensures.capacity, inv.places);
      room = inv.room;
      longest = inv.longest;
      pool = inv.pool;
      order = order-tail c.in-Some.slot left (subst IsOrder c.in-Some.ensures.items inv.order);
      entries = omega (arith, c.in-Some.ensures.cases, c.in-Some.ensures.capacity, inv.entries);
      lines = omega (arith, c.drop_lane.ensures.room, inv.lines);
      serves = λ q.
          rw gone
          (served q s (waiting_of left) c.loop-slot.self-inside.longest c.loop-slot.self-inside.lanes.kept
          (subst (λ ws. (map.get c.loop-slot.self-inside.lanes.kept q ≡ None) ⊎ Serves (numbers_under ws q) c.loop-slot.self-inside.longest (map.get c.loop-slot.self-inside.lanes.kept q)) whole (inv.serves q)));
    }

pub loop-slot-preserved : goal.loop-slot-preserved
loop-slot-preserved c =
    let inv = c.loop-slot.invariant in
    let left = c.pop_front.new.self.items in
    let whole : waiting_of c.loop-slot.self-inside.slots.items ≡ waiting_of left = ap waiting_of c.in-Some.ensures.items ∙ ap (λ o. cons_option o (waiting_of left)) c.in_default-held.is in
    record {
      out = ap (λ ws. c.loop-slot.all.items ++ messages_of ws) (sym whole) ∙ inv.out;
      places = omega (arith, ap length whole, inv.places);
      room = inv.room;
      longest = inv.longest;
      pool = inv.pool;
      order = order-tail c.in-Some.slot left (subst IsOrder c.in-Some.ensures.items inv.order);
      entries = omega (arith, c.in-Some.ensures.cases, c.in-Some.ensures.capacity, inv.entries);
      lines = inv.lines;
      serves = λ q. subst (λ ws. (map.get c.loop-slot.self-inside.lanes.kept q ≡ None) ⊎ Serves (numbers_under ws q) c.loop-slot.self-inside.longest (map.get c.loop-slot.self-inside.lanes.kept q)) whole (inv.serves q);
    }
