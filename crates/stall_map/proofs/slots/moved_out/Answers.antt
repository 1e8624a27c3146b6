use Rattle.std.proofs.Common.{◌≡◌, ℕ, ◌+◌, Option, None, Some, [], ◌∷◌, ◌++◌, drop, length, get_or, append_assoc, length-append, sym, ap, ◌∙◌, arith}
use Rattle.std.proofs.lemmas.List.{drop_all, drop_more}
use Rattle.std.proofs.lemmas.Option.{none-some}
use Rattle.std.specs.List.{filter}
use Rattle.ruby_value.specs.declared.message.MsgNo.{MsgNo}
use Rattle.stall_map.specs.declared.stalled.Stalled.{Stalled}
use Rattle.stall_map.specs.Prelude.{messages_under, numbers_under, waiting_of, without_line}
use Rattle.stall_map.proofs.Lanes.{none-under}
use Rattle.stall_map.proofs.Orders.{ascends, is_other}
use Rattle.stall_map.proofs.Woken.{IsTaken, taken}
use Rattle.stall_map.proofs.slots.moved_out.Goals as goal
use Rattle.stall_map.proofs.slots.moved_out.Goals.{in-Some, in_default}

-- the first message under the line is the one of the number that is next
next : (c : goal.Joined-take_out) (line : ℕ) → c.args.numbers.now ≡ numbers_under (waiting_of c.args.slots.now.items) line
    → IsTaken line (get_or c.args.numbers.now c.loop-number.number-index (record { sender = 0; count = 0 })) (drop (c.loop-number.number-index + 1) c.args.numbers.now) (waiting_of c.loop-number.slots.items)
next c line known =
    let none : MsgNo = record { sender = 0; count = 0 } in
    taken line (get_or c.args.numbers.now c.loop-number.number-index none) (drop (c.loop-number.number-index + 1) c.args.numbers.now) (waiting_of c.loop-number.slots.items)
    (ascends c.loop-number.slots.items c.loop-number.invariant.order)
    (c.loop-number.invariant.left line known ∙ drop_more c.args.numbers.now c.loop-number.number-index none c.loop-number-test.true)

pub loop-number-preserved : goal.loop-number-preserved
loop-number-preserved c =
    let old = waiting_of c.loop-number.slots.items in
    let new = waiting_of c.take_out.new.slots.items in
    elim c.match-take_out.branch [
      | in-Some w ↦
          let m = w.in-Some.s.message in
          let out = c.loop-number.woken.items in
          rw w.woken-is (record {
            order = c.take_out.ensures.order;
            len = c.take_out.ensures.len ∙ c.loop-number.invariant.len;
            capacity = c.take_out.ensures.capacity ∙ c.loop-number.invariant.capacity;
            places = w.push_reserved.ensures.capacity ∙ c.loop-number.invariant.places;
            enough = omega (arith, ap length w.push_reserved.ensures.items, length-append out (m ∷ []), c.loop-number.invariant.enough);
            left = λ line known. ap (λ ws. numbers_under ws line) c.take_out.ensures.others ∙ (next c line known).left;
            out = λ line known.
                let t = next c line known in
                let same : ◌≡◌ {A = Option Stalled} (Some w.in-Some.s) (Some t.s) = sym w.in-Some.is ∙ (c.take_out.ensures.found ∙ t.found) in
                let is : w.in-Some.s ≡ t.s = cc same in
                let step : messages_under old line ≡ m ∷ messages_under new line =
                t.woken ∙ (ap (λ (s : Stalled). s.message ∷ messages_under (filter (is_other _) old) line) (sym is) ∙ ap (λ ws. m ∷ messages_under ws line) (sym c.take_out.ensures.others)) in
                ap (λ ms. ms ++ messages_under new line) w.push_reserved.ensures.items
                ∙ (append_assoc out (m ∷ []) (messages_under new line) ∙ (ap (λ ms. out ++ ms) (sym step) ∙ c.loop-number.invariant.out line known));
            others = λ line known. ap (λ ws. without_line ws line) c.take_out.ensures.others ∙ ((next c line known).others ∙ c.loop-number.invariant.others line known);
          })
      | in_default w ↦
          let never = λ (line : ℕ) (known : c.args.numbers.now ≡ numbers_under (waiting_of c.args.slots.now.items) line).
          let t = next c line known in
          let none : ◌≡◌ {A = Option Stalled} None (Some t.s) = sym w.in_default.is ∙ (c.take_out.ensures.found ∙ t.found) in
          none-some t.s none in
          rw w.woken-is (record {
            order = c.take_out.ensures.order;
            len = c.take_out.ensures.len ∙ c.loop-number.invariant.len;
            capacity = c.take_out.ensures.capacity ∙ c.loop-number.invariant.capacity;
            places = c.loop-number.invariant.places;
            enough = omega (arith, c.loop-number.invariant.enough);
            left = λ line known. absurd (never line known);
            out = λ line known. absurd (never line known);
            others = λ line known. absurd (never line known);
          })
    ]

pub returns-clause-others : goal.returns-clause-others
returns-clause-others c line known =
    let none : numbers_under (waiting_of c.loop-number.slots.items) line ≡ [] =
    c.loop-number.invariant.left line known ∙ drop_all c.loop-number.number-index c.args.numbers.now c.loop-number-test.false in
    sym (none-under (waiting_of c.loop-number.slots.items) line none).1 ∙ c.loop-number.invariant.others line known
