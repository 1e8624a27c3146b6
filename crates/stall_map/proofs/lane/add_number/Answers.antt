use Rattle.std.proofs.Common.{◌≡◌, ◌≢◌, ◌<◌, Option, Some, [], length, insert, vec_capacity, sym, ap, subst, ◌∙◌, arith}
use Rattle.std.proofs.lemmas.Grind.{common_steps}
use Rattle.std.proofs.lemmas.List.Edits.{length-insert}
use Rattle.std.specs.List.{All}
use Rattle.std.specs.Option.{IfSome}
use Rattle.std.specs.FinMap as map
use Rattle.ruby_value.specs.declared.message.MsgNo.{MsgNo}
use Rattle.ruby_value.specs.Prelude.{inserted, number_before}
use Rattle.stall_map.specs.declared.lane.Lane.{Lane}
use Rattle.stall_map.specs.Prelude.{IsReady, IsSplit, numbers_of}
use Rattle.stall_map.proofs.Lanes.{gone-there, put-here, put-there}
use Rattle.stall_map.proofs.Orders.{number-placed}
use Rattle.stall_map.proofs.lane.add_number.Goals as goal
use Rattle.stall_map.proofs.lane.add_number.Goals.{in-Some, in-None}

-- the lane that is there before the number goes in
record IsBegun (old : Option Lane) (lane : Lane) : Type 0 where
  same : lane.numbers.items ≡ numbers_of old
  empty : lane.places.items ≡ []
  enough : length lane.numbers.items < vec_capacity lane.places

begun : (c : goal.Joined-before) → IsBegun (map.get c.args.lanes.now.kept c.args.line) c.match-remove.lane
begun c = elim c.match-remove.branch [
  | in-Some w ↦
      let is = sym c.remove.ensures.before ∙ w.in-Some.is in
      rw w.lane-is (record { same = w.widened-lane.ensures.same ∙ sym (ap numbers_of is); empty = w.widened-lane.ensures.empty; enough = w.widened-lane.ensures.enough })
  | in-None w ↦
      let is = sym c.remove.ensures.before ∙ w.in-None.is in
      let none : numbers_of (map.get c.args.lanes.now.kept c.args.line) ≡ [] = ap numbers_of is in
      rw w.lane-is (record {
        same = c.requires.wide.empty ∙ sym none;
        empty = c.requires.wide.no_message;
        enough = omega (arith, ap length c.requires.wide.empty, c.requires.wide.messages_fit);
      })
]

placed : (c : goal.Joined-before) → c.insert.new.self.items ≡ insert c.match-remove.lane.numbers.items c.place_in-at.result c.args.number
placed c = grind (arith, common_steps)

now : (c : goal.Joined-before) → map.get c.put-before.new.self.kept c.args.line ≡ Some (record { numbers = c.insert.new.self; places = c.match-remove.lane.places })
now c = ap (λ m. map.get m c.args.line) c.put-before.ensures.after ∙ put-here c.remove.new.self.kept c.args.line (record { numbers = c.insert.new.self; places = c.match-remove.lane.places })

pub returns-clause-numbers : goal.returns-clause-numbers
returns-clause-numbers c =
    let begun = begun c in
    ap numbers_of (now c)
    ∙ (placed c
    ∙ (number-placed c.args.number c.match-remove.lane.numbers.items c.place_in-at.result
    (subst (λ ns. IsSplit (λ (n : MsgNo). n) c.args.number ns c.place_in-at.result) c.deref.ensures.value c.place_in-at.ensures)
    (subst (All (λ (n : MsgNo). n ≢ c.args.number)) (sym begun.same) c.requires.new)
    ∙ ap (λ ns. inserted number_before ns c.args.number) begun.same))

pub returns-clause-ready : goal.returns-clause-ready
returns-clause-ready c =
    let begun = begun c in
    subst (λ o. IfSome o IsReady) (sym (now c)) (record {
      empty = begun.empty;
      enough = omega (arith, begun.enough, ap length (placed c), length-insert c.match-remove.lane.numbers.items c.place_in-at.result c.args.number, c.place_in-at.ensures.within);
    })

pub returns-clause-others : goal.returns-clause-others
returns-clause-others c q differs =
    ap (λ m. map.get m q) c.put-before.ensures.after
    ∙ (put-there c.remove.new.self.kept c.args.line (record { numbers = c.insert.new.self; places = c.match-remove.lane.places }) q differs
    ∙ (ap (λ m. map.get m q) c.remove.ensures.after ∙ gone-there c.args.lanes.now.kept c.args.line q differs))

pub returns-clause-count : goal.returns-clause-count
returns-clause-count c = omega (arith, ap length (ap numbers_of (now c)), c.insert.new.self.ok)
