use Rattle.std.proofs.Common.{◌≤◌, ◌+◌, ◌++◌, ◌∙◌, ℕ, List, arith, ap, drop, length, subst, sym}
use Rattle.std.proofs.lemmas.List.{append-nil, drop_all}
use Rattle.protocol_runs.specs.Prelude.{request_messages}
use Rattle.sequencer.specs.declared.issued.Issued.{Issued}
use Rattle.world_state.specs.Prelude.{setups_in, HasRoomFor}
use Rattle.world_state.proofs.Asking.{fewer, left-more, one-more}
use Rattle.world_state.proofs.requests.Requests.fill.Goals as goal

pub push-requires-clause-room : goal.push-requires-clause-room
push-requires-clause-room c =
    let left : List Issued = drop c.loop-i.i-index c.args.issued.now in
    let some = left-more c.args.issued.now c.loop-i.i-index c.loop-i-test.true in
    fewer (length left) 1 c.loop-i.self (omega (arith, some)) c.loop-i.invariant.room

pub loop-i-preserved : goal.loop-i-preserved
loop-i-preserved c =
    let issued = c.args.issued.now in
    let k = c.loop-i.i-index in
    let lt = c.loop-i-test.true in
    let count = c.loop-i.invariant.count in
    record {
      room = c.push.ensures.room (length (drop (k + 1) issued)) (subst (λ (n : ℕ). HasRoomFor n c.loop-i.self) (left-more issued k lt) c.loop-i.invariant.room);
      count = omega (arith, count);
      messages =
          one-more (setups_in c.args.seats.now) c.args.first.sender c.args.first.count c.loop-i.count c.args.now k _ issued c.loop-i.self.messages.items c.push.new.self.messages.items
          lt count c.push.ensures.messages
          ∙ c.loop-i.invariant.messages;
    }

pub returns-clause-messages : goal.returns-clause-messages
returns-clause-messages c =
    let past : length c.args.issued.now ≤ c.loop-i.i-index = omega arith in
    sym (append-nil c.loop-i.self.messages.items)
    ∙ sym (ap (λ (is : List Issued). c.loop-i.self.messages.items ++ request_messages (setups_in c.args.seats.now) c.args.first.sender (c.args.first.count + c.loop-i.i-index) c.args.now is) (drop_all c.loop-i.i-index c.args.issued.now past))
    ∙ c.loop-i.invariant.messages
