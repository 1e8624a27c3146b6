use Rattle.std.proofs.Common.{◌≡◌, ◌+◌, ◌++◌, drop, length}
use Rattle.protocol_runs.specs.Prelude.{request_messages}
use Rattle.world_state.specs.Prelude.{setups_in, HasRoomFor}
use Rattle.world_state.proofs.requests.Requests.fill.Given as goal

-- the messages of the requests before this one are there, and there is room for the others
abbrev pub invariant-loop-i : goal.invariant-loop-i
invariant-loop-i l = record {
  room : HasRoomFor (length (drop l.i-index l.issued)) l.self;
  count : l.count ≡ l.first.count + l.i-index;
  messages :
      l.self.messages.items ++ request_messages (setups_in l.seats) l.first.sender (l.first.count + l.i-index) l.now (drop l.i-index l.issued)
      ≡ request_messages (setups_in l.seats) l.first.sender l.first.count l.now l.issued;
}
