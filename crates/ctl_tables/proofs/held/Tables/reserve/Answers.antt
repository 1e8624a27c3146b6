use Rattle.std.proofs.Common.{◌≤◌, length, arith}
use Rattle.ctl_tables.proofs.Replaying.{room_written}
use Rattle.ctl_tables.proofs.held.Tables.reserve.Goals as goal

pub returns-in_err-reserve_all-clause-kept : goal.returns-in_err-reserve_all-clause-kept
returns-in_err-reserve_all-clause-kept c = λ others room. record {
  tables = room_written c.args.self.now.tables c.deref_mut.result.now c.reserve_all.new.tables (length others.log.items) c.deref_mut.ensures.value c.reserve_all.ensures.count (c.reserve_all.ensures.no_less (length others.log.items)) room.tables;
  states = room.states;
}

pub returns-in_err-reserve-clause-kept : goal.returns-in_err-reserve-clause-kept
returns-in_err-reserve-clause-kept c = λ others room. record {
  tables = room_written c.args.self.now.tables c.deref_mut.result.now c.reserve_all.new.tables (length others.log.items) c.deref_mut.ensures.value c.reserve_all.ensures.count (c.reserve_all.ensures.no_less (length others.log.items)) room.tables;
  states = (let more = c.reserve.ensures.no_less in let before : length others.states.items ≤ c.args.self.now.states.room = room.states in omega arith);
}

pub returns-clause-kept : goal.returns-clause-kept
returns-clause-kept c = λ others room. record {
  tables = room_written c.args.self.now.tables c.deref_mut.result.now c.reserve_all.new.tables (length others.log.items) c.deref_mut.ensures.value c.reserve_all.ensures.count (c.reserve_all.ensures.no_less (length others.log.items)) room.tables;
  states = (let more = c.reserve.ensures.no_less in let before : length others.states.items ≤ c.args.self.now.states.room = room.states in omega arith);
}
