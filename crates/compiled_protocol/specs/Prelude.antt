-- The definitions that other files name, from one place.
pub use Rattle.compiled_protocol.specs.Machine.{MachineCode, machine_at, machine_code}
pub use Rattle.compiled_protocol.specs.Scan.{any_short, body_run, fire_note, last_state, member_in, needed, port_run, ports_run, room_lacks, row_fired, row_goes_on, row_or_stop, row_tried, sent, state_answered, state_asked, state_entered, state_in, state_read, tried_if, trigger_in, trigger_tried, unless_stopped, unless_waiting}
pub use Rattle.compiled_protocol.specs.May.{Calls, InSetup, MayCall, MayGoOn, MayRunPort, MayTry}
