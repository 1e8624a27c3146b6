-- Calls, as the definitions of a protocol's meaning see them.
use Rattle.std.specs.Prelude.{map}
use Rattle.slicc_plan.specs.BuiltInCalls as plan
use Rattle.declared_types.specs.declared.call.Receiver.{Receiver}
use Rattle.declared_types.specs.declared.call.Receiver.TheVariants.{InPort, Cache, Directory, TbeTable, NetDest, DataBlock, Sequencer, Entry, Nothing}
use Rattle.declared_types.specs.declared.call.Argument.{Argument}
use Rattle.declared_types.specs.declared.call.Argument.TheVariants.{ValueOf, NewLine, AddressOrLine, CacheLine, TbeLine, OwnCacheLine, OwnTbeLine, Event}
use Rattle.declared_types.specs.declared.call.Answer.{Answer}
use Rattle.declared_types.specs.declared.call.Answer.TheVariants.{Nothing as NoValue, Value, Line}
use Rattle.declared_types.specs.declared.call.Change.{Change}
use Rattle.declared_types.specs.declared.call.Change.TheVariants.{Nothing as NoChange, Receiver as OfReceiver, Block, Lines}
use Rattle.declared_types.specs.declared.call.Allowed.{Allowed}
use Rattle.declared_types.specs.declared.call.Allowed.TheVariants.{Anywhere, InPorts, InActions}
use Rattle.declared_types.specs.declared.call.Call.{Call}

abbrev pub receiver_of : Receiver → plan.Receiver
receiver_of InPort = plan.in_port
receiver_of Cache = plan.cache
receiver_of Directory = plan.directory
receiver_of TbeTable = plan.tbe_table
receiver_of NetDest = plan.net_dest
receiver_of DataBlock = plan.data_block
receiver_of Sequencer = plan.sequencer
receiver_of Entry = plan.entry
receiver_of Nothing = plan.nothing

abbrev pub argument_of : Argument → plan.Argument
argument_of (ValueOf b) = plan.value_of b
argument_of NewLine = plan.new_line
argument_of AddressOrLine = plan.address_or_line
argument_of CacheLine = plan.cache_line
argument_of TbeLine = plan.tbe_line
argument_of OwnCacheLine = plan.own_cache_line
argument_of OwnTbeLine = plan.own_tbe_line
argument_of Event = plan.event

abbrev pub answer_of : Answer → plan.Answer
answer_of NoValue = plan.no_value
answer_of (Value b) = plan.answered b
answer_of Line = plan.line

abbrev pub change_of : Change → plan.Change
change_of NoChange = plan.no_change
change_of OfReceiver = plan.of_receiver
change_of Block = plan.of_block
change_of Lines = plan.of_lines

abbrev pub allowed_of : Allowed → plan.Allowed
allowed_of Anywhere = plan.anywhere
allowed_of InPorts = plan.in_ports
allowed_of InActions = plan.in_actions

abbrev pub call_of : Call → plan.Call
call_of c = record {
  receiver = receiver_of c.receiver;
  name = c.name.now;
  always = map argument_of c.always.now;
  perhaps = map argument_of c.perhaps.now;
  answer = answer_of c.answer;
  change = change_of c.change;
  allowed = allowed_of c.allowed;
}
