-- The calls that are there in every protocol without a declaration, by what they are called on, in the order by which they are
-- numbered: what each takes and answers, what it changes, and where it is allowed. The names are those of gem5's SLICC; that it
-- is these is this project's choice. What `trigger` takes depends on the machine. A machine's own call from its states to
-- permissions isn't listed; its number would be the one after that of `trigger`.
use Rattle.std.specs.Prelude.{ℕ, Bool, ◌||◌, ◌++◌, List, [], ◌∷◌, codes}
use Rattle.std.specs.List.{list_any}
use Rattle.std.specs.Str.{bytes_eq}
use Rattle.slicc_ast.specs.declared.tree.machine.Machine.{Machine}
use Rattle.slicc_plan.specs.declared.built_in.BuiltInType.{BuiltInType}
use Rattle.slicc_plan.specs.declared.built_in.BuiltInType.TheVariants.{Int, Cycles, Tick, Bool as Boolean, Address, MachineId, MachineType, NetDest, DataBlock, AccessPermission}

-- what a call is called on
pub data Receiver : Type 0 where
  in_port : Receiver
  cache : Receiver
  directory : Receiver
  tbe_table : Receiver
  net_dest : Receiver
  data_block : Receiver
  sequencer : Receiver
  -- a reference to a line of a cache or of a directory
  entry : Receiver
  nothing : Receiver

-- what an argument has to be
pub data Argument : Type 0 where
  value_of : BuiltInType → Argument
  -- `new` and the name of the structure of the table's lines
  new_line : Argument
  -- an address, or a reference to a line of the table
  address_or_line : Argument
  -- a reference to a line of a cache, and to one of a TBE table
  cache_line : Argument
  tbe_line : Argument
  -- the same, and only in a machine that has lines of this sort
  own_cache_line : Argument
  own_tbe_line : Argument
  -- a member of the machine's own enumeration of events
  event : Argument
  -- a state of this machine
  state_of : Machine → Argument

-- what a call answers
pub data Answer : Type 0 where
  no_value : Answer
  answered : BuiltInType → Answer
  -- a reference to a line of the table that it is called on
  line : Answer

-- what a call changes, of what a body reads: messages aren't looked at here
pub data Change : Type 0 where
  no_change : Change
  of_receiver : Change
  -- the block that is its second argument
  of_block : Change
  -- which lines a table has, which of them was used last, or which one a transition is about
  of_lines : Change

-- the bodies in which a call is allowed
pub data Allowed : Type 0 where
  anywhere : Allowed
  in_ports : Allowed
  in_actions : Allowed

pub record Call : Type 0 where
  pub receiver : Receiver
  pub name : List ℕ
  -- the arguments that there always are, and those that may follow
  pub always : List Argument
  pub perhaps : List Argument
  pub answer : Answer
  pub change : Change
  pub allowed : Allowed

abbrev pub call : Receiver → List ℕ → List Argument → List Argument → Answer → Change → Allowed → Call
call on name always perhaps a c allowed =
    record { receiver = on; name = name; always = always; perhaps = perhaps; answer = a; change = c; allowed = allowed }

-- a call that changes nothing and is allowed anywhere
abbrev pub reading : Receiver → List ℕ → List Argument → Answer → Call
reading on name always a = call on name always [] a no_change anywhere

-- a call that answers nothing, and one with arguments that may be left out
abbrev pub acting : Receiver → List ℕ → List Argument → Change → Allowed → Call
acting on name always c allowed = call on name always [] no_value c allowed

abbrev pub acting_with : Receiver → List ℕ → List Argument → List Argument → Change → Allowed → Call
acting_with on name always perhaps c allowed = call on name always perhaps no_value c allowed

abbrev pub by_address : List Argument
by_address = value_of Address ∷ []

abbrev pub with_new_line : List Argument
with_new_line = value_of Address ∷ new_line ∷ []

abbrev pub calls_on_ports : List Call
calls_on_ports =
    reading in_port (codes "isReady") (value_of Tick ∷ []) (answered Boolean)
    ∷ acting in_port (codes "dequeue") (value_of Tick ∷ []) no_change in_actions
    ∷ acting_with in_port (codes "recycle") (value_of Tick ∷ []) (value_of Tick ∷ []) no_change in_actions ∷ []

-- `[]` is an index. A directory has all its lines from the start.
abbrev pub calls_on_tables : List Call
calls_on_tables =
    reading cache (codes "lookup") by_address line ∷ reading cache (codes "[]") by_address line
    ∷ reading cache (codes "isTagPresent") by_address (answered Boolean)
    ∷ reading cache (codes "cacheAvail") by_address (answered Boolean)
    ∷ reading cache (codes "cacheProbe") by_address (answered Address)
    ∷ call cache (codes "allocate") with_new_line [] line of_lines anywhere
    ∷ acting cache (codes "deallocate") by_address of_lines anywhere
    ∷ acting cache (codes "setMRU") (address_or_line ∷ []) of_lines anywhere
    ∷ reading directory (codes "lookup") by_address line ∷ reading directory (codes "[]") by_address line
    ∷ reading directory (codes "isPresent") by_address (answered Boolean)
    ∷ reading directory (codes "allocate") with_new_line line
    ∷ reading tbe_table (codes "lookup") by_address line ∷ reading tbe_table (codes "[]") by_address line
    ∷ acting tbe_table (codes "allocate") by_address of_lines anywhere
    ∷ acting tbe_table (codes "deallocate") by_address of_lines anywhere
    ∷ reading tbe_table (codes "isPresent") by_address (answered Boolean) ∷ []

abbrev pub calls_on_values : List Call
calls_on_values =
    acting net_dest (codes "add") (value_of MachineId ∷ []) of_receiver anywhere
    ∷ acting net_dest (codes "remove") (value_of MachineId ∷ []) of_receiver anywhere
    ∷ acting net_dest (codes "clear") [] of_receiver anywhere
    ∷ reading net_dest (codes "count") [] (answered Int)
    ∷ reading net_dest (codes "isElement") (value_of MachineId ∷ []) (answered Boolean)
    ∷ reading net_dest (codes "isEmpty") [] (answered Boolean)
    ∷ acting net_dest (codes "addNetDest") (value_of NetDest ∷ []) of_receiver anywhere
    ∷ acting net_dest (codes "removeNetDest") (value_of NetDest ∷ []) of_receiver anywhere
    ∷ acting net_dest (codes "broadcast") (value_of MachineType ∷ []) of_receiver anywhere
    ∷ acting data_block (codes "clear") [] of_receiver anywhere ∷ []

-- the data of a line, and then how the request was served
abbrev pub callback : List ℕ → Change → Call
callback name change =
    acting_with sequencer name (value_of Address ∷ value_of DataBlock ∷ [])
    (value_of Boolean ∷ value_of MachineType ∷ []) change in_actions

abbrev pub calls_on_sequencers : List Call
calls_on_sequencers = callback (codes "readCallback") no_change ∷ callback (codes "writeCallback") of_block ∷ []

abbrev pub trigger_arguments : List Argument
trigger_arguments = event ∷ value_of Address ∷ own_cache_line ∷ own_tbe_line ∷ []

abbrev pub plain_calls : List Call
plain_calls =
    reading nothing (codes "clockEdge") [] (answered Tick)
    ∷ reading nothing (codes "curCycle") [] (answered Cycles)
    ∷ reading nothing (codes "cyclesToTicks") (value_of Int ∷ []) (answered Tick)
    ∷ reading nothing (codes "ticksToCycles") (value_of Int ∷ []) (answered Cycles)
    ∷ reading nothing (codes "mapAddressToMachine") (value_of Address ∷ value_of MachineType ∷ []) (answered MachineId)
    ∷ reading nothing (codes "makeLineAddress") by_address (answered Address)
    ∷ reading nothing (codes "machineIDToNodeID") (value_of MachineId ∷ []) (answered Int)
    ∷ reading nothing (codes "machineIDToMachineType") (value_of MachineId ∷ []) (answered MachineType)
    ∷ acting nothing (codes "set_cache_entry") (cache_line ∷ []) of_lines in_actions
    ∷ acting nothing (codes "unset_cache_entry") [] of_lines in_actions
    ∷ acting nothing (codes "set_tbe") (tbe_line ∷ []) of_lines in_actions
    ∷ acting nothing (codes "unset_tbe") [] of_lines in_actions
    ∷ acting nothing (codes "wakeUpBuffers") by_address no_change in_actions
    ∷ acting nothing (codes "wakeUpAllBuffers") [] no_change in_actions
    ∷ acting nothing (codes "trigger") trigger_arguments no_change in_ports ∷ []

-- calls that are accepted, and whose arguments alone have an effect
abbrev pub idle_calls : List Call
idle_calls =
    acting nothing (codes "profileMsgDelay") (value_of Int ∷ value_of Cycles ∷ []) no_change anywhere
    ∷ acting entry (codes "changePermission") (value_of AccessPermission ∷ []) no_change anywhere
    ∷ acting sequencer (codes "evictionCallback") by_address no_change in_actions
    ∷ acting cache (codes "profileDemandHit") [] no_change anywhere
    ∷ acting cache (codes "profileDemandMiss") [] no_change anywhere ∷ []

abbrev pub calls : List Call
calls = calls_on_ports ++ calls_on_tables ++ calls_on_values ++ calls_on_sequencers ++ plain_calls ++ idle_calls

-- the name of the call from the states of a machine to permissions
abbrev pub permission_call : List ℕ → List ℕ
permission_call machine = machine ++ codes "_State_to_permission"

-- that call
abbrev pub permission_reading : Machine → Call
permission_reading m =
    reading nothing (permission_call m.name.text) (state_of m ∷ []) (answered AccessPermission)

-- the name of a call, in a protocol with machines of these names
abbrev pub is_call : List (List ℕ) → List ℕ → Bool
is_call machines text =
    list_any (λ (c : Call). bytes_eq c.name text) calls
    || list_any (λ machine. bytes_eq (permission_call machine) text) machines
