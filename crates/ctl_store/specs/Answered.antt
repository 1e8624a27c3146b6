-- How the answers of the parts of a store are those of a local.
use Rattle.std.specs.Prelude.{Result, Ok, Err}
use Rattle.ruby_value.specs.declared.fault.Fault.TheVariants.{Callback}
use Rattle.ctl_face.specs.declared.trouble.Trouble.{Trouble}
use Rattle.ctl_face.specs.declared.trouble.Trouble.TheVariants as trouble
use Rattle.sequencer.specs.declared.fault.CallbackFault.{CallbackFault}
use Rattle.sequencer.specs.declared.fault.CallbackFault.TheVariants.{Refused, NoMemory}

-- a request that isn't there, or is of another kind, is the fault of a callback
abbrev pub trouble_of_call : CallbackFault → Trouble
trouble_of_call (Refused fault) = trouble.Fault Callback
trouble_of_call NoMemory = trouble.NoMemory

abbrev pub as_trouble : {A : Type 0} → Result A CallbackFault → Result A Trouble
as_trouble (Ok a) = Ok a
as_trouble (Err fault) = Err (trouble_of_call fault)
