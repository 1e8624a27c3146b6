-- The callbacks of a machine's sequencer, done to the requests that the controller has. That a line without a request of the kind is a
-- fault, and that a machine without a sequencer has none, is this project's own.
use Rattle.std.specs.Prelude.{ℕ, Option, None, Some, Result, Ok, Err}
use Rattle.ruby_value.specs.declared.asked.BackFault.{BackFault}
use Rattle.ruby_value.specs.declared.fault.Fault.{Fault}
use Rattle.ruby_value.specs.declared.fault.Fault.TheVariants.{Callback}
use Rattle.ruby_value.specs.declared.value.Block.{Block}
use Rattle.ruby_value.specs.Callback as callback
use Rattle.ruby_value.specs.Prelude.{Requests}
use Rattle.ctl_face.specs.Between.{outstanding_for}
use Rattle.ctl_face.specs.LocalView.{LocalView}

-- the local with the requests that a callback has left, or the fault
abbrev pub after_callback : LocalView → Result Requests BackFault → Result LocalView Fault
after_callback v (Ok r) = Ok (record v { ctl = record v.ctl { sequencer = Some r } })
after_callback v (Err fault) = Err Callback

abbrev pub called_back : LocalView → (Requests → Result Requests BackFault) → Option Requests → Result LocalView Fault
called_back v call None = Err Callback
called_back v call (Some r) = after_callback v (call r)

abbrev pub read_back : LocalView → ℕ → Block → Result LocalView Fault
read_back v line block = called_back v (λ r. callback.read_back r line block) v.ctl.sequencer

abbrev pub write_back : LocalView → ℕ → Block → Result LocalView Fault
write_back v line block = called_back v (λ r. callback.write_back r line block) v.ctl.sequencer

-- the block that the machine has back from the store
abbrev pub block_after_write : LocalView → ℕ → Block → Block
block_after_write v line block = callback.block_of_write (outstanding_for v.ctl line) block
