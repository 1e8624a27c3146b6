-- The two callbacks by which a request is finished: a load or a fetch with the block that is read, and a store with the block in which
-- its byte was put at its place. `NoRequest` comes where the line has no request, and `WrongKind` where it has one of another
-- kind.
use Rattle.std.specs.Prelude.{ℕ, Bool, true, false, Option, None, Some, Result, Ok, Err, slice_set, if◌then◌else◌}
use Rattle.ruby_value.specs.declared.asked.Ask.{Ask}
use Rattle.ruby_value.specs.declared.asked.Ask.TheVariants.{Load, Store, Fetch}
use Rattle.ruby_value.specs.declared.asked.Asked.{Asked}
use Rattle.ruby_value.specs.declared.asked.BackFault.{BackFault}
use Rattle.ruby_value.specs.declared.asked.BackFault.TheVariants.{NoRequest, WrongKind}
use Rattle.ruby_value.specs.declared.value.Block.{Block}
use Rattle.ruby_value.specs.Requests.{Requests, request_for, requests_with_answer}

abbrev pub is_store : Ask → Bool
is_store Load = false
is_store Store = true
is_store Fetch = false

abbrev pub after_answer : Requests → ℕ → Asked → Block → Requests
after_answer r line asked block = requests_with_answer r line (record { asked = asked; block = block })

abbrev pub finish_read : Requests → ℕ → Block → Option Asked → Result Requests BackFault
finish_read r line block None = Err NoRequest
finish_read r line block (Some asked) =
    if is_store asked.kind then Err WrongKind else Ok (after_answer r line asked block)

abbrev pub read_back : Requests → ℕ → Block → Result Requests BackFault
read_back r line block = finish_read r line block (request_for r line)

-- the block with the byte of a store in it
abbrev pub stored_block : Asked → Block → Block
stored_block asked block = record { bytes = slice_set block.bytes asked.offset asked.byte }

abbrev pub finish_write : Requests → ℕ → Block → Option Asked → Result Requests BackFault
finish_write r line block None = Err NoRequest
finish_write r line block (Some asked) =
    if is_store asked.kind then Ok (after_answer r line asked (stored_block asked block)) else Err WrongKind

abbrev pub write_back : Requests → ℕ → Block → Result Requests BackFault
write_back r line block = finish_write r line block (request_for r line)

-- the block that the machine has back from the store
abbrev pub block_of_write : Option Asked → Block → Block
block_of_write None block = block
block_of_write (Some asked) block = stored_block asked block

abbrev pub block_after_write : Requests → ℕ → Block → Block
block_after_write r line block = block_of_write (request_for r line) block
