-- What a run of a body answers in a scan, where this is known of the transition.
use Rattle.std.specs.Prelude.{Result, Ok, Err}
use Rattle.ruby_base.specs.declared.memory.NoMemory.{NoMemory}
use Rattle.body_meaning.specs.declared.frame.Known.{Known}
use Rattle.body_meaning.specs.Prelude.{stop_at}
use Rattle.code_meaning.specs.declared.code_end.CodeEnd.{CodeEnd}
use Rattle.code_meaning.specs.declared.code_end.CodeEnd.TheVariants as code_end
use Rattle.scan_steps.specs.declared.halt.Halt.{Halt}
use Rattle.scan_steps.specs.declared.halt.Halt.TheVariants as halt

abbrev pub ended : Known → Result CodeEnd NoMemory → Result CodeEnd Halt
ended k (Ok (code_end.Stop fault)) = Err (halt.Stop (stop_at k fault))
ended k (Ok end) = Ok end
ended k (Err none) = Err halt.NoMemory
