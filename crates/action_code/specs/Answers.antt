-- What verification answers where this is the first that is broken: exactly that, or that there was no memory.
use Rattle.std.specs.Prelude.{◌≡◌, ⊤, Option, None, Some, Result, Ok, Err}
use Rattle.action_code.specs.declared.verified.CodeFault.{CodeFault}
use Rattle.action_code.specs.declared.verified.CodeFault.TheVariants.{Broken as BrokenAt, NoMemory}
use Rattle.action_code.specs.Rules.{Broken}

abbrev pub Answers : {A : Type 0} → Option Broken → Result A CodeFault → Type 0
Answers found (Ok a) = found ≡ None
Answers found (Err (BrokenAt rule body at kept)) = found ≡ Some (record { rule = rule; body = body; at = at; kept = kept })
Answers found (Err NoMemory) = ⊤
