-- What a reading of tokens from a place on answers, fault by fault.
use Rattle.std.specs.Prelude.{ℕ, ◌-◌, List}
use Rattle.slicc_ast.specs.Prelude.{Form}
use Rattle.slicc_lex.specs.declared.token.Token.{Token}
use Rattle.slicc_lex.specs.Prelude.{IsBadAt, IsDeepAt}
use Rattle.slicc_reading.specs.declared.fault.Fault.{Fault}
use Rattle.slicc_reading.specs.declared.fault.Fault.TheVariants.{Syntax as SyntaxLeft, Deep as DeepLeft, NoMemory as NoMemoryLeft}
use Rattle.slicc_reading.specs.declared.fault.SyntaxFault.{SyntaxFault}
use Rattle.slicc_reading.specs.declared.fault.SyntaxFault.TheVariants.{Syntax, Deep, NoMemory}

-- with so many nestings open before the token at a place, the tokens from there stop with the fault, or there was no memory
abbrev pub IsFaultFrom : Form → ℕ → List Token → ℕ → SyntaxFault → Type 0
IsFaultFrom form depth tokens at (Syntax place) = IsBadAt form depth tokens at place
IsFaultFrom form depth tokens at (Deep place) = IsDeepAt form depth tokens at place
IsFaultFrom form depth tokens at NoMemory = Unit {0}

-- a fault by its token's place, of so many tokens
abbrev pub placed : ℕ → Fault → SyntaxFault
placed count (SyntaxLeft left) = Syntax (count - left)
placed count (DeepLeft left) = Deep (count - left)
placed count NoMemoryLeft = NoMemory
