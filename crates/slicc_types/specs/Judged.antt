-- What may be told of a protocol where memory suffices: the one of its broken rules that comes before the others, or, where it
-- keeps all rules, its transitions as they are written and, once they are made, its symbols.
use Rattle.std.specs.Prelude.{◌≡◌, Result, Ok, Err, List, map}
use Rattle.ruby_symbols.specs.declared.symbols.Symbols.{Symbols}
use Rattle.slicc_ast.specs.declared.tree.item.Tree.{Tree}
use Rattle.slicc_plan.specs.declared.broken.Broken.{Broken}
use Rattle.slicc_plan.specs.declared.row.Written.{Written}
use Rattle.slicc_plan.specs.Prelude.{IsAccepted, IsToldOf, machines_of, symbols_of, written_of}

-- the protocol keeps all rules, and its machines have these transitions
pub record IsWritten (trees : List Tree) (written : List (List Written)) : Type 0 where
  pub accepted : IsAccepted trees
  pub are : written ≡ map written_of (machines_of trees)

abbrev pub IsJudged : List Tree → Result (List (List Written)) Broken → Type 0
IsJudged trees (Ok written) = IsWritten trees written
IsJudged trees (Err b) = IsToldOf trees b

-- the protocol keeps all rules, and has these symbols
pub record IsKept (trees : List Tree) (symbols : Symbols) : Type 0 where
  pub accepted : IsAccepted trees
  pub are : symbols ≡ symbols_of trees

abbrev pub IsResolved : List Tree → Result Symbols Broken → Type 0
IsResolved trees (Ok symbols) = IsKept trees symbols
IsResolved trees (Err b) = IsToldOf trees b
