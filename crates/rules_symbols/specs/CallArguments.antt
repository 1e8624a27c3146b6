-- The arguments of a call in which nothing is broken: each fits what is wanted where it is, and stands for something that is known; where
-- a new line of a table is wanted there is `new` and the name of a type that agrees with the table's.
use Rattle.std.specs.Prelude.{◌≡◌, true, Option, Some, List, [], ◌∷◌}
use Rattle.slicc_ast.specs.declared.tree.name.Name.{Name}
use Rattle.slicc_plan.specs.CallTypes.{Given}
use Rattle.slicc_plan.specs.Environment.{Environment, type_named}
use Rattle.slicc_plan.specs.Meanings.{new_line, Wanted, new_line_of, agree, fits}
use Rattle.slicc_plan.specs.Types.{KnownType}
use Rattle.rules_symbols.specs.TypedMeaning.{IsTyped}

-- a value, or another thing that is wanted
pub record IsGiven (env : Environment) (wanted : Wanted) (g : Given) : Type 0 where
  pub unbroken : g.typed.broken ≡ []
  pub known : IsTyped env.trees env.machine g.typed.meaning
  pub fitting : fits env.machine wanted g.typed.meaning ≡ true

-- `new` and the name of a type
pub record IsNewLine (env : Environment) (line : Option KnownType) (g : Given) : Type 0 where
  pub name : Name
  pub wanted : KnownType
  pub type : KnownType
  pub made : g.typed.meaning ≡ new_line name
  pub line_is : line ≡ Some wanted
  pub named : type_named env name.text ≡ Some type
  pub agreed : agree wanted type ≡ true

abbrev pub IsArgument : Environment → Wanted → Given → Type 0
IsArgument env (new_line_of line) g = IsNewLine env line g
IsArgument env wanted g = IsGiven env wanted g

-- no more than are wanted
abbrev pub AreArguments : Environment → List Wanted → List Given → Type 0
AreArguments env wanted [] = Unit {0}
AreArguments env [] (g ∷ gs) = ⊥
AreArguments env (w ∷ ws) (g ∷ gs) = IsArgument env w g × AreArguments env ws gs
