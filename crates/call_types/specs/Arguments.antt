-- Arguments one by one.
use Rattle.std.specs.Prelude.{ℕ, ◌++◌, ◌∷◌, Option, None, Some, List, [], length}
use Rattle.slicc_ast.specs.declared.tree.span.Span.{Span}
use Rattle.slicc_plan.specs.declared.broken.Broken.{Broken}
use Rattle.slicc_plan.specs.declared.broken.Rule.TheVariants.{NotThere}
use Rattle.slicc_plan.specs.Prelude.{Given, Typed, plain, wrong_argument, wrong_arguments, wrong_count, Environment, told, unknown, earlier_of_both, first_of}
use Rattle.slicc_plan.specs.Meanings.{Wanted}

-- what is broken in an argument where that is wanted, or where none is
abbrev pub wrong_at : Environment → Option Wanted → Given → List Broken
wrong_at env None g = g.typed.broken
wrong_at env (Some w) g = wrong_argument env w g

-- the first of what was found before and of what is broken in arguments, of which some are always there and some perhaps
abbrev pub after_arguments : Environment → Span → List Wanted → List Wanted → List Given → Option Broken → Option Broken
after_arguments env at always perhaps given first =
    earlier_of_both (earlier_of_both first (first_of (wrong_count at (length always) (length perhaps) given)))
    (first_of (wrong_arguments env (always ++ perhaps) given))

-- an index of what isn't indexed
abbrev pub not_indexed : Span → Typed → Given → Typed
not_indexed at on key = plain unknown (on.broken ++ told NotThere at ∷ (key.typed.broken ++ []))
