-- Of `getState` and `setState` a machine has exactly one, or they or `setAccessPermission` don't take or answer what they should:
-- `State getState([TBE,] [Entry,] Addr)`, `void setState([TBE,] [Entry,] Addr, State)` and
-- `void setAccessPermission([Entry,] Addr, State)`, in which the structures stand exactly where the machine has them. That is
-- told at the function.
use Rattle.std.specs.Prelude.{ℕ, ◌++◌, ◌&&◌, Bool, true, false, cond, Option, None, Some, List, [], ◌∷◌, find, codes}
use Rattle.std.specs.Str.{bytes_eq}
use Rattle.slicc_ast.specs.declared.tree.span.Span.{Span}
use Rattle.slicc_ast.specs.declared.tree.item.Tree.{Tree}
use Rattle.slicc_ast.specs.declared.tree.machine.Machine.{Machine}
use Rattle.slicc_ast.specs.declared.tree.declaration.Formal.{Formal}
use Rattle.slicc_ast.specs.declared.tree.declaration.Function.{Function}
use Rattle.slicc_ast.specs.declared.tree.declaration.Function.TheVariants.{Plain}
use Rattle.slicc_ast.specs.declared.tree.declaration.Structure.{Structure}
use Rattle.slicc_plan.specs.declared.broken.Broken.{Broken}
use Rattle.slicc_plan.specs.declared.broken.Rule.TheVariants.{StateFunctions}
use Rattle.slicc_plan.specs.declared.built_in.BuiltInType.{BuiltInType}
use Rattle.slicc_plan.specs.declared.built_in.BuiltInType.TheVariants.{Address, Void}
use Rattle.slicc_plan.specs.Declarations.{Declaration, within, is_named, machine_declarations}
use Rattle.slicc_plan.specs.Limits.{is_states}
use Rattle.slicc_plan.specs.Machines.{entry_structure, function_named, in_each, tbe_structure}
use Rattle.slicc_plan.specs.Types.{KnownType, enumerated, structured, is_built_in, type_in}

-- the type that a function of states should take or answer
pub data Wanted : Type 0 where
  built_in_type : BuiltInType → Wanted
  -- a reference to a line of this structure
  line : Structure → Wanted
  -- the machine's states
  own_state : Wanted

-- the type is the machine's own of this name
abbrev pub is_own_structure : List ℕ → Option KnownType → Bool
is_own_structure text (Some (structured (within m) s)) = bytes_eq s.name.text text
is_own_structure text _ = false

abbrev pub is_own_states : Option Declaration → Option KnownType → Bool
is_own_states (Some d) (Some (enumerated (within m) text members)) = is_named text d
is_own_states _ _ = false

abbrev pub is_wanted : Machine → Wanted → Option KnownType → Bool
is_wanted m (built_in_type b) t = is_built_in b t
is_wanted m (line s) t = is_own_structure s.name.text t
is_wanted m own_state t = is_own_states (find is_states (machine_declarations m)) t

abbrev pub are_wanted : List Tree → Machine → List Wanted → List Formal → Bool
are_wanted trees m [] [] = true
are_wanted trees m [] (f ∷ fs) = false
are_wanted trees m (w ∷ ws) [] = false
are_wanted trees m (w ∷ ws) (f ∷ fs) =
    is_wanted m w (type_in trees (within m) f.kind.text) && are_wanted trees m ws fs

abbrev pub line_where : Option Structure → List Wanted
line_where None = []
line_where (Some s) = line s ∷ []

-- what the three functions take
abbrev pub taken_to_read : Machine → List Wanted
taken_to_read m = line_where (tbe_structure m) ++ line_where (entry_structure m) ++ built_in_type Address ∷ []

abbrev pub taken_to_write : Machine → List Wanted
taken_to_write m = taken_to_read m ++ own_state ∷ []

abbrev pub taken_to_permit : Machine → List Wanted
taken_to_permit m = line_where (entry_structure m) ++ built_in_type Address ∷ own_state ∷ []

abbrev pub told_at : ℕ → Span → Broken
told_at number place = record { rule = StateFunctions; machine = number; place = place; other = None }

-- the function, where there is one, takes and answers something else
abbrev pub unlike : List Tree → ℕ → Machine → Wanted → List Wanted → Option Function → List Broken
unlike trees number m answered taken (Some (Plain kind called formals attributes body span)) =
    cond (is_wanted m answered (type_in trees (within m) kind.text) && are_wanted trees m taken formals.items)
    [] (told_at number span ∷ [])
unlike trees number m answered taken _ = []

-- the function without the other one
abbrev pub alone : ℕ → Option Function → Option Function → List Broken
alone number (Some (Plain kind called formals attributes body span)) None = told_at number span ∷ []
alone number _ _ = []

abbrev pub state_functions_in : List Tree → ℕ → Machine → List Broken
state_functions_in trees number m =
    let reader = function_named m (codes "getState") in
    let writer = function_named m (codes "setState") in
    let permitter = function_named m (codes "setAccessPermission") in
    alone number reader writer ++ alone number writer reader
    ++ unlike trees number m own_state (taken_to_read m) reader
    ++ unlike trees number m (built_in_type Void) (taken_to_write m) writer
    ++ unlike trees number m (built_in_type Void) (taken_to_permit m) permitter

abbrev pub wrong_state_functions : List Tree → List Broken
wrong_state_functions trees = in_each (state_functions_in trees) trees
