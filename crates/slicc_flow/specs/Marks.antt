-- Functions that are found by going along calls: those that are called, then those that the first of them calls, and so on.
use Rattle.std.specs.Prelude.{ℕ, zero, suc, Bool, true, false, not, cond, Option, None, Some, List, [], ◌∷◌, ◌++◌, length, map}
use Rattle.std.specs.List.{slice_get, slice_index_or, slice_set}
use Rattle.slicc_plan.specs.declared.part.Body.{Body}
use Rattle.slicc_plan.specs.Prelude.{calls_at}
use Rattle.slicc_flow.specs.declared.reach.Found.{Found}

-- there is such a function, and it isn't found yet
abbrev pub is_unseen : List Bool → ℕ → Bool
is_unseen seen call = not (slice_index_or seen call true)

abbrev pub with_call : Found → ℕ → Found
with_call found call =
    cond (is_unseen found.seen call)
    (record { seen = slice_set found.seen call true; queue = found.queue ++ call ∷ [] }) found

abbrev pub with_calls : Found → List ℕ → Found
with_calls found [] = found
with_calls found (call ∷ calls) = with_calls (with_call found call) calls

abbrev pub calls_of_found : List Body → Option ℕ → List ℕ
calls_of_found functions None = []
calls_of_found functions (Some k) = calls_at functions k

-- the calls of the function that was found at this place
abbrev pub next_calls : List Body → List ℕ → ℕ → List ℕ
next_calls functions queue place = calls_of_found functions (slice_get queue place)

-- after the functions at so many places
abbrev pub expanded : ℕ → List Body → Found → Found
expanded zero functions found = found
expanded (suc places) functions found =
    with_calls (expanded places functions found) (next_calls functions (expanded places functions found).queue places)

abbrev pub none_found : List Body → Found
none_found functions = record { seen = map (λ (b : Body). false) functions; queue = [] }

abbrev pub found_in : List Body → List ℕ → Found
found_in functions calls = expanded (length functions) functions (with_calls (none_found functions) calls)
