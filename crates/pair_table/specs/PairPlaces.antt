-- The places of a machine's pairs in its table: state by state, and in each event by event.
use Rattle.std.specs.Prelude.{ℕ, ◌≡◌, ◌<◌, ◌+◌, ◌*◌, ◌/◌, ◌%◌, Bool, Option, List, [], ◌∷◌, All}
use Rattle.std.specs.Prelude.{flat_map, fold, map, min, slice_get, slice_index, slice_set}
use Rattle.std.specs.List.{position_or_len}
use Rattle.std.specs.Option.{option_map}
use Rattle.slicc_plan.specs.declared.row.Row.{Row}
use Rattle.slicc_plan.specs.declared.row.Written.{Written}
use Rattle.slicc_plan.specs.Machines.{row_of}
use Rattle.slicc_plan.specs.Prelude.{includes}

-- of all pairs that the transition is written for
abbrev pub places_of : ℕ → Written → List ℕ
places_of events w = flat_map (λ state. map (λ event. state * events + event) w.events) w.states

-- the transition is written for the pair at this place
abbrev pub is_at : ℕ → ℕ → Written → Bool
is_at events place w = includes (places_of events w) place

-- its states and events are some of so many
abbrev pub IsAmong : ℕ → ℕ → Written → Type 0
IsAmong states events w = All (λ s. s < states) w.states × All (λ e. e < events) w.events

-- the first transition that is written for the pair at this place, or the count of all where none is
abbrev pub first_at : ℕ → List Written → ℕ → ℕ
first_at events ws place = position_or_len (is_at events place) ws

-- these are the first ones' numbers, place by place
abbrev pub AreFirsts : ℕ → ℕ → List Written → List ℕ → Type 0
AreFirsts states events ws firsts =
    (place : ℕ) → place < states * events → slice_index firsts place ≡ first_at events ws place

-- the numbers with this one at these places
abbrev pub marked : ℕ → List ℕ → List ℕ → List ℕ
marked number places firsts = fold (λ marks place. slice_set marks place number) firsts places

-- the least of a number and of those at these places
abbrev pub least_at : List ℕ → List ℕ → ℕ → ℕ
least_at firsts places most = fold (λ least place. min least (slice_index firsts place)) most places

-- the row of the transition of this number, where there is one
abbrev pub row_at : List Written → ℕ → ℕ → ℕ → Option Row
row_at ws state event number = option_map (row_of state event number) (slice_get ws number)

-- the rows from this place on, of the transitions that are the first there
abbrev pub rows_at : List Written → ℕ → ℕ → List ℕ → List (Option Row)
rows_at ws events place [] = []
rows_at ws events place (n ∷ ns) =
    row_at ws (place / events) (place % events) n ∷ rows_at ws events (place + 1) ns
