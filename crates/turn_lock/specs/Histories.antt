-- A history is a list of numbers, each with an owner, as the turns of all passes have made it. It only grows at its end.
-- What is the owner's own in a history is the entries with that owner, in their order.
use Rattle.std.specs.Prelude.{◌≡◌, ℕ, ◌/◌, ◌%◌, ◌==◌, List, [], ◌++◌, length, drop, filter, All, nat_lt, if◌then◌else◌}

abbrev pub owner : ℕ → ℕ
owner n = n / 256 % 256

-- the entries whose owner is k
abbrev pub owned : ℕ → List ℕ → List ℕ
owned k log = filter (λ n. owner n == k) log

-- the list ys begins with xs
abbrev pub IsPrefix : List ℕ → List ℕ → Type 0
IsPrefix xs ys = (rest : List ℕ) × (ys ≡ xs ++ rest)

-- of each owner named, the list beside it is the entries of that owner
abbrev pub AreOwned : List (ℕ × List ℕ) → List ℕ → Type 0
AreOwned lists log = All (λ o. owned o.0 log ≡ o.1) lists

-- the history begins with what was seen, and has no later entry whose owner is k
abbrev pub Continues : ℕ → List ℕ → List ℕ → Type 0
Continues k seen log = (rest : List ℕ) × (log ≡ seen ++ rest) × (owned k rest ≡ [])

-- a turn of k, which found the history `entered`, left `log`: nothing but entries of k were added
abbrev pub Adds : ℕ → List ℕ → List ℕ → Type 0
Adds k entered log = IsPrefix entered log × All (λ n. owner n ≡ k) (drop (length entered) log)

-- of two lists of which one begins with the other
abbrev pub longer : List ℕ → List ℕ → List ℕ
longer xs ys = if nat_lt (length xs) (length ys) then ys else xs
