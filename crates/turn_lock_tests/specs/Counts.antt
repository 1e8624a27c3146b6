-- What each worker counts: its number and how often it has counted before, as one entry of a history.
use Rattle.std.specs.Prelude.{ℕ, zero, suc, ◌+◌, ◌*◌, List, [], ◌∷◌, ◌++◌}

abbrev pub count_of : ℕ → ℕ → ℕ
count_of k i = i * 65536 + k * 256

-- the first n counts of worker k
abbrev pub counts_of : ℕ → ℕ → List ℕ
counts_of k zero = []
counts_of k (suc n) = counts_of k n ++ count_of k n ∷ []
