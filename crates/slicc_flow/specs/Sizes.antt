-- Sizes of which those that are too large are told apart no more.
use Rattle.std.specs.Prelude.{◌≡◌, ℕ, List, map, min}
use Rattle.std.specs.List.{slice_index_or}
use Rattle.slicc_plan.specs.declared.part.Body.{Body}
use Rattle.slicc_plan.specs.Prelude.{function_size, size_with}

abbrev pub capped : ℕ → ℕ
capped n = min n 100001

abbrev pub next_sizes : List Body → List ℕ → List ℕ
next_sizes functions sizes = map (λ (b : Body). capped (size_with (λ c. slice_index_or sizes c 0) b)) functions

-- the sizes of these functions with calls counted so deep
abbrev pub AreSizes : List Body → ℕ → List ℕ → Type 0
AreSizes functions depth sizes = (k : ℕ) → slice_index_or sizes k 0 ≡ capped (function_size depth functions k)
