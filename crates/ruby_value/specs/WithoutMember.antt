-- A set of controllers without one of them: all other numbers of the list, in their order.
-- Where the number isn't there, the list is as it was.
use Rattle.std.specs.Prelude.{ℕ, List, filter, not, ◌==◌}

abbrev pub without_member : List ℕ → ℕ → List ℕ
without_member members m = filter (λ x. not (x == m)) members
