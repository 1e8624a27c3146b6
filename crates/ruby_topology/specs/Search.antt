-- The steps of the search for least sums: controllers are marked with the least sum that was found so far, and settled nearest
-- first.
use Rattle.std.specs.Prelude.{ℕ, ◌≡◌, ◌<◌, ◌≤◌, ◌+◌, ◌*◌, ◌==◌, Bool, true, false, cond, nat_lt, min, Option, None, Some, List, length, slice_set, MatchOption}
use Rattle.std.specs.List.{slice_index_or}
use Rattle.ruby_topology.specs.declared.paths.Mark.{Mark}
use Rattle.ruby_topology.specs.declared.paths.Mark.TheVariants.{Unreached, Reached, Settled}
use Rattle.ruby_topology.specs.declared.forms.Link.{Link}
use Rattle.ruby_topology.specs.Paths.{HasWay, IsLeastSum}

-- the sum that was found, if any
abbrev pub sum_at : Mark → Option ℕ
sum_at Unreached = None
sum_at (Reached x) = Some x
sum_at (Settled x) = Some x

abbrev pub is_settled : Mark → Bool
is_settled (Settled x) = true
is_settled _ = false

abbrev pub mark_at : List Mark → ℕ → Mark
mark_at marks v = slice_index_or marks v Unreached

-- the nearest so far, with one more that is marked so
abbrev pub nearer : Option (ℕ × ℕ) → ℕ → Mark → Option (ℕ × ℕ)
nearer None v (Reached x) = Some (v, x)
nearer (Some b) v (Reached x) = cond (nat_lt x b.1) (Some (v, x)) (Some b)
nearer best v _ = best

-- among the first so many
abbrev pub IsNearest : List Mark → ℕ → Option (ℕ × ℕ) → Type 0
IsNearest marks i best =
    MatchOption best ((v x : ℕ) → v < i → mark_at marks v ≡ Reached x → ⊥)
    (λ b. (b.0 < i) × (mark_at marks b.0 ≡ Reached b.1) × ((v x : ℕ) → v < i → mark_at marks v ≡ Reached x → b.1 ≤ x))

-- where the link leads from this controller
abbrev pub far_end : Link → ℕ → Option ℕ
far_end link u = cond (link.one == u) (Some link.other) (cond (link.other == u) (Some link.one) None)

abbrev pub shorter : Mark → ℕ → Mark
shorter Unreached x = Reached x
shorter (Reached y) x = Reached (min x y)
shorter (Settled y) x = Settled y

-- the marks after a link from a controller whose sum this is
abbrev pub mark_end : ℕ → List Mark → Option ℕ → List Mark
mark_end x marks None = marks
mark_end x marks (Some v) = slice_set marks v (shorter (mark_at marks v) x)

abbrev pub relaxed : ℕ → ℕ → List Mark → Link → List Mark
relaxed u x marks link = mark_end (x + link.length) marks (far_end link u)

abbrev pub IsBetween : ℕ → Link → Type 0
IsBetween total link = (link.one < total) × (link.other < total)

-- the search is at its end: what was found is least, and what wasn't found isn't there
pub record IsSearched (links : List Link) (total from : ℕ) (marks : List Mark) : Type 0 where
  pub all : length marks ≡ total
  pub found : (v x : ℕ) → v < total → sum_at (mark_at marks v) ≡ Some x → IsLeastSum links from v x
  pub missed : (v x : ℕ) → v < total → sum_at (mark_at marks v) ≡ None → HasWay links from v x → ⊥
  pub bound : (v x : ℕ) → sum_at (mark_at marks v) ≡ Some x → x ≤ 1000 * total

-- the sums that all were found with, or some wasn't found
abbrev pub SumsOf : List Mark → Option (List ℕ) → Type 0
SumsOf marks row =
    MatchOption row ((v : ℕ) × (v < length marks) × (sum_at (mark_at marks v) ≡ None))
    (λ sums. (length sums ≡ length marks) × ((v : ℕ) → v < length marks → sum_at (mark_at marks v) ≡ Some (slice_index_or sums v 0)))
