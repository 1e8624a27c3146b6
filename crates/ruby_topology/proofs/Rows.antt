-- Rows of paths: those that are computed, and those that a search found.
use Rattle.std.proofs.Common.{◌≡◌, ◌<◌, ◌∙◌, ℕ, Option, None, Some, List, length, get_or, map, refl, arith, MatchOption}
use Rattle.std.specs.List.{range_with_len}
use Rattle.std.proofs.lemmas.List.FromFn.{length-map-range_with_len, get_or-map-range_with_len}
use Rattle.ruby_topology.specs.declared.paths.Mark.{Mark}
use Rattle.ruby_topology.specs.declared.forms.Link.{Link}
use Rattle.ruby_topology.specs.declared.forms.Network.{Network}
use Rattle.ruby_topology.specs.declared.forms.Network.TheVariants.{PointToPoint, Crossbar, Mesh, Links}
use Rattle.ruby_topology.specs.Prelude.{IsIsland, IsRow, path_by, IsSearched, SumsOf}

item : (f : ℕ → ℕ) (total k : ℕ) → k < total → get_or (map f (range_with_len 0 total)) k 0 ≡ f k
item f total k lt = get_or-map-range_with_len f 0 total k k 0 lt (omega arith)

pub computed_is_row : (network : Network) (links : List Link) (total from : ℕ) → (network ≡ Links → ⊥) → IsRow network links total from (map (path_by network from) (range_with_len 0 total))
computed_is_row (PointToPoint length) links total from other =
    record {
      all = length-map-range_with_len (path_by (PointToPoint length) from) 0 total;
      paths = item (path_by (PointToPoint length) from) total;
    }
computed_is_row (Crossbar length) links total from other =
    record {
      all = length-map-range_with_len (path_by (Crossbar length) from) 0 total;
      paths = item (path_by (Crossbar length) from) total;
    }
computed_is_row (Mesh rows columns length) links total from other =
    record {
      all = length-map-range_with_len (path_by (Mesh rows columns length) from) 0 total;
      paths = item (path_by (Mesh rows columns length) from) total;
    }
computed_is_row Links links total from other = absurd (other refl)

pub found_row : (links : List Link) (total from : ℕ) (marks : List Mark) → IsSearched links total from marks → (row : Option (List ℕ)) → SumsOf marks row → MatchOption row (IsIsland Links links total from) (IsRow Links links total from)
found_row links total from marks searched None h =
    let all = searched.all in
    let inside = h.1 in
    let lt : h.0 < total = omega (arith, all, inside) in
    record { to = h.0; is_to = lt; no_path = λ path least. searched.missed h.0 path lt h.2 least.some_way }
found_row links total from marks searched (Some sums) h =
    let all = searched.all in
    record { all = h.0 ∙ all; paths = λ to lt. searched.found to (get_or sums to 0) lt (h.1 to (omega (arith, lt, all))) }
