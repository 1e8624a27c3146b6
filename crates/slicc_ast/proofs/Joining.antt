-- A row with another right behind it matches what the two joined to one do; so a table whose alternatives another covers
-- has no lists but those of the other.
use Rattle.std.proofs.Common.{◌≡◌, ℕ, suc, List, [], refl, sym, subst, ap}
use Rattle.slicc_ast.specs.Prelude.{Row, Rows, Grammar, nestings_of, done, form, maybe, many, nested, next, up, Extent, Matches, Front, stopped, ended, one, alternative, Covers, HaveSameLists, joined}
use Rattle.slicc_ast.specs.Grammar.Row.{token}
use Rattle.slicc_ast.specs.Matches.Matches.{present, absent, again, enough, inside, on, outside}

-- somewhere among the rows two are joined
data AreJoined {F : Type 0} : Rows F → Rows F → Type 0 where
  first : (row other : Row F) (rows : Rows F) → AreJoined (next row (next other rows)) (next (joined row other) rows)
  first_up : (row other : Row F) (rows : Rows F) → AreJoined (up row (next other rows)) (up (joined row other) rows)
  later : (row : Row F) {rows behind : Rows F} → AreJoined rows behind → AreJoined (next row rows) (next row behind)
  later_up : (row : Row F) {rows behind : Rows F} → AreJoined rows behind → AreJoined (up row rows) (up row behind)

data IsJoined {F : Type 0} : Row F → Rows F → Row F → Rows F → Type 0 where
  here : (row other : Row F) (rows : Rows F) → IsJoined row (next other rows) (joined row other) rows
  behind : (row : Row F) {rows to : Rows F} → AreJoined rows to → IsJoined row rows row to

same_nestings : {F : Type 0} {rows to : Rows F} → AreJoined rows to → nestings_of rows ≡ nestings_of to
same_nestings (first row other rows) = refl
same_nestings (first_up row other rows) = refl
same_nestings (later row j) = same_nestings j
same_nestings (later_up row j) = ap suc (same_nestings j)

merged : {F : Type 0} (g : Grammar F) {x : Extent} {row to : Row F} {rows behind_to : Rows F} {tokens : List ℕ} {nestings : ℕ} → IsJoined row rows to behind_to → Matches g x row rows tokens nestings → Matches g x to behind_to tokens nestings
merged g (here row other rows) stopped = stopped
merged g (here (token kinds row) other rows) (one is m) = one is (merged g (here row other rows) m)
merged g (here (form n row) other rows) (alternative place chosen at m) = alternative place chosen at (merged g (behind chosen (first row other rows)) m)
merged g (here (maybe part row) other rows) (present m) = present (merged g (behind part (first row other rows)) m)
merged g (here (maybe part row) other rows) (absent m) = absent (merged g (here row other rows) m)
merged g (here (many part row) other rows) (again m) = again (merged g (behind part (first (many part row) other rows)) m)
merged g (here (many part row) other rows) (enough m) = enough (merged g (here row other rows) m)
merged g (here (nested kinds part row) other rows) (inside is m) = inside is (merged g (behind part (first_up row other rows)) m)
merged g (here done other rows) (on m) = m
merged g (behind row {to = to} j) stopped = subst (λ n. Matches g Front row to [] n) (sym (same_nestings j)) stopped
merged g (behind done j) ended = elim j [ ]
merged g (behind (token kinds row) j) (one is m) = one is (merged g (behind row j) m)
merged g (behind (form n row) j) (alternative place chosen at m) = alternative place chosen at (merged g (behind chosen (later row j)) m)
merged g (behind (maybe part row) j) (present m) = present (merged g (behind part (later row j)) m)
merged g (behind (maybe part row) j) (absent m) = absent (merged g (behind row j) m)
merged g (behind (many part row) j) (again m) = again (merged g (behind part (later (many part row) j)) m)
merged g (behind (many part row) j) (enough m) = enough (merged g (behind row j) m)
merged g (behind (nested kinds part row) j) (inside is m) = inside is (merged g (behind part (later_up row j)) m)
merged g (behind done (first row other rows)) (on m) = on (merged g (here row other rows) m)
merged g (behind done (later row j)) (on m) = on (merged g (behind row j) m)
merged g (behind done (first_up row other rows)) (outside m) = outside (merged g (here row other rows) m)
merged g (behind done (later_up row j)) (outside m) = outside (merged g (behind row j) m)

parted : {F : Type 0} (g : Grammar F) {x : Extent} {row to : Row F} {rows behind_to : Rows F} {tokens : List ℕ} {nestings : ℕ} → IsJoined row rows to behind_to → Matches g x to behind_to tokens nestings → Matches g x row rows tokens nestings
parted g (here done other rows) m = on m
parted g (here (token kinds row) other rows) stopped = stopped
parted g (here (token kinds row) other rows) (one is m) = one is (parted g (here row other rows) m)
parted g (here (form n row) other rows) stopped = stopped
parted g (here (form n row) other rows) (alternative place chosen at m) = alternative place chosen at (parted g (behind chosen (first row other rows)) m)
parted g (here (maybe part row) other rows) stopped = stopped
parted g (here (maybe part row) other rows) (present m) = present (parted g (behind part (first row other rows)) m)
parted g (here (maybe part row) other rows) (absent m) = absent (parted g (here row other rows) m)
parted g (here (many part row) other rows) stopped = stopped
parted g (here (many part row) other rows) (again m) = again (parted g (behind part (first (many part row) other rows)) m)
parted g (here (many part row) other rows) (enough m) = enough (parted g (here row other rows) m)
parted g (here (nested kinds part row) other rows) stopped = stopped
parted g (here (nested kinds part row) other rows) (inside is m) = inside is (parted g (behind part (first_up row other rows)) m)
parted g (behind row {rows = rows} j) stopped = subst (λ n. Matches g Front row rows [] n) (same_nestings j) stopped
parted g (behind done j) ended = elim j [ ]
parted g (behind (token kinds row) j) (one is m) = one is (parted g (behind row j) m)
parted g (behind (form n row) j) (alternative place chosen at m) = alternative place chosen at (parted g (behind chosen (later row j)) m)
parted g (behind (maybe part row) j) (present m) = present (parted g (behind part (later row j)) m)
parted g (behind (maybe part row) j) (absent m) = absent (parted g (behind row j) m)
parted g (behind (many part row) j) (again m) = again (parted g (behind part (later (many part row) j)) m)
parted g (behind (many part row) j) (enough m) = enough (parted g (behind row j) m)
parted g (behind (nested kinds part row) j) (inside is m) = inside is (parted g (behind part (later_up row j)) m)
parted g (behind done (first row other rows)) (on m) = on (parted g (here row other rows) m)
parted g (behind done (later row j)) (on m) = on (parted g (behind row j) m)
parted g (behind done (first_up row other rows)) (outside m) = outside (parted g (here row other rows) m)
parted g (behind done (later_up row j)) (outside m) = outside (parted g (behind row j) m)

pub merge : {F : Type 0} (g : Grammar F) {x : Extent} (row other : Row F) (rows : Rows F) {tokens : List ℕ} {nestings : ℕ} → Matches g x row (next other rows) tokens nestings → Matches g x (joined row other) rows tokens nestings
merge g row other rows m = merged g (here row other rows) m

pub part : {F : Type 0} (g : Grammar F) {x : Extent} (row other : Row F) (rows : Rows F) {tokens : List ℕ} {nestings : ℕ} → Matches g x (joined row other) rows tokens nestings → Matches g x row (next other rows) tokens nestings
part g row other rows m = parted g (here row other rows) m

pub covered : {F : Type 0} (g other : Grammar F) → Covers g other → {x : Extent} {row : Row F} {rows : Rows F} {tokens : List ℕ} {nestings : ℕ} → Matches g x row rows tokens nestings → Matches other x row rows tokens nestings
covered g other covers stopped = stopped
covered g other covers ended = ended
covered g other covers (one is m) = one is (covered g other covers m)
covered g other covers {x = x} (alternative {n = n} {row = row} {rows = rows} {tokens = tokens} {nestings = nestings} place chosen at m) =
    covers n place chosen at x row rows tokens nestings (covered g other covers m)
covered g other covers (present m) = present (covered g other covers m)
covered g other covers (absent m) = absent (covered g other covers m)
covered g other covers (again m) = again (covered g other covers m)
covered g other covers (enough m) = enough (covered g other covers m)
covered g other covers (inside is m) = inside is (covered g other covers m)
covered g other covers (on m) = on (covered g other covers m)
covered g other covers (outside m) = outside (covered g other covers m)

pub same_lists : {F : Type 0} (g other : Grammar F) → Covers g other → Covers other g → HaveSameLists g other
same_lists g other covers back x row rows tokens nestings = (covered g other covers, covered other g back)
