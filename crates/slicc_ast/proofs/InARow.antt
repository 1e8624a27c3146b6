-- Lists of two rows, one behind the other, are lists of the one and then lists of the other.
use Rattle.std.proofs.Common.{◌≡◌, ◌↔◌, ℕ, List, [], ◌∷◌, ◌++◌, refl, sym, subst, ap, ◌⊎◌, inl, inr}
use Rattle.slicc_ast.specs.Prelude.{Row, Rows, Grammar, nestings_of, many, end, next, up, Begins, Derives, Extent, Matches, Whole, Front, stopped, ended, one, alternative, joined}
use Rattle.slicc_ast.specs.Matches.Matches.{present, absent, again, enough, inside, on, outside}
use Rattle.slicc_ast.proofs.Joining.{merge, part}

-- the first rows are the second with the row behind them
data IsOver {F : Type 0} (other : Row F) : Rows F → Rows F → Type 0 where
  last : IsOver other (next other end) end
  next_over : (row : Row F) {rows short : Rows F} → IsOver other rows short → IsOver other (next row rows) (next row short)
  up_over : (row : Row F) {rows short : Rows F} → IsOver other rows short → IsOver other (up row rows) (up row short)

-- a list of a row and the rows behind it, and then one of the other row
record IsCut {F : Type 0} (g : Grammar F) (x : Extent) (row : Row F) (rows : Rows F) (other : Row F) (tokens : List ℕ) (nestings : ℕ) : Type 0 where
  before : List ℕ
  behind : List ℕ
  split : tokens ≡ before ++ behind
  whole : Matches g Whole row rows before 0
  rest : Matches g x other end behind nestings

longer_cut : {F : Type 0} {g : Grammar F} {x : Extent} {row to : Row F} {rows behind : Rows F} {other : Row F} {tokens : List ℕ} {nestings : ℕ} (kind : ℕ) → ((front : List ℕ) → Matches g Whole row rows front 0 → Matches g Whole to behind (kind ∷ front) 0) → IsCut g x row rows other tokens nestings → IsCut g x to behind other (kind ∷ tokens) nestings
longer_cut kind step cut = record { before = kind ∷ cut.before; behind = cut.behind; split = ap (λ ts. kind ∷ ts) cut.split; whole = step cut.before cut.whole; rest = cut.rest }

same_cut : {F : Type 0} {g : Grammar F} {x : Extent} {row to : Row F} {rows behind : Rows F} {other : Row F} {tokens : List ℕ} {nestings : ℕ} → ((front : List ℕ) → Matches g Whole row rows front 0 → Matches g Whole to behind front 0) → IsCut g x row rows other tokens nestings → IsCut g x to behind other tokens nestings
same_cut step cut = record { before = cut.before; behind = cut.behind; split = cut.split; whole = step cut.before cut.whole; rest = cut.rest }

cut_whole : {F : Type 0} (g : Grammar F) {row other : Row F} {rows short : Rows F} {tokens : List ℕ} {nestings : ℕ} → IsOver other rows short → Matches g Whole row rows tokens nestings → IsCut g Whole row short other tokens nestings
cut_whole g over ended = elim over [ ]
cut_whole g over (one {kind = kind} is m) = longer_cut kind (λ front n. one is n) (cut_whole g over m)
cut_whole g over (alternative {row = row} place chosen at m) = same_cut (λ front n. alternative place chosen at n) (cut_whole g (next_over row over) m)
cut_whole g over (present {row = row} m) = same_cut (λ front n. present n) (cut_whole g (next_over row over) m)
cut_whole g over (absent m) = same_cut (λ front n. absent n) (cut_whole g over m)
cut_whole g over (again {part = part} {row = row} m) = same_cut (λ front n. again n) (cut_whole g (next_over (many part row) over) m)
cut_whole g over (enough m) = same_cut (λ front n. enough n) (cut_whole g over m)
cut_whole g over (inside {row = row} {kind = kind} is m) = longer_cut kind (λ front n. inside is n) (cut_whole g (up_over row over) m)
cut_whole g last (on {tokens = tokens} m) = record { before = []; behind = tokens; split = refl; whole = ended; rest = m }
cut_whole g (next_over row over) (on m) = same_cut (λ front n. on n) (cut_whole g over m)
cut_whole g (up_over row over) (outside m) = same_cut (λ front n. outside n) (cut_whole g over m)

-- a front of them is one of the first, or a list of these and a front of the other row
abbrev IsFrontCut : {F : Type 0} → Grammar F → Row F → Rows F → Row F → List ℕ → Type 0
IsFrontCut g row rows other tokens = Begins g row rows tokens ⊎ ((nestings : ℕ) × IsCut g Front row rows other tokens nestings)

longer_front : {F : Type 0} (g : Grammar F) {row to : Row F} {rows behind : Rows F} {other : Row F} {tokens : List ℕ} (kind : ℕ) → ((x : Extent) (front : List ℕ) (n : ℕ) → Matches g x row rows front n → Matches g x to behind (kind ∷ front) n) → IsFrontCut g row rows other tokens → IsFrontCut g to behind other (kind ∷ tokens)
longer_front g {tokens = tokens} kind step (inl begins) = inl (begins.0, step Front tokens begins.0 begins.1)
longer_front g kind step (inr cut) = inr (cut.0, longer_cut kind (λ front n. step Whole front 0 n) cut.1)

same_front : {F : Type 0} (g : Grammar F) {row to : Row F} {rows behind : Rows F} {other : Row F} {tokens : List ℕ} → ((x : Extent) (front : List ℕ) (n : ℕ) → Matches g x row rows front n → Matches g x to behind front n) → IsFrontCut g row rows other tokens → IsFrontCut g to behind other tokens
same_front g {tokens = tokens} step (inl begins) = inl (begins.0, step Front tokens begins.0 begins.1)
same_front g step (inr cut) = inr (cut.0, same_cut (λ front n. step Whole front 0 n) cut.1)

cut_front : {F : Type 0} (g : Grammar F) {row other : Row F} {rows short : Rows F} {tokens : List ℕ} {nestings : ℕ} → IsOver other rows short → Matches g Front row rows tokens nestings → IsFrontCut g row short other tokens
cut_front g {short = short} over stopped = inl (nestings_of short, stopped)
cut_front g over (one {kind = kind} is m) = longer_front g kind (λ x front n p. one is p) (cut_front g over m)
cut_front g over (alternative {row = row} place chosen at m) = same_front g (λ x front n p. alternative place chosen at p) (cut_front g (next_over row over) m)
cut_front g over (present {row = row} m) = same_front g (λ x front n p. present p) (cut_front g (next_over row over) m)
cut_front g over (absent m) = same_front g (λ x front n p. absent p) (cut_front g over m)
cut_front g over (again {part = part} {row = row} m) = same_front g (λ x front n p. again p) (cut_front g (next_over (many part row) over) m)
cut_front g over (enough m) = same_front g (λ x front n p. enough p) (cut_front g over m)
cut_front g over (inside {row = row} {kind = kind} is m) = longer_front g kind (λ x front n p. inside is p) (cut_front g (up_over row over) m)
cut_front g last (on {tokens = tokens} {nestings = nestings} m) = inr (nestings, record { before = []; behind = tokens; split = refl; whole = ended; rest = m })
cut_front g (next_over row over) (on m) = same_front g (λ x front n p. on p) (cut_front g over m)
cut_front g (up_over row over) (outside m) = same_front g (λ x front n p. outside p) (cut_front g over m)

-- and the other way round
glued : {F : Type 0} (g : Grammar F) {x : Extent} {row other : Row F} {rows short : Rows F} {front rest : List ℕ} {none nestings : ℕ} → IsOver other rows short → Matches g Whole row short front none → Matches g x other end rest nestings → Matches g x row rows (front ++ rest) nestings
glued g last ended m = on m
glued g over (one is k) m = one is (glued g over k m)
glued g over (alternative {row = row} place chosen at k) m = alternative place chosen at (glued g (next_over row over) k m)
glued g over (present {row = row} k) m = present (glued g (next_over row over) k m)
glued g over (absent k) m = absent (glued g over k m)
glued g over (again {part = part} {row = row} k) m = again (glued g (next_over (many part row) over) k m)
glued g over (enough k) m = enough (glued g over k m)
glued g over (inside {row = row} is k) m = inside is (glued g (up_over row over) k m)
glued g (next_over row over) (on k) m = on (glued g over k m)
glued g (up_over row over) (outside k) m = outside (glued g over k m)

over_front : {F : Type 0} (g : Grammar F) {row other : Row F} {rows short : Rows F} {tokens : List ℕ} {nestings : ℕ} → IsOver other rows short → Matches g Front row short tokens nestings → Begins g row rows tokens
over_front g {rows = rows} over stopped = (nestings_of rows, stopped)
over_front g over (one is m) = let n = over_front g over m in (n.0, one is n.1)
over_front g over (alternative {row = row} place chosen at m) = let n = over_front g (next_over row over) m in (n.0, alternative place chosen at n.1)
over_front g over (present {row = row} m) = let n = over_front g (next_over row over) m in (n.0, present n.1)
over_front g over (absent m) = let n = over_front g over m in (n.0, absent n.1)
over_front g over (again {part = part} {row = row} m) = let n = over_front g (next_over (many part row) over) m in (n.0, again n.1)
over_front g over (enough m) = let n = over_front g over m in (n.0, enough n.1)
over_front g over (inside {row = row} is m) = let n = over_front g (up_over row over) m in (n.0, inside is n.1)
over_front g (next_over row over) (on m) = let n = over_front g over m in (n.0, on n.1)
over_front g (up_over row over) (outside m) = let n = over_front g over m in (n.0, outside n.1)

pub derives_in_a_row : {F : Type 0} (g : Grammar F) (row other : Row F) (tokens : List ℕ) → Derives g (joined row other) end tokens ↔ ((front rest : List ℕ) × (tokens ≡ front ++ rest) × Derives g row end front × Derives g other end rest)
derives_in_a_row g row other tokens = (
  λ m. let cut = cut_whole g last (part g row other end m) in (cut.before, cut.behind, cut.split, cut.whole, cut.rest),
  λ both. merge g row other end (subst (λ ts. Matches g Whole row (next other end) ts 0) (sym both.2) (glued g last both.3 both.4)),
)

pub begins_in_a_row : {F : Type 0} (g : Grammar F) (row other : Row F) (tokens : List ℕ) → Begins g (joined row other) end tokens ↔ (Begins g row end tokens ⊎ ((front rest : List ℕ) × (tokens ≡ front ++ rest) × Derives g row end front × Begins g other end rest))
begins_in_a_row g row other tokens = (λ m. forth (cut_front g last (part g row other end m.1)), back)
  where
    forth : IsFrontCut g row end other tokens → Begins g row end tokens ⊎ ((front rest : List ℕ) × (tokens ≡ front ++ rest) × Derives g row end front × Begins g other end rest)
    forth (inl begins) = inl begins
    forth (inr cut) = inr ((cut.1).before, (cut.1).behind, (cut.1).split, (cut.1).whole, (cut.0, (cut.1).rest))

    back : Begins g row end tokens ⊎ ((front rest : List ℕ) × (tokens ≡ front ++ rest) × Derives g row end front × Begins g other end rest) → Begins g (joined row other) end tokens
    back (inl begins) = let n = over_front g {other = other} last begins.1 in (n.0, merge g row other end n.1)
    back (inr both) = ((both.4).0, merge g row other end (subst (λ ts. Matches g Front row (next other end) ts (both.4).0) (sym both.2) (glued g last both.3 (both.4).1)))
