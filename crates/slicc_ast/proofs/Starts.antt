-- What a row and the rows behind it begin with, and what they are of no token.
use Rattle.std.proofs.Common.{◌≡◌, ℕ, ◌≤◌, Bool, true, false, ◌&&◌, cond, List, [], ◌∷◌, refl, sym, ◌⊎◌, inl, inr, arith, le_refl, le_trans}
use Rattle.std.proofs.lemmas.Bool.{and_from, false≢true}
use Rattle.slicc_ast.specs.Prelude.{has, Row, Rows, Grammar, nestings_of, is_nullable, first_of, form, maybe, many, end, next, up, Extent, Matches, Whole, Front, stopped, ended, one, alternative, IsPredictive}
use Rattle.slicc_ast.specs.Matches.Matches.{present, absent, again, enough, inside, on, outside}
use Rattle.slicc_ast.proofs.KindSets.{in_left, in_right, of_subset, in_cond}
use Rattle.slicc_ast.proofs.Tables.{Agrees, agrees_at}

abbrev pub RowsStart : {F : Type 0} → Grammar F → Rows F → ℕ → Type 0
RowsStart g end kind = ⊥
RowsStart g (next row rows) kind = (has (first_of g row) kind ≡ true) ⊎ ((is_nullable g row ≡ true) × RowsStart g rows kind)
RowsStart g (up row rows) kind = (has (first_of g row) kind ≡ true) ⊎ ((is_nullable g row ≡ true) × RowsStart g rows kind)

-- by the table, the row and the rows behind it can begin with the kind
abbrev pub Starts : {F : Type 0} → Grammar F → Row F → Rows F → ℕ → Type 0
Starts g row rows kind = (has (first_of g row) kind ≡ true) ⊎ ((is_nullable g row ≡ true) × RowsStart g rows kind)

form_starts : {F : Type 0} (g : Grammar F) (n : F) (chosen row : Row F) (rows : Rows F) (kind : ℕ) → Agrees g n chosen → Starts g chosen (next row rows) kind → Starts g (form n row) rows kind
form_starts g n chosen row rows kind agrees starts =
    elim starts [
      | inl here ↦ inl (in_left (g.first n) (cond (g.may_be_empty n) (first_of g row) []) kind (of_subset (first_of g chosen) (g.first n) kind agrees.first here))
      | inr later ↦
          let empty = (agrees.empty later.0).0 in
          elim (later.1) [
            | inl next_one ↦ inl (in_right (g.first n) (cond (g.may_be_empty n) (first_of g row) []) kind (in_cond (g.may_be_empty n) (first_of g row) kind empty next_one))
            | inr behind ↦ inr (and_from (g.may_be_empty n) (is_nullable g row) empty behind.0, behind.1)
          ]
    ]

part_starts : {F : Type 0} (g : Grammar F) (part row : Row F) (rows : Rows F) (kind : ℕ) → Starts g part (next row rows) kind → Starts g (maybe part row) rows kind
part_starts g part row rows kind starts =
    elim starts [
      | inl here ↦ inl (in_left (first_of g part) (first_of g row) kind here)
      | inr later ↦ elim (later.1) [
        | inl next_one ↦ inl (in_right (first_of g part) (first_of g row) kind next_one)
        | inr behind ↦ inr behind
      ]
    ]

row_starts : {F : Type 0} (g : Grammar F) (part row : Row F) (rows : Rows F) (kind : ℕ) → Starts g row rows kind → Starts g (maybe part row) rows kind
row_starts g part row rows kind starts =
    elim starts [
      | inl here ↦ inl (in_right (first_of g part) (first_of g row) kind here)
      | inr behind ↦ inr behind
    ]

again_starts : {F : Type 0} (g : Grammar F) (part row : Row F) (rows : Rows F) (kind : ℕ) → Starts g part (next (many part row) rows) kind → Starts g (many part row) rows kind
again_starts g part row rows kind starts =
    elim starts [
      | inl here ↦ inl (in_left (first_of g part) (first_of g row) kind here)
      | inr later ↦ later.1
    ]

-- what matches a list begins with its first token by the table
pub starts_of : {F : Type 0} (g : Grammar F) → IsPredictive g → {x : Extent} {row : Row F} {rows : Rows F} {kind : ℕ} {tokens : List ℕ} {nestings : ℕ} → Matches g x row rows (kind ∷ tokens) nestings → Starts g row rows kind
starts_of g predictive (one is m) = inl is
starts_of g predictive {rows = rows} {kind = kind} (alternative {n = n} {row = row} place chosen at m) =
    form_starts g n chosen row rows kind (agrees_at g predictive n place chosen at) (starts_of g predictive m)
starts_of g predictive {rows = rows} {kind = kind} (present {part = part} {row = row} m) = part_starts g part row rows kind (starts_of g predictive m)
starts_of g predictive {rows = rows} {kind = kind} (absent {part = part} {row = row} m) = row_starts g part row rows kind (starts_of g predictive m)
starts_of g predictive {rows = rows} {kind = kind} (again {part = part} {row = row} m) = again_starts g part row rows kind (starts_of g predictive m)
starts_of g predictive {rows = rows} {kind = kind} (enough {part = part} {row = row} m) = row_starts g part row rows kind (starts_of g predictive m)
starts_of g predictive (inside is m) = inl is
starts_of g predictive (on m) = inr (refl, starts_of g predictive m)
starts_of g predictive (outside m) = inr (refl, starts_of g predictive m)

abbrev pub AreNullable : {F : Type 0} → Grammar F → Rows F → Type 0
AreNullable g end = Unit {0}
AreNullable g (next row rows) = (is_nullable g row ≡ true) × AreNullable g rows
AreNullable g (up row rows) = (is_nullable g row ≡ true) × AreNullable g rows

-- what is whole without a token may be empty by the table
pub nullable_of : {F : Type 0} (g : Grammar F) → IsPredictive g → {row : Row F} {rows : Rows F} {nestings : ℕ} → Matches g Whole row rows [] nestings → (is_nullable g row ≡ true) × AreNullable g rows
nullable_of g predictive ended = (refl, tt)
nullable_of g predictive (alternative {n = n} {row = row} place chosen at m) =
    let behind = nullable_of g predictive m in
    (and_from (g.may_be_empty n) (is_nullable g row) ((agrees_at g predictive n place chosen at).empty behind.0).0 behind.1.0, behind.1.1)
nullable_of g predictive (present m) = (nullable_of g predictive m).1
nullable_of g predictive (absent m) = nullable_of g predictive m
nullable_of g predictive (again m) = (nullable_of g predictive m).1
nullable_of g predictive (enough m) = nullable_of g predictive m
nullable_of g predictive (on m) = (refl, nullable_of g predictive m)
nullable_of g predictive (outside m) = (refl, nullable_of g predictive m)

-- no more nestings are open behind no token than before
pub at_most : {F : Type 0} (g : Grammar F) {row : Row F} {rows : Rows F} {nestings : ℕ} → Matches g Front row rows [] nestings → nestings ≤ nestings_of rows
at_most g {rows = rows} stopped = le_refl (nestings_of rows)
at_most g (alternative place chosen at m) = at_most g m
at_most g (present m) = at_most g m
at_most g (absent m) = at_most g m
at_most g (again m) = at_most g m
at_most g (enough m) = at_most g m
at_most g (on m) = at_most g m
at_most g (outside {rows = rows} m) = let below = at_most g m in omega arith

-- the nestings that are open at least behind no token
abbrev pub rows_floor : {F : Type 0} → Grammar F → Rows F → ℕ
rows_floor g end = 0
rows_floor g (next row rows) = cond (is_nullable g row) (rows_floor g rows) (nestings_of rows)
rows_floor g (up row rows) = cond (is_nullable g row) (rows_floor g rows) (nestings_of rows)

cond_le : (b : Bool) (x y : ℕ) → x ≤ y → cond b x y ≤ y
cond_le true x y le = le
cond_le false x y le = le_refl y

floor_le : {F : Type 0} (g : Grammar F) (rows : Rows F) → rows_floor g rows ≤ nestings_of rows
floor_le g end = le_refl 0
floor_le g (next row rows) = cond_le (is_nullable g row) (rows_floor g rows) (nestings_of rows) (floor_le g rows)
floor_le g (up row rows) = let below = cond_le (is_nullable g row) (rows_floor g rows) (nestings_of rows) (floor_le g rows) in omega arith

-- where a test implies another
cond_steps : (b c d : Bool) (x y z : ℕ) → (b ≡ true → c ≡ true) → x ≤ y → cond b (cond d x y) y ≤ z → cond (c && d) x y ≤ z
cond_steps true true d x y z implies le h = h
cond_steps true false d x y z implies le h = absurd (false≢true (implies refl))
cond_steps false c d x y z implies le h = le_trans (cond_le (c && d) x y le) h

part_floor : (b d : Bool) (x y z : ℕ) → x ≤ y → cond b (cond d x y) y ≤ z → cond d x y ≤ z
part_floor true d x y z le h = h
part_floor false d x y z le h = le_trans (cond_le d x y le) h

pub at_least : {F : Type 0} (g : Grammar F) → IsPredictive g → {row : Row F} {rows : Rows F} {nestings : ℕ} → Matches g Front row rows [] nestings → cond (is_nullable g row) (rows_floor g rows) (nestings_of rows) ≤ nestings
at_least g predictive {row = row} {rows = rows} stopped = cond_le (is_nullable g row) (rows_floor g rows) (nestings_of rows) (floor_le g rows)
at_least g predictive {rows = rows} {nestings = nestings} (alternative {n = n} {row = row} place chosen at m) =
    cond_steps (is_nullable g chosen) (g.may_be_empty n) (is_nullable g row) (rows_floor g rows) (nestings_of rows) nestings
    (λ nullable. ((agrees_at g predictive n place chosen at).empty nullable).0) (floor_le g rows) (at_least g predictive m)
at_least g predictive {rows = rows} {nestings = nestings} (present {part = part} {row = row} m) =
    part_floor (is_nullable g part) (is_nullable g row) (rows_floor g rows) (nestings_of rows) nestings (floor_le g rows) (at_least g predictive m)
at_least g predictive (absent m) = at_least g predictive m
at_least g predictive {rows = rows} {nestings = nestings} (again {part = part} {row = row} m) =
    part_floor (is_nullable g part) (is_nullable g row) (rows_floor g rows) (nestings_of rows) nestings (floor_le g rows) (at_least g predictive m)
at_least g predictive (enough m) = at_least g predictive m
at_least g predictive (on m) = at_least g predictive m
at_least g predictive (outside m) = at_least g predictive m

not_nullable_floor : (b : Bool) (x y z : ℕ) → b ≡ false → cond b x y ≤ z → y ≤ z
not_nullable_floor true x y z is h = absurd (false≢true (sym is))
not_nullable_floor false x y z is h = h

-- where a row isn't empty, all stay open
pub stays_open : {F : Type 0} (g : Grammar F) → IsPredictive g → {row : Row F} {rows : Rows F} {nestings : ℕ} → is_nullable g row ≡ false → Matches g Front row rows [] nestings → nestings ≡ nestings_of rows
stays_open g predictive {row = row} {rows = rows} {nestings = nestings} not_empty m =
    let low = not_nullable_floor (is_nullable g row) (rows_floor g rows) (nestings_of rows) nestings not_empty (at_least g predictive m) in
    let high = at_most g m in
    omega arith
