-- One token ahead decides: a row whose rows behind it begin with no token with which the row could go on stays such as a
-- reader goes into its parts, and there one way alone matches a list that begins with the token.
use Rattle.std.proofs.Common.{◌≡◌, ℕ, true, false, not, cond, List, [], ◌∷◌, ◌++◌, Some, sym, subst, ◌⊎◌, inl, inr}
use Rattle.std.specs.List.{slice_get}
use Rattle.std.proofs.lemmas.Bool.{and_parts, both_ways, not-true}
use Rattle.slicc_ast.specs.Prelude.{has, are_disjoint, Row, Rows, Grammar, is_nullable, first_of, further_of, form, maybe, many, nested, end, next, up, Extent, Matches, Whole, alternative, is_decided, IsPredictive}
use Rattle.slicc_ast.specs.Matches.Matches.{present, absent, again, enough}
use Rattle.slicc_ast.proofs.KindSets.{in_left, in_right, of_subset, of_disjoint, in_cond}
use Rattle.slicc_ast.proofs.Tables.{agrees_at, and_four, and_five, one_first, one_empty, one_row}
use Rattle.slicc_ast.proofs.Starts.{RowsStart, Starts, starts_of, nullable_of}

-- no token of these kinds begins the rows
abbrev pub IsApart : {F : Type 0} → Grammar F → List ℕ → Rows F → Type 0
IsApart g kinds rows = (kind : ℕ) → has kinds kind ≡ true → RowsStart g rows kind → ⊥

abbrev pub AreSound : {F : Type 0} → Grammar F → Rows F → Type 0
AreSound g end = Unit {0}
AreSound g (next row rows) = (is_decided g row ≡ true) × IsApart g (further_of g row) rows × AreSound g rows
AreSound g (up row rows) = (is_decided g row ≡ true) × IsApart g (further_of g row) rows × AreSound g rows

abbrev pub IsSound : {F : Type 0} → Grammar F → Row F → Rows F → Type 0
IsSound g row rows = (is_decided g row ≡ true) × IsApart g (further_of g row) rows × AreSound g rows

-- what begins a row that may be empty, or rows behind it
abbrev Behind : {F : Type 0} → Grammar F → Row F → Rows F → ℕ → Type 0
Behind g row rows kind = (has (first_of g row) kind ≡ true) ⊎ ((is_nullable g row ≡ true) × RowsStart g rows kind)

-- the parts of a form
decided_form : {F : Type 0} (g : Grammar F) (n : F) (row : Row F) → is_decided g (form n row) ≡ true → (are_disjoint (g.further n) (first_of g row) ≡ true) × (is_decided g row ≡ true)
decided_form g n row is = and_parts (are_disjoint (g.further n) (first_of g row)) (is_decided g row) is

form_apart : {F : Type 0} (g : Grammar F) (n : F) (row : Row F) (rows : Rows F) → IsSound g (form n row) rows → (kind : ℕ) → has (g.further n) kind ≡ true → Behind g row rows kind → ⊥
form_apart g n row rows sound kind is behind =
    elim behind [
      | inl here ↦ of_disjoint (g.further n) (first_of g row) kind (decided_form g n row sound.0).0 is here
      | inr later ↦ sound.1 kind (in_left (cond (is_nullable g row) (g.further n) []) (further_of g row) kind (in_cond (is_nullable g row) (g.further n) kind later.0 is)) later.1
    ]

pub into_form : {F : Type 0} (g : Grammar F) → IsPredictive g → (n : F) (place : ℕ) (chosen row : Row F) (rows : Rows F) → slice_get (g.alternatives n) place ≡ Some chosen → IsSound g (form n row) rows → IsSound g chosen (next row rows)
into_form g predictive n place chosen row rows at sound =
    let agrees = agrees_at g predictive n place chosen at in (
      agrees.decided,
      λ kind is behind. form_apart g n row rows sound kind (of_subset (further_of g chosen) (g.further n) kind agrees.further is) behind,
      (
        (decided_form g n row sound.0).1,
        λ kind is starts. sound.1 kind (in_right (cond (is_nullable g row) (g.further n) []) (further_of g row) kind is) starts,
        sound.2,
      ),
    )

-- the parts of an optional part
pub decided_maybe : {F : Type 0} (g : Grammar F) (part row : Row F) → is_decided g (maybe part row) ≡ true → (is_nullable g part ≡ false) × (are_disjoint (first_of g part) (first_of g row) ≡ true) × (are_disjoint (further_of g part) (first_of g row) ≡ true) × (is_decided g part ≡ true) × (is_decided g row ≡ true)
decided_maybe g part row is =
    let p = and_five (not (is_nullable g part)) (are_disjoint (first_of g part) (first_of g row)) (are_disjoint (further_of g part) (first_of g row)) (is_decided g part) (is_decided g row) is in
    (not-true (is_nullable g part) p.0, p.1, p.2, p.3, p.4)

-- what a part begins or could go on with begins nothing behind it
part_apart : {F : Type 0} (g : Grammar F) (kinds all : List ℕ) (row : Row F) (rows : Rows F) → are_disjoint kinds (first_of g row) ≡ true → IsApart g (cond (is_nullable g row) all [] ++ further_of g row) rows → (kind : ℕ) → has kinds kind ≡ true → has all kind ≡ true → Behind g row rows kind → ⊥
part_apart g kinds all row rows disjoint apart kind is among behind =
    elim behind [
      | inl here ↦ of_disjoint kinds (first_of g row) kind disjoint is here
      | inr later ↦ apart kind (in_left (cond (is_nullable g row) all []) (further_of g row) kind (in_cond (is_nullable g row) all kind later.0 among)) later.1
    ]

rest_apart : {F : Type 0} (g : Grammar F) (all : List ℕ) (row : Row F) (rows : Rows F) → IsApart g (cond (is_nullable g row) all [] ++ further_of g row) rows → IsApart g (further_of g row) rows
rest_apart g all row rows apart kind is starts = apart kind (in_right (cond (is_nullable g row) all []) (further_of g row) kind is) starts

pub into_rest : {F : Type 0} (g : Grammar F) (part row : Row F) (rows : Rows F) → IsSound g (maybe part row) rows → IsSound g row rows
into_rest g part row rows sound = ((decided_maybe g part row sound.0).4, rest_apart g (first_of g part ++ further_of g part) row rows sound.1, sound.2)

pub into_part : {F : Type 0} (g : Grammar F) (part row : Row F) (rows : Rows F) → IsSound g (maybe part row) rows → IsSound g part (next row rows)
into_part g part row rows sound =
    let parts = decided_maybe g part row sound.0 in (
      parts.3,
      λ kind is behind. part_apart g (further_of g part) (first_of g part ++ further_of g part) row rows parts.2 sound.1 kind is (in_right (first_of g part) (further_of g part) kind is) behind,
      into_rest g part row rows sound,
    )

pub decided_many : {F : Type 0} (g : Grammar F) (part row : Row F) → is_decided g (many part row) ≡ true → (is_nullable g part ≡ false) × (are_disjoint (first_of g part) (first_of g row) ≡ true) × (are_disjoint (further_of g part) (first_of g part ++ first_of g row) ≡ true) × (is_decided g part ≡ true) × (is_decided g row ≡ true)
decided_many g part row is =
    let p = and_five (not (is_nullable g part)) (are_disjoint (first_of g part) (first_of g row)) (are_disjoint (further_of g part) (first_of g part ++ first_of g row)) (is_decided g part) (is_decided g row) is in
    (not-true (is_nullable g part) p.0, p.1, p.2, p.3, p.4)

pub into_end : {F : Type 0} (g : Grammar F) (part row : Row F) (rows : Rows F) → IsSound g (many part row) rows → IsSound g row rows
into_end g part row rows sound = ((decided_many g part row sound.0).4, rest_apart g (first_of g part ++ further_of g part) row rows sound.1, sound.2)

pub into_again : {F : Type 0} (g : Grammar F) (part row : Row F) (rows : Rows F) → IsSound g (many part row) rows → IsSound g part (next (many part row) rows)
into_again g part row rows sound =
    let parts = decided_many g part row sound.0 in (
      parts.3,
      λ kind is behind. elim behind [
        | inl here ↦ of_disjoint (further_of g part) (first_of g part ++ first_of g row) kind parts.2 is here
        | inr later ↦ sound.1 kind (in_left (cond (is_nullable g row) (first_of g part ++ further_of g part) []) (further_of g row) kind (in_cond (is_nullable g row) (first_of g part ++ further_of g part) kind later.0 (in_right (first_of g part) (further_of g part) kind is))) later.1
      ],
      sound,
    )

pub into_nested : {F : Type 0} (g : Grammar F) (kinds : List ℕ) (part row : Row F) (rows : Rows F) → IsSound g (nested kinds part row) rows → IsSound g part (up row rows)
into_nested g kinds part row rows sound =
    let parts = and_four (not (is_nullable g part)) (are_disjoint (further_of g part) (first_of g row)) (is_decided g part) (is_decided g row) sound.0 in (
      parts.2,
      λ kind is behind. part_apart g (further_of g part) (further_of g part) row rows parts.1 sound.1 kind is is behind,
      (parts.3, rest_apart g (further_of g part) row rows sound.1, sound.2),
    )

module _ {F : Type 0} (g : Grammar F) (predictive : IsPredictive g) where
  -- an optional part is there where the token ahead is its
  pub goes_in : {x : Extent} (part row : Row F) (rows : Rows F) (kind : ℕ) {tokens : List ℕ} {nestings : ℕ} → IsSound g (maybe part row) rows → has (first_of g part) kind ≡ true → Matches g x (maybe part row) rows (kind ∷ tokens) nestings → Matches g x part (next row rows) (kind ∷ tokens) nestings
  goes_in part row rows kind sound ahead (present m) = m
  goes_in part row rows kind sound ahead (absent m) =
      absurd (part_apart g (first_of g part) (first_of g part ++ further_of g part) row rows (decided_maybe g part row sound.0).1 sound.1 kind ahead (in_left (first_of g part) (further_of g part) kind ahead) (starts_of g predictive m))

  pub goes_by : {x : Extent} (part row : Row F) (rows : Rows F) (kind : ℕ) {tokens : List ℕ} {nestings : ℕ} → IsSound g (maybe part row) rows → has (first_of g part) kind ≡ false → Matches g x (maybe part row) rows (kind ∷ tokens) nestings → Matches g x row rows (kind ∷ tokens) nestings
  goes_by part row rows kind sound ahead (absent m) = m
  goes_by part row rows kind sound ahead (present m) =
      let starts : Starts g part (next row rows) kind = starts_of g predictive m in
      elim starts [
        | inl here ↦ absurd (both_ways (has (first_of g part) kind) ahead here)
        | inr later ↦ absurd (both_ways (is_nullable g part) (decided_maybe g part row sound.0).0 later.0)
      ]

  pub goes_again : {x : Extent} (part row : Row F) (rows : Rows F) (kind : ℕ) {tokens : List ℕ} {nestings : ℕ} → IsSound g (many part row) rows → has (first_of g part) kind ≡ true → Matches g x (many part row) rows (kind ∷ tokens) nestings → Matches g x part (next (many part row) rows) (kind ∷ tokens) nestings
  goes_again part row rows kind sound ahead (again m) = m
  goes_again part row rows kind sound ahead (enough m) =
      absurd (part_apart g (first_of g part) (first_of g part ++ further_of g part) row rows (decided_many g part row sound.0).1 sound.1 kind ahead (in_left (first_of g part) (further_of g part) kind ahead) (starts_of g predictive m))

  pub goes_past : {x : Extent} (part row : Row F) (rows : Rows F) (kind : ℕ) {tokens : List ℕ} {nestings : ℕ} → IsSound g (many part row) rows → has (first_of g part) kind ≡ false → Matches g x (many part row) rows (kind ∷ tokens) nestings → Matches g x row rows (kind ∷ tokens) nestings
  goes_past part row rows kind sound ahead (enough m) = m
  goes_past part row rows kind sound ahead (again m) =
      let starts : Starts g part (next (many part row) rows) kind = starts_of g predictive m in
      elim starts [
        | inl here ↦ absurd (both_ways (has (first_of g part) kind) ahead here)
        | inr later ↦ absurd (both_ways (is_nullable g part) (decided_many g part row sound.0).0 later.0)
      ]

  -- the place of an alternative that matches is that of the one that begins with the token ahead
  pub place_chosen : (n : F) (place other : ℕ) (choice chosen row : Row F) (rows : Rows F) (kind : ℕ) → IsSound g (form n row) rows → slice_get (g.alternatives n) place ≡ Some choice → slice_get (g.alternatives n) other ≡ Some chosen → has (first_of g choice) kind ≡ true → Starts g chosen (next row rows) kind → place ≡ other
  place_chosen n place other choice chosen row rows kind sound at also ahead starts =
      elim starts [
        | inl here ↦ one_first g predictive n place other choice chosen kind at also ahead here
        | inr later ↦
            let further = of_subset (g.first n) (g.further n) kind ((agrees_at g predictive n other chosen also).empty later.0).1 (of_subset (first_of g choice) (g.first n) kind (agrees_at g predictive n place choice at).first ahead) in
            absurd (form_apart g n row rows sound kind further later.1)
      ]

  -- and where none begins with it, that of the one that may be empty
  pub place_by_default : (n : F) (place other : ℕ) (choice chosen row : Row F) (rows : Rows F) (kind : ℕ) → slice_get (g.alternatives n) place ≡ Some choice → slice_get (g.alternatives n) other ≡ Some chosen → is_nullable g choice ≡ true → has (g.first n) kind ≡ false → Starts g chosen (next row rows) kind → place ≡ other
  place_by_default n place other choice chosen row rows kind at also empty ahead starts =
      elim starts [
        | inl here ↦ absurd (both_ways (has (g.first n) kind) ahead (of_subset (first_of g chosen) (g.first n) kind (agrees_at g predictive n other chosen also).first here))
        | inr later ↦ one_empty g predictive n place other choice chosen at also empty later.0
      ]

  pub goes_chosen : {x : Extent} (n : F) (place : ℕ) (choice row : Row F) (rows : Rows F) (kind : ℕ) {tokens : List ℕ} {nestings : ℕ} → IsSound g (form n row) rows → slice_get (g.alternatives n) place ≡ Some choice → has (first_of g choice) kind ≡ true → Matches g x (form n row) rows (kind ∷ tokens) nestings → Matches g x choice (next row rows) (kind ∷ tokens) nestings
  goes_chosen {x} n place choice row rows kind {tokens} {nestings} sound at ahead (alternative other chosen also m) =
      let same = place_chosen n place other choice chosen row rows kind sound at also ahead (starts_of g predictive m) in
      subst (λ r. Matches g x r (next row rows) (kind ∷ tokens) nestings) (sym (one_row g n place other choice chosen at also same)) m

  pub goes_by_default : {x : Extent} (n : F) (place : ℕ) (choice row : Row F) (rows : Rows F) (kind : ℕ) {tokens : List ℕ} {nestings : ℕ} → slice_get (g.alternatives n) place ≡ Some choice → is_nullable g choice ≡ true → has (g.first n) kind ≡ false → Matches g x (form n row) rows (kind ∷ tokens) nestings → Matches g x choice (next row rows) (kind ∷ tokens) nestings
  goes_by_default {x} n place choice row rows kind {tokens} {nestings} at empty ahead (alternative other chosen also m) =
      let same = place_by_default n place other choice chosen row rows kind at also empty ahead (starts_of g predictive m) in
      subst (λ r. Matches g x r (next row rows) (kind ∷ tokens) nestings) (sym (one_row g n place other choice chosen at also same)) m

  -- a form that isn't empty, and none of whose alternatives begins with the token ahead, begins with no list from there
  pub goes_nowhere : {x : Extent} (n : F) (row : Row F) (rows : Rows F) (kind : ℕ) {tokens : List ℕ} {nestings : ℕ} → g.may_be_empty n ≡ false → has (g.first n) kind ≡ false → Matches g x (form n row) rows (kind ∷ tokens) nestings → ⊥
  goes_nowhere n row rows kind not_empty ahead (alternative other chosen also m) =
      let starts : Starts g chosen (next row rows) kind = starts_of g predictive m in
      elim starts [
        | inl here ↦ both_ways (has (g.first n) kind) ahead (of_subset (first_of g chosen) (g.first n) kind (agrees_at g predictive n other chosen also).first here)
        | inr later ↦ both_ways (g.may_be_empty n) not_empty ((agrees_at g predictive n other chosen also).empty later.0).0
      ]

  not_both_of : (tokens : List ℕ) {nestings other : ℕ} {behind : Rows F} (part row : Row F) (rows : Rows F) → IsApart g (cond (is_nullable g row) (first_of g part ++ further_of g part) [] ++ further_of g row) rows → is_nullable g part ≡ false → are_disjoint (first_of g part) (first_of g row) ≡ true → Matches g Whole part behind tokens nestings → Matches g Whole row rows tokens other → ⊥
  not_both_of [] part row rows apart not_empty disjoint m k = both_ways (is_nullable g part) not_empty (nullable_of g predictive m).0
  not_both_of (kind ∷ tokens) {behind = behind} part row rows apart not_empty disjoint m k =
      let starts : Starts g part behind kind = starts_of g predictive m in
      elim starts [
        | inl here ↦ part_apart g (first_of g part) (first_of g part ++ further_of g part) row rows disjoint apart kind here (in_left (first_of g part) (further_of g part) kind here) (starts_of g predictive k)
        | inr later ↦ both_ways (is_nullable g part) not_empty later.0
      ]

  -- an optional part isn't both there and not
  pub not_both : {tokens : List ℕ} {nestings other : ℕ} (part row : Row F) (rows : Rows F) → IsSound g (maybe part row) rows → Matches g Whole part (next row rows) tokens nestings → Matches g Whole row rows tokens other → ⊥
  not_both {tokens} {nestings} {other} part row rows sound m k = not_both_of tokens part row rows sound.1 (decided_maybe g part row sound.0).0 (decided_maybe g part row sound.0).1 m k

  pub not_both_many : {tokens : List ℕ} {nestings other : ℕ} (part row : Row F) (rows : Rows F) → IsSound g (many part row) rows → Matches g Whole part (next (many part row) rows) tokens nestings → Matches g Whole row rows tokens other → ⊥
  not_both_many {tokens} {nestings} {other} part row rows sound m k = not_both_of tokens part row rows sound.1 (decided_many g part row sound.0).0 (decided_many g part row sound.0).1 m k
