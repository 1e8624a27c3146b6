-- What matches one row matches another: the steps by which one table's rows are turned into another's, between rows with
-- the same rows behind them.
use Rattle.std.proofs.Common.{◌≡◌, ℕ, zero, suc, true, List, [], ◌∷◌, Option, Some, None, refl, subst, ap, ◌⊎◌, inl, inr, arith}
use Rattle.std.specs.List.{slice_get}
use Rattle.std.proofs.lemmas.Option.{same_Some}
use Rattle.slicc_ast.specs.Prelude.{has, is_subset, Row, Rows, Grammar, nestings_of, form, maybe, many, nested, next, up, Extent, Matches, Front, stopped, ended, one, alternative, joined, Covers}
use Rattle.slicc_ast.specs.Grammar.Row.{token}
use Rattle.slicc_ast.specs.Matches.Matches.{present, absent, again, enough, inside, on, outside}
use Rattle.slicc_ast.proofs.KindSets.{of_subset}
use Rattle.slicc_ast.proofs.Joining.{merge, part}
use Rattle.slicc_ast.proofs.Rewriting.{fold}

-- a statement of each row of a list
abbrev pub Each : {X : Type 0} → (X → Type 0) → List X → Type 0
Each P [] = Unit {0}
Each P (x ∷ xs) = P x × Each P xs

each_at : {X : Type 0} (P : X → Type 0) (xs : List X) (place : ℕ) (x : X) → Each P xs → slice_get xs place ≡ Some x → P x
each_at {X} P [] place x each at = absurd (let no : ◌≡◌ {A = Option X} None (Some x) = at in grind arith)
each_at P (y ∷ ys) zero x each at = subst P (same_Some y x at) each.0
each_at P (y ∷ ys) (suc place) x each at = each_at P ys place x each.1 at

each_from : {X : Type 0} (P : X → Type 0) (xs : List X) → ((place : ℕ) (x : X) → slice_get xs place ≡ Some x → P x) → Each P xs
each_from P [] all = tt
each_from P (y ∷ ys) all = (all 0 y refl, each_from P ys (λ place x at. all (suc place) x at))

-- rows with a place for one, and others behind it
data Frames (F : Type 0) : Type 0 where
  none : Frames F
  next_frame : Row F → Frames F → Frames F
  up_frame : Row F → Frames F → Frames F

abbrev fill : {F : Type 0} → Frames F → Row F → Rows F → Rows F
fill none row rows = next row rows
fill (next_frame frame frames) row rows = next frame (fill frames row rows)
fill (up_frame frame frames) row rows = up frame (fill frames row rows)

data IsFilled {F : Type 0} (tail : Row F) (rows : Rows F) : Frames F → Rows F → Type 0 where
  at_place : IsFilled tail rows none (next tail rows)
  in_next : (frame : Row F) {frames : Frames F} {all : Rows F} → IsFilled tail rows frames all → IsFilled tail rows (next_frame frame frames) (next frame all)
  in_up : (frame : Row F) {frames : Frames F} {all : Rows F} → IsFilled tail rows frames all → IsFilled tail rows (up_frame frame frames) (up frame all)

filled_open : {F : Type 0} {tail : Row F} {rows all : Rows F} {frames : Frames F} (to : Row F) → IsFilled tail rows frames all → nestings_of (fill frames to rows) ≡ nestings_of all
filled_open to at_place = refl
filled_open to (in_next frame f) = filled_open to f
filled_open to (in_up frame f) = ap suc (filled_open to f)

module _ {F : Type 0} (g : Grammar F) where
  abbrev pub To : Rows F → Row F → Row F → Type 0
  To rows row to = (x : Extent) (tokens : List ℕ) (nestings : ℕ) → Matches g x row rows tokens nestings → Matches g x to rows tokens nestings

  -- a list matches as far as the row at the place, or doesn't come to it
  data Reach (x : Extent) (row : Row F) (frames : Frames F) (tail : Row F) (rows : Rows F) (tokens : List ℕ) (nestings : ℕ) : Type 0 where
    untouched : ((to : Row F) → Matches g x row (fill frames to rows) tokens nestings) → Reach x row frames tail rows tokens nestings
    touched : (left : List ℕ) → Matches g x tail rows left nestings → ((to : Row F) → Matches g x to rows left nestings → Matches g x row (fill frames to rows) tokens nestings) → Reach x row frames tail rows tokens nestings

  further : {x : Extent} {row from : Row F} {frames others : Frames F} {tail : Row F} {rows : Rows F} {tokens tokens_to : List ℕ} {nestings : ℕ} → ((to : Row F) → Matches g x from (fill others to rows) tokens nestings → Matches g x row (fill frames to rows) tokens_to nestings) → Reach x from others tail rows tokens nestings → Reach x row frames tail rows tokens_to nestings
  further step (untouched all) = untouched (λ to. step to (all to))
  further step (touched left m all) = touched left m (λ to n. step to (all to n))

  reach : {x : Extent} {row tail : Row F} {rows all : Rows F} {frames : Frames F} {tokens : List ℕ} {nestings : ℕ} → IsFilled tail rows frames all → Matches g x row all tokens nestings → Reach x row frames tail rows tokens nestings
  reach {row = row} {rows = rows} {frames = frames} f stopped = untouched (λ to. subst (λ n. Matches g Front row (fill frames to rows) [] n) (filled_open to f) stopped)
  reach f ended = elim f [ ]
  reach f (one is m) = further (λ to n. one is n) (reach f m)
  reach f (alternative {row = row} place chosen at m) = further (λ to n. alternative place chosen at n) (reach (in_next row f) m)
  reach f (present {row = row} m) = further (λ to n. present n) (reach (in_next row f) m)
  reach f (absent m) = further (λ to n. absent n) (reach f m)
  reach f (again {part = inner} {row = row} m) = further (λ to n. again n) (reach (in_next (many inner row) f) m)
  reach f (enough m) = further (λ to n. enough n) (reach f m)
  reach f (inside {row = row} is m) = further (λ to n. inside is n) (reach (in_up row f) m)
  reach at_place (on {tokens = tokens} m) = touched tokens m (λ to n. on n)
  reach (in_next frame f) (on m) = further (λ to n. on n) (reach f m)
  reach (in_up frame f) (outside m) = further (λ to n. outside n) (reach f m)

  pub then_to : {rows : Rows F} {row between to : Row F} → To rows row between → To rows between to → To rows row to
  then_to f h x tokens nestings m = h x tokens nestings (f x tokens nestings m)

  pub same_to : (rows : Rows F) (row : Row F) → To rows row row
  same_to rows row x tokens nestings m = m

  pub fold_to : {rows : Rows F} (n : F) (place : ℕ) {chosen row : Row F} → slice_get (g.alternatives n) place ≡ Some chosen → To rows (joined chosen row) (form n row)
  fold_to {rows} n place {chosen} {row} at x tokens nestings m = fold g n place chosen row rows at m

  pub form_to : {rows : Rows F} (n : F) (row to : Row F) → Each (λ a. To rows (joined a row) to) (g.alternatives n) → To rows (form n row) to
  form_to n row to each x tokens nestings stopped = stopped
  form_to {rows} n row to each x tokens nestings (alternative place chosen at m) =
      each_at (λ a. To rows (joined a row) to) (g.alternatives n) place chosen each at x tokens nestings (merge g chosen row rows m)

  pub token_to : {rows : Rows F} (kinds : List ℕ) {row to : Row F} → To rows row to → To rows (token kinds row) (token kinds to)
  token_to kinds f x tokens nestings stopped = stopped
  token_to kinds f x tokens nestings (one {tokens = later} is m) = one is (f x later nestings m)

  pub wider_to : {rows : Rows F} (kinds all : List ℕ) (row : Row F) → is_subset kinds all ≡ true → To rows (token kinds row) (token all row)
  wider_to kinds all row sub x tokens nestings stopped = stopped
  wider_to kinds all row sub x tokens nestings (one {kind = kind} is m) = one (of_subset kinds all kind sub is) m

  -- a token of some kinds is of one set of them or of another
  pub either_to : {rows : Rows F} (all kinds others : List ℕ) (row to : Row F) → ((kind : ℕ) → has all kind ≡ true → (has kinds kind ≡ true) ⊎ (has others kind ≡ true)) → To rows (token kinds row) to → To rows (token others row) to → To rows (token all row) to
  either_to all kinds others row to split f h x tokens nestings stopped = f x [] _ stopped
  either_to all kinds others row to split f h x tokens nestings (one {kind = kind} {tokens = later} is m) =
      elim (split kind is) [
        | inl this ↦ f x (kind ∷ later) nestings (one this m)
        | inr that ↦ h x (kind ∷ later) nestings (one that m)
      ]

  pub maybe_to : {rows : Rows F} (inner row to : Row F) → To rows (joined inner row) to → To rows row to → To rows (maybe inner row) to
  maybe_to inner row to f h x tokens nestings stopped = stopped
  maybe_to {rows} inner row to f h x tokens nestings (present m) = f x tokens nestings (merge g inner row rows m)
  maybe_to inner row to f h x tokens nestings (absent m) = h x tokens nestings m

  pub to_present : {rows : Rows F} (inner row : Row F) → To rows (joined inner row) (maybe inner row)
  to_present {rows} inner row x tokens nestings m = present (part g inner row rows m)

  pub to_absent : {rows : Rows F} (inner row : Row F) → To rows row (maybe inner row)
  to_absent inner row x tokens nestings m = absent m

  pub many_to : {rows : Rows F} (inner row to : Row F) → To rows (joined inner (many inner row)) to → To rows row to → To rows (many inner row) to
  many_to inner row to f h x tokens nestings stopped = stopped
  many_to {rows} inner row to f h x tokens nestings (again m) = f x tokens nestings (merge g inner (many inner row) rows m)
  many_to inner row to f h x tokens nestings (enough m) = h x tokens nestings m

  pub to_again : {rows : Rows F} (inner row : Row F) → To rows (joined inner (many inner row)) (many inner row)
  to_again {rows} inner row x tokens nestings m = again (part g inner (many inner row) rows m)

  pub to_enough : {rows : Rows F} (inner row : Row F) → To rows row (many inner row)
  to_enough inner row x tokens nestings m = enough m

  pub nested_to : {rows : Rows F} (kinds : List ℕ) (inner other row : Row F) → To (up row rows) inner other → To rows (nested kinds inner row) (nested kinds other row)
  nested_to kinds inner other row f x tokens nestings stopped = stopped
  nested_to kinds inner other row f x tokens nestings (inside {tokens = later} is m) = inside is (f x later nestings m)

  end_by : {rows : Rows F} (front from to : Row F) → To rows from to → (x : Extent) (tokens : List ℕ) (nestings : ℕ) → Reach x front none from rows tokens nestings → Matches g x (joined front to) rows tokens nestings
  end_by {rows} front from to f x tokens nestings (untouched all) = merge g front to rows (all to)
  end_by {rows} front from to f x tokens nestings (touched left m all) = merge g front to rows (all to (f x left nestings m))

  pub end_to : {rows : Rows F} (front from to : Row F) → To rows from to → To rows (joined front from) (joined front to)
  end_to {rows} front from to f x tokens nestings m = end_by front from to f x tokens nestings (reach at_place (part g front from rows m))

  -- by cases of what stands at the end of a row
  form_reached : {rows : Rows F} (front : Row F) (n : F) (row to other : Row F) → To rows (joined front other) to → Each (λ a. To rows (joined front (joined a row)) to) (g.alternatives n) → (x : Extent) (tokens left : List ℕ) (nestings : ℕ) → ((behind : Row F) → Matches g x behind rows left nestings → Matches g x front (next behind rows) tokens nestings) → Matches g x (form n row) rows left nestings → Matches g x to rows tokens nestings
  form_reached {rows} front n row to other default each x tokens left nestings all stopped = default x tokens nestings (merge g front other rows (all other stopped))
  form_reached {rows} front n row to other default each x tokens left nestings all (alternative place chosen at m) =
      each_at (λ a. To rows (joined front (joined a row)) to) (g.alternatives n) place chosen each at x tokens nestings
      (merge g front (joined chosen row) rows (all (joined chosen row) (merge g chosen row rows m)))

  form_by : {rows : Rows F} (front : Row F) (n : F) (row to other : Row F) → To rows (joined front other) to → Each (λ a. To rows (joined front (joined a row)) to) (g.alternatives n) → (x : Extent) (tokens : List ℕ) (nestings : ℕ) → Reach x front none (form n row) rows tokens nestings → Matches g x to rows tokens nestings
  form_by {rows} front n row to other default each x tokens nestings (untouched all) = default x tokens nestings (merge g front other rows (all other))
  form_by front n row to other default each x tokens nestings (touched left k all) = form_reached front n row to other default each x tokens left nestings all k

  pub form_end_to : {rows : Rows F} (front : Row F) (n : F) (row to other : Row F) → To rows (joined front other) to → Each (λ a. To rows (joined front (joined a row)) to) (g.alternatives n) → To rows (joined front (form n row)) to
  form_end_to {rows} front n row to other default each x tokens nestings m = form_by front n row to other default each x tokens nestings (reach at_place (part g front (form n row) rows m))

  maybe_reached : {rows : Rows F} (front inner row to : Row F) → To rows (joined front (joined inner row)) to → To rows (joined front row) to → (x : Extent) (tokens left : List ℕ) (nestings : ℕ) → ((behind : Row F) → Matches g x behind rows left nestings → Matches g x front (next behind rows) tokens nestings) → Matches g x (maybe inner row) rows left nestings → Matches g x to rows tokens nestings
  maybe_reached {rows} front inner row to f h x tokens left nestings all stopped = h x tokens nestings (merge g front row rows (all row stopped))
  maybe_reached {rows} front inner row to f h x tokens left nestings all (present m) =
      f x tokens nestings (merge g front (joined inner row) rows (all (joined inner row) (merge g inner row rows m)))
  maybe_reached {rows} front inner row to f h x tokens left nestings all (absent m) = h x tokens nestings (merge g front row rows (all row m))

  maybe_by : {rows : Rows F} (front inner row to : Row F) → To rows (joined front (joined inner row)) to → To rows (joined front row) to → (x : Extent) (tokens : List ℕ) (nestings : ℕ) → Reach x front none (maybe inner row) rows tokens nestings → Matches g x to rows tokens nestings
  maybe_by {rows} front inner row to f h x tokens nestings (untouched all) = h x tokens nestings (merge g front row rows (all row))
  maybe_by front inner row to f h x tokens nestings (touched left k all) = maybe_reached front inner row to f h x tokens left nestings all k

  pub maybe_end_to : {rows : Rows F} (front inner row to : Row F) → To rows (joined front (joined inner row)) to → To rows (joined front row) to → To rows (joined front (maybe inner row)) to
  maybe_end_to {rows} front inner row to f h x tokens nestings m = maybe_by front inner row to f h x tokens nestings (reach at_place (part g front (maybe inner row) rows m))

-- a form of the one table is covered by that of the other
abbrev pub IsFormCovered : {F : Type 0} → Grammar F → F → Row F → Type 0
IsFormCovered {F} other n chosen = (row : Row F) (rows : Rows F) → To other rows (joined chosen row) (form n row)

pub covers_by : {F : Type 0} (g other : Grammar F) → ((n : F) → Each (IsFormCovered other n) (g.alternatives n)) → Covers g other
covers_by g other each n place chosen at x row rows tokens nestings m =
    each_at (IsFormCovered other n) (g.alternatives n) place chosen (each n) at row rows x tokens nestings (merge other chosen row rows m)

pub covered_by_itself : {F : Type 0} (other : Grammar F) (n : F) → Each (IsFormCovered other n) (other.alternatives n)
covered_by_itself other n = each_from (IsFormCovered other n) (other.alternatives n) (λ place chosen at row rows. fold_to other n place at)
