-- The row that tables answer for a state and an event is that of the first written transition for them, where there is one.
use Rattle.std.proofs.Common.{◌≡◌, ◌∙◌, ◌+◌, ℕ, suc, Bool, true, false, cond, Option, None, Some, List, [], ◌∷◌, ◌++◌, find, slice_get, refl, sym, ap, arith}
use Rattle.ruby_symbols.specs.declared.machine.TransitionSymbol.{TransitionSymbol}
use Rattle.slicc_plan.specs.declared.row.Row.{Row}
use Rattle.slicc_plan.specs.Buffers.{listed}
use Rattle.slicc_plan.specs.Numbering.{row_of, rows_from}
use Rattle.body_meaning.specs.Prelude.{is_for}

-- the row of a written transition that is the first for them
pub record FirstRow (ts : List TransitionSymbol) (state event number : ℕ) (row : Row) : Type 0 where
  pub place : ℕ
  pub transition : TransitionSymbol
  pub at : slice_get ts place ≡ Some transition
  pub found : find (is_for state event) ts ≡ Some transition
  pub is : row ≡ row_of state event (number + place) transition

abbrev pub IsFirst : List TransitionSymbol → (state event number : ℕ) → Option Row → Type 0
IsFirst ts state event number None = find (is_for state event) ts ≡ None
IsFirst ts state event number (Some row) = FirstRow ts state event number row

module _ (state event : ℕ) where
  later_row : (t : TransitionSymbol) (ts : List TransitionSymbol) (number : ℕ) (row : Row) → is_for state event t ≡ false → FirstRow ts state event (number + 1) row
      → FirstRow (t ∷ ts) state event number row
  later_row t ts number row not r =
      let same : number + 1 + r.place ≡ number + suc r.place = omega arith in
      record {
        place = suc r.place;
        transition = r.transition;
        at = r.at;
        found = ap (λ b. cond b (Some t) (find (is_for state event) ts)) not ∙ r.found;
        is = r.is ∙ ap (λ k. row_of state event k r.transition) same;
      }

  later : (t : TransitionSymbol) (ts : List TransitionSymbol) (number : ℕ) (o : Option Row) → is_for state event t ≡ false → IsFirst ts state event (number + 1) o → IsFirst (t ∷ ts) state event number o
  later t ts number None not r = ap (λ b. cond b (Some t) (find (is_for state event) ts)) not ∙ r
  later t ts number (Some row) not r = later_row t ts number row not r

  here : (t : TransitionSymbol) (ts : List TransitionSymbol) (number : ℕ) (o : Option Row) (rest : List Row) → is_for state event t ≡ true → row_of state event number t ∷ rest ≡ listed o
      → IsFirst (t ∷ ts) state event number o
  here t ts number None rest is same = absurd (cc same)
  here t ts number (Some row) rest is same =
      let first : row_of state event number t ≡ row = cc same in
      let none : number ≡ number + 0 = omega arith in
      record {
        place = 0;
        transition = t;
        at = refl;
        found = ap (λ b. cond b (Some t) (find (is_for state event) ts)) is;
        is = sym first ∙ ap (λ k. row_of state event k t) none;
      }

  pub first_of : (ts : List TransitionSymbol) (number : ℕ) (o : Option Row) → rows_from state event number ts ≡ listed o → IsFirst ts state event number o
  first_of [] number None same = refl
  first_of [] number (Some row) same = absurd (cc same)
  first_of (t ∷ ts) number o same = by (is_for state event t) refl (λ rest. first_of ts (number + 1) o rest)
    where
      by : (b : Bool) → is_for state event t ≡ b → (rows_from state event (number + 1) ts ≡ listed o → IsFirst ts state event (number + 1) o) → IsFirst (t ∷ ts) state event number o
      by true is next =
          here t ts number o (rows_from state event (number + 1) ts) is
          (sym (ap (λ b. cond b (row_of state event number t ∷ []) [] ++ rows_from state event (number + 1) ts) is) ∙ same)
      by false is next =
          later t ts number o is (next (sym (ap (λ b. cond b (row_of state event number t ∷ []) [] ++ rows_from state event (number + 1) ts) is) ∙ same))
