-- One change of a log: what it makes of the tables, and of the fields that are kept for each line of each of them.
use Rattle.std.proofs.Common.{◌≡◌, ◌≢◌, ℕ, zero, suc, Bool, cond, ◌&&◌, eqb, List, [], ◌∷◌, set, Option, None, Some, IsSomeAnd, Result, Ok, Err, IsOk, slice_get, refl, sym, ap, subst, ◌∙◌, inl, inr}
use mathlib.Core.Bool.{false≢true}
use Rattle.std.proofs.lemmas.Bool.{cases_eq, eq-eqb, ne_eqb}
use Rattle.std.specs.Option.{IfSome, option_and_then, option_map}
use Rattle.ruby_value.specs.declared.fault.Fault.{Fault}
use Rattle.ruby_value.specs.declared.value.Value.{Value}
use Rattle.ctl_face.specs.Prelude.{Table}
use Rattle.ctl_tables.specs.declared.change.TableChange.{TableChange}
use Rattle.ctl_tables.specs.Prelude.{after_changes, with_change, with_change_in, or_same, CanChange, CanEdit, HasFieldOf, IsTable, Replays, edit_in, kept_in, Frame, frame_at, frame_of}
use Rattle.ctl_tables.proofs.Effects.{after_edit, kept_after}
use Rattle.ctl_tables.proofs.Stays.{frame_default, stays_after}

module _ {X : Type 0} where
  pub got_same : (xs : List X) (i : ℕ) (x y : X) → slice_get xs i ≡ Some y → slice_get (set xs i x) i ≡ Some x
  got_same [] i x y is = let wrong : None ≡ Some y = is in absurd (cc)
  got_same (z ∷ zs) zero x y is = refl
  got_same (z ∷ zs) (suc i) x y is = got_same zs i x y is

  pub got_other : (xs : List X) (i j : ℕ) (x : X) → j ≢ i → slice_get (set xs i x) j ≡ slice_get xs j
  got_other [] i j x apart = refl
  got_other (z ∷ zs) zero zero x apart = absurd (apart refl)
  got_other (z ∷ zs) zero (suc j) x apart = refl
  got_other (z ∷ zs) (suc i) zero x apart = refl
  got_other (z ∷ zs) (suc i) (suc j) x apart = got_other zs i j x (λ e. apart (ap suc e))

-- the table before and after a change that can be made
pub record IsStep (c : TableChange) (ts : List Table) : Type 0 where
  pub before : Table
  pub after : Table
  pub is : slice_get ts c.table ≡ Some before
  pub edited : edit_in c.edit c.line before ≡ Ok after
  pub made : with_change c ts ≡ set ts c.table after
  pub field : HasFieldOf c.edit (kept_in before c.line)

by_result : (c : TableChange) (ts : List Table) (t : Table) → slice_get ts c.table ≡ Some t → HasFieldOf c.edit (kept_in t c.line) → (r : Result Table Fault) → edit_in c.edit c.line t ≡ r → IsOk r → IsStep c ts
by_result c ts t is has (Ok new) e ok = record {
  before = t;
  after = new;
  is = is;
  edited = e;
  made = ap (with_change_in c ts) is ∙ ap (λ r. set ts c.table (or_same t r)) e;
  field = has;
}
by_result c ts t is has (Err x) e wrong = absurd (false≢true wrong)

by_table : (c : TableChange) (ts : List Table) (o : Option Table) → slice_get ts c.table ≡ o → IsSomeAnd o (CanEdit c) → IsStep c ts
by_table c ts None is can = absurd can
by_table c ts (Some t) is can = by_result c ts t is can.1 (edit_in c.edit c.line t) refl can.0

pub step_of : (c : TableChange) (ts : List Table) → CanChange c ts → IsStep c ts
step_of c ts can = by_table c ts (slice_get ts c.table) refl can

abbrev pub kept_at : List Table → ℕ → ℕ → Option (List Value)
kept_at ts n line = option_and_then (λ t. kept_in t line) (slice_get ts n)

abbrev pub default_at : List Table → ℕ → Option (List Value)
default_at ts n = option_and_then frame_default (frame_at ts n)

abbrev pub is_of_line : ℕ → ℕ → TableChange → Bool
is_of_line n line c = eqb n c.table && eqb line c.line

-- what a change that can be made makes of one of the tables, and of the fields that are kept there for a line
module _ (c : TableChange) (ts : List Table) (can : CanChange c ts) (n : ℕ) (law : IfSome (slice_get ts n) IsTable) where
  s : IsStep c ts
  s = step_of c ts can

  ok : n ≡ c.table → IsTable s.before
  ok here =
      let P : Option Table → Type 0 = λ o. IfSome o IsTable in
      let Q : ℕ → Type 0 = λ m. IfSome (slice_get ts m) IsTable in
      subst P s.is (subst Q here law)

  here_after : n ≡ c.table → slice_get (with_change c ts) n ≡ Some s.after
  here_after here = ap (slice_get (with_change c ts)) here ∙ ap (λ l. slice_get l c.table) s.made ∙ got_same ts c.table s.after s.before s.is

  here_before : n ≡ c.table → slice_get ts n ≡ Some s.before
  here_before here = ap (slice_get ts) here ∙ s.is

  else_after : n ≢ c.table → slice_get (with_change c ts) n ≡ slice_get ts n
  else_after apart = ap (λ l. slice_get l n) s.made ∙ got_other ts c.table n s.after apart

  pub law_step : IfSome (slice_get (with_change c ts) n) IsTable
  law_step =
      let P : Option Table → Type 0 = λ o. IfSome o IsTable in
      elim (cases_eq n c.table) [
        | inl here ↦ subst P (sym (here_after here)) ((stays_after c.line c.edit s.before (ok here)).good s.after s.edited).is_table
        | inr apart ↦ subst P (sym (else_after apart)) law
      ]

  pub frame_step : frame_at (with_change c ts) n ≡ frame_at ts n
  frame_step = elim (cases_eq n c.table) [
    | inl here ↦
        let D : Option Table → Option Frame = option_map frame_of in
        ap D (here_after here) ∙ ap Some ((stays_after c.line c.edit s.before (ok here)).good s.after s.edited).frame ∙ sym (ap D (here_before here))
    | inr apart ↦ ap (option_map frame_of) (else_after apart)
  ]

  -- what holds of a table before and after the change of it, and of one that stays as it is
  pub changes_or_stays : (P : Option Table → Option Table → Type 0) → (n ≡ c.table → (t new : Table) → IsTable t → edit_in c.edit c.line t ≡ Ok new → P (Some t) (Some new)) → (n ≢ c.table → (o : Option Table) → P o o) → P (slice_get ts n) (slice_get (with_change c ts) n)
  changes_or_stays P changed stays = elim (cases_eq n c.table) [
    | inl here ↦
        subst (λ o. P o (slice_get (with_change c ts) n)) (sym (here_before here)) (subst (P (Some s.before)) (sym (here_after here)) (changed here s.before s.after (ok here) s.edited))
    | inr apart ↦ subst (P (slice_get ts n)) (sym (else_after apart)) (stays apart (slice_get ts n))
  ]

  pub kept_step : (line : ℕ) → kept_at (with_change c ts) n line ≡ cond (is_of_line n line c) (after_edit c.edit (kept_at ts n line)) (kept_at ts n line)
  kept_step line = elim (cases_eq n c.table) [
    | inl here ↦
        let K : Option Table → Option (List Value) = option_and_then (λ t. kept_in t line) in
        let old : kept_at ts n line ≡ kept_in s.before line = ap K (here_before here) in
        let new : kept_at (with_change c ts) n line ≡ kept_in s.after line = ap K (here_after here) in
        let kept = (kept_after c.line line c.edit s.before (ok here)).good s.after s.edited in
        let a = eq-eqb n c.table here in
        rw (a, old) (new ∙ kept)
    | inr apart ↦
        let a = ne_eqb n c.table apart in
        rw a (ap (option_and_then (λ t. kept_in t line)) (else_after apart))
  ]

-- after a log the table is a table still, and what it was, apart from its lines
module _ (n : ℕ) where
  pub law_after : (log : List TableChange) (ts : List Table) → Replays log ts → IfSome (slice_get ts n) IsTable → IfSome (slice_get (after_changes log ts) n) IsTable
  unfolding after_changes Replays
  law_after [] ts replays law = law
  law_after (c ∷ older) ts replays law = law_step c (after_changes older ts) replays.0 n (law_after older ts replays.1 law)

  pub frames_after : (log : List TableChange) (ts : List Table) → Replays log ts → IfSome (slice_get ts n) IsTable → frame_at (after_changes log ts) n ≡ frame_at ts n
  unfolding after_changes Replays
  frames_after [] ts replays law = refl
  frames_after (c ∷ older) ts replays law = frame_step c (after_changes older ts) replays.0 n (law_after older ts replays.1 law) ∙ frames_after older ts replays.1 law

  -- what was asked of the table before the log
  pub kind_now : (log : List TableChange) (ts : List Table) → Replays log ts → IfSome (slice_get ts n) IsTable → (kind : Option Frame → Bool) (is : Bool) → is ≡ kind (frame_at ts n) → kind (frame_at (after_changes log ts) n) ≡ is
  kind_now log ts replays law kind is told = ap kind (frames_after log ts replays law) ∙ sym told
