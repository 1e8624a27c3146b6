-- The newest change of a log that tells of a line, or of one of its fields, has the last word on it; where none tells, it is as in
-- the tables before the log.
use Rattle.std.proofs.Common.{◌≡◌, ◌<◌, ℕ, zero, suc, Bool, true, false, cond, eqb, List, [], ◌∷◌, length, set, Option, None, Some, is_some, IsSome, is_ok, IsOk, slice_get, refl, sym, ap, subst, ◌∙◌, inl, inr, arith}
use mathlib.Core.Bool.{false≢true}
use Rattle.std.proofs.lemmas.Bool.{cases_Bool, eqb-true, eqb-false, and_parts}
use Rattle.std.specs.List.{find}
use Rattle.std.specs.Option.{IfSome, option_and_then, option_map}
use Rattle.ruby_value.specs.declared.value.Value.{Value}
use Rattle.ctl_face.specs.Prelude.{fields_in, table_with_field, Table}
use Rattle.ctl_tables.specs.declared.change.Edit.{Edit}
use Rattle.ctl_tables.specs.declared.change.Edit.TheVariants as edit
use Rattle.ctl_tables.specs.declared.change.TableChange.{TableChange}
use Rattle.ctl_tables.specs.Prelude.{after_changes, with_change, CanChange, HasFieldOf, IsTable, Replays, edit_in, kept_in, fields_at, edit_tells, tells, told_there, told_value, frame_of}
use Rattle.ctl_tables.proofs.Effects.{after_edit}
use Rattle.ctl_tables.proofs.Stays.{default_in, frame_default, kept_or, fields_are, removable}
use Rattle.ctl_tables.proofs.Steps.{step_of, default_at, frame_step, is_of_line, kept_at, kept_step, law_after}
use Rattle.ctl_tables.proofs.Steps.{got_other}

-- what a table has for a line, by what it keeps
pub fields_split : (ts : List Table) (n line : ℕ) → fields_at ts n line ≡ kept_or (kept_at ts n line) (default_at ts n)
fields_split ts n line = elim (slice_get ts n) as (λ o. option_and_then (λ t. fields_in t line) o ≡ kept_or (option_and_then (λ t. kept_in t line) o) (option_and_then frame_default (option_map frame_of o))) [
  | None ↦ refl
  | Some t ↦ fields_are t line
]

-- what is known of an edit that could be made, by what was kept before
abbrev pub Made : Edit → Option (List Value) → Option (List Value) → Type 0
Made (edit.Write field value) kept default = IfSome kept (λ fields. field < length fields) × IsSome kept
Made (edit.Fill fields) kept default = Unit {0}
Made (edit.Add fields) kept default = Unit {0}
Made edit.Remove kept default = default ≡ None
Made edit.Use kept default = Unit {0}

was_there : (t : Table) (line field : ℕ) (value : Value) (o : Option (List Value)) → IsOk (table_with_field t line field value o) → IsSome o
was_there t line field value None ok = absurd (false≢true ok)
was_there t line field value (Some fs) ok = refl

made_in : (e : Edit) (line : ℕ) (t : Table) → IsOk (edit_in e line t) → HasFieldOf e (kept_in t line) → Made e (kept_in t line) (default_in t)
made_in (edit.Write field value) line t ok has = (has, was_there t line field value (kept_in t line) ok)
made_in (edit.Fill fields) line t ok has = tt
made_in (edit.Add fields) line t ok has = tt
made_in edit.Remove line t ok has = removable line t ok
made_in edit.Use line t ok has = tt

-- the same of the table of the edit
made_at : (c : TableChange) (ts : List Table) → CanChange c ts → Made c.edit (kept_at ts c.table c.line) (default_at ts c.table)
made_at c ts can =
    let s = step_of c ts can in
    let P : Option Table → Type 0 = λ o. Made c.edit (option_and_then (λ t. kept_in t c.line) o) (option_and_then frame_default (option_map frame_of o)) in
    let ok : IsOk (edit_in c.edit c.line s.before) = ap is_ok s.edited in
    subst P (sym s.is) (made_in c.edit c.line s.before ok s.field)

module _ (n line : ℕ) where
  made_here : (c : TableChange) (ts : List Table) → CanChange c ts → is_of_line n line c ≡ true → Made c.edit (kept_at ts n line) (default_at ts n)
  made_here c ts can here =
      let parts = and_parts (eqb n c.table) (eqb line c.line) here in
      let same_n : n ≡ c.table = eqb-true n c.table parts.0 in
      let same_line : line ≡ c.line = eqb-true line c.line parts.1 in
      let P : ℕ → Type 0 = λ m. Made c.edit (kept_at ts m line) (default_at ts m) in
      let Q : ℕ → Type 0 = λ l. Made c.edit (kept_at ts c.table l) (default_at ts c.table) in
      subst P (sym same_n) (subst Q (sym same_line) (made_at c ts can))

  -- whether the line is there
  abbrev pub TellsKept : Option TableChange → Option (List Value) → Option (List Value) → Option (List Value) → Type 0
  TellsKept None now before default = now ≡ before
  TellsKept (Some c) now before default = (is_some now ≡ told_there c.edit) × (told_there c.edit ≡ false → default ≡ None)

  told_kept : (c : TableChange) (kept now before default : Option (List Value)) → edit_tells None c.edit ≡ true → Made c.edit kept default → now ≡ after_edit c.edit kept → TellsKept (Some c) now before default
  told_kept c kept now before default says made is = by c.edit says made is
    where
      written : (field : ℕ) (value : Value) (o : Option (List Value)) → IsSome o → is_some (option_map (λ fields. set fields field value) o) ≡ true
      written field value None wrong = absurd (false≢true wrong)
      written field value (Some fs) is = refl

      by : (e : Edit) → edit_tells None e ≡ true → Made e kept default → now ≡ after_edit e kept → (is_some now ≡ told_there e) × (told_there e ≡ false → default ≡ None)
      by (edit.Write field value) t m i = (ap is_some i ∙ written field value kept m.1, λ wrong. absurd (cc))
      by (edit.Fill fields) t m i = (ap is_some i, λ wrong. absurd (cc))
      by (edit.Add fields) t m i = (ap is_some i, λ wrong. absurd (cc))
      by edit.Remove t m i = (ap is_some i, λ _. m)
      by edit.Use t m i = absurd (cc)

  untold_kept : (e : Edit) (kept : Option (List Value)) → edit_tells None e ≡ false → after_edit e kept ≡ kept
  untold_kept (edit.Write field value) kept t = absurd (cc)
  untold_kept (edit.Fill fields) kept t = absurd (cc)
  untold_kept (edit.Add fields) kept t = absurd (cc)
  untold_kept edit.Remove kept t = absurd (cc)
  untold_kept edit.Use kept t = refl

  pub kept_told : (log : List TableChange) (ts : List Table) → Replays log ts → IfSome (slice_get ts n) IsTable → TellsKept (find (tells n line None) log) (kept_at (after_changes log ts) n line) (kept_at ts n line) (default_at (after_changes log ts) n)
  unfolding after_changes Replays
  kept_told [] ts replays law = refl
  kept_told (c ∷ older) ts replays law =
      let now = after_changes older ts in
      let step = kept_step c now replays.0 n (law_after n older ts replays.1 law) line in
      let same_default = ap (option_and_then frame_default) (frame_step c now replays.0 n (law_after n older ts replays.1 law)) in
      let rest = kept_told older ts replays.1 law in
      let Goal : Option TableChange → Option (List Value) → Option (List Value) → Type 0 = λ o k d. TellsKept o k (kept_at ts n line) d in
      let G : Bool → Type 0 = λ b. Goal (cond b (Some c) (find (tells n line None) older)) (kept_at (with_change c now) n line) (default_at (with_change c now) n) in
      let H : Option (List Value) → Option (List Value) → Type 0 = Goal (find (tells n line None) older) in
      let on : kept_at (with_change c now) n line ≡ kept_at now n line → H (kept_at (with_change c now) n line) (default_at (with_change c now) n) =
      λ same. subst (λ k. H k (default_at (with_change c now) n)) (sym same) (subst (H (kept_at now n line)) (sym same_default) rest) in
      elim (cases_Bool (is_of_line n line c)) [
        | inl here ↦ elim (cases_Bool (edit_tells None c.edit)) [
          | inl says ↦
              let passes : tells n line None c ≡ true = rw (here, says) refl in
              let after : kept_at (with_change c now) n line ≡ after_edit c.edit (kept_at now n line) = simp here at step in
              subst G (sym passes) (subst (Goal (Some c) (kept_at (with_change c now) n line)) (sym same_default) (told_kept c (kept_at now n line) (kept_at (with_change c now) n line) (kept_at ts n line) (default_at now n) says (made_here c now replays.0 here) after))
          | inr silent ↦
              let fails : tells n line None c ≡ false = rw (here, silent) refl in
              let after : kept_at (with_change c now) n line ≡ after_edit c.edit (kept_at now n line) = simp here at step in
              subst G (sym fails) (on (after ∙ untold_kept c.edit (kept_at now n line) silent))
        ]
        | inr apart ↦
            let fails : tells n line None c ≡ false = rw apart refl in
            subst G (sym fails) (on (simp apart at step))
      ]

  -- the value of one field
  module _ (field : ℕ) where
    abbrev pub value_of : Option (List Value) → Option (List Value) → Option Value
    value_of kept default = option_and_then (λ fields. slice_get fields field) (kept_or kept default)

    abbrev pub by_newest : Option Value → Option TableChange → Option Value
    by_newest before None = before
    by_newest before (Some c) = told_value c.edit field

    got_written : (fs : List Value) (i : ℕ) (v : Value) → i < length fs → slice_get (set fs i v) i ≡ Some v
    got_written [] i v below = absurd (omega arith)
    got_written (f ∷ fs) zero v below = refl
    got_written (f ∷ fs) (suc i) v below = got_written fs i v (omega arith)

    told_of_value : (e : Edit) (kept default : Option (List Value)) → edit_tells (Some field) e ≡ true → Made e kept default → value_of (after_edit e kept) default ≡ told_value e field
    told_of_value (edit.Write written value) None default t m = absurd (false≢true m.1)
    told_of_value (edit.Write written value) (Some fs) default t m =
        let same : field ≡ written = eqb-true field written t in
        ap (λ i. slice_get (set fs written value) i) same ∙ got_written fs written value m.0
    told_of_value (edit.Fill fields) kept default t m = refl
    told_of_value (edit.Add fields) kept default t m = refl
    told_of_value edit.Remove kept default t m = ap (λ d. value_of None d) m
    told_of_value edit.Use kept default t m = absurd (cc)

    untold_of_value : (e : Edit) (kept default : Option (List Value)) → edit_tells (Some field) e ≡ false → value_of (after_edit e kept) default ≡ value_of kept default
    untold_of_value (edit.Write written value) None default t = refl
    untold_of_value (edit.Write written value) (Some fs) default t = got_other fs written field value (eqb-false field written t)
    untold_of_value (edit.Fill fields) kept default t = absurd (cc)
    untold_of_value (edit.Add fields) kept default t = absurd (cc)
    untold_of_value edit.Remove kept default t = absurd (cc)
    untold_of_value edit.Use kept default t = refl

    abbrev pub value_at : List Table → Option Value
    value_at ts = value_of (kept_at ts n line) (default_at ts n)

    pub value_told : (log : List TableChange) (ts : List Table) → Replays log ts → IfSome (slice_get ts n) IsTable → value_at (after_changes log ts) ≡ by_newest (value_at ts) (find (tells n line (Some field)) log)
    unfolding after_changes Replays
    value_told [] ts replays law = refl
    value_told (c ∷ older) ts replays law =
        let now = after_changes older ts in
        let step = kept_step c now replays.0 n (law_after n older ts replays.1 law) line in
        let same_default = ap (option_and_then frame_default) (frame_step c now replays.0 n (law_after n older ts replays.1 law)) in
        let rest = value_told older ts replays.1 law in
        let G : Bool → Type 0 = λ b. value_at (with_change c now) ≡ by_newest (value_at ts) (cond b (Some c) (find (tells n line (Some field)) older)) in
        elim (cases_Bool (is_of_line n line c)) [
          | inl here ↦
              let after : kept_at (with_change c now) n line ≡ after_edit c.edit (kept_at now n line) = simp here at step in
              let value : value_at (with_change c now) ≡ value_of (after_edit c.edit (kept_at now n line)) (default_at now n) = ap (λ k. value_of k (default_at (with_change c now) n)) after ∙ ap (value_of (after_edit c.edit (kept_at now n line))) same_default in
              elim (cases_Bool (edit_tells (Some field) c.edit)) [
                | inl says ↦
                    let passes : tells n line (Some field) c ≡ true = rw (here, says) refl in
                    subst G (sym passes) (value ∙ told_of_value c.edit (kept_at now n line) (default_at now n) says (made_here c now replays.0 here))
                | inr silent ↦
                    let fails : tells n line (Some field) c ≡ false = rw (here, silent) refl in
                    subst G (sym fails) (value ∙ untold_of_value c.edit (kept_at now n line) (default_at now n) silent ∙ rest)
              ]
          | inr apart ↦
              let fails : tells n line (Some field) c ≡ false = rw apart refl in
              let same : kept_at (with_change c now) n line ≡ kept_at now n line = simp apart at step in
              let value : value_at (with_change c now) ≡ value_at now = ap (λ k. value_of k (default_at (with_change c now) n)) same ∙ ap (value_of (kept_at now n line)) same_default in
              subst G (sym fails) (value ∙ rest)
        ]

    -- read as the definition reads it
    pub field_is : (ts : List Table) → option_and_then (λ fields. slice_get fields field) (fields_at ts n line) ≡ value_at ts
    field_is ts = ap (option_and_then (λ fields. slice_get fields field)) (fields_split ts n line)
