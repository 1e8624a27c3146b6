-- An act that a change stands for: what the act has for the tables is what the change makes of them, and the log replays with it.
use Rattle.std.proofs.Common.{◌≡◌, ◌<◌, ℕ, List, ◌∷◌, length, set, Option, None, Some, is_ok, IfSome, IsSome, IsSomeAnd, Result, Ok, Err, IfErr, OnOk, OnErr, slice_get, refl, sym, ap, subst, ◌∙◌}
use Rattle.std.specs.Option.{option_and_then}
use Rattle.ruby_value.specs.declared.fault.Fault.{Fault}
use Rattle.ruby_value.specs.declared.fault.Fault.TheVariants.{Reference}
use Rattle.ruby_value.specs.declared.value.Value.{Value}
use Rattle.ctl_face.specs.declared.trouble.Trouble.{Trouble}
use Rattle.ctl_face.specs.declared.trouble.Trouble.TheVariants as trouble
use Rattle.ctl_face.specs.Prelude.{fields_in, with_fields_in, table_with_field, Table, CacheTable, DirectoryTable, TbeTable, ParameterTable}
use Rattle.ctl_tables.specs.declared.change.Edit.TheVariants as edit
use Rattle.ctl_tables.specs.declared.change.TableChange.{TableChange}
use Rattle.ctl_tables.specs.Prelude.{after_changes, or_same, with_change, with_change_in, CanChange, CanEdit, HasFieldOf, Replays, edit_in, kept_in, DoesIn, after_change_in, change_if_there_in, changed_in, set_in, IsUnwritten}
use Rattle.ctl_tables.proofs.Stays.{default_in, fields_are, kept_or}

-- what is wanted is what the change makes, and it can be made
pub record IsDone (want : Result (List Table) Fault) (c : TableChange) (ts : List Table) : Type 0 where
  pub can : CanChange c ts
  pub done : want ≡ Ok (with_change c ts)

pub done_of : (c : TableChange) (ts : List Table) (change : Table → Result Table Fault) (t new : Table) → slice_get ts c.table ≡ Some t → edit_in c.edit c.line t ≡ Ok new → change t ≡ Ok new → HasFieldOf c.edit (kept_in t c.line) → IsDone (changed_in ts c.table change) c ts
done_of c ts change t new is edited changed has =
    let P : Option Table → Type 0 = λ o. IsSomeAnd o (CanEdit c) in
    let want : changed_in ts c.table change ≡ Ok (set ts c.table new) = ap (change_if_there_in ts c.table change) is ∙ ap (after_change_in ts c.table) changed in
    let made : with_change c ts ≡ set ts c.table new = ap (with_change_in c ts) is ∙ ap (λ r. set ts c.table (or_same t r)) edited in
    record { can = subst P (sym is) (ap is_ok edited, has); done = want ∙ ap Ok (sym made) }

no_fault : (log new : List TableChange) (ts : List Table) (want : Result (List Table) Fault) (t : Trouble) → t ≡ trouble.NoMemory → new ≡ log → DoesIn {A = Unit {0}} want (Err t) (after_changes log ts) (after_changes new ts)
no_fault log new ts want (trouble.Fault f) is same = absurd (cc)
no_fault log new ts want trouble.NoMemory is same = ap (λ l. after_changes l ts) same

-- where the change was logged the act is done, and without memory nothing was
pub does_by_log : (r : Result (Unit {0}) Trouble) (log new : List TableChange) (ts : List Table) (c : TableChange) (want : Result (List Table) Fault) → IsDone want c (after_changes log ts) → OnOk r (new ≡ c ∷ log) → OnErr r (new ≡ log) → IfErr r (λ t. t ≡ trouble.NoMemory) → DoesIn want r (after_changes log ts) (after_changes new ts)
unfolding after_changes
does_by_log (Ok a) log new ts c want is ok err memory = is.done ∙ ap Ok (sym (ap (λ l. after_changes l ts) ok))
does_by_log (Err t) log new ts c want is ok err memory = no_fault log new ts want t memory err

pub replays_by_log : (r : Result (Unit {0}) Trouble) (log new : List TableChange) (ts : List Table) (c : TableChange) → CanChange c (after_changes log ts) → Replays log ts → OnOk r (new ≡ c ∷ log) → OnErr r (new ≡ log) → Replays new ts
unfolding after_changes Replays
replays_by_log (Ok a) log new ts c can replays ok err = let P : List TableChange → Type 0 = λ l. Replays l ts in subst P (sym ok) (can, replays)
replays_by_log (Err t) log new ts c can replays ok err = let P : List TableChange → Type 0 = λ l. Replays l ts in subst P (sym err) replays

-- a write of a field
module _ (ts : List Table) (n line field : ℕ) (value : Value) where
  abbrev want : Result (List Table) Fault
  want = set_in ts (record { table = n; line = line }) field value

  abbrev Within : Option Table → Type 0
  Within o = IfSome (option_and_then (λ t. fields_in t line) o) (λ fs. field < length fs)

  abbrev written : TableChange
  written = record { table = n; line = line; edit = edit.Write field value }

  write_by : (t : Table) → slice_get ts n ≡ Some t → (o : Option (List Value)) → kept_in t line ≡ o → IsSome o → Within (Some t) → IsDone want written ts
  write_by t is None kept there within = absurd (cc)
  write_by t is (Some fs) kept there within =
      let fields : fields_in t line ≡ Some fs = fields_are t line ∙ ap (λ k. kept_or k (default_in t)) kept in
      let P : Option (List Value) → Type 0 = λ k. IfSome k (λ gs. field < length gs) in
      done_of written ts (λ u. table_with_field u line field value (fields_in u line)) t (with_fields_in t line (set fs field value)) is
      (ap (table_with_field t line field value) kept) (ap (table_with_field t line field value) fields) (subst P (sym kept) (subst P fields within))

  by_write : (o : Option Table) → slice_get ts n ≡ o → IsSomeAnd o (λ t. IsSome (kept_in t line)) → Within o → IsDone want written ts
  by_write None is there within = absurd there
  by_write (Some t) is there within = write_by t is (kept_in t line) refl there within

  pub write_done : IsSomeAnd (slice_get ts n) (λ t. IsSome (kept_in t line)) → Within (slice_get ts n) → IsDone want written ts
  write_done = by_write (slice_get ts n) refl

  module _ (first whole : List Value) (is_whole : whole ≡ set first field value) where
    abbrev filled : TableChange
    filled = record { table = n; line = line; edit = edit.Fill whole }

    fill_by : (t : Table) → slice_get ts n ≡ Some t → IsUnwritten t line first → IsDone want filled ts
    fill_by (CacheTable cache) is unwritten = absurd unwritten
    fill_by (DirectoryTable directory) is unwritten =
        let fields : fields_in (DirectoryTable directory) line ≡ Some first = fields_are (DirectoryTable directory) line ∙ ap (λ k. kept_or k (Some directory.initial)) unwritten.0 ∙ ap Some unwritten.1 in
        done_of filled ts (λ u. table_with_field u line field value (fields_in u line)) (DirectoryTable directory) (with_fields_in (DirectoryTable directory) line whole) is refl
        (ap (table_with_field (DirectoryTable directory) line field value) fields ∙ ap (λ w. Ok (with_fields_in (DirectoryTable directory) line w)) (sym is_whole)) tt
    fill_by (TbeTable tbes) is unwritten = absurd unwritten
    fill_by (ParameterTable values) is unwritten = absurd unwritten

    by_fill : (o : Option Table) → slice_get ts n ≡ o → IsSomeAnd o (λ t. IsUnwritten t line first) → IsDone want filled ts
    by_fill None is unwritten = absurd unwritten
    by_fill (Some t) is unwritten = fill_by t is unwritten

    pub fill_done : IsSomeAnd (slice_get ts n) (λ t. IsUnwritten t line first) → IsDone want filled ts
    fill_done = by_fill (slice_get ts n) refl

  absent_by : (o : Option Table) → IsSomeAnd o (λ t. fields_in t line ≡ None) → change_if_there_in ts n (λ u. table_with_field u line field value (fields_in u line)) o ≡ Err Reference
  absent_by None no_table = absurd no_table
  absent_by (Some t) gone = ap (λ k. after_change_in ts n (table_with_field t line field value k)) gone

  pub write_absent : IsSomeAnd (slice_get ts n) (λ t. fields_in t line ≡ None) → want ≡ Err Reference
  write_absent = absent_by (slice_get ts n)

  pub write_nowhere : slice_get ts n ≡ None → want ≡ Ok ts
  write_nowhere is = ap (change_if_there_in ts n (λ u. table_with_field u line field value (fields_in u line))) is
