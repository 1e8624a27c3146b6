-- How many lines share places with a line, after a change and after the changes of a log.
use Rattle.std.proofs.Common.{◌≡◌, ◌<◌, ℕ, ◌+◌, ◌-◌, ◌%◌, get_or, reverse, take, true, false, cond, not, eqb, List, [], ◌∷◌, ◌++◌, length, set, Option, None, Some, is_some, IfSome, slice_get, refl, sym, ap, ◌∙◌, inl, inr, arith, length-append}
use mathlib.Core.Bool.{true≢false}
use Rattle.std.proofs.lemmas.Bool.{cases_eq, eq-eqb, ne_eqb}
use Rattle.std.proofs.lemmas.Map.{length-set_value}
use Rattle.std.specs.Cmp.{nat_cmp_total}
use Rattle.std.specs.FinMap as map
use Rattle.std.specs.Option.{option_map, option_to_list}
use Rattle.std.specs.Ordering.{nat_cmp}
use Rattle.ruby_value.specs.declared.fault.Fault.TheVariants.{Absent, Full, Present, Reference}
use Rattle.ruby_value.specs.declared.value.Value.{Value}
use Rattle.ruby_value.specs.Prelude.{available, Cache, Line, fields_of, made_recent, set_of, with_fields, with_set, without_line}
use Rattle.ruby_value.proofs.CacheSets.{length_removed, length_recent}
use Rattle.ctl_face.specs.Prelude.{free_in, table_with_field, Table, CacheTable, DirectoryTable, TbeTable, ParameterTable}
use Rattle.ctl_face.proofs.Cases.{Good, good_ok, good_err, good_cond}
use Rattle.ctl_tables.specs.declared.change.Edit.{Edit}
use Rattle.ctl_tables.specs.declared.change.Edit.TheVariants as edit
use Rattle.ctl_tables.specs.declared.change.TableChange.{TableChange}
use Rattle.ctl_tables.specs.Prelude.{after_changes, with_change, CanChange, IsTable, Replays, edit_in, kept_in, Frame, frame_at, frame_of, keeps_order, is_beside, lines_after, lines_changed, lines_beside, lines_with, places_of, room_in, share_places}
use Rattle.ctl_tables.proofs.Backwards.{reverse_more}
use Rattle.ctl_tables.proofs.Sets.{one_set, other_set, same_set}
use Rattle.ctl_tables.proofs.Steps.{changes_or_stays, frames_after, law_after}

-- as many lines as the edit makes of those that were beside that line
abbrev pub Counts : Edit → ℕ → ℕ → Table → Table → Type 0
Counts e at line t new = lines_beside new line ≡ cond (share_places (Some (frame_of t)) at line) (lines_with e (lines_beside t line)) (lines_beside t line)

one_less : (n m : ℕ) → n + 1 ≡ m → n ≡ m - 1
one_less n m is = omega arith

taken_out : (lines : List Line) (at : ℕ) → is_some (fields_of lines at) ≡ true → length (without_line lines at) ≡ length lines - 1
taken_out lines at there = by (fields_of lines at) there (length_removed (λ l. eqb l at) lines)
  where
    by : (o : Option (List Value)) → is_some o ≡ true → length (without_line lines at) + length (option_to_list o) ≡ length lines → length (without_line lines at) ≡ length lines - 1
    by None wrong split = absurd (true≢false (sym wrong))
    by (Some f) there split = one_less (length (without_line lines at)) (length lines) split

module _ (at line : ℕ) where
  in_cache : (cache : Cache) → IsTable (CacheTable cache) → (new : List Line) (k : ℕ → ℕ) → length new ≡ k (length (set_of cache at)) → length (set_of (with_set cache at new) line) ≡ cond (eqb (at % length cache.sets) (line % length cache.sets)) (k (length (set_of cache line))) (length (set_of cache line))
  in_cache cache ok new k is = elim (cases_eq (line % length cache.sets) (at % length cache.sets)) [
    | inl here ↦
        let b : eqb (at % length cache.sets) (line % length cache.sets) ≡ true = eq-eqb (at % length cache.sets) (line % length cache.sets) (sym here) in
        rw b (ap length (same_set cache at ok new line here) ∙ is ∙ ap (λ s. k (length s)) (sym (one_set cache at ok new line here)))
    | inr apart ↦
        let b : eqb (at % length cache.sets) (line % length cache.sets) ≡ false = ne_eqb (at % length cache.sets) (line % length cache.sets) (λ e. apart (sym e)) in
        rw b (ap length (other_set cache at ok new line apart))
  ]

  put_over : (m : map.FinMap nat_cmp (List Value)) (f : List Value) → is_some (map.get m at) ≡ true → map.len (map.insert m at f) ≡ map.len m
  put_over m f there = map.len-insert nat_cmp_total m at f ∙ ap (λ b. cond b (map.len m) (map.len m + 1)) there

  put_new : (m : map.FinMap nat_cmp (List Value)) (f : List Value) → map.contains_key m at ≡ false → map.len (map.insert m at f) ≡ map.len m + 1
  put_new m f absent = map.len-insert nat_cmp_total m at f ∙ ap (λ b. cond b (map.len m) (map.len m + 1)) absent

  drop_one : (m : map.FinMap nat_cmp (List Value)) → map.contains_key m at ≡ true → map.len (map.remove m at) ≡ map.len m - 1
  drop_one m there = map.len-remove nat_cmp_total m at ∙ ap (λ b. cond b (map.len m - 1) (map.len m)) there

  by_write : (field : ℕ) (value : Value) (t : Table) → IsTable t → (o : Option (List Value)) → kept_in t at ≡ o → Good (Counts (edit.Write field value) at line t) (table_with_field t at field value o)
  by_write field value t ok None is = good_err (Counts (edit.Write field value) at line t) Reference
  by_write field value (CacheTable cache) ok (Some fs) is =
      good_ok (Counts (edit.Write field value) at line (CacheTable cache)) _
      (in_cache cache ok (with_fields (set_of cache at) at (set fs field value)) (λ n. n) (length-set_value (λ l. eqb l at) (set_of cache at) (set fs field value)))
  by_write field value (DirectoryTable directory) ok (Some fs) is = good_ok (Counts (edit.Write field value) at line (DirectoryTable directory)) _ refl
  by_write field value (TbeTable tbes) ok (Some fs) is = good_ok (Counts (edit.Write field value) at line (TbeTable tbes)) _ (put_over tbes.held (set fs field value) (ap is_some is))
  by_write field value (ParameterTable values) ok (Some fs) is = good_ok (Counts (edit.Write field value) at line (ParameterTable values)) _ refl

  by_fill : (f : List Value) (t : Table) → Good (Counts (edit.Fill f) at line t) (edit_in (edit.Fill f) at t)
  by_fill f (CacheTable cache) = good_err (Counts (edit.Fill f) at line (CacheTable cache)) Reference
  by_fill f (DirectoryTable directory) = good_ok (Counts (edit.Fill f) at line (DirectoryTable directory)) _ refl
  by_fill f (TbeTable tbes) = good_err (Counts (edit.Fill f) at line (TbeTable tbes)) Reference
  by_fill f (ParameterTable values) = good_err (Counts (edit.Fill f) at line (ParameterTable values)) Reference

  by_add : (f : List Value) (t : Table) → IsTable t → Good (Counts (edit.Add f) at line t) (edit_in (edit.Add f) at t)
  by_add f (CacheTable cache) ok =
      let P = Counts (edit.Add f) at line (CacheTable cache) in
      good_cond P (is_some (fields_of (set_of cache at) at)) _ _ (λ _. good_err P Present)
      (λ absent. good_cond P (not (available cache at)) _ _ (λ _. good_err P Full)
      (λ room. good_ok P _ (in_cache cache ok (set_of cache at ++ (at, f) ∷ []) (λ n. n + 1) (length-append (set_of cache at) ((at, f) ∷ [])))))
  by_add f (DirectoryTable directory) ok = good_err (Counts (edit.Add f) at line (DirectoryTable directory)) Reference
  by_add f (TbeTable tbes) ok =
      let P = Counts (edit.Add f) at line (TbeTable tbes) in
      good_cond P (map.contains_key tbes.held at) _ _ (λ _. good_err P Present)
      (λ absent. good_cond P _ _ _ (λ _. good_err P Full) (λ _. good_ok P _ (put_new tbes.held f absent)))
  by_add f (ParameterTable values) ok = good_err (Counts (edit.Add f) at line (ParameterTable values)) Reference

  by_remove : (t : Table) → IsTable t → Good (Counts edit.Remove at line t) (edit_in edit.Remove at t)
  by_remove (CacheTable cache) ok =
      let P = Counts edit.Remove at line (CacheTable cache) in
      good_cond P (is_some (fields_of (set_of cache at) at)) _ _ (λ there. good_ok P _ (in_cache cache ok (without_line (set_of cache at) at) (λ n. n - 1) (taken_out (set_of cache at) at there))) (λ _. good_err P Absent)
  by_remove (DirectoryTable directory) ok = good_err (Counts edit.Remove at line (DirectoryTable directory)) Reference
  by_remove (TbeTable tbes) ok =
      let P = Counts edit.Remove at line (TbeTable tbes) in
      good_cond P (map.contains_key tbes.held at) _ _ (λ there. good_ok P _ (drop_one tbes.held there)) (λ _. good_err P Absent)
  by_remove (ParameterTable values) ok = good_err (Counts edit.Remove at line (ParameterTable values)) Reference

  by_use : (t : Table) → IsTable t → Good (Counts edit.Use at line t) (edit_in edit.Use at t)
  by_use (CacheTable cache) ok =
      let P = Counts edit.Use at line (CacheTable cache) in
      good_cond P (is_some (fields_of (set_of cache at) at)) _ _ (λ _. good_ok P _ (in_cache cache ok (made_recent (set_of cache at) at) (λ n. n) (length_recent (set_of cache at) at))) (λ _. good_err P Absent)
  by_use (DirectoryTable directory) ok = good_err (Counts edit.Use at line (DirectoryTable directory)) Reference
  by_use (TbeTable tbes) ok = good_err (Counts edit.Use at line (TbeTable tbes)) Reference
  by_use (ParameterTable values) ok = good_err (Counts edit.Use at line (ParameterTable values)) Reference

  lines_edited : (e : Edit) (t : Table) → IsTable t → Good (Counts e at line t) (edit_in e at t)
  lines_edited (edit.Write field value) t ok = by_write field value t ok (kept_in t at) refl
  lines_edited (edit.Fill f) t ok = by_fill f t
  lines_edited (edit.Add f) t ok = by_add f t ok
  lines_edited edit.Remove t ok = by_remove t ok
  lines_edited edit.Use t ok = by_use t ok

-- of one of the tables
abbrev pub lines_at : Option Table → ℕ → ℕ
lines_at None line = 0
lines_at (Some t) line = lines_beside t line

module _ (n line : ℕ) where
  lines_step : (c : TableChange) (ts : List Table) → CanChange c ts → IfSome (slice_get ts n) IsTable → lines_at (slice_get (with_change c ts) n) line ≡ cond (is_beside (frame_at ts n) n line c) (lines_with c.edit (lines_at (slice_get ts n) line)) (lines_at (slice_get ts n) line)
  lines_step c ts can law =
      changes_or_stays c ts can n law (λ o r. lines_at r line ≡ cond (is_beside (option_map frame_of o) n line c) (lines_with c.edit (lines_at o line)) (lines_at o line))
      (λ here t new ok edited. let b = eq-eqb n c.table here in rw b ((lines_edited c.line line c.edit t ok).good new edited))
      (λ apart o. let b = ne_eqb n c.table apart in rw b refl)

  pub lines_now : (log : List TableChange) (ts : List Table) → Replays log ts → IfSome (slice_get ts n) IsTable → lines_at (slice_get (after_changes log ts) n) line ≡ lines_after (frame_at ts n) n line (lines_at (slice_get ts n) line) log
  unfolding after_changes Replays lines_after
  lines_now [] ts replays law = refl
  lines_now (c ∷ older) ts replays law =
      let now = after_changes older ts in
      let step = lines_step c now replays.0 (law_after n older ts replays.1 law) in
      let same = frames_after n older ts replays.1 law in
      let rest = lines_now older ts replays.1 law in
      step ∙ ap (λ f. cond (is_beside f n line c) (lines_with c.edit (lines_at (slice_get now n) line)) (lines_at (slice_get now n) line)) same
      ∙ ap (λ k. cond (is_beside (frame_at ts n) n line c) (lines_with c.edit k) k) rest

-- the count goes along a log from the oldest change on
module _ (frame : Option Frame) (n line : ℕ) where
  pub none_yet : (before : ℕ) → lines_after frame n line before [] ≡ before
  unfolding lines_after
  none_yet before = refl

  pub one_more : (before : ℕ) (log : List TableChange) (i : ℕ) (d : TableChange) → i < length log → lines_after frame n line before (reverse (take (i + 1) log)) ≡ lines_changed frame n line (get_or log i d) (lines_after frame n line before (reverse (take i log)))
  unfolding lines_after
  one_more before log i d below = ap (lines_after frame n line before) (reverse_more log i d below)

-- what is left, by the frame and the count
abbrev pub room_by : Option Frame → ℕ → ℕ
room_by None lines = 0
room_by (Some frame) lines = places_of frame - lines

room_is : (o : Option Table) (line : ℕ) → room_in o line ≡ room_by (option_map frame_of o) (lines_at o line)
room_is None line = refl
room_is (Some t) line = refl

module _ (log : List TableChange) (ts : List Table) (n line : ℕ) (replays : Replays log ts) (law : IfSome (slice_get ts n) IsTable) where
  pub room_now : room_in (slice_get (after_changes log ts) n) line ≡ room_by (frame_at ts n) (lines_after (frame_at ts n) n line (lines_at (slice_get ts n) line) log)
  room_now = room_is (slice_get (after_changes log ts) n) line ∙ ap (λ f. room_by f (lines_at (slice_get (after_changes log ts) n) line)) (frames_after n log ts replays law) ∙ ap (room_by (frame_at ts n)) (lines_now n line log ts replays law)

  -- as it is told of a table that is kept there
  pub room_of : (t : Table) → slice_get ts n ≡ Some t → room_in (slice_get (after_changes log ts) n) line ≡ places_of (frame_of t) - lines_after (Some (frame_of t)) n line (lines_beside t line) log
  room_of t is = room_now ∙ ap (λ o. room_by (option_map frame_of o) (lines_after (option_map frame_of o) n line (lines_at o line) log)) is

  pub no_room : slice_get ts n ≡ None → room_in (slice_get (after_changes log ts) n) line ≡ 0
  no_room is = room_now ∙ ap (λ o. room_by (option_map frame_of o) (lines_after (option_map frame_of o) n line (lines_at o line) log)) is

-- what is free in a TBE table
pub free_is_room : (o : Option Table) (line : ℕ) → keeps_order (option_map frame_of o) ≡ false → free_in o ≡ room_in o line
free_is_room None line keeps = refl
free_is_room (Some (CacheTable cache)) line keeps = absurd (true≢false keeps)
free_is_room (Some (DirectoryTable directory)) line keeps = omega arith
free_is_room (Some (TbeTable tbes)) line keeps = refl
free_is_room (Some (ParameterTable values)) line keeps = omega arith

pub none_free : (o : Option Table) → keeps_order (option_map frame_of o) ≡ true → free_in o ≡ 0
none_free None keeps = refl
none_free (Some (CacheTable cache)) keeps = refl
none_free (Some (DirectoryTable directory)) keeps = refl
none_free (Some (TbeTable tbes)) keeps = absurd (true≢false (sym keeps))
none_free (Some (ParameterTable values)) keeps = refl
