-- What a change of a line leaves of the fields that a table keeps, of that line and of each other.
use Rattle.std.proofs.Common.{◌≡◌, ℕ, true, false, cond, eqb, List, [], ◌∷◌, ◌++◌, set, Option, None, Some, is_some, refl, sym, ap, ◌∙◌, not, inl, inr}
use mathlib.Core.Bool.{false≢true}
use Rattle.std.proofs.lemmas.Bool.{cases_eq, cond_both, eq-eqb, eqb-true, ne_eqb}
use Rattle.std.proofs.lemmas.Option.{cond_some}
use Rattle.std.specs.Cmp.{nat_cmp_total, unsigned_tied}
use Rattle.std.specs.FinMap as map
use Rattle.std.specs.Ordering.{nat_cmp}
use Rattle.std.specs.Option.{option_map}
use Rattle.ruby_value.specs.declared.fault.Fault.TheVariants.{Absent, Full, Present, Reference}
use Rattle.ruby_value.specs.declared.value.Value.{Value}
use Rattle.ruby_value.specs.Prelude.{available, Cache, fields_of, made_recent, set_of, with_fields, with_set, without_line}
use Rattle.ruby_value.proofs.CacheSets.{set_lines}
use Rattle.ctl_face.specs.Prelude.{table_with_field, Table, CacheTable, DirectoryTable, TbeTable, ParameterTable}
use Rattle.ctl_face.proofs.Cases.{Good, good_ok, good_err, good_cond}
use Rattle.ctl_tables.specs.declared.change.Edit.{Edit}
use Rattle.ctl_tables.specs.declared.change.Edit.TheVariants as edit
use Rattle.ctl_tables.specs.Prelude.{IsTable, edit_in, kept_in}
use Rattle.ctl_tables.proofs.Sets.{AtLine, written_at, removed_at, pushed_at, recent_at, edited_at}

abbrev pub after_edit : Edit → Option (List Value) → Option (List Value)
after_edit (edit.Write field value) o = option_map (λ fields. set fields field value) o
after_edit (edit.Fill fields) o = Some fields
after_edit (edit.Add fields) o = Some fields
after_edit edit.Remove o = None
after_edit edit.Use o = o

-- the line has what the edit makes of its fields, and each other what it had
abbrev pub Keeps : Edit → ℕ → ℕ → Table → Table → Type 0
Keeps e at line t new = AtLine at line (after_edit e (kept_in t line)) (kept_in t line) (kept_in new line)

same_line : (at line : ℕ) (o : Option (List Value)) → o ≡ cond (eqb line at) o o
same_line at line o = cond_both (eqb line at) o o (λ r. o ≡ r) (λ _. refl) (λ _. refl)

none_from : {X : Type 0} (o : Option X) → is_some o ≡ false → o ≡ None
none_from None is = refl
none_from (Some x) wrong = absurd (false≢true (sym wrong))

-- another word for what is under the line itself
at_other : (at line : ℕ) (w other old new : Option (List Value)) → AtLine at line w old new → (line ≡ at → w ≡ other) → AtLine at line other old new
at_other at line w other old new is same = elim (cases_eq line at) [
  | inl here ↦
      let a = eq-eqb line at here in
      let now : new ≡ w = simp a at is in
      simp a (now ∙ same here)
  | inr apart ↦
      let a = ne_eqb line at apart in
      let now : new ≡ old = simp a at is in
      simp a now
]

module _ (at line : ℕ) where
  -- what a map has under each line after an insert and a removal
  inserted_at : (m : map.FinMap nat_cmp (List Value)) (f : List Value) → AtLine at line (Some f) (map.get m line) (map.get (map.insert m at f) line)
  inserted_at m f = map.get-insert nat_cmp_total m at f line ∙ ap (λ b. cond b (Some f) (map.get m line)) (unsigned_tied line at)

  dropped_at : (m : map.FinMap nat_cmp (List Value)) → AtLine at line None (map.get m line) (map.get (map.remove m at) line)
  dropped_at m = map.get-remove nat_cmp_total m at line ∙ ap (λ b. cond b None (map.get m line)) (unsigned_tied line at)

  -- one field is written
  module _ (field : ℕ) (value : Value) where
    abbrev W : Option (List Value) → Option (List Value)
    W o = option_map (λ fields. set fields field value) o

    written_in_map : (m : map.FinMap nat_cmp (List Value)) (fs : List Value) → map.get m at ≡ Some fs → AtLine at line (W (map.get m line)) (map.get m line) (map.get (map.insert m at (set fs field value)) line)
    written_in_map m fs is =
        at_other at line (Some (set fs field value)) (W (map.get m line)) (map.get m line) (map.get (map.insert m at (set fs field value)) line) (inserted_at m (set fs field value))
        (λ here. sym (ap (λ l. W (map.get m l)) here ∙ ap W is))

    written_in_cache : (cache : Cache) (fs : List Value) → IsTable (CacheTable cache) → fields_of (set_of cache at) at ≡ Some fs → Keeps (edit.Write field value) at line (CacheTable cache) (CacheTable (with_set cache at (with_fields (set_of cache at) at (set fs field value))))
    written_in_cache cache fs ok is =
        let old = fields_of (set_of cache at) line in
        let new = with_fields (set_of cache at) at (set fs field value) in
        let one = written_at (set_of cache at) at line (set fs field value) in
        let mine : line ≡ at → option_map (λ _. set fs field value) old ≡ W (fields_of (set_of cache line) line) =
        λ here. ap (λ l. option_map (λ _. set fs field value) (fields_of (set_of cache at) l)) here ∙ ap (option_map (λ _. set fs field value)) is
        ∙ sym (ap (λ l. W (fields_of (set_of cache l) l)) here ∙ ap W is) in
        edited_at cache at ok new line (W (fields_of (set_of cache line) line))
        (at_other at line (option_map (λ _. set fs field value) old) (W (fields_of (set_of cache line) line)) old (fields_of new line) one mine)

    written_in_parameters : (values fs : List Value) → cond (eqb at 0) (Some values) None ≡ Some fs → Keeps (edit.Write field value) at line (ParameterTable values) (ParameterTable (set fs field value))
    written_in_parameters values fs is =
        let parts = cond_some (eqb at 0) values fs is in
        let zero_at : at ≡ 0 = eqb-true at 0 parts.0 in
        elim (cases_eq line 0) [
          | inl here ↦
              let a = eq-eqb line 0 here in
              let b : eqb line at ≡ true = eq-eqb line at (here ∙ sym zero_at) in
              simp (a, b) (ap (λ vs. Some (set vs field value)) (sym parts.1))
          | inr apart ↦
              let a = ne_eqb line 0 apart in
              let b : eqb line at ≡ false = ne_eqb line at (λ e. apart (e ∙ zero_at)) in
              simp (a, b)
        ]

    by_write : (t : Table) → IsTable t → (o : Option (List Value)) → kept_in t at ≡ o → Good (Keeps (edit.Write field value) at line t) (table_with_field t at field value o)
    by_write t ok None is = good_err (Keeps (edit.Write field value) at line t) Reference
    by_write (CacheTable cache) ok (Some fs) is = good_ok (Keeps (edit.Write field value) at line (CacheTable cache)) _ (written_in_cache cache fs ok is)
    by_write (DirectoryTable directory) ok (Some fs) is = good_ok (Keeps (edit.Write field value) at line (DirectoryTable directory)) _ (written_in_map directory.written fs is)
    by_write (TbeTable tbes) ok (Some fs) is = good_ok (Keeps (edit.Write field value) at line (TbeTable tbes)) _ (written_in_map tbes.held fs is)
    by_write (ParameterTable values) ok (Some fs) is = good_ok (Keeps (edit.Write field value) at line (ParameterTable values)) _ (written_in_parameters values fs is)

  by_fill : (f : List Value) (t : Table) → Good (Keeps (edit.Fill f) at line t) (edit_in (edit.Fill f) at t)
  by_fill f (CacheTable cache) = good_err (Keeps (edit.Fill f) at line (CacheTable cache)) Reference
  by_fill f (DirectoryTable directory) = good_ok (Keeps (edit.Fill f) at line (DirectoryTable directory)) _ (inserted_at directory.written f)
  by_fill f (TbeTable tbes) = good_err (Keeps (edit.Fill f) at line (TbeTable tbes)) Reference
  by_fill f (ParameterTable values) = good_err (Keeps (edit.Fill f) at line (ParameterTable values)) Reference

  added_to_cache : (cache : Cache) (f : List Value) → IsTable (CacheTable cache) → is_some (fields_of (set_of cache at) at) ≡ false → Keeps (edit.Add f) at line (CacheTable cache) (CacheTable (with_set cache at (set_of cache at ++ (at, f) ∷ [])))
  added_to_cache cache f ok absent =
      edited_at cache at ok (set_of cache at ++ (at, f) ∷ []) line (Some f) (pushed_at (set_of cache at) at line f (none_from (fields_of (set_of cache at) at) absent))

  by_add : (f : List Value) (t : Table) → IsTable t → Good (Keeps (edit.Add f) at line t) (edit_in (edit.Add f) at t)
  by_add f (CacheTable cache) ok =
      let P = Keeps (edit.Add f) at line (CacheTable cache) in
      good_cond P (is_some (fields_of (set_of cache at) at)) _ _ (λ _. good_err P Present)
      (λ absent. good_cond P (not (available cache at)) _ _ (λ _. good_err P Full) (λ _. good_ok P _ (added_to_cache cache f ok absent)))
  by_add f (DirectoryTable directory) ok = good_err (Keeps (edit.Add f) at line (DirectoryTable directory)) Reference
  by_add f (TbeTable tbes) ok =
      let P = Keeps (edit.Add f) at line (TbeTable tbes) in
      good_cond P (map.contains_key tbes.held at) _ _ (λ _. good_err P Present)
      (λ absent. good_cond P _ _ _ (λ _. good_err P Full) (λ _. good_ok P _ (inserted_at tbes.held f)))
  by_add f (ParameterTable values) ok = good_err (Keeps (edit.Add f) at line (ParameterTable values)) Reference

  removed_from_cache : (cache : Cache) → IsTable (CacheTable cache) → Keeps edit.Remove at line (CacheTable cache) (CacheTable (with_set cache at (without_line (set_of cache at) at)))
  removed_from_cache cache ok =
      edited_at cache at ok (without_line (set_of cache at) at) line None (removed_at _ _ (set_of cache at) at line (set_lines cache at ok.lawful_sets).1)

  by_remove : (t : Table) → IsTable t → Good (Keeps edit.Remove at line t) (edit_in edit.Remove at t)
  by_remove (CacheTable cache) ok =
      let P = Keeps edit.Remove at line (CacheTable cache) in
      good_cond P (is_some (fields_of (set_of cache at) at)) _ _ (λ _. good_ok P _ (removed_from_cache cache ok)) (λ _. good_err P Absent)
  by_remove (DirectoryTable directory) ok = good_err (Keeps edit.Remove at line (DirectoryTable directory)) Reference
  by_remove (TbeTable tbes) ok =
      let P = Keeps edit.Remove at line (TbeTable tbes) in
      good_cond P (map.contains_key tbes.held at) _ _ (λ _. good_ok P _ (dropped_at tbes.held)) (λ _. good_err P Absent)
  by_remove (ParameterTable values) ok = good_err (Keeps edit.Remove at line (ParameterTable values)) Reference

  used_in_cache : (cache : Cache) → IsTable (CacheTable cache) → Keeps edit.Use at line (CacheTable cache) (CacheTable (with_set cache at (made_recent (set_of cache at) at)))
  used_in_cache cache ok =
      let old = fields_of (set_of cache at) line in
      let new = made_recent (set_of cache at) at in
      let mine = fields_of (set_of cache line) line in
      let kept = recent_at _ _ (set_of cache at) at line (set_lines cache at ok.lawful_sets).1 in
      edited_at cache at ok new line mine
      (at_other at line old mine old (fields_of new line) (kept ∙ same_line at line old) (λ here. sym (ap (λ l. fields_of (set_of cache l) line) here)))

  by_use : (t : Table) → IsTable t → Good (Keeps edit.Use at line t) (edit_in edit.Use at t)
  by_use (CacheTable cache) ok =
      let P = Keeps edit.Use at line (CacheTable cache) in
      good_cond P (is_some (fields_of (set_of cache at) at)) _ _ (λ _. good_ok P _ (used_in_cache cache ok)) (λ _. good_err P Absent)
  by_use (DirectoryTable directory) ok = good_err (Keeps edit.Use at line (DirectoryTable directory)) Reference
  by_use (TbeTable tbes) ok = good_err (Keeps edit.Use at line (TbeTable tbes)) Reference
  by_use (ParameterTable values) ok = good_err (Keeps edit.Use at line (ParameterTable values)) Reference

  pub kept_after : (e : Edit) (t : Table) → IsTable t → Good (Keeps e at line t) (edit_in e at t)
  kept_after (edit.Write field value) t ok = by_write field value t ok (kept_in t at) refl
  kept_after (edit.Fill f) t ok = by_fill f t
  kept_after (edit.Add f) t ok = by_add f t ok
  kept_after edit.Remove t ok = by_remove t ok
  kept_after edit.Use t ok = by_use t ok
