-- What no change of a line changes of its table: what it is apart from its lines, and that the sets of a cache are lawful.
use Rattle.std.proofs.Common.{◌≡◌, ℕ, ◌%◌, ◌<◌, ◌||◌, Bool, true, false, not, List, [], ◌∷◌, ◌++◌, length, set, Option, None, Some, is_some, IsOk, refl, ap, ◌∙◌, arith}
use mathlib.Core.Bool.{false≢true}
use Rattle.std.proofs.lemmas.Bool.{not-false}
use Rattle.std.proofs.lemmas.List.{get_or_default, length-set}
use Rattle.std.specs.Bool.{nat_lt}
use Rattle.std.specs.Option.{unwrap_or}
use Rattle.std.specs.FinMap as map
use Rattle.ruby_value.specs.declared.fault.Fault.TheVariants.{Absent, Full, Present, Reference}
use Rattle.ruby_value.specs.declared.value.Value.{Value}
use Rattle.ruby_value.specs.Prelude.{available, Cache, Line, fields_of, IsCache, made_recent, set_of, with_fields, with_set, without_line}
use Rattle.ruby_value.proofs.CacheEdits.{IsRead, cache_without, cache_recent, cache_with_fields, cache_push}
use Rattle.ruby_value.proofs.CacheSets.{set_is}
use Rattle.ctl_face.specs.Prelude.{fields_in, table_with_field, Table, CacheTable, DirectoryTable, TbeTable, ParameterTable}
use Rattle.ctl_face.proofs.Cases.{Good, good_ok, good_err, good_cond}
use Rattle.ctl_tables.specs.declared.change.Edit.{Edit}
use Rattle.ctl_tables.specs.declared.change.Edit.TheVariants as edit
use Rattle.ctl_tables.specs.Prelude.{IsTable, edit_in, kept_in, line_removed, Frame, CacheFrame, DirectoryFrame, TbeFrame, ParameterFrame, frame_of}

abbrev pub frame_default : Frame → Option (List Value)
frame_default (CacheFrame ways sets) = None
frame_default (DirectoryFrame initial) = Some initial
frame_default (TbeFrame entries) = None
frame_default ParameterFrame = None

-- the fields of a line that keeps none by itself
abbrev pub default_in : Table → Option (List Value)
default_in t = frame_default (frame_of t)

abbrev pub kept_or : {X : Type 0} → Option X → Option X → Option X
kept_or (Some x) other = Some x
kept_or None other = other

or_none : {X : Type 0} (o : Option X) → o ≡ kept_or o None
or_none None = refl
or_none (Some x) = refl

pub fields_are : (t : Table) (line : ℕ) → fields_in t line ≡ kept_or (kept_in t line) (default_in t)
fields_are (CacheTable cache) line = or_none (fields_in (CacheTable cache) line)
fields_are (DirectoryTable directory) line = elim (map.get directory.written line) as (λ o. ◌≡◌ {A = Option (List Value)} (Some (unwrap_or o directory.initial)) (kept_or o (Some directory.initial))) [
  | None ↦ refl
  | Some f ↦ refl
]
fields_are (TbeTable tbes) line = or_none (fields_in (TbeTable tbes) line)
fields_are (ParameterTable values) line = or_none (fields_in (ParameterTable values) line)

pub record Stays (t new : Table) : Type 0 where
  pub frame : frame_of new ≡ frame_of t
  pub is_table : IsTable new

has_place : (there : Bool) (n ways : ℕ) → there ≡ false → (there || nat_lt n ways) ≡ true → n < ways
has_place true n ways absent room = cc
has_place false n ways absent room = grind arith

module _ (cache : Cache) (at : ℕ) (ok : IsCache cache) where
  read : IsRead cache at (at % length cache.sets) (set_of cache at)
  read =
      let some = ok.some_sets in
      let inside : at % length cache.sets < length cache.sets = omega arith in
      record {
        place = refl;
        inside = inside;
        read = set_is cache at ∙ get_or_default cache.sets (at % length cache.sets) [] (set_of cache at) inside;
      }

  same_frame : (new : List Line) → frame_of (CacheTable (with_set cache at new)) ≡ frame_of (CacheTable cache)
  same_frame new = ap (CacheFrame cache.ways) (length-set cache.sets (at % length cache.sets) new)

  written_stays : (f : List Value) → Stays (CacheTable cache) (CacheTable (with_set cache at (with_fields (set_of cache at) at f)))
  written_stays f = record { frame = same_frame (with_fields (set_of cache at) at f); is_table = cache_with_fields cache at (at % length cache.sets) (set_of cache at) read ok _ f refl }

  removed_stays : Stays (CacheTable cache) (CacheTable (with_set cache at (without_line (set_of cache at) at)))
  removed_stays = record { frame = same_frame (without_line (set_of cache at) at); is_table = cache_without cache at (at % length cache.sets) (set_of cache at) read ok _ refl }

  used_stays : Stays (CacheTable cache) (CacheTable (with_set cache at (made_recent (set_of cache at) at)))
  used_stays = record { frame = same_frame (made_recent (set_of cache at) at); is_table = cache_recent cache at (at % length cache.sets) (set_of cache at) read ok _ refl }

  added_stays : (f : List Value) → is_some (fields_of (set_of cache at) at) ≡ false → available cache at ≡ true → Stays (CacheTable cache) (CacheTable (with_set cache at (set_of cache at ++ (at, f) ∷ [])))
  added_stays f absent room = record {
    frame = same_frame (set_of cache at ++ (at, f) ∷ []);
    is_table = cache_push cache at (at % length cache.sets) (set_of cache at) read ok _ f absent (has_place (is_some (fields_of (set_of cache at) at)) (length (set_of cache at)) cache.ways absent room) refl;
  }

module _ (at : ℕ) where
  write_stays : (field : ℕ) (value : Value) (t : Table) → IsTable t → (o : Option (List Value)) → Good (Stays t) (table_with_field t at field value o)
  write_stays field value t ok None = good_err (Stays t) Reference
  write_stays field value (CacheTable cache) ok (Some fs) = good_ok (Stays (CacheTable cache)) _ (written_stays cache at ok (set fs field value))
  write_stays field value (DirectoryTable directory) ok (Some fs) = good_ok (Stays (DirectoryTable directory)) _ (record { frame = refl; is_table = tt })
  write_stays field value (TbeTable tbes) ok (Some fs) = good_ok (Stays (TbeTable tbes)) _ (record { frame = refl; is_table = tt })
  write_stays field value (ParameterTable values) ok (Some fs) = good_ok (Stays (ParameterTable values)) _ (record { frame = refl; is_table = tt })

  fill_stays : (f : List Value) (t : Table) → Good (Stays t) (edit_in (edit.Fill f) at t)
  fill_stays f (CacheTable cache) = good_err (Stays (CacheTable cache)) Reference
  fill_stays f (DirectoryTable directory) = good_ok (Stays (DirectoryTable directory)) _ (record { frame = refl; is_table = tt })
  fill_stays f (TbeTable tbes) = good_err (Stays (TbeTable tbes)) Reference
  fill_stays f (ParameterTable values) = good_err (Stays (ParameterTable values)) Reference

  add_stays : (f : List Value) (t : Table) → IsTable t → Good (Stays t) (edit_in (edit.Add f) at t)
  add_stays f (CacheTable cache) ok =
      let P = Stays (CacheTable cache) in
      good_cond P (is_some (fields_of (set_of cache at) at)) _ _ (λ _. good_err P Present)
      (λ absent. good_cond P (not (available cache at)) _ _ (λ _. good_err P Full)
      (λ room. good_ok P _ (added_stays cache at ok f absent (not-false (available cache at) room))))
  add_stays f (DirectoryTable directory) ok = good_err (Stays (DirectoryTable directory)) Reference
  add_stays f (TbeTable tbes) ok =
      let P = Stays (TbeTable tbes) in
      good_cond P (map.contains_key tbes.held at) _ _ (λ _. good_err P Present)
      (λ absent. good_cond P _ _ _ (λ _. good_err P Full) (λ _. good_ok P _ (record { frame = refl; is_table = tt })))
  add_stays f (ParameterTable values) ok = good_err (Stays (ParameterTable values)) Reference

  remove_stays : (t : Table) → IsTable t → Good (Stays t) (edit_in edit.Remove at t)
  remove_stays (CacheTable cache) ok =
      let P = Stays (CacheTable cache) in
      good_cond P (is_some (fields_of (set_of cache at) at)) _ _ (λ _. good_ok P _ (removed_stays cache at ok)) (λ _. good_err P Absent)
  remove_stays (DirectoryTable directory) ok = good_err (Stays (DirectoryTable directory)) Reference
  remove_stays (TbeTable tbes) ok =
      let P = Stays (TbeTable tbes) in
      good_cond P (map.contains_key tbes.held at) _ _ (λ _. good_ok P _ (record { frame = refl; is_table = tt })) (λ _. good_err P Absent)
  remove_stays (ParameterTable values) ok = good_err (Stays (ParameterTable values)) Reference

  use_stays : (t : Table) → IsTable t → Good (Stays t) (edit_in edit.Use at t)
  use_stays (CacheTable cache) ok =
      let P = Stays (CacheTable cache) in
      good_cond P (is_some (fields_of (set_of cache at) at)) _ _ (λ _. good_ok P _ (used_stays cache at ok)) (λ _. good_err P Absent)
  use_stays (DirectoryTable directory) ok = good_err (Stays (DirectoryTable directory)) Reference
  use_stays (TbeTable tbes) ok = good_err (Stays (TbeTable tbes)) Reference
  use_stays (ParameterTable values) ok = good_err (Stays (ParameterTable values)) Reference

  pub stays_after : (e : Edit) (t : Table) → IsTable t → Good (Stays t) (edit_in e at t)
  stays_after (edit.Write field value) t ok = write_stays field value t ok (kept_in t at)
  stays_after (edit.Fill f) t ok = fill_stays f t
  stays_after (edit.Add f) t ok = add_stays f t ok
  stays_after edit.Remove t ok = remove_stays t ok
  stays_after edit.Use t ok = use_stays t ok

  -- where a line can be taken out, no line has fields that it doesn't keep
  pub removable : (t : Table) → IsOk (line_removed at t) → default_in t ≡ None
  removable (CacheTable cache) ok = refl
  removable (DirectoryTable directory) ok = absurd (false≢true ok)
  removable (TbeTable tbes) ok = refl
  removable (ParameterTable values) ok = absurd (false≢true ok)
