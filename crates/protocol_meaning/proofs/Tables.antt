-- What a controller holds stays within an extent when a table is changed, and what is read off a table is within it.
use Rattle.std.proofs.Common.{◌≡◌, ℕ, ◌%◌, cond, not, eqb, List, [], ◌∷◌, ◌++◌, length, set, All, IfSome, refl, sym, ap, ◌∙◌, Option, None, Some, Result, Ok, Err, is_some, slice_get, unwrap_or}
use Rattle.std.proofs.lemmas.Bool.{cond_both}
use Rattle.std.proofs.lemmas.List.Elements.{All-nil, All-cons, All-append, All-set, All-push}
use Rattle.std.specs.Bool.{nat_le}
use Rattle.std.specs.FinMap as map
use Rattle.std.specs.Option.{option_and_then, option_map, option_to_list, ok_or}
use Rattle.ruby_value.specs.declared.fault.Fault.{Fault}
use Rattle.ruby_value.specs.declared.fault.Fault.TheVariants.{Absent, Full, Present, Reference}
use Rattle.ruby_value.specs.declared.value.Ref.{Ref}
use Rattle.ruby_value.specs.declared.value.Value.{Value}
use Rattle.ruby_value.specs.Prelude.{available, Cache, Line, fields_of, made_recent, set_of, with_fields, with_set, without_line}
use Rattle.ctl_face.specs.Prelude.{allocate, with_line, deallocate, without_line_in, fields_in, with_fields_in, fields_behind, get, LocalView, initial_fields, table_with_field, set as set_field, Table, CacheTable, DirectoryTable, TbeTable, ParameterTable, after_change, change_if_there, changed_table, table_at, with_table, touch, used_line}
use Rattle.ctl_face.proofs.Cases.{Good, good_ok, good_err, good_cond}
use Rattle.ctl_face.proofs.Lines.{All-found, All-removed, All-written, All-at, holds_after_set, lookup_holds}
use Rattle.ctl_face.proofs.Maps.{insert_keeps, remove_keeps}
use Rattle.protocol_meaning.specs.Prelude.{Extent, AreWithin, IsWithin, TableWithin}
use Rattle.protocol_meaning.proofs.Bounds.{Bounds, IsKept, ViewWithin}

module _ (e : Extent) where
  abbrev LineWithin : Line → Type 0
  LineWithin l = AreWithin e l.1

  -- the lines of a set, and the cache with another set
  set_within : (cache : Cache) (line : ℕ) → TableWithin e (CacheTable cache) → All LineWithin (set_of cache line)
  set_within cache line within = All-at LineWithin cache.sets (line % length cache.sets) within

  cache_within : (cache : Cache) (line : ℕ) (new : List Line) → All LineWithin new → TableWithin e (CacheTable cache) → TableWithin e (CacheTable (with_set cache line new))
  cache_within cache line new all within = All-set (All LineWithin) cache.sets (line % length cache.sets) new all within

  listed : (line : ℕ) (o : Option (List Value)) → IfSome o (λ fields. AreWithin e fields) → All LineWithin (option_to_list (option_map (λ fields. (line, fields)) o))
  listed line None here = All-nil LineWithin
  listed line (Some fields) here = All-cons LineWithin (line, fields) [] here (All-nil LineWithin)

  or_initial : (o : Option (List Value)) (initial : List Value) → AreWithin e initial → IfSome o (AreWithin e) → AreWithin e (unwrap_or o initial)
  or_initial None initial first here = first
  or_initial (Some fields) initial first here = here

  pub fields_within : (t : Table) (line : ℕ) → TableWithin e t → IfSome (fields_in t line) (AreWithin e)
  fields_within (CacheTable cache) line within = lookup_holds LineWithin line (set_of cache line) (set_within cache line within)
  fields_within (DirectoryTable directory) line within = or_initial (map.get directory.written line) directory.initial within.0 (within.1 line)
  fields_within (TbeTable tbes) line within = within line
  fields_within (ParameterTable values) line within = cond_both (eqb line 0) (Some values) None (λ o. IfSome o (AreWithin e)) (λ _. within) (λ _. tt)

  with_fields_within : (t : Table) (line : ℕ) (fields : List Value) → AreWithin e fields → TableWithin e t → TableWithin e (with_fields_in t line fields)
  with_fields_within (CacheTable cache) line fields here within =
      cache_within cache line (with_fields (set_of cache line) line fields) (All-written LineWithin (λ l. eqb l line) fields (λ l _. here) (set_of cache line) (set_within cache line within)) within
  with_fields_within (DirectoryTable directory) line fields here within = (within.0, insert_keeps (λ _ f. AreWithin e f) directory.written line fields within.1 here)
  with_fields_within (TbeTable tbes) line fields here within = insert_keeps (λ _ f. AreWithin e f) tbes.held line fields within here
  with_fields_within (ParameterTable values) line fields here within = here

  set_in_table : (t : Table) (line field : ℕ) (value : Value) → IsWithin e value → TableWithin e t → (o : Option (List Value)) → IfSome o (AreWithin e) → Good (TableWithin e) (table_with_field t line field value o)
  set_in_table t line field value is within None there = good_err (TableWithin e) Reference
  set_in_table t line field value is within (Some old) there =
      good_ok (TableWithin e) (with_fields_in t line (set old field value)) (with_fields_within t line (set old field value) (All-set (IsWithin e) old field value is there) within)

  allocated : (t : Table) (line : ℕ) (fields : List Value) → AreWithin e fields → TableWithin e t → Good (TableWithin e) (with_line fields line t)
  allocated (CacheTable cache) line fields here within =
      let there = is_some (fields_of (set_of cache line) line) in
      let new = CacheTable (with_set cache line (set_of cache line ++ (line, fields) ∷ [])) in
      good_cond (TableWithin e) there (Err Present) (cond (not (available cache line)) (Err Full) (Ok new)) (λ _. good_err (TableWithin e) Present)
      (λ _. good_cond (TableWithin e) (not (available cache line)) (Err Full) (Ok new) (λ _. good_err (TableWithin e) Full)
      (λ _. good_ok (TableWithin e) new (cache_within cache line (set_of cache line ++ (line, fields) ∷ []) (All-push LineWithin (set_of cache line) (line, fields) (set_within cache line within) here) within)))
  allocated (DirectoryTable directory) line fields here within = good_ok (TableWithin e) (DirectoryTable directory) within
  allocated (TbeTable tbes) line fields here within =
      let full = nat_le tbes.entries (map.len tbes.held) in
      let new = TbeTable (record tbes { held = map.insert tbes.held line fields }) in
      good_cond (TableWithin e) (map.contains_key tbes.held line) (Err Present) (cond full (Err Full) (Ok new)) (λ _. good_err (TableWithin e) Present)
      (λ _. good_cond (TableWithin e) full (Err Full) (Ok new) (λ _. good_err (TableWithin e) Full)
      (λ _. good_ok (TableWithin e) new (insert_keeps (λ _ f. AreWithin e f) tbes.held line fields within here)))
  allocated (ParameterTable values) line fields here within = good_ok (TableWithin e) (ParameterTable values) within

  deallocated : (t : Table) (line : ℕ) → TableWithin e t → Good (TableWithin e) (without_line_in line t)
  deallocated (CacheTable cache) line within =
      let new = CacheTable (with_set cache line (without_line (set_of cache line) line)) in
      good_cond (TableWithin e) (is_some (fields_of (set_of cache line) line)) (Ok new) (Err Absent)
      (λ _. good_ok (TableWithin e) new (cache_within cache line (without_line (set_of cache line) line) (All-removed LineWithin (λ l. eqb l line) (set_of cache line) (set_within cache line within)) within))
      (λ _. good_err (TableWithin e) Absent)
  deallocated (DirectoryTable directory) line within = good_ok (TableWithin e) (DirectoryTable directory) within
  deallocated (TbeTable tbes) line within =
      let new = TbeTable (record tbes { held = map.remove tbes.held line }) in
      good_cond (TableWithin e) (map.contains_key tbes.held line) (Ok new) (Err Absent)
      (λ _. good_ok (TableWithin e) new (remove_keeps (λ _ f. AreWithin e f) tbes.held line within)) (λ _. good_err (TableWithin e) Absent)
  deallocated (ParameterTable values) line within = good_ok (TableWithin e) (ParameterTable values) within

  touched : (t : Table) (line : ℕ) → TableWithin e t → Good (TableWithin e) (used_line line t)
  touched (CacheTable cache) line within =
      let all = set_within cache line within in
      let new = CacheTable (with_set cache line (made_recent (set_of cache line) line)) in
      good_cond (TableWithin e) (is_some (fields_of (set_of cache line) line)) (Ok new) (Err Absent)
      (λ _. good_ok (TableWithin e) new (cache_within cache line (made_recent (set_of cache line) line)
      (All-append LineWithin (without_line (set_of cache line) line) (option_to_list (option_map (λ fields. (line, fields)) (fields_of (set_of cache line) line)))
      (All-removed LineWithin (λ l. eqb l line) (set_of cache line) all) (listed line (fields_of (set_of cache line) line) (lookup_holds LineWithin line (set_of cache line) all))) within))
      (λ _. good_err (TableWithin e) Absent)
  touched (DirectoryTable directory) line within = good_ok (TableWithin e) (DirectoryTable directory) within
  touched (TbeTable tbes) line within = good_ok (TableWithin e) (TbeTable tbes) within
  touched (ParameterTable values) line within = good_ok (TableWithin e) (ParameterTable values) within

module _ (b : Bounds) (v : LocalView) (is : ViewWithin b v) (table : ℕ) where
  -- the table of values, if it is this one, is as it was
  abbrev Same : Table → Type 0
  Same t = table ≡ b.table → t ≡ ParameterTable b.values

  with_table_within : (t : Table) → TableWithin b.extent t → Same t → ViewWithin b (with_table v table t)
  with_table_within t within same =
      let At : ℕ → Option Table → Type 0 = λ j o. j ≡ b.table → o ≡ Some (ParameterTable b.values) in
      record {
        holds = record {
          tables = All-set (TableWithin b.extent) v.ctl.tables table t within is.holds.tables;
          states_set = is.holds.states_set;
          inbox = is.holds.inbox;
        };
        kept = holds_after_set At v.ctl.tables table t (λ j this. ap (λ (k : ℕ). slice_get v.ctl.tables k) this ∙ is.kept) (λ this. ap (λ (u : Table). Some u) (same this)) b.table refl;
        posted = is.posted;
        me = is.me;
        initial = is.initial;
        default_state = is.default_state;
      }

  after_within : (r : Result Table Fault) → Good (TableWithin b.extent) r → Good Same r → Good (ViewWithin b) (after_change v table r)
  after_within (Ok t) within same = good_ok (ViewWithin b) (with_table v table t) (with_table_within t (within.good t refl) (same.good t refl))
  after_within (Err f) within same = good_err (ViewWithin b) f

  change_within : (change : Table → Result Table Fault) (o : Option Table) → table_at v table ≡ o → IfSome o (TableWithin b.extent)
      → ((t : Table) → TableWithin b.extent t → Good (TableWithin b.extent) (change t))
      → ((t : Table) → (table ≡ b.table → t ≡ ParameterTable b.values) → Good Same (change t)) → Good (ViewWithin b) (change_if_there v table change o)
  change_within change None there here keeps same = good_ok (ViewWithin b) v is
  change_within change (Some t) there here keeps same =
      after_within (change t) (keeps t here)
      (same t (λ this. let found : slice_get v.ctl.tables table ≡ Some (ParameterTable b.values) = ap (λ (k : ℕ). slice_get v.ctl.tables k) this ∙ is.kept in let both = sym there ∙ found in cc both))

  pub changed_within : (change : Table → Result Table Fault) → ((t : Table) → TableWithin b.extent t → Good (TableWithin b.extent) (change t))
      → ((t : Table) → (table ≡ b.table → t ≡ ParameterTable b.values) → Good Same (change t)) → Good (ViewWithin b) (changed_table v table change)
  changed_within change keeps same = change_within change (table_at v table) refl (All-found (TableWithin b.extent) v.ctl.tables table is.holds.tables) keeps same

  -- a change that leaves tables of values
  module _ (change : Table → Result Table Fault) (leaves : (values : List Value) → change (ParameterTable values) ≡ Ok (ParameterTable values)) where
    leaves_same : (t : Table) → (table ≡ b.table → t ≡ ParameterTable b.values) → Good Same (change t)
    leaves_same t same = record {
      good = λ u ok this.
          let first : change t ≡ change (ParameterTable b.values) = ap change (same this) in
          let whole = sym ok ∙ first ∙ leaves b.values in
          cc whole;
    }

module _ (b : Bounds) (v : LocalView) (is : ViewWithin b v) where
  pub set_keeps : (r : Ref) (field : ℕ) (value : Value) → ¬ (r.table ≡ b.table) → IsWithin b.extent value → Good (ViewWithin b) (set_field v r field value)
  set_keeps r field value other here =
      changed_within b v is r.table (λ t. table_with_field t r.line field value (fields_in t r.line))
      (λ t within. set_in_table b.extent t r.line field value here within (fields_in t r.line) (fields_within b.extent t r.line within))
      (λ t same. record { good = λ u ok this. absurd (other this) })

  pub allocate_keeps : (table line : ℕ) → Good (ViewWithin b) (allocate v table line)
  allocate_keeps table line =
      changed_within b v is table (with_line (initial_fields v.machine table) line)
      (λ t within. allocated b.extent t line (initial_fields v.machine table) (is.initial table) within)
      (leaves_same b v is table (with_line (initial_fields v.machine table) line) (λ values. refl))

  pub deallocate_keeps : (table line : ℕ) → Good (ViewWithin b) (deallocate v table line)
  deallocate_keeps table line =
      changed_within b v is table (without_line_in line) (λ t within. deallocated b.extent t line within)
      (leaves_same b v is table (without_line_in line) (λ values. refl))

  pub touch_keeps : (table line : ℕ) → Good (ViewWithin b) (touch v table line)
  touch_keeps table line =
      changed_within b v is table (used_line line) (λ t within. touched b.extent t line within)
      (leaves_same b v is table (used_line line) (λ values. refl))

  -- what is read
  abbrev Read : Ref → ℕ → Value → Type 0
  Read r field value = IsWithin b.extent value × IsKept b r field value

  read_field : (r : Ref) (field : ℕ) (o : Option (List Value)) → IfSome o (AreWithin b.extent) → (r.table ≡ b.table → r.line ≡ 0 → o ≡ Some b.values)
      → Good (Read r field) (ok_or (option_and_then (λ fields. slice_get fields field) o) Reference)
  read_field r field None here kept = good_err (Read r field) Reference
  read_field r field (Some fields) here kept = at (slice_get fields field) refl (All-found (IsWithin b.extent) fields field here)
    where
      at : (o : Option Value) → slice_get fields field ≡ o → IfSome o (IsWithin b.extent) → Good (Read r field) (ok_or o Reference)
      at None there found = good_err (Read r field) Reference
      at (Some value) there found =
          good_ok (Read r field) value (found, λ this first. let same : Some fields ≡ Some b.values = kept this first in let equal : fields ≡ b.values = cc same in ap (λ (fs : List Value). slice_get fs field) (sym equal) ∙ there)

  behind : (r : Ref) (o : Option Table) → IfSome o (TableWithin b.extent) → IfSome (option_and_then (λ t. fields_in t r.line) o) (AreWithin b.extent)
  behind r None here = tt
  behind r (Some t) here = fields_within b.extent t r.line here

  pub get_reads : (r : Ref) (field : ℕ) → Good (Read r field) (get v r field)
  get_reads r field =
      read_field r field (fields_behind v r) (behind r (table_at v r.table) (All-found (TableWithin b.extent) v.ctl.tables r.table is.holds.tables))
      (λ this first.
      let there : table_at v r.table ≡ Some (ParameterTable b.values) = ap (λ (k : ℕ). slice_get v.ctl.tables k) this ∙ is.kept in
      ap (λ (o : Option Table). option_and_then (λ t. fields_in t r.line) o) there ∙ ap (λ (n : ℕ). cond (eqb n 0) (Some b.values) None) first)
