-- What holds of a lawful local holds after each call on its tables.
use Rattle.std.proofs.Common.{◌≡◌, ℕ, ◌+◌, ◌-◌, ◌<◌, ◌≤◌, ◌%◌, Bool, true, false, cond, not, ◌||◌, eqb, List, [], ◌∷◌, ◌++◌, length, set, All, IsTrue, IfSome, IsSomeAnd, refl, sym, ap, subst, ◌∙◌, arith, Option, None, Some, Ok, Err, is_some, slice_get, unwrap_or}
use Rattle.std.proofs.lemmas.Bool.{cond_both, leb-false, not-false}
use Rattle.std.proofs.lemmas.List.{get_or_default, length-set}
use Rattle.std.proofs.lemmas.List.Elements.{All-nil, All-cons, All-append, All-set, All-push}
use Rattle.std.specs.Bool.{nat_le, nat_lt}
use Rattle.std.specs.Cmp.{nat_cmp_total}
use Rattle.std.specs.FinMap as map
use Rattle.std.specs.Ordering.{nat_cmp}
use Rattle.std.specs.Option.{option_map, option_to_list}
use Rattle.ruby_value.specs.declared.fault.Fault.TheVariants.{Absent, Full, Present, Reference}
use Rattle.ruby_value.specs.declared.kind.Kind.{Kind}
use Rattle.ruby_value.specs.declared.value.Ref.{Ref}
use Rattle.ruby_value.specs.declared.value.Value.{Value}
use Rattle.ruby_value.specs.Prelude.{available, Cache, Line, Directory, fields_of, IsCache, made_recent, set_of, Tbes, with_fields, with_set, without_line, IsLine, has_kinds, has_kind}
use Rattle.ruby_value.proofs.CacheEdits.{IsRead, cache_without, cache_recent, cache_with_fields, cache_push}
use Rattle.ruby_value.proofs.CacheSets.{set_is}
use Rattle.ruby_value.specs.declared.setup.TableSetup.{TableSetup}
use Rattle.ruby_value.specs.declared.setup.TableSize.{TableSize}
use Rattle.ruby_value.specs.declared.setup.TableSize.TheVariants as size
use Rattle.ctl_face.specs.Prelude.{allocate, with_line, deallocate, without_line_in, fields_in, with_fields_in, FitsLine, FitsLines, FitsTable, ScanFits, IsOfSize, LocalView, initial_fields, field_kinds, table_with_field, set as set_field, Table, CacheTable, DirectoryTable, TbeTable, ParameterTable, touch, used_line, IsTableSetup}
use Rattle.ctl_face.proofs.Cases.{Good, good_ok, good_err, good_cond}
use Rattle.ctl_face.proofs.Lines.{All-found, All-removed, All-written, All-at, lookup_holds, has_kinds-set}
use Rattle.ctl_face.proofs.Maps.{insert_keeps, remove_keeps}
use Rattle.ctl_face.proofs.Tables.{changed_keeps}

cache_of_size : (z : TableSize) (initial : List Value) (cache new : Cache) → (IsCache cache → IsCache new) → new.ways ≡ cache.ways → length new.sets ≡ length cache.sets → IsOfSize z initial (CacheTable cache) → IsOfSize z initial (CacheTable new)
cache_of_size (size.Cache sets ways) initial cache new keeps same_ways same_sets is = (keeps is.0, same_ways ∙ is.1, same_sets ∙ is.2)
cache_of_size size.Directory initial cache new keeps same_ways same_sets is = is
cache_of_size (size.Tbe entries) initial cache new keeps same_ways same_sets is = is
cache_of_size size.Parameters initial cache new keeps same_ways same_sets is = is

tbes_of_size : (z : TableSize) (initial : List Value) (tbes new : Tbes) → new.entries ≡ tbes.entries → (map.len tbes.held ≤ tbes.entries → map.len new.held ≤ new.entries) → IsOfSize z initial (TbeTable tbes) → IsOfSize z initial (TbeTable new)
tbes_of_size (size.Cache sets ways) initial tbes new same keeps is = is
tbes_of_size size.Directory initial tbes new same keeps is = is
tbes_of_size (size.Tbe entries) initial tbes new same keeps is = (same ∙ is.0, keeps is.1)
tbes_of_size size.Parameters initial tbes new same keeps is = is

directory_of_size : (z : TableSize) (initial : List Value) (directory new : Directory) → new.initial ≡ directory.initial → IsOfSize z initial (DirectoryTable directory) → IsOfSize z initial (DirectoryTable new)
directory_of_size (size.Cache sets ways) initial directory new same is = is
directory_of_size size.Directory initial directory new same is = same ∙ is
directory_of_size (size.Tbe entries) initial directory new same is = is
directory_of_size size.Parameters initial directory new same is = is

parameters_of_size : (z : TableSize) (initial values new : List Value) → IsOfSize z initial (ParameterTable values) → IsOfSize z initial (ParameterTable new)
parameters_of_size (size.Cache sets ways) initial values new is = is
parameters_of_size size.Directory initial values new is = is
parameters_of_size (size.Tbe entries) initial values new is = is
parameters_of_size size.Parameters initial values new is = is

-- a line's set in a cache is the one that stands at its place
is_read : (cache : Cache) (line : ℕ) → IsCache cache → IsRead cache line (line % length cache.sets) (set_of cache line)
is_read cache line ok =
    let some = ok.some_sets in
    let inside : line % length cache.sets < length cache.sets = omega arith in
    record {
      place = refl;
      inside = inside;
      read = set_is cache line ∙ get_or_default cache.sets (line % length cache.sets) [] (set_of cache line) inside;
    }

pub cache_fits : (s : TableSetup) (cache : Cache) (line : ℕ) (new : List Line) → (IsCache cache → IsCache (with_set cache line new)) → All (FitsLine s.kinds) new → FitsTable s (CacheTable cache) → FitsTable s (CacheTable (with_set cache line new))
cache_fits s cache line new keeps all fits = record {
  size = cache_of_size s.size s.initial cache (with_set cache line new) keeps refl (length-set cache.sets (line % length cache.sets) new) fits.size;
  lines = All-set (All (FitsLine s.kinds)) cache.sets (line % length cache.sets) new all fits.lines;
}

set_fits : (s : TableSetup) (cache : Cache) (line : ℕ) → FitsTable s (CacheTable cache) → All (FitsLine s.kinds) (set_of cache line)
set_fits s cache line fits = All-at (FitsLine s.kinds) cache.sets (line % length cache.sets) fits.lines

listed : (P : Line → Type 0) (line : ℕ) (o : Option (List Value)) → IfSome o (λ fields. P (line, fields)) → All P (option_to_list (option_map (λ fields. (line, fields)) o))
listed P line None here = All-nil P
listed P line (Some fields) here = All-cons P (line, fields) [] here (All-nil P)

has_room : (there : Bool) (n ways : ℕ) → there ≡ false → (there || nat_lt n ways) ≡ true → n < ways
has_room true n ways absent room = cc
has_room false n ways absent room = grind arith

-- another set of the same cache
module _ (s : TableSetup) (cache : Cache) (line : ℕ) (fits : FitsTable s (CacheTable cache)) where
  without_fits : FitsTable s (CacheTable (with_set cache line (without_line (set_of cache line) line)))
  without_fits =
      cache_fits s cache line (without_line (set_of cache line) line)
      (λ ok. cache_without cache line (line % length cache.sets) (set_of cache line) (is_read cache line ok) ok (without_line (set_of cache line) line) refl)
      (All-removed (FitsLine s.kinds) (λ l. eqb l line) (set_of cache line) (set_fits s cache line fits)) fits

  recent_fits : FitsTable s (CacheTable (with_set cache line (made_recent (set_of cache line) line)))
  recent_fits =
      let all = set_fits s cache line fits in
      let P = FitsLine s.kinds in
      let found = lookup_holds P line (set_of cache line) all in
      let rest = All-removed P (λ l. eqb l line) (set_of cache line) all in
      cache_fits s cache line (made_recent (set_of cache line) line)
      (λ ok. cache_recent cache line (line % length cache.sets) (set_of cache line) (is_read cache line ok) ok (made_recent (set_of cache line) line) refl)
      (All-append P (without_line (set_of cache line) line) (option_to_list (option_map (λ fields. (line, fields)) (fields_of (set_of cache line) line))) rest (listed P line (fields_of (set_of cache line) line) found)) fits

  written_fits : (fields : List Value) → IsTrue (has_kinds s.kinds fields) → FitsTable s (CacheTable (with_set cache line (with_fields (set_of cache line) line fields)))
  written_fits fields here =
      cache_fits s cache line (with_fields (set_of cache line) line fields)
      (λ ok. cache_with_fields cache line (line % length cache.sets) (set_of cache line) (is_read cache line ok) ok (with_fields (set_of cache line) line fields) fields refl)
      (All-written (FitsLine s.kinds) (λ l. eqb l line) fields (λ l is. (is.0, here)) (set_of cache line) (set_fits s cache line fits)) fits

  pushed_fits : (fields : List Value) → IsLine line → IsTrue (has_kinds s.kinds fields) → is_some (fields_of (set_of cache line) line) ≡ false → available cache line ≡ true → FitsTable s (CacheTable (with_set cache line (set_of cache line ++ (line, fields) ∷ [])))
  pushed_fits fields is here absent room =
      cache_fits s cache line (set_of cache line ++ (line, fields) ∷ [])
      (λ ok. cache_push cache line (line % length cache.sets) (set_of cache line) (is_read cache line ok) ok (set_of cache line ++ (line, fields) ∷ []) fields absent (has_room (is_some (fields_of (set_of cache line) line)) (length (set_of cache line)) cache.ways absent room) refl)
      (All-push (FitsLine s.kinds) (set_of cache line) (line, fields) (set_fits s cache line fits) (is, here)) fits

abbrev KindsAre : List Kind → List Value → Type 0
KindsAre kinds fields = IsTrue (has_kinds kinds fields)

-- the fields of a line that is there have their kinds
module _ (kinds : List Kind) where
  second : (line : ℕ) (o : Option (List Value)) → IfSome o (λ fields. FitsLine kinds (line, fields)) → IfSome o (KindsAre kinds)
  second line None here = tt
  second line (Some fields) here = here.1

  or_initial : (line : ℕ) (o : Option (List Value)) (initial : List Value) → KindsAre kinds initial → IfSome o (λ fields. FitsLine kinds (line, fields)) → KindsAre kinds (unwrap_or o initial)
  or_initial line None initial first here = first
  or_initial line (Some fields) initial first here = here.1

  pub kinds_in : (t : Table) (line : ℕ) → FitsLines kinds t → IfSome (fields_in t line) (KindsAre kinds)
  kinds_in (CacheTable cache) line fits = second line (fields_of (set_of cache line) line) (lookup_holds (FitsLine kinds) line (set_of cache line) (All-at (FitsLine kinds) cache.sets (line % length cache.sets) fits))
  kinds_in (DirectoryTable directory) line fits = or_initial line (map.get directory.written line) directory.initial fits.0 (fits.1 line)
  kinds_in (TbeTable tbes) line fits = second line (map.get tbes.held line) (fits line)
  kinds_in (ParameterTable values) line fits = cond_both (eqb line 0) (Some values) None (λ o. IfSome o (KindsAre kinds)) (λ _. fits) (λ _. tt)

-- as many lines as before where the line is there, and at most one more
inserted_len : (m : map.FinMap nat_cmp (List Value)) (line : ℕ) (fields : List Value) (there : Bool) → map.contains_key m line ≡ there → map.len (map.insert m line fields) ≡ cond there (map.len m) (map.len m + 1)
inserted_len m line fields there is = map.len-insert nat_cmp_total m line fields ∙ ap (λ b. cond b (map.len m) (map.len m + 1)) is

removed_len : (m : map.FinMap nat_cmp (List Value)) (line : ℕ) → map.len (map.remove m line) ≤ map.len m
removed_len m line =
    let n = map.len m in
    rw (map.len-remove nat_cmp_total m line) (cond_both (map.contains_key m line) (n - 1) n (λ k. k ≤ n) (λ _. omega arith) (λ _. omega arith))

tbes_fit : (s : TableSetup) (tbes : Tbes) (line : ℕ) (fields : List Value) → IsLine line → KindsAre s.kinds fields → (map.len tbes.held ≤ tbes.entries → map.len (map.insert tbes.held line fields) ≤ tbes.entries) → FitsTable s (TbeTable tbes) → FitsTable s (TbeTable (record tbes { held = map.insert tbes.held line fields }))
tbes_fit s tbes line fields is here room fits = record {
  size = tbes_of_size s.size s.initial tbes (record tbes { held = map.insert tbes.held line fields }) refl room fits.size;
  lines = insert_keeps (λ l f. FitsLine s.kinds (l, f)) tbes.held line fields fits.lines (is, here);
}

with_fields_fits : (s : TableSetup) (t : Table) (line : ℕ) (old fields : List Value) → IsLine line → fields_in t line ≡ Some old → KindsAre s.kinds fields → FitsTable s t → FitsTable s (with_fields_in t line fields)
with_fields_fits s (CacheTable cache) line old fields is there here fits = written_fits s cache line fits fields here
with_fields_fits s (DirectoryTable directory) line old fields is there here fits = record {
  size = directory_of_size s.size s.initial directory (record directory { written = map.insert directory.written line fields }) refl fits.size;
  lines = (fits.lines.0, insert_keeps (λ l f. FitsLine s.kinds (l, f)) directory.written line fields fits.lines.1 (is, here));
}
with_fields_fits s (TbeTable tbes) line old fields is there here fits =
    let same = inserted_len tbes.held line fields true (ap is_some there) in
    tbes_fit s tbes line fields is here (λ small. omega arith) fits
with_fields_fits s (ParameterTable values) line old fields is there here fits = record {
  size = parameters_of_size s.size s.initial values fields fits.size;
  lines = here;
}

set_in_table : (s : TableSetup) (t : Table) (line field : ℕ) (value : Value) → IsSomeAnd (slice_get s.kinds field) (λ k. IsTrue (has_kind k value)) → IsLine line → FitsTable s t → (o : Option (List Value)) → fields_in t line ≡ o → Good (FitsTable s) (table_with_field t line field value o)
set_in_table s t line field value takes is fits None there = good_err (FitsTable s) Reference
set_in_table s t line field value takes is fits (Some old) there =
    let Q : Option (List Value) → Type 0 = λ o. IfSome o (KindsAre s.kinds) in
    let old_kinds = subst Q there (kinds_in s.kinds t line fits.lines) in
    let new = set old field value in
    good_ok (FitsTable s) (with_fields_in t line new) (with_fields_fits s t line old new is there (has_kinds-set s.kinds old field value takes old_kinds) fits)

pub set_keeps : (v : LocalView) (r : Ref) (field : ℕ) (value : Value) → IsSomeAnd (slice_get (field_kinds v.machine r.table) field) (λ k. IsTrue (has_kind k value)) → IsLine r.line → ScanFits v → Good ScanFits (set_field v r field value)
set_keeps v r field value takes is lawful =
    changed_keeps v lawful r.table (λ t. table_with_field t r.line field value (fields_in t r.line))
    (λ s t there fits.
    let Q : Option TableSetup → Type 0 = λ o. IsSomeAnd (slice_get (unwrap_or (option_map (λ (u : TableSetup). u.kinds) o) []) field) (λ k. IsTrue (has_kind k value)) in
    set_in_table s t r.line field value (subst Q there takes) is fits (fields_in t r.line) refl)

allocated : (s : TableSetup) (t : Table) (line : ℕ) (fields : List Value) → IsLine line → KindsAre s.kinds fields → FitsTable s t → Good (FitsTable s) (with_line fields line t)
allocated s (CacheTable cache) line fields is here fits =
    let there = is_some (fields_of (set_of cache line) line) in
    let new = CacheTable (with_set cache line (set_of cache line ++ (line, fields) ∷ [])) in
    good_cond (FitsTable s) there (Err Present) (cond (not (available cache line)) (Err Full) (Ok new)) (λ _. good_err (FitsTable s) Present)
    (λ absent. good_cond (FitsTable s) (not (available cache line)) (Err Full) (Ok new) (λ _. good_err (FitsTable s) Full)
    (λ room. good_ok (FitsTable s) new (pushed_fits s cache line fits fields is here absent (not-false (available cache line) room))))
allocated s (DirectoryTable directory) line fields is here fits = good_ok (FitsTable s) (DirectoryTable directory) fits
allocated s (TbeTable tbes) line fields is here fits =
    let there = map.contains_key tbes.held line in
    let full = nat_le tbes.entries (map.len tbes.held) in
    let new = TbeTable (record tbes { held = map.insert tbes.held line fields }) in
    good_cond (FitsTable s) there (Err Present) (cond full (Err Full) (Ok new)) (λ _. good_err (FitsTable s) Present)
    (λ absent. good_cond (FitsTable s) full (Err Full) (Ok new) (λ _. good_err (FitsTable s) Full)
    (λ room. good_ok (FitsTable s) new
    (let more = inserted_len tbes.held line fields false absent in
    let below = leb-false tbes.entries (map.len tbes.held) room in
    tbes_fit s tbes line fields is here (λ small. omega arith) fits)))
allocated s (ParameterTable values) line fields is here fits = good_ok (FitsTable s) (ParameterTable values) fits

pub allocate_keeps : (v : LocalView) (table line : ℕ) → IsLine line → ScanFits v → Good ScanFits (allocate v table line)
allocate_keeps v table line is lawful =
    changed_keeps v lawful table (with_line (initial_fields v.machine table) line)
    (λ s t there fits.
    let P : Option TableSetup → Type 0 = λ o. IfSome o (IsTableSetup) in
    let Q : List Value → Type 0 = λ fields. Good (FitsTable s) (with_line fields line t) in
    let same : initial_fields v.machine table ≡ s.initial = ap (λ o. unwrap_or (option_map (λ (u : TableSetup). u.initial) o) []) there in
    subst Q (sym same) (allocated s t line s.initial is (subst P there (All-found (IsTableSetup) v.machine.tables table lawful.machine.tables)).initial fits))

deallocated : (s : TableSetup) (t : Table) (line : ℕ) → FitsTable s t → Good (FitsTable s) (without_line_in line t)
deallocated s (CacheTable cache) line fits =
    let new = CacheTable (with_set cache line (without_line (set_of cache line) line)) in
    good_cond (FitsTable s) (is_some (fields_of (set_of cache line) line)) (Ok new) (Err Absent) (λ _. good_ok (FitsTable s) new (without_fits s cache line fits)) (λ _. good_err (FitsTable s) Absent)
deallocated s (DirectoryTable directory) line fits = good_ok (FitsTable s) (DirectoryTable directory) fits
deallocated s (TbeTable tbes) line fits =
    let held = map.remove tbes.held line in
    let new = TbeTable (record tbes { held = held }) in
    let fewer = removed_len tbes.held line in
    good_cond (FitsTable s) (map.contains_key tbes.held line) (Ok new) (Err Absent)
    (λ _. good_ok (FitsTable s) new (record {
      size = tbes_of_size s.size s.initial tbes (record tbes { held = held }) refl (λ small. omega arith) fits.size;
      lines = remove_keeps (λ l f. FitsLine s.kinds (l, f)) tbes.held line fits.lines;
    })) (λ _. good_err (FitsTable s) Absent)
deallocated s (ParameterTable values) line fits = good_ok (FitsTable s) (ParameterTable values) fits

pub deallocate_keeps : (v : LocalView) (table line : ℕ) → ScanFits v → Good ScanFits (deallocate v table line)
deallocate_keeps v table line lawful = changed_keeps v lawful table (without_line_in line) (λ s t there fits. deallocated s t line fits)

touched : (s : TableSetup) (t : Table) (line : ℕ) → FitsTable s t → Good (FitsTable s) (used_line line t)
touched s (CacheTable cache) line fits =
    let new = CacheTable (with_set cache line (made_recent (set_of cache line) line)) in
    good_cond (FitsTable s) (is_some (fields_of (set_of cache line) line)) (Ok new) (Err Absent) (λ _. good_ok (FitsTable s) new (recent_fits s cache line fits)) (λ _. good_err (FitsTable s) Absent)
touched s (DirectoryTable directory) line fits = good_ok (FitsTable s) (DirectoryTable directory) fits
touched s (TbeTable tbes) line fits = good_ok (FitsTable s) (TbeTable tbes) fits
touched s (ParameterTable values) line fits = good_ok (FitsTable s) (ParameterTable values) fits

pub touch_keeps : (v : LocalView) (table line : ℕ) → ScanFits v → Good ScanFits (touch v table line)
touch_keeps v table line lawful = changed_keeps v lawful table (used_line line) (λ s t there fits. touched s t line fits)
