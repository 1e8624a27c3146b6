-- A line that is put into a table, and whether there is a place for it.
use Rattle.std.proofs.Common.{◌≡◌, ◌<◌, ◌≤◌, ◌-◌, ℕ, Bool, true, false, cond, not, ◌||◌, List, [], ◌∷◌, ◌++◌, length, Option, None, Some, is_some, Ok, Err, slice_get, refl, sym, ap, subst, ◌∙◌, inl, inr, arith}
use Rattle.std.proofs.lemmas.Bool.{true≢false, cases_Bool, ltb-false, ltb-true, le-leb, le-ltb, lt-leb, lt-ltb}
use Rattle.std.specs.Bool.{nat_lt, nat_le}
use Rattle.std.specs.FinMap as map
use Rattle.std.specs.Option.{option_and_then, option_map}
use Rattle.ruby_value.specs.declared.fault.Fault.TheVariants.{Full, Present}
use Rattle.ruby_value.specs.declared.value.Value.{Value}
use Rattle.ruby_value.specs.Prelude.{available, Cache, fields_of, set_of, with_set}
use Rattle.ctl_face.specs.Prelude.{with_line, available_in, fields_in, Table, CacheTable, DirectoryTable, TbeTable, ParameterTable}
use Rattle.ctl_tables.specs.declared.change.Edit.TheVariants as edit
use Rattle.ctl_tables.specs.declared.change.TableChange.{TableChange}
use Rattle.ctl_tables.specs.Prelude.{frame_at, frame_of, keeps_order, loses_lines, room_in, after_change_in, allocate_in, avail_from, change_if_there_in, fields_at}
use Rattle.ctl_tables.proofs.Doing.{IsDone, done_of}
use Rattle.ctl_tables.proofs.Losing.{set_same}

-- a place is left, or none
below : (lines places : ℕ) → 0 < places - lines → lines < places
below lines places room = omega arith

above : (lines places : ℕ) → places - lines ≡ 0 → places ≤ lines
above lines places none = omega arith

is_left : (lines places : ℕ) → nat_lt 0 (places - lines) ≡ nat_lt lines places
is_left lines places = elim (cases_Bool (nat_lt lines places)) [
  | inl less ↦ let l = ltb-true lines places less in lt-ltb 0 (places - lines) (omega arith) ∙ sym less
  | inr more ↦ let m = ltb-false lines places more in le-ltb 0 (places - lines) (omega arith) ∙ sym more
]

module _ (cache : Cache) (line : ℕ) where
  abbrev holds : Bool
  holds = is_some (fields_of (set_of cache line) line)

  has_place : 0 < room_in (Some (CacheTable cache)) line → available cache line ≡ true
  has_place room = ap (λ b. holds || b) (lt-ltb (length (set_of cache line)) cache.ways (below (length (set_of cache line)) cache.ways room)) ∙ or_true holds
    where
      or_true : (b : Bool) → (b || true) ≡ true
      or_true true = refl
      or_true false = refl

  no_place : holds ≡ false → room_in (Some (CacheTable cache)) line ≡ 0 → available cache line ≡ false
  no_place gone none = ap (λ b. b || nat_lt (length (set_of cache line)) cache.ways) gone ∙ le-ltb (length (set_of cache line)) cache.ways (above (length (set_of cache line)) cache.ways none)

-- whether a line is in a cache or has a place there
module _ (ts : List Table) (n line : ℕ) where
  abbrev is_there : Option Table → Bool
  is_there o = is_some (option_and_then (λ (t : Table). fields_in t line) o)

  other_by : (o : Option Table) → keeps_order (option_map frame_of o) ≡ false → available_in o line ≡ true
  other_by None keeps = refl
  other_by (Some (CacheTable cache)) keeps = absurd (true≢false keeps)
  other_by (Some (DirectoryTable directory)) keeps = refl
  other_by (Some (TbeTable tbes)) keeps = refl
  other_by (Some (ParameterTable values)) keeps = refl

  there_by : (o : Option Table) → is_there o ≡ true → available_in o line ≡ true
  there_by None there = refl
  there_by (Some (CacheTable cache)) there = ap (λ b. b || nat_lt (length (set_of cache line)) cache.ways) there
  there_by (Some (DirectoryTable directory)) there = refl
  there_by (Some (TbeTable tbes)) there = refl
  there_by (Some (ParameterTable values)) there = refl

  left_by : (o : Option Table) → keeps_order (option_map frame_of o) ≡ true → is_there o ≡ false → nat_lt 0 (room_in o line) ≡ available_in o line
  left_by None keeps gone = absurd (true≢false (sym keeps))
  left_by (Some (CacheTable cache)) keeps gone = is_left (length (set_of cache line)) cache.ways ∙ sym (ap (λ b. b || nat_lt (length (set_of cache line)) cache.ways) gone)
  left_by (Some (DirectoryTable directory)) keeps gone = absurd (true≢false (sym keeps))
  left_by (Some (TbeTable tbes)) keeps gone = absurd (true≢false (sym keeps))
  left_by (Some (ParameterTable values)) keeps gone = absurd (true≢false (sym keeps))

  pub avail_other : keeps_order (frame_at ts n) ≡ false → avail_from ts n line ≡ true
  avail_other = other_by (slice_get ts n)

  pub avail_there : is_some (fields_at ts n line) ≡ true → avail_from ts n line ≡ true
  avail_there = there_by (slice_get ts n)

  pub avail_left : keeps_order (frame_at ts n) ≡ true → is_some (fields_at ts n line) ≡ false → nat_lt 0 (room_in (slice_get ts n) line) ≡ avail_from ts n line
  avail_left = left_by (slice_get ts n)

  -- an allocation
  module _ (fields : List Value) where
    abbrev addition : TableChange
    addition = record { table = n; line = line; edit = edit.Add fields }

    add_by : (t : Table) → slice_get ts n ≡ Some t → loses_lines (Some (frame_of t)) ≡ true → is_there (Some t) ≡ false → 0 < room_in (Some t) line → IsDone (allocate_in ts n line fields) addition ts
    add_by (CacheTable cache) is loses gone room =
        let new = CacheTable (with_set cache line (set_of cache line ++ (line, fields) ∷ [])) in
        let made : with_line fields line (CacheTable cache) ≡ Ok new =
        ap (λ b. cond b (Err Present) (cond (not (available cache line)) (Err Full) (Ok new))) gone
        ∙ ap (λ b. cond (not b) (Err Full) (Ok new)) (has_place cache line room) in
        done_of addition ts (with_line fields line) (CacheTable cache) new is made made tt
    add_by (DirectoryTable directory) is loses gone room = absurd (true≢false (sym loses))
    add_by (TbeTable tbes) is loses gone room =
        let new = TbeTable (record tbes { held = map.insert tbes.held line fields }) in
        let full = nat_le tbes.entries (map.len tbes.held) in
        let made : with_line fields line (TbeTable tbes) ≡ Ok new =
        ap (λ b. cond b (Err Present) (cond full (Err Full) (Ok new))) gone
        ∙ ap (λ b. cond b (Err Full) (Ok new)) (lt-leb tbes.entries (map.len tbes.held) (below (map.len tbes.held) tbes.entries room)) in
        done_of addition ts (with_line fields line) (TbeTable tbes) new is made made tt
    add_by (ParameterTable values) is loses gone room = absurd (true≢false (sym loses))

    add_at : (o : Option Table) → slice_get ts n ≡ o → loses_lines (option_map frame_of o) ≡ true → is_there o ≡ false → 0 < room_in o line → IsDone (allocate_in ts n line fields) addition ts
    add_at None is loses gone room = absurd (true≢false (sym loses))
    add_at (Some t) is loses gone room = add_by t is loses gone room

    add_done : loses_lines (frame_at ts n) ≡ true → is_some (fields_at ts n line) ≡ false → 0 < room_in (slice_get ts n) line → IsDone (allocate_in ts n line fields) addition ts
    add_done = add_at (slice_get ts n) refl

    -- by fields that are the same
    pub add_done_by : (own : List Value) → own ≡ fields → loses_lines (frame_at ts n) ≡ true → is_some (fields_at ts n line) ≡ false → 0 < room_in (slice_get ts n) line → IsDone (allocate_in ts n line fields) (record { table = n; line = line; edit = edit.Add own }) ts
    add_done_by own same loses gone room =
        let P : List Value → Type 0 = λ fs. IsDone (allocate_in ts n line fields) (record { table = n; line = line; edit = edit.Add fs }) ts in
        subst P (sym same) (add_done loses gone room)

    -- the faults, in their order
    present_by : (o : Option Table) → loses_lines (option_map frame_of o) ≡ true → is_there o ≡ true → change_if_there_in ts n (with_line fields line) o ≡ Err Present
    present_by None loses there = absurd (true≢false (sym loses))
    present_by (Some (CacheTable cache)) loses there =
        ap (λ b. after_change_in ts n (cond b (Err Present) (cond (not (available cache line)) (Err Full) (Ok (CacheTable (with_set cache line (set_of cache line ++ (line, fields) ∷ []))))))) there
    present_by (Some (DirectoryTable directory)) loses there = absurd (true≢false (sym loses))
    present_by (Some (TbeTable tbes)) loses there =
        ap (λ b. after_change_in ts n (cond b (Err Present) (cond (nat_le tbes.entries (map.len tbes.held)) (Err Full) (Ok (TbeTable (record tbes { held = map.insert tbes.held line fields })))))) there
    present_by (Some (ParameterTable values)) loses there = absurd (true≢false (sym loses))

    full_by : (o : Option Table) → loses_lines (option_map frame_of o) ≡ true → is_there o ≡ false → room_in o line ≡ 0 → change_if_there_in ts n (with_line fields line) o ≡ Err Full
    full_by None loses gone none = absurd (true≢false (sym loses))
    full_by (Some (CacheTable cache)) loses gone none =
        let new = CacheTable (with_set cache line (set_of cache line ++ (line, fields) ∷ [])) in
        ap (λ b. after_change_in ts n (cond b (Err Present) (cond (not (available cache line)) (Err Full) (Ok new)))) gone
        ∙ ap (λ b. after_change_in ts n (cond (not b) (Err Full) (Ok new))) (no_place cache line gone none)
    full_by (Some (DirectoryTable directory)) loses gone none = absurd (true≢false (sym loses))
    full_by (Some (TbeTable tbes)) loses gone none =
        let new = TbeTable (record tbes { held = map.insert tbes.held line fields }) in
        ap (λ b. after_change_in ts n (cond b (Err Present) (cond (nat_le tbes.entries (map.len tbes.held)) (Err Full) (Ok new)))) gone
        ∙ ap (λ b. after_change_in ts n (cond b (Err Full) (Ok new))) (le-leb tbes.entries (map.len tbes.held) (above (map.len tbes.held) tbes.entries none))
    full_by (Some (ParameterTable values)) loses gone none = absurd (true≢false (sym loses))

    pub add_present : loses_lines (frame_at ts n) ≡ true → is_some (fields_at ts n line) ≡ true → allocate_in ts n line fields ≡ Err Present
    add_present = present_by (slice_get ts n)

    pub add_full : loses_lines (frame_at ts n) ≡ true → is_some (fields_at ts n line) ≡ false → room_in (slice_get ts n) line ≡ 0 → allocate_in ts n line fields ≡ Err Full
    add_full = full_by (slice_get ts n)

    -- a table that this isn't for stays as it is
    same_by : (o : Option Table) → slice_get ts n ≡ o → loses_lines (option_map frame_of o) ≡ false → change_if_there_in ts n (with_line fields line) o ≡ Ok ts
    same_by None is no_lines = refl
    same_by (Some (CacheTable cache)) is no_lines = absurd (true≢false no_lines)
    same_by (Some (DirectoryTable directory)) is no_lines = ap Ok (set_same ts n (DirectoryTable directory) is)
    same_by (Some (TbeTable tbes)) is no_lines = absurd (true≢false no_lines)
    same_by (Some (ParameterTable values)) is no_lines = ap Ok (set_same ts n (ParameterTable values) is)

    pub add_nothing : loses_lines (frame_at ts n) ≡ false → allocate_in ts n line fields ≡ Ok ts
    add_nothing = same_by (slice_get ts n) refl
