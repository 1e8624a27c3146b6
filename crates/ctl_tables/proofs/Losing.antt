-- A line that is taken out of a table, or used.
use Rattle.std.proofs.Common.{◌≡◌, ℕ, zero, suc, true, false, cond, List, [], ◌∷◌, set, Option, None, Some, is_some, Ok, Err, slice_get, refl, sym, ap, ◌∙◌}
use Rattle.std.proofs.lemmas.Bool.{true≢false}
use Rattle.std.specs.FinMap as map
use Rattle.std.specs.Option.{option_and_then, option_map}
use Rattle.ruby_value.specs.declared.fault.Fault.TheVariants.{Absent}
use Rattle.ruby_value.specs.Prelude.{made_recent, set_of, with_set, without_line}
use Rattle.ctl_face.specs.Prelude.{without_line_in, fields_in, Table, CacheTable, DirectoryTable, TbeTable, ParameterTable, used_line}
use Rattle.ctl_tables.specs.declared.change.Edit.TheVariants as edit
use Rattle.ctl_tables.specs.declared.change.TableChange.{TableChange}
use Rattle.ctl_tables.specs.Prelude.{frame_at, frame_of, keeps_order, loses_lines, after_change_in, change_if_there_in, deallocate_in, fields_at, touch_in}
use Rattle.ctl_tables.proofs.Doing.{IsDone, done_of}

pub set_same : {X : Type 0} (xs : List X) (i : ℕ) (x : X) → slice_get xs i ≡ Some x → set xs i x ≡ xs
set_same [] i x is = refl
set_same (y ∷ ys) zero x is = let e : y ≡ x = cc in ap (λ z. z ∷ ys) (sym e)
set_same (y ∷ ys) (suc i) x is = ap (λ zs. y ∷ zs) (set_same ys i x is)

module _ (ts : List Table) (n line : ℕ) where
  abbrev removal : TableChange
  removal = record { table = n; line = line; edit = edit.Remove }

  abbrev use_of : TableChange
  use_of = record { table = n; line = line; edit = edit.Use }

  remove_by : (t : Table) → slice_get ts n ≡ Some t → loses_lines (Some (frame_of t)) ≡ true → is_some (fields_in t line) ≡ true → IsDone (deallocate_in ts n line) removal ts
  remove_by (CacheTable cache) is loses there =
      let new = CacheTable (with_set cache line (without_line (set_of cache line) line)) in
      let made : without_line_in line (CacheTable cache) ≡ Ok new = ap (λ b. cond b (Ok new) (Err Absent)) there in
      done_of removal ts (without_line_in line) (CacheTable cache) new is made made tt
  remove_by (DirectoryTable directory) is loses there = absurd (true≢false (sym loses))
  remove_by (TbeTable tbes) is loses there =
      let new = TbeTable (record tbes { held = map.remove tbes.held line }) in
      let made : without_line_in line (TbeTable tbes) ≡ Ok new = ap (λ b. cond b (Ok new) (Err Absent)) there in
      done_of removal ts (without_line_in line) (TbeTable tbes) new is made made tt
  remove_by (ParameterTable values) is loses there = absurd (true≢false (sym loses))

  use_by : (t : Table) → slice_get ts n ≡ Some t → keeps_order (Some (frame_of t)) ≡ true → is_some (fields_in t line) ≡ true → IsDone (touch_in ts n line) use_of ts
  use_by (CacheTable cache) is keeps there =
      let new = CacheTable (with_set cache line (made_recent (set_of cache line) line)) in
      let made : used_line line (CacheTable cache) ≡ Ok new = ap (λ b. cond b (Ok new) (Err Absent)) there in
      done_of use_of ts (used_line line) (CacheTable cache) new is made made tt
  use_by (DirectoryTable directory) is keeps there = absurd (true≢false (sym keeps))
  use_by (TbeTable tbes) is keeps there = absurd (true≢false (sym keeps))
  use_by (ParameterTable values) is keeps there = absurd (true≢false (sym keeps))

  at_table : (Goal : Type 0) (o : Option Table) → slice_get ts n ≡ o → is_some (option_and_then (λ (t : Table). fields_in t line) o) ≡ true → ((t : Table) → slice_get ts n ≡ Some t → is_some (fields_in t line) ≡ true → Goal) → Goal
  at_table Goal None is there holds = absurd (true≢false (sym there))
  at_table Goal (Some t) is there holds = holds t is there

  pub remove_done : loses_lines (frame_at ts n) ≡ true → is_some (fields_at ts n line) ≡ true → IsDone (deallocate_in ts n line) removal ts
  remove_done loses there =
      at_table (IsDone (deallocate_in ts n line) removal ts) (slice_get ts n) refl there
      (λ t is here. remove_by t is (sym (ap (λ o. loses_lines (option_map frame_of o)) is) ∙ loses) here)

  pub use_done : keeps_order (frame_at ts n) ≡ true → is_some (fields_at ts n line) ≡ true → IsDone (touch_in ts n line) use_of ts
  use_done keeps there =
      at_table (IsDone (touch_in ts n line) use_of ts) (slice_get ts n) refl there
      (λ t is here. use_by t is (sym (ap (λ o. keeps_order (option_map frame_of o)) is) ∙ keeps) here)

  -- the faults
  no_remove : (o : Option Table) → loses_lines (option_map frame_of o) ≡ true → is_some (option_and_then (λ (t : Table). fields_in t line) o) ≡ false → change_if_there_in ts n (without_line_in line) o ≡ Err Absent
  no_remove None loses gone = absurd (true≢false (sym loses))
  no_remove (Some (CacheTable cache)) loses gone = ap (λ b. after_change_in ts n (cond b (Ok (CacheTable (with_set cache line (without_line (set_of cache line) line)))) (Err Absent))) gone
  no_remove (Some (DirectoryTable directory)) loses gone = absurd (true≢false (sym loses))
  no_remove (Some (TbeTable tbes)) loses gone = ap (λ b. after_change_in ts n (cond b (Ok (TbeTable (record tbes { held = map.remove tbes.held line }))) (Err Absent))) gone
  no_remove (Some (ParameterTable values)) loses gone = absurd (true≢false (sym loses))

  no_use : (o : Option Table) → keeps_order (option_map frame_of o) ≡ true → is_some (option_and_then (λ (t : Table). fields_in t line) o) ≡ false → change_if_there_in ts n (used_line line) o ≡ Err Absent
  no_use None keeps gone = absurd (true≢false (sym keeps))
  no_use (Some (CacheTable cache)) keeps gone = ap (λ b. after_change_in ts n (cond b (Ok (CacheTable (with_set cache line (made_recent (set_of cache line) line)))) (Err Absent))) gone
  no_use (Some (DirectoryTable directory)) keeps gone = absurd (true≢false (sym keeps))
  no_use (Some (TbeTable tbes)) keeps gone = absurd (true≢false (sym keeps))
  no_use (Some (ParameterTable values)) keeps gone = absurd (true≢false (sym keeps))

  pub remove_absent : loses_lines (frame_at ts n) ≡ true → is_some (fields_at ts n line) ≡ false → deallocate_in ts n line ≡ Err Absent
  remove_absent = no_remove (slice_get ts n)

  pub use_absent : keeps_order (frame_at ts n) ≡ true → is_some (fields_at ts n line) ≡ false → touch_in ts n line ≡ Err Absent
  use_absent = no_use (slice_get ts n)

  -- a table that this isn't for stays as it is
  same_remove : (o : Option Table) → slice_get ts n ≡ o → loses_lines (option_map frame_of o) ≡ false → change_if_there_in ts n (without_line_in line) o ≡ Ok ts
  same_remove None is no_lines = refl
  same_remove (Some (CacheTable cache)) is no_lines = absurd (true≢false no_lines)
  same_remove (Some (DirectoryTable directory)) is no_lines = ap Ok (set_same ts n (DirectoryTable directory) is)
  same_remove (Some (TbeTable tbes)) is no_lines = absurd (true≢false no_lines)
  same_remove (Some (ParameterTable values)) is no_lines = ap Ok (set_same ts n (ParameterTable values) is)

  same_use : (o : Option Table) → slice_get ts n ≡ o → keeps_order (option_map frame_of o) ≡ false → change_if_there_in ts n (used_line line) o ≡ Ok ts
  same_use None is no_order = refl
  same_use (Some (CacheTable cache)) is no_order = absurd (true≢false no_order)
  same_use (Some (DirectoryTable directory)) is no_order = ap Ok (set_same ts n (DirectoryTable directory) is)
  same_use (Some (TbeTable tbes)) is no_order = ap Ok (set_same ts n (TbeTable tbes) is)
  same_use (Some (ParameterTable values)) is no_order = ap Ok (set_same ts n (ParameterTable values) is)

  pub remove_nothing : loses_lines (frame_at ts n) ≡ false → deallocate_in ts n line ≡ Ok ts
  remove_nothing = same_remove (slice_get ts n) refl

  pub use_nothing : keeps_order (frame_at ts n) ≡ false → touch_in ts n line ≡ Ok ts
  use_nothing = same_use (slice_get ts n) refl
