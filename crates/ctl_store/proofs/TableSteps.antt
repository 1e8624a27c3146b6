-- A call that changes a scan's tables, or its states, as a call on the local that the scan is.
use Rattle.std.proofs.Common.{◌≡◌, ◌<◌, ℕ, List, [], ◌∷◌, zero, suc, Option, None, Some, Result, Ok, Err, IsTrue, IfErr, IfOk, IfSome, IsSomeAnd, OnErr, OnOk, length, slice_get, unwrap_or, refl, sym, ap, subst, arith}
use Rattle.std.specs.FinMap as map
use Rattle.std.specs.Option.{option_and_then, option_map}
use Rattle.std.specs.Ordering.{nat_cmp}
use Rattle.std.proofs.lemmas.Bool.{and_parts}
use Rattle.ruby_value.specs.declared.fault.Fault.{Fault}
use Rattle.ruby_value.specs.declared.kind.Kind.{Kind}
use Rattle.ruby_value.specs.declared.setup.TableSetup.{TableSetup}
use Rattle.ruby_value.specs.declared.value.Ref.{Ref}
use Rattle.ruby_value.specs.declared.value.Value.{Value}
use Rattle.ruby_value.specs.Prelude.{has_kind, has_kinds, IsLine}
use Rattle.ctl_face.specs.declared.trouble.Trouble.{Trouble}
use Rattle.ctl_face.specs.declared.trouble.Trouble.TheVariants as trouble
use Rattle.ctl_face.specs.Prelude.{allocate, deallocate, DoesWith, fields_in, FitsTableAt, IsLawful, LocalView, reference_to, initial_fields, HasStates, TakesField, set, set_state, Table, touch}
use Rattle.ctl_face.proofs.ActsKept.{changed_acts}
use Rattle.ctl_face.proofs.Callbacks.{set_state_keeps}
use Rattle.ctl_face.proofs.LawfulAfter.{lawful_after}
use Rattle.ctl_face.proofs.TableCalls.{allocate_keeps, deallocate_keeps, kinds_in, set_keeps, touch_keeps}
use Rattle.ctl_tables.specs.declared.change.TableChanges.{TableChanges}
use Rattle.ctl_tables.specs.Prelude.{DoesIn, allocate_in, deallocate_in, fields_at, set_in, touch_in}
use Rattle.ctl_tables.specs.Stored as tables
use Rattle.ctl_tables.proofs.Views.{allocate_does, deallocate_does, set_does, set_state_does, touch_does}
use Rattle.ctl_store.specs.Prelude.{IsScan, Scanned, local_of}
use Rattle.ctl_store.proofs.Stays.{Steps, stays_lawful}

-- the scan with other changes of its tables and states
abbrev pub with_changes : Scanned → TableChanges → Scanned
with_changes s t = record s { changes = record s.changes { tables = t } }

abbrev no_kinds : List Kind
no_kinds = []

none_there : (n : ℕ) (value : Value) → IsSomeAnd (slice_get no_kinds n) (λ k. IsTrue (has_kind k value)) → ⊥
none_there zero value takes = takes
none_there (suc n) value takes = takes

few_fields : (kinds : List Kind) (fields : List Value) (field : ℕ) (value : Value) → IsTrue (has_kinds kinds fields)
    → IsSomeAnd (slice_get kinds field) (λ k. IsTrue (has_kind k value)) → field < length fields
few_fields [] fields field value all takes = absurd (none_there field value takes)
few_fields (k ∷ ks) [] field value all takes = absurd (cc all)
few_fields (k ∷ ks) (v ∷ vs) zero value all takes = omega arith
few_fields (k ∷ ks) (v ∷ vs) (suc field) value all takes =
    omega (arith, few_fields ks vs field value (and_parts (has_kind k v) (has_kinds ks vs) all).1 takes)

-- a field that a table's lines have is one of a line that is there
pub field_within : (s v : Scanned) (r : Ref) (field : ℕ) (value : Value) → s ≡ v → IsScan s → TakesField (local_of v) r.table field value
    → IfSome (fields_at (tables.tables_now s.parts.tables s.changes.tables) r.table r.line) (λ fields. field < length fields)
field_within s v r field value same is takes =
    at (slice_get s.parts.machine.tables r.table) (slice_get (tables.tables_now s.parts.tables s.changes.tables) r.table)
    (is.lawful.scan.fits.tables.each r.table) (subst (λ (u : Scanned). TakesField (local_of u) r.table field value) (sym same) takes)
  where
    in_line : (kinds : List Kind) (o : Option (List Value)) → IfSome o (λ fields. IsTrue (has_kinds kinds fields))
        → IsSomeAnd (slice_get kinds field) (λ k. IsTrue (has_kind k value)) → IfSome o (λ fields. field < length fields)
    in_line kinds None fit takes = tt
    in_line kinds (Some fields) fit takes = few_fields kinds fields field value fit takes

    at : (o : Option TableSetup) (p : Option Table) → FitsTableAt o p
        → IsSomeAnd (slice_get (unwrap_or (option_map (λ (u : TableSetup). u.kinds) o) []) field) (λ k. IsTrue (has_kind k value))
        → IfSome (option_and_then (λ (u : Table). fields_in u r.line) p) (λ fields. field < length fields)
    at o None fits takes = tt
    at None (Some u) fits takes = absurd fits
    at (Some t) (Some u) fits takes = in_line t.kinds (fields_in u r.line) (kinds_in t.kinds u r.line fits.lines) takes

-- the initial fields that were found are those of the machine
pub initial_is : (o : Option (List Value)) (fields : List Value) → Some fields ≡ o → fields ≡ unwrap_or o []
initial_is None fields is = absurd (cc is)
initial_is (Some x) fields is = cc is

module _ (s v : Scanned) (t : TableChanges) (same_scan : s ≡ v) (is : IsScan s) (of_tables : tables.AreOf t s.parts.tables) where
  abbrev pub before : List Table
  before = tables.tables_now s.parts.tables s.changes.tables

  abbrev pub after : List Table
  after = tables.tables_now s.parts.tables t

  abbrev states_before : map.FinMap nat_cmp ℕ
  states_before = tables.states_now s.parts.tables s.changes.tables

  abbrev states_after : map.FinMap nat_cmp ℕ
  states_after = tables.states_now s.parts.tables t

  -- by a call that does what this act has
  step : {A : Type 0} (act : LocalView → Result LocalView Fault) (answer : LocalView → A) (result : Result A Trouble)
      → DoesWith (act (local_of s)) (answer (local_of s)) result (local_of s) (local_of (with_changes s t))
      → ((u : LocalView) → act (local_of s) ≡ Ok u → IsLawful u)
      → Steps act answer result v (with_changes s t)
  step act answer result does kept =
      let lawful = stays_lawful (act (local_of s)) (answer (local_of s)) result (local_of s) (local_of (with_changes s t)) kept is.lawful does in
      subst (λ (u : Scanned). Steps act answer result u (with_changes s t)) same_scan
      (record { does = does; lawful = lawful; scan = record { kept = is.kept; lawful = lawful; tables = of_tables; mail = is.mail; calls = is.calls } })

  pub set_step : (r : Ref) (field : ℕ) (value : Value) (result : Result (Unit {0}) Trouble)
      → TakesField (local_of v) r.table field value → IsLine r.line
      → DoesIn (set_in before r field value) result before after → states_after ≡ states_before
      → Steps (λ u. set u r field value) (λ u. tt) result v (with_changes s t)
  set_step r field value result takes line does same =
      step (λ u. set u r field value) (λ u. tt) result
      (set_does (local_of s) before states_before after states_after r field value result same does)
      (λ u. lawful_after _ (set_keeps (local_of s) r field value (subst (λ (w : Scanned). TakesField (local_of w) r.table field value) (sym same_scan) takes) line is.lawful.scan) (changed_acts (local_of s) is.lawful.acts r.table _) u)

  pub allocate_step : (table line : ℕ) (fields : List Value) (result : Result Ref Trouble)
      → IsLine line → fields ≡ initial_fields s.parts.machine table
      → DoesIn (allocate_in before table line fields) result before after → IfOk result (λ r. r ≡ reference_to table line)
      → states_after ≡ states_before
      → Steps (λ u. allocate u table line) (λ u. reference_to table line) result v (with_changes s t)
  allocate_step table line fields result is_line first does answers same =
      step (λ u. allocate u table line) (λ u. reference_to table line) result
      (allocate_does (local_of s) before states_before after states_after table line fields result first same does answers)
      (λ u. lawful_after _ (allocate_keeps (local_of s) table line is_line is.lawful.scan) (changed_acts (local_of s) is.lawful.acts table _) u)

  pub deallocate_step : (table line : ℕ) (result : Result (Unit {0}) Trouble)
      → DoesIn (deallocate_in before table line) result before after → states_after ≡ states_before
      → Steps (λ u. deallocate u table line) (λ u. tt) result v (with_changes s t)
  deallocate_step table line result does same =
      step (λ u. deallocate u table line) (λ u. tt) result
      (deallocate_does (local_of s) before states_before after states_after table line result same does)
      (λ u. lawful_after _ (deallocate_keeps (local_of s) table line is.lawful.scan) (changed_acts (local_of s) is.lawful.acts table _) u)

  pub touch_step : (table line : ℕ) (result : Result (Unit {0}) Trouble)
      → DoesIn (touch_in before table line) result before after → states_after ≡ states_before
      → Steps (λ u. touch u table line) (λ u. tt) result v (with_changes s t)
  touch_step table line result does same =
      step (λ u. touch u table line) (λ u. tt) result
      (touch_does (local_of s) before states_before after states_after table line result same does)
      (λ u. lawful_after _ (touch_keeps (local_of s) table line is.lawful.scan) (changed_acts (local_of s) is.lawful.acts table _) u)

  pub set_state_step : (line new : ℕ) (result : Result (Unit {0}) Trouble)
      → HasStates (local_of v) → IsLine line
      → OnOk result (states_after ≡ map.insert states_before line new) → OnErr result (states_after ≡ states_before)
      → IfErr result (λ e. e ≡ trouble.NoMemory) → after ≡ before
      → Steps (λ u. Ok (set_state u line new)) (λ u. tt) result v (with_changes s t)
  set_state_step line new result has is_line ok err memory same =
      step (λ u. Ok (set_state u line new)) (λ u. tt) result
      (set_state_does (local_of s) before states_before after states_after line new result same ok err memory)
      (λ u is_ok. subst IsLawful (cc is_ok)
      (record {
        scan = set_state_keeps (local_of s) line new (subst (λ (w : Scanned). HasStates (local_of w)) (sym same_scan) has) is_line is.lawful.scan;
        acts = is.lawful.acts;
      }))
