-- The acts on a local's tables and states, by the calls of this crate: what a draft, whose view has the tables and states as its
-- changes have left them, takes from them. A read has the same answer, and a call that does something to the list of tables, or to
-- the states, does it to the local.
use Rattle.std.proofs.Common.{◌≡◌, ℕ, List, Option, None, Some, Result, Ok, Err, IfErr, IfOk, OnErr, OnOk, refl, slice_get, subst, sym, ap, ◌∙◌}
use Rattle.std.specs.FinMap as map
use Rattle.std.specs.Option.{unwrap_or}
use Rattle.std.specs.Ordering.{nat_cmp}
use Rattle.ruby_value.specs.declared.fault.Fault.{Fault}
use Rattle.ruby_value.specs.declared.value.Ref.{Ref}
use Rattle.ruby_value.specs.declared.value.Value.{Value}
use Rattle.ctl_face.specs.declared.trouble.Trouble.{Trouble}
use Rattle.ctl_face.specs.declared.trouble.Trouble.TheVariants as trouble
use Rattle.ctl_face.specs.Prelude.{allocate, with_line, avail, probe, deallocate, without_line_in, Comes, Does, DoesWith, fields_in, free, get, LocalView, SameScan, lookup, reference_to, initial_fields, set as set_field, table_with_field, set_state, state, Table, after_change, change_if_there, changed_table, touch, used_line}
use Rattle.ctl_tables.specs.Prelude.{DoesIn, after_change_in, allocate_in, avail_from, change_if_there_in, changed_in, deallocate_in, free_from, get_from, lookup_from, probe_from, set_in, touch_in}

-- the local with other tables and states
abbrev pub with_held : LocalView → List Table → map.FinMap nat_cmp ℕ → LocalView
with_held v ts states = record v { ctl = record v.ctl { tables = ts; states = states } }

-- what an act on the tables makes of the local
abbrev pub viewed : LocalView → map.FinMap nat_cmp ℕ → Result (List Table) Fault → Result LocalView Fault
viewed v states (Ok ts) = Ok (with_held v ts states)
viewed v states (Err fault) = Err fault

module _ (v : LocalView) (ts : List Table) (states : map.FinMap nat_cmp ℕ) where
  abbrev local : LocalView
  local = with_held v ts states

  -- the reads
  pub get_is : (r : Ref) (field : ℕ) → get (with_held v ts states) r field ≡ get_from ts r field
  get_is r field = refl

  pub lookup_is : (table line : ℕ) → lookup (with_held v ts states) table line ≡ lookup_from ts table line
  lookup_is table line = refl

  pub avail_is : (table line : ℕ) → avail (with_held v ts states) table line ≡ avail_from ts table line
  avail_is table line = refl

  pub probe_is : (table line : ℕ) → probe (with_held v ts states) table line ≡ probe_from ts table line
  probe_is table line = refl

  pub free_is : (table : ℕ) → free (with_held v ts states) table ≡ free_from ts table
  free_is table = refl

  pub state_is : (line default : ℕ) → default ≡ unwrap_or v.machine.default_state 0 → state (with_held v ts states) line ≡ unwrap_or (map.get states line) default
  state_is line default is = ap (unwrap_or (map.get states line)) (sym is)

  -- the changes of tables
  after_is : (n : ℕ) (r : Result Table Fault) → after_change local n r ≡ viewed v states (after_change_in ts n r)
  after_is n (Ok changed) = refl
  after_is n (Err fault) = refl

  change_is : (n : ℕ) (change : Table → Result Table Fault) (o : Option Table) → change_if_there local n change o ≡ viewed v states (change_if_there_in ts n change o)
  change_is n change None = refl
  change_is n change (Some t) = after_is n (change t)

  changed_is : (n : ℕ) (change : Table → Result Table Fault) → changed_table local n change ≡ viewed v states (changed_in ts n change)
  changed_is n change = change_is n change (slice_get ts n)

  module _ (new : List Table) (after : map.FinMap nat_cmp ℕ) where
    same_scan : SameScan local (with_held v new after)
    same_scan = record { machine = refl; actor = refl; now = refl; start = refl }

    comes : {A : Type 0} (answer : A) (want : Result (List Table) Fault) (result : Result A Trouble) → after ≡ states → DoesIn want result ts new → IfOk result (λ a. a ≡ answer) → Comes (viewed v states want) answer result local (with_held v new after)
    comes answer want (Ok a) same does is = (ap (viewed v states) does ∙ ap (λ s. Ok (with_held v new s)) (sym same), is)
    comes answer want (Err (trouble.Fault fault)) same does is = (ap (viewed v states) does.0, ap (λ t. with_held v t after) does.1 ∙ ap (with_held v ts) same)
    comes answer want (Err trouble.NoMemory) same does is = ap (λ t. with_held v t after) does ∙ ap (with_held v ts) same

    does_with : {A : Type 0} (answer : A) (n : ℕ) (change : Table → Result Table Fault) (result : Result A Trouble) → after ≡ states → DoesIn (changed_in ts n change) result ts new → IfOk result (λ a. a ≡ answer) → DoesWith (changed_table local n change) answer result local (with_held v new after)
    does_with {A} answer n change result same does is =
        let P : Result LocalView Fault → Type 0 = λ w. Comes {A = A} w answer result local (with_held v new after) in
        record { comes = subst P (sym (changed_is n change)) (comes answer (changed_in ts n change) result same does is); scan = same_scan }

    unit_is : (result : Result (Unit {0}) Trouble) → IfOk result (λ a. a ≡ tt)
    unit_is (Ok a) = refl
    unit_is (Err e) = tt

    pub set_does : (r : Ref) (field : ℕ) (value : Value) (result : Result (Unit {0}) Trouble) → after ≡ states → DoesIn (set_in ts r field value) result ts new → Does (set_field (with_held v ts states) r field value) result (with_held v ts states) (with_held v new after)
    set_does r field value result same does = does_with tt r.table (λ t. table_with_field t r.line field value (fields_in t r.line)) result same does (unit_is result)

    pub allocate_does : (table line : ℕ) (fields : List Value) (result : Result Ref Trouble) → fields ≡ initial_fields v.machine table → after ≡ states → DoesIn (allocate_in ts table line fields) result ts new → IfOk result (λ r. r ≡ reference_to table line) → DoesWith (allocate (with_held v ts states) table line) (reference_to table line) result (with_held v ts states) (with_held v new after)
    allocate_does table line fields result first same does is =
        let P : List Value → Type 0 = λ fs. DoesIn (allocate_in ts table line fs) result ts new in
        does_with (reference_to table line) table (with_line (initial_fields v.machine table) line) result same (subst P first does) is

    pub deallocate_does : (table line : ℕ) (result : Result (Unit {0}) Trouble) → after ≡ states → DoesIn (deallocate_in ts table line) result ts new → Does (deallocate (with_held v ts states) table line) result (with_held v ts states) (with_held v new after)
    deallocate_does table line result same does = does_with tt table (without_line_in line) result same does (unit_is result)

    pub touch_does : (table line : ℕ) (result : Result (Unit {0}) Trouble) → after ≡ states → DoesIn (touch_in ts table line) result ts new → Does (touch (with_held v ts states) table line) result (with_held v ts states) (with_held v new after)
    touch_does table line result same does = does_with tt table (used_line line) result same does (unit_is result)

    -- the change of states
    state_comes : (line set : ℕ) (result : Result (Unit {0}) Trouble) → new ≡ ts → OnOk result (after ≡ map.insert states line set) → OnErr result (after ≡ states) → IfErr result (λ t. t ≡ trouble.NoMemory) → Comes (Ok (set_state local line set)) tt result local (with_held v new after)
    state_comes line set (Ok a) same ok err memory = (ap (λ s. Ok (with_held v ts s)) (sym ok) ∙ ap (λ t. Ok (with_held v t after)) (sym same), refl)
    state_comes line set (Err (trouble.Fault fault)) same ok err memory = absurd (cc)
    state_comes line set (Err trouble.NoMemory) same ok err memory = ap (λ t. with_held v t after) same ∙ ap (with_held v ts) err

    pub set_state_does : (line set : ℕ) (result : Result (Unit {0}) Trouble) → new ≡ ts → OnOk result (after ≡ map.insert states line set) → OnErr result (after ≡ states) → IfErr result (λ t. t ≡ trouble.NoMemory) → Does (Ok (set_state (with_held v ts states) line set)) result (with_held v ts states) (with_held v new after)
    set_state_does line set result same ok err memory = record { comes = state_comes line set result same ok err memory; scan = same_scan }
