-- The way to a line, through a log.
use Rattle.std.proofs.Common.{◌≡◌, ℕ, true, false, List, Option, None, Some, is_some, IfSome, IsSome, IsSomeAnd, map, slice_get, refl, sym, ap, ◌∙◌}
use mathlib.Core.Bool.{false≢true}
use Rattle.std.specs.Option.{option_and_then, option_map}
use Rattle.std.proofs.lemmas.Option.{slice_get-map}
use Rattle.ruby_value.specs.declared.value.Value.{Value}
use Rattle.ctl_face.specs.Prelude.{fields_in, Table, CacheTable, DirectoryTable, TbeTable, ParameterTable}
use Rattle.ctl_tables.specs.declared.change.TableChange.{TableChange}
use Rattle.ctl_tables.specs.declared.stored.StoredTable.{StoredTable}
use Rattle.ctl_tables.specs.declared.ways.Way.{Way}
use Rattle.ctl_tables.specs.declared.ways.Way.TheVariants as way
use Rattle.ctl_tables.specs.Prelude.{after_changes, IsTable, Replays, kept_in, table_of, fields_at, IsUnwritten, IsWay, IsWayIn, DirectoryFrame, frame_of}
use Rattle.ctl_tables.proofs.Steps.{frames_after, kept_at}

none_is : {X : Type 0} (o : Option X) → is_some o ≡ false → o ≡ None
none_is None is = refl
none_is (Some x) wrong = absurd (false≢true (sym wrong))

-- the table that is kept at a number
pub stored_at : (stored : List StoredTable) (n : ℕ) (t : StoredTable) → slice_get stored n ≡ Some t → slice_get (map table_of stored) n ≡ Some (table_of t)
stored_at stored n t is = slice_get-map table_of stored n ∙ ap (option_map table_of) is

pub none_stored : (stored : List StoredTable) (n : ℕ) → slice_get stored n ≡ None → slice_get (map table_of stored) n ≡ None
none_stored stored n is = slice_get-map table_of stored n ∙ ap (option_map table_of) is

no_frame : (o : Option Table) → option_map frame_of o ≡ None → o ≡ None
no_frame None is = refl
no_frame (Some t) wrong = absurd (cc)

module _ (log : List TableChange) (ts : List Table) (n line : ℕ) (replays : Replays log ts) (law : IfSome (slice_get ts n) IsTable) where
  pub nowhere : slice_get ts n ≡ None → slice_get (after_changes log ts) n ≡ None
  nowhere is = no_frame (slice_get (after_changes log ts) n) (frames_after n log ts replays law ∙ ap (option_map frame_of) is)

  -- the table is there still, as what it was apart from its lines
  module _ (t : Table) (is : slice_get ts n ≡ Some t) where
    framed : (o : Option Table) → option_map frame_of o ≡ Some (frame_of t) → (P : Table → Type 0) → ((u : Table) → frame_of u ≡ frame_of t → o ≡ Some u → P u) → IsSomeAnd o P
    framed None wrong P holds = absurd (cc)
    framed (Some u) same P holds = holds u (let e : frame_of u ≡ frame_of t = cc in e) refl

    pub table_now : (P : Table → Type 0) → ((u : Table) → frame_of u ≡ frame_of t → slice_get (after_changes log ts) n ≡ Some u → P u) → IsSomeAnd (slice_get (after_changes log ts) n) P
    table_now = framed (slice_get (after_changes log ts) n) (frames_after n log ts replays law ∙ ap (option_map frame_of) is)

    kept_now : (u : Table) → slice_get (after_changes log ts) n ≡ Some u → kept_at (after_changes log ts) n line ≡ kept_in u line
    kept_now u here = ap (option_and_then (λ (v : Table). kept_in v line)) here

    fields_now : (u : Table) → slice_get (after_changes log ts) n ≡ Some u → fields_at (after_changes log ts) n line ≡ fields_in u line
    fields_now u here = ap (option_and_then (λ (v : Table). fields_in v line)) here

    pub way_kept : is_some (kept_at (after_changes log ts) n line) ≡ true → IsWay (after_changes log ts) n line way.Kept
    way_kept there = table_now (λ u. IsSome (kept_in u line)) (λ u same here. sym (ap is_some (kept_now u here)) ∙ there)

    pub way_absent : is_some (fields_at (after_changes log ts) n line) ≡ false → IsWay (after_changes log ts) n line way.Absent
    way_absent gone = table_now (λ u. fields_in u line ≡ None) (λ u same here. none_is (fields_in u line) (sym (ap is_some (fields_now u here)) ∙ gone))

    unwritten_in : (u : Table) → frame_of u ≡ frame_of t → (first : List Value) → IsUnwritten t line first → kept_in u line ≡ kept_in t line → IsUnwritten u line first
    unwritten_in = unwritten_by t
      where
        directory_only : (u : Table) (initial first : List Value) → frame_of u ≡ DirectoryFrame initial → initial ≡ first → kept_in u line ≡ None → IsUnwritten u line first
        directory_only (CacheTable cache) initial first same is_first none = absurd (cc)
        directory_only (DirectoryTable directory) initial first same is_first none = (none, (let e : directory.initial ≡ initial = cc in e) ∙ is_first)
        directory_only (TbeTable tbes) initial first same is_first none = absurd (cc)
        directory_only (ParameterTable values) initial first same is_first none = absurd (cc)

        unwritten_by : (v : Table) (u : Table) → frame_of u ≡ frame_of v → (first : List Value) → IsUnwritten v line first → kept_in u line ≡ kept_in v line → IsUnwritten u line first
        unwritten_by (CacheTable cache) u same first unwritten kept = absurd unwritten
        unwritten_by (DirectoryTable directory) u same first unwritten kept = directory_only u directory.initial first same unwritten.1 (kept ∙ unwritten.0)
        unwritten_by (TbeTable tbes) u same first unwritten kept = absurd unwritten
        unwritten_by (ParameterTable values) u same first unwritten kept = absurd unwritten

    -- where no change tells of the line, it is as before
    module _ (same_kept : kept_at (after_changes log ts) n line ≡ kept_at ts n line) (same_fields : fields_at (after_changes log ts) n line ≡ fields_at ts n line) where
      kept_then : kept_at ts n line ≡ kept_in t line
      kept_then = ap (option_and_then (λ (v : Table). kept_in v line)) is

      fields_then : fields_at ts n line ≡ fields_in t line
      fields_then = ap (option_and_then (λ (v : Table). fields_in v line)) is

      pub way_as_before : (w : Way) → IsWayIn t line w → IsWay (after_changes log ts) n line w
      way_as_before way.Nowhere no_way = absurd no_way
      way_as_before way.Absent gone = way_absent (ap is_some (same_fields ∙ fields_then ∙ gone))
      way_as_before way.Kept there = way_kept (ap is_some (same_kept ∙ kept_then) ∙ there)
      way_as_before (way.Unwritten first) unwritten =
          table_now (λ u. IsUnwritten u line first.now)
          (λ u same here. unwritten_in u same first.now unwritten (sym (kept_now u here) ∙ same_kept ∙ kept_then))
