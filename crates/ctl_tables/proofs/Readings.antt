-- What a read through a log answers, by the newest change that tells of what is asked for, or else by the tables before the log.
use Rattle.std.proofs.Common.{◌≡◌, ℕ, Bool, true, false, List, Option, None, Some, is_some, reverse, slice_get, refl, sym, ap, ◌∙◌, subst}
use Rattle.std.specs.List.{find}
use Rattle.std.specs.Option.{IfSome, option_and_then}
use Rattle.ruby_value.specs.declared.value.Value.{Value}
use Rattle.ctl_face.specs.Prelude.{Table}
use Rattle.ctl_tables.specs.declared.change.TableChange.{TableChange}
use Rattle.ctl_tables.specs.Prelude.{after_changes, IsTable, Replays, fields_at, tells, told_there, told_value}
use Rattle.ctl_tables.proofs.Stays.{frame_default, kept_or}
use Rattle.ctl_tables.proofs.Steps.{default_at, frames_after, kept_at}
use Rattle.ctl_tables.proofs.Walks.{TellsKept, by_newest, field_is, fields_split, kept_told, value_at, value_told}

abbrev pub value_in : List Table → ℕ → ℕ → ℕ → Option Value
value_in ts n line field = option_and_then (λ fields. slice_get fields field) (fields_at ts n line)

module _ (items xs : List TableChange) (ts : List Table) (n line : ℕ) (same : xs ≡ items) (replays : Replays (reverse items) ts) (law : IfSome (slice_get ts n) IsTable) where
  abbrev now : List Table
  now = after_changes (reverse items) ts

  module _ (field : ℕ) where
    value_by : (o : Option TableChange) → o ≡ find (tells n line (Some field)) (reverse xs) → value_in now n line field ≡ by_newest n line field (value_at n line field ts) o
    value_by o is =
        let found : o ≡ find (tells n line (Some field)) (reverse items) = is ∙ ap (λ l. find (tells n line (Some field)) (reverse l)) same in
        field_is n line field now ∙ value_told n line field (reverse items) ts replays law ∙ ap (by_newest n line field (value_at n line field ts)) (sym found)

    pub field_told : (c : TableChange) → Some c ≡ find (tells n line (Some field)) (reverse xs) → value_in now n line field ≡ told_value c.edit field
    field_told c is = value_by (Some c) is

    pub field_untold : None ≡ find (tells n line (Some field)) (reverse xs) → value_in now n line field ≡ value_in ts n line field
    field_untold is = value_by None is ∙ sym (field_is n line field ts)

  kept_by : (o : Option TableChange) → o ≡ find (tells n line None) (reverse xs) → TellsKept n line o (kept_at now n line) (kept_at ts n line) (default_at now n)
  kept_by o is =
      let found : o ≡ find (tells n line None) (reverse items) = is ∙ ap (λ l. find (tells n line None) (reverse l)) same in
      let P : Option TableChange → Type 0 = λ k. TellsKept n line k (kept_at now n line) (kept_at ts n line) (default_at now n) in
      subst P (sym found) (kept_told n line (reverse items) ts replays law)

  pub kept_untold : None ≡ find (tells n line None) (reverse xs) → kept_at now n line ≡ kept_at ts n line
  kept_untold is = kept_by None is

  pub line_untold : None ≡ find (tells n line None) (reverse xs) → fields_at now n line ≡ fields_at ts n line
  line_untold is =
      let same_default : default_at now n ≡ default_at ts n = ap (option_and_then frame_default) (frames_after n (reverse items) ts replays law) in
      fields_split now n line ∙ ap (λ k. kept_or k (default_at now n)) (kept_untold is) ∙ ap (kept_or (kept_at ts n line)) same_default ∙ sym (fields_split ts n line)

  pub kept_is_told : (c : TableChange) → Some c ≡ find (tells n line None) (reverse xs) → is_some (kept_at now n line) ≡ told_there c.edit
  kept_is_told c is = (kept_by (Some c) is).0

  there_by : (kept default : Option (List Value)) (there : Bool) → is_some kept ≡ there → (there ≡ false → default ≡ None) → is_some (kept_or kept default) ≡ there
  there_by None default true is gone = absurd (cc)
  there_by None default false is gone = ap is_some (gone refl)
  there_by (Some f) default there is gone = is

  pub line_told : (c : TableChange) → Some c ≡ find (tells n line None) (reverse xs) → is_some (fields_at now n line) ≡ told_there c.edit
  line_told c is =
      let both = kept_by (Some c) is in
      ap is_some (fields_split now n line) ∙ there_by (kept_at now n line) (default_at now n) (told_there c.edit) both.0 both.1
