-- In a lawful local a field that the machine has is one of each line that is there, as `set` requires.
use Rattle.std.proofs.Common.{◌≡◌, ◌<◌, ℕ, zero, suc, List, [], ◌∷◌, length, IsTrue, IfSome, IsSome, Option, None, Some, slice_get, refl, ap, unwrap_or, arith}
use mathlib.Core.Bool.{false≢true}
use Rattle.std.proofs.lemmas.Bool.{and_parts}
use Rattle.std.proofs.lemmas.Option.{IfSome_then}
use Rattle.std.specs.Option.{option_and_then, option_map}
use Rattle.ruby_value.specs.declared.kind.Kind.{Kind}
use Rattle.ruby_value.specs.declared.setup.TableSetup.{TableSetup}
use Rattle.ruby_value.specs.declared.value.Value.{Value}
use Rattle.ruby_value.specs.Prelude.{has_kind, has_kinds}
use Rattle.ctl_face.specs.Prelude.{fields_in, FitsTableAt, ScanFits, LocalView, field_kinds, Table}
use Rattle.ctl_face.proofs.TableCalls.{kinds_in}
use Rattle.ctl_tables.specs.Prelude.{fields_at}

as_many : (kinds : List Kind) (values : List Value) → IsTrue (has_kinds kinds values) → length values ≡ length kinds
as_many [] [] all = refl
as_many [] (v ∷ vs) all = absurd (false≢true all)
as_many (k ∷ ks) [] all = absurd (false≢true all)
as_many (k ∷ ks) (v ∷ vs) all = ap suc (as_many ks vs (and_parts (has_kind k v) (has_kinds ks vs) all).1)

below : {X : Type 0} (xs : List X) (i : ℕ) → IsSome (slice_get xs i) → i < length xs
below [] i there = absurd (false≢true there)
below (x ∷ xs) zero there = omega arith
below (x ∷ xs) (suc i) there = let rest = below xs i there in omega arith

module _ (line field : ℕ) where
  within_by : (s : Option TableSetup) (o : Option Table) → FitsTableAt s o → IsSome (slice_get (unwrap_or (option_map (λ (u : TableSetup). u.kinds) s) []) field) → IfSome (option_and_then (λ (t : Table). fields_in t line) o) (λ fs. field < length fs)
  within_by None None fits there = tt
  within_by None (Some t) fits there = absurd fits
  within_by (Some s) None fits there = absurd fits
  within_by (Some s) (Some t) fits there =
      IfSome_then (fields_in t line) (kinds_in s.kinds t line fits.lines)
      (λ fs kinds. let same = as_many s.kinds fs kinds in let inside = below s.kinds field there in omega arith)

  pub field_within : (v : LocalView) (n : ℕ) → ScanFits v → IsSome (slice_get (field_kinds v.machine n) field) → IfSome (fields_at v.ctl.tables n line) (λ fs. field < length fs)
  field_within v n lawful = within_by (slice_get v.machine.tables n) (slice_get v.ctl.tables n) (lawful.fits.tables.each n)
