-- How many states machines have, by their numbers.
use Rattle.std.proofs.Common.{◌≡◌, ◌∙◌, ℕ, Option, None, Some, List, length, map, slice_get, refl, sym, ap}
use Rattle.std.specs.Prelude.{unwrap_or}
use Rattle.std.specs.Option.{option_map}
use Rattle.std.proofs.lemmas.Option.{slice_get-map}
use Rattle.slicc_ast.specs.declared.tree.machine.Machine.{Machine}
use Rattle.slicc_plan.specs.Prelude.{state_members}
use Rattle.machine_table.specs.Prelude.{states_of_found}

module _ {T : Type 0} (f : T → Machine) where
  abbrev count_by : T → ℕ
  count_by x = length (state_members (f x))

  one_count : (o : Option T) → states_of_found (option_map f o) ≡ unwrap_or (option_map count_by o) 0
  one_count None = refl
  one_count (Some x) = refl

  pub counts_are : (ms : List Machine) (xs : List T) (counts : List ℕ) → map f xs ≡ ms → counts ≡ map count_by xs → (number : ℕ)
      → states_of_found (slice_get ms number) ≡ unwrap_or (slice_get counts number) 0
  counts_are ms xs counts made counted number =
      ap (λ l. states_of_found (slice_get l number)) (sym made)
      ∙ ap states_of_found (slice_get-map f xs number)
      ∙ one_count (slice_get xs number)
      ∙ ap (λ o. unwrap_or o 0) (sym (slice_get-map count_by xs number))
      ∙ ap (λ l. unwrap_or (slice_get l number) 0) (sym counted)
