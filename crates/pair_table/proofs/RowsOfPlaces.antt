-- Rows, place by place.
use Rattle.std.proofs.Common.{◌≡◌, ℕ, zero, suc, ◌+◌, ◌<◌, ◌/◌, ◌%◌, Option, List, [], ◌∷◌, ◌++◌, length, take, slice_get, slice_index_or, refl, sym, ap, ◌∙◌, arith, add-one, add-zero}
use Rattle.std.specs.Option.{option_map}
use Rattle.std.proofs.Math.Seq.{take-suc}
use Rattle.std.proofs.lemmas.Grind.{common_steps}
use Rattle.slicc_plan.specs.declared.row.Row.{Row}
use Rattle.slicc_plan.specs.declared.row.Written.{Written}
use Rattle.pair_table.specs.Prelude.{row_at, rows_at}

pub rows_at-push : (ws : List Written) (events place : ℕ) (ns : List ℕ) (n : ℕ) → rows_at ws events place (ns ++ n ∷ []) ≡ rows_at ws events place ns ++ row_at ws ((place + length ns) / events) ((place + length ns) % events) n ∷ []
rows_at-push ws events place [] n = grind arith
rows_at-push ws events place (m ∷ ns) n =
    let e : place + 1 + length ns ≡ place + length (m ∷ ns) = omega arith in
    ap (λ rows. row_at ws (place / events) (place % events) m ∷ rows) (rows_at-push ws events (place + 1) ns n ∙ ap (λ p. rows_at ws events (place + 1) ns ++ row_at ws (p / events) (p % events) n ∷ []) e)

pub rows_at-step : (ws : List Written) (events : ℕ) (ns : List ℕ) (i d : ℕ) → i < length ns → rows_at ws events 0 (take (i + 1) ns) ≡ rows_at ws events 0 (take i ns) ++ row_at ws (i / events) (i % events) (slice_index_or ns i d) ∷ []
rows_at-step ws events ns i d below =
    let taken : take (i + 1) ns ≡ take i ns ++ slice_index_or ns i d ∷ [] = rw (add-one, take-suc ns i d below) refl in
    let len : 0 + length (take i ns) ≡ i = grind (arith, common_steps) in
    ap (rows_at ws events 0) taken ∙ rows_at-push ws events 0 (take i ns) (slice_index_or ns i d)
    ∙ ap (λ p. rows_at ws events 0 (take i ns) ++ row_at ws (p / events) (p % events) (slice_index_or ns i d) ∷ []) len

pub rows_at-get : (ws : List Written) (events place : ℕ) (ns : List ℕ) (i : ℕ) → slice_get (rows_at ws events place ns) i ≡ option_map (row_at ws ((place + i) / events) ((place + i) % events)) (slice_get ns i)
rows_at-get ws events place [] i = refl
rows_at-get ws events place (n ∷ ns) zero = rw add-zero refl
rows_at-get ws events place (n ∷ ns) (suc i) =
    let e : place + 1 + i ≡ place + suc i = omega arith in
    rows_at-get ws events (place + 1) ns i ∙ ap (λ p. option_map (row_at ws (p / events) (p % events)) (slice_get ns i)) e
