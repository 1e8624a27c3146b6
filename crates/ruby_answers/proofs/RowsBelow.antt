-- Lists that are made for each of the numbers below one, and what tables answer for a machine.
use Rattle.std.proofs.Common.{◌≡◌, ℕ, zero, suc, ◌+◌, ◌<◌, List, [], ◌∷◌, ◌++◌, flat_map, length, map, refl, slice_get, slice_index_or, take, add-one, ap, sym, ◌∙◌, arith}
use Rattle.std.proofs.Math.Seq.{take-suc}
use Rattle.std.proofs.lemmas.List.{flat_map_more, map-append}
use Rattle.slicc_ast.specs.declared.tree.machine.Machine.{Machine}
use Rattle.slicc_plan.specs.declared.row.Row.{Row}
use Rattle.slicc_plan.specs.Prelude.{numbers_below, event_members, state_members, rows}
use Rattle.machine_table.specs.declared.table.Tables.{Tables}
use Rattle.machine_table.specs.Prelude.{rows_of_found}
use Rattle.ruby_answers.specs.Prelude.{answered, answered_in_state, machine_rows}

-- one more number
pub one_more : {A : Type 0} (f : ℕ → List A) (before : List A) (n : ℕ) → (before ++ flat_map f (numbers_below n)) ++ f n ≡ before ++ flat_map f (numbers_below (n + 1))
one_more f before n =
    let step : numbers_below (n + 1) ≡ numbers_below n ++ n ∷ [] = rw add-one refl in
    flat_map_more f before (numbers_below n) n ∙ ap (λ ns. before ++ flat_map f ns) (sym step)

-- what is answered is what is written
pub answered_rows : (tables : Tables) (number states events : ℕ) (m : Machine) → states ≡ length (state_members m) → events ≡ length (event_members m)
    → ((s e : ℕ) → rows m s e ≡ answered tables number s e) → flat_map (answered_in_state tables number events) (numbers_below states) ≡ machine_rows m
answered_rows tables number states events m s e h =
    ap (λ n. flat_map (answered_in_state tables number events) (numbers_below n)) s
    ∙ ap (λ n. flat_map (answered_in_state tables number n) (numbers_below (length (state_members m)))) e
    ∙ (λ i. flat_map (λ state. flat_map (λ event. written state event i) (numbers_below (length (event_members m)))) (numbers_below (length (state_members m))))
  where
    written : (state event : ℕ) → answered tables number state event ≡ rows m state event
    written state event = sym (h state event)

-- a machine of a list is found by its number
pub machine_found : {T : Type 0} (f : T → Machine) (ms : List T) (k : ℕ) (m : T) (s e : ℕ) → k < length ms → m ≡ slice_index_or ms k m → rows (f m) s e ≡ rows_of_found (slice_get (map f ms) k) s e
machine_found f [] k m s e below is = absurd (none_below k below)
  where
    none_below : (k : ℕ) → k < 0 → ⊥
    none_below k h = omega arith
machine_found f (l ∷ ms) zero m s e below is = ap (λ x. rows (f x) s e) is
machine_found f (l ∷ ms) (suc k) m s e below is = machine_found f ms k m s e (omega arith) is

-- the rows of one more machine
pub machine_step : {T : Type 0} (f : T → Machine) (ms : List T) (k : ℕ) (m : T) (before after : List (List Row)) (found : List Row)
    → k < length ms → m ≡ slice_index_or ms k m → before ≡ map machine_rows (map f (take k ms)) → after ≡ before ++ found ∷ [] → found ≡ machine_rows (f m)
    → after ≡ map machine_rows (map f (take (k + 1) ms))
machine_step f ms k m before after found below is e pushed here =
    let taken : take (k + 1) ms ≡ take k ms ++ m ∷ [] = rw (add-one, take-suc ms k m below) (ap (λ x. take k ms ++ x ∷ []) (sym is)) in
    pushed ∙ ap (λ l. l ++ found ∷ []) e ∙ ap (λ x. map machine_rows (map f (take k ms)) ++ x ∷ []) here
    ∙ sym (ap (λ xs. map machine_rows (map f xs)) taken ∙ ap (map machine_rows) (map-append f (take k ms) (m ∷ [])) ∙ map-append machine_rows (map f (take k ms)) (f m ∷ []))
