-- Tables of machines, one more after the others.
use Rattle.std.proofs.Common.{◌≡◌, ℕ, zero, suc, ◌+◌, ◌<◌, Option, List, [], ◌∷◌, ◌++◌, All, length, map, option_and_then, slice_get, slice_index_or, take, refl, subst, sym, ap, ◌∙◌, arith, add-one, append_assoc, append-nil, add-zero}
use Rattle.std.proofs.Math.Seq.{take-suc}
use Rattle.std.proofs.lemmas.List.{map-append}
use Rattle.std.proofs.lemmas.List.Elements.{All-head, All-tail}
use Rattle.std.proofs.lemmas.Grind.{common_steps}
use Rattle.slicc_ast.specs.declared.tree.machine.Machine.{Machine}
use Rattle.slicc_plan.specs.declared.broken.Broken.{Broken}
use Rattle.slicc_plan.specs.declared.row.Written.{Written}
use Rattle.slicc_plan.specs.Buffers.{listed}
use Rattle.slicc_plan.specs.Prelude.{in_each_from, rows, first_after, written_of}
use Rattle.slicc_plan.proofs.Firsts.{first_after-append}
use Rattle.pair_table.specs.declared.table.Table.{Table}
use Rattle.pair_table.specs.Prelude.{answer_of}
use Rattle.machine_table.specs.Prelude.{rows_of_found}

both_empty : {X : Type 0} (xs ys : List X) → xs ++ ys ≡ [] → (xs ≡ []) × (ys ≡ [])
both_empty [] ys h = (refl, h)
both_empty (x ∷ xs) ys h = cc

pub in_each_from-push : (n : ℕ) (found : ℕ → Machine → List Broken) (ms : List Machine) (m : Machine) → in_each_from n found (ms ++ m ∷ []) ≡ in_each_from n found ms ++ found (n + length ms) m
in_each_from-push n found [] m = append-nil (found n m) ∙ ap (λ k. found k m) (sym (add-zero n))
in_each_from-push n found (l ∷ ms) m =
    let sum : n + 1 + length ms ≡ n + length (l ∷ ms) = omega arith in
    ap (λ bs. found n l ++ bs) (in_each_from-push (n + 1) found ms m ∙ ap (λ k. in_each_from (n + 1) found ms ++ found k m) sum)
    ∙ sym (append_assoc (found n l) (in_each_from (n + 1) found ms) (found (n + length (l ∷ ms)) m))

-- one more step of a loop over machines
pub machines_step : {T : Type 0} (f : T → Machine) (found : ℕ → Machine → List Broken) (ms : List T) (i : ℕ) (m : T) → i < length ms → m ≡ slice_index_or ms i m → in_each_from 0 found (map f (take (i + 1) ms)) ≡ in_each_from 0 found (map f (take i ms)) ++ found i (f m)
machines_step f found ms i m below is =
    let taken : take (i + 1) ms ≡ take i ms ++ m ∷ [] = rw (add-one, take-suc ms i m below) (ap (λ x. take i ms ++ x ∷ []) (sym is)) in
    let len : 0 + length (map f (take i ms)) ≡ i = grind (arith, common_steps) in
    ap (λ xs. in_each_from 0 found (map f xs)) taken ∙ ap (in_each_from 0 found) (map-append f (take i ms) (m ∷ []))
    ∙ in_each_from-push 0 found (map f (take i ms)) (f m) ∙ ap (λ k. in_each_from 0 found (map f (take i ms)) ++ found k (f m)) len

pub agree_push : (ms : List Machine) (ts : List Table) (m : Machine) (t : Table) → length ts ≡ length ms → ((n s e : ℕ) → rows_of_found (slice_get ms n) s e ≡ listed (option_and_then (answer_of s e) (slice_get ts n))) → ((s e : ℕ) → rows m s e ≡ listed (answer_of s e t)) → (n s e : ℕ) → rows_of_found (slice_get (ms ++ m ∷ []) n) s e ≡ listed (option_and_then (answer_of s e) (slice_get (ts ++ t ∷ []) n))
agree_push [] [] m t len h g zero s e = g s e
agree_push [] [] m t len h g (suc n) s e = refl
agree_push [] (u ∷ ts) m t len h g n s e = absurd (apart (length ts) len)
  where
    apart : (k : ℕ) → suc k ≡ 0 → ⊥
    apart k e = omega arith
agree_push (l ∷ ms) [] m t len h g n s e = absurd (apart (length ms) len)
  where
    apart : (k : ℕ) → 0 ≡ suc k → ⊥
    apart k e = omega arith
agree_push (l ∷ ms) (u ∷ ts) m t len h g zero s e = h 0 s e
agree_push (l ∷ ms) (u ∷ ts) m t len h g (suc n) s e = agree_push ms ts m t (omega (arith, len)) (λ k. h (suc k)) g n s e

-- what is found, after one more machine
pub found_step : {T : Type 0} (f : T → Machine) (found : ℕ → Machine → List Broken) (ms : List T) (i k : ℕ) (m : T) (first before after : Option Broken) → i < length ms → m ≡ slice_index_or ms i m → k ≡ i → before ≡ first_after first (in_each_from 0 found (map f (take i ms))) → after ≡ first_after before (found k (f m)) → after ≡ first_after first (in_each_from 0 found (map f (take (i + 1) ms)))
found_step f found ms i k m first before after below is same e g =
    g ∙ ap (λ o. first_after o (found k (f m))) e ∙ ap (λ k. first_after (first_after first (in_each_from 0 found (map f (take i ms)))) (found k (f m))) same
    ∙ sym (first_after-append first (in_each_from 0 found (map f (take i ms))) (found i (f m)))
    ∙ ap (first_after first) (sym (machines_step f found ms i m below is))

-- the transitions as they are written, after one more machine
pub written_step : {T : Type 0} (f : T → Machine) (ms : List T) (i : ℕ) (m : T) (all more : List (List Written)) → i < length ms → m ≡ slice_index_or ms i m → all ≡ map written_of (map f (take i ms)) → more ≡ all ++ written_of (f m) ∷ [] → more ≡ map written_of (map f (take (i + 1) ms))
written_step f ms i m all more below is e g =
    let taken : take (i + 1) ms ≡ take i ms ++ m ∷ [] = rw (add-one, take-suc ms i m below) (ap (λ x. take i ms ++ x ∷ []) (sym is)) in
    g ∙ ap (λ xs. xs ++ written_of (f m) ∷ []) e
    ∙ sym (ap (λ xs. map written_of (map f xs)) taken ∙ ap (map written_of) (map-append f (take i ms) (m ∷ [])) ∙ map-append written_of (map f (take i ms)) (f m ∷ []))

-- what the tables answer, after one more machine
pub tables_step : {T : Type 0} (f : T → Machine) (ms : List T) (i : ℕ) (m : T) (ts more : List Table) (t : Table) → i < length ms → m ≡ slice_index_or ms i m → length ts ≡ i → more ≡ ts ++ t ∷ [] → ((n s e : ℕ) → rows_of_found (slice_get (map f (take i ms)) n) s e ≡ listed (option_and_then (answer_of s e) (slice_get ts n))) → ((s e : ℕ) → rows (f m) s e ≡ listed (answer_of s e t)) → (n s e : ℕ) → rows_of_found (slice_get (map f (take (i + 1) ms)) n) s e ≡ listed (option_and_then (answer_of s e) (slice_get more n))
tables_step f ms i m ts more t below is len pushed h g n s e =
    let taken : take (i + 1) ms ≡ take i ms ++ m ∷ [] = rw (add-one, take-suc ms i m below) (ap (λ x. take i ms ++ x ∷ []) (sym is)) in
    let mapped : map f (take (i + 1) ms) ≡ map f (take i ms) ++ f m ∷ [] = ap (map f) taken ∙ map-append f (take i ms) (m ∷ []) in
    let count : length (map f (take i ms)) ≡ i = grind (arith, common_steps) in
    ap (λ xs. rows_of_found (slice_get xs n) s e) mapped
    ∙ agree_push (map f (take i ms)) ts (f m) t (len ∙ sym count) h g n s e
    ∙ ap (λ us. listed (option_and_then (answer_of s e) (slice_get us n))) (sym pushed)

none_below : (k : ℕ) → k < 0 → ⊥
none_below k h = omega arith

-- what is found in no machine isn't found in this one
pub none_in : {T : Type 0} (f : T → Machine) (found : ℕ → Machine → List Broken) (n : ℕ) (ms : List T) (i : ℕ) (m : T) → in_each_from n found (map f ms) ≡ [] → i < length ms → m ≡ slice_index_or ms i m → found (n + i) (f m) ≡ []
none_in f found n [] i m e below is = absurd (none_below i below)
none_in f found n (l ∷ ms) zero m e below is =
    ap (λ k. found k (f m)) (add-zero n) ∙ ap (λ l. found n (f l)) is ∙ (both_empty (found n (f l)) (in_each_from (n + 1) found (map f ms)) e).0
none_in f found n (l ∷ ms) (suc i) m e below is =
    let same : n + suc i ≡ n + 1 + i = omega arith in
    ap (λ k. found k (f m)) same ∙ none_in f found (n + 1) ms i m (both_empty (found n (f l)) (in_each_from (n + 1) found (map f ms)) e).1 (omega arith) is

-- what holds of all machines holds of this one
pub one_of_all : {T : Type 0} (P : Machine → Type 0) (f : T → Machine) (ms : List T) (i : ℕ) (m : T) → All P (map f ms) → i < length ms → m ≡ slice_index_or ms i m → P (f m)
one_of_all P f [] i m all below is = absurd (none_below i below)
one_of_all P f (l ∷ ms) zero m all below is = subst (λ x. P (f x)) (sym is) (All-head P (f l) (map f ms) all)
one_of_all P f (l ∷ ms) (suc i) m all below is = one_of_all P f ms i m (All-tail P (f l) (map f ms) all) (omega arith) is
