-- The outstanding requests as a list by ascending line: the oldest of them, and the next by line.
use Rattle.std.proofs.Common.{◌≡◌, ℕ, zero, suc, ◌<◌, ◌≤◌, Bool, true, false, List, [], ◌∷◌, length, get_or, map, None, Some, refl, sym, ap, ◌∙◌, arith, T}
use Rattle.std.proofs.lemmas.Bool.Decides.{nat_tests}
use Rattle.std.proofs.lemmas.List.Elements.{All-tail}
use Rattle.std.specs.Bool.{nat_lt}
use Rattle.std.specs.Prelude.{◌&&◌}
use Rattle.std.specs.FinMap as finite
use Rattle.std.specs.FinMap.Entries as entries
use Rattle.std.specs.Cmp.{nat_cmp_total}
use Rattle.std.specs.List.{All, AllPairs, filter}
use Rattle.std.specs.Ordering.{nat_cmp, is_lt}
use Rattle.ruby_value.specs.declared.asked.Asked.{Asked}
use Rattle.ruby_value.proofs.Ordered.{AllPairs-head, AllPairs-tail}
use Rattle.sequencer.specs.Prelude.{ComesBefore, entry_of, outstanding_of}
use Rattle.ruby_value.specs.Prelude.{first_of}

both : (a b : Bool) → T a → T b → T (a && b)
both true b p q = q
both false b p q = p

lesser : (a b : ℕ) → a < b → nat_lt a b ≡ true
lesser a b lt = grind (arith, nat_tests)

no_lesser : (a b : ℕ) → b ≤ a → nat_lt a b ≡ false
no_lesser a b le = grind (arith, nat_tests)

less : (a b : ℕ) → a < b → T (is_lt (nat_cmp a b))
less a b lt = rw (lesser a b lt) tt

below : (line : ℕ) (xs : List Asked) → All (λ (o : Asked). line < o.line) xs → T (entries.below_all nat_cmp line (map entry_of xs))
below line [] all = tt
below line (x ∷ xs) all = both _ _ (less line x.line (all 0 x (omega arith))) (below line xs (All-tail (λ (o : Asked). line < o.line) x xs all))

sorted : (xs : List Asked) → AllPairs ComesBefore xs → T (entries.is_sorted nat_cmp (map entry_of xs))
sorted [] pairs = tt
sorted (x ∷ xs) pairs = both _ _ (below x.line xs (AllPairs-head ComesBefore x xs pairs)) (sorted xs (AllPairs-tail ComesBefore x xs pairs))

values : (xs : List Asked) → map (λ (e : ℕ × Asked). e.1) (map entry_of xs) ≡ xs
values [] = refl
values (x ∷ xs) = ap (λ z. x ∷ z) (values xs)

-- the values of the map are the list
pub by_line-is : (xs : List Asked) → AllPairs ComesBefore xs → finite.values (outstanding_of xs) ≡ xs
by_line-is xs pairs =
    ap (map (λ (e : ℕ × Asked). e.1))
    (entries.same_entries nat_cmp nat_cmp_total finite.nat_cmp-IsAntisymmetric (finite.entries (outstanding_of xs)) (map entry_of xs)
    (finite.entries_sorted (outstanding_of xs)) (sorted xs pairs)
    (λ q. sym (finite.get-entries (outstanding_of xs) q) ∙ finite.get-from_entries nat_cmp_total (map entry_of xs) q))
    ∙ values xs

-- the first that passes a test
pub first-found : (test : Asked → Bool) (xs : List Asked) (at : ℕ) (d : Asked) → at < length xs → ((k : ℕ) (e : Asked) → k < at → test (get_or xs k e) ≡ false)
    → test (get_or xs at d) ≡ true → first_of (filter test xs) ≡ Some (get_or xs at d)
first-found test [] at d lt before here = absurd (omega arith)
first-found test (x ∷ xs) zero d lt before here = rw here refl
first-found test (x ∷ xs) (suc at) d lt before here =
    rw (before 0 x (omega arith)) (first-found test xs at d (omega arith) (λ k e less. before (suc k) e (omega arith)) here)

pub none-found : (test : Asked → Bool) (xs : List Asked) → ((k : ℕ) (e : Asked) → k < length xs → test (get_or xs k e) ≡ false) → first_of (filter test xs) ≡ None
none-found test [] fails = refl
none-found test (x ∷ xs) fails = rw (fails 0 x (omega arith)) (none-found test xs (λ k e less. fails (suc k) e (omega arith)))
