-- A turn that counts, or does not for want of memory, adds entries of its own alone.
use Rattle.std.proofs.Common.{◌≡◌, ℕ, ◌<◌, List, [], ◌∷◌, ◌++◌, length, drop, Result, Ok, Err, OnOk, OnErr, IfOk, sym, ap, subst, arith}
use Rattle.std.proofs.lemmas.List.Prefix.{front_rest}
use Rattle.std.proofs.lemmas.List.Elements.{All-cons, All-nil}
use Rattle.turn_lock.specs.Prelude.{owner, Adds}
use Rattle.turn_lock.proofs.Histories.{adds_more, adds_none}
use Rattle.turn_lock_tests.specs.Counts.{count_of}

owner_of : (k i : ℕ) → k < 64 → owner (count_of k i) ≡ k
owner_of k i lt = omega arith

pub counts_own : {A E : Type 0} (r : Result A E) (k i : ℕ) (h h' : List ℕ) → k < 64 → OnOk r (h' ≡ h ++ count_of k i ∷ []) → OnErr r (h' ≡ h) → Adds k h h'
counts_own (Ok x) k i h h' lt ok err = subst (Adds k h) (sym ok) (adds_more k h (count_of k i ∷ []) (All-cons (λ n. owner n ≡ k) (count_of k i) [] (owner_of k i lt) (All-nil (λ n. owner n ≡ k))))
counts_own (Err x) k i h h' lt ok err = subst (Adds k h) (sym err) (adds_none k h)

pub counted : {A E : Type 0} (r : Result A E) (k i : ℕ) (mine h h' : List ℕ) → OnOk r (h' ≡ h ++ count_of k i ∷ []) → IfOk r (λ _. mine ++ drop (length h) h' ≡ mine ++ count_of k i ∷ [])
counted (Ok x) k i mine h h' ok = ap (λ l. mine ++ l) (front_rest h' h (count_of k i ∷ []) ok)
counted (Err x) k i mine h h' ok = tt
