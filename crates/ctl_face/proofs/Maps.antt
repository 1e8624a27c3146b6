-- What holds of each line of a map holds after an insert and a removal.
use Rattle.std.proofs.Common.{ℕ, None, Some, IfSome, sym, subst}
use Rattle.std.proofs.lemmas.Bool.{cond_both}
use Rattle.std.proofs.lemmas.Map.Lookups.{exact_unsigned}
use Rattle.std.proofs.lemmas.Map.Views.{tells_apart}
use Rattle.std.specs.Ordering.{nat_cmp, eq_by_cmp}
use Rattle.std.specs.Cmp.{nat_cmp_total}
use Rattle.std.specs.FinMap.{FinMap, get, insert, remove, get-insert, get-remove}

module _ {X : Type 0} (P : ℕ → X → Type 0) where
  abbrev pub HoldsOfEach : FinMap nat_cmp X → Type 0
  HoldsOfEach m = (q : ℕ) → IfSome (get m q) (P q)

  pub insert_keeps : (m : FinMap nat_cmp X) (k : ℕ) (v : X) → HoldsOfEach m → P k v → HoldsOfEach (insert m k v)
  insert_keeps m k v holds here q =
      let Q : ℕ → Type 0 = λ n. P n v in
      rw (get-insert nat_cmp_total m k v q)
      (cond_both (eq_by_cmp nat_cmp q k) (Some v) (get m q) (λ o. IfSome o (P q)) (λ is. subst Q (sym (tells_apart exact_unsigned q k is)) here) (λ _. holds q))

  pub remove_keeps : (m : FinMap nat_cmp X) (k : ℕ) → HoldsOfEach m → HoldsOfEach (remove m k)
  remove_keeps m k holds q =
      rw (get-remove nat_cmp_total m k q) (cond_both (eq_by_cmp nat_cmp q k) None (get m q) (λ o. IfSome o (P q)) (λ _. tt) (λ _. holds q))
