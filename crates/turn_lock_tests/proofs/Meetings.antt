-- A pass that meets one more, and what is listed when all have met.
use Rattle.std.proofs.Common.{◌≡◌, ℕ, zero, suc, ◌+◌, ◌<◌, List, [], ◌∷◌, ◌++◌, length, get_or, All, Result, Ok, Err, refl, sym, ap, ◌∙◌, subst, append_assoc, length-append, arith}
use lib.ListN.{get_or-append}
use mathlib.Core.Logic.{dite}
use native.Mathlib.Decide.{ℕ_discrete}
use Rattle.std.proofs.lemmas.List.Elements.{All-nil, All-cons, All-push, All-head, All-tail, All-contains, All-weaker, All-same, Contains-append_left, Contains-append_right}
use Rattle.ruby_base.specs.declared.memory.NoMemory.{NoMemory}
use Rattle.turn_lock.specs.Prelude.{LockId, Standing, owned, AreOwned, newcomer, newcomers, lists_of, meeting}
use Rattle.turn_lock_tests.specs.Counts.{counts_of}
use Rattle.turn_lock_tests.specs.Meetings.{IsNew, HasCounted, IsReady, IsListed}

middle : {X : Type 0} (Q : X → Type 0) (xs ys : List X) (y : X) → All Q (xs ++ y ∷ ys) → Q y
middle Q [] ys y a = All-head Q y ys a
middle Q (x ∷ xs) ys y a = middle Q xs ys y (All-tail Q x (xs ++ y ∷ ys) a)

module _ {P : Type 0} where
  still_listed : (v w : Standing P) (r : Result (Standing P) NoMemory) → IsListed v r → IsListed (meeting v w) r
  still_listed v w (Ok p) a = Contains-append_left (lists_of v) (lists_of w) (p.number, p.mine) a
  still_listed v w (Err e) a = a

  abbrev pub MetMore : List (Result (Standing P) NoMemory) → List (Result (Standing P) NoMemory) → Standing P → Type 0
  MetMore all new w = (done : List (Result (Standing P) NoMemory)) × (all ≡ new ++ done) × (w.met ≡ length done) × All (IsListed w) done

  pub met_more : (id : LockId) (v w u : Standing P) (all items new done : List (Result (Standing P) NoMemory)) → All (IsReady id) all → u ≡ meeting v w → items ≡ new ++ Ok w ∷ [] → all ≡ items ++ done → v.met ≡ length done
      → All (IsListed v) done → MetMore all new u
  met_more id v w u all items new done ready is last whole met listed =
      let e : all ≡ new ++ (Ok w ∷ done) = whole ∙ ap (λ l. l ++ done) last ∙ append_assoc new (Ok w ∷ []) done in
      let one = middle (IsReady id) new done (Ok w) (All-same (IsReady id) (new ++ (Ok w ∷ done)) all (sym e) ready) in
      let one_met : w.met ≡ 1 = one.2 in
      let here : IsListed (meeting v w) (Ok w) = Contains-append_right (lists_of v) (lists_of w) (w.number, w.mine) (0, omega arith, refl) in (
        Ok w ∷ done,
        e,
        ap (λ (z : Standing P). z.met) is ∙ (let h : v.met + w.met ≡ suc (length done) = omega arith in h),
        subst (λ z. All (IsListed z) (Ok w ∷ done)) (sym is) (All-cons (IsListed (meeting v w)) (Ok w) done here (All-weaker (IsListed v) (IsListed (meeting v w)) (still_listed v w) done listed)),
      )

get_or_last : {X : Type 0} (xs : List X) (y : X) (k : ℕ) (d : X) → k ≡ length xs → get_or (xs ++ y ∷ []) k d ≡ y
get_or_last [] y zero d e = refl
get_or_last [] y (suc k) d e = absurd (omega arith)
get_or_last (x ∷ xs) y zero d e = absurd (omega arith)
get_or_last (x ∷ xs) y (suc k) d e = get_or_last xs y k d (omega arith)

newcomers_long : {P : Type 0} (id : LockId) (p : P) (n : ℕ) → length (newcomers id p n) ≡ n
newcomers_long id p zero = refl
newcomers_long id p (suc n) = length-append (newcomers id p n) (newcomer id p n ∷ []) ∙ (let r = newcomers_long id p n in omega arith)

-- what is in the place k of new passes
pub newcomer_at : {P : Type 0} (id : LockId) (p : P) (n k : ℕ) (d : Standing P) → k < n → get_or (newcomers id p n) k d ≡ newcomer id p k
newcomer_at id p zero k d lt = absurd (omega arith)
newcomer_at id p (suc n) k d lt = let long = newcomers_long id p n in dite (ℕ_discrete k n)
    (λ e. let s = get_or_last (newcomers id p n) (newcomer id p n) k d (e ∙ sym long) in s ∙ ap (newcomer id p) (sym e))
    (λ ne. get_or-append (newcomers id p n) (newcomer id p n ∷ []) d k (omega arith) ∙ newcomer_at id p n k d (omega arith))

module _ {P : Type 0} (id : LockId) where
  pub all_new : (p : P) (n : ℕ) → All (IsNew id) (newcomers id p n)
  all_new p zero = All-nil (IsNew id)
  all_new p (suc n) = All-push (IsNew id) (newcomers id p n) (newcomer id p n) (all_new p n) (refl, refl, refl, refl, refl)

  ready_of : (k n : ℕ) (r : Result (Standing P) NoMemory) → HasCounted id k n r → IsReady id r
  ready_of k n (Ok q) h = (h.0, h.1, h.2)
  ready_of k n (Err e) h = tt

  own_of : (k n : ℕ) (whole : Standing P) (log : List ℕ) (r : Result (Standing P) NoMemory) → AreOwned (lists_of whole) log → HasCounted id k n r → IsListed whole r → owned k log ≡ counts_of k n
  own_of k n whole log (Ok q) own h listed =
      let e : owned q.number log ≡ q.mine = All-contains (λ o. owned o.0 log ≡ o.1) (lists_of whole) (q.number, q.mine) own listed in
      ap (λ z. owned z log) (sym h.3) ∙ e ∙ h.4
  own_of k n whole log (Err e) own h listed = absurd listed

  module _ (p : P) (n times : ℕ) (passes : List (Standing P)) (results : List (Result (Standing P) NoMemory)) (are : passes ≡ newcomers id p n) (long : length results ≡ length passes)
      (counted : (k : ℕ) (d : Standing P) (e : Result (Standing P) NoMemory) → k < length passes → HasCounted id (get_or passes k d).number times (get_or results k e)) where
    pub results_long : length results ≡ n
    results_long = long ∙ ap length are ∙ newcomers_long id p n

    pub all_ready : All (IsReady id) results
    all_ready k d lt = ready_of (get_or passes k (newcomer id p 0)).number times (get_or results k d) (counted k (newcomer id p 0) d (omega arith))

    pub all_owned : (whole : Standing P) (log : List ℕ) → All (IsListed whole) results → AreOwned (lists_of whole) log → (k : ℕ) → k < n → owned k log ≡ counts_of k times
    all_owned whole log listed own k lt =
        let d = newcomer id p 0 in let all = results_long in
        let number : (get_or passes k d).number ≡ k = ap (λ xs. (get_or xs k d).number) are ∙ ap (λ (z : Standing P). z.number) (newcomer_at id p n k d lt) in
        own_of k times whole log (get_or results k (Ok d)) own (subst (λ z. HasCounted id z times (get_or results k (Ok d))) number (counted k d (Ok d) (omega arith))) (listed k (Ok d) (omega arith))
