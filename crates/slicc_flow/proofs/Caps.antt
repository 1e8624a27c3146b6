-- Capped sizes add up to capped sums.
use Rattle.std.proofs.Common.{◌≡◌, ◌+◌, ◌<◌, ◌++◌, ℕ, zero, suc, List, [], ◌∷◌, length, map, min, take, get_or, add-one, arith, refl, sym, ap, ◌∙◌, subst}
use Rattle.std.proofs.lemmas.List.{map-append, take_more}
use Rattle.std.proofs.lemmas.List.Sums.{sum_by-cons, sum_by_push}
use Rattle.std.specs.List.{slice_get, sum_by}
use Rattle.slicc_plan.specs.declared.part.Body.{Body}
use Rattle.slicc_plan.specs.Prelude.{function_size, size_or_none, size_with}
use Rattle.slicc_flow.specs.Prelude.{AreSizes, capped, next_sizes}

two : (a x y s : ℕ) → y ≡ capped x → capped ((a + y) + s) ≡ capped ((a + x) + s)
two a x y s is = omega arith

-- what each call counts may be capped or not
pub capped_sum : (f g : ℕ → ℕ) (a : ℕ) (cs : List ℕ) → ((c : ℕ) → g c ≡ capped (f c)) → capped (a + sum_by g cs) ≡ capped (a + sum_by f cs)
capped_sum f g a [] is = refl
capped_sum f g a (c ∷ cs) is =
    let later : capped ((a + g c) + sum_by g cs) ≡ capped ((a + g c) + sum_by f cs) = capped_sum f g (a + g c) cs is in
    let here : capped ((a + g c) + sum_by f cs) ≡ capped ((a + f c) + sum_by f cs) = two a (f c) (g c) (sum_by f cs) (is c) in
    let one = sum_by-cons g c cs in
    let other = sum_by-cons f c cs in
    omega arith

-- one more call
pub capped_step : (f : ℕ → ℕ) (a : ℕ) (cs : List ℕ) (i size after : ℕ) → i < length cs → size ≡ capped (a + sum_by f (take i cs)) → after ≡ capped (size + capped (f (get_or cs i 0))) → after ≡ capped (a + sum_by f (take (i + 1) cs))
capped_step f a cs i size after below is next =
    let taken : sum_by f (take (i + 1) cs) ≡ sum_by f (take i cs) + f (get_or cs i 0) = rw (take_more cs i 0 below) (sum_by_push f (take i cs) (get_or cs i 0)) in
    omega arith

sizes_at : (h : Body → ℕ) (f : ℕ → ℕ) (bs : List Body) (k : ℕ) → ((b : Body) → h b ≡ capped (size_with f b)) → get_or (map h bs) k 0 ≡ capped (size_or_none f (slice_get bs k))
sizes_at h f [] k is = refl
sizes_at h f (b ∷ bs) zero is = is b
sizes_at h f (b ∷ bs) (suc k) is = sizes_at h f bs k is

-- one call deeper
pub deeper : (functions : List Body) (depth : ℕ) (sizes after : List ℕ) → AreSizes functions depth sizes → after ≡ next_sizes functions sizes → AreSizes functions (suc depth) after
deeper functions depth sizes after are is k =
    ap (λ xs. get_or xs k 0) is
    ∙ sizes_at (λ (b : Body). capped (size_with (λ c. get_or sizes c 0) b)) (function_size depth functions) functions k
    (λ b. capped_sum (function_size depth functions) (λ c. get_or sizes c 0) b.size b.calls are)

pub next_step : (bs : List Body) (sizes old new : List ℕ) (i : ℕ) (d : Body) → i < length bs → old ≡ next_sizes (take i bs) sizes → new ≡ old ++ capped (size_with (λ c. get_or sizes c 0) (get_or bs i d)) ∷ [] → new ≡ next_sizes (take (i + 1) bs) sizes
next_step bs sizes old new i d below is next =
    next ∙ ap (λ xs. xs ++ capped (size_with (λ c. get_or sizes c 0) (get_or bs i d)) ∷ []) is
    ∙ sym (map-append (λ (b : Body). capped (size_with (λ c. get_or sizes c 0) b)) (take i bs) (get_or bs i d ∷ []))
    ∙ ap (λ xs. next_sizes xs sizes) (sym (take_more bs i d below))
