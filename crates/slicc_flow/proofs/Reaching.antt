-- Ways of calls, with at most so many calls one inside the other.
use Rattle.std.proofs.Common.{◌≡◌, ◌+◌, ◌<◌, ◌≤◌, ◌==◌, ◌||◌, ◌++◌, ◌-◌, ℕ, Bool, true, false, zero, suc, List, [], ◌∷◌, length, get_or, arith, refl, sym, ap, ◌∙◌, subst}
use Rattle.std.proofs.lemmas.Bool.{eqb-true, eq-eqb}
use Rattle.std.specs.List.{list_any}
use Rattle.slicc_plan.specs.declared.part.Body.{Body}
use Rattle.slicc_plan.specs.Prelude.{calls_at, reaches_within}

-- the number is among these
abbrev pub has : ℕ → List ℕ → Bool
has k cs = list_any (λ c. c == k) cs

or_more : (a b c : Bool) → (b ≡ true → c ≡ true) → (a || b) ≡ true → (a || c) ≡ true
or_more true b c imp h = refl
or_more false b c imp h = imp h

pub or_left : (a b : Bool) → a ≡ true → (a || b) ≡ true
or_left true b e = refl
or_left false b e = absurd (cc)

or_right : (a b : Bool) → b ≡ true → (a || b) ≡ true
or_right true b h = refl
or_right false b h = h

pub either : (a b c : Bool) → (a ≡ true → c ≡ true) → (b ≡ true → c ≡ true) → (a || b) ≡ true → c ≡ true
either true b c f g h = f refl
either false b c f g h = g h

both_or : (a b c d : Bool) → (a ≡ true → c ≡ true) → (b ≡ true → d ≡ true) → (a || b) ≡ true → (c || d) ≡ true
both_or true b true d f g h = refl
both_or true b false d f g h = let e = f refl in cc
both_or false b c d f g h = or_right c d (g h)

pub any_more : (p q : ℕ → Bool) (cs : List ℕ) → ((c : ℕ) → p c ≡ true → q c ≡ true) → list_any p cs ≡ true → list_any q cs ≡ true
any_more p q [] imp h = h
any_more p q (c ∷ cs) imp h = both_or (p c) (list_any p cs) (q c) (list_any q cs) (imp c) (any_more p q cs imp) h

-- what one of them passes, with the one
any_go : (p : ℕ → Bool) (R : Type 0) (c : ℕ) (cs : List ℕ) (v : Bool) → p c ≡ v → ((d : ℕ) → has d (c ∷ cs) ≡ true → p d ≡ true → R) → (((d : ℕ) → has d cs ≡ true → p d ≡ true → R) → list_any p cs ≡ true → R) → (v || list_any p cs) ≡ true → R
any_go p R c cs true e found later h = found c (let same : (c == c) ≡ true = eq-eqb c c refl in rw (same) refl) e
any_go p R c cs false e found later h = later (λ d among passes. found d (or_right (c == d) (has d cs) among) passes) h

pub any_in : (p : ℕ → Bool) (R : Type 0) (cs : List ℕ) → ((c : ℕ) → has c cs ≡ true → p c ≡ true → R) → list_any p cs ≡ true → R
any_in p R [] found h = absurd (cc)
any_in p R (c ∷ cs) found h = any_go p R c cs (p c) refl found (any_in p R cs) h

index_go : (k x : ℕ) (xs : List ℕ) (v : Bool) → (x == k) ≡ v → (has k xs ≡ true → (i : ℕ) × (i < length xs) × (get_or xs i 0 ≡ k)) → (v || has k xs) ≡ true → (i : ℕ) × (i < length (x ∷ xs)) × (get_or (x ∷ xs) i 0 ≡ k)
index_go k x xs true e later h = (0, omega arith, eqb-true x k e)
index_go k x xs false e later h = let (i, below, is) = later h in (suc i, omega (arith, below), is)

pub has_index : (k : ℕ) (xs : List ℕ) → has k xs ≡ true → (i : ℕ) × (i < length xs) × (get_or xs i 0 ≡ k)
has_index k [] h = absurd (cc)
has_index k (x ∷ xs) h = index_go k x xs (x == k) refl (has_index k xs) h

pub has_left : (k : ℕ) (xs ys : List ℕ) → has k xs ≡ true → has k (xs ++ ys) ≡ true
has_left k [] ys h = absurd (cc)
has_left k (x ∷ xs) ys h = or_more (x == k) (has k xs) (has k (xs ++ ys)) (has_left k xs ys) h

pub has_last : (k : ℕ) (xs : List ℕ) → has k (xs ++ k ∷ []) ≡ true
has_last k [] = let same : (k == k) ≡ true = eq-eqb k k refl in rw (same) refl
has_last k (x ∷ xs) = or_right (x == k) (has k (xs ++ k ∷ [])) (has_last k xs)

pub none_within : (depth : ℕ) (functions : List Body) (k : ℕ) → reaches_within depth functions k [] ≡ false
none_within zero functions k = refl
none_within (suc depth) functions k = refl

pub within_suc : (depth : ℕ) (functions : List Body) (k : ℕ) (cs : List ℕ) → reaches_within depth functions k cs ≡ true → reaches_within (suc depth) functions k cs ≡ true
within_suc zero functions k cs h = absurd (cc)
within_suc (suc depth) functions k cs h =
    any_more (λ c. (c == k) || reaches_within depth functions k (calls_at functions c)) (λ c. (c == k) || reaches_within (suc depth) functions k (calls_at functions c)) cs
    (λ c i. or_more (c == k) _ _ (within_suc depth functions k (calls_at functions c)) i) h

within_more : (more depth : ℕ) (functions : List Body) (k : ℕ) (cs : List ℕ) (all : ℕ) → all ≡ more + depth → reaches_within depth functions k cs ≡ true → reaches_within all functions k cs ≡ true
within_more zero depth functions k cs all e h = let same : depth ≡ all = omega arith in subst (λ n. reaches_within n functions k cs ≡ true) same h
within_more (suc more) depth functions k cs all e h =
    let same : suc (more + depth) ≡ all = omega arith in
    subst (λ n. reaches_within n functions k cs ≡ true) same (within_suc (more + depth) functions k cs (within_more more depth functions k cs (more + depth) refl h))

pub within_le : (depth all : ℕ) (functions : List Body) (k : ℕ) (cs : List ℕ) → depth ≤ all → reaches_within depth functions k cs ≡ true → reaches_within all functions k cs ≡ true
within_le depth all functions k cs le h =
    let e : all ≡ (all - depth) + depth = omega arith in within_more (all - depth) depth functions k cs all e h

-- a way goes on with one more call
pub within_then : (depth : ℕ) (functions : List Body) (x k : ℕ) (cs : List ℕ) → reaches_within depth functions x cs ≡ true → has k (calls_at functions x) ≡ true → reaches_within (suc depth) functions k cs ≡ true
within_then zero functions x k cs h calls = absurd (cc)
within_then (suc depth) functions x k cs h calls =
    any_more (λ c. (c == x) || reaches_within depth functions x (calls_at functions c)) (λ c. (c == k) || reaches_within (suc depth) functions k (calls_at functions c)) cs
    (λ c i. or_right (c == k) (reaches_within (suc depth) functions k (calls_at functions c))
    (either (c == x) (reaches_within depth functions x (calls_at functions c)) (reaches_within (suc depth) functions k (calls_at functions c))
    (λ e. subst (λ y. reaches_within (suc depth) functions k (calls_at functions y) ≡ true) (sym (eqb-true c x e))
    (any_more (λ d. d == k) (λ d. (d == k) || reaches_within depth functions k (calls_at functions d)) (calls_at functions x) (λ d j. or_left (d == k) _ j) calls))
    (λ j. within_then depth functions x k (calls_at functions c) j calls) i)) h

pub has_first : (c : ℕ) (cs : List ℕ) → has c (c ∷ cs) ≡ true
has_first c cs = let same : (c == c) ≡ true = eq-eqb c c refl in rw (same) refl

pub has_more : (d c : ℕ) (cs : List ℕ) → has d cs ≡ true → has d (c ∷ cs) ≡ true
has_more d c cs h = or_right (c == d) (has d cs) h

later_go : (a b : Bool) → a ≡ false → (a || b) ≡ true → b ≡ true
later_go true b e h = absurd (cc)
later_go false b e h = h

pub has_later : (d c : ℕ) (cs : List ℕ) → (c == d) ≡ false → has d (c ∷ cs) ≡ true → has d cs ≡ true
has_later d c cs e h = later_go (c == d) (has d cs) e h
