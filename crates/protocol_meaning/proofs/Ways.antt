-- Among few controllers a least sum is small: a way along links that comes to a controller twice can be made shorter, so some way
-- has no more links than there are controllers.
use Rattle.std.proofs.Common.{◌≡◌, ◌≢◌, ◌⊎◌, ◌<◌, ◌≤◌, ◌*◌, ◌∙◌, ◌||◌, ℕ, zero, suc, Bool, true, false, cond, not, eqb, List, [], ◌∷◌, refl, sym, subst, arith, inl, inr, ⊎_elim, length, mul-le-mul_right, eq-eqb, eqb-true}
use Rattle.std.specs.Prelude.{All, Contains, filter, sum_by}
use Rattle.std.specs.List.{list_any, range_with_len}
use Rattle.std.proofs.lemmas.Bool.{cases_eq, or_left, or_right}
use Rattle.std.proofs.lemmas.List.Elements.{All-cons, All-contains, All-head, All-nil, All-tail, All-weaker}
use Rattle.std.proofs.lemmas.List.FromFn.{length-range_with_len}
use Rattle.std.proofs.lemmas.List.Sums.{sum_by-le}
use Rattle.ruby_topology.specs.declared.forms.Link.{Link}
use Rattle.ruby_topology.specs.Prelude.{IsLeastSum, Joins, LeadsTo, IsBetween}
use Rattle.ruby_topology.proofs.Totals.{any_at}

-- Numbers in a list, and a list without one of them.

abbrev is_in : ℕ → List ℕ → Bool
is_in v s = list_any (λ u. eqb u v) s

abbrev without : ℕ → List ℕ → List ℕ
without c s = filter (λ u. not (eqb u c)) s

filtered_short : (p : ℕ → Bool) (s : List ℕ) → length (filter p s) ≤ length s
filtered_short p [] = omega arith
filtered_short p (x ∷ s) = by_test (p x) (filtered_short p s)
  where
    by_test : (b : Bool) → length (filter p s) ≤ length s → length (cond b (x ∷ filter p s) (filter p s)) ≤ length (x ∷ s)
    by_test true h = omega (arith, h)
    by_test false h = omega (arith, h)

shorter_without : (c : ℕ) (s : List ℕ) → is_in c s ≡ true → length (without c s) < length s
shorter_without c [] e = absurd (cc e)
shorter_without c (x ∷ s) e = by_test (shorter_without c s) (eqb x c) e
  where
    by_test : (is_in c s ≡ true → length (without c s) < length s) → (b : Bool) → (b || is_in c s) ≡ true → length (cond (not b) (x ∷ without c s) (without c s)) < length (x ∷ s)
    by_test later true h = let short = filtered_short (λ u. not (eqb u c)) s in omega (arith, short)
    by_test later false h = let short = later h in omega (arith, short)

in_without : (v c : ℕ) (s : List ℕ) → v ≢ c → is_in v s ≡ true → is_in v (without c s) ≡ true
in_without v c [] other e = absurd (cc e)
in_without v c (x ∷ s) other e = by_tests (in_without v c s other) (eqb x v) (eqb x c) refl refl e
  where
    by_tests : (is_in v s ≡ true → is_in v (without c s) ≡ true) → (a b : Bool) → eqb x v ≡ a → eqb x c ≡ b → (a || is_in v s) ≡ true → is_in v (cond (not b) (x ∷ without c s) (without c s)) ≡ true
    by_tests later true true is_v is_c h =
        absurd (other (sym (eqb-true x v is_v) ∙ eqb-true x c is_c))
    by_tests later true false is_v is_c h = or_left (eqb x v) (is_in v (without c s)) is_v
    by_tests later false true is_v is_c h = later h
    by_tests later false false is_v is_c h = or_right (eqb x v) (is_in v (without c s)) (later h)

in_more : (v c : ℕ) (s : List ℕ) → is_in v (without c s) ≡ true → is_in v s ≡ true
in_more v c [] e = e
in_more v c (x ∷ s) e = by_test (in_more v c s) (eqb x c) e
  where
    either : (a b d : Bool) → (b ≡ true → d ≡ true) → (a || b) ≡ true → (a || d) ≡ true
    either true b d h e = refl
    either false b d h e = h e

    by_test : (is_in v (without c s) ≡ true → is_in v s ≡ true) → (b : Bool) → is_in v (cond (not b) (x ∷ without c s) (without c s)) ≡ true → is_in v (x ∷ s) ≡ true
    by_test later true h = or_right (eqb x v) (is_in v s) (later h)
    by_test later false h = either (eqb x v) (is_in v (without c s)) (is_in v s) later h

-- Ways that come only to controllers of a list.

module _ (links : List Link) where
  abbrev WayIn : List ℕ → List Link → ℕ → ℕ → Type 0
  WayIn s [] a b = a ≡ b
  WayIn s (link ∷ way) a b = (c : ℕ) × Contains links link × Joins link a c × (is_in c s ≡ true) × WayIn s way c b

  joined_in : (s : List ℕ) (l : Link) (a c : ℕ) → is_in l.one s ≡ true → is_in l.other s ≡ true → Joins l a c → is_in c s ≡ true
  joined_in s l a c one other joins =
      ⊎_elim (λ (h : (l.one ≡ a) × (l.other ≡ c)). subst (λ v. is_in v s ≡ true) h.1 other)
      (λ (h : (l.one ≡ c) × (l.other ≡ a)). subst (λ v. is_in v s ≡ true) h.0 one) joins

  way_in : (s : List ℕ) → All (λ (l : Link). (is_in l.one s ≡ true) × (is_in l.other s ≡ true)) links → (way : List Link) (a b : ℕ) → All (Contains links) way → LeadsTo way a b → WayIn s way a b
  way_in s ends [] a b listed leads = leads
  way_in s ends (l ∷ way) a b listed leads =
      let here = All-head (Contains links) l way listed in
      let both = All-contains (λ (x : Link). (is_in x.one s ≡ true) × (is_in x.other s ≡ true)) links l ends here in (
        leads.0,
        here,
        leads.1,
        joined_in s l a leads.0 both.0 both.1 leads.1,
        way_in s ends way leads.0 b (All-tail (Contains links) l way listed) leads.2,
      )

  way_listed : (s : List ℕ) (way : List Link) (a b : ℕ) → WayIn s way a b → All (Contains links) way
  way_listed s [] a b h = All-nil (Contains links)
  way_listed s (l ∷ way) a b h = All-cons (Contains links) l way h.1 (way_listed s way h.0 b h.4)

  way_leads : (s : List ℕ) (way : List Link) (a b : ℕ) → WayIn s way a b → LeadsTo way a b
  way_leads s [] a b h = h
  way_leads s (l ∷ way) a b h = (h.0, h.2, way_leads s way h.0 b h.4)

  way_more : (c : ℕ) (s : List ℕ) (way : List Link) (a b : ℕ) → WayIn (without c s) way a b → WayIn s way a b
  way_more c s [] a b h = h
  way_more c s (l ∷ way) a b h = (h.0, h.1, h.2, in_more h.0 c s h.3, way_more c s way h.0 b h.4)

  -- a way comes never to c, or what follows when it comes there last does not
  record FromLast (s : List ℕ) (c b : ℕ) : Type 0 where
    rest : List Link
    avoids : WayIn (without c s) rest c b

  last_visit : (s : List ℕ) (c : ℕ) (way : List Link) (a b : ℕ) → WayIn s way a b → WayIn (without c s) way a b ⊎ FromLast s c b
  last_visit s c [] a b h = inl h
  last_visit s c (l ∷ way) a b h =
      ⊎_elim
      (λ (avoids : WayIn (without c s) way h.0 b).
      ⊎_elim
      (λ (same : h.0 ≡ c). inr (record { rest = way; avoids = subst (λ v. WayIn (without c s) way v b) same avoids }))
      (λ (other : h.0 ≢ c). inl (h.0, h.1, h.2, in_without h.0 c s other h.3, avoids))
      (cases_eq h.0 c))
      (λ (later : FromLast s c b). inr later)
      (last_visit s c way h.0 b h.4)

  record IsShortWay (n : ℕ) (s : List ℕ) (a b : ℕ) : Type 0 where
    way : List Link
    few : length way ≤ n
    leads : WayIn s way a b

  nowhere : (c : ℕ) (s : List ℕ) → length s ≤ 0 → is_in c s ≡ true → ⊥
  nowhere c [] few e = absurd (cc e)
  nowhere c (x ∷ s) few e = absurd (omega (arith, few))

  from_last : (s : List ℕ) (c b : ℕ) (way : List Link) → WayIn (without c s) way c b ⊎ FromLast s c b → FromLast s c b
  from_last s c b way h =
      ⊎_elim (λ (avoids : WayIn (without c s) way c b). record { rest = way; avoids = avoids })
      (λ (later : FromLast s c b). later) h

  short_way : (n : ℕ) (s : List ℕ) (way : List Link) (a b : ℕ) → length s ≤ n → WayIn s way a b → IsShortWay n s a b
  short_way n s [] a b few h = record { way = []; few = omega arith; leads = h }
  short_way zero s (l ∷ way) a b few h = absurd (nowhere h.0 s few h.3)
  short_way (suc n) s (l ∷ way) a b few h =
      let tail = from_last s h.0 b way (last_visit s h.0 way h.0 b h.4) in
      let fewer = shorter_without h.0 s h.3 in
      let rest = short_way n (without h.0 s) tail.rest h.0 b (omega (arith, few, fewer)) tail.avoids in
      let short = rest.few in
      record {
        way = l ∷ rest.way;
        few = omega (arith, short);
        leads = (h.0, h.1, h.2, h.3, way_more h.0 s rest.way h.0 b rest.leads);
      }

pub least_is_small : (links : List Link) (total from to path : ℕ) → All (IsBetween total) links → All (λ (l : Link). l.length ≤ 1000) links → IsLeastSum links from to path → path ≤ total * 1000
least_is_small links total from to path between short least =
    let numbers = range_with_len 0 total in
    let there : (v : ℕ) → v < total → is_in v (range_with_len 0 total) ≡ true = λ v lt. any_at (λ u. eqb u v) total v lt (eq-eqb v v refl) in
    let ends : All (λ (l : Link). (is_in l.one (range_with_len 0 total) ≡ true) × (is_in l.other (range_with_len 0 total) ≡ true)) links =
    All-weaker (IsBetween total) (λ (l : Link). (is_in l.one (range_with_len 0 total) ≡ true) × (is_in l.other (range_with_len 0 total) ≡ true))
    (λ l h. (there l.one h.0, there l.other h.1)) links between in
    let some = least.some_way in
    let way = short_way links total (range_with_len 0 total) some.way from to (omega (arith, length-range_with_len 0 total))
    (way_in links (range_with_len 0 total) ends some.way from to some.listed some.leads) in
    let listed = way_listed links (range_with_len 0 total) way.way from to way.leads in
    let each : All (λ (l : Link). l.length ≤ 1000) way.way =
    All-weaker (Contains links) (λ (l : Link). l.length ≤ 1000) (λ l h. All-contains (λ (x : Link). x.length ≤ 1000) links l short h) way.way listed in
    let sum = sum_by-le (λ (l : Link). l.length) 1000 way.way each in
    let few = mul-le-mul_right 1000 way.few in
    let at_most = least.least (sum_by (λ (l : Link). l.length) way.way)
    (record { way = way.way; listed = listed; leads = way_leads links (range_with_len 0 total) way.way from to way.leads; sums = refl }) in
    omega (arith, sum, few, at_most)
