-- The search for least sums: settled controllers never change, what is reached only comes nearer, and once nothing is reached
-- that isn't settled, each sum is least.
use Rattle.std.proofs.Common.{◌≡◌, ◌≢◌, ◌<◌, ◌≤◌, ◌+◌, ◌*◌, ◌⊎◌, ◌∙◌, ◌++◌, ℕ, zero, suc, true, false, cond, eqb, min, Option, None, Some, List, [], ◌∷◌, fold, length, set, ap, refl, sym, subst, inl, inr, ⊎_elim, arith, sum_by, count_by, replicate}
use Rattle.std.specs.List.{All, Contains}
use Rattle.std.proofs.lemmas.Bool.{cases_lt, cases_eq, ne_eqb, eq-eqb}
use Rattle.std.proofs.lemmas.List.{get_or-set_same, get_or-set_other, get_or_past, length-set, get_or-replicate, length-replicate}
use Rattle.std.proofs.lemmas.List.Elements.{All-nil, All-head, All-tail, All-contains_itself, All-push}
use Rattle.std.proofs.lemmas.List.Sums.{sum_by-set, sum_by-cons, sum_by_push, count_by-le-length}
use Rattle.ruby_topology.specs.declared.paths.Mark.{Mark}
use Rattle.ruby_topology.specs.declared.paths.Mark.TheVariants.{Unreached, Reached, Settled}
use Rattle.ruby_topology.specs.declared.forms.Link.{Link}
use Rattle.ruby_topology.specs.Prelude.{HasWay, Joins, LeadsTo, IsBetween, IsNearest, IsSearched, far_end, is_settled, mark_at, mark_end, relaxed, shorter, sum_at}

-- a sum was found that is at most this one
abbrev pub IsWithin : List Mark → ℕ → ℕ → Type 0
IsWithin marks v s = (y : ℕ) × (sum_at (mark_at marks v) ≡ Some y) × (y ≤ s)

abbrev pub IsClosedAt : List Link → List Mark → ℕ → ℕ → Type 0
IsClosedAt links marks u x = (link : Link) → Contains links link → (v : ℕ) → Joins link u v → IsWithin marks v (x + link.length)

pub record IsSound (links : List Link) (total from : ℕ) (marks : List Mark) : Type 0 where
  pub all : length marks ≡ total
  pub start : IsWithin marks from 0
  pub real : (v x : ℕ) → sum_at (mark_at marks v) ≡ Some x → HasWay links from v x
  pub closed : (u x : ℕ) → mark_at marks u ≡ Settled x → IsClosedAt links marks u x
  pub order : (u x v y : ℕ) → mark_at marks u ≡ Settled x → mark_at marks v ≡ Reached y → x ≤ y
  pub bound : (v x : ℕ) → sum_at (mark_at marks v) ≡ Some x → x ≤ 1000 * count_by is_settled marks

-- while the links of u, whose sum is x, are gone over; c controllers were settled before it
pub record IsGoingOver (links : List Link) (total from u x c : ℕ) (marks : List Mark) : Type 0 where
  pub all : length marks ≡ total
  pub start : IsWithin marks from 0
  pub real : (v y : ℕ) → sum_at (mark_at marks v) ≡ Some y → HasWay links from v y
  pub closed : (w y : ℕ) → w ≢ u → mark_at marks w ≡ Settled y → IsClosedAt links marks w y
  pub here : mark_at marks u ≡ Settled x
  pub low : (w y : ℕ) → mark_at marks w ≡ Settled y → y ≤ x
  pub high : (w y : ℕ) → mark_at marks w ≡ Reached y → x ≤ y
  pub bound : (v y : ℕ) → sum_at (mark_at marks v) ≡ Some y → y ≤ 1000 * c + 1000
  pub small : x ≤ 1000 * c
  pub count : count_by is_settled marks ≡ c + 1

-- What `shorter` does to one mark.

shorter_settled : (m : Mark) (z y : ℕ) → shorter m z ≡ Settled y → m ≡ Settled y
shorter_settled Unreached z y e = cc
shorter_settled (Reached x) z y e = cc
shorter_settled (Settled x) z y e = e

settled_stays : (m : Mark) (z y : ℕ) → m ≡ Settled y → shorter m z ≡ Settled y
settled_stays Unreached z y e = cc
settled_stays (Reached x) z y e = cc
settled_stays (Settled x) z y e = e

reached_is : (x y : ℕ) → Reached x ≡ Reached y → x ≡ y
reached_is x y e = cc

some_is : (x y : ℕ) → Some x ≡ Some y → x ≡ y
some_is x y e = cc

min_is : (a b y : ℕ) → min a b ≡ y → (y ≡ a) ⊎ (y ≡ b)
min_is a b y e = ⊎_elim (λ lt. inl (omega arith)) (λ le. inr (omega arith)) (cases_lt a b)

shorter_reached : (m : Mark) (z y : ℕ) → shorter m z ≡ Reached y → (y ≡ z) ⊎ (m ≡ Reached y)
shorter_reached Unreached z y e = inl (sym (reached_is z y e))
shorter_reached (Reached x) z y e =
    ⊎_elim (λ first. inl first) (λ second. inr (ap Reached (sym second))) (min_is z x y (reached_is (min z x) y e))
shorter_reached (Settled x) z y e = cc

shorter_sum : (m : Mark) (z y : ℕ) → sum_at (shorter m z) ≡ Some y → (y ≡ z) ⊎ (sum_at m ≡ Some y)
shorter_sum Unreached z y e = inl (sym (some_is z y e))
shorter_sum (Reached x) z y e =
    ⊎_elim (λ first. inl first) (λ second. inr (ap Some (sym second))) (min_is z x y (some_is (min z x) y e))
shorter_sum (Settled x) z y e = inr e

shorter_within : (m : Mark) (z y : ℕ) → sum_at m ≡ Some y → (k : ℕ) × (sum_at (shorter m z) ≡ Some k) × (k ≤ y)
shorter_within Unreached z y e = cc
shorter_within (Reached x) z y e = let is = some_is x y e in (min z x, refl, omega arith)
shorter_within (Settled x) z y e = let is = some_is x y e in (x, refl, omega arith)

shorter_gives : (m : Mark) (z : ℕ) → ((y : ℕ) → m ≡ Settled y → y ≤ z) → (k : ℕ) × (sum_at (shorter m z) ≡ Some k) × (k ≤ z)
shorter_gives Unreached z low = (z, refl, omega arith)
shorter_gives (Reached x) z low = (min z x, refl, omega arith)
shorter_gives (Settled x) z low = (x, refl, low x refl)

same_settled : (m : Mark) (z : ℕ) → is_settled (shorter m z) ≡ is_settled m
same_settled Unreached z = refl
same_settled (Reached x) z = refl
same_settled (Settled x) z = refl

sum_is : (m : Mark) (y : ℕ) → sum_at m ≡ Some y → (m ≡ Reached y) ⊎ (m ≡ Settled y)
sum_is Unreached y e = cc
sum_is (Reached x) y e = inl (ap Reached (some_is x y e))
sum_is (Settled x) y e = inr (ap Settled (some_is x y e))

-- One more link: v, its far end, has z as the sum through u.

weaker : (marks : List Mark) (v s t : ℕ) → IsWithin marks v s → s ≤ t → IsWithin marks v t
weaker marks v s t w le = (w.0, w.1, omega (arith, w.2, le))

same_at : (marks : List Mark) (v : ℕ) (m : Mark) → v < length marks → mark_at (set marks v m) v ≡ m
same_at marks v m inside = get_or-set_same marks v m Unreached inside

other_at : (marks : List Mark) (v w : ℕ) (m : Mark) → w ≢ v → mark_at (set marks v m) w ≡ mark_at marks w
other_at marks v w m ne = get_or-set_other marks v w m Unreached ne

-- what holds of each mark, by what holds of the one that is set and of the others
each_mark : (P : ℕ → Mark → Type 0) (marks : List Mark) (v : ℕ) (m : Mark) → v < length marks → P v m → ((w : ℕ) → P w (mark_at marks w)) → (w : ℕ) → P w (mark_at (set marks v m) w)
each_mark P marks v m inside here others w =
    ⊎_elim
    (λ (e : w ≡ v). subst (λ k. P k (mark_at (set marks v m) k)) (sym e) (subst (P v) (sym (same_at marks v m inside)) here))
    (λ (ne : w ≢ v). subst (P w) (sym (other_at marks v w m ne)) (others w))
    (cases_eq w v)

set_within : (marks : List Mark) (v z : ℕ) → v < length marks → (w s : ℕ) → IsWithin marks w s → IsWithin (set marks v (shorter (mark_at marks v) z)) w s
set_within marks v z inside w s =
    each_mark (λ w m. ((k : ℕ) × (sum_at (mark_at marks w) ≡ Some k) × (k ≤ s)) → (k : ℕ) × (sum_at m ≡ Some k) × (k ≤ s))
    marks v (shorter (mark_at marks v) z) inside
    (λ h. let n = shorter_within (mark_at marks v) z h.0 h.1 in (n.0, n.1, omega (arith, n.2, h.2)))
    (λ w h. h) w

link_more : (links : List Link) (total from u x c v z : ℕ) (marks : List Mark) → IsGoingOver links total from u x c marks → v < length marks → HasWay links from v z → x ≤ z → z ≤ 1000 * c + 1000 → IsGoingOver links total from u x c (set marks v (shorter (mark_at marks v) z))
link_more links total from u x c v z marks going inside way least most =
    let after = set marks v (shorter (mark_at marks v) z) in
    record {
      all = length-set marks v (shorter (mark_at marks v) z) ∙ going.all;
      start = set_within marks v z inside from 0 going.start;
      real = each_mark (λ w m. (y : ℕ) → sum_at m ≡ Some y → HasWay links from w y) marks v (shorter (mark_at marks v) z) inside
          (λ y e. ⊎_elim (λ (is : y ≡ z). subst (HasWay links from v) (sym is) way) (λ old. going.real v y old) (shorter_sum (mark_at marks v) z y e))
          going.real;
      closed = each_mark (λ w m. (y : ℕ) → w ≢ u → m ≡ Settled y → IsClosedAt links after w y) marks v (shorter (mark_at marks v) z) inside
          (λ y ne e link has k joins. set_within marks v z inside k (y + link.length) (going.closed v y ne (shorter_settled (mark_at marks v) z y e) link has k joins))
          (λ w y ne e link has k joins. set_within marks v z inside k (y + link.length) (going.closed w y ne e link has k joins));
      here = each_mark (λ w m. mark_at marks w ≡ Settled x → m ≡ Settled x) marks v (shorter (mark_at marks v) z) inside
          (λ e. settled_stays (mark_at marks v) z x e) (λ w e. e) u going.here;
      low = each_mark (λ w m. (y : ℕ) → m ≡ Settled y → y ≤ x) marks v (shorter (mark_at marks v) z) inside
          (λ y e. going.low v y (shorter_settled (mark_at marks v) z y e)) going.low;
      high = each_mark (λ w m. (y : ℕ) → m ≡ Reached y → x ≤ y) marks v (shorter (mark_at marks v) z) inside
          (λ y e. ⊎_elim (λ (is : y ≡ z). omega (arith, is, least)) (λ old. going.high v y old) (shorter_reached (mark_at marks v) z y e)) going.high;
      bound = each_mark (λ w m. (y : ℕ) → sum_at m ≡ Some y → y ≤ 1000 * c + 1000) marks v (shorter (mark_at marks v) z) inside
          (λ y e. ⊎_elim (λ (is : y ≡ z). omega (arith, is, most)) (λ old. going.bound v y old) (shorter_sum (mark_at marks v) z y e)) going.bound;
      small = going.small;
      count =
          let kept = sum_by-set (λ m. cond (is_settled m) 1 0) marks v (shorter (mark_at marks v) z) Unreached inside in
          let same : ◌≡◌ {A = ℕ} (cond (is_settled (shorter (mark_at marks v) z)) 1 0) (cond (is_settled (mark_at marks v)) 1 0) = ap (λ b. cond b 1 0) (same_settled (mark_at marks v) z) in
          omega (arith, kept, same, going.count);
    }

-- Where a link leads.

joins_far : (link : Link) (u v : ℕ) → far_end link u ≡ Some v → Joins link u v
joins_far link u v e =
    ⊎_elim
    (λ (one : link.one ≡ u). let t : eqb link.one u ≡ true = eq-eqb link.one u one in inl (one, some_is link.other v (rw t at e)))
    (λ (ne : link.one ≢ u).
    let f : eqb link.one u ≡ false = ne_eqb link.one u ne in
    ⊎_elim
    (λ (other : link.other ≡ u). let t : eqb link.other u ≡ true = eq-eqb link.other u other in inr (some_is link.one v (rw (f, t) at e), other))
    (λ (no : link.other ≢ u). let g : eqb link.other u ≡ false = ne_eqb link.other u no in let none = rw (f, g) at e in cc)
    (cases_eq link.other u))
    (cases_eq link.one u)

far_joins : (link : Link) (u v : ℕ) → Joins link u v → far_end link u ≡ Some v
far_joins link u v joins =
    ⊎_elim
    (λ (h : (link.one ≡ u) × (link.other ≡ v)). let t : eqb link.one u ≡ true = eq-eqb link.one u h.0 in rw t (ap Some h.1))
    (λ (h : (link.one ≡ v) × (link.other ≡ u)).
    ⊎_elim
    (λ (one : link.one ≡ u). let t : eqb link.one u ≡ true = eq-eqb link.one u one in rw t (ap Some (h.1 ∙ sym one ∙ h.0)))
    (λ (ne : link.one ≢ u).
    let f : eqb link.one u ≡ false = ne_eqb link.one u ne in
    let t : eqb link.other u ≡ true = eq-eqb link.other u h.1 in rw (f, t) (ap Some h.0))
    (cases_eq link.one u))
    joins

far_inside : (total : ℕ) (link : Link) (u v : ℕ) → IsBetween total link → far_end link u ≡ Some v → v < total
far_inside total link u v inside e =
    ⊎_elim (λ (h : (link.one ≡ u) × (link.other ≡ v)). omega (arith, h.1, inside.1)) (λ (h : (link.one ≡ v) × (link.other ≡ u)). omega (arith, h.0, inside.0))
    (joins_far link u v e)

leads_on : (way : List Link) (link : Link) (a u v : ℕ) → LeadsTo way a u → Joins link u v → LeadsTo (way ++ link ∷ []) a v
leads_on [] link a u v leads joins = (v, subst (λ k. Joins link k v) (sym leads) joins, refl)
leads_on (first ∷ way) link a u v leads joins = (leads.0, leads.1, leads_on way link leads.0 u v leads.2 joins)

way_on : (links : List Link) (a u v x : ℕ) (link : Link) → Contains links link → Joins link u v → HasWay links a u x → HasWay links a v (x + link.length)
way_on links a u v x link has joins w =
    record {
      way = w.way ++ link ∷ [];
      listed = All-push (Contains links) w.way link w.listed has;
      leads = leads_on w.way link a u v w.leads joins;
      sums = ap (λ s. s + link.length) w.sums ∙ sym (sum_by_push (λ (l : Link). l.length) w.way link);
    }

-- All links of u.

link_gone_over : (links : List Link) (total from u x c : ℕ) (marks : List Mark) (link : Link) (far : Option ℕ) → far_end link u ≡ far → IsGoingOver links total from u x c marks → Contains links link → IsBetween total link → link.length ≤ 1000 → IsGoingOver links total from u x c (mark_end (x + link.length) marks far)
link_gone_over links total from u x c marks link None e going has inside short = going
link_gone_over links total from u x c marks link (Some v) e going has inside short =
    link_more links total from u x c v (x + link.length) marks going
    (let lt = far_inside total link u v inside e in omega (arith, lt, going.all))
    (way_on links from u v x link has (joins_far link u v e) (going.real u x (ap sum_at going.here)))
    (omega arith) (let small = going.small in omega (arith, small, short))

step_within : (total x : ℕ) (marks : List Mark) (link : Link) (u : ℕ) (far : Option ℕ) → far_end link u ≡ far → length marks ≡ total → IsBetween total link → (w s : ℕ) → IsWithin marks w s → IsWithin (mark_end x marks far) w s
step_within total x marks link u None e all inside w s h = h
step_within total x marks link u (Some v) e all inside w s h =
    set_within marks v x (let lt = far_inside total link u v inside e in omega (arith, lt, all)) w s h

step_reaches : (links : List Link) (total from u x c : ℕ) (marks : List Mark) (link : Link) (v : ℕ) → IsGoingOver links total from u x c marks → IsBetween total link → Joins link u v → IsWithin (relaxed u x marks link) v (x + link.length)
step_reaches links total from u x c marks link v going inside joins =
    let e = far_joins link u v joins in
    let lt : v < length marks = (let h = far_inside total link u v inside e in omega (arith, h, going.all)) in
    let gives = shorter_gives (mark_at marks v) (x + link.length) (λ y s. let low = going.low v y s in omega (arith, low)) in
    let after : IsWithin (set marks v (shorter (mark_at marks v) (x + link.length))) v (x + link.length) =
    (gives.0, ap sum_at (same_at marks v (shorter (mark_at marks v) (x + link.length)) lt) ∙ gives.1, gives.2) in
    subst (λ far. IsWithin (mark_end (x + link.length) marks far) v (x + link.length)) (sym e) after

pub record IsGoneOver (links : List Link) (total from u x c : ℕ) (over : List Link) (before after : List Mark) : Type 0 where
  pub going : IsGoingOver links total from u x c after
  pub kept : (w s : ℕ) → IsWithin before w s → IsWithin after w s
  pub reached : (link : Link) → Contains over link → (v : ℕ) → Joins link u v → IsWithin after v (x + link.length)

all_gone_over : (links : List Link) (total from u x c : ℕ) (over : List Link) (marks : List Mark) → All (Contains links) over → All (IsBetween total) over → All (λ (l : Link). l.length ≤ 1000) over → IsGoingOver links total from u x c marks → IsGoneOver links total from u x c over marks (fold (relaxed u x) marks over)
all_gone_over links total from u x c [] marks has inside short going =
    record { going = going; kept = λ w s h. h; reached = λ link in_none v joins. absurd (omega (arith, in_none.1)) }
all_gone_over links total from u x c (link ∷ over) marks has inside short going =
    let has_first = All-head (Contains links) link over has in
    let inside_first : IsBetween total link = All-head (IsBetween total) link over inside in
    let short_first : link.length ≤ 1000 = All-head (λ (l : Link). l.length ≤ 1000) link over short in
    let next : IsGoingOver links total from u x c (relaxed u x marks link) = link_gone_over links total from u x c marks link (far_end link u) refl going has_first inside_first short_first in
    let rest = all_gone_over links total from u x c over (relaxed u x marks link) (All-tail (Contains links) link over has) (All-tail (IsBetween total) link over inside) (All-tail (λ (l : Link). l.length ≤ 1000) link over short) next in
    record {
      going = rest.going;
      kept = λ w s h. rest.kept w s (step_within total (x + link.length) marks link u (far_end link u) refl going.all inside_first w s h);
      reached = λ other is_in v joins. cons_case other v joins is_in (step_reaches links total from u x c marks link) rest.kept rest.reached going inside_first;
    }
  where
    cons_case : (other : Link) (v : ℕ) → Joins other u v → Contains (link ∷ over) other
        → ((v : ℕ) → IsGoingOver links total from u x c marks → IsBetween total link → Joins link u v → IsWithin (relaxed u x marks link) v (x + link.length))
        → ((w s : ℕ) → IsWithin (relaxed u x marks link) w s → IsWithin (fold (relaxed u x) (relaxed u x marks link) over) w s)
        → ((l : Link) → Contains over l → (v : ℕ) → Joins l u v → IsWithin (fold (relaxed u x) (relaxed u x marks link) over) v (x + l.length))
        → IsGoingOver links total from u x c marks → IsBetween total link
        → IsWithin (fold (relaxed u x) (relaxed u x marks link) over) v (x + other.length)
    cons_case other v joins (zero, lt, is) first kept reached going inside_first =
        subst (λ (l : Link). IsWithin (fold (relaxed u x) (relaxed u x marks link) over) v (x + l.length)) is
        (kept v (x + link.length) (first v going inside_first (subst (λ (l : Link). Joins l u v) (sym is) joins)))
    cons_case other v joins (suc k, lt, is) first kept reached going inside_first =
        reached other (k, omega arith, is) v joins

-- Settling the nearest.

same_sums : (marks : List Mark) (u x : ℕ) → u < length marks → mark_at marks u ≡ Reached x → (w : ℕ) → sum_at (mark_at (set marks u (Settled x)) w) ≡ sum_at (mark_at marks w)
same_sums marks u x inside is =
    each_mark (λ w m. sum_at m ≡ sum_at (mark_at marks w)) marks u (Settled x) inside (sym (ap sum_at is)) (λ w. refl)

same_within : (marks : List Mark) (u x : ℕ) → u < length marks → mark_at marks u ≡ Reached x → (w s : ℕ) → IsWithin marks w s → IsWithin (set marks u (Settled x)) w s
same_within marks u x inside is w s h = (h.0, same_sums marks u x inside is w ∙ h.1, h.2)

reached_inside : (marks : List Mark) (w y : ℕ) → mark_at marks w ≡ Reached y → w < length marks
reached_inside marks w y e =
    ⊎_elim (λ lt. lt) (λ le. let past : mark_at marks w ≡ Unreached = get_or_past marks w Unreached le in absurd (different y (sym past ∙ e))) (cases_lt w (length marks))
  where
    different : (y : ℕ) → Unreached ≡ Reached y → ⊥
    different y e = cc

settled_begins : (links : List Link) (total from u x : ℕ) (marks : List Mark) → IsSound links total from marks → IsNearest marks (length marks) (Some (u, x)) → IsGoingOver links total from u x (count_by is_settled marks) (set marks u (Settled x))
settled_begins links total from u x marks sound nearest =
    let inside : u < length marks = nearest.0 in
    let is : mark_at marks u ≡ Reached x = nearest.1 in
    record {
      all = length-set marks u (Settled x) ∙ sound.all;
      start = same_within marks u x inside is from 0 sound.start;
      real = λ v y e. sound.real v y (sym (same_sums marks u x inside is v) ∙ e);
      closed = λ w y ne e link has v joins. same_within marks u x inside is v (y + link.length) (sound.closed w y (sym (other_at marks u w (Settled x) ne) ∙ e) link has v joins);
      here = same_at marks u (Settled x) inside;
      low = each_mark (λ w m. (y : ℕ) → m ≡ Settled y → y ≤ x) marks u (Settled x) inside
          (λ y e. let same = settled_is x y e in omega (arith, same)) (λ w y e. sound.order w y u x e is);
      high = each_mark (λ w m. (y : ℕ) → m ≡ Reached y → x ≤ y) marks u (Settled x) inside
          (λ y e. absurd (different x y e)) (λ w y e. nearest.2 w y (reached_inside marks w y e) e);
      bound = λ v y e. let b = sound.bound v y (sym (same_sums marks u x inside is v) ∙ e) in omega (arith, b);
      small = sound.bound u x (ap sum_at is);
      count =
          let more = sum_by-set (λ m. cond (is_settled m) 1 0) marks u (Settled x) Unreached inside in
          let none : ◌≡◌ {A = ℕ} (cond (is_settled (mark_at marks u)) 1 0) 0 = ap (λ m. cond (is_settled m) 1 0) is in
          omega (arith, more, none);
    }
  where
    settled_is : (x y : ℕ) → Settled x ≡ Settled y → x ≡ y
    settled_is x y e = cc

    different : (x y : ℕ) → Settled x ≡ Reached y → ⊥
    different x y e = cc

pub record IsSettled (links : List Link) (total from : ℕ) (before after : List Mark) : Type 0 where
  pub sound : IsSound links total from after
  pub count : count_by is_settled after ≡ count_by is_settled before + 1

pub settle_keeps : (links : List Link) (total from u x : ℕ) (marks : List Mark) → All (IsBetween total) links → All (λ (l : Link). l.length ≤ 1000) links → IsSound links total from marks → IsNearest marks (length marks) (Some (u, x)) → IsSettled links total from marks (fold (relaxed u x) (set marks u (Settled x)) links)
settle_keeps links total from u x marks inside short sound nearest =
    let gone = all_gone_over links total from u x (count_by is_settled marks) links (set marks u (Settled x)) (All-contains_itself links) inside short (settled_begins links total from u x marks sound nearest) in
    let going = gone.going in
    let after = fold (relaxed u x) (set marks u (Settled x)) links in
    record {
      sound = record {
        all = going.all;
        start = going.start;
        real = going.real;
        closed = λ w y e link has v joins.
            ⊎_elim
            (λ (same : w ≡ u).
            let is : y ≡ x = settled_is y x (sym e ∙ ap (mark_at after) same ∙ going.here) in
            subst (λ s. IsWithin after v (s + link.length)) (sym is) (gone.reached link has v (subst (λ k. Joins link k v) same joins)))
            (λ (ne : w ≢ u). going.closed w y ne e link has v joins)
            (cases_eq w u);
        order = λ w a v b settled reached. let low = going.low w a settled in let high = going.high v b reached in omega (arith, low, high);
        bound = λ v y e. let b = going.bound v y e in let n = going.count in omega (arith, b, n);
      };
      count = going.count;
    }
  where
    settled_is : (x y : ℕ) → Settled x ≡ Settled y → x ≡ y
    settled_is x y e = cc

pub settled_few : (links : List Link) (total from : ℕ) (marks : List Mark) → IsSound links total from marks → count_by is_settled marks ≤ total
settled_few links total from marks sound = let few = count_by-le-length is_settled marks in omega (arith, few, sound.all)

-- The end and the beginning.

all_within : (links : List Link) (total from : ℕ) (marks : List Mark) → IsSound links total from marks → IsNearest marks (length marks) None → (way : List Link) → All (Contains links) way → (u x v : ℕ) → IsWithin marks u x → LeadsTo way u v → IsWithin marks v (x + sum_by (λ (l : Link). l.length) way)
all_within links total from marks sound none [] has u x v within leads =
    subst (λ k. IsWithin marks k (x + 0)) leads (weaker marks u x (x + 0) within (omega arith))
all_within links total from marks sound none (link ∷ way) has u x v within leads =
    let settled : mark_at marks u ≡ Settled within.0 =
    ⊎_elim (λ (e : mark_at marks u ≡ Reached within.0). absurd (none u within.0 (reached_inside marks u within.0 e) e)) (λ e. e) (sum_is (mark_at marks u) within.0 within.1) in
    let next = sound.closed u within.0 settled link (All-head (Contains links) link way has) leads.0 leads.1 in
    let rest = all_within links total from marks sound none way (All-tail (Contains links) link way has) leads.0 (within.0 + link.length) v next leads.2 in
    let sums = sum_by-cons (λ (l : Link). l.length) link way in
    let le = within.2 in
    weaker marks v (within.0 + link.length + sum_by (λ (l : Link). l.length) way) (x + sum_by (λ (l : Link). l.length) (link ∷ way)) rest (omega (arith, sums, le))

way_within : (links : List Link) (total from : ℕ) (marks : List Mark) → IsSound links total from marks → IsNearest marks (length marks) None → (v s : ℕ) → HasWay links from v s → IsWithin marks v s
way_within links total from marks sound none v s w =
    let h = all_within links total from marks sound none w.way w.listed from 0 v sound.start w.leads in
    let sums = w.sums in
    weaker marks v (0 + sum_by (λ (l : Link). l.length) w.way) s h (omega (arith, sums))

pub searched : (links : List Link) (total from : ℕ) (marks : List Mark) → IsSound links total from marks → IsNearest marks (length marks) None → IsSearched links total from marks
searched links total from marks sound none =
    record {
      all = sound.all;
      found = λ v x inside e. record {
        some_way = sound.real v x e;
        least = λ s w. let h = way_within links total from marks sound none v s w in let same = some_is x h.0 (sym e ∙ h.1) in let le = h.2 in omega (arith, same, le);
      };
      missed = λ v x inside e w. let h = way_within links total from marks sound none v x w in different h.0 (sym e ∙ h.1);
      bound = λ v x e. let b = sound.bound v x e in let few = settled_few links total from marks sound in omega (arith, b, few);
    }
  where
    different : (x : ℕ) → ◌≡◌ {A = Option ℕ} None (Some x) → ⊥
    different x e = cc

pub begins_sound : (links : List Link) (total from : ℕ) → from < total → IsSound links total from (set (replicate total Unreached) from (Reached 0))
begins_sound links total from inside =
    let none = replicate total Unreached in
    let many : length none ≡ total = length-replicate total Unreached in
    let lt : from < length none = omega (arith, many) in
    let others : (w : ℕ) → mark_at none w ≡ Unreached = λ w. unreached w in
    let only : (w : ℕ) (y : ℕ) → sum_at (mark_at (set none from (Reached 0)) w) ≡ Some y → (w ≡ from) × (y ≡ 0) =
    λ w y e. ⊎_elim
    (λ (same : w ≡ from). (same, sym (some_is 0 y (sym (ap sum_at (ap (mark_at (set none from (Reached 0))) same ∙ same_at none from (Reached 0) lt)) ∙ e))))
    (λ (ne : w ≢ from). absurd (different y (sym (ap sum_at (other_at none from w (Reached 0) ne ∙ others w)) ∙ e)))
    (cases_eq w from) in
    let unsettled : (w y : ℕ) → mark_at (set none from (Reached 0)) w ≡ Settled y → ⊥ =
    each_mark (λ w m. (y : ℕ) → m ≡ Settled y → ⊥) none from (Reached 0) lt (λ y e. reached_not y e) (λ w y e. unreached_not y (sym (others w) ∙ e)) in
    record {
      all = length-set none from (Reached 0) ∙ many;
      start = (0, ap sum_at (same_at none from (Reached 0) lt), omega arith);
      real = λ v x e. let is = only v x e in
          record { way = []; listed = All-nil (Contains links); leads = sym is.0; sums = is.1 };
      closed = λ u x e. absurd (unsettled u x e);
      order = λ u x v y e f. absurd (unsettled u x e);
      bound = λ v x e. let is = only v x e in let z = is.1 in omega (arith, z);
    }
  where
    different : (x : ℕ) → ◌≡◌ {A = Option ℕ} None (Some x) → ⊥
    different x e = cc

    reached_not : (y : ℕ) → Reached 0 ≡ Settled y → ⊥
    reached_not y e = cc

    unreached_not : (y : ℕ) → Unreached ≡ Settled y → ⊥
    unreached_not y e = cc

    unreached : (w : ℕ) → mark_at (replicate total Unreached) w ≡ Unreached
    unreached w = ⊎_elim (λ (lt : w < total). get_or-replicate total w Unreached Unreached lt)
        (λ (le : total ≤ w). get_or_past (replicate total Unreached) w Unreached (let many = length-replicate total Unreached in omega (arith, many)))
        (cases_lt w total)
