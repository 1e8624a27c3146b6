-- How many controllers a topology has in all, and that its links and its network keep the ranges of the lines.
use Rattle.std.proofs.Common.{◌≡◌, ◌≢◌, ◌<◌, ◌≤◌, ◌+◌, ◌∙◌, ℕ, zero, suc, Bool, true, false, cond, eqb, Option, None, Some, List, [], ◌∷◌, ap, refl, sym, subst, arith, ⊎_elim, length, lit≤, sum, sum_by, unwrap_or, ◌||◌, option_and_then}
use Rattle.std.specs.List.{All, cons_option, filter_map, list_any, range_with_len}
use Rattle.std.specs.Option.{option_or}
use Rattle.std.proofs.lemmas.Bool.{cases_eq, eq-eqb, ne_eqb}
use Rattle.std.proofs.lemmas.List.{length-append, length-map}
use Rattle.std.proofs.lemmas.List.Elements.{All-cons, All-head, All-nil, All-tail}
use Rattle.std.proofs.lemmas.List.FromFn.{length-range_with_len}
use Rattle.std.proofs.lemmas.List.Quantifiers.{position-Some}
use Rattle.std.proofs.lemmas.List.Sums.{sum-map, sum_by-cons}
use Rattle.ruby_symbols.specs.declared.symbols.Symbols.{Symbols}
use Rattle.ruby_topology.specs.declared.forms.Link.{Link as LinkOf}
use Rattle.ruby_topology.specs.declared.forms.Member.{Member}
use Rattle.ruby_topology.specs.declared.forms.Network.TheVariants.{PointToPoint}
use Rattle.ruby_topology.specs.declared.forms.Statement.{Statement}
use Rattle.ruby_topology.specs.declared.forms.Statement.TheVariants.{Machine, Network, Link}
use Rattle.ruby_topology.specs.Prelude.{count_or_none, controllers, count_of, counted, is_member, network_in, network_said, IsBetween, counts_of, link_in, links_of, members_from, members_of, network_of, IsNetworkWithin, IsWithin}
use Rattle.ruby_topology.specs.Topology.{number_in}

-- it is before the range
one_before : (f : ℕ → ℕ) (k c a n : ℕ) → k < a → sum_by (λ m. cond (eqb k m) c (f m)) (range_with_len a n) ≡ sum_by f (range_with_len a n)
one_before f k c a zero before = refl
one_before f k c a (suc n) before =
    let g : ℕ → ℕ = λ m. cond (eqb k m) c (f m) in
    let other : eqb k a ≡ false = ne_eqb k a (λ e. omega (arith, e)) in
    let here : g a ≡ f a = ap (λ b. cond b c (f a)) other in
    let rest = one_before f k c (a + 1) n (omega arith) in
    sum_by-cons g a (range_with_len (a + 1) n) ∙ (ap (λ x. x + sum_by g (range_with_len (a + 1) n)) here ∙ ap (λ x. f a + x) rest)
    ∙ sym (sum_by-cons f a (range_with_len (a + 1) n))

one_more : (f : ℕ → ℕ) (k c a n : ℕ) → sum_by (λ m. cond (eqb k m) c (f m)) (range_with_len a n) ≤ c + sum_by f (range_with_len a n)
one_more f k c a zero = omega arith
one_more f k c a (suc n) =
    let g : ℕ → ℕ = λ m. cond (eqb k m) c (f m) in
    let first = sum_by-cons g a (range_with_len (a + 1) n) in
    let old = sum_by-cons f a (range_with_len (a + 1) n) in
    ⊎_elim
    (λ (same : k ≡ a).
    let t : eqb k a ≡ true = eq-eqb k a same in
    let here : g a ≡ c = ap (λ b. cond b c (f a)) t in
    let rest = one_before f k c (a + 1) n (omega (arith, same)) in
    omega (arith, first, old, here, rest))
    (λ (ne : k ≢ a).
    let other : eqb k a ≡ false = ne_eqb k a ne in
    let here : g a ≡ f a = ap (λ b. cond b c (f a)) other in
    let rest = one_more f k c (a + 1) n in
    omega (arith, first, old, here, rest))
    (cases_eq k a)

zeros : (a n : ℕ) → sum_by (λ (m : ℕ). 0) (range_with_len a n) ≡ 0
zeros a zero = refl
zeros a (suc n) =
    let first = sum_by-cons (λ (m : ℕ). 0) a (range_with_len (a + 1) n) in
    let rest = zeros (a + 1) n in omega (arith, first, rest)

-- the value that the first statement gives in place of what the others say
first_count : (k c : ℕ) (said : List Statement) (m : ℕ) → count_or_none (Machine k c ∷ said) m ≡ cond (eqb k m) c (count_or_none said m)
first_count k c said m =
    elim (eqb k m) as (λ b. unwrap_or (option_or (cond b (Some c) None) (count_of said m)) 0 ≡ cond b c (count_or_none said m)) [
      | true ↦ refl
      | false ↦ refl
    ]

same_sums : (f g : ℕ → ℕ) (xs : List ℕ) → ((x : ℕ) → f x ≡ g x) → sum_by f xs ≡ sum_by g xs
same_sums f g [] same = refl
same_sums f g (x ∷ xs) same =
    let first = sum_by-cons f x xs in
    let second = sum_by-cons g x xs in
    let here = same x in
    let rest = same_sums f g xs same in
    omega (arith, first, second, here, rest)

counts_of_range : (said : List Statement) (a n : ℕ) → sum_by (count_or_none said) (range_with_len a n) ≤ controllers said
counts_of_range [] a n = let none = zeros a n in omega (arith, none)
counts_of_range (Machine k c ∷ said) a n =
    let same = same_sums (count_or_none (Machine k c ∷ said)) (λ m. cond (eqb k m) c (count_or_none said m)) (range_with_len a n) (first_count k c said) in
    let more = one_more (count_or_none said) k c a n in
    let rest = counts_of_range said a n in
    let all = sum_by-cons counted (Machine k c) said in
    omega (arith, same, more, rest, all)
counts_of_range (s ∷ said) a n =
    let rest = counts_of_range said a n in
    let all = sum_by-cons counted s said in
    omega (arith, rest, all)

pub sum_of_counts : (symbols : Symbols) (said : List Statement) → sum (counts_of symbols said) ≤ controllers said
sum_of_counts symbols said =
    let range = range_with_len 0 (length symbols.machines) in
    let same = sum-map (count_or_none said) range in
    let few = counts_of_range said 0 (length symbols.machines) in
    omega (arith, same, few)

pub length_of_members : (machine : ℕ) (counts : List ℕ) → length (members_from machine counts) ≡ sum counts
length_of_members machine [] = refl
length_of_members machine (count ∷ counts) =
    let rest = length_of_members (machine + 1) counts in
    let both = length-append (members_of machine count) (members_from (machine + 1) counts) in
    let first = length-map {B = Member} (range_with_len 0 count) (λ index. record { machine = machine; index = index }) in
    let many = length-range_with_len 0 count in
    let all = sum_by-cons (λ (x : ℕ). x) count counts in
    omega (arith, rest, both, first, many, all)

-- What holds of each item that is picked.
pub picked : {A B : Type 0} (P : A → Type 0) (Q : B → Type 0) (pick : A → Option B) → ((x : A) (y : B) → P x → pick x ≡ Some y → Q y) → (xs : List A) → All P xs → All Q (filter_map pick xs)
picked P Q pick holds [] all = All-nil Q
picked {A} {B} P Q pick holds (x ∷ xs) all =
    with_first (pick x) refl (picked P Q pick holds xs (All-tail P x xs all))
  where
    with_first : (o : Option B) → pick x ≡ o → All Q (filter_map pick xs) → All Q (cons_option o (filter_map pick xs))
    with_first None e rest = rest
    with_first (Some y) e rest = All-cons Q y (filter_map pick xs) (holds x y (All-head P x xs all) e) rest

-- the ends of a link are places of controllers, and its length is the one that is said
pub record IsPlaced (total length : ℕ) (l : LinkOf) : Type 0 where
  pub between : IsBetween total l
  pub same : l.length ≡ length

both_placed : (members : List Member) (a b : Option ℕ) (length_said : ℕ) (l : LinkOf)
    → ((n : ℕ) → a ≡ Some n → n < length members) → ((n : ℕ) → b ≡ Some n → n < length members)
    → option_and_then (λ i. option_and_then (λ j. Some (record { one = i; other = j; length = length_said })) b) a ≡ Some l
    → IsPlaced (length members) length_said l
both_placed members None b n l a_in b_in e = cc
both_placed members (Some i) None n l a_in b_in e = cc
both_placed members (Some i) (Some j) n l a_in b_in e =
    subst (IsPlaced (length members) n) (unwrapped (record { one = i; other = j; length = n }) l e)
    (record { between = (a_in i refl, b_in j refl); same = refl })
  where
    unwrapped : (x y : LinkOf) → Some x ≡ Some y → x ≡ y
    unwrapped x y e = cc

placed_inside : (members : List Member) (c : Member) (n : ℕ) → number_in members c ≡ Some n → n < length members
placed_inside members c n e = let at = position-Some (is_member c) members n c e in at.0

placed : (members : List Member) (s : Statement) (l : LinkOf) → IsWithin s → link_in members s ≡ Some l → IsBetween (length members) l × (l.length ≤ 1000)
placed members (Link one other length_said) l within e =
    let is = both_placed members (number_in members one) (number_in members other) length_said l (placed_inside members one) (placed_inside members other) e in
    let same = is.same in
    (is.between, omega (arith, same, within))
placed members _ l within e = cc

pub links_between : (members : List Member) (said : List Statement) → All IsWithin said → All (IsBetween (length members)) (links_of members said)
links_between members said within = picked IsWithin (IsBetween (length members)) (link_in members) (λ s l w e. (placed members s l w e).0) said within

pub links_short : (members : List Member) (said : List Statement) → All IsWithin said → All (λ (l : LinkOf). l.length ≤ 1000) (links_of members said)
links_short members said within = picked IsWithin (λ (l : LinkOf). l.length ≤ 1000) (link_in members) (λ s l w e. (placed members s l w e).1) said within

pub network_within : (said : List Statement) → All IsWithin said → IsNetworkWithin (network_of said)
network_within [] all = lit≤ tt
network_within (s ∷ said) all = first_within s said (All-head IsWithin s said all) (network_within said (All-tail IsWithin s said all))
  where
    first_within : (s : Statement) (said : List Statement) → IsWithin s → IsNetworkWithin (network_of said) → IsNetworkWithin (unwrap_or (option_or (network_in s) (network_said said)) (PointToPoint 1))
    first_within (Network n) said here rest = here
    first_within _ said here rest = rest

-- Whether some number of a range passes a test.

any_from : (p : ℕ → Bool) (a n k : ℕ) → k < n → p (a + k) ≡ true → list_any p (range_with_len a n) ≡ true
any_from p a zero k inside here = absurd (omega arith)
any_from p a (suc n) zero inside here =
    let same : a + 0 ≡ a = omega arith in
    let first : p a ≡ true = sym (ap p same) ∙ here in rw first refl
any_from p a (suc n) (suc k) inside here =
    let next : a + 1 + k ≡ a + suc k = omega arith in
    let rest = any_from p (a + 1) n k (omega arith) (ap p next ∙ here) in
    elim (p a) as (λ b. (b || list_any p (range_with_len (a + 1) n)) ≡ true) [ true ↦ refl | false ↦ rest ]

pub any_at : (p : ℕ → Bool) (n k : ℕ) → k < n → p k ≡ true → list_any p (range_with_len 0 n) ≡ true
any_at p n k inside here = let none : 0 + k ≡ k = omega arith in any_from p 0 n k inside (ap p none ∙ here)

none_in : (p : ℕ → Bool) (a n : ℕ) → ((j : ℕ) → j < n → p (a + j) ≡ false) → list_any p (range_with_len a n) ≡ false
none_in p a zero below = refl
none_in p a (suc n) below =
    let same : a + 0 ≡ a = omega arith in
    let first : p a ≡ false = sym (ap p same) ∙ below 0 (omega arith) in
    rw first (none_in p (a + 1) n (λ j lt. let next : a + 1 + j ≡ a + suc j = omega arith in ap p next ∙ below (suc j) (omega arith)))

pub any_nowhere : (p : ℕ → Bool) (n : ℕ) → ((j : ℕ) → j < n → p j ≡ false) → list_any p (range_with_len 0 n) ≡ false
any_nowhere p n below = none_in p 0 n (λ j lt. let none : 0 + j ≡ j = omega arith in ap p none ∙ below j lt)
