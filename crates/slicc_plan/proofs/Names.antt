-- In an accepted protocol no two declarations of one scope have the same name.
use Rattle.std.proofs.Common.{◌≡◌, ◌++◌, ◌⊎◌, ◌∙◌, Bool, true, false, cond, Option, None, Some, List, [], ◌∷◌, All, inl, inr, refl, sym, ap, subst, flat_map, map}
use Rattle.std.specs.List.{AllPairs}
use Rattle.std.specs.Str.{bytes_eq}
use Rattle.std.proofs.lemmas.List.{append-nil}
use Rattle.std.proofs.lemmas.List.Elements.{All-append, All-cons, All-head, All-map, All-nil, All-tail, All-weaker}
use Rattle.std.proofs.lemmas.List.Kept.{AllPairs-cons}
use Rattle.ruby_value.proofs.Ordered.{AllPairs-append, AllPairs-head, AllPairs-nil, AllPairs-tail}
use Rattle.slicc_ast.specs.declared.tree.item.Tree.{Tree}
use Rattle.slicc_ast.specs.declared.tree.machine.Machine.{Machine}
use Rattle.slicc_ast.specs.declared.tree.name.Name.{Name}
use Rattle.slicc_plan.specs.Prelude.{IsAccepted, is_same_scope, Declaration, machine, Scope, everywhere, within, global_declarations, machine_declarations, name_of, refused_field_types, limits_passed, unknown_built_ins, global_scopes, inner_scopes, scopes_within, declaration_told, first_with, globally_repeated_after, names_twice_declared, repeated, repeated_after, takes_built_in_name, told_after, told_globally, ScopedDeclaration, made_in, made_with_its_own, scoped_declarations, unknown_types, bad_values}
use Rattle.slicc_plan.specs.TwiceDeclared.{listed, names_of, told_with}
use Rattle.slicc_plan.proofs.Room.{left_none, right_none}
use Rattle.slicc_plan.proofs.There.{There, all_there}

-- a name that isn't another
abbrev Differs : Name → Name → Type 0
Differs k n = bytes_eq k.text n.text ≡ true → ⊥

abbrev pub Apart : Declaration → Declaration → Type 0
Apart a b = (k n : Name) → name_of a ≡ Some k → name_of b ≡ Some n → Differs k n

-- none of the names before it is that of the declaration
abbrev FreshTo : List Name → Declaration → Type 0
FreshTo before d = (n : Name) → name_of d ≡ Some n → All (λ k. Differs k n) before

none_with : (n : Name) (before : List Name) → first_with n.text before ≡ None → All (λ k. Differs k n) before
none_with n [] none = All-nil (λ k. Differs k n)
none_with n (k ∷ ks) none = by (λ is. none_with n ks is) (bytes_eq k.text n.text) refl none
  where
    by : (first_with n.text ks ≡ None → All (λ j. Differs j n) ks) → (b : Bool) → bytes_eq k.text n.text ≡ b → cond b (Some k) (first_with n.text ks) ≡ None → All (λ j. Differs j n) (k ∷ ks)
    by rest true same is = absurd (cc is)
    by rest false other is = All-cons (λ j. Differs j n) k ks (λ same. cc (sym other ∙ same)) (rest is)

fresh_name : (before : List Name) (n : Name) (o : Option Name) → first_with n.text before ≡ o → told_with n.span o ≡ [] → All (λ k. Differs k n) before
fresh_name before n None found none = none_with n before found
fresh_name before n (Some k) found told = absurd (cc told)

fresh_told : (before : List Name) (n : Name) → told_after before n ≡ [] → All (λ k. Differs k n) before
fresh_told before n told = fresh_name before n (first_with n.text before) refl told

-- declarations after names, where nothing is told of them
pub record ComeApart (before : List Name) (ds : List Declaration) : Type 0 where
  pub fresh : All (FreshTo before) ds
  pub apart : AllPairs Apart ds

all_left : {X : Type 0} (P : X → Type 0) (xs ys : List X) → All P (xs ++ ys) → All P xs
all_left P [] ys all = All-nil P
all_left P (x ∷ xs) ys all = All-cons P x xs (All-head P x (xs ++ ys) all) (all_left P xs ys (All-tail P x (xs ++ ys) all))

all_right : {X : Type 0} (P : X → Type 0) (xs ys : List X) → All P (xs ++ ys) → All P ys
all_right P [] ys all = all
all_right P (x ∷ xs) ys all = all_right P xs ys (All-tail P x (xs ++ ys) all)

module _ (before : List Name) (d : Declaration) (ds : List Declaration) where
  apart_step : FreshTo before d → ComeApart (before ++ listed (name_of d)) ds → ComeApart before (d ∷ ds)
  apart_step fresh rest = record {
    fresh = All-cons (FreshTo before) d ds fresh
        (All-weaker (FreshTo (before ++ listed (name_of d))) (FreshTo before)
        (λ x f n is. all_left (λ k. Differs k n) before (listed (name_of d)) (f n is)) ds rest.fresh);
    apart = AllPairs-cons Apart d ds
        (All-weaker (FreshTo (before ++ listed (name_of d))) (Apart d)
        (λ x f k n is_k is_n.
        let own : All (λ j. Differs j n) (listed (name_of d)) = all_right (λ j. Differs j n) before (listed (name_of d)) (f n is_n) in
        let one : All (λ j. Differs j n) (k ∷ []) = subst (λ (o : Option Name). All (λ j. Differs j n) (listed o)) is_k own in
        All-head (λ j. Differs j n) k [] one) ds rest.fresh)
        rest.apart;
  }

-- right in the protocol
globally_fresh : (before : List Name) (d : Declaration) (n : Name) (b : Bool) → told_globally before n b ≡ [] → All (λ k. Differs k n) before
globally_fresh before d n true told = absurd (cc told)
globally_fresh before d n false told = fresh_told before n told

declaration_fresh : (before : List Name) (d : Declaration) (o : Option Name) → declaration_told before d o ≡ [] → (n : Name) → o ≡ Some n → All (λ k. Differs k n) before
declaration_fresh before d None told n is = absurd (cc is)
declaration_fresh before d (Some m) told n is =
    let same : m ≡ n = cc is in
    subst (λ (x : Name). All (λ k. Differs k x) before) same (globally_fresh before d m (takes_built_in_name d m) told)

globally_apart : (before : List Name) (ds : List Declaration) → globally_repeated_after before ds ≡ [] → ComeApart before ds
globally_apart before [] none = record { fresh = All-nil (FreshTo before); apart = AllPairs-nil Apart }
globally_apart before (d ∷ ds) none =
    let here = left_none (declaration_told before d (name_of d)) (globally_repeated_after (before ++ listed (name_of d)) ds) none in
    let rest = right_none (declaration_told before d (name_of d)) (globally_repeated_after (before ++ listed (name_of d)) ds) none in
    apart_step before d ds (declaration_fresh before d (name_of d) here) (globally_apart (before ++ listed (name_of d)) ds rest)

-- in a machine
locally_apart : (before : List Name) (ds : List Declaration) → repeated_after before (names_of ds) ≡ [] → ComeApart before ds
locally_apart before [] none = record { fresh = All-nil (FreshTo before); apart = AllPairs-nil Apart }
locally_apart before (d ∷ ds) none = by (λ names told. locally_apart names ds told) (name_of d) refl none
  where
    by : ((names : List Name) → repeated_after names (names_of ds) ≡ [] → ComeApart names ds) → (o : Option Name) → name_of d ≡ o → repeated_after before (listed o ++ names_of ds) ≡ [] → ComeApart before (d ∷ ds)
    by rest None is told =
        let here : before ++ listed (name_of d) ≡ before = ap (λ (o : Option Name). before ++ listed o) is ∙ append-nil before in
        apart_step before d ds (λ n other. absurd (cc (sym is ∙ other)))
        (subst (λ (names : List Name). ComeApart names ds) (sym here) (rest before told))
    by rest (Some n) is told =
        let here : before ++ listed (name_of d) ≡ before ++ n ∷ [] = ap (λ (o : Option Name). before ++ listed o) is in
        apart_step before d ds
        (λ k other. let same : n ≡ k = cc (sym is ∙ other) in subst (λ (x : Name). All (λ j. Differs j x) before) same (fresh_told before n (left_none (told_after before n) (repeated_after (before ++ n ∷ []) (names_of ds)) told)))
        (subst (λ (names : List Name). ComeApart names ds) (sym here) (rest (before ++ n ∷ []) (right_none (told_after before n) (repeated_after (before ++ n ∷ []) (names_of ds)) told)))

-- All scopes.

abbrev HasApart : Declaration → Type 0
HasApart (machine m) = AllPairs Apart (machine_declarations m)
HasApart d = Unit {0}

one_has_apart : (d : Declaration) → flat_map repeated (global_scopes d) ≡ [] → HasApart d
one_has_apart (machine m) none =
    let first = left_none (repeated (machine_declarations m)) (flat_map repeated (flat_map inner_scopes (machine_declarations m))) none in
    let parts = locally_apart [] (machine_declarations m) first in parts.apart
one_has_apart _ none = tt

flat_twice : {X Y Z : Type 0} (f : X → List Y) (g : Y → List Z) (xs : List X) → flat_map g (flat_map f xs) ≡ [] → All (λ x. flat_map g (f x) ≡ []) xs
flat_twice f g [] none = All-nil (λ x. flat_map g (f x) ≡ [])
flat_twice {X} {Y} {Z} f g (x ∷ xs) none =
    let split : flat_map g (f x ++ flat_map f xs) ≡ flat_map g (f x) ++ flat_map g (flat_map f xs) = over (f x) (flat_map f xs) in
    let parts = sym split ∙ none in
    All-cons (λ y. flat_map g (f y) ≡ []) x xs (left_none (flat_map g (f x)) (flat_map g (flat_map f xs)) parts)
    (flat_twice f g xs (right_none (flat_map g (f x)) (flat_map g (flat_map f xs)) parts))
  where
    assoc : (xs ys zs : List Z) → xs ++ (ys ++ zs) ≡ (xs ++ ys) ++ zs
    assoc [] ys zs = refl
    assoc (a ∷ xs) ys zs = ap (λ ds. a ∷ ds) (assoc xs ys zs)

    over : (xs ys : List Y) → flat_map g (xs ++ ys) ≡ flat_map g xs ++ flat_map g ys
    over [] ys = refl
    over (a ∷ xs) ys = ap (λ ds. g a ++ ds) (over xs ys) ∙ assoc (g a) (flat_map g xs) (flat_map g ys)

module _ (trees : List Tree) (accepted : IsAccepted trees) where
  pub none_twice : names_twice_declared trees ≡ []
  none_twice =
      left_none (names_twice_declared trees) (unknown_types trees)
      (left_none (names_twice_declared trees ++ unknown_types trees) (limits_passed trees)
      (left_none (names_twice_declared trees ++ unknown_types trees ++ limits_passed trees) (refused_field_types trees)
      (left_none (names_twice_declared trees ++ unknown_types trees ++ limits_passed trees ++ refused_field_types trees) (bad_values trees)
      (left_none (names_twice_declared trees ++ unknown_types trees ++ limits_passed trees ++ refused_field_types trees ++ bad_values trees) (unknown_built_ins trees) accepted.of_declarations))))

  global_apart : AllPairs Apart (global_declarations trees)
  global_apart =
      let parts = globally_apart [] (global_declarations trees) (left_none (globally_repeated_after [] (global_declarations trees)) (flat_map repeated (scopes_within trees)) none_twice) in
      parts.apart

  all_kept : All (λ d. flat_map repeated (global_scopes d) ≡ []) (global_declarations trees)
  all_kept =
      flat_twice global_scopes repeated (global_declarations trees)
      (right_none (globally_repeated_after [] (global_declarations trees)) (flat_map repeated (scopes_within trees)) none_twice)

  -- in a machine
  pub none_repeated : (m : Machine) → There (global_declarations trees) (machine m) → repeated (machine_declarations m) ≡ []
  none_repeated m there =
      left_none (repeated (machine_declarations m)) (flat_map repeated (flat_map inner_scopes (machine_declarations m)))
      (all_there (λ d. flat_map repeated (global_scopes d) ≡ []) (global_declarations trees) (machine m) all_kept there)

  pub machine_apart : (m : Machine) → There (global_declarations trees) (machine m) → AllPairs Apart (machine_declarations m)
  machine_apart m there = let parts = locally_apart [] (machine_declarations m) (none_repeated m there) in parts.apart

-- With their scopes.

abbrev pub ApartIn : ScopedDeclaration → ScopedDeclaration → Type 0
ApartIn x y = is_same_scope x.scope y.scope ≡ true → Apart x.declaration y.declaration

-- where a declaration with its scope comes from
abbrev From : Declaration → ScopedDeclaration → Type 0
From d x = ((x.scope ≡ everywhere) × (x.declaration ≡ d)) ⊎ ((m : Machine) × (d ≡ machine m) × (x.scope ≡ within m))

own_from : (m : Machine) (ds : List Declaration) → All (From (machine m)) (map (made_in (within m)) ds)
own_from m ds = All-map (From (machine m)) (made_in (within m)) ds (λ k d lt. inr (m, refl, refl))

made_from : (d : Declaration) → All (From d) (made_with_its_own d)
made_from (machine m) = All-cons (From (machine m)) (made_in everywhere (machine m)) (map (made_in (within m)) (machine_declarations m)) (inl (refl, refl)) (own_from m (machine_declarations m))
made_from d = All-cons (From d) (made_in everywhere d) [] (inl (refl, refl)) (All-nil (From d))

from_apart : (d e : Declaration) (x y : ScopedDeclaration) → Apart d e → From d x → From e y → ApartIn x y
from_apart d e x y apart (inl first) (inl second) same = λ k n is_k is_n.
    apart k n (ap name_of (sym first.1) ∙ is_k) (ap name_of (sym second.1) ∙ is_n)
from_apart d e x y apart (inl first) (inr second) same =
    let wrong : is_same_scope everywhere (within second.0) ≡ true = ap (λ (s : Scope). is_same_scope s (within second.0)) (sym first.0) ∙ ap (is_same_scope x.scope) (sym second.2) ∙ same in absurd (cc wrong)
from_apart d e x y apart (inr first) (inl second) same =
    let wrong : is_same_scope (within first.0) everywhere ≡ true = ap (λ (s : Scope). is_same_scope s everywhere) (sym first.2) ∙ ap (is_same_scope x.scope) (sym second.0) ∙ same in absurd (cc wrong)
from_apart d e x y apart (inr first) (inr second) same =
    let named : bytes_eq first.0.name.text second.0.name.text ≡ true = ap (λ (s : Scope). is_same_scope s (within second.0)) (sym first.2) ∙ ap (is_same_scope x.scope) (sym second.2) ∙ same in
    absurd (apart first.0.name second.0.name (ap name_of first.1) (ap name_of second.1) named)

pairs_mapped : (m : Machine) (ds : List Declaration) → AllPairs Apart ds → AllPairs ApartIn (map (made_in (within m)) ds)
pairs_mapped m [] pairs = AllPairs-nil ApartIn
pairs_mapped m (d ∷ ds) pairs =
    AllPairs-cons ApartIn (made_in (within m) d) (map (made_in (within m)) ds)
    (All-map (ApartIn (made_in (within m) d)) (made_in (within m)) ds
    (All-weaker (Apart d) (λ e. ApartIn (made_in (within m) d) (made_in (within m) e)) (λ e apart same. apart) ds (AllPairs-head Apart d ds pairs)))
    (pairs_mapped m ds (AllPairs-tail Apart d ds pairs))

one_apart : (d : Declaration) → HasApart d → AllPairs ApartIn (made_with_its_own d)
one_apart (machine m) has =
    AllPairs-cons ApartIn (made_in everywhere (machine m)) (map (made_in (within m)) (machine_declarations m))
    (All-map (ApartIn (made_in everywhere (machine m))) (made_in (within m)) (machine_declarations m) (λ k d lt same. absurd (cc same)))
    (pairs_mapped m (machine_declarations m) has)
one_apart d has = AllPairs-cons ApartIn (made_in everywhere d) [] (All-nil (ApartIn (made_in everywhere d))) (AllPairs-nil ApartIn)

across : (d : Declaration) (ds : List Declaration) (x : ScopedDeclaration) → From d x → All (Apart d) ds → All (ApartIn x) (flat_map made_with_its_own ds)
across d [] x from apart = All-nil (ApartIn x)
across d (e ∷ ds) x from apart =
    All-append (ApartIn x) (made_with_its_own e) (flat_map made_with_its_own ds)
    (All-weaker (From e) (ApartIn x) (λ y from_y. from_apart d e x y (All-head (Apart d) e ds apart) from from_y) (made_with_its_own e) (made_from e))
    (across d ds x from (All-tail (Apart d) e ds apart))

all_apart : (ds : List Declaration) → AllPairs Apart ds → All HasApart ds → AllPairs ApartIn (flat_map made_with_its_own ds)
all_apart [] pairs has = AllPairs-nil ApartIn
all_apart (d ∷ ds) pairs has =
    AllPairs-append ApartIn (made_with_its_own d) (flat_map made_with_its_own ds) (one_apart d (All-head HasApart d ds has))
    (all_apart ds (AllPairs-tail Apart d ds pairs) (All-tail HasApart d ds has))
    (All-weaker (From d) (λ x. All (ApartIn x) (flat_map made_with_its_own ds)) (λ x from. across d ds x from (AllPairs-head Apart d ds pairs)) (made_with_its_own d) (made_from d))

pub scoped_apart : (trees : List Tree) → IsAccepted trees → AllPairs ApartIn (scoped_declarations trees)
scoped_apart trees accepted = all_apart (global_declarations trees) (global_apart trees accepted) (All-weaker (λ d. flat_map repeated (global_scopes d) ≡ []) HasApart one_has_apart (global_declarations trees) (all_kept trees accepted))
