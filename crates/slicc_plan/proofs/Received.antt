-- A machine of an accepted protocol has at most one buffer from a virtual network.
use Rattle.std.proofs.Common.{◌≡◌, ◌++◌, ◌+◌, ◌≤◌, ◌==◌, ◌||◌, ℕ, Bool, true, false, cond, Option, None, Some, List, [], ◌∷◌, All, flat_map, slice_get, refl, sym, ap, subst, arith}
use Rattle.std.specs.List.{count_by, list_any}
use Rattle.std.proofs.lemmas.List.Sums.{sum_by-append, sum_by-cons}
use Rattle.ruby_symbols.specs.declared.machine.BufferSymbol.{BufferSymbol}
use Rattle.slicc_ast.specs.declared.tree.declaration.Pairs.{Pairs}
use Rattle.slicc_ast.specs.declared.tree.item.Tree.{Tree}
use Rattle.slicc_ast.specs.declared.tree.machine.Machine.{Machine}
use Rattle.slicc_plan.specs.declared.broken.Broken.{Broken}
use Rattle.slicc_plan.specs.Prelude.{IsAccepted, BufferIn, Place, own, to_network, from_network, buffer_in, buffers_of, Declaration, machine_declarations, machines_of, in_each, all_ports, are_from_one, differing_after, doubled_after, doubled_in, networks_broken, wrong_ports_in, attributes_of, buffer_place, symbols_of, buffer_of_place, buffer_symbol, machine_symbols, KnownType, ReceivesOnce, is_from}
use Rattle.slicc_plan.specs.Buffers.{listed}
use Rattle.slicc_plan.specs.MessageTypes.{message_type}
use Rattle.slicc_plan.proofs.Room.{left_none, right_none}
use Rattle.slicc_plan.proofs.Machines.{all_machines, none_in_one}
use Rattle.slicc_plan.proofs.MachinesKept.{machines_kept}

abbrev is_from_place : ℕ → Place → Bool
is_from_place network own = false
is_from_place network (to_network n) = false
is_from_place network (from_network n) = n == network

abbrev is_from_in : ℕ → BufferIn → Bool
is_from_in network b = is_from_place network b.place

or_right : (c d : Bool) → d ≡ true → (c || d) ≡ true
or_right true d e = refl
or_right false d e = e

or_map : (a b c d : Bool) → (a ≡ true → c ≡ true) → (b ≡ true → d ≡ true) → (a || b) ≡ true → (c || d) ≡ true
or_map true b c d f g e = subst (λ z. (z || d) ≡ true) (sym (f refl)) refl
or_map false b c d f g e = or_right c d (g e)

any_map : {X : Type 0} (f g : X → Bool) → ((x : X) → f x ≡ true → g x ≡ true) → (xs : List X) → list_any f xs ≡ true → list_any g xs ≡ true
any_map f g h [] e = e
any_map f g h (x ∷ xs) e = or_map (f x) (list_any f xs) (g x) (list_any g xs) (h x) (any_map f g h xs) e

any_last : {X : Type 0} (f : X → Bool) (xs : List X) (x : X) → list_any f xs ≡ true → list_any f (xs ++ x ∷ []) ≡ true
any_last f [] x e = cc
any_last f (y ∷ xs) x e =
    or_map (f y) (list_any f xs) (f y) (list_any f (xs ++ x ∷ [])) (λ z. z) (any_last f xs x) e

last_any : {X : Type 0} (f : X → Bool) (xs : List X) (x : X) → f x ≡ true → list_any f (xs ++ x ∷ []) ≡ true
last_any f [] x e = subst (λ z. (z || false) ≡ true) (sym e) refl
last_any f (y ∷ xs) x e = or_right (f y) (list_any f (xs ++ x ∷ [])) (last_any f xs x e)

one_number : (n v w : ℕ) → (w == v) ≡ true → (n == v) ≡ true → (n == w) ≡ true
one_number n v w e g = grind arith

both_from : (v w : ℕ) → (w == v) ≡ true → (p : Place) → is_from_place v p ≡ true → are_from_one p (from_network w) ≡ true
both_from v w e own h = cc
both_from v w e (to_network n) h = cc
both_from v w e (from_network n) h = one_number n v w e h

met : (v : ℕ) (p : Place) (before : List BufferIn) → is_from_place v p ≡ true → list_any (is_from_in v) before ≡ true → list_any (λ (a : BufferIn). are_from_one a.place p) before ≡ true
met v own before h e = cc
met v (to_network n) before h e = cc
met v (from_network w) before h e =
    any_map (is_from_in v) (λ (a : BufferIn). are_from_one a.place (from_network w)) (λ a g. both_from v w h a.place g) before e

abbrev as_number : Bool → ℕ
as_number u = cond u 1 0

count_more : (v : ℕ) (b : BufferIn) (bs : List BufferIn) → count_by (is_from_in v) (b ∷ bs) ≡ cond (is_from_in v b) 1 0 + count_by (is_from_in v) bs
count_more v b bs = sum_by-cons (λ a. cond (is_from_in v a) 1 0) b bs

abbrev doubled_at : ℕ → List BufferIn → BufferIn → List Broken
doubled_at number before b = cond (list_any (λ (a : BufferIn). are_from_one a.place b.place) before) (networks_broken number b.span ∷ []) []

-- after one from a network no other is
no_more_by : (number v : ℕ) (before bs : List BufferIn) (b : BufferIn) (u : Bool) → is_from_in v b ≡ u → doubled_at number before b ≡ [] → list_any (is_from_in v) before ≡ true → count_by (is_from_in v) bs ≡ 0 → count_by (is_from_in v) (b ∷ bs) ≡ 0
no_more_by number v before bs b true g none h rest =
    let doubled : networks_broken number b.span ∷ [] ≡ [] = subst (λ u. cond u (networks_broken number b.span ∷ []) [] ≡ []) (met v b.place before g h) none in
    cc
no_more_by number v before bs b false g none h rest =
    let head : as_number (is_from_in v b) ≡ 0 = ap as_number g in
    omega (arith, count_more v b bs, head, rest)

no_more : (number v : ℕ) (before bs : List BufferIn) → doubled_after number before bs ≡ [] → list_any (is_from_in v) before ≡ true → count_by (is_from_in v) bs ≡ 0
no_more number v before [] e h = refl
no_more number v before (b ∷ bs) e h =
    no_more_by number v before bs b (is_from_in v b) refl (left_none (doubled_at number before b) (doubled_after number (before ++ b ∷ []) bs) e) h
    (no_more number v (before ++ b ∷ []) bs (right_none (doubled_at number before b) (doubled_after number (before ++ b ∷ []) bs) e) (any_last (is_from_in v) before b h))

once_by : (number v : ℕ) (before bs : List BufferIn) (b : BufferIn) (u : Bool) → is_from_in v b ≡ u → doubled_after number (before ++ b ∷ []) bs ≡ [] → count_by (is_from_in v) bs ≤ 1 → count_by (is_from_in v) (b ∷ bs) ≤ 1
once_by number v before bs b true g rest most =
    let head : as_number (is_from_in v b) ≡ 1 = ap as_number g in
    let tail : count_by (is_from_in v) bs ≡ 0 = no_more number v (before ++ b ∷ []) bs rest (last_any (is_from_in v) before b g) in
    omega (arith, count_more v b bs, head, tail)
once_by number v before bs b false g rest most =
    let head : as_number (is_from_in v b) ≡ 0 = ap as_number g in
    omega (arith, count_more v b bs, head, most)

once : (number v : ℕ) (before bs : List BufferIn) → doubled_after number before bs ≡ [] → count_by (is_from_in v) bs ≤ 1
once number v before [] e = omega arith
once number v before (b ∷ bs) e =
    let rest : doubled_after number (before ++ b ∷ []) bs ≡ [] = right_none (doubled_at number before b) (doubled_after number (before ++ b ∷ []) bs) e in
    once_by number v before bs b (is_from_in v b) refl rest (once number v (before ++ b ∷ []) bs rest)

-- the buffers as symbols

from_alike : (trees : List Tree) (v : ℕ) (p : Place) (t : Option KnownType) → is_from v (buffer_place trees p t) ≡ is_from_place v p
from_alike trees v own t = refl
from_alike trees v (to_network n) t = refl
from_alike trees v (from_network n) t = refl

abbrev is_from_symbol : ℕ → BufferSymbol → Bool
is_from_symbol v b = is_from v b.place

one_alike : (trees : List Tree) (number v : ℕ) (pairs : Option Pairs) (b : Option BufferIn) → count_by (is_from_symbol v) (buffer_of_place trees number pairs b) ≡ count_by (is_from_in v) (listed b)
one_alike trees number v pairs None = refl
one_alike trees number v pairs (Some b) =
    ap (λ u. 0 + cond u 1 0) (from_alike trees v b.place (message_type trees number b))

all_alike : (trees : List Tree) (number v : ℕ) (m : Machine) (ds : List Declaration) → count_by (is_from_symbol v) (flat_map (buffer_symbol trees number m) ds) ≡ count_by (is_from_in v) (flat_map (λ (d : Declaration). listed (buffer_in trees m d)) ds)
all_alike trees number v m [] = refl
all_alike trees number v m (d ∷ ds) =
    let symbols : count_by (is_from_symbol v) (flat_map (buffer_symbol trees number m) (d ∷ ds)) ≡ count_by (is_from_symbol v) (buffer_symbol trees number m d) + count_by (is_from_symbol v) (flat_map (buffer_symbol trees number m) ds) = sum_by-append (λ b. cond (is_from_symbol v b) 1 0) (buffer_symbol trees number m d) (flat_map (buffer_symbol trees number m) ds) in
    let buffers : count_by (is_from_in v) (flat_map (λ (e : Declaration). listed (buffer_in trees m e)) (d ∷ ds)) ≡ count_by (is_from_in v) (listed (buffer_in trees m d)) + count_by (is_from_in v) (flat_map (λ (e : Declaration). listed (buffer_in trees m e)) ds) = sum_by-append (λ b. cond (is_from_in v b) 1 0) (listed (buffer_in trees m d)) (flat_map (λ (e : Declaration). listed (buffer_in trees m e)) ds) in
    omega (arith, symbols, buffers, one_alike trees number v (attributes_of d) (buffer_in trees m d), all_alike trees number v m ds)

-- what an accepted protocol keeps

none_doubled : (trees : List Tree) → IsAccepted trees → in_each (doubled_in trees) trees ≡ []
none_doubled trees h =
    right_none (differing_after [] (all_ports trees) ++ in_each (wrong_ports_in trees) trees) (in_each (doubled_in trees) trees) (machines_kept trees h.of_machines).networks

machine_receives : (trees : List Tree) (k : ℕ) (m : Machine) → IsAccepted trees → slice_get (machines_of trees) k ≡ Some m → ReceivesOnce (machine_symbols trees k m)
unfolding machine_symbols
machine_receives trees k m h at =
    let kept : doubled_in trees (0 + k) m ≡ [] = none_in_one (doubled_in trees) 0 (machines_of trees) k m (none_doubled trees h) at in
    record {
      each = λ v.
          let same : count_by (is_from_symbol v) (flat_map (buffer_symbol trees k m) (machine_declarations m)) ≡ count_by (is_from_in v) (buffers_of trees m) = all_alike trees k v m (machine_declarations m) in
          omega (arith, same, once (0 + k) v [] (buffers_of trees m) kept);
    }

pub networks_received_once : (trees : List Tree) → IsAccepted trees → All ReceivesOnce (symbols_of trees).machines
networks_received_once trees h = all_machines ReceivesOnce trees (λ k m at. machine_receives trees k m h at)
