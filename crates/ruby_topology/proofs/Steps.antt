-- One more item of a list that a loop makes.
use Rattle.std.proofs.Common.{◌≡◌, ◌<◌, ◌+◌, ◌++◌, ◌∙◌, ℕ, Option, None, Some, List, [], ◌∷◌, ap, refl, sym, arith, length, get_or, map, take, drop}
use Rattle.std.specs.List.{cons_option, filter_map, range_with_len}
use Rattle.std.specs.Option.{option_to_list}
use Rattle.std.proofs.lemmas.List.{append_assoc, drop_more, take_more}
use Rattle.std.proofs.lemmas.List.Elements.{filter_map-append}
use Rattle.std.proofs.lemmas.List.FromFn.{map-range_with_len_more}
use Rattle.ruby_topology.specs.declared.forms.Member.{Member}
use Rattle.ruby_topology.specs.declared.forms.Statement.{Statement}
use Rattle.ruby_topology.specs.Prelude.{members_of, slot_in, slots_from}

pub step_map : {X : Type 0} (f : ℕ → X) (n : ℕ) (old new : List X) (x : X) → old ≡ map f (range_with_len 0 n) → new ≡ old ++ x ∷ [] → x ≡ f n → new ≡ map f (range_with_len 0 (n + 1))
step_map f n old new x was pushed is =
    pushed ∙ ap (λ xs. xs ++ x ∷ []) was ∙ ap (λ y. map f (range_with_len 0 n) ++ y ∷ []) is
    ∙ sym (map-range_with_len_more f 0 n n (omega arith))

only : {Y : Type 0} (o : Option Y) → cons_option o [] ≡ option_to_list o
only None = refl
only (Some y) = refl

pub filter_map_more : {X Y : Type 0} (f : X → Option Y) (xs : List X) (i : ℕ) (d : X) → i < length xs → filter_map f (take (i + 1) xs) ≡ filter_map f (take i xs) ++ option_to_list (f (get_or xs i d))
filter_map_more f xs i d inside =
    ap (filter_map f) (take_more xs i d inside) ∙ filter_map-append f (take i xs) (get_or xs i d ∷ [])
    ∙ ap (λ ys. filter_map f (take i xs) ++ ys) (only (f (get_or xs i d)))

pub step_members : (machine index : ℕ) (initial old new : List Member) → old ≡ initial ++ members_of machine index → new ≡ old ++ (record { machine = machine; index = index }) ∷ [] → new ≡ initial ++ members_of machine (index + 1)
step_members machine index initial old new was pushed =
    let of : ℕ → Member = λ i. record { machine = machine; index = i } in
    let last : List Member = of index ∷ [] in
    pushed ∙ ap (λ ms. ms ++ last) was ∙ append_assoc initial (members_of machine index) last
    ∙ ap (λ ms. initial ++ ms) (sym (map-range_with_len_more of 0 index index (omega arith)))

pub step_filter_map : {X Y : Type 0} (f : X → Option Y) (xs : List X) (i : ℕ) (d : X) (old new : List Y) (o : Option Y) → i < length xs → old ≡ filter_map f (take i xs) → new ≡ old ++ option_to_list o → o ≡ f (get_or xs i d) → new ≡ filter_map f (take (i + 1) xs)
step_filter_map f xs i d old new o inside was pushed is =
    pushed ∙ ap (λ ys. ys ++ option_to_list o) was ∙ ap (λ p. filter_map f (take i xs) ++ option_to_list p) is
    ∙ sym (filter_map_more f xs i d inside)

pub step_filter_map_onto : {X Y : Type 0} (f : X → Option Y) (xs : List X) (i : ℕ) (d : X) (initial old new : List Y) (o : Option Y) → i < length xs → old ≡ initial ++ filter_map f (take i xs) → new ≡ old ++ option_to_list o → o ≡ f (get_or xs i d) → new ≡ initial ++ filter_map f (take (i + 1) xs)
step_filter_map_onto f xs i d initial old new o inside was pushed is =
    pushed ∙ ap (λ ys. ys ++ option_to_list o) was ∙ append_assoc initial (filter_map f (take i xs)) (option_to_list o)
    ∙ ap (λ p. initial ++ (filter_map f (take i xs) ++ option_to_list p)) is ∙ ap (λ ys. initial ++ ys) (sym (filter_map_more f xs i d inside))

pub step_slots : (said : List Statement) (members : List Member) (n : ℕ) (d : Member) (old new all : List (ℕ × ℕ × ℕ)) → n < length members → old ++ slots_from said n (drop n members) ≡ all → new ≡ old ++ filter_map (slot_in n (get_or members n d).machine) said → new ++ slots_from said (n + 1) (drop (n + 1) members) ≡ all
step_slots said members n d old new all inside was pushed =
    let here = filter_map (slot_in n (get_or members n d).machine) said in
    let rest = slots_from said (n + 1) (drop (n + 1) members) in
    ap (λ xs. xs ++ rest) pushed ∙ append_assoc old here rest
    ∙ ap (λ xs. old ++ xs) (sym (ap (slots_from said n) (drop_more members n d inside))) ∙ was
