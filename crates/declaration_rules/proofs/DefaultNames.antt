-- A default is told by the member that it names.
use Rattle.std.proofs.Common.{◌≡◌, ◌++◌, ◌||◌, ℕ, Bool, true, false, Option, None, Some, List, [], ◌∷◌, MatchOption, map, refl, sym, ◌∙◌, ap, append_assoc, codes, Bor}
use Rattle.std.specs.List.{list_any}
use Rattle.std.specs.Str.{bytes_eq}
use Rattle.std.proofs.lemmas.Bool.Decides.{same_from_decides, Decides-like}
use Rattle.std.proofs.lemmas.Slice.Eq.{bytes_eq-Decides}
use Rattle.slicc_plan.specs.Prelude.{is_among, default_name}
use Rattle.declared_types.proofs.NameParts.{list_any_map, list_any_none, list_any_same, same_prefix}

pub bytes_eq-swapped : (xs ys : List ℕ) → bytes_eq xs ys ≡ bytes_eq ys xs
bytes_eq-swapped xs ys =
    same_from_decides (bytes_eq xs ys) (bytes_eq ys xs) (Decides-like (bytes_eq xs ys) (λ e. sym e) (λ e. sym e) (bytes_eq-Decides xs ys)) (bytes_eq-Decides ys xs)

-- there is no such name before a text
pub no_name : (text own : List ℕ) → ((rest : List ℕ) → bytes_eq (own ++ rest) text ≡ false) → (rest : List ℕ) → bytes_eq (default_name own rest) text ≡ false
no_name text own differs = λ rest. ap (λ x. bytes_eq x text) (append_assoc own (codes "_") rest) ∙ differs (codes "_" ++ rest)

pub no_sign : (text own after : List ℕ) → text ≡ own ++ after → ((rest : List ℕ) → bytes_eq (codes "_" ++ rest) after ≡ false) → (rest : List ℕ) → bytes_eq (default_name own rest) text ≡ false
no_sign text own after e differs = λ rest.
    ap (λ x. bytes_eq x text) (append_assoc own (codes "_") rest) ∙ ap (bytes_eq (own ++ (codes "_" ++ rest))) e ∙ same_prefix own (codes "_" ++ rest) after ∙ differs rest

pub second_part : (text own after : List ℕ) (r : Option (Bor (List ℕ))) → text ≡ own ++ after
    → MatchOption r ((rest : List ℕ) → bytes_eq (codes "_" ++ rest) after ≡ false) (λ rest. after ≡ codes "_" ++ rest.now)
    → MatchOption r ((rest : List ℕ) → bytes_eq (default_name own rest) text ≡ false) (λ rest. text ≡ default_name own rest.now)
second_part text own after None e differs = no_sign text own after e differs
second_part text own after (Some rest) e found = e ∙ ap (λ x. own ++ x) found ∙ sym (append_assoc own (codes "_") rest.now)

pub named_so : (members : List (List ℕ)) (text own member : List ℕ) → text ≡ default_name own member → is_among members member ≡ list_any (λ word. bytes_eq text word) (map (default_name own) members)
named_so members text own member e =
    list_any_same (λ name. bytes_eq name member) (λ name. bytes_eq text (default_name own name)) members
    (λ name. bytes_eq-swapped name member ∙ sym (same_prefix (own ++ codes "_") member name) ∙ ap (λ x. bytes_eq x (default_name own name)) (sym e))
    ∙ sym (list_any_map (λ word. bytes_eq text word) (default_name own) members)

pub not_named : (members : List (List ℕ)) (text own : List ℕ) → ((rest : List ℕ) → bytes_eq (default_name own rest) text ≡ false) → false ≡ list_any (λ word. bytes_eq text word) (map (default_name own) members)
not_named members text own differs =
    sym (list_any_map (λ word. bytes_eq text word) (default_name own) members
    ∙ list_any_none (λ name. bytes_eq text (default_name own name)) members (λ name. bytes_eq-swapped text (default_name own name) ∙ differs name))

pub or_head : (u v y w : Bool) → w ≡ (v || y) → (u || w) ≡ ((u || v) || y)
or_head true v y w e = refl
or_head false v y w e = e

pub list_any-append : {X : Type 0} (f : X → Bool) (xs ys : List X) → list_any f (xs ++ ys) ≡ (list_any f xs || list_any f ys)
list_any-append f [] ys = refl
list_any-append f (x ∷ xs) ys = or_head (f x) (list_any f xs) (list_any f ys) (list_any f (xs ++ ys)) (list_any-append f xs ys)

-- with a machine's name before both
pub parts_joined : (machine own member : List ℕ) → default_name (default_name machine own) member ≡ default_name machine (default_name own member)
parts_joined machine own member = simp append_assoc

pub machine_so : (members : List (List ℕ)) (text machine own rest : List ℕ) → text ≡ default_name machine rest
    → list_any (λ word. bytes_eq rest word) (map (default_name own) members) ≡ list_any (λ word. bytes_eq text word) (map (default_name (default_name machine own)) members)
machine_so members text machine own rest e =
    list_any_map (λ word. bytes_eq rest word) (default_name own) members
    ∙ list_any_same (λ name. bytes_eq rest (default_name own name)) (λ name. bytes_eq text (default_name (default_name machine own) name)) members
    (λ name. sym (same_prefix (machine ++ codes "_") rest (default_name own name)) ∙ ap (λ x. bytes_eq x (default_name machine (default_name own name))) (sym e)
    ∙ ap (bytes_eq text) (sym (parts_joined machine own name)))
    ∙ sym (list_any_map (λ word. bytes_eq text word) (default_name (default_name machine own)) members)

pub not_machine : (members : List (List ℕ)) (text machine own : List ℕ) → ((rest : List ℕ) → bytes_eq (default_name machine rest) text ≡ false) → false ≡ list_any (λ word. bytes_eq text word) (map (default_name (default_name machine own)) members)
not_machine members text machine own differs =
    sym (list_any_map (λ word. bytes_eq text word) (default_name (default_name machine own)) members
    ∙ list_any_none (λ name. bytes_eq text (default_name (default_name machine own) name)) members
    (λ name. ap (bytes_eq text) (parts_joined machine own name) ∙ bytes_eq-swapped text (default_name machine (default_name own name)) ∙ differs (default_name own name)))
