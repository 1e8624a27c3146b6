-- A name that is put together from parts is told by the part that is left.
use Rattle.std.proofs.Common.{◌≡◌, ◌++◌, ◌-◌, ◌+◌, ℕ, Bool, true, false, Option, None, Some, List, [], ◌∷◌, MatchOption, map, refl, sym, ◌∙◌, ap, take, drop, length, arith, length-append, Bor}
use Rattle.std.proofs.Math.Seq.{take-append_seam, drop-append_seam}
use Rattle.std.proofs.lemmas.Bool.{false_from_ne_true}
use Rattle.std.proofs.lemmas.Bool.Decides.{same_from_decides, Decides-like}
use Rattle.std.proofs.lemmas.List.{append_cancel_left, append_cancel_right, take-append-drop}
use Rattle.std.proofs.lemmas.Slice.Eq.{bytes_eq-Decides}
use Rattle.std.specs.List.{list_any}
use Rattle.std.specs.Str.{bytes_eq}
use Rattle.slicc_plan.specs.Prelude.{is_among}

pub different : (xs ys : List ℕ) → bytes_eq xs ys ≡ false → xs ≡ ys → ⊥
different xs ys fails same = let holds = (bytes_eq-Decides xs ys).1 same in cc

pub stripped_prefix : (text prefix : List ℕ) (r : Option (Bor (List ℕ)))
    → MatchOption r (bytes_eq (take (length prefix) text) prefix ≡ false)
    (λ x. (bytes_eq (take (length prefix) text) prefix ≡ true) × (x.now ≡ drop (length prefix) text) × (length x.now + length prefix ≡ length text))
    → MatchOption r ((rest : List ℕ) → bytes_eq (prefix ++ rest) text ≡ false) (λ rest. text ≡ prefix ++ rest.now)
stripped_prefix text prefix None fails = λ rest.
    false_from_ne_true (bytes_eq (prefix ++ rest) text)
    (λ holds. let whole : prefix ++ rest ≡ text = (bytes_eq-Decides (prefix ++ rest) text).0 holds in
    different (take (length prefix) text) prefix fails (ap (take (length prefix)) (sym whole) ∙ take-append_seam prefix rest))
stripped_prefix text prefix (Some x) (holds, rest_is, lengths) =
    sym (take-append-drop (length prefix) text) ∙ ap (λ p. p ++ drop (length prefix) text) ((bytes_eq-Decides (take (length prefix) text) prefix).0 holds) ∙ ap (λ r. prefix ++ r) (sym rest_is)

pub stripped_suffix : (text suffix : List ℕ) (r : Option (Bor (List ℕ)))
    → MatchOption r (bytes_eq (drop (length text - length suffix) text) suffix ≡ false)
    (λ x. (bytes_eq (drop (length text - length suffix) text) suffix ≡ true) × (x.now ≡ take (length text - length suffix) text) × (length x.now + length suffix ≡ length text))
    → MatchOption r ((rest : List ℕ) → bytes_eq (rest ++ suffix) text ≡ false) (λ rest. text ≡ rest.now ++ suffix)
stripped_suffix text suffix None fails = λ rest.
    false_from_ne_true (bytes_eq (rest ++ suffix) text)
    (λ holds. let whole : rest ++ suffix ≡ text = (bytes_eq-Decides (rest ++ suffix) text).0 holds in
    let at : length text - length suffix ≡ length rest = omega (arith, length-append rest suffix, ap length whole) in
    different (drop (length text - length suffix) text) suffix fails (ap (λ n. drop n text) at ∙ ap (drop (length rest)) (sym whole) ∙ drop-append_seam rest suffix))
stripped_suffix text suffix (Some x) (holds, rest_is, lengths) =
    let n = length text - length suffix in
    sym (take-append-drop n text) ∙ ap (λ s. take n text ++ s) ((bytes_eq-Decides (drop n text) suffix).0 holds) ∙ ap (λ r. r ++ suffix) (sym rest_is)

pub same_suffix : (a b s : List ℕ) → bytes_eq (a ++ s) (b ++ s) ≡ bytes_eq a b
same_suffix a b s =
    same_from_decides (bytes_eq (a ++ s) (b ++ s)) (bytes_eq a b)
    (Decides-like (bytes_eq (a ++ s) (b ++ s)) (append_cancel_right a b s) (ap (λ x. x ++ s)) (bytes_eq-Decides (a ++ s) (b ++ s))) (bytes_eq-Decides a b)

pub same_prefix : (p a b : List ℕ) → bytes_eq (p ++ a) (p ++ b) ≡ bytes_eq a b
same_prefix p a b =
    same_from_decides (bytes_eq (p ++ a) (p ++ b)) (bytes_eq a b)
    (Decides-like (bytes_eq (p ++ a) (p ++ b)) (append_cancel_left p a b) (ap (λ x. p ++ x)) (bytes_eq-Decides (p ++ a) (p ++ b))) (bytes_eq-Decides a b)

pub list_any_same : {X : Type 0} (f g : X → Bool) (xs : List X) → ((x : X) → f x ≡ g x) → list_any f xs ≡ list_any g xs
list_any_same f g [] e = refl
list_any_same f g (x ∷ xs) e = let head = e x in let tail = list_any_same f g xs e in cc

pub list_any_none : {X : Type 0} (f : X → Bool) (xs : List X) → ((x : X) → f x ≡ false) → list_any f xs ≡ false
list_any_none f [] e = refl
list_any_none f (x ∷ xs) e = let head = e x in let tail = list_any_none f xs e in cc

pub list_any_map : {X Y : Type 0} (f : Y → Bool) (v : X → Y) (xs : List X) → list_any f (map v xs) ≡ list_any (λ x. f (v x)) xs
list_any_map f v [] = refl
list_any_map f v (x ∷ xs) = let tail = list_any_map f v xs in cc

-- among names that are put together with a last part
pub among_suffixed : (names : List (List ℕ)) (text rest s : List ℕ) → text ≡ rest ++ s → is_among names rest ≡ list_any (λ name. bytes_eq (name ++ s) text) names
among_suffixed names text rest s e =
    list_any_same (λ name. bytes_eq name rest) (λ name. bytes_eq (name ++ s) text) names (λ name. sym (same_suffix name rest s) ∙ ap (bytes_eq (name ++ s)) (sym e))

pub among_prefixed : (names : List (List ℕ)) (text rest p : List ℕ) → text ≡ p ++ rest → is_among names rest ≡ list_any (λ name. bytes_eq (p ++ name) text) names
among_prefixed names text rest p e =
    list_any_same (λ name. bytes_eq name rest) (λ name. bytes_eq (p ++ name) text) names (λ name. sym (same_prefix p name rest) ∙ ap (bytes_eq (p ++ name)) (sym e))
