-- A name that is among names is found, and one that isn't is added.
use Rattle.std.proofs.Common.{◌≡◌, ◌+◌, ◌++◌, ◌||◌, ℕ, suc, Bool, true, false, not, cond, is_none, nat_lt, Option, Some, None, List, [], ◌∷◌, length, map, arith, refl, sym, ap, ◌∙◌}
use Rattle.std.specs.List.{fold, list_any, prefix_len}
use Rattle.std.specs.Str.{bytes_eq}
use Rattle.slicc_plan.specs.BodyParts.{Written}
use Rattle.slicc_plan.specs.Prelude.{names_of_written, number_in, with_written}

found_go : (a b : ℕ) (v : Bool) (r : Bool) → nat_lt a b ≡ r → nat_lt (cond (not v) (1 + a) 0) (suc b) ≡ (v || r)
found_go a b true r h = grind (arith)
found_go a b false r h = grind (arith)

found : (p : List ℕ → Bool) (xs : List (List ℕ)) → nat_lt (prefix_len (λ x. not (p x)) xs) (length xs) ≡ list_any p xs
found p [] = refl
found p (x ∷ xs) = found_go (prefix_len (λ y. not (p y)) xs) (length xs) (p x) (list_any p xs) (found p xs)

none_of : (b : Bool) (n : ℕ) → is_none (cond b (Some n) None) ≡ not b
none_of true n = refl
none_of false n = refl

any_named : (text : List ℕ) (ws : List Written) → list_any (λ name. bytes_eq name text) (names_of_written ws) ≡ list_any (λ (x : Written). bytes_eq x.name text) ws
any_named text [] = refl
any_named text (w ∷ ws) = ap (λ b. bytes_eq w.name text || b) (any_named text ws)

pub is_new : (ws : List Written) (text : List ℕ) → is_none (number_in (names_of_written ws) text) ≡ not (list_any (λ (x : Written). bytes_eq x.name text) ws)
is_new ws text =
    none_of (nat_lt (prefix_len (λ name. not (bytes_eq name text)) (names_of_written ws)) (length (names_of_written ws))) (prefix_len (λ name. not (bytes_eq name text)) (names_of_written ws))
    ∙ ap not (found (λ name. bytes_eq name text) (names_of_written ws) ∙ any_named text ws)

not_true : (b : Bool) → not b ≡ true → b ≡ false
not_true true h = cc
not_true false h = refl

not_false : (b : Bool) → not b ≡ false → b ≡ true
not_false true h = refl
not_false false h = cc

pub added_new : (ws : List Written) (w : Written) → is_none (number_in (names_of_written ws) w.name) ≡ true → with_written ws w ≡ ws ++ w ∷ []
added_new ws w h = ap (λ b. cond b ws (ws ++ w ∷ [])) (not_true (list_any (λ (x : Written). bytes_eq x.name w.name) ws) (sym (is_new ws w.name) ∙ h))

pub added_old : (ws : List Written) (w : Written) → is_none (number_in (names_of_written ws) w.name) ≡ false → with_written ws w ≡ ws
added_old ws w h = ap (λ b. cond b ws (ws ++ w ∷ [])) (not_false (list_any (λ (x : Written). bytes_eq x.name w.name) ws) (sym (is_new ws w.name) ∙ h))
