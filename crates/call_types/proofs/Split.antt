-- A text is two others one after the other where its parts are these.
use Rattle.std.proofs.Common.{◌≡◌, ◌∙◌, ◌++◌, ◌&&◌, ℕ, Bool, true, false, List, length, take, drop, refl, sym, ap, subst}
use Rattle.std.proofs.lemmas.List.{take-append-drop}
use Rattle.std.proofs.Math.Seq.{take-append_seam, drop-append_seam}
use Rattle.std.proofs.lemmas.Slice.Eq.{bytes_eq-Decides}
use Rattle.std.specs.Str.{bytes_eq}

same_tests : (p q : Bool) → (p ≡ true → q ≡ true) → (q ≡ true → p ≡ true) → p ≡ q
same_tests true q h k = sym (h refl)
same_tests false true h k = k refl
same_tests false false h k = refl

-- where the front is the first text, the whole is both where the rest is the second
pub front_matches : (a b t : List ℕ) → bytes_eq (take (length a) t) a ≡ true → bytes_eq b (drop (length a) t) ≡ bytes_eq (a ++ b) t
front_matches a b t front =
    let is_front : take (length a) t ≡ a = (bytes_eq-Decides (take (length a) t) a).0 front in
    let whole : a ++ drop (length a) t ≡ t = ap (λ xs. xs ++ drop (length a) t) (sym is_front) ∙ take-append-drop (length a) t in
    same_tests (bytes_eq b (drop (length a) t)) (bytes_eq (a ++ b) t)
    (λ h. (bytes_eq-Decides (a ++ b) t).1 (ap (λ xs. a ++ xs) ((bytes_eq-Decides b (drop (length a) t)).0 h) ∙ whole))
    (λ h. let both : a ++ b ≡ t = (bytes_eq-Decides (a ++ b) t).0 h in
    (bytes_eq-Decides b (drop (length a) t)).1 (sym (drop-append_seam a b) ∙ ap (λ xs. drop (length a) xs) both))

-- where it isn't, the whole isn't both
pub front_differs : (a b t : List ℕ) → bytes_eq (take (length a) t) a ≡ false → false ≡ bytes_eq (a ++ b) t
front_differs a b t front =
    same_tests false (bytes_eq (a ++ b) t) (λ h. absurd (cc h))
    (λ h. let both : a ++ b ≡ t = (bytes_eq-Decides (a ++ b) t).0 h in
    sym front ∙ (bytes_eq-Decides (take (length a) t) a).1 (ap (λ xs. take (length a) xs) (sym both) ∙ take-append_seam a b))
