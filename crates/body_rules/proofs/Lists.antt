-- The first of what is broken in several lists, one behind the other.
use Rattle.std.proofs.Common.{◌≡◌, ◌<◌, ◌+◌, ◌++◌, ◌∙◌, ℕ, Option, List, ap, flat_map, get_or, length, map, sym, take}
use Rattle.std.proofs.lemmas.List.Folds.{flat_map-map}
use Rattle.slicc_plan.specs.declared.broken.Broken.{Broken}
use Rattle.slicc_plan.specs.Prelude.{earlier_of_both, first_after, first_of}
use Rattle.slicc_plan.proofs.Firsts.{first_after-append, first_after-first_of, first_after-flat_map}

pub lists_in_a_row : (first : Option Broken) (bs cs : List Broken) → first_after first (bs ++ cs) ≡ first_after (first_after first bs) cs
lists_in_a_row first bs cs = first_after-append first bs cs

-- one more step through a list, where the first that is broken in an element is known
pub one_step : {X : Type 0} (f : X → List Broken) (xs : List X) (i : ℕ) (x : X) (o p q r : Option Broken) → i < length xs → x ≡ get_or xs i x → q ≡ first_of (f x) → r ≡ earlier_of_both p q → p ≡ first_after o (flat_map f (take i xs)) → r ≡ first_after o (flat_map f (take (i + 1) xs))
one_step f xs i x o p q r below at found is before =
    is ∙ ap (earlier_of_both p) (found ∙ ap (λ y. first_of (f y)) at) ∙ sym (first_after-first_of p (f (get_or xs i x)))
    ∙ ap (λ y. first_after y (f (get_or xs i x))) before ∙ sym (first_after-flat_map f xs i x o below)

-- the same where the elements are seen by v
pub one_step_seen : {X Y : Type 0} (f : Y → List Broken) (v : X → Y) (xs : List X) (i : ℕ) (x : X) (o p q r : Option Broken) → i < length xs → x ≡ get_or xs i x → q ≡ first_of (f (v x)) → r ≡ earlier_of_both p q → p ≡ first_after o (flat_map f (map v (take i xs))) → r ≡ first_after o (flat_map f (map v (take (i + 1) xs)))
one_step_seen f v xs i x o p q r below at found is before =
    one_step (λ y. f (v y)) xs i x o p q r below at found is (before ∙ ap (first_after o) (flat_map-map f v (take i xs)))
    ∙ ap (first_after o) (sym (flat_map-map f v (take (i + 1) xs)))
