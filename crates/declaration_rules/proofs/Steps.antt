-- One more step through a list of which each element may break rules.
use Rattle.std.proofs.Common.{◌≡◌, ◌<◌, ◌++◌, ◌+◌, ℕ, Option, None, Some, Bool, true, false, not, is_some, is_none, List, [], ◌∷◌, flat_map, map, refl, sym, ◌∙◌, ap, take, length, get_or, add-one, append-nil}
use Rattle.std.proofs.Math.Seq.{take-suc}
use Rattle.std.proofs.lemmas.Grind.{flat_map-append}
use Rattle.std.proofs.lemmas.List.{map-append}
use Rattle.slicc_plan.specs.declared.broken.Broken.{Broken}
use Rattle.slicc_plan.specs.Prelude.{first_after}
use Rattle.slicc_plan.proofs.Firsts.{first_after-append}

-- the elements are seen by v, and r is the first after p and what is broken in x
pub one_more : {X Y : Type 0} (f : Y → List Broken) (v : X → Y) (xs : List X) (i : ℕ) (x : X) (o p r : Option Broken) → i < length xs → x ≡ get_or xs i x → r ≡ first_after p (f (v x)) → p ≡ first_after o (flat_map f (map v (take i xs)))
    → r ≡ first_after o (flat_map f (map v (take (i + 1) xs)))
one_more f v xs i x o p r below at e before =
    let taken : map v (take (i + 1) xs) ≡ map v (take i xs) ++ v x ∷ [] =
    rw (add-one, take-suc xs i x below) (map-append v (take i xs) (get_or xs i x ∷ []) ∙ ap (λ y. map v (take i xs) ++ v y ∷ []) (sym at)) in
    let flat : flat_map f (map v (take (i + 1) xs)) ≡ flat_map f (map v (take i xs)) ++ f (v x) =
    rw (taken, flat_map-append f (map v (take i xs)) (v x ∷ []), append-nil (f (v x))) refl in
    e ∙ ap (λ q. first_after q (f (v x))) before ∙ sym (first_after-append o (flat_map f (map v (take i xs))) (f (v x))) ∙ ap (first_after o) (sym flat)

pub map_same : {X : Type 0} (xs : List X) → map (λ (x : X). x) xs ≡ xs
map_same [] = refl
map_same (x ∷ xs) = ap (λ ys. x ∷ ys) (map_same xs)

pub flat_map_same : {X : Type 0} (f g : X → List Broken) (xs : List X) → ((x : X) → f x ≡ g x) → flat_map f xs ≡ flat_map g xs
flat_map_same f g [] e = refl
flat_map_same f g (x ∷ xs) e = ap (λ bs. bs ++ flat_map f xs) (e x) ∙ ap (λ bs. g x ++ bs) (flat_map_same f g xs e)

pub flat_map-flat_map : {X Y : Type 0} (f : Y → List Broken) (g : X → List Y) (xs : List X) → flat_map f (flat_map g xs) ≡ flat_map (λ x. flat_map f (g x)) xs
flat_map-flat_map f g [] = refl
flat_map-flat_map f g (x ∷ xs) = flat_map-append f (g x) (flat_map g xs) ∙ ap (λ bs. flat_map f (g x) ++ bs) (flat_map-flat_map f g xs)

-- the same where the elements are seen as they are
pub one_step : {X : Type 0} (f : X → List Broken) (xs : List X) (i : ℕ) (x : X) (o p r : Option Broken) → i < length xs → x ≡ get_or xs i x → r ≡ first_after p (f x) → p ≡ first_after o (flat_map f (take i xs)) → r ≡ first_after o (flat_map f (take (i + 1) xs))
one_step {X} f xs i x o p r below at e before =
    one_more f (λ (y : X). y) xs i x o p r below at e (before ∙ ap (λ ys. first_after o (flat_map f ys)) (sym (map_same (take i xs)))) ∙ ap (λ ys. first_after o (flat_map f ys)) (map_same (take (i + 1) xs))

-- the same where each element has a list of its own
pub one_more_nested : {X Y : Type 0} (f : Y → List Broken) (g : X → List Y) (xs : List X) (i : ℕ) (x : X) (o p r : Option Broken) → i < length xs → x ≡ get_or xs i x → r ≡ first_after p (flat_map f (g x)) → p ≡ first_after o (flat_map f (flat_map g (take i xs)))
    → r ≡ first_after o (flat_map f (flat_map g (take (i + 1) xs)))
one_more_nested {X} f g xs i x o p r below at e before =
    let nested = λ (y : X). flat_map f (g y) in
    let step = one_step nested xs i x o p r below at e (before ∙ ap (first_after o) (flat_map-flat_map f g (take i xs))) in
    step ∙ ap (first_after o) (sym (flat_map-flat_map f g (take (i + 1) xs)))

-- one element before others
pub one_before : {Y : Type 0} (f : Y → List Broken) (y : Y) (ys : List Y) (o p r : Option Broken) → p ≡ first_after o (flat_map f (y ∷ [])) → r ≡ first_after p (flat_map f ys) → r ≡ first_after o (flat_map f (y ∷ ys))
one_before f y ys o p r first others =
    others ∙ ap (λ q. first_after q (flat_map f ys)) (first ∙ ap (first_after o) (append-nil (f y))) ∙ sym (first_after-append o (f y) (flat_map f ys))

-- one list before another
pub one_list_before : (o p r : Option Broken) (bs cs : List Broken) → p ≡ first_after o bs → r ≡ first_after p cs → r ≡ first_after o (bs ++ cs)
one_list_before o p r bs cs first others = others ∙ ap (λ q. first_after q cs) first ∙ sym (first_after-append o bs cs)

pub none_told : {X : Type 0} (o : Option X) (r : Bool) → is_some o ≡ not r → r ≡ is_none o
none_told None true e = refl
none_told None false e = cc
none_told (Some x) true e = cc
none_told (Some x) false e = refl
