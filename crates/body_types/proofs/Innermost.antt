-- The innermost of names, where the outermost is the first.
use Rattle.std.proofs.Common.{◌≡◌, ◌<◌, ◌+◌, ◌++◌, ℕ, Bool, true, false, cond, Option, None, Some, List, [], ◌∷◌, map, reverse, take, length, refl, add-one, get_or}
use Rattle.std.proofs.Math.Seq.{take-suc}
use Rattle.std.proofs.lemmas.List.{map-append, reverse-append}
use Rattle.std.specs.Str.{bytes_eq}
use Rattle.slicc_plan.specs.Environment as plan
use Rattle.body_types.specs.declared.environment.Bound.{Bound}
use Rattle.body_types.specs.Prelude.{bound_of}

pub innermost : (name : List ℕ) (bs : List Bound) (n : ℕ) (d : Bound) → n < length bs → plan.bound_as name (reverse (map bound_of (take (n + 1) bs))) ≡ cond (bytes_eq (get_or bs n d).name.now name) (Some (bound_of (get_or bs n d))) (plan.bound_as name (reverse (map bound_of (take n bs))))
innermost name bs n d below =
    let taken : take (n + 1) bs ≡ take n bs ++ get_or bs n d ∷ [] = rw (add-one, take-suc bs n d below) refl in
    rw (taken, map-append bound_of (take n bs) (get_or bs n d ∷ []), reverse-append (map bound_of (take n bs)) (bound_of (get_or bs n d) ∷ [])) refl
