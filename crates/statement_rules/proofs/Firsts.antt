-- The first of what is broken, where only the first of a part is known.
use Rattle.std.proofs.Common.{◌≡◌, ◌∙◌, ◌++◌, Option, None, Some, List, [], ◌∷◌, refl, sym, ap}
use Rattle.slicc_plan.specs.declared.broken.Broken.{Broken}
use Rattle.slicc_plan.specs.Buffers.{listed}
use Rattle.slicc_plan.specs.Prelude.{earlier_of_both, first_after, first_of}
use Rattle.slicc_plan.proofs.Firsts.{both-assoc_all, both-none, first_after-first_of, first_of-append}

pub first_of_listed : (o : Option Broken) → first_of (listed o) ≡ o
first_of_listed None = refl
first_of_listed (Some b) = refl

pub first_of_listed_append : (o : Option Broken) (bs : List Broken) → first_of (listed o ++ bs) ≡ earlier_of_both o (first_of bs)
first_of_listed_append None bs = sym (both-none (first_of bs))
first_of_listed_append (Some b) bs = first_after-first_of (Some b) bs

pub first_of_append : (bs cs : List Broken) → first_of (bs ++ cs) ≡ earlier_of_both (first_of bs) (first_of cs)
first_of_append bs cs = first_of-append bs cs

pub first_of_front : (b : Broken) (bs : List Broken) → first_of (b ∷ bs) ≡ earlier_of_both (Some b) (first_of bs)
first_of_front b bs = first_after-first_of (Some b) bs

pub ruleset rules_of_first = (first_of_listed, first_of_listed_append, first_of_append, first_of_front)
