-- Which rules the lists of broken rules are about, and that what is told phase by phase is the first of them all.
use Rattle.std.proofs.Common.{◌≡◌, ◌++◌, false, List, [], ◌∷◌, refl, sym, subst, All, Contains, slice_index_or}
use Rattle.std.proofs.lemmas.List.Elements.{All-append, Contains-append_left}
use Rattle.slicc_ast.specs.declared.tree.item.Tree.{Tree}
use Rattle.slicc_plan.specs.declared.broken.Broken.{Broken}
use Rattle.slicc_plan.specs.declared.broken.Subject.{Subject}
use Rattle.slicc_plan.specs.declared.broken.Subject.TheVariants.{Declarations, Bodies, Machines}
use Rattle.slicc_plan.specs.Prelude.{AreAbout, IsToldOf, of_declarations, of_bodies, of_machines, broken_rules, broken_bodies, broken_declarations, broken_machines, IsFirstBroken, comes_before, is_less, rank_in, rank_of, subject_of}

-- what is told first of lists that are put together

pub first_with_more : (xs ys : List Broken) (b : Broken) → IsFirstBroken xs b → All (λ (c : Broken). comes_before c b ≡ false) ys → IsFirstBroken (xs ++ ys) b
first_with_more xs ys b first later =
    record {
      is_among = Contains-append_left xs ys b first.is_among;
      is_first = All-append (λ (c : Broken). comes_before c b ≡ false) xs ys first.is_first later;
    }

pub first_after_none : (xs ys : List Broken) (b : Broken) → xs ≡ [] → IsFirstBroken ys b → IsFirstBroken (xs ++ ys) b
first_after_none xs ys b none first = subst (λ zs. IsFirstBroken (zs ++ ys) b) (sym none) first

-- a rule of an earlier subject comes before one of a later one

bodies_later : (b c : Broken) → is_less (rank_in Bodies c) (rank_in Declarations b) ≡ false
bodies_later b c = refl

machines_later : (b c : Broken) → is_less (rank_in Machines c) (rank_in Declarations b) ≡ false
machines_later b c = refl

machines_last : (b c : Broken) → is_less (rank_in Machines c) (rank_in Bodies b) ≡ false
machines_last b c = refl

not_before : (s t : Subject) (b c : Broken) → is_less (rank_in t c) (rank_in s b) ≡ false → subject_of b.rule ≡ s → subject_of c.rule ≡ t → comes_before c b ≡ false
not_before s t b c h e f =
    subst (λ u. is_less (rank_in u c) (rank_of b) ≡ false) (sym f) (subst (λ u. is_less (rank_in t c) (rank_in u b) ≡ false) (sym e) h)

all_later : (s t : Subject) (b : Broken) (ys : List Broken) → ((c : Broken) → is_less (rank_in t c) (rank_in s b) ≡ false) → subject_of b.rule ≡ s → AreAbout t ys → All (λ (c : Broken). comes_before c b ≡ false) ys
all_later s t b ys h e about k d below = not_before s t b (slice_index_or ys k d) (h (slice_index_or ys k d)) e (about k d below)

-- a rule among those that are about a subject is about it
pub subject_among : (s : Subject) (xs : List Broken) (b : Broken) → AreAbout s xs → Contains xs b → subject_of b.rule ≡ s
subject_among s xs b about (k, below, e) =
    let P : Broken → Type 0 = λ a. subject_of a.rule ≡ s in subst P e (about k b below)

pub told_first : (ds bs ms : List Broken) (b : Broken) → AreAbout Declarations ds → AreAbout Bodies bs → AreAbout Machines ms → IsFirstBroken ds b → IsFirstBroken (ds ++ bs ++ ms) b
told_first ds bs ms b in_ds in_bs in_ms first =
    let e : subject_of b.rule ≡ Declarations = subject_among Declarations ds b in_ds first.is_among in
    first_with_more (ds ++ bs) ms b (first_with_more ds bs b first (all_later Declarations Bodies b bs (bodies_later b) e in_bs)) (all_later Declarations Machines b ms (machines_later b) e in_ms)

pub told_second : (ds bs ms : List Broken) (b : Broken) → ds ≡ [] → AreAbout Bodies bs → AreAbout Machines ms → IsFirstBroken bs b → IsFirstBroken (ds ++ bs ++ ms) b
told_second ds bs ms b none in_bs in_ms first =
    let e : subject_of b.rule ≡ Bodies = subject_among Bodies bs b in_bs first.is_among in
    first_with_more (ds ++ bs) ms b (first_after_none ds bs b none first) (all_later Bodies Machines b ms (machines_last b) e in_ms)

pub told_third : (ds bs ms : List Broken) (b : Broken) → ds ≡ [] → bs ≡ [] → IsFirstBroken ms b → IsFirstBroken (ds ++ bs ++ ms) b
told_third [] [] ms b none none_too first = first
told_third [] (c ∷ bs) ms b none none_too first = cc
told_third (d ∷ ds) bs ms b none none_too first = cc

pub told_of_all : (trees : List Tree) (b : Broken) → AreAbout Declarations (broken_declarations trees) → AreAbout Bodies (broken_bodies trees) → AreAbout Machines (broken_machines trees) → IsToldOf trees b → IsFirstBroken (broken_rules trees) b
told_of_all trees b in_declarations in_bodies in_machines (of_declarations first) =
    told_first (broken_declarations trees) (broken_bodies trees) (broken_machines trees) b in_declarations in_bodies in_machines first
told_of_all trees b in_declarations in_bodies in_machines (of_bodies none first) =
    told_second (broken_declarations trees) (broken_bodies trees) (broken_machines trees) b none in_bodies in_machines first
told_of_all trees b in_declarations in_bodies in_machines (of_machines none none_too first) =
    told_third (broken_declarations trees) (broken_bodies trees) (broken_machines trees) b none none_too first
