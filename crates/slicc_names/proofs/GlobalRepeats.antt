-- Going through what is declared right in a protocol: what is told, and what is found afterwards.
use Rattle.std.proofs.Common.{◌≡◌, ◌<◌, ◌+◌, ℕ, List, [], ◌∷◌, ◌++◌, map, take, Option, None, Some, true, false, refl, sym, ap, subst, ◌∙◌, append-nil, append_assoc, add-one, slice_index_or, length}
use Rattle.std.proofs.Math.Seq.{take-suc}
use Rattle.std.proofs.lemmas.List.{map-append}
use Rattle.slicc_ast.specs.declared.tree.name.Name.{Name}
use Rattle.slicc_plan.proofs.Firsts.{first_after-append}
use Rattle.slicc_plan.specs.declared.broken.Broken.{Broken}
use Rattle.slicc_plan.specs.Prelude.{Declaration, name_of, first_after, declaration_told, first_with, globally_repeated_after, takes_built_in_name, told_globally}
use Rattle.slicc_plan.specs.TwiceDeclared.{listed, names_of, told_with}
use Rattle.slicc_names.proofs.Repeats.{found_behind, names_of-append}
use Rattle.slicc_names.specs.Prelude.{FindSame}

pub globally-append : (bs : List Name) (ds es : List Declaration) → globally_repeated_after bs (ds ++ es) ≡ globally_repeated_after bs ds ++ globally_repeated_after (bs ++ names_of ds) es
globally-append bs [] es = ap (λ cs. globally_repeated_after cs es) (sym (append-nil bs))
globally-append bs (d ∷ ds) es =
    ap (λ rs. declaration_told bs d (name_of d) ++ rs) (globally-append (bs ++ listed (name_of d)) ds es)
    ∙ sym (append_assoc (declaration_told bs d (name_of d)) (globally_repeated_after (bs ++ listed (name_of d)) ds) (globally_repeated_after ((bs ++ listed (name_of d)) ++ names_of ds) es))
    ∙ ap (λ cs. (declaration_told bs d (name_of d) ++ globally_repeated_after (bs ++ listed (name_of d)) ds) ++ globally_repeated_after cs es) (append_assoc bs (listed (name_of d)) (names_of ds))

-- what is told of a declaration depends only on what is found
told_same : (bs cs : List Name) (d : Declaration) (o : Option Name) → FindSame bs cs → declaration_told bs d o ≡ declaration_told cs d o
told_same bs cs d None same = refl
told_same bs cs d (Some n) same = by (takes_built_in_name d n)
  where
    by : (b : _) → told_globally bs n b ≡ told_globally cs n b
    by true = refl
    by false = ap (λ o. told_with n.span o) (same n.text)

-- what the loop has told and finds after these declarations
pub record AfterDeclarations (ds : List Declaration) (ns : List Name) (at_start first : Option Broken) : Type 0 where
  pub told : first ≡ first_after at_start (globally_repeated_after [] ds)
  pub names : FindSame ns (names_of ds)

one_more : (ds : List Declaration) (d : Declaration) (bs cs : List Name) (at_start first next : Option Broken) → AfterDeclarations ds bs at_start first
    → next ≡ first_after first (declaration_told bs d (name_of d)) → FindSame cs (bs ++ listed (name_of d)) → AfterDeclarations (ds ++ d ∷ []) cs at_start next
one_more ds d bs cs at_start first next so_far told found =
    record {
      told = told ∙ ap (first_after first) (told_same bs (names_of ds) d (name_of d) so_far.names) ∙ ap (λ o. first_after o (declaration_told (names_of ds) d (name_of d))) so_far.told
          ∙ sym (first_after-append at_start (globally_repeated_after [] ds) (declaration_told (names_of ds) d (name_of d)))
          ∙ ap (λ rs. first_after at_start (globally_repeated_after [] ds ++ rs)) (sym (append-nil (declaration_told (names_of ds) d (name_of d))))
          ∙ ap (first_after at_start) (sym (globally-append [] ds (d ∷ [])));
      names = λ text. found_behind [] bs cs (names_of ds) (listed (name_of d)) so_far.names found text
          ∙ ap (λ ns. first_with text (names_of ds ++ ns)) (sym (append-nil (listed (name_of d)))) ∙ ap (first_with text) (sym (names_of-append ds (d ∷ [])));
    }

pub next_declaration : {X : Type 0} (f : X → Declaration) (xs : List X) (i : ℕ) (x : X) (bs cs : List Name) (at_start first next : Option Broken) → i < length xs → x ≡ slice_index_or xs i x
    → AfterDeclarations (map f (take i xs)) bs at_start first → next ≡ first_after first (declaration_told bs (f x) (name_of (f x))) → FindSame cs (bs ++ listed (name_of (f x)))
    → AfterDeclarations (map f (take (i + 1) xs)) cs at_start next
next_declaration f xs i x bs cs at_start first next below is so_far told found =
    let taken : take (i + 1) xs ≡ take i xs ++ slice_index_or xs i x ∷ [] = rw (add-one, take-suc xs i x below) refl in
    let all : map f (take (i + 1) xs) ≡ map f (take i xs) ++ f x ∷ [] =
    ap (map f) taken ∙ map-append f (take i xs) (slice_index_or xs i x ∷ []) ∙ ap (λ y. map f (take i xs) ++ f y ∷ []) (sym is) in
    let P : List Declaration → Type 0 = λ ds. AfterDeclarations ds cs at_start next in
    subst P (sym all) (one_more (map f (take i xs)) (f x) bs cs at_start first next so_far told found)
