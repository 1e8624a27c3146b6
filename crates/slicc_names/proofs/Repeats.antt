-- Going through the names of a scope: what is told, and what is found afterwards.
use Rattle.std.proofs.Common.{◌≡◌, ◌<◌, ◌+◌, ℕ, List, [], ◌∷◌, ◌++◌, flat_map, take, Option, refl, sym, ap, ◌∙◌, append-nil, append_assoc, add-one, slice_index_or, length}
use Rattle.std.proofs.Math.Seq.{take-suc}
use Rattle.std.proofs.lemmas.Grind.{flat_map-append}
use Rattle.std.proofs.lemmas.List.Folds.{find-append}
use Rattle.std.specs.Option.{option_or}
use Rattle.std.specs.Str.{bytes_eq}
use Rattle.slicc_ast.specs.declared.tree.name.Name.{Name}
use Rattle.slicc_plan.proofs.Firsts.{first_after-append}
use Rattle.slicc_plan.specs.declared.broken.Broken.{Broken}
use Rattle.slicc_plan.specs.Prelude.{Declaration, name_of, first_after, first_with, repeated, repeated_after, told_after}
use Rattle.slicc_plan.specs.TwiceDeclared.{listed, names_of, told_with}
use Rattle.slicc_names.specs.Prelude.{FindSame}

pub same_behind : (bs cs xs : List Name) → FindSame bs cs → FindSame (bs ++ xs) (cs ++ xs)
same_behind bs cs xs h text =
    find-append (λ (n : Name). bytes_eq n.text text) bs xs
    ∙ ap (λ o. option_or o (first_with text xs)) (h text) ∙ sym (find-append (λ (n : Name). bytes_eq n.text text) cs xs)

pub repeated_after-append : (bs xs ys : List Name) → repeated_after bs (xs ++ ys) ≡ repeated_after bs xs ++ repeated_after (bs ++ xs) ys
repeated_after-append bs [] ys = ap (λ cs. repeated_after cs ys) (sym (append-nil bs))
repeated_after-append bs (x ∷ xs) ys =
    ap (λ rs. told_after bs x ++ rs) (repeated_after-append (bs ++ x ∷ []) xs ys)
    ∙ sym (append_assoc (told_after bs x) (repeated_after (bs ++ x ∷ []) xs) (repeated_after ((bs ++ x ∷ []) ++ xs) ys))
    ∙ ap (λ cs. (told_after bs x ++ repeated_after (bs ++ x ∷ []) xs) ++ repeated_after cs ys) (append_assoc bs (x ∷ []) xs)

pub repeated_after-same : (bs cs xs : List Name) → FindSame bs cs → repeated_after bs xs ≡ repeated_after cs xs
repeated_after-same bs cs [] h = refl
repeated_after-same bs cs (x ∷ xs) h =
    ap (λ o. told_with x.span o ++ repeated_after (bs ++ x ∷ []) xs) (h x.text)
    ∙ ap (λ rs. told_after cs x ++ rs) (repeated_after-same (bs ++ x ∷ []) (cs ++ x ∷ []) xs (same_behind bs cs (x ∷ []) h))

-- two lists of names one behind the other
pub told_behind : (bs cs xs ys : List Name) (f g h : Option Broken) → g ≡ first_after f (repeated_after bs xs) → FindSame cs (bs ++ xs) → h ≡ first_after g (repeated_after cs ys) → h ≡ first_after f (repeated_after bs (xs ++ ys))
told_behind bs cs xs ys f g h p same q =
    q ∙ ap (λ o. first_after o (repeated_after cs ys)) p ∙ ap (first_after (first_after f (repeated_after bs xs))) (repeated_after-same cs (bs ++ xs) ys same)
    ∙ sym (first_after-append f (repeated_after bs xs) (repeated_after (bs ++ xs) ys)) ∙ ap (first_after f) (sym (repeated_after-append bs xs ys))

pub found_behind : (bs cs ds xs ys : List Name) → FindSame cs (bs ++ xs) → FindSame ds (cs ++ ys) → FindSame ds (bs ++ (xs ++ ys))
found_behind bs cs ds xs ys p q text =
    q text ∙ same_behind cs (bs ++ xs) ys p text ∙ ap (first_with text) (append_assoc bs xs ys)

pub names_of-append : (ds es : List Declaration) → names_of (ds ++ es) ≡ names_of ds ++ names_of es
names_of-append ds es = flat_map-append (λ (d : Declaration). listed (name_of d)) ds es

-- after one more step of a loop
pub names_taken : {X : Type 0} (f : X → List Declaration) (xs : List X) (i : ℕ) (d : X) → i < length xs → names_of (flat_map f (take (i + 1) xs)) ≡ names_of (flat_map f (take i xs)) ++ names_of (f (slice_index_or xs i d))
names_taken f xs i d below =
    let taken : take (i + 1) xs ≡ take i xs ++ slice_index_or xs i d ∷ [] = rw (add-one, take-suc xs i d below) refl in
    ap (λ ys. names_of (flat_map f ys)) taken ∙ ap names_of (flat_map-append f (take i xs) (slice_index_or xs i d ∷ []))
    ∙ ap (λ ds. names_of (flat_map f (take i xs) ++ ds)) (append-nil (f (slice_index_or xs i d))) ∙ names_of-append (flat_map f (take i xs)) (f (slice_index_or xs i d))

-- what a loop over parts that declare names has told and finds after so many of them
pub record AfterParts {X : Type 0} (f : X → List Declaration) (xs : List X) (i : ℕ) (before after : List Name) (at_start first : Option Broken) : Type 0 where
  pub told : first ≡ first_after at_start (repeated_after before (names_of (flat_map f (take i xs))))
  pub names : FindSame after (before ++ names_of (flat_map f (take i xs)))

pub one_step : {X : Type 0} (f : X → List Declaration) (xs : List X) (i : ℕ) (d : X) (bs cs ds : List Name) (at_start first next : Option Broken) → i < length xs → d ≡ slice_index_or xs i d
    → first ≡ first_after at_start (repeated_after bs (names_of (flat_map f (take i xs)))) → FindSame cs (bs ++ names_of (flat_map f (take i xs)))
    → next ≡ first_after first (repeated_after cs (names_of (f d))) → FindSame ds (cs ++ names_of (f d))
    → AfterParts f xs (i + 1) bs ds at_start next
one_step f xs i d bs cs ds at_start first next below is told found more later =
    let taken = names_taken f xs i d below in
    let here : names_of (f (slice_index_or xs i d)) ≡ names_of (f d) = ap (λ x. names_of (f x)) (sym is) in
    let all = taken ∙ ap (λ ns. names_of (flat_map f (take i xs)) ++ ns) here in
    record {
      told = told_behind bs cs (names_of (flat_map f (take i xs))) (names_of (f d)) at_start first next told found more ∙ ap (λ ns. first_after at_start (repeated_after bs ns)) (sym all);
      names = λ text. found_behind bs cs ds (names_of (flat_map f (take i xs))) (names_of (f d)) found later text ∙ ap (λ ns. first_with text (bs ++ ns)) (sym all);
    }

-- a scope whose names are declared from two lists
pub two_lists : (ds es : List Declaration) (bs cs : List Name) (f g h : Option Broken) → bs ≡ [] → g ≡ first_after f (repeated_after bs (names_of ds)) → FindSame cs (bs ++ names_of ds)
    → h ≡ first_after g (repeated_after cs (names_of es)) → h ≡ first_after f (repeated (ds ++ es))
two_lists ds es bs cs f g h empty p same q =
    told_behind bs cs (names_of ds) (names_of es) f g h p same q
    ∙ ap (λ ns. first_after f (repeated_after ns (names_of ds ++ names_of es))) empty
    ∙ ap (λ ns. first_after f (repeated_after [] ns)) (sym (names_of-append ds es))
