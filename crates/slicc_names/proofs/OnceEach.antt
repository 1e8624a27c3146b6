-- Texts each kept once: they are distinct and those that came, so they are no more than any list in which all of them are.
use Rattle.std.proofs.Common.{◌≡◌, ◌≤◌, ◌<◌, ◌||◌, ◌++◌, ℕ, Bool, true, false, cond, Option, None, Some, List, [], ◌∷◌, find, fold, is_some, length, map, nat_lt, suc, option_and_then, refl, sym, ap, ◌∙◌, subst, arith, lt-ltb}
use Rattle.std.proofs.Math.Bool.{or-false, or_assoc}
use Rattle.std.proofs.lemmas.List.Folds.{list_any-append}
use Rattle.std.proofs.lemmas.Map.Keys.{IsDistinct-push}
use Rattle.std.proofs.lemmas.Map.Made.{length-le_from_is_member}
use Rattle.std.proofs.lemmas.Slice.Eq.{bytes_eq-Decides}
use Rattle.std.specs.Cmp.Lexicographic.{nat_list_eq_equiv}
use Rattle.std.specs.List.{IsDistinct, list_any}
use Rattle.std.specs.Str.{bytes_eq}
use Rattle.slicc_ast.specs.declared.tree.name.Name.{Name}
use Rattle.ruby_base.specs.Prelude.{AreDistinct, is_name, number_among, with_name}
use Rattle.slicc_plan.specs.Prelude.{Declaration, is_named, is_text, name_of}
use Rattle.slicc_plan.specs.TwiceDeclared.{listed, names_of}
use Rattle.declared_types.proofs.Index.{any_named, number_among-within}
use Rattle.declared_types.proofs.NameParts.{list_any_same}
use Rattle.slicc_names.specs.Prelude.{once_each, short_number, texts_declared}

same : (q : List ℕ) (names : List (List ℕ)) → list_any (bytes_eq q) names ≡ list_any (is_name q) names
same q names = list_any_same (bytes_eq q) (is_name q) names (nat_list_eq_equiv.symm q)

distinct_with : (names : List (List ℕ)) (t : List ℕ) (v : Bool) → list_any (is_name t) names ≡ v → AreDistinct names → AreDistinct (cond v names (names ++ t ∷ []))
distinct_with names t true e d = d
distinct_with names t false e d = IsDistinct-push nat_list_eq_equiv names t d (same t names ∙ e)

all_distinct : (texts names : List (List ℕ)) → AreDistinct names → AreDistinct (fold with_name names texts)
all_distinct [] names d = d
all_distinct (t ∷ ts) names d = all_distinct ts (with_name names t) (distinct_with names t (list_any (is_name t) names) refl d)

among_with : (q t : List ℕ) (names : List (List ℕ)) (v w : Bool) → list_any (is_name t) names ≡ v → is_name q t ≡ w → list_any (is_name q) (cond v names (names ++ t ∷ [])) ≡ (list_any (is_name q) names || w)
among_with q t names false w e f = list_any-append (is_name q) names (t ∷ []) ∙ ap (λ b. list_any (is_name q) names || b) (or-false (is_name q t) ∙ f)
among_with q t names true false e f = sym (or-false (list_any (is_name q) names))
among_with q t names true true e f =
    let there : list_any (is_name q) names ≡ true = subst (λ x. list_any (is_name x) names ≡ true) ((bytes_eq-Decides t q).0 f) e in rw there refl

all_among : (q : List ℕ) (texts names : List (List ℕ)) → list_any (is_name q) (fold with_name names texts) ≡ (list_any (is_name q) names || list_any (is_name q) texts)
all_among q [] names = sym (or-false (list_any (is_name q) names))
all_among q (t ∷ ts) names =
    all_among q ts (with_name names t)
    ∙ ap (λ b. b || list_any (is_name q) ts) (among_with q t names (list_any (is_name t) names) (is_name q t) refl refl)
    ∙ or_assoc (list_any (is_name q) names) (is_name q t) (list_any (is_name q) ts)

pub few_texts : (texts names : List (List ℕ)) → ((q : List ℕ) → list_any (is_name q) texts ≡ true → list_any (is_name q) names ≡ true) → length (once_each texts) ≤ length names
unfolding IsDistinct
few_texts texts names h =
    length-le_from_is_member nat_list_eq_equiv (once_each texts) names (all_distinct texts [] tt)
    (λ q m. same q names ∙ h q (sym (all_among q texts []) ∙ sym (same q (once_each texts)) ∙ m))

-- the texts of declarations are those of their names
pub among_declared : (q : List ℕ) (ds : List Declaration) → list_any (is_name q) (texts_declared ds) ≡ list_any (is_named q) ds
among_declared q [] = refl
among_declared q (d ∷ ds) = by (name_of d) (among_declared q ds)
  where
    by : (o : Option Name) → list_any (is_name q) (texts_declared ds) ≡ list_any (is_named q) ds → list_any (is_name q) (map (λ (n : Name). n.text) (listed o ++ names_of ds)) ≡ (is_text q o || list_any (is_named q) ds)
    by None h = h
    by (Some n) h = ap (λ b. is_name q n.text || b) h

pub few_declared : (ds : List Declaration) → length (texts_declared ds) ≤ length ds
few_declared [] = omega arith
few_declared (d ∷ ds) = by (name_of d) (few_declared ds)
  where
    by : (o : Option Name) → length (texts_declared ds) ≤ length ds → length (map (λ (n : Name). n.text) (listed o ++ names_of ds)) ≤ suc (length ds)
    by None h = omega arith
    by (Some n) h = omega arith

pub found : {X : Type 0} (p : X → Bool) (xs : List X) → is_some (find p xs) ≡ list_any p xs
found p [] = refl
found p (x ∷ xs) = by (p x) (found p xs)
  where
    by : (v : Bool) → is_some (find p xs) ≡ list_any p xs → is_some (cond v (Some x) (find p xs)) ≡ (v || list_any p xs)
    by true h = refl
    by false h = h

-- a name among so few has a number
short : (names : List (List ℕ)) (o : Option ℕ) → ((n : ℕ) → o ≡ Some n → n < length names) → length names ≤ 65536 → is_some (option_and_then short_number o) ≡ is_some o
short names None h l = refl
short names (Some n) h l =
    let under : n < length names = h n refl in
    let below : nat_lt n 65536 ≡ true = lt-ltb n 65536 (omega (arith, under)) in rw below refl

pub has_number : (ds : List Declaration) (q : List ℕ) → length (once_each (texts_declared ds)) ≤ 65536 → is_some (option_and_then short_number (number_among (once_each (texts_declared ds)) q)) ≡ is_some (find (is_named q) ds)
has_number ds q l =
    let names = once_each (texts_declared ds) in
    short names (number_among names q) (number_among-within names q) l ∙ sym (any_named names q) ∙ all_among q (texts_declared ds) []
    ∙ among_declared q ds ∙ sym (found (is_named q) ds)
