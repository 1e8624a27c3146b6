-- Counting through the places of parts one after another.
use Rattle.std.proofs.Common.{◌≡◌, ◌<◌, ◌≤◌, ◌+◌, ℕ, zero, suc, Bool, true, false, cond, List, [], ◌∷◌, ◌++◌, map, filter, flat_map, take, refl, sym, ap, ◌∙◌, append-nil, add-one, slice_index_or, length}
use Rattle.std.proofs.Math.Seq.{take-suc}
use Rattle.std.proofs.lemmas.Grind.{flat_map-append}
use Rattle.std.proofs.lemmas.List.{map-append, take_all}
use Rattle.slicc_ast.specs.declared.tree.span.Span.{Span}
use Rattle.slicc_plan.specs.Prelude.{Declaration, place_of, beyond}
use Rattle.slicc_names.specs.Prelude.{found_after, found_next, place_if, told_found}
use Rattle.slicc_names.specs.declared.count.Found.{Found}
use Rattle.slicc_names.specs.declared.count.Found.TheVariants.{At, Left}

pub found_after-append : (f : Found) (ps qs : List Span) → found_after f (ps ++ qs) ≡ found_after (found_after f ps) qs
found_after-append f [] qs = refl
found_after-append f (p ∷ ps) qs = found_after-append (found_next f p) ps qs

-- places, and then more
pub found_both : (ps qs : List Span) (f g h : Found) → g ≡ found_after f ps → h ≡ found_after g qs → h ≡ found_after f (ps ++ qs)
found_both ps qs f g h p q = q ∙ ap (λ x. found_after x qs) p ∙ sym (found_after-append f ps qs)

pub flat_taken : {X Y : Type 0} (h : X → List Y) (xs : List X) (i : ℕ) (d : X) → i < length xs → d ≡ slice_index_or xs i d → flat_map h (take (i + 1) xs) ≡ flat_map h (take i xs) ++ h d
flat_taken h xs i d below is =
    let taken : take (i + 1) xs ≡ take i xs ++ slice_index_or xs i d ∷ [] = rw (add-one, take-suc xs i d below) refl in
    ap (flat_map h) taken ∙ flat_map-append h (take i xs) (slice_index_or xs i d ∷ []) ∙ ap (λ ys. flat_map h (take i xs) ++ ys) (append-nil (h (slice_index_or xs i d)))
    ∙ ap (λ x. flat_map h (take i xs) ++ h x) (sym is)

-- one step of a loop, and its end
pub found_on : {X : Type 0} (h : X → List Span) (xs : List X) (i : ℕ) (d : X) (start f g : Found) → i < length xs → d ≡ slice_index_or xs i d
    → f ≡ found_after start (flat_map h (take i xs)) → g ≡ found_after f (h d) → g ≡ found_after start (flat_map h (take (i + 1) xs))
found_on h xs i d start f g below is so_far here =
    found_both (flat_map h (take i xs)) (h d) start f g so_far here ∙ ap (found_after start) (sym (flat_taken h xs i d below is))

pub found_end : {X : Type 0} (h : X → List Span) (xs : List X) (i : ℕ) (start f : Found) → length xs ≤ i → f ≡ found_after start (flat_map h (take i xs)) → f ≡ found_after start (flat_map h xs)
found_end h xs i start f past so_far = so_far ∙ ap (λ ys. found_after start (flat_map h ys)) (take_all i xs past)

pub map_flat : {X Y Z : Type 0} (f : Y → Z) (g : X → List Y) (xs : List X) → map f (flat_map g xs) ≡ flat_map (λ x. map f (g x)) xs
map_flat f g [] = refl
map_flat f g (x ∷ xs) = map-append f (g x) (flat_map g xs) ∙ ap (λ ys. map f (g x) ++ ys) (map_flat f g xs)

stays_found : (p : Span) (ps : List Span) → found_after (At p) ps ≡ At p
stays_found p [] = refl
stays_found p (q ∷ qs) = stays_found p qs

-- what is told of the declaration right after so many
pub beyond_found : (n : ℕ) (ds : List Declaration) → beyond n ds ≡ told_found (found_after (Left n) (map place_of ds))
beyond_found n [] = refl
beyond_found zero (d ∷ ds) = ap told_found (sym (stays_found (place_of d) (map place_of ds)))
beyond_found (suc n) (d ∷ ds) = beyond_found n ds

passing : (test : Declaration → Bool) (d : Declaration) (ds : List Declaration) (b : Bool) → map place_of (filter test ds) ≡ flat_map (place_if test) ds
    → map place_of (cond b (d ∷ filter test ds) (filter test ds)) ≡ cond b (place_of d ∷ []) [] ++ flat_map (place_if test) ds
passing test d ds true rest = ap (λ ps. place_of d ∷ ps) rest
passing test d ds false rest = rest

pub places_passing : (test : Declaration → Bool) (ds : List Declaration) → map place_of (filter test ds) ≡ flat_map (place_if test) ds
places_passing test [] = refl
places_passing test (d ∷ ds) = passing test d ds (test d) (places_passing test ds)

pub beyond_passing : (test : Declaration → Bool) (n : ℕ) (ds : List Declaration) → beyond n (filter test ds) ≡ told_found (found_after (Left n) (flat_map (place_if test) ds))
beyond_passing test n ds = beyond_found n (filter test ds) ∙ ap (λ ps. told_found (found_after (Left n) ps)) (places_passing test ds)
