-- The index from names to first declarations is right.
use Rattle.std.proofs.Common.{◌≡◌, ◌<◌, ◌≤◌, ◌++◌, ◌||◌, ◌+◌, ℕ, Bool, true, false, cond, Option, None, Some, List, [], ◌∷◌, refl, sym, take, length, suc, zero, arith, slice_get, option_and_then, is_some, get_or, ap, subst, ◌∙◌, add-one, length-append}
use Rattle.std.proofs.Math.Seq.{take-suc}
use Rattle.std.proofs.lemmas.Bool.Decides.{nat_tests}
use Rattle.std.proofs.lemmas.Option.{slice_get-get_or}
use Rattle.std.proofs.lemmas.Slice.Eq.{bytes_eq-Decides}
use Rattle.std.proofs.lemmas.List.{length-map, length-take-le, map-append}
use Rattle.std.specs.List.{list_any}
use Rattle.std.specs.Option.{option_map, option_or}
use Rattle.std.specs.Str.{bytes_eq}
use Rattle.ruby_base.specs.Prelude.{is_name, number_among, with_name}
use Rattle.slicc_plan.specs.Prelude.{Declaration, first_named, is_named}
use Rattle.declared_types.specs.declared.lent.Declared.{Declared}
use Rattle.declared_types.specs.declared.lent.Declared.TheVariants.{Machine, Enumeration, Structure, States, Parameter, Object, OutPort, InPort, Action, Function}
use Rattle.declared_types.specs.Lent.{texts_of}
use Rattle.declared_types.specs.Prelude.{declaration_of, declarations_of, text_of, IsIndexed, with_first}

-- one more name in front
pub number_among-cons : (name t : List ℕ) (ts : List (List ℕ)) → number_among (t ∷ ts) name ≡ cond (bytes_eq t name) (Some 0) (option_map (λ n. suc n) (number_among ts name))
number_among-cons name t ts = grind arith

-- a declaration is found by its name's number
pub named_by_text : (text : List ℕ) (d : Declared) → is_named text (declaration_of d) ≡ bytes_eq (text_of d) text
named_by_text text (Machine m) = refl
named_by_text text (Enumeration e) = refl
named_by_text text (Structure s) = refl
named_by_text text (States s) = refl
named_by_text text (Parameter p) = refl
named_by_text text (Object o) = refl
named_by_text text (OutPort p) = refl
named_by_text text (InPort p) = refl
named_by_text text (Action a) = refl
named_by_text text (Function f) = refl

abbrev pub at_number : List Declared → Option ℕ → Option Declaration
at_number ds None = None
at_number ds (Some n) = option_map declaration_of (slice_get ds n)

pub at_number_suc : (d : Declared) (ds : List Declared) (o : Option ℕ) → at_number (d ∷ ds) (option_map (λ n. suc n) o) ≡ at_number ds o
at_number_suc d ds None = refl
at_number_suc d ds (Some n) = refl

pub found_cons : (text : List ℕ) (d : Declared) (ds : List Declared) (v : Bool) → at_number ds (number_among (texts_of ds) text) ≡ first_named text (declarations_of ds)
    → at_number (d ∷ ds) (cond v (Some 0) (option_map (λ n. suc n) (number_among (texts_of ds) text))) ≡ cond v (Some (declaration_of d)) (first_named text (declarations_of ds))
found_cons text d ds true h = refl
found_cons text d ds false h = let e = at_number_suc d ds (number_among (texts_of ds) text) in cc

pub found : (text : List ℕ) (ds : List Declared) → at_number ds (number_among (texts_of ds) text) ≡ first_named text (declarations_of ds)
found text [] = refl
found text (d ∷ ds) =
    rw (number_among-cons text (text_of d) (texts_of ds), named_by_text text d) (found_cons text d ds (bytes_eq (text_of d) text) (found text ds))

-- One more declaration.

pub number_among-within : (ts : List (List ℕ)) (name : List ℕ) (n : ℕ) → number_among ts name ≡ Some n → n < length ts
number_among-within ts name n h = grind (arith, nat_tests)

pub suc_or : (o : Option ℕ) (v : Bool) (n : ℕ) → option_map (λ k. suc k) (option_or o (cond v (Some n) None)) ≡ option_or (option_map (λ k. suc k) o) (cond v (Some (suc n)) None)
suc_or None true n = refl
suc_or None false n = refl
suc_or (Some k) v n = refl

pub cond_or : (u : Bool) (o p : Option ℕ) → cond u (Some 0) (option_or o p) ≡ option_or (cond u (Some 0) o) p
cond_or true o p = refl
cond_or false o p = refl

pub number_among-push : (ts : List (List ℕ)) (t name : List ℕ) → number_among (ts ++ t ∷ []) name ≡ option_or (number_among ts name) (cond (bytes_eq t name) (Some (length ts)) None)
number_among-push [] t name = grind (arith, number_among-cons)
number_among-push (u ∷ us) t name =
    rw (number_among-cons name u (us ++ t ∷ []), number_among-cons name u us, number_among-push us t name, suc_or (number_among us name) (bytes_eq t name) (length us))
    (cond_or (bytes_eq u name) (option_map (λ k. suc k) (number_among us name)) (cond (bytes_eq t name) (Some (suc (length us))) None))

pub any_cons : (u v : Bool) (o : Option ℕ) → v ≡ is_some o → (u || v) ≡ is_some (cond u (Some 0) (option_map (λ k. suc k) o))
any_cons true v o e = refl
any_cons false v None e = e
any_cons false v (Some k) e = e

-- a name is among these where it has a number
pub any_named : (ts : List (List ℕ)) (name : List ℕ) → list_any (is_name name) ts ≡ is_some (number_among ts name)
any_named [] name = refl
any_named (u ∷ us) name =
    rw (number_among-cons name u us) (any_cons (bytes_eq u name) (list_any (is_name name) us) (number_among us name) (any_named us name))

abbrev pub first_at : List ℕ → Option ℕ → Option ℕ
first_at firsts o = option_and_then (λ n. slice_get firsts n) o

-- where the name is known
pub known_step : (firsts : List ℕ) (o a : Option ℕ) (v : Bool) (i : ℕ) → ((n : ℕ) → o ≡ Some n → n < length firsts) → first_at firsts o ≡ a → (o ≡ None → v ≡ false) → first_at firsts o ≡ option_or a (cond v (Some i) None)
known_step firsts None a v i within e h = let f = h refl in rw (← e, f) refl
known_step firsts (Some n) a v i within e h =
    let s = slice_get-get_or firsts n 0 (within n refl) in
    let f : a ≡ Some (get_or firsts n 0) = sym e ∙ s in
    rw (f) s

pub get_last : (firsts : List ℕ) (i : ℕ) → slice_get (firsts ++ i ∷ []) (length firsts) ≡ Some i
get_last [] i = refl
get_last (f ∷ fs) i = get_last fs i

pub get_before : (firsts : List ℕ) (i n : ℕ) → n < length firsts → slice_get (firsts ++ i ∷ []) n ≡ slice_get firsts n
get_before [] i n h = absurd (omega arith)
get_before (f ∷ fs) i zero h = refl
get_before (f ∷ fs) i (suc n) h = get_before fs i n (omega arith)

-- where it is new
pub new_step : (firsts : List ℕ) (o a : Option ℕ) (v : Bool) (i : ℕ) → ((n : ℕ) → o ≡ Some n → n < length firsts) → first_at firsts o ≡ a → first_at (firsts ++ i ∷ []) (option_or o (cond v (Some (length firsts)) None)) ≡ option_or a (cond v (Some i) None)
new_step firsts None a true i within e = rw (← e) (get_last firsts i)
new_step firsts None a false i within e = rw (← e) refl
new_step firsts (Some n) a v i within e =
    let below = within n refl in
    let s = slice_get-get_or firsts n 0 below in
    let f : a ≡ Some (get_or firsts n 0) = sym e ∙ s in
    rw (f) (get_before firsts i n below ∙ s)

-- a name that has no number isn't that of one that has
pub not_same : (names : List (List ℕ)) (t q : List ℕ) (v : Bool) → v ≡ bytes_eq t q → list_any (is_name t) names ≡ true → number_among names q ≡ None → v ≡ false
not_same names t q false e h none = refl
not_same names t q true e h none =
    let same : t ≡ q = (bytes_eq-Decides t q).0 (sym e) in
    let one = any_named names t in
    let two : is_some (number_among names t) ≡ is_some (number_among names q) = ap (λ x. is_some (number_among names x)) same in
    let three : is_some (number_among names q) ≡ false = ap (λ o. is_some o) none in cc

pub pushed_at : (ts : List (List ℕ)) (t q : List ℕ) (k : ℕ) → k ≡ length ts → number_among (ts ++ t ∷ []) q ≡ option_or (number_among ts q) (cond (bytes_eq t q) (Some k) None)
pushed_at ts t q k e = number_among-push ts t q ∙ ap (λ n. option_or (number_among ts q) (cond (bytes_eq t q) (Some n) None)) (sym e)

pub index_step : (names all : List (List ℕ)) (firsts : List ℕ) (t : List ℕ) (i : ℕ) (w : Bool) → w ≡ list_any (is_name t) names → length firsts ≡ length names → i ≡ length all → IsIndexed names firsts all
    → IsIndexed (cond w names (names ++ t ∷ [])) (cond w firsts (firsts ++ i ∷ [])) (all ++ t ∷ [])
index_step names all firsts t i true e same at indexed = λ q.
    let base = known_step firsts (number_among names q) (number_among all q) (bytes_eq t q) i (λ n h. let below = number_among-within names q n h in omega arith) (indexed q) (not_same names t q (bytes_eq t q) refl (sym e)) in
    base ∙ sym (pushed_at all t q i at)
index_step names all firsts t i false e same at indexed = λ q.
    let base = new_step firsts (number_among names q) (number_among all q) (bytes_eq t q) i (λ n h. let below = number_among-within names q n h in omega arith) (indexed q) in
    ap (λ o. first_at (firsts ++ i ∷ []) o) (pushed_at names t q (length firsts) same) ∙ base ∙ sym (pushed_at all t q i at)

pub lengths_step : (names : List (List ℕ)) (firsts : List ℕ) (t : List ℕ) (i : ℕ) (w : Bool) → length firsts ≡ length names → length (cond w firsts (firsts ++ i ∷ [])) ≡ length (cond w names (names ++ t ∷ []))
lengths_step names firsts t i true same = same
lengths_step names firsts t i false same = omega (arith, length-append firsts (i ∷ []), length-append names (t ∷ []))

pub texts_taken : (ds : List Declared) (i : ℕ) (d : Declared) → i < length ds → texts_of (take (i + 1) ds) ≡ texts_of (take i ds) ++ text_of (get_or ds i d) ∷ []
texts_taken ds i d below = rw (add-one, take-suc ds i d below) (map-append text_of (take i ds) (get_or ds i d ∷ []))

pub texts_length : (ds : List Declared) (i : ℕ) → i ≤ length ds → i ≡ length (texts_of (take i ds))
texts_length ds i h = omega (arith, length-map (take i ds) text_of, length-take-le i ds h)

-- What a search finds.

pub found_none : (text : List ℕ) (ds : List Declared) (r : Option ℕ) → r ≡ number_among (texts_of ds) text → r ≡ None → None ≡ first_named text (declarations_of ds)
found_none text ds r e n = ap (λ o. at_number ds o) (sym n ∙ e) ∙ found text ds

pub found_some : (text : List ℕ) (ds : List Declared) (r : Option ℕ) (n : ℕ) → r ≡ number_among (texts_of ds) text → r ≡ Some n → option_map declaration_of (slice_get ds n) ≡ first_named text (declarations_of ds)
found_some text ds r n e h = ap (λ o. at_number ds o) (sym h ∙ e) ∙ found text ds

pub lengths_after : (names names' : List (List ℕ)) (firsts firsts' : List ℕ) (t : List ℕ) (i : ℕ) → names' ≡ with_name names t → firsts' ≡ with_first names firsts t i → length firsts ≡ length names → length firsts' ≡ length names'
lengths_after names names' firsts firsts' t i n f same =
    ap length f ∙ lengths_step names firsts t i (list_any (is_name t) names) same ∙ ap length (sym n)

pub indexed_after : (names names' : List (List ℕ)) (firsts firsts' : List ℕ) (ds : List Declared) (i : ℕ) (d : Declared) (t : List ℕ) → i < length ds → d ≡ get_or ds i d → t ≡ text_of d → names' ≡ with_name names t → firsts' ≡ with_first names firsts t i
    → length firsts ≡ length names → IsIndexed names firsts (texts_of (take i ds)) → IsIndexed names' firsts' (texts_of (take (i + 1) ds))
indexed_after names names' firsts firsts' ds i d t below at e n f same indexed =
    let all = texts_taken ds i d below ∙ ap (λ x. texts_of (take i ds) ++ x ∷ []) (ap text_of (sym at) ∙ sym e) in
    let step = index_step names (texts_of (take i ds)) firsts t i (list_any (is_name t) names) refl same (texts_length ds i (omega arith)) indexed in
    subst (λ ts. IsIndexed names' firsts' ts) (sym all) (subst (λ ns. IsIndexed ns firsts' (texts_of (take i ds) ++ t ∷ [])) (sym n) (subst (λ fs. IsIndexed (with_name names t) fs (texts_of (take i ds) ++ t ∷ [])) (sym f) step))
