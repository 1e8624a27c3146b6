-- The folder part of a name that is a text is a text.
use Rattle.std.proofs.Common.{◌≡◌, ◌+◌, ◌-◌, ◌<◌, ◌==◌, ◌⊎◌, inl, inr, ℕ, Bool, true, false, not, List, length, reverse, get_or, refl, sym, subst, ap, ◌∙◌, arith, IsUtf8}
use Rattle.std.proofs.lemmas.Bool.{eqb-true}
use Rattle.std.proofs.lemmas.List.{get_or-reverse, length-reverse}
use Rattle.std.proofs.lemmas.List.Sums.{prefix_len_stops}
use Rattle.std.proofs.lemmas.Str.{IsUtf8-take, IsCharBoundary-after_ascii, IsCharBoundary-start}
use Rattle.std.specs.List.{suffix_len}
use Rattle.std.specs.Str.{IsCharBoundary}
use Rattle.slicc_files.specs.Prelude.{is_no_slash, folder_of}

not_not : (b : Bool) → not b ≡ false → b ≡ true
not_not true is = refl
not_not false is = cc is

-- the byte before the last name, if there is one, is a slash
slash_before : (name : List ℕ) → suffix_len is_no_slash name < length name → get_or name (length name - suffix_len is_no_slash name - 1) 0 ≡ 47
slash_before name more =
    let stops : is_no_slash (get_or (reverse name) (suffix_len is_no_slash name) 0) ≡ false =
    prefix_len_stops is_no_slash (reverse name) 0 (omega (arith, length-reverse name, more)) in
    let at : get_or (reverse name) (suffix_len is_no_slash name) 0 ≡ get_or name (length name - 1 - suffix_len is_no_slash name) 0 =
    get_or-reverse name (suffix_len is_no_slash name) 0 more in
    let place : length name - 1 - suffix_len is_no_slash name ≡ length name - suffix_len is_no_slash name - 1 = omega arith in
    sym (ap (λ n. get_or name n 0) place) ∙ sym at ∙ eqb-true (get_or (reverse name) (suffix_len is_no_slash name) 0) 47 (not_not (get_or (reverse name) (suffix_len is_no_slash name) 0 == 47) stops)

boundary : (name : List ℕ) (size : ℕ) → IsUtf8 name → size ≡ length name - suffix_len is_no_slash name → (size ≡ 0) ⊎ (0 < size) → IsCharBoundary name size
boundary name size text is (inl none) = subst (IsCharBoundary name) (sym none) (IsCharBoundary-start name text)
boundary name size text is (inr some) =
    let more : suffix_len is_no_slash name < length name = omega (arith, is, some) in
    let slash : get_or name (size - 1) 0 ≡ 47 = ap (λ n. get_or name (n - 1) 0) is ∙ slash_before name more in
    let back : size - 1 + 1 ≡ size = omega (arith, some) in
    subst (IsCharBoundary name) back (IsCharBoundary-after_ascii name (size - 1) text (omega (arith, is, some, more)) (omega (arith, slash)))

some_or_none : (n : ℕ) → (n ≡ 0) ⊎ (0 < n)
some_or_none n = grind arith

pub folder_text : (name : List ℕ) → IsUtf8 name → IsUtf8 (folder_of name)
folder_text name text =
    let size = length name - suffix_len is_no_slash name in
    IsUtf8-take name size text (boundary name size text refl (some_or_none size))
