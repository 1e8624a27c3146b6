-- Where a block comment closes.
use Rattle.std.proofs.Common.{◌≡◌, ◌+◌, ◌<◌, ◌&&◌, ◌||◌, ◌++◌, ℕ, Bool, true, false, Option, Some, None, List, [], ◌∷◌, length, refl, sym, ap, ◌∙◌, subst, arith, eqb, eqb-true, ⊎_elim}
use Rattle.std.specs.Option.{option_map}
use Rattle.std.proofs.lemmas.Bool.{cond-true, cond-false, cases_Bool, and_parts, false≢true}
use Rattle.std.proofs.lemmas.Option.{none-some}
use Rattle.slicc_lex.specs.Prelude.{has_close, close_len}

pub close_short : (bytes : List ℕ) → length bytes < 2 → close_len bytes ≡ None
close_short [] short = refl
close_short (c ∷ []) short = refl
close_short (c ∷ d ∷ cs) short = absurd (omega arith)

pub and_false_left : (a b : Bool) → a ≡ false → (a && b) ≡ false
and_false_left true b is = absurd (false≢true (sym is))
and_false_left false b is = refl

pub and_false_right : (a b : Bool) → b ≡ false → (a && b) ≡ false
and_false_right true b is = is
and_false_right false b is = refl

both_false : (a b : Bool) → a ≡ false → b ≡ false → (a || b) ≡ false
both_false true b first second = absurd (false≢true (sym first))
both_false false b first second = second

or_false : (a b : Bool) → (a || b) ≡ false → (a ≡ false) × (b ≡ false)
or_false true b is = absurd (false≢true (sym is))
or_false false b is = (refl, is)

-- a star and a slash behind a text in which they don't come first
pub close_at : (text behind : List ℕ) → has_close (text ++ 42 ∷ []) ≡ false → close_len (text ++ (42 ∷ 47 ∷ behind)) ≡ Some (length text + 2)
close_at [] behind none = refl
close_at (c ∷ []) behind none =
    let later = close_at [] behind refl in
    cond-false (eqb c 42 && false) (Some 2) (option_map (λ n. 1 + n) (close_len (42 ∷ 47 ∷ behind))) (or_false (eqb c 42 && false) false none).0
close_at (c ∷ d ∷ ds) behind none =
    let parts = or_false (eqb c 42 && eqb d 47) (has_close ((d ∷ ds) ++ 42 ∷ [])) none in
    let later = close_at (d ∷ ds) behind parts.1 in
    cond-false (eqb c 42 && eqb d 47) (Some 2) (option_map (λ n. 1 + n) (close_len ((d ∷ ds) ++ (42 ∷ 47 ∷ behind)))) parts.0
    ∙ ap (option_map (λ n. 1 + n)) later ∙ ap (λ (n : ℕ). Some n) (omega arith)

-- where bytes close, they are a text that doesn't close earlier, a star and a slash, and the rest
pub record ClosesAfter (bytes : List ℕ) (size : ℕ) : Type 0 where
  pub text : List ℕ
  pub rest : List ℕ
  pub split : bytes ≡ text ++ (42 ∷ 47 ∷ rest)
  pub size_is : size ≡ length text + 2
  pub first : has_close (text ++ 42 ∷ []) ≡ false

-- a byte that doesn't close with the next one can come before a text that doesn't close
first_later : (c d : ℕ) (cs text rest : List ℕ) → (eqb c 42 && eqb d 47) ≡ false → d ∷ cs ≡ text ++ (42 ∷ 47 ∷ rest) → has_close (text ++ 42 ∷ []) ≡ false → has_close (c ∷ (text ++ 42 ∷ [])) ≡ false
first_later c d cs [] rest apart split first = both_false (eqb c 42 && eqb 42 47) false (and_false_right (eqb c 42) false refl) refl
first_later c d cs (t ∷ ts) rest apart split first =
    let same : d ≡ t = cc in
    both_false (eqb c 42 && eqb t 47) (has_close ((t ∷ ts) ++ 42 ∷ [])) (ap (λ e. eqb c 42 && eqb e 47) (sym same) ∙ apart) first

-- where bytes close, they close after a text that doesn't close earlier
closes_later : (c d : ℕ) (cs : List ℕ) (size : ℕ) → (eqb c 42 && eqb d 47) ≡ false → ClosesAfter (d ∷ cs) size → ClosesAfter (c ∷ d ∷ cs) (1 + size)
closes_later c d cs size apart later = record {
  text = c ∷ later.text;
  rest = later.rest;
  split = ap (λ b. c ∷ b) later.split;
  size_is = omega (arith, later.size_is);
  first = first_later c d cs later.text later.rest apart later.split later.first;
}

closes_behind : (c d : ℕ) (cs : List ℕ) (size : ℕ) (found : Option ℕ) → (eqb c 42 && eqb d 47) ≡ false → close_len (d ∷ cs) ≡ found → ((n : ℕ) → close_len (d ∷ cs) ≡ Some n → ClosesAfter (d ∷ cs) n) → option_map (λ n. 1 + n) found ≡ Some size → ClosesAfter (c ∷ d ∷ cs) size
closes_behind c d cs size None apart found_is later is = absurd (none-some size is)
closes_behind c d cs size (Some n) apart found_is later is = let same : 1 + n ≡ size = cc in subst (ClosesAfter (c ∷ d ∷ cs)) same (closes_later c d cs n apart (later n found_is))

-- what closes, closes after a text
pub closes_after : (bytes : List ℕ) (size : ℕ) → close_len bytes ≡ Some size → ClosesAfter bytes size
closes_after [] size is = absurd (none-some size is)
closes_after (c ∷ []) size is = absurd (none-some size is)
closes_after (c ∷ d ∷ cs) size is =
    ⊎_elim
    (λ here.
    let both = and_parts (eqb c 42) (eqb d 47) here in
    let found : ◌≡◌ {A = Option ℕ} (Some 2) (Some size) = sym (cond-true (eqb c 42 && eqb d 47) (Some 2) (option_map (λ n. 1 + n) (close_len (d ∷ cs))) here) ∙ is in
    let two : ◌≡◌ {A = ℕ} 2 size = cc in
    record { text = []; rest = cs; split = ap (λ b. b ∷ d ∷ cs) (eqb-true c 42 both.0) ∙ ap (λ b. 42 ∷ b ∷ cs) (eqb-true d 47 both.1); size_is = sym two; first = refl })
    (λ apart. closes_behind c d cs size (close_len (d ∷ cs)) apart refl (λ n e. closes_after (d ∷ cs) n e) (sym (cond-false (eqb c 42 && eqb d 47) (Some 2) (option_map (λ n. 1 + n) (close_len (d ∷ cs))) apart) ∙ is))
    (cases_Bool (eqb c 42 && eqb d 47))
