-- Where the first line, the first word and a comment of a text end.
use Rattle.std.proofs.Common.{◌≡◌, ℕ, zero, suc, ◌+◌, ◌-◌, ◌<◌, ◌≤◌, Bool, true, false, not, eqb, List, [], ◌∷◌, length, get_or, take, drop, filter, refl, sym, ap, ◌∙◌, subst, arith, add-one}
use Rattle.std.specs.List.{slice_split}
use Rattle.std.proofs.lemmas.Bool.{ne_eqb, false≢true}
use Rattle.std.proofs.lemmas.List.{drop_all, drop_more, take_rest}
use Rattle.std.proofs.lemmas.List.Splits.{slice_split_none}
use Rattle.std.proofs.lemmas.List.Sums.{prefix_len_is}
use Rattle.ruby_topology.specs.Prelude.{before_comment, is_blank, is_some_word, lines_of, words_of}

-- no line feed stands before this place
abbrev pub NoEndBefore : List ℕ → ℕ → Type 0
NoEndBefore bs i = (k : ℕ) → k < i → get_or bs k 0 ≡ 10 → ⊥

below_tail : (P : ℕ → Type 0) (b : ℕ) (bs : List ℕ) (i : ℕ) → ((k : ℕ) → k < suc i → P (get_or (b ∷ bs) k 0)) → (k : ℕ) → k < i → P (get_or bs k 0)
below_tail P b bs i below k lt = below (suc k) (omega arith)

pub lines_at : (bs : List ℕ) (i : ℕ) → i < length bs → NoEndBefore bs i → get_or bs i 0 ≡ 10 → lines_of bs ≡ take i bs ∷ lines_of (drop (suc i) bs)
lines_at [] i inside below here = absurd (omega arith)
lines_at (b ∷ bs) zero inside below here = rw here refl
lines_at (b ∷ bs) (suc i) inside below here =
    let other : eqb b 10 ≡ false = ne_eqb b 10 (below 0 (omega arith)) in
    let rest = lines_at bs i (omega arith) (below_tail (λ x. x ≡ 10 → ⊥) b bs i below) here in
    rw other (rw rest refl)

pub lines_none : (bs : List ℕ) → 0 < length bs → NoEndBefore bs (length bs) → lines_of bs ≡ bs ∷ []
lines_none [] some below = absurd (omega arith)
lines_none (b ∷ []) some below =
    let other : eqb b 10 ≡ false = ne_eqb b 10 (below 0 (omega arith)) in rw other refl
lines_none (b ∷ c ∷ bs) some below =
    let other : eqb b 10 ≡ false = ne_eqb b 10 (below 0 (omega arith)) in
    let rest = lines_none (c ∷ bs) (omega arith) (below_tail (λ x. x ≡ 10 → ⊥) b (c ∷ bs) (length (c ∷ bs)) below) in
    rw other (rw rest refl)

-- the bytes before this place are, or aren't, blanks
abbrev pub BlanksBefore : Bool → List ℕ → ℕ → Type 0
BlanksBefore answer bs i = (k : ℕ) → k < i → is_blank (get_or bs k 0) ≡ answer

split_at : (p : ℕ → Bool) (bs : List ℕ) (i : ℕ) → i < length bs → ((k : ℕ) → k < i → p (get_or bs k 0) ≡ false) → p (get_or bs i 0) ≡ true → slice_split p bs ≡ take i bs ∷ slice_split p (drop (suc i) bs)
split_at p [] i inside below here = absurd (omega arith)
split_at p (b ∷ bs) zero inside below here = rw here refl
split_at p (b ∷ bs) (suc i) inside below here =
    let other : p b ≡ false = below 0 (omega arith) in
    let rest = split_at p bs i (omega arith) (below_tail (λ x. p x ≡ false) b bs i below) here in
    rw other (rw rest refl)

pub words_after_blanks : (bs : List ℕ) (i : ℕ) → i ≤ length bs → BlanksBefore true bs i → words_of (drop i bs) ≡ words_of bs
words_after_blanks bs zero inside below = refl
words_after_blanks [] (suc i) inside below = refl
words_after_blanks (b ∷ bs) (suc i) inside below =
    let here : is_blank b ≡ true = below 0 (omega arith) in
    let rest = words_after_blanks bs i (omega arith) (below_tail (λ x. is_blank x ≡ true) b bs i below) in
    let first : words_of (b ∷ bs) ≡ words_of bs = rw here refl in
    rest ∙ sym first

is_word : (b : ℕ) (bs : List ℕ) → is_some_word (b ∷ bs) ≡ true
is_word b bs = let other : eqb (length (b ∷ bs)) 0 ≡ false = ne_eqb (length (b ∷ bs)) 0 (λ e. omega (arith, e)) in rw other refl

pub words_at : (bs : List ℕ) (i : ℕ) → 0 < i → i < length bs → BlanksBefore false bs i → is_blank (get_or bs i 0) ≡ true → words_of bs ≡ take i bs ∷ words_of (drop i bs)
words_at [] i some inside below here = absurd (omega arith)
words_at (b ∷ bs) zero some inside below here = absurd (omega arith)
words_at (b ∷ bs) (suc i) some inside below here =
    let cut = split_at is_blank (b ∷ bs) (suc i) inside below here in
    let first : words_of (b ∷ bs) ≡ take (suc i) (b ∷ bs) ∷ words_of (drop (suc (suc i)) (b ∷ bs)) = ap (filter is_some_word) cut ∙ rw (is_word b (take i bs)) refl in
    let after : words_of (drop (suc i) (b ∷ bs)) ≡ words_of (drop (suc (suc i)) (b ∷ bs)) =
    ap words_of (drop_more bs i 0 (omega arith)) ∙ (rw here (rw add-one refl)) in
    first ∙ ap (λ ws. take (suc i) (b ∷ bs) ∷ ws) (sym after)

pub words_none : (bs : List ℕ) → 0 < length bs → BlanksBefore false bs (length bs) → words_of bs ≡ bs ∷ []
words_none [] some below = absurd (omega arith)
words_none (b ∷ bs) some below =
    ap (filter is_some_word) (slice_split_none is_blank (b ∷ bs) (λ k d lt. subst (λ x. is_blank x ≡ false) (same_at (b ∷ bs) k d lt) (below k lt)))
    ∙ rw (is_word b bs) refl
  where
    same_at : (xs : List ℕ) (k d : ℕ) → k < length xs → get_or xs k 0 ≡ get_or xs k d
    same_at [] k d lt = absurd (omega arith)
    same_at (x ∷ xs) zero d lt = refl
    same_at (x ∷ xs) (suc k) d lt = same_at xs k d (omega arith)

pub comment_at : (bs : List ℕ) (i : ℕ) → i ≤ length bs → ((k : ℕ) → k < i → get_or bs k 0 ≡ 35 → ⊥) → (i < length bs → get_or bs i 0 ≡ 35) → before_comment bs ≡ take i bs
comment_at bs i inside below here =
    ap (λ n. take n bs)
    (prefix_len_is (λ b. not (eqb b 35)) bs i 0 inside
    (λ k lt. let other : eqb (get_or bs k 0) 35 ≡ false = ne_eqb (get_or bs k 0) 35 (below k lt) in rw other refl)
    (λ lt. rw (here lt) refl))

-- The same, of what follows as it is cut from the text.

after_is : (bs : List ℕ) (i : ℕ) → drop (suc i) bs ≡ take (length bs - (i + 1)) (drop (i + 1) bs)
after_is bs i = let next : suc i ≡ i + 1 = omega arith in ap (λ n. drop n bs) next ∙ sym (take_rest bs (i + 1))

pub line_at : (bs : List ℕ) (i : ℕ) → i < length bs → NoEndBefore bs i → get_or bs i 0 ≡ 10 → lines_of bs ≡ take i bs ∷ lines_of (take (length bs - (i + 1)) (drop (i + 1) bs))
line_at bs i inside below here = lines_at bs i inside below here ∙ ap (λ r. take i bs ∷ lines_of r) (after_is bs i)

pub word_cut : (bs : List ℕ) (i : ℕ) → 0 < i → i < length bs → BlanksBefore false bs i → is_blank (get_or bs i 0) ≡ true → words_of bs ≡ take i bs ∷ words_of (take (length bs - i) (drop i bs))
word_cut bs i some inside below here = words_at bs i some inside below here ∙ ap (λ r. take i bs ∷ words_of r) (sym (take_rest bs i))

pub words_from : (bs : List ℕ) (i : ℕ) → i ≤ length bs → BlanksBefore true bs i → words_of (take (length bs - i) (drop i bs)) ≡ words_of bs
words_from bs i inside below = ap words_of (take_rest bs i) ∙ words_after_blanks bs i inside below

pub all_blanks : (bs : List ℕ) → BlanksBefore true bs (length bs) → words_of [] ≡ words_of bs
all_blanks bs below =
    sym (ap words_of (drop_all (length bs) bs (omega arith))) ∙ words_after_blanks bs (length bs) (omega arith) below

-- a blank isn't at the beginning of a text that begins with none
pub some_before : (bs : List ℕ) (i : ℕ) → is_blank (get_or bs 0 0) ≡ false → is_blank (get_or bs i 0) ≡ true → 0 < i
some_before bs zero first here = absurd (false≢true (sym first ∙ here))
some_before bs (suc i) first here = omega arith
