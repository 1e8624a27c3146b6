-- What came of a reader that was asked for some bytes, where fewer came: all that it had. So a read of one byte past the
-- limit tells a file that is too large from one that isn't.
use Rattle.std.proofs.Common.{◌≡◌, ◌+◌, ◌-◌, ◌^◌, ◌<◌, ◌≤◌, ℕ, min, nat_lt, if◌then◌else◌, Bool, true, false, List, [], ◌++◌, length, take, Option, Some, None, Result, Ok, Err, IfSome, OnOk, IfErr, refl, sym, ◌∙◌, ap, subst, arith}
use Rattle.std.proofs.lemmas.Bool.{ltb-false, ltb-true}
use Rattle.std.proofs.lemmas.List.{length-take, take_all}
use Rattle.std.specs.Option.{option_map}
use Rattle.ruby_outside.specs.Prelude.{IsReadOf, got_of}
use Rattle.ruby_outside.specs.declared.library.Got.{Got}
use Rattle.ruby_outside.specs.declared.library.Got.TheVariants.{Bytes, Absent, TooLarge, Failed, NoMemory}

pub all_taken : (m : ℕ) (xs : List ℕ) → length (take m xs) < m → take m xs ≡ xs
all_taken m xs short = take_all m xs (omega (arith, short, length-take m xs))

-- how many bytes are asked for
abbrev pub asked : ℕ → ℕ
asked limit = min (limit + 1) (2 ^ 64 - 1)

-- a read that ended well gave the right answer for the bytes that there are
right_by : (limit : ℕ) (bytes xs : List ℕ) (is_over : Bool) → nat_lt limit (length bytes) ≡ is_over → limit < 2 ^ 64 → bytes ≡ take (asked limit) xs → length bytes < 2 ^ 63 → IsReadOf xs limit (got_of limit bytes)
right_by limit bytes xs true over fits are small =
    let P : Bool → Type 0 = λ is_over. IsReadOf xs limit (if is_over then TooLarge else Bytes bytes) in
    let more : limit < length bytes = ltb-true limit (length bytes) over in
    subst P (sym over) (omega (arith, more, ap length are, length-take (asked limit) xs))
right_by limit bytes xs false over fits are small =
    let P : Bool → Type 0 = λ is_over. IsReadOf xs limit (if is_over then TooLarge else Bytes bytes) in
    let few : length bytes ≤ limit = ltb-false limit (length bytes) over in
    let all : bytes ≡ xs = are ∙ all_taken (asked limit) xs (omega (arith, few, small, fits, ap length are)) in
    subst P (sym over) (all, omega (arith, few, ap length all))

-- an answer that is one of two isn't a third
neither : {P : Type 0} (got : Got) → (got ≡ NoMemory → ⊥) → (got ≡ Failed → ⊥) → (P → got ≡ NoMemory) → ((P → ⊥) → got ≡ Failed) → ⊥
neither got not_memory not_failed memory failed = not_failed (failed (λ p. not_memory (memory p)))

-- the bytes that a reader has left, the most that is asked for, what was there before, how the read ended, and all that is
-- there then
pub read_right : {E : Type 0} (IsForMemory : E → Type 0) (rest : Option (List ℕ)) (most limit : ℕ) (before : List ℕ) (ended : Result ℕ E) (bytes : List ℕ) (got : Got)
    → OnOk ended (IfSome (option_map (take most) rest) (λ xs. bytes ≡ before ++ xs))
    → OnOk ended (got ≡ got_of limit bytes)
    → IfErr ended (λ fault. IsForMemory fault → got ≡ NoMemory)
    → IfErr ended (λ fault. (IsForMemory fault → ⊥) → got ≡ Failed)
    → most ≡ asked limit → before ≡ []
    → limit < 2 ^ 64 → length bytes < 2 ^ 63
    → IfSome rest (λ xs. IsReadOf xs limit got)
read_right {E} IsForMemory None most limit before ended bytes got came whole memory failed all none fits small = tt
read_right {E} IsForMemory (Some xs) most limit before (Ok count) bytes got came whole memory failed all none fits small =
    let P : Got → Type 0 = λ g. IsReadOf xs limit g in
    let are : bytes ≡ take (asked limit) xs = came ∙ ap (λ ys. ys ++ take most xs) none ∙ ap (λ m. take m xs) all in
    subst P (sym whole) (right_by limit bytes xs _ refl fits are small)
read_right {E} IsForMemory (Some xs) most limit before (Err e) bytes Failed came whole memory failed all none fits small = tt
read_right {E} IsForMemory (Some xs) most limit before (Err e) bytes NoMemory came whole memory failed all none fits small = tt
read_right {E} IsForMemory (Some xs) most limit before (Err e) bytes Absent came whole memory failed all none fits small = neither Absent (λ is. cc) (λ is. cc) memory failed
read_right {E} IsForMemory (Some xs) most limit before (Err e) bytes TooLarge came whole memory failed all none fits small = absurd (neither _ (λ is. cc) (λ is. cc) memory failed)
read_right {E} IsForMemory (Some xs) most limit before (Err e) bytes (Bytes read) came whole memory failed all none fits small = absurd (neither _ (λ is. cc) (λ is. cc) memory failed)
