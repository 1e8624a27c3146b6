-- How what a sink tells grows over several calls.
use Rattle.std.proofs.Common.{◌≡◌, ℕ, ◌+◌, ◌-◌, ◌<◌, List, [], ◌++◌, length, take, drop, Option, Some, None, is_some, Bool, true, false, refl, ◌∙◌, sym, ap, arith, append_assoc, length-append}
use Rattle.std.proofs.Math.Seq.{take-add, take-append-add}
use Rattle.std.proofs.lemmas.List.{append-nil, take-append-le, take_rest}
use Rattle.std.specs.Bool.{OnFalse}
use Rattle.ruby_outside.specs.Prelude.{grown, IsCutOff}

-- bytes and then more bytes are all of them at once
pub grown-append : (before : Option (List ℕ)) (first more : List ℕ) → grown (grown before first) more ≡ grown before (first ++ more)
grown-append None first more = refl
grown-append (Some written) first more = ap Some (append_assoc written first more)

pub grown-nil : (before : Option (List ℕ)) → grown before [] ≡ before
grown-nil None = refl
grown-nil (Some written) = ap Some (append-nil written)

-- a sink tells after it has grown where it told before
pub is_some-grown : (before : Option (List ℕ)) (bytes : List ℕ) → is_some (grown before bytes) ≡ is_some before
is_some-grown None bytes = refl
is_some-grown (Some written) bytes = refl

-- what was cut off is cut off too where more should have followed
pub cut_before : (before : Option (List ℕ)) (first more : List ℕ) (after : Option (List ℕ)) → IsCutOff before first after → IsCutOff before (first ++ more) after
cut_before before first more after (count, within, is) =
    let short : count < length (first ++ more) = omega (arith, length-append first more) in
    let front : take count (first ++ more) ≡ take count first = take-append-le count first more (omega arith) in
    (count, short, is ∙ ap (λ (bytes : List ℕ). grown before bytes) (sym front))

-- what is whole, and then more that is cut off, is cut off as a whole
pub cut_behind : (before middle : Option (List ℕ)) (first more : List ℕ) (after : Option (List ℕ)) → middle ≡ grown before first → IsCutOff middle more after → IsCutOff before (first ++ more) after
cut_behind before middle first more after whole (count, within, is) =
    let short : length first + count < length (first ++ more) = omega (arith, length-append first more) in
    let both : after ≡ grown before (first ++ take count more) = is ∙ ap (λ (told : Option (List ℕ)). grown told (take count more)) whole ∙ grown-append before first (take count more) in
    (length first + count, short, both ∙ ap (λ (bytes : List ℕ). grown before bytes) (sym (take-append-add first more count)))

-- the same of the last call's answer
pub cut_last : (answer : Bool) (before middle : Option (List ℕ)) (first more : List ℕ) (after : Option (List ℕ)) → middle ≡ grown before first → OnFalse answer (IsCutOff middle more after) → OnFalse answer (IsCutOff before (first ++ more) after)
cut_last true before middle first more after whole cut = tt
cut_last false before middle first more after whole cut = cut_behind before middle first more after whole cut

-- the front of a piece, and then more of what is left of it
pub grown_more : (before middle after : Option (List ℕ)) (piece : List ℕ) (done count : ℕ) → middle ≡ grown before (take done piece) → after ≡ grown middle (take count (drop done piece)) → after ≡ grown before (take (done + count) piece)
grown_more before middle after piece done count first more =
    more
    ∙ ap (λ (told : Option (List ℕ)). grown told (take count (drop done piece))) first
    ∙ grown-append before (take done piece) (take count (drop done piece))
    ∙ ap (λ (bytes : List ℕ). grown before bytes) (sym (take-add done count piece))

-- the same where what is left was taken as a slice
pub grown_on : (before middle after : Option (List ℕ)) (piece : List ℕ) (done count : ℕ) → middle ≡ grown before (take done piece) → after ≡ grown middle (take count (take (length piece - done) (drop done piece))) → after ≡ grown before (take (done + count) piece)
grown_on before middle after piece done count first more =
    grown_more before middle after piece done count first (more ∙ ap (λ (rest : List ℕ). grown middle (take count rest)) (take_rest piece done))
