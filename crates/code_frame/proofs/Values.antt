-- Slots as values: what is put on top, taken off, read and written.
use Rattle.std.proofs.Common.{◌≡◌, ◌≢◌, false, ℕ, zero, suc, ◌+◌, ◌<◌, ◌≤◌, Some, List, [], ◌∷◌, ◌++◌, length, take, slice_get, slice_set, refl, sym, ap, ◌∙◌, arith, w64}
use Rattle.std.specs.Int.{cast_signed}
use Rattle.ruby_value.specs.declared.value.Value.{Value}
use Rattle.ruby_value.specs.declared.value.Value.TheVariants as value
use Rattle.code_frame.specs.declared.slot.Slot.{Slot}
use Rattle.code_frame.specs.declared.slot.Sort.{Sort}
use Rattle.code_frame.specs.declared.slot.Sort.TheVariants as sort
use Rattle.code_frame.specs.Prelude.{IsAddress, IsBig, IsBool, IsInt, IsTopReference, IsReference, IsWord, big, of_sort, reference_of, value_at, value_in, values_from}

pub values_push : (at k : ℕ) (ws : List Slot) (s : Slot) (kept : List Value) → k ≡ at + length ws → values_from at (ws ++ s ∷ []) kept ≡ values_from at ws kept ++ value_in s (value_at kept k) ∷ []
values_push at k [] s kept e = let same : at ≡ k = omega (arith, e) in ap (λ j. value_in s (value_at kept j) ∷ []) same
values_push at k (x ∷ ws) s kept e = ap (λ l. value_in x (value_at kept at) ∷ l) (values_push (at + 1) k ws s kept (omega (arith, e)))

pub values_same : (at : ℕ) (ws : List Slot) (a b : List Value) → ((k : ℕ) → at ≤ k → k < at + length ws → value_at b k ≡ value_at a k) → values_from at ws b ≡ values_from at ws a
values_same at [] a b same = refl
values_same at (s ∷ ws) a b same =
    ap (λ x. value_in s x ∷ values_from (at + 1) ws b) (same at (omega arith) (omega arith))
    ∙ ap (λ l. value_in s (value_at a at) ∷ l) (values_same (at + 1) ws a b (λ k low high. same k (omega (arith, low)) (omega (arith, high))))

pub values_length : (at : ℕ) (ws : List Slot) (kept : List Value) → length (values_from at ws kept) ≡ length ws
values_length at [] kept = refl
values_length at (s ∷ ws) kept = ap suc (values_length (at + 1) ws kept)

pub values_take : (n at : ℕ) (ws : List Slot) (kept : List Value) → values_from at (take n ws) kept ≡ take n (values_from at ws kept)
values_take zero at ws kept = refl
values_take (suc n) at [] kept = refl
values_take (suc n) at (s ∷ ws) kept = ap (λ l. value_in s (value_at kept at) ∷ l) (values_take n (at + 1) ws kept)

pub values_get : (at i k : ℕ) (ws : List Slot) (s : Slot) (kept : List Value) → k ≡ at + i → Some s ≡ slice_get ws i → slice_get (values_from at ws kept) i ≡ Some (value_in s (value_at kept k))
values_get at i k [] s kept e found = absurd (cc found)
values_get at zero k (x ∷ ws) s kept e found =
    let same : x ≡ s = cc (sym found) in
    let place : at ≡ k = omega (arith, e) in
    ap (λ y. Some (value_in y (value_at kept at))) same ∙ ap (λ j. Some (value_in s (value_at kept j))) place
values_get at (suc i) k (x ∷ ws) s kept e found = values_get (at + 1) i k ws s kept (omega (arith, e)) found

pub values_set : (at i k : ℕ) (ws : List Slot) (s : Slot) (a b : List Value) (v : Value) → k ≡ at + i → i < length ws → value_in s (value_at b k) ≡ v
    → ((j : ℕ) → j ≢ k → at ≤ j → j < at + length ws → value_at b j ≡ value_at a j) → values_from at (slice_set ws i s) b ≡ slice_set (values_from at ws a) i v
values_set at i k [] s a b v e within is same = absurd (omega (arith, within))
values_set at zero k (x ∷ ws) s a b v e within is same =
    let place : at ≡ k = omega (arith, e) in
    ap (λ j. value_in s (value_at b j) ∷ values_from (at + 1) ws b) place ∙ ap (λ y. y ∷ values_from (at + 1) ws b) is
    ∙ ap (λ l. v ∷ l) (values_same (at + 1) ws a b (λ j low high. same j (λ q. omega (arith, q, e, low)) (omega (arith, low)) (omega (arith, high))))
values_set at (suc i) k (x ∷ ws) s a b v e within is same =
    ap (λ y. value_in x y ∷ values_from (at + 1) (slice_set ws i s) b) (same at (λ q. omega (arith, q, e)) (omega arith) (omega arith))
    ∙ ap (λ l. value_in x (value_at a at) ∷ l) (values_set (at + 1) i k ws s a b v (omega (arith, e)) (omega (arith, within)) is (λ j other low high. same j other (omega (arith, low)) (omega (arith, high))))

-- Sorts.

pub is_word : (t : Sort) (w : ℕ) (x y : Value) → IsWord t → of_sort t w x ≡ of_sort t w y
is_word sort.Apart w x y is = absurd is
is_word t w x y is = refl

pub not_apart : (t : Sort) → (t ≡ sort.Apart → ⊥) → IsWord t
not_apart sort.Apart other = other refl
not_apart t other = tt

big_is : (x : Value) → IsBig (big x)
big_is (value.Dest members) = tt
big_is x = tt

no_int : (v : Value) → IsBig v → IsInt v → ⊥
no_int (value.Int n) b is = b
no_int v b is = is

no_bool : (v : Value) → IsBig v → IsBool v → ⊥
no_bool (value.Bool n) b is = b
no_bool v b is = is

no_address : (v : Value) → IsBig v → IsAddress v → ⊥
no_address (value.Addr n) b is = b
no_address v b is = is

no_reference : (v : Value) → IsBig v → IsReference v → ⊥
no_reference (value.Entry r) b is = b
no_reference (value.Tbe r) b is = b
no_reference v b is = is

pub int_word : (t : Sort) (w : ℕ) (x : Value) → IsInt (of_sort t w x) → of_sort t w x ≡ value.Int (cast_signed w64 w)
int_word sort.Int w x is = refl
int_word sort.Apart w x is = absurd (no_int (big x) (big_is x) is)
int_word t w x is = absurd is

pub bool_word : (t : Sort) (w : ℕ) (x : Value) → IsBool (of_sort t w x) → of_sort t w x ≡ of_sort sort.Bool w x
bool_word sort.Bool w x is = refl
bool_word sort.Apart w x is = absurd (no_bool (big x) (big_is x) is)
bool_word t w x is = absurd is

pub address_word : (t : Sort) (w : ℕ) (x : Value) → IsAddress (of_sort t w x) → of_sort t w x ≡ value.Addr w
address_word sort.Addr w x is = refl
address_word sort.Apart w x is = absurd (no_address (big x) (big_is x) is)
address_word t w x is = absurd is

pub reference_word : (t : Sort) (w : ℕ) (x : Value) (left : List Value) → IsReference (of_sort t w x) → IsTopReference (of_sort t w x ∷ left) (reference_of t w) left
reference_word (sort.Entry table) w x left is = (refl, refl)
reference_word (sort.Tbe table) w x left is = (refl, refl)
reference_word sort.NoEntry w x left is = (refl, refl)
reference_word sort.NoTbe w x left is = (refl, refl)
reference_word sort.Apart w x left is = absurd (no_reference (big x) (big_is x) is)
reference_word t w x left is = absurd is

pub big_itself : (v : Value) → IsBig v → big v ≡ v
big_itself (value.Dest members) is = refl
big_itself (value.Block b) is = refl
big_itself v is = absurd is

-- What is kept apart.

pub padded : (xs : List Value) (k : ℕ) → value_at (xs ++ value.Bool false ∷ []) k ≡ value_at xs k
padded [] zero = refl
padded [] (suc k) = refl
padded (x ∷ xs) zero = refl
padded (x ∷ xs) (suc k) = padded xs k

pub set_there : (xs : List Value) (at : ℕ) (v : Value) → at < length xs → value_at (slice_set xs at v) at ≡ v
set_there [] at v h = absurd (omega (arith, h))
set_there (x ∷ xs) zero v h = refl
set_there (x ∷ xs) (suc at) v h = set_there xs at v (omega (arith, h))

pub set_elsewhere : (xs : List Value) (at : ℕ) (v : Value) (k : ℕ) → k ≢ at → value_at (slice_set xs at v) k ≡ value_at xs k
set_elsewhere [] at v k other = refl
set_elsewhere (x ∷ xs) zero v zero other = absurd (other refl)
set_elsewhere (x ∷ xs) zero v (suc k) other = refl
set_elsewhere (x ∷ xs) (suc at) v zero other = refl
set_elsewhere (x ∷ xs) (suc at) v (suc k) other = set_elsewhere xs at v k (λ e. other (ap suc e))
