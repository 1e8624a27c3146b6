-- What a first token is, where it is one of some kinds or of others and not of the former, or is none of both.
use Rattle.std.proofs.Common.{◌≡◌, ℕ, ◌||◌, ◌==◌, true, false, Bool, List, [], ◌∷◌, ◌++◌, refl, sym}
use Rattle.std.proofs.lemmas.Bool.{false≢true}
use Rattle.slicc_ast.specs.Prelude.{has, is_ahead}

or_later : (a b c : Bool) → (a || b) ≡ true → (a || c) ≡ false → (b ≡ true) × (c ≡ false)
or_later true b c some absent_there = absurd (false≢true (sym absent_there))
or_later false b c some absent_there = (some, absent_there)

later_has : (kinds others : List ℕ) (kind : ℕ) → has (kinds ++ others) kind ≡ true → has kinds kind ≡ false → has others kind ≡ true
later_has [] others kind some absent_there = some
later_has (k ∷ kinds) others kind some absent_there =
    let parts = or_later (k == kind) (has (kinds ++ others) kind) (has kinds kind) some absent_there in
    later_has kinds others kind parts.0 parts.1

-- it is one of the others
pub later_kind : (kinds others : List ℕ) (tokens : List ℕ) → is_ahead (kinds ++ others) tokens ≡ true → is_ahead kinds tokens ≡ false → is_ahead others tokens ≡ true
later_kind kinds others [] some absent_there = absurd (false≢true some)
later_kind kinds others (kind ∷ tokens) some absent_there = later_has kinds others kind some absent_there

neither : (a b : Bool) → a ≡ false → b ≡ false → (a || b) ≡ false
neither false b one other = other
neither true b one other = one

first_not : (a b : Bool) → (a || b) ≡ false → (a ≡ false) × (b ≡ false)
first_not false b none = (refl, none)
first_not true b none = (none, absurd (false≢true (sym none)))

neither_has : (kinds others : List ℕ) (kind : ℕ) → has kinds kind ≡ false → has others kind ≡ false → has (kinds ++ others) kind ≡ false
neither_has [] others kind one other = other
neither_has (k ∷ kinds) others kind one other =
    let parts = first_not (k == kind) (has kinds kind) one in
    neither (k == kind) (has (kinds ++ others) kind) parts.0 (neither_has kinds others kind parts.1 other)

-- it is none of both
pub neither_kind : (kinds others : List ℕ) (tokens : List ℕ) → is_ahead kinds tokens ≡ false → is_ahead others tokens ≡ false → is_ahead (kinds ++ others) tokens ≡ false
neither_kind kinds others [] one other = refl
neither_kind kinds others (kind ∷ tokens) one other = neither_has kinds others kind one other
