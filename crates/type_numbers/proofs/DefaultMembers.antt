-- The default member of a type is that of the enumeration at its place.
use Rattle.std.proofs.Common.{◌≡◌, ◌∙◌, ℕ, Bool, Option, None, Some, List, ap, length, ltb, map, refl, sym}
use Rattle.std.specs.Prelude.{find, position, slice_get, unwrap_or}
use Rattle.std.specs.List.{position_or_len}
use Rattle.std.specs.Option.{option_map}
use Rattle.std.proofs.lemmas.List.Folds.{find_at}
use Rattle.std.proofs.lemmas.Option.{cond_some, slice_get-map}
use Rattle.slicc_ast.specs.declared.tree.item.Tree.{Tree}
use Rattle.slicc_plan.specs.Prelude.{ScopedDeclaration, declared_enumerations, declares, default_found, default_member, KnownType}
use Rattle.type_numbers.specs.Prelude.{default_of}

mapped_there : {X : Type 0} (p : X → Bool) (f : X → ℕ) (xs : List X) (n : ℕ) → position p xs ≡ Some n → option_map f (find p xs) ≡ slice_get (map f xs) n
mapped_there p f xs n is =
    let long : position_or_len p xs ≡ n = (cond_some (ltb (position_or_len p xs) (length xs)) (position_or_len p xs) n is).1 in
    ap (option_map f) (find_at p xs ∙ ap (slice_get xs) long) ∙ sym (slice_get-map f xs n)

default_is : (o : Option ScopedDeclaration) → default_found o ≡ unwrap_or (option_map default_of o) 0
default_is None = refl
default_is (Some d) = refl

pub default_there : (trees : List Tree) (t : KnownType) (n : ℕ) → position (declares t) (declared_enumerations trees) ≡ Some n → default_member trees t ≡ unwrap_or (slice_get (map default_of (declared_enumerations trees)) n) 0
default_there trees t n is =
    default_is (find (declares t) (declared_enumerations trees))
    ∙ ap (λ o. unwrap_or o 0) (mapped_there (declares t) default_of (declared_enumerations trees) n is)
