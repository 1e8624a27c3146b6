-- Fields of equal kinds: what has the ones has the others.
use Rattle.std.proofs.Common.{◌≡◌, ℕ, true, List, [], ◌∷◌, subst}
use Rattle.std.proofs.lemmas.Bool.{and_from, and_parts, eqb-true}
use Rattle.ruby_value.specs.declared.kind.Kind.TheVariants as kind
use Rattle.ruby_value.specs.declared.kind.Kind.{Kind}
use Rattle.ruby_value.specs.declared.value.Value.TheVariants as value
use Rattle.ruby_value.specs.declared.value.Value.{Value}
use Rattle.ruby_value.specs.Prelude.{equal_kinds, has_kind, has_kinds, same_kinds}

enum_takes : (e m n : ℕ) (v : Value) → has_kind (kind.Enum e m) v ≡ true → has_kind (kind.Enum e n) v ≡ true
enum_takes e m n (value.Enum a b) is = is
enum_takes e m n _ is = absurd (cc is)

entry_takes : (s t : ℕ) (v : Value) → has_kind (kind.Entry s) v ≡ true → has_kind (kind.Entry t) v ≡ true
entry_takes s t (value.Entry r) is = is
entry_takes s t _ is = absurd (cc is)

tbe_takes : (s t : ℕ) (v : Value) → has_kind (kind.Tbe s) v ≡ true → has_kind (kind.Tbe t) v ≡ true
tbe_takes s t (value.Tbe r) is = is
tbe_takes s t _ is = absurd (cc is)

kind_takes : (a b : Kind) (v : Value) → equal_kinds a b ≡ true → has_kind a v ≡ true → has_kind b v ≡ true
kind_takes kind.Bool kind.Bool v same is = is
kind_takes kind.Int kind.Int v same is = is
kind_takes (kind.Enum e m) (kind.Enum f n) v same is = subst (λ (x : ℕ). has_kind (kind.Enum x n) v ≡ true) (eqb-true e f same) (enum_takes e m n v is)
kind_takes kind.Addr kind.Addr v same is = is
kind_takes kind.Machine kind.Machine v same is = is
kind_takes kind.Dest kind.Dest v same is = is
kind_takes kind.Block kind.Block v same is = is
kind_takes (kind.Entry s) (kind.Entry t) v same is = entry_takes s t v is
kind_takes (kind.Tbe s) (kind.Tbe t) v same is = tbe_takes s t v is
kind_takes _ _ v same is = absurd (cc same)

pub same_kinds_take : (as_kinds bs : List Kind) (vs : List Value) → same_kinds as_kinds bs ≡ true → has_kinds as_kinds vs ≡ true → has_kinds bs vs ≡ true
same_kinds_take [] [] vs same is = is
same_kinds_take [] (b ∷ bs) vs same is = absurd (cc same)
same_kinds_take (a ∷ rest) [] vs same is = absurd (cc same)
same_kinds_take (a ∷ rest) (b ∷ bs) [] same is = absurd (cc is)
same_kinds_take (a ∷ rest) (b ∷ bs) (v ∷ vs) same is =
    let kinds = and_parts (equal_kinds a b) (same_kinds rest bs) same in
    let values = and_parts (has_kind a v) (has_kinds rest vs) is in
    and_from (has_kind b v) (has_kinds bs vs) (kind_takes a b v kinds.0 values.0) (same_kinds_take rest bs vs kinds.1 values.1)
