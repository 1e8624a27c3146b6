-- Values of kinds, and lists of them: which kinds a value is of with one that it is of, and what is taken off, found and written.
use Rattle.std.proofs.Common.{◌≡◌, ℕ, zero, suc, ◌&&◌, true, false, Option, None, Some, List, [], ◌∷◌, ◌++◌, drop, length, map, reverse, is_some, slice_get, slice_set, refl, sym, ap, subst, ◌∙◌, inl, inr, nat_lt}
use Rattle.std.proofs.lemmas.Bool.{and_from, and_parts, cases_cond, eq-eqb, eqb-true}
use Rattle.std.proofs.lemmas.List.{reverse-append}
use Rattle.ruby_value.specs.declared.kind.Kind.{Kind}
use Rattle.ruby_value.specs.declared.kind.Kind.TheVariants as kind
use Rattle.ruby_value.specs.declared.value.Ref.{Ref}
use Rattle.ruby_value.specs.declared.value.Value.{Value}
use Rattle.ruby_value.specs.declared.value.Value.TheVariants as value
use Rattle.ruby_value.specs.Prelude.{default_value, equal_kinds, has_kind, has_kinds, is_reference, same_kinds, line_limit}
use Rattle.built_in_acts.specs.Prelude.{argument}
use Rattle.action_code.specs.declared.program.TableDecl.{TableDecl}
use Rattle.action_code.specs.Prelude.{bare, can_push, kind_of, kind_of_lines, kind_of_table, structure_of, with_given}
use Rattle.code_meaning.specs.Prelude.{are_of_kinds, has_lines_of, is_line_of, is_of_kind, of_one_sort}

-- Kinds.

pub bare_equal : (k l : Kind) → equal_kinds k l ≡ true → bare k ≡ bare l
bare_equal kind.Bool kind.Bool h = refl
bare_equal kind.Int kind.Int h = refl
bare_equal (kind.Enum a m) (kind.Enum b n) h = ap (λ e. kind.Enum e 0) (eqb-true a b h)
bare_equal kind.Addr kind.Addr h = refl
bare_equal kind.Machine kind.Machine h = refl
bare_equal kind.Dest kind.Dest h = refl
bare_equal kind.Block kind.Block h = refl
bare_equal (kind.Entry a) (kind.Entry b) h = ap kind.Entry (eqb-true a b h)
bare_equal (kind.Tbe a) (kind.Tbe b) h = ap kind.Tbe (eqb-true a b h)
bare_equal k l h = absurd (cc h)

pub equal_self : (k : Kind) → equal_kinds k k ≡ true
equal_self kind.Bool = refl
equal_self kind.Int = refl
equal_self (kind.Enum a m) = eq-eqb a a refl
equal_self kind.Addr = refl
equal_self kind.Machine = refl
equal_self kind.Dest = refl
equal_self kind.Block = refl
equal_self (kind.Entry a) = eq-eqb a a refl
equal_self (kind.Tbe a) = eq-eqb a a refl

structure_bare : (k : Kind) → structure_of (bare k) ≡ structure_of k
structure_bare kind.Bool = refl
structure_bare kind.Int = refl
structure_bare (kind.Enum a m) = refl
structure_bare kind.Addr = refl
structure_bare kind.Machine = refl
structure_bare kind.Dest = refl
structure_bare kind.Block = refl
structure_bare (kind.Entry a) = refl
structure_bare (kind.Tbe a) = refl

pub same_structure : (k l : Kind) → equal_kinds k l ≡ true → structure_of k ≡ structure_of l
same_structure k l h = sym (structure_bare k) ∙ ap structure_of (bare_equal k l h) ∙ structure_bare l

enum_bare : (a m : ℕ) (v : Value) → has_kind (kind.Enum a m) v ≡ has_kind (kind.Enum a 0) v
enum_bare a m (value.Bool x) = refl
enum_bare a m (value.Int x) = refl
enum_bare a m (value.Enum x y) = refl
enum_bare a m (value.Addr x) = refl
enum_bare a m (value.Machine x) = refl
enum_bare a m (value.Dest x) = refl
enum_bare a m (value.Block x) = refl
enum_bare a m (value.Entry x) = refl
enum_bare a m (value.Tbe x) = refl

module _ (tables : List TableDecl) where
  pub bare_is : (k : Kind) (v : Value) → is_of_kind tables k v ≡ is_of_kind tables (bare k) v
  bare_is kind.Bool v = refl
  bare_is kind.Int v = refl
  bare_is (kind.Enum a m) v = enum_bare a m v
  bare_is kind.Addr v = refl
  bare_is kind.Machine v = refl
  bare_is kind.Dest v = refl
  bare_is kind.Block v = refl
  bare_is (kind.Entry a) v = refl
  bare_is (kind.Tbe a) v = refl

  -- of equal kinds are the same values
  pub equal_is : (k l : Kind) (v : Value) → equal_kinds k l ≡ true → is_of_kind tables k v ≡ is_of_kind tables l v
  equal_is k l v h = bare_is k v ∙ ap (λ x. is_of_kind tables x v) (bare_equal k l h) ∙ sym (bare_is l v)

  pub of_equal : (k l : Kind) (v : Value) → equal_kinds k l ≡ true → is_of_kind tables k v ≡ true → is_of_kind tables l v ≡ true
  of_equal k l v h is = sym (equal_is k l v h) ∙ is

  -- where a kind isn't one of references, the sort of the value tells
  pub plain_is : (k : Kind) (v : Value) → is_reference k ≡ false → has_kind k v ≡ true → is_of_kind tables k v ≡ true
  plain_is kind.Bool v plain h = h
  plain_is kind.Int v plain h = h
  plain_is (kind.Enum a m) v plain h = h
  plain_is kind.Addr v plain h = h
  plain_is kind.Machine v plain h = h
  plain_is kind.Dest v plain h = h
  plain_is kind.Block v plain h = h
  plain_is (kind.Entry a) v plain h = absurd (cc plain)
  plain_is (kind.Tbe a) v plain h = absurd (cc plain)

  pub default_is : (k : Kind) → is_of_kind tables k (default_value k) ≡ true
  default_is kind.Bool = refl
  default_is kind.Int = refl
  default_is (kind.Enum a m) = eq-eqb a a refl
  default_is kind.Addr = refl
  default_is kind.Machine = refl
  default_is kind.Dest = refl
  default_is kind.Block = refl
  default_is (kind.Entry a) = refl
  default_is (kind.Tbe a) = refl

  -- references to the lines of a table
  pub table_entry : (t : TableDecl) (r : Option Ref) → is_of_kind tables (kind_of_table tables t) (value.Entry r) ≡ is_line_of tables (kind_of_table tables t) r
  table_entry t r =
      let P : Kind → Type 0 = λ k. is_of_kind tables k (value.Entry r) ≡ is_line_of tables k r in
      elim (cases_cond _ (kind.Tbe t.structure) (kind.Entry t.structure) (kind_of_table tables t) refl) [ inl e ↦ subst P (sym e) refl | inr e ↦ subst P (sym e) refl ]

  pub table_tbe : (t : TableDecl) (r : Option Ref) → is_of_kind tables (kind_of_table tables t) (value.Tbe r) ≡ is_line_of tables (kind_of_table tables t) r
  table_tbe t r =
      let P : Kind → Type 0 = λ k. is_of_kind tables k (value.Tbe r) ≡ is_line_of tables k r in
      elim (cases_cond _ (kind.Tbe t.structure) (kind.Entry t.structure) (kind_of_table tables t) refl) [ inl e ↦ subst P (sym e) refl | inr e ↦ subst P (sym e) refl ]

  -- a table's references are to its structure
  pub table_structure : (t : TableDecl) → structure_of (kind_of_table tables t) ≡ Some t.structure
  table_structure t =
      let P : Kind → Type 0 = λ k. structure_of k ≡ Some t.structure in
      elim (cases_cond _ (kind.Tbe t.structure) (kind.Entry t.structure) (kind_of_table tables t) refl) [ inl e ↦ subst P (sym e) refl | inr e ↦ subst P (sym e) refl ]

  pub line_there : (t : TableDecl) (r : Ref) → slice_get tables r.table ≡ Some t → nat_lt r.line line_limit ≡ true → is_line_of tables (kind_of_table tables t) (Some r) ≡ true
  line_there t r found line = and_from (has_lines_of tables (slice_get tables r.table) (kind_of_table tables t)) (nat_lt r.line line_limit) (ap (λ o. has_lines_of tables o (kind_of_table tables t)) found ∙ equal_self (kind_of_table tables t)) line

  pushed_entry : (n : ℕ) (r : Ref) (o : Option TableDecl) → slice_get tables r.table ≡ o → (is_some o && nat_lt r.line line_limit) ≡ true → is_of_kind tables (kind_of_lines tables o (kind.Entry n)) (value.Entry (Some r)) ≡ true
  pushed_entry n r None found h = absurd (cc h)
  pushed_entry n r (Some t) found h = table_entry t (Some r) ∙ line_there t r found h

  pushed_tbe : (n : ℕ) (r : Ref) (o : Option TableDecl) → slice_get tables r.table ≡ o → (is_some o && nat_lt r.line line_limit) ≡ true → is_of_kind tables (kind_of_lines tables o (kind.Tbe n)) (value.Entry (Some r)) ≡ true
  pushed_tbe n r None found h = absurd (cc h)
  pushed_tbe n r (Some t) found h = table_entry t (Some r) ∙ line_there t r found h

  -- what is pushed has the kind that verification gives it
  pub pushed_is : (v : Value) (n : ℕ) → can_push tables v ≡ true → is_of_kind tables (kind_of tables v n) (of_one_sort v) ≡ true
  pushed_is (value.Bool x) n h = refl
  pushed_is (value.Int x) n h = refl
  pushed_is (value.Enum x y) n h = eq-eqb x x refl
  pushed_is (value.Addr x) n h = refl
  pushed_is (value.Machine x) n h = refl
  pushed_is (value.Dest x) n h = refl
  pushed_is (value.Block x) n h = refl
  pushed_is (value.Entry None) n h = refl
  pushed_is (value.Entry (Some r)) n h = pushed_entry n r (slice_get tables r.table) refl h
  pushed_is (value.Tbe None) n h = refl
  pushed_is (value.Tbe (Some r)) n h = pushed_tbe n r (slice_get tables r.table) refl h

  -- Lists.

  pub drop_kinds : (n : ℕ) (ks : List Kind) (vs : List Value) → are_of_kinds tables ks vs ≡ true → are_of_kinds tables (drop n ks) (drop n vs) ≡ true
  drop_kinds zero ks vs h = h
  drop_kinds (suc n) [] [] h = refl
  drop_kinds (suc n) [] (v ∷ vs) h = absurd (cc h)
  drop_kinds (suc n) (k ∷ ks) [] h = absurd (cc h)
  drop_kinds (suc n) (k ∷ ks) (v ∷ vs) h = drop_kinds n ks vs (and_parts (is_of_kind tables k v) (are_of_kinds tables ks vs) h).1

  pub at_kinds : (ks : List Kind) (vs : List Value) (i : ℕ) (k : Kind) → are_of_kinds tables ks vs ≡ true → slice_get ks i ≡ Some k → is_of_kind tables k (argument vs i) ≡ true
  at_kinds [] vs i k h found = absurd (cc found)
  at_kinds (l ∷ ks) [] i k h found = absurd (cc h)
  at_kinds (l ∷ ks) (v ∷ vs) zero k h found =
      let same : l ≡ k = cc found in
      subst (λ x. is_of_kind tables x v ≡ true) same (and_parts (is_of_kind tables l v) (are_of_kinds tables ks vs) h).0
  at_kinds (l ∷ ks) (v ∷ vs) (suc i) k h found = at_kinds ks vs i k (and_parts (is_of_kind tables l v) (are_of_kinds tables ks vs) h).1 found

  pub found_kinds : (ks : List Kind) (vs : List Value) (i : ℕ) (k : Kind) (v : Value) → are_of_kinds tables ks vs ≡ true → slice_get ks i ≡ Some k → slice_get vs i ≡ Some v → is_of_kind tables k v ≡ true
  found_kinds [] vs i k v h found is = absurd (cc found)
  found_kinds (l ∷ ks) [] i k v h found is = absurd (cc h)
  found_kinds (l ∷ ks) (w ∷ vs) zero k v h found is =
      let same : l ≡ k = cc found in
      let it : w ≡ v = cc is in
      subst (λ x. is_of_kind tables k x ≡ true) it (subst (λ x. is_of_kind tables x w ≡ true) same (and_parts (is_of_kind tables l w) (are_of_kinds tables ks vs) h).0)
  found_kinds (l ∷ ks) (w ∷ vs) (suc i) k v h found is = found_kinds ks vs i k v (and_parts (is_of_kind tables l w) (are_of_kinds tables ks vs) h).1 found is

  pub set_kinds : (ks : List Kind) (vs : List Value) (i : ℕ) (k : Kind) (v : Value) → are_of_kinds tables ks vs ≡ true → slice_get ks i ≡ Some k → is_of_kind tables k v ≡ true → are_of_kinds tables ks (slice_set vs i v) ≡ true
  set_kinds [] vs i k v h found is = absurd (cc found)
  set_kinds (l ∷ ks) [] i k v h found is = absurd (cc h)
  set_kinds (l ∷ ks) (w ∷ vs) zero k v h found is =
      let same : k ≡ l = cc found in
      and_from (is_of_kind tables l v) (are_of_kinds tables ks vs) (subst (λ x. is_of_kind tables x v ≡ true) same is) (and_parts (is_of_kind tables l w) (are_of_kinds tables ks vs) h).1
  set_kinds (l ∷ ks) (w ∷ vs) (suc i) k v h found is =
      let parts = and_parts (is_of_kind tables l w) (are_of_kinds tables ks vs) h in
      and_from (is_of_kind tables l w) (are_of_kinds tables ks (slice_set vs i v)) parts.0 (set_kinds ks vs i k v parts.1 found is)

  pub more_kinds : (k : Kind) (ks : List Kind) (v : Value) (vs : List Value) → is_of_kind tables k v ≡ true → are_of_kinds tables ks vs ≡ true → are_of_kinds tables (k ∷ ks) (v ∷ vs) ≡ true
  more_kinds k ks v vs is h = and_from (is_of_kind tables k v) (are_of_kinds tables ks vs) is h

  -- with what is found, where it is
  pub given_kinds : (o : Option Kind) (ks : List Kind) (v : Value) (vs : List Value) → is_some o ≡ true → ((k : Kind) → o ≡ Some k → is_of_kind tables k v ≡ true) → are_of_kinds tables ks vs ≡ true
      → are_of_kinds tables (with_given o ks) (v ∷ vs) ≡ true
  given_kinds None ks v vs there is h = absurd (cc there)
  given_kinds (Some k) ks v vs there is h = more_kinds k ks v vs (is k refl) h

  pub same_are : (ks ls : List Kind) (vs : List Value) → same_kinds ks ls ≡ true → are_of_kinds tables ks vs ≡ are_of_kinds tables ls vs
  same_are [] [] vs same = refl
  same_are [] (l ∷ ls) vs same = absurd (cc same)
  same_are (k ∷ ks) [] vs same = absurd (cc same)
  same_are (k ∷ ks) (l ∷ ls) [] same = refl
  same_are (k ∷ ks) (l ∷ ls) (v ∷ vs) same =
      let both = and_parts (equal_kinds k l) (same_kinds ks ls) same in
      ap (λ b. b && are_of_kinds tables ks vs) (equal_is k l v both.0) ∙ ap (λ b. is_of_kind tables l v && b) (same_are ks ls vs both.1)

  pub append_kinds : (ks ls : List Kind) (vs ws : List Value) → are_of_kinds tables ks vs ≡ true → are_of_kinds tables ls ws ≡ true → are_of_kinds tables (ks ++ ls) (vs ++ ws) ≡ true
  append_kinds [] ls [] ws h more = more
  append_kinds [] ls (v ∷ vs) ws h more = absurd (cc h)
  append_kinds (k ∷ ks) ls [] ws h more = absurd (cc h)
  append_kinds (k ∷ ks) ls (v ∷ vs) ws h more =
      let parts = and_parts (is_of_kind tables k v) (are_of_kinds tables ks vs) h in
      more_kinds k (ks ++ ls) v (vs ++ ws) parts.0 (append_kinds ks ls vs ws parts.1 more)

  pub reverse_kinds : (ks : List Kind) (vs : List Value) → are_of_kinds tables ks vs ≡ true → are_of_kinds tables (reverse ks) (reverse vs) ≡ true
  reverse_kinds [] [] h = refl
  reverse_kinds [] (v ∷ vs) h = absurd (cc h)
  reverse_kinds (k ∷ ks) [] h = absurd (cc h)
  reverse_kinds (k ∷ ks) (v ∷ vs) h =
      let parts = and_parts (is_of_kind tables k v) (are_of_kinds tables ks vs) h in
      let last : are_of_kinds tables (k ∷ []) (v ∷ []) ≡ true = more_kinds k [] v [] parts.0 refl in
      subst (λ xs. are_of_kinds tables xs (reverse (v ∷ vs)) ≡ true) (sym (reverse-append (k ∷ []) ks))
      (subst (λ ys. are_of_kinds tables (reverse ks ++ k ∷ []) ys ≡ true) (sym (reverse-append (v ∷ []) vs))
      (append_kinds (reverse ks) (k ∷ []) (reverse vs) (v ∷ []) (reverse_kinds ks vs parts.1) last))

  pub defaults_are : (ks : List Kind) → are_of_kinds tables ks (map default_value ks) ≡ true
  defaults_are [] = refl
  defaults_are (k ∷ ks) = more_kinds k ks (default_value k) (map default_value ks) (default_is k) (defaults_are ks)

  -- of kinds that aren't ones of references
  pub plain_are : (ks : List Kind) (vs : List Value) → ((i : ℕ) (k : Kind) → slice_get ks i ≡ Some k → is_reference k ≡ false) → has_kinds ks vs ≡ true → are_of_kinds tables ks vs ≡ true
  plain_are [] [] plain h = refl
  plain_are [] (v ∷ vs) plain h = absurd (cc h)
  plain_are (k ∷ ks) [] plain h = absurd (cc h)
  plain_are (k ∷ ks) (v ∷ vs) plain h =
      let parts = and_parts (has_kind k v) (has_kinds ks vs) h in
      more_kinds k ks v vs (plain_is k v (plain 0 k refl) parts.0) (plain_are ks vs (λ i. plain (suc i)) parts.1)

  pub as_long : (ks : List Kind) (vs : List Value) → are_of_kinds tables ks vs ≡ true → length ks ≡ length vs
  as_long [] [] h = refl
  as_long [] (v ∷ vs) h = absurd (cc h)
  as_long (k ∷ ks) [] h = absurd (cc h)
  as_long (k ∷ ks) (v ∷ vs) h = ap suc (as_long ks vs (and_parts (is_of_kind tables k v) (are_of_kinds tables ks vs) h).1)
