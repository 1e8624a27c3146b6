-- The entries of an ordered map and of a hash table, seen as a finite map: what a look-up, an insert and a remove make of it.
use Rattle.std.proofs.Common.{◌≡◌, ℕ, ◌+◌, false, cond, eqb, List, [], ◌∷◌, ◌++◌, length, Option, Some, None, is_some, refl, sym, ap, ◌∙◌, arith}
use Rattle.std.specs.declared.cmp.Ordering.{Ordering}
use Rattle.std.specs.Ordering.{nat_cmp, eq_by_cmp}
use Rattle.std.specs.Cmp.{nat_cmp_total, unsigned_tied}
use Rattle.std.specs.List.{IsDistinct, AllByRecursion}
use Rattle.std.specs.Map.{lookup, keys_of}
use Rattle.std.specs.BTreeMap.{is_at}
use Rattle.std.specs.FinMap.{FinMap, get, insert, remove, len, from_entries, find, get-from_entries, get-insert, get-remove, same_map, nat_cmp-IsAntisymmetric, len-insert, len-empty}
use Rattle.std.proofs.lemmas.Bool.{eq-eqb, ne_eqb, cases_eq}
use Rattle.std.proofs.lemmas.Map.Keys.{IsDistinct-head, IsDistinct-tail}
use Rattle.std.proofs.Common.{inl, inr}
use Rattle.ruby_value.specs.Prelude.{with_all}

-- what a map of any order finds is what is looked up in its entries
pub find_is_lookup : {K X : Type 0} (cmp : K → K → Ordering) (es : List (K × X)) (q : K) → find cmp q es ≡ lookup (is_at (cmp q)) es
find_is_lookup cmp [] q = refl
find_is_lookup cmp (e ∷ es) q = ap (cond (eq_by_cmp cmp q e.0) (Some e.1)) (find_is_lookup cmp es q)

turned : (k q : ℕ) → eqb k q ≡ eqb q k
turned k q = elim (cases_eq k q) [
  | inl same ↦ eq-eqb k q same ∙ sym (eq-eqb q k (sym same))
  | inr apart ↦ ne_eqb k q apart ∙ sym (ne_eqb q k (λ same. apart (sym same)))
]

module _ {X : Type 0} where
  find_same : (es : List (ℕ × X)) (q : ℕ) → find nat_cmp q es ≡ lookup (eqb q) es
  find_same [] q = refl
  find_same (e ∷ es) q = ap (λ b. cond b (Some e.1) (find nat_cmp q es)) (unsigned_tied q e.0) ∙ ap (cond (eqb q e.0) (Some e.1)) (find_same es q)

  -- the finite map answers what the entries have
  pub get_entries : (es : List (ℕ × X)) (q : ℕ) → get (from_entries {R = nat_cmp} es) q ≡ lookup (eqb q) es
  get_entries es q = get-from_entries nat_cmp_total es q ∙ find_same es q

  -- the new entries have w at the key k, and what the old ones have at the others
  abbrev pub HasAt : List (ℕ × X) → List (ℕ × X) → ℕ → Option X → Type 0
  HasAt old new k w = (q : ℕ) → lookup (eqb q) new ≡ cond (eqb k q) w (lookup (eqb q) old)

  pub inserted : (old new : List (ℕ × X)) (k : ℕ) (v : X) → HasAt old new k (Some v) → from_entries {R = nat_cmp} new ≡ insert (from_entries old) k v
  inserted old new k v has =
      same_map nat_cmp_total nat_cmp-IsAntisymmetric _ _
      (λ q. get_entries new q ∙ has q ∙ ap (λ b. cond b (Some v) (lookup (eqb q) old)) (turned k q ∙ sym (unsigned_tied q k))
      ∙ ap (cond (eq_by_cmp nat_cmp q k) (Some v)) (sym (get_entries old q)) ∙ sym (get-insert nat_cmp_total (from_entries old) k v q))

  pub removed : (old new : List (ℕ × X)) (k : ℕ) → HasAt old new k None → from_entries {R = nat_cmp} new ≡ remove (from_entries old) k
  removed old new k has =
      same_map nat_cmp_total nat_cmp-IsAntisymmetric _ _
      (λ q. get_entries new q ∙ has q ∙ ap (λ b. cond b None (lookup (eqb q) old)) (turned k q ∙ sym (unsigned_tied q k))
      ∙ ap (cond (eq_by_cmp nat_cmp q k) None) (sym (get_entries old q)) ∙ sym (get-remove nat_cmp_total (from_entries old) k q))

  -- entries in another order are the same map
  pub reordered : (old new : List (ℕ × X)) → ((q : ℕ) → lookup (eqb q) new ≡ lookup (eqb q) old) → from_entries {R = nat_cmp} new ≡ from_entries old
  reordered old new same = same_map nat_cmp_total nat_cmp-IsAntisymmetric _ _ (λ q. get_entries new q ∙ same q ∙ sym (get_entries old q))

  absent : (k : ℕ) (es : List (ℕ × X)) → AllByRecursion (λ y. eqb k y ≡ false) (keys_of es) → lookup (eqb k) es ≡ None
  absent k [] all = refl
  absent k (e ∷ es) all = rw all.0 (absent k es all.1)

  -- keys that differ are as many as the map has
  pub len_of : (es : List (ℕ × X)) → IsDistinct eqb (keys_of es) → len (from_entries {R = nat_cmp} es) ≡ length es
  len_of [] apart = len-empty nat_cmp X
  len_of (e ∷ es) apart =
      let m = from_entries {R = nat_cmp} es in
      let none : get m e.0 ≡ None = get_entries es e.0 ∙ absent e.0 es (IsDistinct-head eqb e.0 (keys_of es) apart) in
      let rest : len m ≡ length es = len_of es (IsDistinct-tail eqb e.0 (keys_of es) apart) in
      len-insert nat_cmp_total m e.0 e.1 ∙ ap (λ (o : Option X). cond (is_some o) (len m) (len m + 1)) none ∙ (let plus : len m + 1 ≡ length (e ∷ es) = omega arith in plus)

module _ {X : Type 0} where
  with_all-push : (held : FinMap nat_cmp X) (entries : List (ℕ × X)) (e : ℕ × X) → with_all held (entries ++ e ∷ []) ≡ with_all (insert held e.0 e.1) entries
  with_all-push held [] e = refl
  with_all-push held (x ∷ entries) e = ap (λ m. insert m x.0 x.1) (with_all-push held entries e)

  -- the last of a list is put first
  pub last_first : (held after : FinMap nat_cmp X) (all rest : List (ℕ × X)) (e : ℕ × X) → after ≡ insert held e.0 e.1 → all ≡ rest ++ e ∷ [] → with_all after rest ≡ with_all held all
  last_first held after all rest e is parts = rw (is, parts) (sym (with_all-push held rest e))
