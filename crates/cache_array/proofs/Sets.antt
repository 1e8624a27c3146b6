-- The set that a call on a cache takes is that of the call's line, and what holds of a cache after it was changed.
use Rattle.std.proofs.Common.{◌≡◌, ◌↔◌, ℕ, zero, suc, ◌<◌, ◌≤◌, ◌+◌, ◌%◌, List, [], ◌∷◌, Option, None, Some, Result, Ok, Err, OnOk, OnErr, IsOk, IsSome, IfSome, length, get_or, set, refl, sym, ap, ◌∙◌, subst, arith, bit_and}
use Rattle.std.proofs.lemmas.Result.{on_ok_weaker}
use Rattle.ruby_value.specs.declared.value.Value.{Value}
use Rattle.ruby_value.specs.Prelude.{fields_of, set_of, with_fields, with_set, Cache, Line, IsCache, Roomy}
use Rattle.std.proofs.Math.ListN.{length-set}
use Rattle.std.proofs.lemmas.List.{get_or-map, length-map, map-set}
use Rattle.std.proofs.lemmas.List.Elements.{All-set}
use Rattle.std.proofs.lemmas.Nat.{and_mask}
use Rattle.ruby_value.proofs.CacheEdits.{IsRead, of_set, put_back, cache_with_fields}
use Rattle.cache_array.specs.Prelude.{HasPlaces, Holds, IsMask, lines_of}

abbrev pub Order : Type 0
Order = Roomy (List Line)

abbrev pub cache_with : ℕ → List Order → Cache
cache_with ways sets = record { ways = ways; sets = lines_of sets }

-- the set that was read at the line's place
pub is_read : {seen : Cache} (ways : ℕ) (sets : List Order) {line at : ℕ} (s : Order) → cache_with ways sets ≡ seen → at ≡ line % length seen.sets → at < length seen.sets → s ≡ get_or sets at s → IsRead (cache_with ways sets) line at s.kept
is_read ways sets {line} {at} s same place within read =
    let f : Order → List Line = λ (o : Order). o.kept in
    let inside : at < length (lines_of sets) = subst (λ (k : Cache). at < length k.sets) (sym same) within in
    let here : at < length sets = subst (λ (n : ℕ). at < n) (length-map sets f) inside in
    record {
      place = subst (λ (k : Cache). at ≡ line % length k.sets) (sym same) place;
      inside = inside;
      read = ap f read ∙ sym (get_or-map f sets at s s.kept here);
    }

-- a set is put back, with as many places
pub holds_with : (ways : ℕ) (mask : Option ℕ) (sets : List Order) (at : ℕ) (old new : Order) → Holds ways mask sets → at < length sets → old ≡ get_or sets at old → old.room + length old.kept ≤ new.room + length new.kept
    → IsCache (record { ways = ways; sets = set (lines_of sets) at new.kept }) → Holds ways mask (set sets at new)
holds_with ways mask sets at old new holds here read more is =
    let f : Order → List Line = λ (o : Order). o.kept in
    let places : HasPlaces ways old = subst (HasPlaces ways) (sym read) (holds.places at old here) in
    record {
      is_cache = subst (λ (s : List (List Line)). IsCache (record { ways = ways; sets = s })) (sym (map-set f sets at new)) is;
      places = All-set (HasPlaces ways) sets at new (omega arith) holds.places;
      is_mask = rw length-set holds.is_mask;
    }

-- the lines of the sets, one of which was put back
pub lines_with : (sets : List Order) (at : ℕ) (new : Order) → lines_of (set sets at new) ≡ set (lines_of sets) at new.kept
lines_with sets at new = map-set (λ (o : Order). o.kept) sets at new

-- a mask finds the remainder
pub masked : (sets mask line : ℕ) → IsMask sets (Some mask) → bit_and line mask ≡ line % sets
masked sets mask line is = ap (bit_and line) is.1 ∙ and_mask line is.0 ∙ ap (λ (n : ℕ). line % n) (sym is.2)

set_own : {X : Type 0} (xs : List X) (at : ℕ) (d : X) → set xs at (get_or xs at d) ≡ xs
set_own [] zero d = refl
set_own [] (suc at) d = refl
set_own (x ∷ xs) zero d = refl
set_own (x ∷ xs) (suc at) d = ap (λ z. x ∷ z) (set_own xs at d)

-- the place is there
pub here_of : {seen : Cache} (ways : ℕ) (sets : List Order) {at : ℕ} → cache_with ways sets ≡ seen → at < length seen.sets → at < length sets
here_of ways sets {at} same within =
    subst (λ (n : ℕ). at < n) (length-map sets (λ (o : Order). o.kept)) (subst (λ (k : Cache). at < length k.sets) (sym same) within)

-- a set that keeps the same lines
unchanged : (sets : List Order) (at : ℕ) (old new : Order) → at < length sets → old ≡ get_or sets at old → new.kept ≡ old.kept → set (lines_of sets) at new.kept ≡ lines_of sets
unchanged sets at old new here read same =
    let f : Order → List Line = λ (o : Order). o.kept in
    ap (set (lines_of sets) at) (same ∙ ap f read ∙ sym (get_or-map f sets at old old.kept here)) ∙ set_own (lines_of sets) at old.kept

abbrev of_sets : ℕ → List (List Line) → Cache
of_sets ways sets = record { ways = ways; sets = sets }

module _ (ways : ℕ) (sets : List Order) (at : ℕ) (old new : Order) where
  -- what the cache is with the edited set
  pub put : {line : ℕ} → IsRead (cache_with ways sets) line at old.kept → (edit : List Line → List Line) → new.kept ≡ edit old.kept
      → ◌≡◌ {A = Cache} (cache_with ways (set sets at new)) (with_set (cache_with ways sets) line (edit (set_of (cache_with ways sets) line)))
  put {line} r edit is = ap (of_sets ways) (lines_with sets at new) ∙ put_back (cache_with ways sets) line at old.kept r edit new.kept is

  module _ (here : at < length sets) (read : old ≡ get_or sets at old) where
    pub put_same : new.kept ≡ old.kept → ◌≡◌ {A = Cache} (cache_with ways (set sets at new)) (cache_with ways sets)
    put_same same = ap (of_sets ways) (lines_with sets at new ∙ unchanged sets at old new here read same)

    pub holds_same : (mask : Option ℕ) → Holds ways mask sets → old.room + length old.kept ≤ new.room + length new.kept → new.kept ≡ old.kept → Holds ways mask (set sets at new)
    holds_same mask holds more same =
        holds_with ways mask sets at old new holds here read more
        (subst (λ (ls : List (List Line)). IsCache (of_sets ways ls)) (sym (unchanged sets at old new here read same)) holds.is_cache)

    -- a field of a line was written, or the line isn't there
    module _ {line : ℕ} (r : IsRead (cache_with ways sets) line at old.kept) (write : List Value → List Value) (answer : Result (Unit {0}) Value)
        (ok : OnOk answer (IfSome (fields_of old.kept line) (λ fs. new.kept ≡ with_fields old.kept line (write fs)))) (there : IsOk answer ↔ IsSome (fields_of old.kept line)) (refused : OnErr answer (new.kept ≡ old.kept)) where
      written_cache : IsCache (cache_with ways sets) → (o : Option (List Value)) → fields_of old.kept line ≡ o → IsSome o → IfSome o (λ fs. new.kept ≡ with_fields old.kept line (write fs)) → IsCache (of_sets ways (set (lines_of sets) at new.kept))
      written_cache is None none some here_is = absurd (cc some)
      written_cache is (Some fs) found some here_is = cache_with_fields (cache_with ways sets) line at old.kept r is new.kept (write fs) here_is

      cache_after : IsCache (cache_with ways sets) → (a : Result (Unit {0}) Value) → a ≡ answer → IsCache (of_sets ways (set (lines_of sets) at new.kept))
      cache_after is (Ok u) same =
          let K : Result (Unit {0}) Value → Type 0 = λ x. OnOk x (IfSome (fields_of old.kept line) (λ fs. new.kept ≡ with_fields old.kept line (write fs))) in
          let ok_here : K (Ok u) = subst K (sym same) ok in
          let some : IsSome (fields_of old.kept line) = there.0 (subst IsOk same refl) in
          written_cache is (fields_of old.kept line) refl some ok_here
      cache_after is (Err e) same =
          let K : Result (Unit {0}) Value → Type 0 = λ x. OnErr x (new.kept ≡ old.kept) in
          let kept_here : K (Err e) = subst K (sym same) refused in
          subst (λ (ls : List (List Line)). IsCache (of_sets ways ls)) (sym (unchanged sets at old new here read kept_here)) is

      pub holds_field : (mask : Option ℕ) → Holds ways mask sets → old.room + length old.kept ≤ new.room + length new.kept → Holds ways mask (set sets at new)
      holds_field mask holds more = holds_with ways mask sets at old new holds here read more (cache_after holds.is_cache answer refl)

      put_by : (o : Option (List Value)) → fields_of old.kept line ≡ o → IfSome o (λ fs. new.kept ≡ with_fields old.kept line (write fs))
          → IfSome (fields_of (set_of (cache_with ways sets) line) line) (λ fs. ◌≡◌ {A = Cache} (cache_with ways (set sets at new)) (with_set (cache_with ways sets) line (with_fields (set_of (cache_with ways sets) line) line (write fs))))
      put_by None none here_is = rw (of_set (cache_with ways sets) line at old.kept r (λ s. fields_of s line ≡ None) none) tt
      put_by (Some fs) found here_is =
          rw (of_set (cache_with ways sets) line at old.kept r (λ s. fields_of s line ≡ Some fs) found) (put r (λ s. with_fields s line (write fs)) here_is)

      pub put_field : OnOk answer (IfSome (fields_of (set_of (cache_with ways sets) line) line) (λ fs. ◌≡◌ {A = Cache} (cache_with ways (set sets at new)) (with_set (cache_with ways sets) line (with_fields (set_of (cache_with ways sets) line) line (write fs)))))
      put_field = on_ok_weaker answer (put_by (fields_of old.kept line) refl) ok

      pub put_refused : OnErr answer (◌≡◌ {A = Cache} (cache_with ways (set sets at new)) (cache_with ways sets))
      put_refused = on_err answer refused
        where
          on_err : (a : Result (Unit {0}) Value) → OnErr a (new.kept ≡ old.kept) → OnErr a (◌≡◌ {A = Cache} (cache_with ways (set sets at new)) (cache_with ways sets))
          on_err (Ok u) same = tt
          on_err (Err e) same = put_same same
