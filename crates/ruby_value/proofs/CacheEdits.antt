-- A line's set is read, edited and put back: what the cache is then.
use Rattle.std.proofs.Common.{◌≡◌, ℕ, ◌<◌, ◌≤◌, ◌%◌, false, List, [], ◌∷◌, ◌++◌, length, get_or, set, replicate, Option, Some, None, is_some, eqb, refl, sym, ap, ◌∙◌, subst, arith, length-append}
use mathlib.Core.Bool.{false≢true}
use Rattle.std.proofs.Math.ListN.{length-set}
use Rattle.std.proofs.lemmas.List.{get_or_default, length-replicate}
use Rattle.std.proofs.lemmas.Map.{length-set_value}
use Rattle.ruby_value.specs.declared.value.Value.{Value}
use Rattle.ruby_value.specs.Prelude.{AreLinesOf, Cache, Line, fields_of, IsCache, made_recent, set_of, with_fields, with_set, without_line}
use Rattle.ruby_value.proofs.CacheSets.{lines_push, lines_without, lines_with_fields, lines_recent, length_removed, length_recent, set_is, set_lines, lawful_with_set, lawful_empty}

none_from : {X : Type 0} (o : Option X) → is_some o ≡ false → o ≡ None
none_from None is = refl
none_from (Some x) wrong = absurd (false≢true (sym wrong))

-- the list that was read is the line's set
pub record IsRead (cache : Cache) (line at : ℕ) (lines : List Line) : Type 0 where
  pub place : at ≡ line % length cache.sets
  pub inside : at < length cache.sets
  pub read : lines ≡ get_or cache.sets at lines

module _ (cache : Cache) (line at : ℕ) (lines : List Line) (r : IsRead cache line at lines) where
  pub read_set : lines ≡ set_of cache line
  read_set = r.read ∙ get_or_default cache.sets at lines [] r.inside ∙ ap (λ p. get_or cache.sets p []) r.place ∙ sym (set_is cache line)

  -- what is said of the list that was read holds of the line's set
  pub of_set : (P : List Line → Type 0) → P lines → P (set_of cache line)
  of_set P = subst P read_set

  -- the edited list is put back
  pub put_back : (edit : List Line → List Line) (new : List Line) → new ≡ edit lines → ◌≡◌ {A = Cache} (record { ways = cache.ways; sets = set cache.sets at new }) (with_set cache line (edit (set_of cache line)))
  put_back edit new is =
      let edited : new ≡ edit (set_of cache line) = is ∙ ap edit read_set in
      ap (λ p. record { ways = cache.ways; sets = set cache.sets p new }) r.place ∙ ap (with_set cache line) edited

  module _ (ok : IsCache cache) where
    within : length lines ≤ cache.ways
    within = rw read_set (set_lines cache line ok.lawful_sets).0

    own : AreLinesOf (length cache.sets) (line % length cache.sets) lines
    own = rw read_set (set_lines cache line ok.lawful_sets).1

    edited : (new : List Line) → length new ≤ cache.ways → AreLinesOf (length cache.sets) (line % length cache.sets) new → IsCache (record { ways = cache.ways; sets = set cache.sets at new })
    edited new fits lawful =
        record {
          some_ways = ok.some_ways;
          some_sets = rw length-set ok.some_sets;
          lawful_sets = lawful_with_set cache at new ok.lawful_sets r.inside fits (subst (λ p. AreLinesOf (length cache.sets) p new) (sym r.place) lawful);
        }

    pub cache_without : (new : List Line) → new ≡ without_line lines line → IsCache (record { ways = cache.ways; sets = set cache.sets at new })
    cache_without new is = rw is (edited _ (omega (arith, within, length_removed (λ l. eqb l line) lines)) (lines_without _ _ lines line own))

    pub cache_recent : (new : List Line) → new ≡ made_recent lines line → IsCache (record { ways = cache.ways; sets = set cache.sets at new })
    cache_recent new is = rw is (edited _ (omega (arith, within, length_recent lines line)) (lines_recent _ _ lines line own refl))

    pub cache_with_fields : (new : List Line) (f : List Value) → new ≡ with_fields lines line f → IsCache (record { ways = cache.ways; sets = set cache.sets at new })
    cache_with_fields new f is = rw is (edited _ (omega (arith, within, length-set_value (λ l. eqb l line) lines f)) (lines_with_fields _ _ lines line f own))

    pub cache_push : (new : List Line) (f : List Value) → is_some (fields_of (set_of cache line) line) ≡ false → length (set_of cache line) < cache.ways → new ≡ lines ++ (line, f) ∷ [] → IsCache (record { ways = cache.ways; sets = set cache.sets at new })
    cache_push new f absent room is =
        let none = subst (λ s. fields_of s line ≡ None) (sym read_set) (none_from _ absent) in
        let free : length lines < cache.ways = rw read_set room in
        rw is (edited _ (rw length-append (omega arith)) (lines_push _ _ lines line f own refl none))

-- a new cache
pub empty_cache : (ways sets : ℕ) → 0 < ways → 0 < sets → IsCache (record { ways = ways; sets = replicate sets [] })
empty_cache ways sets some_ways some_sets =
    record { some_ways = some_ways; some_sets = rw length-replicate some_sets; lawful_sets = lawful_empty ways sets }
