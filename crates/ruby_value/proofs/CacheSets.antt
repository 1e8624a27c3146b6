-- What an edit of one set leaves of the lines that belong there, and of the cache.
use Rattle.std.proofs.Common.{◌≡◌, ℕ, zero, suc, ◌+◌, ◌<◌, ◌≤◌, ◌%◌, Bool, true, false, cond, eqb, List, [], ◌∷◌, ◌++◌, length, get_or, set, replicate, Some, None, refl, sym, subst, inl, inr, arith, length-append}
use Rattle.std.specs.Option.{option_map, option_to_list}
use Rattle.std.specs.Map.{lookup, remove_entry, set_value}
use Rattle.std.proofs.Math.ListN.{length-set}
use Rattle.std.proofs.Common.{get_or-set_same, get_or-set_other}
use Rattle.std.proofs.lemmas.Bool.{eqb-true, eqb-false, ne_eqb, cases_eq}
use Rattle.std.proofs.lemmas.List.{append-nil}
use Rattle.std.proofs.lemmas.Map.{lookup-none, none_passes_from_lookup}
use Rattle.std.proofs.lemmas.Option.{unwrap_or-slice_get}
use Rattle.ruby_value.specs.declared.value.Value.{Value}
use Rattle.ruby_value.specs.Prelude.{AreLinesOf, Cache, Line, fields_of, HasLawfulSets, made_recent, set_of, with_fields, without_line}

module _ {X : Type 0} where
  -- no entry passes: neither the first nor a later one
  none_head : (test : ℕ → Bool) (x : ℕ × X) (xs : List (ℕ × X)) → lookup test (x ∷ xs) ≡ None → (test x.0 ≡ false) × (lookup test xs ≡ None)
  none_head test x xs none =
      let fails = none_passes_from_lookup test (x ∷ xs) none in
      (fails.0, lookup-none test xs fails.1)

  none_push : (test : ℕ → Bool) (xs : List (ℕ × X)) (y : ℕ × X) → lookup test xs ≡ None → test y.0 ≡ false → lookup test (xs ++ y ∷ []) ≡ None
  none_push test [] y none fails = rw fails refl
  none_push test (x ∷ xs) y none fails =
      let parts = none_head test x xs none in
      rw parts.0 (none_push test xs y parts.1 fails)

  none_removed : (test other : ℕ → Bool) (xs : List (ℕ × X)) → lookup test xs ≡ None → lookup test (remove_entry other xs) ≡ None
  none_removed test other [] none = refl
  none_removed test other (x ∷ xs) none =
      let parts = none_head test x xs none in
      elim (other x.0) as (λ b. lookup test (cond b xs (x ∷ remove_entry other xs)) ≡ None) [
        | true ↦ parts.1
        | false ↦ rw parts.0 (none_removed test other xs parts.1)
      ]

  none_written : (test other : ℕ → Bool) (xs : List (ℕ × X)) (w : X) → lookup test xs ≡ None → lookup test (set_value other xs w) ≡ None
  none_written test other [] w none = refl
  none_written test other (x ∷ xs) w none =
      let parts = none_head test x xs none in
      elim (other x.0) as (λ b. lookup test (cond b ((x.0, w) ∷ xs) (x ∷ set_value other xs w)) ≡ None) [
        | true ↦ rw parts.0 parts.1
        | false ↦ rw parts.0 (none_written test other xs w parts.1)
      ]

  pub length_removed : (test : ℕ → Bool) (xs : List (ℕ × X)) → length (remove_entry test xs) + length (option_to_list (lookup test xs)) ≡ length xs
  length_removed test [] = refl
  length_removed test (x ∷ xs) =
      elim (test x.0) as (λ b. length (cond b xs (x ∷ remove_entry test xs)) + length (option_to_list (cond b (Some x.1) (lookup test xs))) ≡ suc (length xs)) [
        | true ↦ omega arith
        | false ↦ omega (arith, length_removed test xs)
      ]

-- a line that isn't there goes to the end
pub lines_push : (sets place : ℕ) (lines : List Line) (line : ℕ) (f : List Value) → AreLinesOf sets place lines → line % sets ≡ place → fields_of lines line ≡ None → AreLinesOf sets place (lines ++ (line, f) ∷ [])
lines_push sets place [] line f all own none = (own, refl, tt)
lines_push sets place (l ∷ lines) line f all own none =
    let parts = none_head (λ x. eqb x line) l lines none in
    let other : eqb line l.0 ≡ false = ne_eqb line l.0 (λ same. eqb-false l.0 line parts.0 (sym same)) in
    (all.0, none_push (λ x. eqb x l.0) lines (line, f) all.1 other, lines_push sets place lines line f all.2 own parts.1)

pub lines_without : (sets place : ℕ) (lines : List Line) (line : ℕ) → AreLinesOf sets place lines → AreLinesOf sets place (without_line lines line)
lines_without sets place [] line all = tt
lines_without sets place (l ∷ lines) line all =
    elim (eqb l.0 line) as (λ b. AreLinesOf sets place (cond b lines (l ∷ without_line lines line))) [
      | true ↦ all.2
      | false ↦ (all.0, none_removed (λ x. eqb x l.0) (λ x. eqb x line) lines all.1, lines_without sets place lines line all.2)
    ]

-- once the line is taken out, it isn't there
none_without : (sets place : ℕ) (lines : List Line) (line : ℕ) → AreLinesOf sets place lines → fields_of (without_line lines line) line ≡ None
none_without sets place [] line all = refl
none_without sets place (l ∷ lines) line all =
    elim (eqb l.0 line) as (λ b. eqb l.0 line ≡ b → fields_of (cond b lines (l ∷ without_line lines line)) line ≡ None) [
      | true ↦ λ same. subst (λ x. fields_of lines x ≡ None) (eqb-true l.0 line same) all.1
      | false ↦ λ other. rw other (none_without sets place lines line all.2)
    ] refl

pub lines_with_fields : (sets place : ℕ) (lines : List Line) (line : ℕ) (f : List Value) → AreLinesOf sets place lines → AreLinesOf sets place (with_fields lines line f)
lines_with_fields sets place [] line f all = tt
lines_with_fields sets place (l ∷ lines) line f all =
    elim (eqb l.0 line) as (λ b. AreLinesOf sets place (cond b ((l.0, f) ∷ lines) (l ∷ with_fields lines line f))) [
      | true ↦ all
      | false ↦ (all.0, none_written (λ x. eqb x l.0) (λ x. eqb x line) lines f all.1, lines_with_fields sets place lines line f all.2)
    ]

pub lines_recent : (sets place : ℕ) (lines : List Line) (line : ℕ) → AreLinesOf sets place lines → line % sets ≡ place → AreLinesOf sets place (made_recent lines line)
lines_recent sets place lines line all own =
    elim (fields_of lines line) as (λ o. AreLinesOf sets place (without_line lines line ++ option_to_list (option_map (λ fields. (line, fields)) o))) [
      | None ↦ rw append-nil (lines_without sets place lines line all)
      | Some f ↦ lines_push sets place (without_line lines line) line f (lines_without sets place lines line all) own (none_without sets place lines line all)
    ]

pub length_recent : (lines : List Line) (line : ℕ) → length (made_recent lines line) ≡ length lines
length_recent lines line =
    let split = length_removed (λ x. eqb x line) lines in
    elim (fields_of lines line) as (λ o. length (without_line lines line) + length (option_to_list o) ≡ length lines → length (without_line lines line ++ option_to_list (option_map (λ fields. (line, fields)) o)) ≡ length lines) [
      | None ↦ λ e. rw append-nil (omega arith)
      | Some f ↦ λ e. rw length-append (omega arith)
    ] split

-- a set of a cache
pub set_is : (cache : Cache) (line : ℕ) → set_of cache line ≡ get_or cache.sets (line % length cache.sets) []
set_is cache line = unwrap_or-slice_get cache.sets (line % length cache.sets) []

-- the lines of a set, of which a cache knows how many there are and where they belong
pub set_lines : (cache : Cache) (line : ℕ) → HasLawfulSets cache → (length (set_of cache line) ≤ cache.ways) × AreLinesOf (length cache.sets) (line % length cache.sets) (set_of cache line)
unfolding HasLawfulSets
set_lines cache line ok = rw set_is (ok (line % length cache.sets))

-- one set is replaced by a list that may stand there
pub lawful_with_set : (cache : Cache) (place : ℕ) (lines : List Line) → HasLawfulSets cache → place < length cache.sets → length lines ≤ cache.ways → AreLinesOf (length cache.sets) place lines → HasLawfulSets (record { ways = cache.ways; sets = set cache.sets place lines })
unfolding HasLawfulSets
lawful_with_set cache place lines ok inside within own p =
    let same_length = length-set cache.sets place lines in
    elim (cases_eq p place) [
      | inl here ↦ rw (here, get_or-set_same, same_length) (within, own)
      | inr apart ↦ rw (get_or-set_other, same_length) (ok p)
    ]

no_lines : (n place : ℕ) → ◌≡◌ {A = List Line} (get_or {A = List Line} (replicate n []) place []) []
no_lines zero place = refl
no_lines (suc n) zero = refl
no_lines (suc n) (suc place) = no_lines n place

-- a new cache has no lines
pub lawful_empty : (ways sets : ℕ) → HasLawfulSets (record { ways = ways; sets = replicate sets [] })
unfolding HasLawfulSets
lawful_empty ways sets p = rw no_lines (omega arith, tt)
