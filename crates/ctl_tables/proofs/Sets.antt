-- What an edit of a set of a cache leaves of the fields of each line.
use Rattle.std.proofs.Common.{◌≡◌, ◌≢◌, ℕ, ◌%◌, ◌<◌, Bool, true, false, cond, eqb, List, [], ◌∷◌, ◌++◌, length, get_or, set, Option, None, Some, refl, sym, ap, ◌∙◌, inl, inr, arith, get_or-set_same, get_or-set_other}
use Rattle.std.proofs.lemmas.Bool.{cases_eq, cond_both, eq-eqb, ne_eqb}
use Rattle.std.proofs.lemmas.List.{append-nil, length-set}
use Rattle.std.specs.Option.{option_map, option_to_list}
use Rattle.ruby_value.specs.declared.value.Value.{Value}
use Rattle.ruby_value.specs.Prelude.{AreLinesOf, Cache, Line, fields_of, IsCache, made_recent, set_of, with_fields, with_set, without_line}
use Rattle.ruby_value.proofs.CacheSets.{set_is}

-- what is under a line, where `w` is under the one that was edited
abbrev pub AtLine : ℕ → ℕ → Option (List Value) → Option (List Value) → Option (List Value) → Type 0
AtLine at line w old new = new ≡ cond (eqb line at) w old

same_both : (b : Bool) → ◌≡◌ {A = Option (List Value)} None (cond b None None)
same_both b = cond_both b None None (λ o. None ≡ o) (λ _. refl) (λ _. refl)

pub written_at : (lines : List Line) (at line : ℕ) (f : List Value) → AtLine at line (option_map (λ _. f) (fields_of lines line)) (fields_of lines line) (fields_of (with_fields lines at f) line)
written_at [] at line f = same_both (eqb line at)
written_at (x ∷ rest) at line f = elim (cases_eq x.0 at) [
  | inl here ↦ elim (cases_eq x.0 line) [
    | inl found ↦
        let a = eq-eqb x.0 at here in
        let b = eq-eqb x.0 line found in
        let c : eqb line at ≡ true = eq-eqb line at (sym found ∙ here) in
        simp (a, b, c)
    | inr apart ↦
        let a = eq-eqb x.0 at here in
        let b = ne_eqb x.0 line apart in
        let c : eqb line at ≡ false = ne_eqb line at (λ e. apart (here ∙ sym e)) in
        simp (a, b, c)
  ]
  | inr other ↦ elim (cases_eq x.0 line) [
    | inl found ↦
        let a = ne_eqb x.0 at other in
        let b = eq-eqb x.0 line found in
        let c : eqb line at ≡ false = ne_eqb line at (λ e. other (found ∙ e)) in
        simp (a, b, c)
    | inr apart ↦
        let a = ne_eqb x.0 at other in
        let b = ne_eqb x.0 line apart in
        simp (a, b) (written_at rest at line f)
  ]
]

pub removed_at : (sets place : ℕ) (lines : List Line) (at line : ℕ) → AreLinesOf sets place lines → AtLine at line None (fields_of lines line) (fields_of (without_line lines at) line)
removed_at sets place [] at line own = same_both (eqb line at)
removed_at sets place (x ∷ rest) at line own = elim (cases_eq x.0 at) [
  | inl here ↦ elim (cases_eq x.0 line) [
    | inl found ↦
        let a = eq-eqb x.0 at here in
        let c : eqb line at ≡ true = eq-eqb line at (sym found ∙ here) in
        let gone : fields_of rest line ≡ None = ap (fields_of rest) (sym found) ∙ own.1 in
        simp (a, c) gone
    | inr apart ↦
        let a = eq-eqb x.0 at here in
        let b = ne_eqb x.0 line apart in
        let c : eqb line at ≡ false = ne_eqb line at (λ e. apart (here ∙ sym e)) in
        simp (a, b, c)
  ]
  | inr other ↦ elim (cases_eq x.0 line) [
    | inl found ↦
        let a = ne_eqb x.0 at other in
        let b = eq-eqb x.0 line found in
        let c : eqb line at ≡ false = ne_eqb line at (λ e. other (found ∙ e)) in
        simp (a, b, c)
    | inr apart ↦
        let a = ne_eqb x.0 at other in
        let b = ne_eqb x.0 line apart in
        simp (a, b) (removed_at sets place rest at line own.2)
  ]
]

pub pushed_at : (lines : List Line) (at line : ℕ) (f : List Value) → fields_of lines at ≡ None → AtLine at line (Some f) (fields_of lines line) (fields_of (lines ++ (at, f) ∷ []) line)
pushed_at [] at line f none = elim (cases_eq at line) [
  | inl same ↦
      let a = eq-eqb at line same in
      let b = eq-eqb line at (sym same) in
      simp (a, b)
  | inr apart ↦
      let a = ne_eqb at line apart in
      let b : eqb line at ≡ false = ne_eqb line at (λ e. apart (sym e)) in
      simp (a, b)
]
pushed_at (x ∷ rest) at line f none = elim (cases_eq x.0 at) [
  | inl here ↦
      let wrong : Some x.1 ≡ None = simp (eq-eqb x.0 at here) at none in
      absurd (cc)
  | inr other ↦
      let no : fields_of rest at ≡ None = simp (ne_eqb x.0 at other) at none in
      elim (cases_eq x.0 line) [
        | inl found ↦
            let b = eq-eqb x.0 line found in
            let c : eqb line at ≡ false = ne_eqb line at (λ e. other (found ∙ e)) in
            simp (b, c)
        | inr apart ↦
            let b = ne_eqb x.0 line apart in
            simp b (pushed_at rest at line f no)
      ]
]

recent_by : (sets place : ℕ) (lines : List Line) (at line : ℕ) → AreLinesOf sets place lines → (o : Option (List Value)) → fields_of lines at ≡ o → fields_of (without_line lines at ++ option_to_list (option_map (λ f. (at, f)) o)) line ≡ fields_of lines line
recent_by sets place lines at line own None is = rw append-nil (elim (cases_eq line at) [
  | inl same ↦
      let gone = removed_at sets place lines at line own in
      let c = eq-eqb line at same in
      let now : fields_of (without_line lines at) line ≡ None = simp c at gone in
      now ∙ sym (ap (fields_of lines) same ∙ is)
  | inr apart ↦
      let gone = removed_at sets place lines at line own in
      let c = ne_eqb line at apart in
      simp c at gone
])
recent_by sets place lines at line own (Some f) is =
    let gone = removed_at sets place lines at at own in
    let none : fields_of (without_line lines at) at ≡ None = simp (eq-eqb at at refl) at gone in
    let back = pushed_at (without_line lines at) at line f none in
    elim (cases_eq line at) [
      | inl same ↦
          let c = eq-eqb line at same in
          let now : fields_of (without_line lines at ++ (at, f) ∷ []) line ≡ Some f = simp c at back in
          now ∙ sym (ap (fields_of lines) same ∙ is)
      | inr apart ↦
          let c = ne_eqb line at apart in
          let rest = removed_at sets place lines at line own in
          let now : fields_of (without_line lines at ++ (at, f) ∷ []) line ≡ fields_of (without_line lines at) line = simp c at back in
          now ∙ (simp c at rest)
    ]

pub recent_at : (sets place : ℕ) (lines : List Line) (at line : ℕ) → AreLinesOf sets place lines → fields_of (made_recent lines at) line ≡ fields_of lines line
recent_at sets place lines at line own = recent_by sets place lines at line own (fields_of lines at) refl

-- an edit of a line's set, of which each line of that set is told, does so to each line of the cache
module _ (cache : Cache) (at : ℕ) (ok : IsCache cache) (new : List Line) (line : ℕ) where
  abbrev place : ℕ → ℕ
  place l = l % length cache.sets

  reads : set_of (with_set cache at new) line ≡ get_or (set cache.sets (place at) new) (place line) []
  reads = set_is (with_set cache at new) line ∙ ap (λ k. get_or (set cache.sets (place at) new) (line % k) []) (length-set cache.sets (place at) new)

  inside : place at < length cache.sets
  inside = let some = ok.some_sets in omega arith

  -- a line of the same set is read from the edited list, and one of another set where it was
  pub same_set : place line ≡ place at → set_of (with_set cache at new) line ≡ new
  same_set here = reads ∙ ap (λ p. get_or (set cache.sets (place at) new) p []) here ∙ get_or-set_same cache.sets (place at) new [] inside

  pub one_set : place line ≡ place at → set_of cache line ≡ set_of cache at
  one_set here = set_is cache line ∙ ap (λ p. get_or cache.sets p []) here ∙ sym (set_is cache at)

  pub other_set : place line ≢ place at → set_of (with_set cache at new) line ≡ set_of cache line
  other_set apart = reads ∙ get_or-set_other cache.sets (place at) (place line) new [] apart ∙ sym (set_is cache line)

  pub edited_at : (w : Option (List Value)) → AtLine at line w (fields_of (set_of cache at) line) (fields_of new line) → AtLine at line w (fields_of (set_of cache line) line) (fields_of (set_of (with_set cache at new) line) line)
  edited_at w edit = elim (cases_eq (place line) (place at)) [
    | inl here ↦ ap (λ s. fields_of s line) (same_set here) ∙ edit ∙ ap (λ s. cond (eqb line at) w (fields_of s line)) (sym (one_set here))
    | inr apart ↦
        let other : eqb line at ≡ false = ne_eqb line at (λ e. apart (ap place e)) in
        let old : fields_of (set_of (with_set cache at new) line) line ≡ fields_of (set_of cache line) line = ap (λ s. fields_of s line) (other_set apart) in
        rw other old
  ]
