-- Names as the entries of a map from texts to places.
use Rattle.std.proofs.Common.{◌≡◌, ℕ, Bool, true, false, cond, List, [], ◌∷◌, ◌++◌, map, Option, None, Some, is_some, refl, sym, ap, ◌∙◌}
use Rattle.std.proofs.lemmas.List.{map-append}
use Rattle.std.proofs.lemmas.List.Folds.{find-append}
use Rattle.std.specs.Cmp.Lexicographic.{nat_list_eq_equiv, bytes_decides}
use Rattle.std.specs.Map.{lookup}
use Rattle.std.specs.Option.{option_map, option_or}
use Rattle.std.specs.Str.{bytes_eq}
use Rattle.indexmap.specs.IndexMap.{insert_entry}
use Rattle.slicc_ast.specs.declared.tree.name.Name.{Name}
use Rattle.slicc_ast.specs.declared.tree.span.Span.{Span}
use Rattle.slicc_plan.specs.Prelude.{first_with}
use Rattle.slicc_names.specs.Prelude.{FindSame}

has_text : List ℕ → Name → Bool
has_text text n = bytes_eq n.text text

module _ {K : Type 0} (text : K → List ℕ) where
  abbrev pub names_at : List (K × Span) → List Name
  names_at es = map (λ (e : K × Span). record { text = text e.0; span = e.1 }) es

  place_by : (t : List ℕ) (k : K) (s : Span) (es : List (K × Span)) (b : Bool) → option_map (λ (n : Name). n.span) (first_with t (names_at es)) ≡ lookup (λ l. bytes_eq t (text l)) es
      → option_map (λ (n : Name). n.span) (cond b (Some (record { text = text k; span = s })) (first_with t (names_at es))) ≡ cond b (Some s) (lookup (λ l. bytes_eq t (text l)) es)
  place_by t k s es true rest = refl
  place_by t k s es false rest = rest

  pub place_at : (t : List ℕ) (es : List (K × Span)) → option_map (λ (n : Name). n.span) (first_with t (names_at es)) ≡ lookup (λ k. bytes_eq t (text k)) es
  place_at t [] = refl
  place_at t (e ∷ es) =
      ap (λ b. option_map (λ (n : Name). n.span) (cond b (Some (record { text = text e.0; span = e.1 })) (first_with t (names_at es)))) (nat_list_eq_equiv.symm (text e.0) t)
      ∙ place_by t e.0 e.1 es (bytes_eq t (text e.0)) (place_at t es)

  absent_by : (k l : K) (s t : Span) (es : List (K × Span)) (b : Bool) → b ≡ bytes_eq (text k) (text l) → cond b (Some t) (lookup (λ m. bytes_eq (text k) (text m)) es) ≡ None
      → (lookup (λ m. bytes_eq (text k) (text m)) es ≡ None → insert_entry (λ m n. bytes_eq (text m) (text n)) es k s ≡ es ++ (k, s) ∷ [])
      → cond b ((l, s) ∷ es) ((l, t) ∷ insert_entry (λ m n. bytes_eq (text m) (text n)) es k s) ≡ (l, t) ∷ (es ++ (k, s) ∷ [])
  absent_by k l s t es true e none rest = cc
  absent_by k l s t es false e none rest = ap (λ fs. (l, t) ∷ fs) (rest none)

  new_entry : (k : K) (s : Span) (es : List (K × Span)) → lookup (λ m. bytes_eq (text k) (text m)) es ≡ None → insert_entry (λ m n. bytes_eq (text m) (text n)) es k s ≡ es ++ (k, s) ∷ []
  new_entry k s [] none = refl
  new_entry k s (e ∷ es) none = absent_by k e.0 s e.1 es (bytes_eq (text k) (text e.0)) refl none (new_entry k s es)

  pub names_after : (k : K) (n : Name) (es : List (K × Span)) → text k ≡ n.text → lookup (λ m. bytes_eq n.text (text m)) es ≡ None
      → names_at (insert_entry (λ l m. bytes_eq (text l) (text m)) es k n.span) ≡ names_at es ++ n ∷ []
  names_after k n es e none =
      let here : lookup (λ m. bytes_eq (text k) (text m)) es ≡ None = ap (λ t. lookup (λ m. bytes_eq t (text m)) es) e ∙ none in
      ap names_at (new_entry k n.span es here) ∙ map-append (λ (f : K × Span). record { text = text f.0; span = f.1 }) es ((k, n.span) ∷ [])
      ∙ ap (λ t. names_at es ++ record { text = t; span = n.span } ∷ []) e

-- a name whose text is there already finds nothing new
found_by : (text : List ℕ) (n : Name) (ns : List Name) (b : Bool) (m : Name) → b ≡ bytes_eq n.text text → first_with n.text ns ≡ Some m → first_with text ns ≡ option_or (first_with text ns) (cond b (Some n) None)
found_by text n ns true m e some =
    let same : n.text ≡ text = (bytes_decides n.text text).0 (sym e) in
    let there : first_with text ns ≡ Some m = ap (λ t. first_with t ns) (sym same) ∙ some in
    rw there refl
found_by text n ns false m e some = by (first_with text ns)
  where
    by : (o : Option Name) → o ≡ option_or o None
    by None = refl
    by (Some x) = refl

pub known_name : (n : Name) (ns : List Name) (m : Name) → first_with n.text ns ≡ Some m → FindSame ns (ns ++ n ∷ [])
known_name n ns m some text =
    found_by text n ns (bytes_eq n.text text) m refl some ∙ sym (find-append (λ (x : Name). bytes_eq x.text text) ns (n ∷ []))

pub some_name : (o : Option Name) (s : Span) → option_map (λ (n : Name). n.span) o ≡ Some s → (m : Name) × (o ≡ Some m)
some_name None s e = cc
some_name (Some m) s e = (m, refl)

module _ {K : Type 0} (text : K → List ℕ) where
  -- what a look-up by a slice with this text answers
  pub found_place : (t u : List ℕ) (es : List (K × Span)) (ns : List Name) (r o : Option Span) → r ≡ o → o ≡ lookup (λ k. bytes_eq u (text k)) es → u ≡ t → names_at text es ≡ ns
      → r ≡ option_map (λ (n : Name). n.span) (first_with t ns)
  found_place t u es ns r o p q e view =
      p ∙ q ∙ ap (λ v. lookup (λ k. bytes_eq v (text k)) es) e ∙ sym (place_at text t es) ∙ ap (λ ms. option_map (λ (n : Name). n.span) (first_with t ms)) view

  pub known_place : (n : Name) (u : List ℕ) (es : List (K × Span)) (ns : List Name) (r o : Option Span) (b : Bool) → r ≡ o → o ≡ lookup (λ k. bytes_eq u (text k)) es → u ≡ n.text → names_at text es ≡ ns
      → b ≡ is_some r → b ≡ true → FindSame ns (ns ++ n ∷ [])
  known_place n u es ns None o b p q e view is there = cc
  known_place n u es ns (Some s) o b p q e view is there =
      let (m, some) = some_name (first_with n.text ns) s (sym (found_place n.text u es ns (Some s) o p q e view)) in known_name n ns m some

  pub no_place : (n : Name) (u : List ℕ) (es : List (K × Span)) (ns : List Name) (r o : Option Span) (b : Bool) → r ≡ o → o ≡ lookup (λ k. bytes_eq u (text k)) es → u ≡ n.text → names_at text es ≡ ns
      → b ≡ is_some r → b ≡ false → None ≡ option_map (λ (m : Name). m.span) (first_with n.text ns)
  no_place n u es ns None o b p q e view is new = found_place n.text u es ns None o p q e view
  no_place n u es ns (Some s) o b p q e view is new = cc

  pub new_place : (n : Name) (u : List ℕ) (es fs : List (K × Span)) (ns : List Name) (r o : Option Span) (b : Bool) (own : K) → r ≡ o → o ≡ lookup (λ k. bytes_eq u (text k)) es → u ≡ n.text → names_at text es ≡ ns
      → b ≡ is_some r → b ≡ false → text own ≡ n.text → fs ≡ insert_entry (λ l m. bytes_eq (text l) (text m)) es own n.span → FindSame (names_at text fs) (ns ++ n ∷ [])
  new_place n u es fs ns None o b own p q e view is new same after t =
      let none : lookup (λ k. bytes_eq n.text (text k)) es ≡ None = ap (λ v. lookup (λ k. bytes_eq v (text k)) es) (sym e) ∙ sym q ∙ sym p in
      ap (λ gs. first_with t (names_at text gs)) after ∙ ap (first_with t) (names_after text own n es same none) ∙ ap (λ ms. first_with t (ms ++ n ∷ [])) view
  new_place n u es fs ns (Some s) o b own p q e view is new same after t = cc
