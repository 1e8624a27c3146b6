-- Which machine a declaration is made in, by its number, and which declaration a name is that of. In an accepted protocol machines
-- have different names, and so have the declarations of a machine.
use Rattle.std.specs.Prelude.{◌⊎◌}
use Rattle.std.proofs.Common.{◌≡◌, ◌∙◌, ◌==◌, ◌++◌, ℕ, zero, suc, Bool, true, false, Option, None, Some, List, [], ◌∷◌, All, eqb-true, flat_map, map, position, slice_get, refl, sym, ap, subst, arith, inl, inr}
use Rattle.std.specs.List.{AllPairs}
use Rattle.std.specs.Str.{bytes_eq}
use Rattle.std.proofs.lemmas.Bool.{false_from_ne_true}
use Rattle.std.proofs.lemmas.List.Elements.{All-cons, All-head, All-nil, All-tail}
use Rattle.std.proofs.lemmas.List.Kept.{AllPairs-cons}
use Rattle.ruby_value.proofs.Ordered.{AllPairs-head, AllPairs-nil, AllPairs-tail}
use Rattle.ruby_symbols.specs.Types.{is_owner}
use Rattle.slicc_ast.specs.declared.tree.item.Tree.{Tree}
use Rattle.slicc_ast.specs.declared.tree.machine.Machine.{Machine}
use Rattle.slicc_ast.specs.declared.tree.name.Name.{Name}
use Rattle.slicc_plan.specs.AllRules.{IsAccepted}
use Rattle.slicc_plan.specs.Buffers.{is_same_scope}
use Rattle.slicc_plan.specs.Declarations.{Declaration, machine, Scope, everywhere, within, first_named, global_declarations, is_named, is_text, machine_declarations, machine_in, machines_of, name_of}
use Rattle.slicc_plan.specs.SymbolsOfTypes.{owner}
use Rattle.slicc_plan.specs.TypeNumbers.{ScopedDeclaration, made_in, made_with_its_own, scoped_declarations}
use Rattle.slicc_plan.proofs.Names.{Apart, ApartIn, machine_apart, scoped_apart}
use Rattle.slicc_plan.proofs.There.{There, found_passes, machine_there, there_found, there_later}
use Rattle.rules_symbols.proofs.Lists.{all_right, find_some, flat_there, only_one, pair_at, pairs_right, position_first, position_some, position_there, there_map}
use Rattle.rules_symbols.proofs.Types.{same_text, text_same}

pub text_turned : (a b : List ℕ) → bytes_eq a b ≡ bytes_eq b a
text_turned a b = by (bytes_eq a b) refl
  where
    by : (v : Bool) → bytes_eq a b ≡ v → v ≡ bytes_eq b a
    by true is = let same = text_same a b is in sym (ap (λ t. bytes_eq b t) same ∙ same_text b)
    by false is = sym (false_from_ne_true (bytes_eq b a) (λ other. let same = text_same b a other in cc (sym is ∙ ap (λ t. bytes_eq a t) same ∙ same_text a)))

-- Machines.

abbrev Differ : Machine → Machine → Type 0
Differ m n = bytes_eq m.name.text n.name.text ≡ true → ⊥

differ_after : (m : Machine) (ds : List Declaration) → All (ApartIn (made_in everywhere (machine m))) (flat_map made_with_its_own ds) → All (Differ m) (flat_map machine_in ds)
differ_after m [] all = All-nil (Differ m)
differ_after m (machine n ∷ ds) all =
    let own = map (made_in (within n)) (machine_declarations n) in
    let rest = flat_map made_with_its_own ds in
    let P = ApartIn (made_in everywhere (machine m)) in
    All-cons (Differ m) n (flat_map machine_in ds)
    (λ same. All-head P (made_in everywhere (machine n)) (own ++ rest) all refl m.name n.name refl refl same)
    (differ_after m ds (all_right P own rest (All-tail P (made_in everywhere (machine n)) (own ++ rest) all)))
differ_after m (d ∷ ds) all =
    differ_after m ds (All-tail (ApartIn (made_in everywhere (machine m))) (made_in everywhere d) (flat_map made_with_its_own ds) all)

differ_among : (ds : List Declaration) → AllPairs ApartIn (flat_map made_with_its_own ds) → AllPairs Differ (flat_map machine_in ds)
differ_among [] pairs = AllPairs-nil Differ
differ_among (machine n ∷ ds) pairs =
    let own = map (made_in (within n)) (machine_declarations n) in
    let rest = flat_map made_with_its_own ds in
    AllPairs-cons Differ n (flat_map machine_in ds)
    (differ_after n ds (all_right (ApartIn (made_in everywhere (machine n))) own rest (AllPairs-head ApartIn (made_in everywhere (machine n)) (own ++ rest) pairs)))
    (differ_among ds (pairs_right ApartIn own rest (AllPairs-tail ApartIn (made_in everywhere (machine n)) (own ++ rest) pairs)))
differ_among (d ∷ ds) pairs = differ_among ds (AllPairs-tail ApartIn (made_in everywhere d) (flat_map made_with_its_own ds) pairs)

-- where a declaration is made, if it is in a machine
made_by : (d : Declaration) (x : ScopedDeclaration) → There (made_with_its_own d) x → (x.scope ≡ everywhere) ⊎ ((n : Machine) × (d ≡ machine n) × (x.scope ≡ within n) × There (machine_declarations n) x.declaration)
made_by (machine n) x (zero, at) = let same : made_in everywhere (machine n) ≡ x = cc at in inl (ap (λ (y : ScopedDeclaration). y.scope) (sym same))
made_by (machine n) x (suc k, at) =
    let own = there_map (made_in (within n)) (machine_declarations n) x (k, at) in
    inr (n, refl, ap (λ (y : ScopedDeclaration). y.scope) own.2, subst (λ (d : Declaration). There (machine_declarations n) d) (ap (λ (y : ScopedDeclaration). y.declaration) (sym own.2)) own.1)
made_by d x (zero, at) = let same : made_in everywhere d ≡ x = cc at in inl (ap (λ (y : ScopedDeclaration). y.scope) (sym same))
made_by d x (suc k, at) = absurd (cc at)

machine_listed : (ds : List Declaration) (n : Machine) → There ds (machine n) → There (flat_map machine_in ds) n
machine_listed [] n there = absurd (cc there.1)
machine_listed (machine m ∷ ds) n (zero, at) = let same : m ≡ n = cc at in (0, ap (λ (l : Machine). Some l) same)
machine_listed (machine m ∷ ds) n (suc k, at) = there_later m n (flat_map machine_in ds) (machine_listed ds n (k, at))
machine_listed (d ∷ ds) n (zero, at) = by d at
  where
    by : (e : Declaration) → Some e ≡ Some (machine n) → There (machine_in e ++ flat_map machine_in ds) n
    by e same = let is : machine n ≡ e = cc same in subst (λ (f : Declaration). There (machine_in f ++ flat_map machine_in ds) n) is (0, refl)
machine_listed (d ∷ ds) n (suc k, at) = by d (machine_listed ds n (k, at))
  where
    by : (e : Declaration) → There (flat_map machine_in ds) n → There (machine_in e ++ flat_map machine_in ds) n
    by (machine m) rest = there_later m n (flat_map machine_in ds) rest
    by e rest = rest

module _ (trees : List Tree) where
  pub made_within : (x : ScopedDeclaration) → There (scoped_declarations trees) x → (x.scope ≡ everywhere) ⊎ ((n : Machine) × There (machines_of trees) n × (x.scope ≡ within n) × There (machine_declarations n) x.declaration)
  made_within x there =
      let from = flat_there made_with_its_own (global_declarations trees) x there in by from.0 from.1 (made_by from.0 x from.2)
    where
      by : (d : Declaration) → There (global_declarations trees) d → (x.scope ≡ everywhere) ⊎ ((n : Machine) × (d ≡ machine n) × (x.scope ≡ within n) × There (machine_declarations n) x.declaration)
          → (x.scope ≡ everywhere) ⊎ ((n : Machine) × There (machines_of trees) n × (x.scope ≡ within n) × There (machine_declarations n) x.declaration)
      by d at (inl right) = inl right
      by d at (inr own) =
          inr (own.0, machine_listed (global_declarations trees) own.0 (subst (λ (e : Declaration). There (global_declarations trees) e) own.1 at), own.2, own.3)

  module _ (accepted : IsAccepted trees) where
    machines_differ : AllPairs Differ (machines_of trees)
    machines_differ = differ_among (global_declarations trees) (scoped_apart trees accepted)

    pub machine_numbered : (k : ℕ) (m : Machine) → slice_get (machines_of trees) k ≡ Some m → position (λ (l : Machine). bytes_eq l.name.text m.name.text) (machines_of trees) ≡ Some k
    machine_numbered k m at =
        position_first (λ (l : Machine). bytes_eq l.name.text m.name.text) (machines_of trees) k m at (same_text m.name.text)
        (λ j l before is. false_from_ne_true (bytes_eq l.name.text m.name.text) (pair_at Differ (machines_of trees) j k l m machines_differ before is at))

    pub one_machine : (m n : Machine) → There (machines_of trees) m → There (machines_of trees) n → bytes_eq m.name.text n.name.text ≡ true → m ≡ n
    one_machine m n first second same =
        only_one Differ (machines_of trees) m n machines_differ first second (λ differ. differ same) (λ differ. differ (sym (text_turned m.name.text n.name.text) ∙ same))

    module _ (k : ℕ) (m : Machine) (at : slice_get (machines_of trees) k ≡ Some m) where
      -- a declaration is owned by a machine where it is made in it
      pub owned : (scope : Scope) → is_owner (owner trees scope) (Some k) ≡ is_same_scope (within m) scope
      owned everywhere = refl
      owned (within n) = by (bytes_eq m.name.text n.name.text) refl
        where
          place : List ℕ → Option ℕ
          place text = position (λ (l : Machine). bytes_eq l.name.text text) (machines_of trees)

          same_place : (o : Option ℕ) → o ≡ Some k → is_owner o (Some k) ≡ true
          same_place None is = absurd (cc is)
          same_place (Some j) is = let same : j ≡ k = cc is in grind arith

          other_place : (o : Option ℕ) → position (λ (l : Machine). bytes_eq l.name.text n.name.text) (machines_of trees) ≡ o → bytes_eq m.name.text n.name.text ≡ false → is_owner o (Some k) ≡ false
          other_place None found differ = refl
          other_place (Some j) found differ =
              false_from_ne_true (j == k)
              (λ is.
              let same : j ≡ k = eqb-true j k is in
              let there = position_there (λ (l : Machine). bytes_eq l.name.text n.name.text) (machines_of trees) j found in
              let one : Some there.0 ≡ Some m = sym there.1 ∙ ap (slice_get (machines_of trees)) same ∙ at in
              let it : there.0 ≡ m = cc one in
              cc (sym differ ∙ ap (λ (l : Machine). bytes_eq l.name.text n.name.text) (sym it) ∙ there.2))

          by : (b : Bool) → bytes_eq m.name.text n.name.text ≡ b → is_owner (owner trees (within n)) (Some k) ≡ b
          by true is =
              same_place (owner trees (within n))
              (ap (λ (text : List ℕ). position (λ (l : Machine). bytes_eq l.name.text text) (machines_of trees)) (sym (text_same m.name.text n.name.text is)) ∙ machine_numbered k m at)
          by false is = other_place (owner trees (within n)) refl is

      -- and then the machine declares it
      pub own_declared : (x : ScopedDeclaration) → There (scoped_declarations trees) x → is_same_scope (within m) x.scope ≡ true → There (machine_declarations m) x.declaration
      own_declared x there same = by (made_within x there)
        where
          by : (x.scope ≡ everywhere) ⊎ ((n : Machine) × There (machines_of trees) n × (x.scope ≡ within n) × There (machine_declarations n) x.declaration) → There (machine_declarations m) x.declaration
          by (inl right) = let wrong : false ≡ true = ap (is_same_scope (within m)) (sym right) ∙ same in absurd (cc wrong)
          by (inr own) =
              let named : bytes_eq m.name.text own.0.name.text ≡ true = ap (is_same_scope (within m)) (sym own.2) ∙ same in
              let one : m ≡ own.0 = one_machine m own.0 (k, at) own.1 named in
              subst (λ (l : Machine). There (machine_declarations l) x.declaration) (sym one) own.3

      -- a machine declares a name once
      pub named_once : (text : List ℕ) (d e : Declaration) → There (machine_declarations m) d → There (machine_declarations m) e → is_named text d ≡ true → is_named text e ≡ true → d ≡ e
      named_once text d e first second one other =
          only_one Apart (machine_declarations m) d e (machine_apart trees accepted m (machine_there (global_declarations trees) m (k, at))) first second (never d e one other) (never e d other one)
        where
          texts : (o : Option Name) → is_text text o ≡ true → (n : Name) × (o ≡ Some n) × (bytes_eq n.text text ≡ true)
          texts None is = absurd (cc is)
          texts (Some n) is = (n, refl, is)

          never : (a b : Declaration) → is_named text a ≡ true → is_named text b ≡ true → Apart a b → ⊥
          never a b is_a is_b apart =
              let x = texts (name_of a) is_a in
              let y = texts (name_of b) is_b in
              apart x.0 y.0 x.1 y.1 (ap (λ t. bytes_eq t y.0.text) (text_same x.0.text text x.2) ∙ sym (text_turned y.0.text text) ∙ y.2)

      pub first_is : (text : List ℕ) (d : Declaration) → There (machine_declarations m) d → is_named text d ≡ true → first_named text (machine_declarations m) ≡ Some d
      first_is text d there named =
          let found = find_some (is_named text) (machine_declarations m) d there named in
          let same = named_once text found.0 d (there_found (is_named text) (machine_declarations m) found.0 found.1) there (found_passes (is_named text) (machine_declarations m) found.0 found.1) named in
          found.1 ∙ ap Some same

  -- a declaration is owned by no machine where it is made right in the protocol
  pub unowned : (x : ScopedDeclaration) → There (scoped_declarations trees) x → is_owner (owner trees x.scope) None ≡ is_same_scope everywhere x.scope
  unowned x there = by (made_within x there)
    where
      some : (o : Option ℕ) (j : ℕ) → o ≡ Some j → is_owner o None ≡ false
      some None j is = absurd (cc is)
      some (Some i) j is = refl

      by : (x.scope ≡ everywhere) ⊎ ((n : Machine) × There (machines_of trees) n × (x.scope ≡ within n) × There (machine_declarations n) x.declaration) → is_owner (owner trees x.scope) None ≡ is_same_scope everywhere x.scope
      by (inl right) = let P : Scope → Type 0 = λ s. is_owner (owner trees s) None ≡ is_same_scope everywhere s in subst P (sym right) refl
      by (inr own) =
          let n = own.0 in
          let place = position_some (λ (l : Machine). bytes_eq l.name.text n.name.text) (machines_of trees) n own.1 (same_text n.name.text) in
          let P : Scope → Type 0 = λ s. is_owner (owner trees s) None ≡ is_same_scope everywhere s in
          subst P (sym own.2) (some (owner trees (within n)) place.0 place.1)
