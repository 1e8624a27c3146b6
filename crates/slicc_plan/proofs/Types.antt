-- In an accepted protocol a type is the only declaration of its name in its scope, so that what stands under its number is that
-- declaration's symbol.
use Rattle.std.proofs.Common.{◌≡◌, ◌++◌, ◌+◌, ◌&&◌, ◌∙◌, ℕ, zero, suc, Bool, true, false, cond, Option, None, Some, List, [], ◌∷◌, All, filter, find, flat_map, length, lt-ltb, map, not, position, slice_get, length-append, refl, sym, ap, arith, option_and_then, unwrap_or}
use Rattle.std.specs.List.{AllPairs, position_or_len}
use Rattle.std.specs.Option.{option_map}
use Rattle.std.specs.Str.{bytes_eq}
use Rattle.std.proofs.lemmas.Bool.{and_from, and_parts}
use Rattle.std.proofs.lemmas.List.Elements.{All-head, All-tail, All-weaker, filter_passes}
use Rattle.std.proofs.lemmas.List.Folds.{find_at}
use Rattle.std.proofs.lemmas.List.Kept.{AllPairs-filter}
use Rattle.std.proofs.lemmas.Option.{slice_get_within}
use Rattle.std.proofs.lemmas.Slice.Eq.{bytes_eq-Decides}
use Rattle.ruby_value.proofs.Ordered.{AllPairs-head, AllPairs-tail}
use Rattle.ruby_symbols.specs.declared.types.EnumerationSymbol.{EnumerationSymbol}
use Rattle.ruby_symbols.specs.declared.types.StructureSymbol.{StructureSymbol}
use Rattle.slicc_ast.specs.declared.tree.declaration.States.{States}
use Rattle.slicc_ast.specs.declared.tree.declaration.State.{State}
use Rattle.slicc_ast.specs.declared.tree.declaration.Structure.{Structure}
use Rattle.slicc_ast.specs.declared.tree.item.Tree.{Tree}
use Rattle.slicc_ast.specs.declared.tree.machine.Machine.{Machine}
use Rattle.slicc_ast.specs.declared.tree.name.Name.{Name}
use Rattle.slicc_plan.specs.declared.built_in.BuiltInType.{BuiltInType}
use Rattle.slicc_plan.specs.Prelude.{IsAccepted, is_same_known, is_same_scope, Declaration, states, Scope, everywhere, within, is_external, name_of, is_counted_structure, is_enumeration, number_of_found, enumeration_symbol, enumeration_symbols, field_symbols, owner, request_symbol, structure_symbol, structure_symbols, ScopedDeclaration, declared_enumerations, declared_number, declared_structures, declares, is_known_as, made_in, no_structure, own_default, scoped_declarations, structure_number, KnownType, enumerated, structured, declared_type, external_type, structure_type, table_named}
use Rattle.slicc_plan.specs.Declarations.{enumeration, structure}
use Rattle.slicc_plan.proofs.Names.{ApartIn, scoped_apart}
use Rattle.slicc_plan.proofs.There.{There, all_there, get_left, there_filtered}

-- The only one that passes a test is found by it.
module _ {X : Type 0} (R : X → X → Type 0) (p : X → Bool) where
  only_found : (xs : List X) (x : X) → AllPairs R xs → There xs x → p x ≡ true → ((y : X) → p y ≡ true → R y x → ⊥) → find p xs ≡ Some x
  only_found [] x apart there passes never = absurd (cc there.1)
  only_found (y ∷ ys) x apart (zero, at) passes never =
      let same : y ≡ x = cc at in ap (λ b. cond b (Some y) (find p ys)) (ap p same ∙ passes) ∙ ap Some same
  only_found (y ∷ ys) x apart (suc k, at) passes never =
      by (p y) refl (only_found ys x (AllPairs-tail R y ys apart) (k, at) passes never)
    where
      by : (b : Bool) → p y ≡ b → find p ys ≡ Some x → cond b (Some y) (find p ys) ≡ Some x
      by true is rest = absurd (never y is (all_there (R y) ys x (AllPairs-head R y ys apart) (k, at)))
      by false is rest = rest

-- Declarations of a name in a scope.

abbrev Declares : Scope → List ℕ → ScopedDeclaration → Type 0
Declares scope text x =
    (n : Name) × (name_of x.declaration ≡ Some n) × ((is_same_scope scope x.scope && bytes_eq text n.text) ≡ true)

same_text : (a b c : List ℕ) → bytes_eq a b ≡ true → bytes_eq a c ≡ true → bytes_eq b c ≡ true
same_text a b c first second =
    (bytes_eq-Decides b c).1 (sym ((bytes_eq-Decides a b).0 first) ∙ (bytes_eq-Decides a c).0 second)

same_scope : (a b c : Scope) → is_same_scope a b ≡ true → is_same_scope a c ≡ true → is_same_scope b c ≡ true
same_scope everywhere everywhere everywhere first second = refl
same_scope (within l) (within m) (within n) first second = same_text l.name.text m.name.text n.name.text first second
same_scope everywhere (within m) c first second = absurd (cc first)
same_scope (within l) everywhere c first second = absurd (cc first)
same_scope everywhere everywhere (within n) first second = absurd (cc second)
same_scope (within l) (within m) everywhere first second = absurd (cc second)

clash : (scope : Scope) (text : List ℕ) (x y : ScopedDeclaration) → Declares scope text x → Declares scope text y → ApartIn x y → ⊥
clash scope text x y (k, is_k, first) (n, is_n, second) apart =
    let a = and_parts (is_same_scope scope x.scope) (bytes_eq text k.text) first in
    let b = and_parts (is_same_scope scope y.scope) (bytes_eq text n.text) second in
    apart (same_scope scope x.scope y.scope a.0 b.0) k n is_k is_n (same_text text k.text n.text a.1 b.1)

-- a structure and an enumeration are declared as such
module _ (scope : Scope) (s : Structure) where
  declares_structure : (x : ScopedDeclaration) → declares (structured scope s) x ≡ true → Declares scope s.name.text x
  declares_structure x is = by x.declaration is
    where
      external : (u : Structure) (o : Option BuiltInType) → is_same_known (structured scope s) (external_type x.scope u o) ≡ true → (is_same_scope scope x.scope && bytes_eq s.name.text u.name.text) ≡ true
      external u None is = is
      external u (Some b) is = absurd (cc is)

      known : (u : Structure) (b : Bool) → is_same_known (structured scope s) (structure_type x.scope u b) ≡ true → (is_same_scope scope x.scope && bytes_eq s.name.text u.name.text) ≡ true
      known u true is = external u (table_named u.name.text) is
      known u false is = is

      by : (d : Declaration) → is_known_as (structured scope s) (declared_type x.scope d) ≡ true → (n : Name) × (name_of d ≡ Some n) × ((is_same_scope scope x.scope && bytes_eq s.name.text n.text) ≡ true)
      by (structure u) is = (u.name, refl, known u (is_external u) is)
      by (enumeration e) is = absurd (cc is)
      by (states d) is = absurd (cc is)
      by _ is = absurd (cc is)

module _ (scope : Scope) (text : List ℕ) (members : List (List ℕ)) where
  declares_enumeration : (x : ScopedDeclaration) → declares (enumerated scope text members) x ≡ true → Declares scope text x
  declares_enumeration x is = by x.declaration is
    where
      external : (u : Structure) (o : Option BuiltInType) → is_same_known (enumerated scope text members) (external_type x.scope u o) ≡ false
      external u None = refl
      external u (Some b) = refl

      known : (u : Structure) (b : Bool) → is_same_known (enumerated scope text members) (structure_type x.scope u b) ≡ false
      known u true = external u (table_named u.name.text)
      known u false = refl

      by : (d : Declaration) → is_known_as (enumerated scope text members) (declared_type x.scope d) ≡ true → (n : Name) × (name_of d ≡ Some n) × ((is_same_scope scope x.scope && bytes_eq text n.text) ≡ true)
      by (enumeration e) is = (e.name, refl, is)
      by (states d) is = (d.name, refl, is)
      by (structure u) is = absurd (cc (sym (known u (is_external u)) ∙ is))
      by _ is = absurd (cc is)

itself : (scope : Scope) (text : List ℕ) → (is_same_scope scope scope && bytes_eq text text) ≡ true
itself everywhere text = (bytes_eq-Decides text text).1 refl
itself (within m) text =
    and_from (bytes_eq m.name.text m.name.text) (bytes_eq text text) ((bytes_eq-Decides m.name.text m.name.text).1 refl) ((bytes_eq-Decides text text).1 refl)

-- What stands under a number.

-- one thing is made of each
abbrev One : {X Y : Type 0} → (X → List Y) → X → Type 0
One f x = length (f x) ≡ 1

pub made_at : {X Y : Type 0} (f : X → List Y) (xs : List X) (n : ℕ) (x : X) (y : Y) → All (One f) xs → slice_get xs n ≡ Some x → f x ≡ y ∷ [] → slice_get (flat_map f xs) n ≡ Some y
made_at f [] n x y one at made = absurd (cc at)
made_at f (z ∷ zs) zero x y one at made =
    let same : z ≡ x = cc at in ap (λ ys. slice_get (ys ++ flat_map f zs) 0) (ap f same ∙ made)
made_at {X} {Y} f (z ∷ zs) (suc n) x y one at made =
    by (f z) (All-head (One f) z zs one) (made_at f zs n x y (All-tail (One f) z zs one) at made)
  where
    by : (ys : List Y) → length ys ≡ 1 → slice_get (flat_map f zs) n ≡ Some y → slice_get (ys ++ flat_map f zs) (suc n) ≡ Some y
    by [] one rest = absurd (cc one)
    by (w ∷ []) one rest = rest
    by (w ∷ v ∷ ys) one rest = absurd (cc one)

pub as_many : {X Y : Type 0} (f : X → List Y) (xs : List X) → All (One f) xs → length (flat_map f xs) ≡ length xs
as_many f [] one = refl
as_many f (x ∷ xs) one =
    let long = length-append (f x) (flat_map f xs) in
    omega (arith, long, All-head (One f) x xs one, as_many f xs (All-tail (One f) x xs one))

record Stands {X Y : Type 0} (p : X → Bool) (f : X → List Y) (xs : List X) (y : Y) : Type 0 where
  number : ℕ
  first : position p xs ≡ Some number
  at : slice_get (flat_map f xs) number ≡ Some y

stands : {X Y : Type 0} (p : X → Bool) (f : X → List Y) (xs : List X) (x : X) (y : Y) → All (One f) xs → find p xs ≡ Some x → f x ≡ y ∷ [] → Stands p f xs y
stands p f xs x y one found made =
    let n = position_or_len p xs in
    let at : slice_get xs n ≡ Some x = sym (find_at p xs) ∙ found in
    record {
      number = n;
      first = ap (λ b. cond b (Some n) None) (lt-ltb n (length xs) (slice_get_within xs n x at));
      at = made_at f xs n x y one at made;
    }

module _ (trees : List Tree) where
  one_structure : (scope : Scope) (d : Declaration) → is_counted_structure d ≡ true → One (structure_symbol trees) (made_in scope d)
  one_structure scope (structure s) is = refl
  one_structure scope _ is = absurd (cc is)

  one_enumeration : (scope : Scope) (d : Declaration) → is_enumeration d ≡ true → One (enumeration_symbol trees) (made_in scope d)
  one_enumeration scope (enumeration e) is = refl
  one_enumeration scope (states d) is = refl
  one_enumeration scope _ is = absurd (cc is)

  pub each_structure : All (One (structure_symbol trees)) (declared_structures trees)
  each_structure =
      All-weaker (λ (x : ScopedDeclaration). is_counted_structure x.declaration ≡ true) (One (structure_symbol trees)) (λ x is. one_structure x.scope x.declaration is)
      (declared_structures trees) (filter_passes (λ (x : ScopedDeclaration). is_counted_structure x.declaration) (scoped_declarations trees))

  pub each_enumeration : All (One (enumeration_symbol trees)) (declared_enumerations trees)
  each_enumeration =
      All-weaker (λ (x : ScopedDeclaration). is_enumeration x.declaration ≡ true) (One (enumeration_symbol trees)) (λ x is. one_enumeration x.scope x.declaration is)
      (declared_enumerations trees) (filter_passes (λ (x : ScopedDeclaration). is_enumeration x.declaration) (scoped_declarations trees))

  module _ (accepted : IsAccepted trees) where
    found : (q : Declaration → Bool) (t : KnownType) (scope : Scope) (text : List ℕ) → ((y : ScopedDeclaration) → declares t y ≡ true → Declares scope text y) → (x : ScopedDeclaration)
        → There (filter (λ (y : ScopedDeclaration). q y.declaration) (scoped_declarations trees)) x → declares t x ≡ true → find (declares t) (filter (λ (y : ScopedDeclaration). q y.declaration) (scoped_declarations trees)) ≡ Some x
    found q t scope text each x there is =
        only_found ApartIn (declares t) (filter (λ (y : ScopedDeclaration). q y.declaration) (scoped_declarations trees)) x
        (AllPairs-filter ApartIn (λ (y : ScopedDeclaration). q y.declaration) (scoped_declarations trees) (scoped_apart trees accepted)) there is
        (λ y also apart. clash scope text y x (each y also) (each x is) apart)

    -- under the number of a structure stands its symbol
    pub structure_stands : (scope : Scope) (s : Structure) → There (scoped_declarations trees) (made_in scope (structure s)) → is_external s ≡ false
        → option_and_then (slice_get (structure_symbols trees)) (structure_number trees (structured scope s)) ≡ Some (record { name = s.name.text; machine = owner trees scope; fields = field_symbols trees scope s })
    structure_stands scope s there own =
        let t : KnownType = structured scope s in
        let x : ScopedDeclaration = made_in scope (structure s) in
        let symbol : StructureSymbol = record { name = s.name.text; machine = owner trees scope; fields = field_symbols trees scope s } in
        let itself_is : declares t x ≡ true = ap (λ b. is_same_known t (structure_type scope s b)) own ∙ itself scope s.name.text in
        let counted = there_filtered (λ (y : ScopedDeclaration). is_counted_structure y.declaration) (scoped_declarations trees) x there (ap not own) in
        let here = stands (declares t) (structure_symbol trees) (declared_structures trees) x symbol each_structure
        (found is_counted_structure t scope s.name.text (declares_structure scope s) x counted itself_is) refl in
        ap (option_and_then (slice_get (structure_symbols trees))) here.first
        ∙ get_left (flat_map (structure_symbol trees) (declared_structures trees)) (request_symbol ∷ []) here.number (slice_get_within (flat_map (structure_symbol trees) (declared_structures trees)) here.number symbol here.at) ∙ here.at

    -- and under that of an enumeration its own
    pub enumeration_stands : (scope : Scope) (d : Declaration) (text : List ℕ) (members others : List (List ℕ)) (symbol : EnumerationSymbol) → There (declared_enumerations trees) (made_in scope d)
        → declared_type scope d ≡ Some (enumerated scope text others) → enumeration_symbol trees (made_in scope d) ≡ symbol ∷ [] → option_and_then (slice_get (enumeration_symbols trees)) (declared_number trees (enumerated scope text members)) ≡ Some symbol
    enumeration_stands scope d text members others symbol there type made =
        let t : KnownType = enumerated scope text members in
        let here = stands (declares t) (enumeration_symbol trees) (declared_enumerations trees) (made_in scope d) symbol each_enumeration
        (found is_enumeration t scope text (declares_enumeration scope text members) (made_in scope d) there (ap (is_known_as t) type ∙ itself scope text)) made in
        let later : 4 + here.number ≡ suc (suc (suc (suc here.number))) = omega arith in
        ap (λ (o : Option ℕ). option_and_then (slice_get (enumeration_symbols trees)) (option_map (λ n. 4 + n) o)) here.first
        ∙ ap (slice_get (enumeration_symbols trees)) later ∙ here.at

    pub states_stand : (m : Machine) (d : States) → There (scoped_declarations trees) (made_in (within m) (states d))
        → option_map (λ (e : EnumerationSymbol). e.default) (slice_get (enumeration_symbols trees) (number_of_found trees m (Some (states d)))) ≡ Some (own_default (within m) (states d))
    states_stand m d there =
        let members : List (List ℕ) = map (λ (s : State). s.name.text) d.members in
        let symbol : EnumerationSymbol = record { name = d.name.text; machine = owner trees (within m); members = members; default = own_default (within m) (states d) } in
        by (declared_number trees (enumerated (within m) d.name.text members))
        (enumeration_stands (within m) (states d) d.name.text members members symbol (there_filtered (λ (y : ScopedDeclaration). is_enumeration y.declaration) (scoped_declarations trees) (made_in (within m) (states d)) there refl) refl refl)
      where
        by : {symbol : EnumerationSymbol} (o : Option ℕ) → option_and_then (slice_get (enumeration_symbols trees)) o ≡ Some symbol → option_map (λ (e : EnumerationSymbol). e.default) (slice_get (enumeration_symbols trees) (unwrap_or o no_structure)) ≡ Some symbol.default
        by None is = absurd (cc is)
        by (Some n) is = ap (option_map (λ (e : EnumerationSymbol). e.default)) is
