-- In an accepted protocol a type of values that a name stands for has a kind, and so has each type of lines; and a parameter or an
-- object of such a type stands under its name with that kind.
use Rattle.std.specs.Prelude.{◌⊎◌}
use Rattle.std.proofs.Common.{◌≡◌, ◌∙◌, ◌+◌, ◌++◌, ◌&&◌, ◌||◌, ℕ, zero, suc, Bool, true, false, cond, not, Option, None, Some, List, [], ◌∷◌, find, map, slice_get, refl, sym, ap, subst, option_and_then, inl, inr}
use Rattle.std.specs.List.{list_any}
use Rattle.std.specs.Option.{option_map, option_or}
use Rattle.std.specs.Str.{bytes_eq}
use Rattle.std.proofs.lemmas.List.Folds.{list_any-append}
use Rattle.ruby_value.specs.declared.kind.Kind.{Kind}
use Rattle.ruby_value.specs.declared.kind.Kind.TheVariants as kind
use Rattle.slicc_ast.specs.declared.tree.declaration.State.{State}
use Rattle.slicc_ast.specs.declared.tree.declaration.Structure.{Structure}
use Rattle.slicc_ast.specs.declared.tree.declaration.Symbol.{Symbol}
use Rattle.slicc_ast.specs.declared.tree.item.Tree.{Tree}
use Rattle.slicc_ast.specs.declared.tree.machine.Machine.{Machine}
use Rattle.slicc_plan.specs.declared.built_in.BuiltInType.{BuiltInType}
use Rattle.slicc_plan.specs.declared.built_in.BuiltInType.TheVariants.{Int, Cycles, Tick, Bool as Boolean, Address, MachineId, MachineType, NetDest, DataBlock, AccessPermission, RequestType, MessageSize}
use Rattle.slicc_plan.specs.Buffers.{is_same_known, is_same_scope, listed}
use Rattle.slicc_plan.specs.BuiltIn.{built_in_type, nature_of}
use Rattle.slicc_plan.specs.Declarations.{Declaration, machine, enumeration, structure, states, Scope, everywhere, within, first_named, global_declarations, is_external, is_named, machine_declarations, machines_of}
use Rattle.slicc_plan.specs.FieldTypes.{may_be_field}
use Rattle.slicc_plan.specs.Limits.{is_counted_structure, is_enumeration}
use Rattle.slicc_plan.specs.Machines.{directory_structure, entry_structure, is_directory_entry, is_entry, is_tbe, own_structures, structure_in, tbe_structure}
use Rattle.slicc_plan.specs.Meanings.{is_line, is_line_of, is_value}
use Rattle.slicc_plan.specs.TypeNumbers.{ScopedDeclaration, built_in_kind, declared_enumerations, declared_number, declared_structures, declares, default_member, is_its, is_known_as, made_in, made_with_its_own, reference_kind, scoped_declarations, structure_number, value_kind}
use Rattle.slicc_plan.specs.Types.{KnownType, built_in, enumerated, structured, declared_type, external_type, global_type, structure_type, table_named, type_in, type_of_found, type_where}
use Rattle.slicc_plan.proofs.There.{There, in_machine, machine_there, there_filtered, there_flat, there_found}
use Rattle.rules_symbols.proofs.Lists.{flat_there, position_some}
use Rattle.rules_symbols.proofs.Types.{known_alike, same_text, structures_alike}

-- A type is itself, and being the same goes both ways.

scope_itself : (scope : Scope) → is_same_scope scope scope ≡ true
scope_itself everywhere = refl
scope_itself (within m) = same_text m.name.text

pub enumeration_itself : (scope : Scope) (text : List ℕ) (members others : List (List ℕ)) → is_same_known (enumerated scope text members) (enumerated scope text others) ≡ true
enumeration_itself scope text members others = ap (λ v. v && bytes_eq text text) (scope_itself scope) ∙ same_text text

pub structure_itself : (scope : Scope) (s : Structure) → is_same_known (structured scope s) (structured scope s) ≡ true
structure_itself scope s = ap (λ v. v && bytes_eq s.name.text s.name.text) (scope_itself scope) ∙ same_text s.name.text

pub structure_turned : (a b : Scope) (s t : Structure) → is_same_known (structured a s) (structured b t) ≡ true → is_same_known (structured b t) (structured a s) ≡ true
structure_turned a b s t same = sym (known_alike (structured a s) (structured b t) same (structured a s)) ∙ structure_itself a s

-- Enumerations.

enumeration_numbered : (trees : List Tree) (scope : Scope) (d : Declaration) (text : List ℕ) (members : List (List ℕ)) → There (scoped_declarations trees) (made_in scope d) → is_enumeration d ≡ true → declared_type scope d ≡ Some (enumerated scope text members)
    → (n : ℕ) × (declared_number trees (enumerated scope text members) ≡ Some n)
enumeration_numbered trees scope d text members there is type =
    let t : KnownType = enumerated scope text members in
    let among = there_filtered (λ (x : ScopedDeclaration). is_enumeration x.declaration) (scoped_declarations trees) (made_in scope d) there is in
    let found = position_some (declares t) (declared_enumerations trees) (made_in scope d) among (ap (is_known_as t) type ∙ enumeration_itself scope text members members) in
    (4 + found.0, ap (option_map (λ n. 4 + n)) found.1)

right_in : (d : Declaration) → There (made_with_its_own d) (made_in everywhere d)
right_in (machine m) = (0, refl)
right_in d = (0, refl)

pub in_protocol : (trees : List Tree) (d : Declaration) → There (global_declarations trees) d → There (scoped_declarations trees) (made_in everywhere d)
in_protocol trees d there = there_flat made_with_its_own (global_declarations trees) d (made_in everywhere d) there (right_in d)

-- Structures of lines.

-- a structure that is found among a machine's own is declared by it, and isn't external
pub own_there : (m : Machine) (p : Structure → Bool) (s : Structure) → find p (own_structures m) ≡ Some s → There (machine_declarations m) (structure s) × (is_external s ≡ false)
own_there m p s found =
    let from = flat_there structure_in (machine_declarations m) s (there_found p (own_structures m) s found) in by from.0 from.1 from.2
  where
    of : (u : Structure) (b : Bool) → is_external u ≡ b → There (cond b [] (u ∷ [])) s → (u ≡ s) × (is_external u ≡ false)
    of u true is there = absurd (cc there.1)
    of u false is (zero, at) = (cc at, is)
    of u false is (suc k, at) = absurd (cc at)

    by : (d : Declaration) → There (machine_declarations m) d → There (structure_in d) s → There (machine_declarations m) (structure s) × (is_external s ≡ false)
    by (structure u) at there =
        let one = of u (is_external u) refl there in
        (subst (λ (v : Structure). There (machine_declarations m) (structure v)) one.0 at, ap is_external (sym one.0) ∙ one.1)
    by _ at there = absurd (cc there.1)

structure_numbered : (trees : List Tree) (m : Machine) (s : Structure) → There (scoped_declarations trees) (made_in (within m) (structure s)) → is_external s ≡ false → (n : ℕ) × (structure_number trees (structured (within m) s) ≡ Some n)
structure_numbered trees m s there own =
    let t : KnownType = structured (within m) s in
    let among = there_filtered (λ (x : ScopedDeclaration). is_counted_structure x.declaration) (scoped_declarations trees) (made_in (within m) (structure s)) there (ap not own) in
    position_some (declares t) (declared_structures trees) (made_in (within m) (structure s)) among
    (ap (λ b. is_same_known t (structure_type (within m) s b)) own ∙ structure_itself (within m) s)

-- a type of lines is that of caches, of directories or of TBE tables
abbrev pub IsOne : Machine → Option Structure → KnownType → Type 0
IsOne m own t = (s : Structure) × (own ≡ Some s) × (is_same_known (structured (within m) s) t ≡ true)

line_of_one : (m : Machine) (t : KnownType) (own : Option Structure) → is_line_of m (listed own) t ≡ true → IsOne m own t
line_of_one m t None is = absurd (cc is)
line_of_one m t (Some s) is = (s, refl, alone (is_same_known (structured (within m) s) t) is)
  where
    alone : (b : Bool) → (b || false) ≡ true → b ≡ true
    alone true e = refl
    alone false e = e

pub line_of_three : (m : Machine) (t : KnownType) → is_line m t ≡ true → IsOne m (tbe_structure m) t ⊎ (IsOne m (entry_structure m) t ⊎ IsOne m (directory_structure m) t)
line_of_three m t is =
    let p : Structure → Bool = λ (s : Structure). is_same_known (structured (within m) s) t in
    let e = listed (entry_structure m) in
    let d = listed (directory_structure m) in
    let b = listed (tbe_structure m) in
    by (list_any p e) refl (list_any p d) refl
    (sym (list_any-append p (e ++ d) b ∙ ap (λ v. v || list_any p b) (list_any-append p e d)) ∙ is)
  where
    by : (x : Bool) → is_line_of m (listed (entry_structure m)) t ≡ x → (y : Bool) → is_line_of m (listed (directory_structure m)) t ≡ y
        → ((is_line_of m (listed (entry_structure m)) t || is_line_of m (listed (directory_structure m)) t) || is_line_of m (listed (tbe_structure m)) t) ≡ true
        → IsOne m (tbe_structure m) t ⊎ (IsOne m (entry_structure m) t ⊎ IsOne m (directory_structure m) t)
    by true is_x y is_y all = inr (inl (line_of_one m t (entry_structure m) is_x))
    by false is_x true is_y all = inr (inr (line_of_one m t (directory_structure m) is_y))
    by false is_x false is_y all =
        let last : is_line_of m (listed (tbe_structure m)) t ≡ true = sym (ap (λ v. (v || is_line_of m (listed (directory_structure m)) t) || is_line_of m (listed (tbe_structure m)) t) is_x ∙ ap (λ v. v || is_line_of m (listed (tbe_structure m)) t) is_y) ∙ all in
        inl (line_of_one m t (tbe_structure m) last)

module _ (trees : List Tree) (k : ℕ) (m : Machine) (at : slice_get (machines_of trees) k ≡ Some m) where
  pub own_declared_there : (d : Declaration) → There (machine_declarations m) d → There (scoped_declarations trees) (made_in (within m) d)
  own_declared_there d there = in_machine trees m d (machine_there (global_declarations trees) m (k, at)) there

  -- each type of lines has a number and a kind
  pub line_numbered : (scope : Scope) (s : Structure) (own : Option Structure) (p : Structure → Bool) → find p (own_structures m) ≡ own → IsOne m own (structured scope s) → (n : ℕ) × (structure_number trees (structured scope s) ≡ Some n)
  line_numbered scope s own p found one =
      let there = own_there m p one.0 (found ∙ one.1) in
      let number = structure_numbered trees m one.0 (own_declared_there (structure one.0) there.0) there.1 in
      (number.0, sym (structures_alike trees (within m) scope one.0 s one.2) ∙ number.1)

  its : (scope : Scope) (s : Structure) (own : Option Structure) → IsOne m own (structured scope s) → is_its m scope s own ≡ true
  its scope s own one = ap (is_its m scope s) one.1 ∙ structure_turned (within m) scope one.0 s one.2

  line_valued : (scope : Scope) (s : Structure) (n : ℕ) → structure_number trees (structured scope s) ≡ Some n → ((is_its m scope s (tbe_structure m) || (is_its m scope s (entry_structure m) || is_its m scope s (directory_structure m))) ≡ true)
      → (kk : Kind) × (value_kind trees m (structured scope s) ≡ Some kk)
  line_valued scope s n number one =
      let here = by (is_its m scope s (tbe_structure m)) (is_its m scope s (entry_structure m) || is_its m scope s (directory_structure m)) one in
      (here.0, ap (option_and_then (reference_kind m scope s)) number ∙ here.1)
    where
      by : (a b : Bool) → (a || b) ≡ true → (kk : Kind) × (cond a (Some (kind.Tbe n)) (cond b (Some (kind.Entry n)) None) ≡ Some kk)
      by true b is = (kind.Tbe n, refl)
      by false true is = (kind.Entry n, refl)
      by false false is = absurd (cc is)

  pub line_kind_there : (scope : Scope) (s : Structure) → is_line m (structured scope s) ≡ true → (kk : Kind) × (value_kind trees m (structured scope s) ≡ Some kk)
  line_kind_there scope s is = by (line_of_three m (structured scope s) is)
    where
      second : (a b : Bool) → b ≡ true → (a || b) ≡ true
      second true b e = refl
      second false b e = e

      first : (a b : Bool) → a ≡ true → (a || b) ≡ true
      first true b e = refl
      first false b e = absurd (cc e)

      by : IsOne m (tbe_structure m) (structured scope s) ⊎ (IsOne m (entry_structure m) (structured scope s) ⊎ IsOne m (directory_structure m) (structured scope s)) → (kk : Kind) × (value_kind trees m (structured scope s) ≡ Some kk)
      by (inl one) =
          let number = line_numbered scope s (tbe_structure m) is_tbe refl one in
          line_valued scope s number.0 number.1 (first _ _ (its scope s (tbe_structure m) one))
      by (inr (inl one)) =
          let number = line_numbered scope s (entry_structure m) is_entry refl one in
          line_valued scope s number.0 number.1 (second _ _ (first _ _ (its scope s (entry_structure m) one)))
      by (inr (inr one)) =
          let number = line_numbered scope s (directory_structure m) is_directory_entry refl one in
          line_valued scope s number.0 number.1 (second _ _ (second _ _ (its scope s (directory_structure m) one)))

-- Values of built-in types.

pub built_in_valued : (b : BuiltInType) → may_be_field (nature_of b) ≡ true → (kk : Kind) × (built_in_kind b ≡ Some kk)
built_in_valued Int is = (kind.Int, refl)
built_in_valued Cycles is = (kind.Int, refl)
built_in_valued Tick is = (kind.Int, refl)
built_in_valued Boolean is = (kind.Bool, refl)
built_in_valued Address is = (kind.Addr, refl)
built_in_valued MachineId is = (kind.Machine, refl)
built_in_valued MachineType is = (kind.Enum 0 0, refl)
built_in_valued NetDest is = (kind.Dest, refl)
built_in_valued DataBlock is = (kind.Block, refl)
built_in_valued AccessPermission is = (kind.Enum 1 0, refl)
built_in_valued RequestType is = (kind.Enum 2 0, refl)
built_in_valued MessageSize is = (kind.Enum 3 0, refl)
built_in_valued _ is = absurd (cc is)

module _ (trees : List Tree) where
  -- an enumeration that a name stands for has a number
  abbrev pub IsNumbered : KnownType → Type 0
  IsNumbered (enumerated scope text members) = (n : ℕ) × (declared_number trees (enumerated scope text members) ≡ Some n)
  IsNumbered t = Unit {0}

  type_numbered : (scope : Scope) (d : Declaration) (t : KnownType) → There (scoped_declarations trees) (made_in scope d) → declared_type scope d ≡ Some t → IsNumbered t
  type_numbered scope (enumeration e) t there is =
      let members = map (λ (s : Symbol). s.name.text) e.members in
      let same : enumerated scope e.name.text members ≡ t = cc is in
      subst (λ (u : KnownType). IsNumbered u) same (enumeration_numbered trees scope (enumeration e) e.name.text members there refl refl)
  type_numbered scope (states e) t there is =
      let members = map (λ (s : State). s.name.text) e.members in
      let same : enumerated scope e.name.text members ≡ t = cc is in
      subst (λ (u : KnownType). IsNumbered u) same (enumeration_numbered trees scope (states e) e.name.text members there refl refl)
  type_numbered scope (structure s) t there is = known (is_external s) is
    where
      external : (o : Option BuiltInType) → Some (external_type scope s o) ≡ Some t → IsNumbered t
      external None same = let one : structured scope s ≡ t = cc same in subst (λ (u : KnownType). IsNumbered u) one tt
      external (Some b) same = let one : built_in b ≡ t = cc same in subst (λ (u : KnownType). IsNumbered u) one tt

      known : (v : Bool) → Some (structure_type scope s v) ≡ Some t → IsNumbered t
      known true same = external (table_named s.name.text) same
      known false same = let one : structured scope s ≡ t = cc same in subst (λ (u : KnownType). IsNumbered u) one tt
  type_numbered scope _ t there is = absurd (cc is)

  global_numbered : (text : List ℕ) (t : KnownType) → global_type trees text ≡ Some t → IsNumbered t
  global_numbered text t is = by (built_in_type text) is
    where
      first : (o : Option Declaration) → find (is_named text) (global_declarations trees) ≡ o → type_of_found everywhere o ≡ Some t → IsNumbered t
      first None found same = absurd (cc same)
      first (Some d) found same = type_numbered everywhere d t (in_protocol trees d (there_found (is_named text) (global_declarations trees) d found)) same

      by : (o : Option BuiltInType) → option_or (option_map built_in o) (type_of_found everywhere (first_named text (global_declarations trees))) ≡ Some t → IsNumbered t
      by None same = first (first_named text (global_declarations trees)) refl same
      by (Some b) same = let one : built_in b ≡ t = cc same in subst (λ (u : KnownType). IsNumbered u) one tt

  module _ (k : ℕ) (m : Machine) (at : slice_get (machines_of trees) k ≡ Some m) where
    pub named_numbered : (text : List ℕ) (t : KnownType) → type_in trees (within m) text ≡ Some t → IsNumbered t
    named_numbered text t is = by (first_named text (machine_declarations m)) refl is
      where
        by : (o : Option Declaration) → find (is_named text) (machine_declarations m) ≡ o → type_where trees (within m) text o ≡ Some t → IsNumbered t
        by None found same = global_numbered text t same
        by (Some d) found same = type_numbered (within m) d t (own_declared_there trees k m at d (there_found (is_named text) (machine_declarations m) d found)) same

    numbered_valued : (t : KnownType) → IsNumbered t → is_value m t ≡ true → (kk : Kind) × (value_kind trees m t ≡ Some kk)
    numbered_valued (built_in b) number is = built_in_valued b is
    numbered_valued (enumerated scope text members) number is =
        (kind.Enum number.0 (default_member trees (enumerated scope text members)), ap (option_map (λ n. kind.Enum n (default_member trees (enumerated scope text members)))) number.1)
    numbered_valued (structured scope s) number is = line_kind_there trees k m at scope s is

    -- a type of values that a name stands for has a kind, in the machine and right in the protocol
    pub kind_there : (text : List ℕ) (t : KnownType) → type_in trees (within m) text ≡ Some t → is_value m t ≡ true → (kk : Kind) × (value_kind trees m t ≡ Some kk)
    kind_there text t is valued = numbered_valued t (named_numbered text t is) valued

    pub global_kind_there : (text : List ℕ) (t : KnownType) → global_type trees text ≡ Some t → is_value m t ≡ true → (kk : Kind) × (value_kind trees m t ≡ Some kk)
    global_kind_there text t is valued = numbered_valued t (global_numbered text t is) valued
