-- Types that agree are known alike, and have one kind in a machine.
use Rattle.std.proofs.Common.{◌≡◌, ◌∙◌, ◌&&◌, ◌||◌, ◌+◌, ℕ, Bool, true, false, cond, Option, None, Some, List, map, find, position, slice_get, eqb-true, refl, sym, ap, option_and_then}
use Rattle.std.specs.Option.{option_map}
use Rattle.std.specs.Str.{bytes_eq}
use Rattle.std.proofs.lemmas.Bool.{and_parts}
use Rattle.std.proofs.lemmas.Slice.Eq.{bytes_eq-Decides}
use mathlib.Core.Path.{fun_ext}
use Rattle.ruby_value.specs.declared.kind.Kind.TheVariants as kind
use Rattle.slicc_ast.specs.declared.tree.declaration.Structure.{Structure}
use Rattle.slicc_ast.specs.declared.tree.item.Tree.{Tree}
use Rattle.slicc_ast.specs.declared.tree.machine.Machine.{Machine}
use Rattle.slicc_plan.specs.declared.built_in.BuiltInType.{BuiltInType}
use Rattle.slicc_plan.specs.declared.built_in.BuiltInType.TheVariants.{Int, Cycles, Tick, Bool as Boolean, Address, MachineId, MachineType, NetDest, DataBlock, AccessPermission, RequestType, MessageSize, Request, AbstractEntry, Void, Cache, Directory, TbeTable, Sequencer, Buffer}
use Rattle.slicc_plan.specs.BuiltIn.{NamedType, built_in_types, is_same_type, type_number}
use Rattle.slicc_plan.specs.Buffers.{is_same_known, is_same_scope}
use Rattle.slicc_plan.specs.Declarations.{Scope, everywhere, within}
use Rattle.slicc_plan.specs.Machines.{directory_structure, entry_structure, tbe_structure}
use Rattle.slicc_plan.specs.Meanings.{agree, is_number}
use Rattle.slicc_plan.specs.TypeNumbers.{ScopedDeclaration, built_in_kind, declared_enumerations, declared_number, declared_structures, declares, default_found, default_member, is_its, is_known_as, reference_kind, structure_number, value_kind}
use Rattle.slicc_plan.specs.Types.{KnownType, built_in, enumerated, structured, declared_type, nature_in}

pub text_same : (a b : List ℕ) → bytes_eq a b ≡ true → a ≡ b
text_same a b is = (bytes_eq-Decides a b).0 is

pub same_text : (a : List ℕ) → bytes_eq a a ≡ true
same_text a = (bytes_eq-Decides a a).1 refl

-- The built-in types.

of_number : (b : BuiltInType) → slice_get (map (λ (t : NamedType). t.meaning) built_in_types) (type_number b) ≡ Some b
of_number Int = refl
of_number Cycles = refl
of_number Tick = refl
of_number Boolean = refl
of_number Address = refl
of_number MachineId = refl
of_number MachineType = refl
of_number NetDest = refl
of_number DataBlock = refl
of_number AccessPermission = refl
of_number RequestType = refl
of_number MessageSize = refl
of_number Request = refl
of_number AbstractEntry = refl
of_number Void = refl
of_number Cache = refl
of_number Directory = refl
of_number TbeTable = refl
of_number Sequencer = refl
of_number Buffer = refl

pub built_in_same : (b c : BuiltInType) → is_same_type b c ≡ true → b ≡ c
built_in_same b c is =
    let one : type_number b ≡ type_number c = eqb-true (type_number b) (type_number c) is in
    let both : Some b ≡ Some c = sym (of_number b) ∙ ap (slice_get (map (λ (t : NamedType). t.meaning) built_in_types)) one ∙ of_number c in
    cc both

-- Being the same type.

pub scopes_alike : (a b c : Scope) → is_same_scope a b ≡ true → is_same_scope a c ≡ is_same_scope b c
scopes_alike everywhere everywhere c is = refl
scopes_alike (within l) (within m) everywhere is = refl
scopes_alike (within l) (within m) (within n) is = ap (λ t. bytes_eq t n.name.text) (text_same l.name.text m.name.text is)
scopes_alike everywhere (within m) c is = absurd (cc is)
scopes_alike (within l) everywhere c is = absurd (cc is)

named_alike : (a b : Scope) (s t : List ℕ) → (is_same_scope a b && bytes_eq s t) ≡ true → (c : Scope) (u : List ℕ) → (is_same_scope a c && bytes_eq s u) ≡ (is_same_scope b c && bytes_eq t u)
named_alike a b s t is c u =
    let parts = and_parts (is_same_scope a b) (bytes_eq s t) is in
    ap (λ v. v && bytes_eq s u) (scopes_alike a b c parts.0) ∙ ap (λ v. is_same_scope b c && bytes_eq v u) (text_same s t parts.1)

pub known_alike : (t u : KnownType) → is_same_known t u ≡ true → (x : KnownType) → is_same_known t x ≡ is_same_known u x
known_alike (built_in b) (built_in c) is x = ap (λ d. is_same_known (built_in d) x) (built_in_same b c is)
known_alike (enumerated a s members) (enumerated b t others) is (built_in d) = refl
known_alike (enumerated a s members) (enumerated b t others) is (enumerated c u symbols) = named_alike a b s t is c u
known_alike (enumerated a s members) (enumerated b t others) is (structured c u) = refl
known_alike (structured a s) (structured b t) is (built_in d) = refl
known_alike (structured a s) (structured b t) is (enumerated c u symbols) = refl
known_alike (structured a s) (structured b t) is (structured c u) = named_alike a b s.name.text t.name.text is c u.name.text
known_alike (built_in b) (enumerated c u symbols) is x = absurd (cc is)
known_alike (built_in b) (structured c u) is x = absurd (cc is)
known_alike (enumerated a s members) (built_in c) is x = absurd (cc is)
known_alike (enumerated a s members) (structured c u) is x = absurd (cc is)
known_alike (structured a s) (built_in c) is x = absurd (cc is)
known_alike (structured a s) (enumerated c u symbols) is x = absurd (cc is)

pub declares_alike : (t u : KnownType) → is_same_known t u ≡ true → (d : ScopedDeclaration) → declares t d ≡ declares u d
declares_alike t u is d = by (declared_type d.scope d.declaration)
  where
    by : (o : Option KnownType) → is_known_as t o ≡ is_known_as u o
    by None = refl
    by (Some x) = known_alike t u is x

declares_one : (t u : KnownType) → is_same_known t u ≡ true → declares t ≡ declares u
declares_one t u is = fun_ext (declares_alike t u is)

-- Numbers and kinds.

pub enumerations_alike : (trees : List Tree) (t u : KnownType) → is_same_known t u ≡ true → declared_number trees t ≡ declared_number trees u
enumerations_alike trees t u is =
    ap (λ p. option_map (λ n. 4 + n) (position p (declared_enumerations trees))) (declares_one t u is)

pub structures_alike : (trees : List Tree) (a b : Scope) (s t : Structure) → is_same_known (structured a s) (structured b t) ≡ true → structure_number trees (structured a s) ≡ structure_number trees (structured b t)
structures_alike trees a b s t is =
    ap (λ p. position p (declared_structures trees)) (declares_one (structured a s) (structured b t) is)

its_alike : (m : Machine) (a b : Scope) (s t : Structure) → is_same_known (structured a s) (structured b t) ≡ true → (own : Option Structure) → is_its m a s own ≡ is_its m b t own
its_alike m a b s t is None = refl
its_alike m a b s t is (Some own) = known_alike (structured a s) (structured b t) is (structured (within m) own)

references_alike : (m : Machine) (a b : Scope) (s t : Structure) → is_same_known (structured a s) (structured b t) ≡ true → (n : ℕ) → reference_kind m a s n ≡ reference_kind m b t n
references_alike m a b s t is n =
    ap (λ v. cond v (Some (kind.Tbe n)) (cond (is_its m a s (entry_structure m) || is_its m a s (directory_structure m)) (Some (kind.Entry n)) None)) (its_alike m a b s t is (tbe_structure m))
    ∙ ap (λ v. cond (is_its m b t (tbe_structure m)) (Some (kind.Tbe n)) (cond (v || is_its m a s (directory_structure m)) (Some (kind.Entry n)) None)) (its_alike m a b s t is (entry_structure m))
    ∙ ap (λ v. cond (is_its m b t (tbe_structure m)) (Some (kind.Tbe n)) (cond (is_its m b t (entry_structure m) || v) (Some (kind.Entry n)) None)) (its_alike m a b s t is (directory_structure m))

pub kinds_same : (trees : List Tree) (m : Machine) (t u : KnownType) → is_same_known t u ≡ true → value_kind trees m t ≡ value_kind trees m u
kinds_same trees m (built_in b) (built_in c) is = ap built_in_kind (built_in_same b c is)
kinds_same trees m (enumerated a s members) (enumerated b t others) is =
    let t1 : KnownType = enumerated a s members in
    let t2 : KnownType = enumerated b t others in
    ap (λ o. option_map (λ number. kind.Enum number (default_member trees t1)) o) (enumerations_alike trees t1 t2 is)
    ∙ ap (λ p. option_map (λ number. kind.Enum number (default_found (find p (declared_enumerations trees)))) (declared_number trees t2)) (declares_one t1 t2 is)
kinds_same trees m (structured a s) (structured b t) is =
    ap (λ o. option_and_then (reference_kind m a s) o) (structures_alike trees a b s t is)
    ∙ by (structure_number trees (structured b t))
  where
    by : (o : Option ℕ) → option_and_then (reference_kind m a s) o ≡ option_and_then (reference_kind m b t) o
    by None = refl
    by (Some n) = references_alike m a b s t is n
kinds_same trees m (built_in b) (enumerated c u symbols) is = absurd (cc is)
kinds_same trees m (built_in b) (structured c u) is = absurd (cc is)
kinds_same trees m (enumerated a s members) (built_in c) is = absurd (cc is)
kinds_same trees m (enumerated a s members) (structured c u) is = absurd (cc is)
kinds_same trees m (structured a s) (built_in c) is = absurd (cc is)
kinds_same trees m (structured a s) (enumerated c u symbols) is = absurd (cc is)

-- numbers have one kind, whatever their types
number_kind : (trees : List Tree) (m : Machine) (t : KnownType) → is_number (nature_in t) ≡ true → value_kind trees m t ≡ Some kind.Int
number_kind trees m (built_in Int) is = refl
number_kind trees m (built_in Cycles) is = refl
number_kind trees m (built_in Tick) is = refl
number_kind trees m (built_in _) is = absurd (cc is)
number_kind trees m (enumerated scope text members) is = absurd (cc is)
number_kind trees m (structured scope s) is = absurd (cc is)

pub kinds_agree : (trees : List Tree) (m : Machine) (t u : KnownType) → agree t u ≡ true → value_kind trees m t ≡ value_kind trees m u
kinds_agree trees m t u is = by (is_number (nature_in t)) refl is
  where
    by : (b : Bool) → is_number (nature_in t) ≡ b → cond b (is_number (nature_in u)) (is_same_known t u) ≡ true → value_kind trees m t ≡ value_kind trees m u
    by true number other = number_kind trees m t number ∙ sym (number_kind trees m u other)
    by false number same = kinds_same trees m t u same
