-- The number of `RubyRequest` is that of no structure that a protocol declares: its name can't be declared right in the protocol.
use Rattle.std.proofs.Common.{◌≡◌, ◌<◌, ◌∙◌, ◌++◌, ◌&&◌, ℕ, zero, suc, Bool, true, false, cond, not, Option, None, Some, List, [], ◌∷◌, ap, refl, sym, subst, arith, flat_map, length, get_or, map, true≢false, option_and_then}
use Rattle.std.specs.Prelude.{Contains, codes, filter, is_some, position}
use Rattle.std.specs.List.{All, list_any}
use Rattle.std.specs.Str.{bytes_eq}
use Rattle.std.proofs.lemmas.Bool.{false_from_ne_true, or_left, or_right}
use Rattle.std.proofs.lemmas.List.Elements.{All-append, All-cons, All-contains_itself, All-head, All-map, All-nil, All-tail}
use Rattle.std.proofs.lemmas.List.Folds.{list_any-append}
use Rattle.std.proofs.lemmas.List.Quantifiers.{position-Some}
use Rattle.std.proofs.lemmas.Option.{slice_get_within}
use Rattle.std.proofs.lemmas.Slice.Eq.{bytes_eq-Decides}
use Rattle.ruby_symbols.specs.declared.types.StructureSymbol.{StructureSymbol}
use Rattle.ruby_symbols.specs.Prelude.{is_owner, request}
use Rattle.slicc_ast.specs.declared.tree.declaration.Structure.{Structure}
use Rattle.slicc_ast.specs.declared.tree.item.Tree.{Tree}
use Rattle.slicc_ast.specs.declared.tree.machine.Machine.{Machine}
use Rattle.slicc_ast.specs.declared.tree.name.Name.{Name}
use Rattle.slicc_plan.specs.declared.built_in.BuiltInType.{BuiltInType}
use Rattle.slicc_plan.specs.declared.built_in.BuiltInType.TheVariants.{Request}
use Rattle.slicc_plan.specs.Prelude.{IsAccepted, Declaration, machine, everywhere, within, global_declarations, is_external, machine_declarations, machine_in, machines_of, name_of, is_counted_structure, scopes_within, symbols_of, field_symbols, owner, request_symbol, structure_symbol, structure_symbols, declaration_told, globally_repeated_after, repeated, takes_built_in_name, told_globally, ScopedDeclaration, declared_structures, declares, made_in, made_with_its_own, request_number, scoped_declarations, structure_number, KnownType, built_in, enumerated, structured}
use Rattle.slicc_plan.specs.BuiltIn.{built_in_type}
use Rattle.slicc_plan.specs.Declarations.{structure}
use Rattle.slicc_plan.specs.TwiceDeclared.{listed}
use Rattle.slicc_plan.proofs.Room.{left_none, right_none}
use Rattle.slicc_plan.proofs.Names.{none_twice}
use Rattle.protocol_meaning.proofs.Places.{any_position, at_position, position_is, position_numbered}

-- Names that are declared right in a protocol.

abbrev NotTaken : Declaration → Type 0
NotTaken (structure s) = takes_built_in_name (structure s) s.name ≡ false
NotTaken _ = Unit {0}

not_told : (before : List Name) (n : Name) (b : Bool) → told_globally before n b ≡ [] → b ≡ false
not_told before n true e = absurd (cc e)
not_told before n false e = refl

one_not_taken : (before : List Name) (d : Declaration) → declaration_told before d (name_of d) ≡ [] → NotTaken d
one_not_taken before (structure s) e = not_told before s.name (takes_built_in_name (structure s) s.name) e
one_not_taken before _ e = tt

none_taken : (before : List Name) (ds : List Declaration) → globally_repeated_after before ds ≡ [] → All NotTaken ds
none_taken before [] e = All-nil NotTaken
none_taken before (d ∷ ds) e =
    All-cons NotTaken d ds (one_not_taken before d (left_none (declaration_told before d (name_of d)) (globally_repeated_after (before ++ listed (name_of d)) ds) e))
    (none_taken (before ++ listed (name_of d)) ds (right_none (declaration_told before d (name_of d)) (globally_repeated_after (before ++ listed (name_of d)) ds) e))

names_kept : (trees : List Tree) → IsAccepted trees → All NotTaken (global_declarations trees)
names_kept trees h =
    none_taken [] (global_declarations trees)
    (left_none (globally_repeated_after [] (global_declarations trees)) (flat_map repeated (scopes_within trees))
    (none_twice trees h))

-- Machines are found by their names.

same_text : (text : List ℕ) → bytes_eq text text ≡ true
same_text text = (bytes_eq-Decides text text).1 refl

machine_among : (ds : List Declaration) (m : Machine) (k : ℕ) → k < length ds → get_or ds k (machine m) ≡ machine m → list_any (λ (n : Machine). bytes_eq n.name.text m.name.text) (flat_map machine_in ds) ≡ true
machine_among [] m k lt e = absurd (omega arith)
machine_among (d ∷ ds) m zero lt e =
    subst (λ (x : Declaration). list_any (λ (n : Machine). bytes_eq n.name.text m.name.text) (machine_in x ++ flat_map machine_in ds) ≡ true) (sym e)
    (or_left (bytes_eq m.name.text m.name.text) (list_any (λ (n : Machine). bytes_eq n.name.text m.name.text) (flat_map machine_in ds)) (same_text m.name.text))
machine_among (d ∷ ds) m (suc k) lt e =
    list_any-append (λ (n : Machine). bytes_eq n.name.text m.name.text) (machine_in d) (flat_map machine_in ds)
    ∙ or_right (list_any (λ (n : Machine). bytes_eq n.name.text m.name.text) (machine_in d)) (list_any (λ (n : Machine). bytes_eq n.name.text m.name.text) (flat_map machine_in ds))
    (machine_among ds m k (omega arith) e)

-- Structures as symbols.

abbrev is_request_symbol : StructureSymbol → Bool
is_request_symbol s = is_owner s.machine None && bytes_eq s.name (codes "RubyRequest")

-- it makes one symbol, which isn't that of `RubyRequest`
record IsOther (trees : List Tree) (d : ScopedDeclaration) : Type 0 where
  symbol : StructureSymbol
  makes : structure_symbol trees d ≡ symbol ∷ []
  other : is_request_symbol symbol ≡ false

abbrev IsOtherIfCounted : List Tree → ScopedDeclaration → Type 0
IsOtherIfCounted trees d = is_counted_structure d.declaration ≡ true → IsOther trees d

not_named : (s : Structure) → takes_built_in_name (structure s) s.name ≡ false → not (is_external s) ≡ true → bytes_eq s.name.text (codes "RubyRequest") ≡ false
not_named s free counted =
    false_from_ne_true (bytes_eq s.name.text (codes "RubyRequest"))
    (λ named.
    let text : s.name.text ≡ codes "RubyRequest" = (bytes_eq-Decides s.name.text (codes "RubyRequest")).0 named in
    let is : is_some (built_in_type s.name.text) ≡ true = ap (λ x. is_some (built_in_type x)) text in
    true≢false (sym (both (is_some (built_in_type s.name.text)) (not (is_external s)) is counted) ∙ free))
  where
    both : (a b : Bool) → a ≡ true → b ≡ true → (a && b) ≡ true
    both true b h g = g
    both false b h g = absurd (cc h)

global_other : (trees : List Tree) (d : Declaration) → NotTaken d → IsOtherIfCounted trees (made_in everywhere d)
global_other trees (structure s) free counted =
    record {
      symbol = record { name = s.name.text; machine = None; fields = field_symbols trees everywhere s };
      makes = refl;
      other = not_named s free counted;
    }
global_other trees _ free counted = absurd (cc counted)

owned_is_other : (o : Option ℕ) (k : ℕ) (b : Bool) → o ≡ Some k → (is_owner o None && b) ≡ false
owned_is_other None k b e = absurd (cc e)
owned_is_other (Some n) k b e = refl

machine_other : (trees : List Tree) (m : Machine) (k : ℕ) → owner trees (within m) ≡ Some k → (d : Declaration) → IsOtherIfCounted trees (made_in (within m) d)
machine_other trees m k owned (structure s) counted =
    record {
      symbol = record { name = s.name.text; machine = owner trees (within m); fields = field_symbols trees (within m) s };
      makes = refl;
      other = owned_is_other (owner trees (within m)) k (bytes_eq s.name.text (codes "RubyRequest")) owned;
    }
machine_other trees m k owned _ counted = absurd (cc counted)

own_other : (trees : List Tree) (d : Declaration) → NotTaken d → Contains (global_declarations trees) d → All (IsOtherIfCounted trees) (made_with_its_own d)
own_other trees (machine m) free there =
    let found = any_position (λ (n : Machine). bytes_eq n.name.text m.name.text) (machines_of trees) (machine_among (global_declarations trees) m there.0 there.1 there.2) in
    All-cons (IsOtherIfCounted trees) (made_in everywhere (machine m)) (map (made_in (within m)) (machine_declarations m))
    (λ counted. absurd (cc counted))
    (All-map (IsOtherIfCounted trees) (made_in (within m)) (machine_declarations m) (λ k d lt. machine_other trees m found.0 found.1 (get_or (machine_declarations m) k d)))
own_other trees d free there =
    All-cons (IsOtherIfCounted trees) (made_in everywhere d) [] (global_other trees d free) (All-nil (IsOtherIfCounted trees))

all_other : (trees : List Tree) (ds : List Declaration) → All NotTaken ds → All (Contains (global_declarations trees)) ds → All (IsOtherIfCounted trees) (flat_map made_with_its_own ds)
all_other trees [] free there = All-nil (IsOtherIfCounted trees)
all_other trees (d ∷ ds) free there =
    All-append (IsOtherIfCounted trees) (made_with_its_own d) (flat_map made_with_its_own ds)
    (own_other trees d (All-head NotTaken d ds free) (All-head (Contains (global_declarations trees)) d ds there))
    (all_other trees ds (All-tail NotTaken d ds free) (All-tail (Contains (global_declarations trees)) d ds there))

filtered : {X : Type 0} (q : X → Bool) (P : X → Type 0) (xs : List X) → All (λ x. q x ≡ true → P x) xs → All P (filter q xs)
filtered q P [] h = All-nil P
filtered {X} q P (x ∷ xs) h = by_test (filtered q P xs (All-tail (λ y. q y ≡ true → P y) x xs h)) (q x) refl
  where
    by_test : All P (filter q xs) → (b : Bool) → q x ≡ b → All P (cond b (x ∷ filter q xs) (filter q xs))
    by_test rest true is = All-cons P x (filter q xs) (All-head (λ y. q y ≡ true → P y) x xs h is) rest
    by_test rest false is = rest

structures_other : (trees : List Tree) → IsAccepted trees → All (IsOther trees) (declared_structures trees)
structures_other trees h =
    filtered (λ (d : ScopedDeclaration). is_counted_structure d.declaration) (IsOther trees) (scoped_declarations trees)
    (all_other trees (global_declarations trees) (names_kept trees h) (All-contains_itself (global_declarations trees)))

-- its number is the last

position_after : {X : Type 0} (p : X → Bool) (x : X) (xs : List X) (n : ℕ) → p x ≡ false → position p (x ∷ xs) ≡ Some n → (k : ℕ) × (n ≡ suc k) × (position p xs ≡ Some k)
position_after p x xs zero fails e =
    let h = position-Some p (x ∷ xs) 0 x e in absurd (true≢false (sym h.1 ∙ fails))
position_after {X} p x xs (suc k) fails e =
    let at = at_position p (x ∷ xs) (suc k) e in
    let before = (position-Some p (x ∷ xs) (suc k) at.0 e).2 in
    (k, refl, position_is p xs k at.0 at.1 at.2 (λ j lt. before (suc j) (omega arith)))

only_last : (p : StructureSymbol → Bool) (r : StructureSymbol) (n : ℕ) → position p (r ∷ []) ≡ Some n → n ≡ 0
only_last p r n e =
    let at = at_position p (r ∷ []) n e in
    let inside = slice_get_within (r ∷ []) n at.0 at.1 in omega (arith, inside)

last_of : (trees : List Tree) (ds : List ScopedDeclaration) (n : ℕ) → All (IsOther trees) ds → position is_request_symbol (flat_map (structure_symbol trees) ds ++ request_symbol ∷ []) ≡ Some n → n ≡ length ds
last_of trees [] n others e = only_last is_request_symbol request_symbol n e
last_of trees (d ∷ ds) n others e =
    let here = All-head (IsOther trees) d ds others in
    let list : structure_symbol trees d ++ flat_map (structure_symbol trees) ds ++ request_symbol ∷ [] ≡ here.symbol ∷ (flat_map (structure_symbol trees) ds ++ request_symbol ∷ []) =
    ap (λ (xs : List StructureSymbol). xs ++ flat_map (structure_symbol trees) ds ++ request_symbol ∷ []) here.makes in
    let after = position_after is_request_symbol here.symbol (flat_map (structure_symbol trees) ds ++ request_symbol ∷ []) n here.other (sym (ap (position is_request_symbol) list) ∙ e) in
    let rest = last_of trees ds after.0 (All-tail (IsOther trees) d ds others) after.2 in
    let is = after.1 in
    omega (arith, is, rest)

request_is_last : (trees : List Tree) (n : ℕ) → IsAccepted trees → request (symbols_of trees) ≡ Some n → n ≡ length (declared_structures trees)
unfolding symbols_of
request_is_last trees n h e =
    last_of trees (declared_structures trees) n (structures_other trees h) (position_numbered is_request_symbol (structure_symbols trees) n e)

numbered_request : (trees : List Tree) (b : BuiltInType) (n : ℕ) → request_number trees b ≡ Some n → b ≡ Request
numbered_request trees Request n e = refl
numbered_request trees _ n e = absurd (cc e)

-- a type with the number of `RubyRequest` is it
pub request_by_number : (trees : List Tree) (t : Option KnownType) (n : ℕ) → IsAccepted trees → option_and_then (structure_number trees) t ≡ Some n → request (symbols_of trees) ≡ Some n → t ≡ Some (built_in Request)
request_by_number trees None n h e is = absurd (cc e)
request_by_number trees (Some (built_in b)) n h e is = ap (λ c. Some (built_in c)) (numbered_request trees b n e)
request_by_number trees (Some (enumerated scope text members)) n h e is = absurd (cc e)
request_by_number trees (Some (structured scope s)) n h e is =
    let at = at_position (declares (structured scope s)) (declared_structures trees) n e in
    let inside = slice_get_within (declared_structures trees) n at.0 at.1 in
    let last = request_is_last trees n h is in
    absurd (omega (arith, inside, last))
