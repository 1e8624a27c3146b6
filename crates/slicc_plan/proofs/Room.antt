-- In an accepted protocol each cache and each TBE table has room within the limits, with the sizes that a topology may set.
use Rattle.std.proofs.Common.{◌≡◌, ◌++◌, ◌+◌, ◌≤◌, ◌==◌, ℕ, zero, suc, Bool, true, false, not, cond, Option, None, Some, List, [], ◌∷◌, All, map, filter, flat_map, slice_get, refl, subst, arith}
use Rattle.std.specs.List.{cons_option}
use Rattle.std.specs.Prelude.{codes, find, filter_map, unwrap_or}
use Rattle.std.proofs.lemmas.List.Elements.{All-head, All-tail, All-cons, All-nil, All-push}
use Rattle.slicc_ast.specs.Prelude.{is_between}
use Rattle.ruby_value.specs.declared.setup.Sizes.{Sizes}
use Rattle.ruby_value.specs.declared.setup.TableSetup.{TableSetup}
use Rattle.ruby_value.specs.declared.setup.TableSize.{TableSize}
use Rattle.ruby_symbols.specs.declared.machine.TableSort.{TableSort}
use Rattle.ruby_symbols.specs.declared.machine.TableSort.TheVariants as sort
use Rattle.slicc_ast.specs.declared.tree.declaration.Pairs.{Pairs}
use Rattle.slicc_ast.specs.declared.tree.declaration.Structure.{Structure}
use Rattle.slicc_ast.specs.declared.tree.item.Tree.{Tree}
use Rattle.slicc_ast.specs.declared.tree.machine.Machine.{Machine}
use Rattle.slicc_plan.specs.declared.built_in.BuiltInType.TheVariants.{Buffer, Cache, Directory, TbeTable}
use Rattle.slicc_plan.specs.Prelude.{IsAccepted, Attribute, attributes, is_within, number_value, attribute_number, Declaration, machine, states, parameter, object, action, function, symbol, state, member, formal, local, within, machine_declarations, machines_of, wide_scopes, refused_field_types, limits_passed, unknown_built_ins, AreSizesOf, cache_size, parameter_table, setup_in, table_of_lines, table_size, tables_from, tbe_size, line_structure, table_in, table_sort, tables_of, written_entries, names_twice_declared, KnownType, is_built_in, type_in, unknown_types, bad_buffer_attributes, bad_entries, bad_field_defaults, bad_literal, bad_object_attributes, bad_value, bad_values, bad_values_in, bad_values_of, is_number_within}
use Rattle.slicc_plan.specs.Declarations.{enumeration, structure, out_port, in_port}
use Rattle.slicc_plan.specs.Setups.{HasRoom}

-- what is in no list that is empty

pub left_none : {X : Type 0} (xs ys : List X) → xs ++ ys ≡ [] → xs ≡ []
left_none [] ys e = refl
left_none (x ∷ xs) ys e = cc

pub right_none : {X : Type 0} (xs ys : List X) → xs ++ ys ≡ [] → ys ≡ []
right_none [] ys e = e
right_none (x ∷ xs) ys e = cc

pub none_at : {X Y : Type 0} (f : X → List Y) (xs : List X) (n : ℕ) (x : X) → flat_map f xs ≡ [] → slice_get xs n ≡ Some x → f x ≡ []
none_at f [] n x e at = cc
none_at f (y ∷ ys) zero x e at =
    let same : y ≡ x = cc in
    subst (λ z. f z ≡ []) same (left_none (f y) (flat_map f ys) e)
none_at f (y ∷ ys) (suc n) x e at = none_at f ys n x (right_none (f y) (flat_map f ys) e) at

pub mapped_at : {X Y : Type 0} (f : X → Y) (xs : List X) (n : ℕ) (x : X) → slice_get xs n ≡ Some x → slice_get (map f xs) n ≡ Some (f x)
mapped_at f [] n x at = cc
mapped_at f (y ∷ ys) zero x at = let same : y ≡ x = cc in subst (λ z. Some (f y) ≡ Some (f z)) same refl
mapped_at f (y ∷ ys) (suc n) x at = mapped_at f ys n x at

-- entries that are written

passing : (p : Attribute → Bool) (b : Attribute) (all : List Attribute) (v : Bool) → p b ≡ v → map (λ (c : Attribute). bad_value c.place) (cond (not v) (b ∷ filter (λ (c : Attribute). not (p c)) all) (filter (λ (c : Attribute). not (p c)) all)) ≡ [] → p b ≡ true
passing p b all true h e = h
passing p b all false h e = cc

first_passes : (p : Attribute → Bool) (all : List Attribute) (a : Attribute) → map (λ (b : Attribute). bad_value b.place) (filter (λ (b : Attribute). not (p b)) all) ≡ [] → slice_get all 0 ≡ Some a → p a ≡ true
first_passes p [] a e at = cc
first_passes p (b ∷ all) a e at =
    let same : b ≡ a = cc in subst (λ c. p c ≡ true) same (passing p b all (p b) refl e)

abbrev pub InLimits : ℕ → Type 0
InLimits n = (1 ≤ n) × (n ≤ 256)

lower : (low high n : ℕ) → is_between low high n ≡ true → low ≤ n
lower low high n e = grind arith

upper : (low high n : ℕ) → is_between low high n ≡ true → n ≤ high
upper low high n e = grind arith

pub number_within : (low high d : ℕ) (v : Option ℕ) → is_within low high v ≡ true → (low ≤ unwrap_or v d) × (unwrap_or v d ≤ high)
number_within low high d None e = cc
number_within low high d (Some n) e = (lower low high n e, upper low high n e)

-- what an attribute gives whose values are all within limits, if what is there without it is within them too
pub first_within : (low high d : ℕ) (all : List Attribute) (o : Option Attribute) → low ≤ d → d ≤ high → slice_get all 0 ≡ o → map (λ (b : Attribute). bad_value b.place) (filter (λ (b : Attribute). not (is_number_within low high b.value)) all) ≡ [] → (low ≤ unwrap_or (attribute_number o) d) × (unwrap_or (attribute_number o) d ≤ high)
first_within low high d all None h k at e = (h, k)
first_within low high d all (Some a) h k at e =
    number_within low high d (number_value a.value) (first_passes (λ (b : Attribute). is_number_within low high b.value) all a e at)

entries_within : (pairs : Pairs) → bad_entries pairs ≡ [] → InLimits (written_entries pairs)
entries_within pairs e =
    first_within 1 256 16 (attributes (codes "entries") pairs) _ (omega arith) (omega arith) refl e

-- what sort a table is

abbrev pub SortInLimits : TableSort → Type 0
SortInLimits sort.Cache = Unit {0}
SortInLimits sort.Directory = Unit {0}
SortInLimits (sort.Tbe written) = InLimits written

abbrev pub OptionInLimits : Option TableSort → Type 0
OptionInLimits None = Unit {0}
OptionInLimits (Some t) = SortInLimits t

sort_by : (is_cache is_directory is_tbe : Bool) (pairs : Pairs) → cond is_tbe (bad_entries pairs) [] ≡ [] → OptionInLimits (cond is_cache (Some sort.Cache) (cond is_directory (Some sort.Directory) (cond is_tbe (Some (sort.Tbe (written_entries pairs))) None)))
sort_by true d t pairs e = tt
sort_by false true t pairs e = tt
sort_by false false true pairs e = entries_within pairs e
sort_by false false false pairs e = tt

sort_within : (t : Option KnownType) (pairs : Pairs) → bad_object_attributes t pairs ≡ [] → OptionInLimits (table_sort t pairs)
sort_within t pairs e =
    sort_by (is_built_in Cache t) (is_built_in Directory t) (is_built_in TbeTable t) pairs (right_none (cond (is_built_in Buffer t) (bad_buffer_attributes pairs) []) (cond (is_built_in TbeTable t) (bad_entries pairs) []) e)

pub declared_within : (trees : List Tree) (m : Machine) (d : Declaration) → bad_values_of trees (within m) d ≡ [] → OptionInLimits (table_in trees m d)
declared_within trees m (parameter p) e =
    sort_within (type_in trees (within m) p.kind.text) p.pairs (right_none (bad_literal (type_in trees (within m) p.kind.text) p.literal) (bad_object_attributes (type_in trees (within m) p.kind.text) p.pairs) e)
declared_within trees m (object o) e = sort_within (type_in trees (within m) o.kind.text) o.pairs e
declared_within trees m (machine d) e = tt
declared_within trees m (enumeration d) e = tt
declared_within trees m (structure d) e = tt
declared_within trees m (states d) e = tt
declared_within trees m (out_port d) e = tt
declared_within trees m (in_port d) e = tt
declared_within trees m (action d) e = tt
declared_within trees m (function d) e = tt
declared_within trees m (symbol d) e = tt
declared_within trees m (state d) e = tt
declared_within trees m (member d) e = tt
declared_within trees m (formal d) e = tt
declared_within trees m (local kind called span) e = tt

joined : (ts : List TableSort) (o : Option TableSort) → OptionInLimits o → All SortInLimits ts → All SortInLimits (cons_option o ts)
joined ts None h k = k
joined ts (Some t) h k = All-cons SortInLimits t ts h k

sorts_within : (trees : List Tree) (m : Machine) (ds : List Declaration) → flat_map (bad_values_of trees (within m)) ds ≡ [] → All SortInLimits (filter_map (table_in trees m) ds)
sorts_within trees m [] e = All-nil SortInLimits
sorts_within trees m (d ∷ ds) e =
    joined (filter_map (table_in trees m) ds) (table_in trees m d) (declared_within trees m d (left_none (bad_values_of trees (within m) d) (flat_map (bad_values_of trees (within m)) ds) e)) (sorts_within trees m ds (right_none (bad_values_of trees (within m) d) (flat_map (bad_values_of trees (within m)) ds) e))

pub accepted_values : (trees : List Tree) → IsAccepted trees → bad_values trees ≡ []
accepted_values trees h =
    right_none (names_twice_declared trees ++ unknown_types trees ++ limits_passed trees ++ refused_field_types trees) (bad_values trees)
    (left_none (names_twice_declared trees ++ unknown_types trees ++ limits_passed trees ++ refused_field_types trees ++ bad_values trees) (unknown_built_ins trees) h.of_declarations)

-- what is declared in a machine breaks no rule of values
pub values_kept : (trees : List Tree) (number : ℕ) (m : Machine) → IsAccepted trees → slice_get (machines_of trees) number ≡ Some m → flat_map (bad_values_of trees (within m)) (machine_declarations m) ≡ []
values_kept trees number m h at =
    none_at (bad_values_in trees) (wide_scopes trees) (suc number) (within m) (left_none (flat_map (bad_values_in trees) (wide_scopes trees)) (bad_field_defaults trees) (accepted_values trees h)) (mapped_at within (machines_of trees) number m at)

pub tables_within : (trees : List Tree) (number : ℕ) (m : Machine) → IsAccepted trees → slice_get (machines_of trees) number ≡ Some m → All SortInLimits (tables_of trees m)
tables_within trees number m h at =
    sorts_within trees m (machine_declarations m) (values_kept trees number m h at)

-- sizes that are set

found_by : {X : Type 0} (P : X → Type 0) (y x : X) (o : Option X) (v : Bool) → P y → (o ≡ Some x → P x) → cond v (Some y) o ≡ Some x → P x
found_by P y x o true h k f = let same : y ≡ x = cc in subst P same h
found_by P y x o false h k f = k f

found_holds : {X : Type 0} (P : X → Type 0) (p : X → Bool) (xs : List X) (x : X) → All P xs → find p xs ≡ Some x → P x
found_holds P p [] x h e = cc
found_holds P p (y ∷ ys) x h e =
    found_by P y x (find p ys) (p y) (All-head P y ys h) (λ f. found_holds P p ys x (All-tail P y ys h) f) e

cache_room : (sizes : List (ℕ × ℕ × ℕ)) (o : Option (ℕ × ℕ × ℕ)) (number : ℕ) → All (λ (c : ℕ × ℕ × ℕ). HasRoom (cache_size (Some c))) sizes → find (λ (c : ℕ × ℕ × ℕ). c.0 == number) sizes ≡ o → HasRoom (cache_size o)
cache_room sizes None number h e = (omega arith, omega arith, omega arith)
cache_room sizes (Some c) number h e =
    found_holds (λ (d : ℕ × ℕ × ℕ). HasRoom (cache_size (Some d))) (λ (d : ℕ × ℕ × ℕ). d.0 == number) sizes c h e

tbe_room : (sizes : List (ℕ × ℕ)) (o : Option (ℕ × ℕ)) (number written : ℕ) → InLimits written → All (λ (t : ℕ × ℕ). HasRoom (tbe_size 16 (Some t))) sizes → find (λ (t : ℕ × ℕ). t.0 == number) sizes ≡ o → HasRoom (tbe_size written o)
tbe_room sizes None number written w h e = w
tbe_room sizes (Some (n, entries)) number written w h e =
    found_holds (λ (u : ℕ × ℕ). HasRoom (tbe_size 16 (Some u))) (λ (u : ℕ × ℕ). u.0 == number) sizes (n, entries) h e

size_room : (trees : List Tree) (sizes : Sizes) (number : ℕ) (t : TableSort) → AreSizesOf trees sizes → SortInLimits t → HasRoom (table_size sizes number t)
size_room trees sizes number sort.Cache s h = cache_room sizes.caches _ number s.caches refl
size_room trees sizes number sort.Directory s h = tt
size_room trees sizes number (sort.Tbe written) s h = tbe_room sizes.tbes _ number written h s.tbes refl

abbrev Roomy : TableSetup → Type 0
Roomy s = HasRoom s.size

lines_room : (trees : List Tree) (m : Machine) (places : TableSize) (s : Option Structure) → HasRoom places → Roomy (table_of_lines trees m places s)
lines_room trees m places None h = h
lines_room trees m places (Some s) h = h

tables_room : (trees : List Tree) (m : Machine) (sizes : Sizes) (number : ℕ) (ts : List TableSort) → AreSizesOf trees sizes → All SortInLimits ts → All Roomy (tables_from trees m sizes number ts)
tables_room trees m sizes number [] s h = All-nil Roomy
tables_room trees m sizes number (t ∷ ts) s h =
    All-cons Roomy _ _ (lines_room trees m (table_size sizes number t) (line_structure m t) (size_room trees sizes number t s (All-head SortInLimits t ts h)))
    (tables_room trees m sizes (number + 1) ts s (All-tail SortInLimits t ts h))

pub all_have_room : (trees : List Tree) (number : ℕ) (sizes : Sizes) (m : Machine) → IsAccepted trees → AreSizesOf trees sizes → slice_get (machines_of trees) number ≡ Some m → All (λ (s : TableSetup). HasRoom s.size) (setup_in trees number sizes m).tables
all_have_room trees number sizes m h s at =
    All-push Roomy (tables_from trees m sizes 0 (tables_of trees m)) (parameter_table trees number m sizes) (tables_room trees m sizes 0 (tables_of trees m) s (tables_within trees number m h at)) tt
