-- Tables, functions and actions are numbered in one way, since no name is declared twice in a machine.
use Rattle.std.proofs.Common.{◌≡◌, ◌++◌, ◌+◌, ◌<◌, ◌≤◌, ◌==◌, ◌||◌, ◌∙◌, ℕ, Bool, true, false, not, cond, Option, None, Some, List, [], ◌∷◌, filter, flat_map, fold, length, ltb, lt-ltb, map, slice_get, position, append_assoc, append-nil, refl, sym, ap, subst, arith}
use Rattle.std.specs.Prelude.{filter_map, option_and_then}
use Rattle.std.specs.List.{cons_option, count_by, list_any, prefix_len}
use Rattle.std.specs.Option.{option_map}
use Rattle.std.specs.Str.{bytes_eq}
use Rattle.std.proofs.lemmas.Grind.{flat_map-append}
use Rattle.std.proofs.lemmas.List.{length-map, map-append}
use Rattle.std.proofs.lemmas.List.Folds.{list_any-append}
use Rattle.std.proofs.lemmas.List.Quantifiers.{position-Some}
use Rattle.std.proofs.lemmas.Option.{slice_get-map}
use Rattle.ruby_symbols.specs.declared.machine.ActionSymbol.{ActionSymbol}
use Rattle.ruby_symbols.specs.declared.machine.FunctionSymbol.{FunctionSymbol}
use Rattle.ruby_symbols.specs.declared.machine.MachineSymbols.{MachineSymbols}
use Rattle.ruby_symbols.specs.declared.machine.TableSort.TheVariants as sort
use Rattle.ruby_symbols.specs.declared.machine.TableSymbol.{TableSymbol}
use Rattle.ruby_symbols.specs.Prelude.{number_of, short_number}
use Rattle.slicc_ast.specs.declared.tree.declaration.Function.{Function}
use Rattle.slicc_ast.specs.declared.tree.declaration.Function.TheVariants.{Plain, Skipped}
use Rattle.slicc_ast.specs.declared.tree.declaration.Pairs.{Pairs}
use Rattle.slicc_ast.specs.declared.tree.item.Tree.{Tree}
use Rattle.slicc_ast.specs.declared.tree.machine.Action.{Action}
use Rattle.slicc_ast.specs.declared.tree.machine.Decl.{Decl}
use Rattle.slicc_ast.specs.declared.tree.machine.Decl.TheVariants as decl
use Rattle.slicc_ast.specs.declared.tree.machine.Machine.{Machine}
use Rattle.slicc_ast.specs.declared.tree.machine.Parameter.{Parameter}
use Rattle.slicc_ast.specs.declared.tree.machine.Transition.{Transition}
use Rattle.slicc_ast.specs.declared.tree.name.Name.{Name}
use Rattle.slicc_plan.specs.declared.built_in.BuiltInType.TheVariants.{Cache, Directory, TbeTable}
use Rattle.slicc_plan.specs.declared.part.Body.{Body}
use Rattle.slicc_plan.specs.declared.row.Written.{Written as WrittenTransition}
use Rattle.slicc_plan.specs.Prelude.{IsAccepted, action_bodies, action_in, function_in, is_table_type, name_of_type, names_of_written, number_in, table_names, written_actions, written_functions, Declaration, parameter, object, action, within, global_declarations, is_named, machine_declarations, machines_of, name_of, named_declarations, is_action, actions_of, transitions_of, written, written_of, action_symbol, action_symbols, function_symbol, function_symbols, machine_symbols, numbered_from, table_of_sort, table_symbol, transition_symbol, checks_at, checks_or_none, needs, needs_of, table_sort, written_entries, first_with, repeated, repeated_after, told_after, KnownType, is_built_in, type_in, HasNumbers, HasOneNumbering, HasSymbols, need_by, rows_by}
use Rattle.slicc_plan.specs.BodyParts.{Written}
use Rattle.slicc_plan.specs.Machines as plan
use Rattle.slicc_plan.specs.TableNeeds.{need_of}
use Rattle.slicc_plan.specs.TwiceDeclared.{listed, names_of, told_with}
use Rattle.slicc_plan.proofs.Room.{left_none, right_none}
use Rattle.slicc_plan.specs.Numbering.{is_for, row_of, rows_from}
use Rattle.slicc_plan.specs.Numbering as by_symbols
use Rattle.slicc_plan.proofs.Counted.{machine_has_numbers}
use Rattle.slicc_plan.proofs.Machines.{symbols_at}
use Rattle.slicc_plan.proofs.Names.{none_repeated}
use Rattle.slicc_plan.proofs.There.{machine_there}

-- Places in lists.

prefix_mapped : {X Y : Type 0} (p : Y → Bool) (f : X → Y) (xs : List X) → prefix_len p (map f xs) ≡ prefix_len (λ x. p (f x)) xs
prefix_mapped p f [] = refl
prefix_mapped p f (x ∷ xs) = ap (λ n. cond (p (f x)) (1 + n) 0) (prefix_mapped p f xs)

position_mapped : {X Y : Type 0} (p : Y → Bool) (f : X → Y) (xs : List X) → position p (map f xs) ≡ position (λ x. p (f x)) xs
position_mapped p f xs =
    ap (λ n. cond (ltb n (length (map f xs))) (Some n) None) (prefix_mapped (λ y. not (p y)) f xs)
    ∙ ap (λ l. cond (ltb (prefix_len (λ x. not (p (f x))) xs) l) (Some (prefix_len (λ x. not (p (f x))) xs)) None) (length-map xs f)

-- a list within a limit has no place beyond numbers of 16 bits
pub short_position : {X : Type 0} (p : X → Bool) (xs : List X) → length xs ≤ 256 → number_of p xs ≡ position p xs
short_position p [] few = refl
short_position {X} p (x ∷ xs) few = by (position p (x ∷ xs)) refl
  where
    by : (o : Option ℕ) → position p (x ∷ xs) ≡ o → option_and_then short_number o ≡ o
    by None e = refl
    by (Some k) e =
        let found = position-Some p (x ∷ xs) k x e in
        let below : k < 65536 = omega (arith, found.0, few) in
        ap (λ b. cond b (Some k) None) (lt-ltb k 65536 below)

-- two lists of things with the same names
same_positions : {X Y : Type 0} (f : X → List ℕ) (g : Y → List ℕ) (xs : List X) (ys : List Y) (text : List ℕ) → map f xs ≡ map g ys → position (λ x. bytes_eq (f x) text) xs ≡ position (λ y. bytes_eq (g y) text) ys
same_positions f g xs ys text same =
    sym (position_mapped (λ name. bytes_eq name text) f xs) ∙ ap (position (λ name. bytes_eq name text)) same
    ∙ position_mapped (λ name. bytes_eq name text) g ys

-- Names that aren't declared twice.

module _ (t : List ℕ) where
  none_before : (xs ys : List Name) → first_with t (xs ++ ys) ≡ None → first_with t xs ≡ None
  none_before [] ys e = refl
  none_before (n ∷ ns) ys e = by (bytes_eq n.text t) (none_before ns ys) e
    where
      by : (b : Bool) → (first_with t (ns ++ ys) ≡ None → first_with t ns ≡ None) → cond b (Some n) (first_with t (ns ++ ys)) ≡ None → cond b (Some n) (first_with t ns) ≡ None
      by true rest e = absurd (cc e)
      by false rest e = rest e

  not_last : (xs : List Name) (n : Name) → first_with t (xs ++ n ∷ []) ≡ None → bytes_eq n.text t ≡ false
  not_last [] n e = by (bytes_eq n.text t) e
    where
      by : (b : Bool) → cond b (Some n) None ≡ None → b ≡ false
      by true e = absurd (cc e)
      by false e = refl
  not_last (m ∷ ms) n e = by (bytes_eq m.text t) (not_last ms n) e
    where
      by : (b : Bool) → (first_with t (ms ++ n ∷ []) ≡ None → bytes_eq n.text t ≡ false) → cond b (Some m) (first_with t (ms ++ n ∷ [])) ≡ None → bytes_eq n.text t ≡ false
      by true rest e = absurd (cc e)
      by false rest e = rest e

none_told : (before : List Name) (n : Name) → told_after before n ≡ [] → first_with n.text before ≡ None
none_told before n e = by (first_with n.text before) e
  where
    by : (o : Option Name) → told_with n.span o ≡ [] → o ≡ None
    by None e = refl
    by (Some k) e = absurd (cc e)

repeated_behind : (before xs ys : List Name) → repeated_after before (xs ++ ys) ≡ [] → repeated_after (before ++ xs) ys ≡ []
repeated_behind before [] ys e = subst (λ ns. repeated_after ns ys ≡ []) (sym (append-nil before)) e
repeated_behind before (n ∷ ns) ys e =
    subst (λ ms. repeated_after ms ys ≡ []) (append_assoc before (n ∷ []) ns)
    (repeated_behind (before ++ n ∷ []) ns ys (right_none (told_after before n) (repeated_after (before ++ n ∷ []) (ns ++ ys)) e))

-- What is made of declarations, one thing of its name of each at most, has no name twice, so that all of it is kept where each name
-- is kept once.
module _ {X : Type 0} (text : X → List ℕ) where
  abbrev once : List X → X → List X
  once kept x = cond (list_any (λ y. bytes_eq (text y) (text x)) kept) kept (kept ++ x ∷ [])

  -- what was kept has none but names that were declared
  abbrev Covered : List X → List Name → Type 0
  Covered kept before = (t : List ℕ) → first_with t before ≡ None → list_any (λ y. bytes_eq (text y) t) kept ≡ false

  -- this is made of what declares these names
  abbrev OfOne : List X → List Name → Type 0
  OfOne [] names = Unit {0}
  OfOne (x ∷ []) (n ∷ []) = text x ≡ n.text
  OfOne (x ∷ []) [] = ⊥
  OfOne (x ∷ []) (n ∷ m ∷ ns) = ⊥
  OfOne (x ∷ y ∷ xs) names = ⊥

  covered_one : (kept : List X) (before : List Name) (x : X) (n : Name) → text x ≡ n.text → Covered kept before → Covered (kept ++ x ∷ []) (before ++ n ∷ [])
  covered_one kept before x n same c t e =
      let earlier : list_any (λ y. bytes_eq (text y) t) kept ≡ false = c t (none_before t before (n ∷ []) e) in
      let here : bytes_eq (text x) t ≡ false = ap (λ u. bytes_eq u t) same ∙ not_last t before n e in
      list_any-append (λ y. bytes_eq (text y) t) kept (x ∷ []) ∙ ap (λ b. b || (bytes_eq (text x) t || false)) earlier ∙ ap (λ b. b || false) here

  module _ {D : Type 0} (own : D → List Name) (made : D → List X) (each : (d : D) → OfOne (made d) (own d)) where
    kept_all : (kept : List X) (before : List Name) (ds : List D) → Covered kept before → repeated_after before (flat_map own ds) ≡ [] → fold once kept (flat_map made ds) ≡ kept ++ flat_map made ds
    kept_all kept before [] c none = sym (append-nil kept)
    kept_all kept before (d ∷ ds) c none = by (λ ks ns. kept_all ks ns ds) (made d) (own d) (each d) none
      where
        by : ((ks : List X) (ns : List Name) → Covered ks ns → repeated_after ns (flat_map own ds) ≡ [] → fold once ks (flat_map made ds) ≡ ks ++ flat_map made ds)
            → (xs : List X) (ns : List Name) → OfOne xs ns → repeated_after before (ns ++ flat_map own ds) ≡ []
            → fold once kept (xs ++ flat_map made ds) ≡ kept ++ (xs ++ flat_map made ds)
        by rest [] ns one none =
            rest kept (before ++ ns) (λ t e. c t (none_before t before ns e)) (repeated_behind before ns (flat_map own ds) none)
        by rest (x ∷ []) (n ∷ []) one none =
            let fresh : first_with n.text before ≡ None = none_told before n (left_none (told_after before n) (repeated_after (before ++ n ∷ []) (flat_map own ds)) none) in
            let unlike : list_any (λ y. bytes_eq (text y) (text x)) kept ≡ false = ap (λ u. list_any (λ y. bytes_eq (text y) u) kept) one ∙ c n.text fresh in
            ap (λ b. fold once (cond b kept (kept ++ x ∷ [])) (flat_map made ds)) unlike
            ∙ rest (kept ++ x ∷ []) (before ++ n ∷ []) (covered_one kept before x n one c) (repeated_behind before (n ∷ []) (flat_map own ds) none)
            ∙ append_assoc kept (x ∷ []) (flat_map made ds)
        by rest (x ∷ []) [] one none = absurd one
        by rest (x ∷ []) (n ∷ m ∷ ns) one none = absurd one
        by rest (x ∷ y ∷ xs) ns one none = absurd one

-- Between a machine's braces.

-- what stands between the braces
abbrev names_between : Decl → List Name
names_between d = names_of (named_declarations d)

between : (ds : List Decl) → names_of (flat_map named_declarations ds) ≡ flat_map names_between ds
between [] = refl
between (d ∷ ds) =
    flat_map-append (λ (e : Declaration). listed (name_of e)) (named_declarations d) (flat_map named_declarations ds)
    ∙ ap (λ ns. names_between d ++ ns) (between ds)

none_between : (m : Machine) → repeated (machine_declarations m) ≡ [] → repeated_after (names_of (map parameter m.parameters)) (flat_map names_between m.declarations) ≡ []
none_between m e =
    repeated_behind [] (names_of (map parameter m.parameters)) (flat_map names_between m.declarations)
    (subst (λ ns. repeated_after [] ns ≡ [])
    (flat_map-append (λ (d : Declaration). listed (name_of d)) (map parameter m.parameters) (flat_map named_declarations m.declarations)
    ∙ ap (λ ns. names_of (map parameter m.parameters) ++ ns) (between m.declarations)) e)

-- Tables.

one_of : (b : Bool) (n : Name) → OfOne (λ (t : List ℕ). t) (cond b (n.text ∷ []) []) (n ∷ [])
one_of true n = refl
one_of false n = tt

one_table : (p : List ℕ → Bool) (d : Declaration) → OfOne (λ (t : List ℕ). t) (name_of_type p d) (listed (name_of d))
one_table p (parameter d) = one_of (p d.kind.text) d.name
one_table p (object d) = one_of (p d.kind.text) d.name
one_table p _ = tt

abbrev is_table_name : List Tree → Machine → List ℕ → Bool
is_table_name trees m kind = is_table_type (type_in trees (within m) kind)

abbrev table_text : TableSymbol → List ℕ
table_text t = t.name

sorted : (trees : List Tree) (m : Machine) (text : List ℕ) (entries : ℕ) (c d t : Bool) → map table_text (table_of_sort trees m text (cond c (Some sort.Cache) (cond d (Some sort.Directory) (cond t (Some (sort.Tbe entries)) None)))) ≡ cond (c || d || t) (text ∷ []) []
sorted trees m text entries true d t = refl
sorted trees m text entries false true t = refl
sorted trees m text entries false false true = refl
sorted trees m text entries false false false = refl

sorted_type : (trees : List Tree) (m : Machine) (text : List ℕ) (t : Option KnownType) (pairs : Pairs) → map table_text (table_of_sort trees m text (table_sort t pairs)) ≡ cond (is_table_type t) (text ∷ []) []
sorted_type trees m text t pairs =
    sorted trees m text (written_entries pairs) (is_built_in Cache t) (is_built_in Directory t) (is_built_in TbeTable t)

table_of_one : (trees : List Tree) (m : Machine) (d : Declaration) → map table_text (table_symbol trees m d) ≡ name_of_type (is_table_name trees m) d
table_of_one trees m (parameter d) = sorted_type trees m d.name.text (type_in trees (within m) d.kind.text) d.pairs
table_of_one trees m (object d) = sorted_type trees m d.name.text (type_in trees (within m) d.kind.text) d.pairs
table_of_one trees m _ = refl

table_texts : (trees : List Tree) (m : Machine) (ds : List Declaration) → map table_text (flat_map (table_symbol trees m) ds) ≡ flat_map (name_of_type (is_table_name trees m)) ds
table_texts trees m [] = refl
table_texts trees m (d ∷ ds) =
    map-append table_text (table_symbol trees m d) (flat_map (table_symbol trees m) ds)
    ∙ ap (λ ts. ts ++ map table_text (flat_map (table_symbol trees m) ds)) (table_of_one trees m d)
    ∙ ap (λ ts. name_of_type (is_table_name trees m) d ++ ts) (table_texts trees m ds)

tables_same : (trees : List Tree) (m : Machine) (text : List ℕ) → repeated (machine_declarations m) ≡ [] → number_in (table_names trees m) text ≡ position (λ (t : TableSymbol). bytes_eq t.name text) (flat_map (table_symbol trees m) (machine_declarations m))
tables_same trees m text none =
    let all : table_names trees m ≡ flat_map (name_of_type (is_table_name trees m)) (machine_declarations m) = kept_all (λ (t : List ℕ). t) (λ (d : Declaration). listed (name_of d)) (name_of_type (is_table_name trees m)) (one_table (is_table_name trees m)) [] [] (machine_declarations m) (λ t e. refl) none in
    ap (position (λ name. bytes_eq name text)) (all ∙ sym (table_texts trees m (machine_declarations m)))
    ∙ position_mapped (λ name. bytes_eq name text) table_text (flat_map (table_symbol trees m) (machine_declarations m))

-- Actions and functions.

abbrev written_text : Written → List ℕ
written_text w = w.name

abbrev action_text : ActionSymbol → List ℕ
action_text a = a.name

abbrev function_text : FunctionSymbol → List ℕ
function_text f = f.name

one_action : (d : Decl) → OfOne written_text (action_in d) (names_between d)
one_action (decl.Action a) = refl
one_action _ = tt

one_body : (f : Function) → OfOne written_text (function_in (decl.Function f)) (names_between (decl.Function f))
one_body (Plain kind called formals attributes (Some body) span) = refl
one_body (Plain kind called formals attributes None span) = tt
one_body (Skipped s) = tt

one_function : (d : Decl) → OfOne written_text (function_in d) (names_between d)
one_function (decl.Function f) = one_body f
one_function _ = tt

action_texts : (n : ℕ) (ds : List Decl) → map written_text (flat_map action_in ds) ≡ map action_text (numbered_from action_symbol n ds)
action_texts n [] = refl
action_texts n (decl.Action a ∷ ds) = ap (λ ts. a.name.text ∷ ts) (action_texts (n + 1) ds)
action_texts n (_ ∷ ds) = action_texts (n + 1) ds

function_texts : (trees : List Tree) (m : Machine) (n : ℕ) (ds : List Decl) → map written_text (flat_map function_in ds) ≡ map function_text (numbered_from (function_symbol trees m) n ds)
function_texts trees m n [] = refl
function_texts trees m n (decl.Function (Plain kind called formals attributes (Some body) span) ∷ ds) = ap (λ ts. called.text ∷ ts) (function_texts trees m (n + 1) ds)
function_texts trees m n (decl.Function (Plain kind called formals attributes None span) ∷ ds) = function_texts trees m (n + 1) ds
function_texts trees m n (decl.Function (Skipped s) ∷ ds) = function_texts trees m (n + 1) ds
function_texts trees m n (_ ∷ ds) = function_texts trees m (n + 1) ds

module _ (m : Machine) (none : repeated (machine_declarations m) ≡ []) where
  -- all that is written between the braces is kept
  all_written : (made : Decl → List Written) → ((d : Decl) → OfOne written_text (made d) (names_between d)) → fold (once written_text) [] (flat_map made m.declarations) ≡ flat_map made m.declarations
  all_written made each =
      kept_all written_text names_between made each [] (names_of (map parameter m.parameters)) m.declarations (λ t e. refl) (none_between m none)

  bodies_same : (text : List ℕ) → number_in (names_of_written (written_actions m)) text ≡ position (λ (a : ActionSymbol). bytes_eq a.name text) (action_symbols m)
  bodies_same text =
      ap (λ ws. number_in (names_of_written ws) text) (all_written action_in one_action)
      ∙ ap (position (λ name. bytes_eq name text)) (action_texts 0 m.declarations)
      ∙ position_mapped (λ name. bytes_eq name text) action_text (action_symbols m)

  functions_same : (trees : List Tree) (text : List ℕ) → number_in (names_of_written (written_functions m)) text ≡ position (λ (f : FunctionSymbol). bytes_eq f.name text) (function_symbols trees m)
  functions_same trees text =
      ap (λ ws. number_in (names_of_written ws) text) (all_written function_in one_function)
      ∙ ap (position (λ name. bytes_eq name text)) (function_texts trees m 0 m.declarations)
      ∙ position_mapped (λ name. bytes_eq name text) function_text (function_symbols trees m)

-- all actions are kept among the written ones
pub actions_written : (trees : List Tree) (k : ℕ) (m : Machine) → IsAccepted trees → slice_get (machines_of trees) k ≡ Some m → written_actions m ≡ flat_map action_in m.declarations
actions_written trees k m h at = all_written m (none_repeated trees h m (machine_there (global_declarations trees) m (k, at))) action_in one_action

-- actions as declarations
abbrev action_between : Decl → List Action
action_between (decl.Action a) = a ∷ []
action_between _ = []

no_parameter : (ps : List Parameter) (ds : List Declaration) → filter is_action (map parameter ps ++ ds) ≡ filter is_action ds
no_parameter [] ds = refl
no_parameter (p ∷ ps) ds = no_parameter ps ds

actions_between : (ds : List Decl) → filter is_action (flat_map named_declarations ds) ≡ map action (flat_map action_between ds)
actions_between [] = refl
actions_between (decl.Action a ∷ ds) = ap (λ es. action a ∷ es) (actions_between ds)
actions_between (_ ∷ ds) = actions_between ds

declared_texts : (n : ℕ) (ds : List Decl) → map (λ (a : Action). a.name.text) (flat_map action_between ds) ≡ map action_text (numbered_from action_symbol n ds)
declared_texts n [] = refl
declared_texts n (decl.Action a ∷ ds) = ap (λ ts. a.name.text ∷ ts) (declared_texts (n + 1) ds)
declared_texts n (_ ∷ ds) = declared_texts (n + 1) ds

actions_same : (m : Machine) (text : List ℕ) → position (is_named text) (actions_of m) ≡ position (λ (a : ActionSymbol). bytes_eq a.name text) (action_symbols m)
actions_same m text =
    ap (position (is_named text)) (no_parameter m.parameters (flat_map named_declarations m.declarations) ∙ actions_between m.declarations)
    ∙ position_mapped (is_named text) action (flat_map action_between m.declarations)
    ∙ same_positions (λ (a : Action). a.name.text) action_text (flat_map action_between m.declarations) (action_symbols m) text (declared_texts 0 m.declarations)

-- A machine's symbols.

pub symbols_are : (trees : List Tree) (k : ℕ) (m : Machine) (s : MachineSymbols) → HasSymbols trees k m s → s ≡ machine_symbols trees k m
symbols_are trees k m s h =
    let both : Some s ≡ Some (machine_symbols trees k m) = sym h.symbols ∙ symbols_at trees k ∙ ap (option_map (machine_symbols trees k)) h.machine in
    cc both

numbered_once : (trees : List Tree) (k : ℕ) (m : Machine) → IsAccepted trees → slice_get (machines_of trees) k ≡ Some m → HasNumbers (machine_symbols trees k m) → HasOneNumbering trees m (machine_symbols trees k m)
unfolding machine_symbols
numbered_once trees k m h at few =
    let none = none_repeated trees h m (machine_there (global_declarations trees) m (k, at)) in
    record {
      tables = λ text.
          let short : length (flat_map (table_symbol trees m) (machine_declarations m)) ≤ 256 = omega (arith, few.tables) in
          tables_same trees m text none ∙ sym (short_position (λ (t : TableSymbol). bytes_eq t.name text) (flat_map (table_symbol trees m) (machine_declarations m)) short);
      functions = λ text. functions_same m none trees text ∙ sym (short_position (λ (f : FunctionSymbol). bytes_eq f.name text) (function_symbols trees m) few.functions);
      bodies = λ text. bodies_same m none text ∙ sym (short_position (λ (a : ActionSymbol). bytes_eq a.name text) (action_symbols m) few.actions);
      actions = λ text. actions_same m text ∙ sym (short_position (λ (a : ActionSymbol). bytes_eq a.name text) (action_symbols m) few.actions);
    }

pub one_numbering : (trees : List Tree) (k : ℕ) (m : Machine) (s : MachineSymbols) → IsAccepted trees → HasSymbols trees k m s → HasOneNumbering trees m s
one_numbering trees k m s h has =
    subst (λ x. HasOneNumbering trees m x) (sym (symbols_are trees k m s has))
    (numbered_once trees k m h has.machine (machine_has_numbers trees k m h has.machine))

-- Rows.

rows_same : (from event n : ℕ) (ts : List WrittenTransition) → plan.rows_from from event n ts ≡ rows_from from event n (map transition_symbol ts)
rows_same from event n [] = refl
rows_same from event n (t ∷ ts) =
    ap (λ rs. cond (is_for from event (transition_symbol t)) (row_of from event n (transition_symbol t) ∷ []) [] ++ rs) (rows_same from event (n + 1) ts)

rows_of_one : (trees : List Tree) (k : ℕ) (m : Machine) (from event : ℕ) → plan.rows m from event ≡ rows_by (machine_symbols trees k m) from event
unfolding machine_symbols
rows_of_one trees k m from event = rows_same from event 0 (written_of m)

pub rows_by_symbols : (trees : List Tree) (k : ℕ) (m : Machine) (s : MachineSymbols) → HasSymbols trees k m s → (from event : ℕ) → plan.rows m from event ≡ rows_by s from event
rows_by_symbols trees k m s has from event =
    rows_of_one trees k m from event ∙ ap (λ x. rows_by x from event) (sym (symbols_are trees k m s has))

-- Needs.

found_checks : (bodies : List Body) (f g : Name → Option ℕ) → ((n : Name) → f n ≡ g n) → (ns : List Name) → flat_map (λ n. checks_at bodies (f n)) ns ≡ flat_map (λ k. checks_or_none (slice_get bodies k)) (filter_map g ns)
found_checks bodies f g same [] = refl
found_checks bodies f g same (n ∷ ns) = ap (λ o. checks_at bodies o ++ flat_map (λ x. checks_at bodies (f x)) ns) (same n) ∙ by (g n) (found_checks bodies f g same ns)
  where
    by : (o : Option ℕ) → flat_map (λ x. checks_at bodies (f x)) ns ≡ flat_map (λ k. checks_or_none (slice_get bodies k)) (filter_map g ns)
        → checks_at bodies o ++ flat_map (λ x. checks_at bodies (f x)) ns ≡ flat_map (λ k. checks_or_none (slice_get bodies k)) (cons_option o (filter_map g ns))
    by None rest = rest
    by (Some k) rest = ap (λ ks. checks_or_none (slice_get bodies k) ++ ks) rest

module _ (trees : List Tree) (k : ℕ) (m : Machine) (table : ℕ) (one : HasOneNumbering trees m (machine_symbols trees k m)) where
  abbrev bodies : List Body
  bodies = action_bodies trees m

  need_same : (o : Option Transition) → need_of trees m table o ≡ by_symbols.need_of bodies table (option_map transition_symbol (option_map (written m) o))
  need_same None = refl
  need_same (Some t) =
      ap (count_by (λ j. j == table))
      (found_checks bodies (λ (n : Name). number_in (names_of_written (written_actions m)) n.text) (λ (n : Name). position (is_named n.text) (actions_of m))
      (λ (n : Name). one.bodies n.text ∙ sym (one.actions n.text)) t.actions)

transition_at : (trees : List Tree) (k : ℕ) (m : Machine) (transition : ℕ) → option_map transition_symbol (option_map (written m) (slice_get (transitions_of m) transition)) ≡ slice_get (machine_symbols trees k m).transitions transition
unfolding machine_symbols
transition_at trees k m transition =
    ap (option_map transition_symbol) (sym (slice_get-map (written m) (transitions_of m) transition))
    ∙ sym (slice_get-map transition_symbol (written_of m) transition)

pub needs_by_symbols : (trees : List Tree) (k : ℕ) (m : Machine) (s : MachineSymbols) → IsAccepted trees → HasSymbols trees k m s → (transition table : ℕ) → needs trees k transition table ≡ need_by s (action_bodies trees m) transition table
needs_by_symbols trees k m s h has transition table =
    let is = symbols_are trees k m s has in
    let one = one_numbering trees k m (machine_symbols trees k m) h (record { machine = has.machine; symbols = has.symbols ∙ ap Some is }) in
    ap (λ o. needs_of trees transition table o) has.machine
    ∙ need_same trees k m table one (slice_get (transitions_of m) transition)
    ∙ ap (by_symbols.need_of (action_bodies trees m) table) (transition_at trees k m transition)
    ∙ ap (λ x. need_by x (action_bodies trees m) transition table) (sym is)
