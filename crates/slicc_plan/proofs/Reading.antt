-- A machine of an accepted protocol that declares `getState` has it with a body, since no call that is built in has that name.
use Rattle.std.proofs.Common.{◌≡◌, ◌++◌, ◌+◌, ◌||◌, ◌≤◌, ◌∙◌, ℕ, suc, Bool, true, false, cond, Option, None, Some, List, [], ◌∷◌, All, flat_map, get_or, length, length-append, ltb, map, slice_get, refl, sym, ap, arith}
use Rattle.std.specs.Prelude.{codes, is_some}
use Rattle.std.specs.List.{AllPairs, list_any, position_or_len}
use Rattle.std.specs.Str.{bytes_eq}
use Rattle.std.proofs.Math.Bool.{or-false}
use Rattle.std.proofs.lemmas.Bool.{false_from_ne_true}
use Rattle.std.proofs.lemmas.Grind.{common_steps}
use Rattle.std.proofs.lemmas.List.Elements.{All-head, All-tail, All-weaker}
use Rattle.std.proofs.lemmas.List.Folds.{list_any_none}
use Rattle.std.proofs.lemmas.Slice.Eq.{bytes_eq-Decides}
use Rattle.ruby_value.proofs.Ordered.{AllPairs-head, AllPairs-tail}
use Rattle.ruby_symbols.specs.declared.machine.FunctionSymbol.{FunctionSymbol}
use Rattle.ruby_symbols.specs.Prelude.{function_among, number_of}
use Rattle.slicc_ast.specs.declared.tree.declaration.Function.TheVariants.{Plain, Skipped}
use Rattle.slicc_ast.specs.declared.tree.item.Tree.{Tree}
use Rattle.slicc_ast.specs.declared.tree.machine.Decl.{Decl}
use Rattle.slicc_ast.specs.declared.tree.machine.Decl.TheVariants as decl
use Rattle.slicc_ast.specs.declared.tree.machine.Machine.{Machine}
use Rattle.slicc_ast.specs.declared.tree.machine.Parameter.{Parameter}
use Rattle.slicc_ast.specs.declared.tree.name.Name.{Name}
use Rattle.slicc_plan.specs.Prelude.{IsAccepted, is_call, permission_call, Declaration, parameter, function, within, first_named, global_declarations, is_named, is_text, machine_declarations, machine_names, machines_of, name_of, named_declarations, function_found, function_named, told_unless, unknown_built_in, function_symbol, function_symbols, numbered_from}
use Rattle.slicc_plan.proofs.Room.{mapped_at, none_at}
use Rattle.slicc_plan.proofs.Messages.{none_unknown}
use Rattle.slicc_plan.proofs.Names.{Apart, machine_apart}
use Rattle.slicc_plan.proofs.Numbering.{short_position}
use Rattle.slicc_plan.proofs.There.{all_from, machine_there}

-- What passes a test has a place.
placed : {X : Type 0} (p : X → Bool) (xs : List X) → ltb (position_or_len p xs) (length xs) ≡ list_any p xs
placed p [] = refl
placed p (x ∷ xs) = let rest = placed p xs in grind (arith, common_steps)

has_number : {X : Type 0} (p : X → Bool) (xs : List X) → length xs ≤ 256 → is_some (number_of p xs) ≡ list_any p xs
has_number p xs few =
    ap is_some (short_position p xs few) ∙ some (ltb (position_or_len p xs) (length xs)) (position_or_len p xs) ∙ placed p xs
  where
    some : (b : Bool) (n : ℕ) → is_some (cond b (Some n) None) ≡ b
    some true n = refl
    some false n = refl

-- the declaration is a function of this name with a body
abbrev has_body : List ℕ → Declaration → Bool
has_body text (function (Plain kind called formals attributes (Some body) span)) = bytes_eq called.text text
has_body text _ = false

no_parameter : (text : List ℕ) (ps : List Parameter) (ds : List Declaration) → list_any (has_body text) (map parameter ps ++ ds) ≡ list_any (has_body text) ds
no_parameter text [] ds = refl
no_parameter text (p ∷ ps) ds = no_parameter text ps ds

abbrev is_function : List ℕ → FunctionSymbol → Bool
is_function text f = bytes_eq f.name text

among_symbols : (trees : List Tree) (m : Machine) (text : List ℕ) (n : ℕ) (ds : List Decl) → list_any (is_function text) (numbered_from (function_symbol trees m) n ds) ≡ list_any (has_body text) (flat_map named_declarations ds)
among_symbols trees m text n [] = refl
among_symbols trees m text n (decl.Function (Plain kind called formals attributes (Some body) span) ∷ ds) = ap (λ b. bytes_eq called.text text || b) (among_symbols trees m text (n + 1) ds)
among_symbols trees m text n (decl.Function (Plain kind called formals attributes None span) ∷ ds) = among_symbols trees m text (n + 1) ds
among_symbols trees m text n (decl.Function (Skipped s) ∷ ds) = among_symbols trees m text (n + 1) ds
among_symbols trees m text n (decl.Transition t ∷ ds) = among_symbols trees m text (n + 1) ds
among_symbols trees m text n (_ ∷ ds) = among_symbols trees m text (n + 1) ds

-- In a machine no other declaration has the name.

named_body : (text : List ℕ) (d : Declaration) → has_body text d ≡ true → (n : Name) × (name_of d ≡ Some n) × (bytes_eq n.text text ≡ true)
named_body text (function (Plain kind called formals attributes (Some body) span)) is = (called, refl, is)
named_body text (function (Plain kind called formals attributes None span)) is = absurd (cc is)
named_body text (function (Skipped s)) is = absurd (cc is)
named_body text _ is = absurd (cc is)

named_text : (text : List ℕ) (o : Option Name) → is_text text o ≡ true → (n : Name) × (o ≡ Some n) × (bytes_eq n.text text ≡ true)
named_text text None is = absurd (cc is)
named_text text (Some n) is = (n, refl, is)

same_text : (a b text : List ℕ) → bytes_eq a text ≡ true → bytes_eq b text ≡ true → bytes_eq a b ≡ true
same_text a b text first second =
    (bytes_eq-Decides a b).1 ((bytes_eq-Decides a text).0 first ∙ sym ((bytes_eq-Decides b text).0 second))

module _ (text : List ℕ) where
  no_other : (d e : Declaration) → is_named text d ≡ true → Apart d e → has_body text e ≡ false
  no_other d e named apart =
      false_from_ne_true (has_body text e)
      (λ is.
      let one = named_text text (name_of d) named in
      let other = named_body text e is in
      apart one.0 other.0 one.1 other.1 (same_text one.0.text other.0.text text one.2 other.2))

  not_named : (d : Declaration) → is_named text d ≡ false → has_body text d ≡ false
  not_named d other =
      false_from_ne_true (has_body text d)
      (λ is.
      let named = named_body text d is in
      cc (sym other ∙ ap (is_text text) named.1 ∙ named.2))

  -- a function of this name has a body
  abbrev Bodied : Declaration → Type 0
  Bodied d = is_named text d ≡ true → has_body text d ≡ is_some (function_found (Some d))

  one_body : (ds : List Declaration) → AllPairs Apart ds → All Bodied ds → list_any (has_body text) ds ≡ is_some (function_found (first_named text ds))
  one_body [] apart all = refl
  one_body (d ∷ ds) apart all =
      by (is_named text d) refl (one_body ds (AllPairs-tail Apart d ds apart) (All-tail Bodied d ds all))
    where
      by : (b : Bool) → is_named text d ≡ b → list_any (has_body text) ds ≡ is_some (function_found (first_named text ds)) → (has_body text d || list_any (has_body text) ds) ≡ is_some (function_found (cond b (Some d) (first_named text ds)))
      by true named rest =
          let none : list_any (has_body text) ds ≡ false = list_any_none (has_body text) ds (All-weaker (Apart d) (λ e. has_body text e ≡ false) (λ e is. no_other d e named is) ds (AllPairs-head Apart d ds apart)) in
          ap (λ b. has_body text d || b) none ∙ or-false (has_body text d) ∙ All-head Bodied d ds all named
      by false other rest = ap (λ b. b || list_any (has_body text) ds) (not_named d other) ∙ rest

-- No call that is built in is `getState`.

not_permission : (machine : List ℕ) → bytes_eq (permission_call machine) (codes "getState") ≡ false
not_permission machine =
    false_from_ne_true (bytes_eq (permission_call machine) (codes "getState"))
    (λ is.
    let long : length (permission_call machine) ≡ length machine + 20 = length-append machine (codes "_State_to_permission") in
    let short : length (permission_call machine) ≡ 8 = ap (λ (cs : List ℕ). length cs) ((bytes_eq-Decides (permission_call machine) (codes "getState")).0 is) in
    absurd (omega (arith, long, short)))

no_call : (machines : List (List ℕ)) → is_call machines (codes "getState") ≡ false
no_call machines =
    list_any_none (λ machine. bytes_eq (permission_call machine) (codes "getState")) machines (λ k d lt. not_permission (get_or machines k d))

bodied : (machines : List (List ℕ)) (d : Declaration) → unknown_built_in machines d ≡ [] → Bodied (codes "getState") d
bodied machines (function (Plain kind called formals attributes (Some body) span)) none named = named
bodied machines (function (Plain kind called formals attributes None span)) none named =
    let text : called.text ≡ codes "getState" = (bytes_eq-Decides called.text (codes "getState")).0 named in
    let told : told_unless false span ≡ [] = ap (λ b. told_unless b span) (sym (ap (is_call machines) text ∙ no_call machines)) ∙ none in
    absurd (cc told)
bodied machines (function (Skipped s)) none named = refl
bodied machines _ none named = refl

pub reads_states : (trees : List Tree) → IsAccepted trees → (k : ℕ) (m : Machine) → slice_get (machines_of trees) k ≡ Some m → length (function_symbols trees m) ≤ 256
    → is_some (function_among (function_symbols trees m) (codes "getState")) ≡ is_some (function_named m (codes "getState"))
reads_states trees accepted k m at few =
    let text = codes "getState" in
    let there = machine_there (global_declarations trees) m (k, at) in
    let known = none_unknown trees accepted (suc k) (within m) (mapped_at within (machines_of trees) k m at) in
    has_number (is_function text) (function_symbols trees m) few
    ∙ among_symbols trees m text 0 m.declarations
    ∙ sym (no_parameter text m.parameters (flat_map named_declarations m.declarations))
    ∙ one_body text (machine_declarations m) (machine_apart trees accepted m there)
    (all_from (Bodied text) (machine_declarations m) (λ d place. bodied (machine_names trees) d (none_at (unknown_built_in (machine_names trees)) (machine_declarations m) place.0 d known place.1)))
