-- Numbers that are found by names, as more names get theirs.
use Rattle.std.proofs.Common.{◌≡◌, ℕ, zero, suc, ◌+◌, ◌<◌, ◌≤◌, Bool, true, false, cond, not, ◌||◌, Option, None, Some, is_some, List, [], ◌∷◌, ◌++◌, map, filter, filter_map, flat_map, length, take, position, slice_get, slice_index_or, option_and_then, nat_lt, eqb, refl, sym, ap, subst, ◌∙◌, arith, add-one, append-nil, bytes_eq}
use Rattle.std.specs.List.{cons_option, list_any, position_or_len}
use Rattle.std.specs.Option.{option_map, option_or}
use Rattle.std.proofs.Math.Seq.{take-suc}
use Rattle.std.proofs.lemmas.List.{length-append, map-append}
use Rattle.std.proofs.lemmas.List.Elements.{filter-append, filter_map-append}
use Rattle.std.proofs.lemmas.List.Folds.{position_or_len_push}
use Rattle.std.proofs.lemmas.List.Quantifiers.{position-Some}
use Rattle.std.proofs.lemmas.List.Sums.{prefix_len-le-length}
use Rattle.std.proofs.lemmas.Slice.Eq.{bytes_eq-Decides}
use Rattle.std.proofs.lemmas.Grind.{common_steps, flat_map-append}
use Rattle.slicc_ast.specs.declared.tree.name.Name.{Name}
use Rattle.slicc_ast.specs.declared.tree.machine.Action.{Action}
use Rattle.slicc_ast.specs.declared.tree.machine.Decl.{Decl}
use Rattle.slicc_ast.specs.declared.tree.machine.Decl.TheVariants.{States, Enumeration, Structure, OutPort, InPort, Action as ActionDecl, Transition as TransitionDecl, Function, Object}
use Rattle.slicc_ast.specs.declared.tree.machine.Machine.{Machine}
use Rattle.slicc_ast.specs.declared.tree.machine.NextState.{NextState}
use Rattle.slicc_ast.specs.declared.tree.machine.NextState.TheVariants.{Named, Asked}
use Rattle.slicc_ast.specs.declared.tree.machine.Transition.{Transition}
use Rattle.ruby_symbols.specs.declared.machine.Next.TheVariants.{To}
use Rattle.slicc_plan.specs.Prelude.{event_members, is_action, state_members, actions_of, each_once, next_number, transitions_of, written, written_of, Declaration, action, is_named, is_text, name_of, named_declarations}
use Rattle.slicc_plan.specs.Machines.{names_in}
use Rattle.machine_table.specs.declared.numbers.PartNumbers.{PartNumbers}
use Rattle.slicc_plan.specs.Buffers.{listed}
use Rattle.ruby_base.specs.Prelude.{is_name, number_among, with_name}
use Rattle.machine_table.specs.Prelude.{Finding, actions_among, found_by, found_in, found_next, found_with, written_with}

listed_option : {Y : Type 0} (o : Option Y) → cons_option o [] ≡ listed o
listed_option None = refl
listed_option (Some y) = refl

module _ {X : Type 0} where
  pub any_first : (p : X → Bool) (xs : List X) → list_any p xs ≡ nat_lt (position_or_len p xs) (length xs)
  any_first p [] = refl
  any_first p (x ∷ xs) = by (p x) _ _ (any_first p xs)
    where
      by : (a b : Bool) (n : ℕ) → b ≡ nat_lt n (length xs) → (a || b) ≡ nat_lt (cond (not a) (1 + n) 0) (suc (length xs))
      by true b n e = grind arith
      by false b n e = grind arith

  pub position-push : (p : X → Bool) (xs : List X) (y : X) → position p (xs ++ y ∷ []) ≡ option_or (position p xs) (cond (p y) (Some (length xs)) None)
  position-push p xs y =
      by (p y) (position_or_len p xs) (length xs) (position_or_len p (xs ++ y ∷ [])) (length (xs ++ y ∷ [])) (prefix_len-le-length (λ x. not (p x)) xs) (position_or_len_push p xs y) (length-append xs (y ∷ []))
    where
      by : (a : Bool) (m n q l : ℕ) → m ≤ n → q ≡ cond (eqb m n) (n + cond a 0 1) m → l ≡ n + 1 → cond (nat_lt q l) (Some q) None ≡ option_or (cond (nat_lt m n) (Some m) None) (cond a (Some n) None)
      by true m n q l le e k = grind arith
      by false m n q l le e k = grind arith

  pub filter_step : {Y : Type 0} (f : X → Option Y) (xs : List X) (i : ℕ) (d : X) → i < length xs → filter_map f (take (i + 1) xs) ≡ filter_map f (take i xs) ++ listed (f (slice_index_or xs i d))
  filter_step f xs i d below =
      let taken : take (i + 1) xs ≡ take i xs ++ slice_index_or xs i d ∷ [] = rw (add-one, take-suc xs i d below) refl in
      rw (taken, filter_map-append f (take i xs) (slice_index_or xs i d ∷ [])) (ap (λ ys. filter_map f (take i xs) ++ ys) (listed_option (f (slice_index_or xs i d))))

  pub none_any : (p : X → Bool) (xs : List X) → is_some (position p xs) ≡ false → list_any p xs ≡ false
  none_any p xs h = any_first p xs ∙ by (nat_lt (position_or_len p xs) (length xs)) (position_or_len p xs) h
    where
      by : (b : Bool) (n : ℕ) → is_some (cond b (Some n) None) ≡ false → b ≡ false
      by true n h = cc
      by false n h = refl

  pub get_front : (xs ys : List X) (i : ℕ) (p : Option X) → i < length xs → slice_get (xs ++ ys) i ≡ option_or (slice_get xs i) p
  get_front [] ys i p below = absurd (not_below i below)
    where
      not_below : (i : ℕ) → i < 0 → ⊥
      not_below i h = omega arith
  get_front (x ∷ xs) ys zero p below = refl
  get_front (x ∷ xs) ys (suc i) p below = get_front xs ys i p (omega arith)

  pub get_kept : (xs : List X) (i : ℕ) (p : Option X) → i < length xs → slice_get xs i ≡ option_or (slice_get xs i) p
  get_kept xs i p below = ap (λ ys. slice_get ys i) (sym (append-nil xs)) ∙ get_front xs [] i p below

  pub get_last : (xs : List X) (y : X) → slice_get (xs ++ y ∷ []) (length xs) ≡ Some y
  get_last [] y = refl
  get_last (x ∷ xs) y = get_last xs y

  or_none : (o : Option X) → o ≡ option_or o None
  or_none None = refl
  or_none (Some x) = refl

-- one more declaration with a name
pub named_push : (ds : List Declaration) (d : Declaration) (n : Name) (text : List ℕ) (old new : Option ℕ) → name_of d ≡ Some n → old ≡ position (is_named text) ds → new ≡ option_or old (cond (bytes_eq n.text text) (Some (length ds)) None) → new ≡ position (is_named text) (ds ++ d ∷ [])
named_push ds d n text old new name e f =
    let same : is_named text d ≡ bytes_eq n.text text = ap (is_text text) name in
    f ∙ ap (λ o. option_or o (cond (bytes_eq n.text text) (Some (length ds)) None)) e
    ∙ ap (λ b. option_or (position (is_named text) ds) (cond b (Some (length ds)) None)) (sym same) ∙ sym (position-push (is_named text) ds d)

-- a name that has a number keeps it
pub found_there : (names : List (List ℕ)) (numbers name : List ℕ) (k : ℕ) (text : List ℕ) → length numbers ≡ length names → is_some (number_among names name) ≡ true → found_in names numbers text ≡ found_with (found_in names numbers) name k text
found_there names numbers name k text len there = by (bytes_eq name text) refl
  where
    present : (o : Option ℕ) → o ≡ number_among names name → is_some o ≡ true → (p : Option ℕ) → option_and_then (slice_get numbers) o ≡ option_or (option_and_then (slice_get numbers) o) p
    present None e h p = cc
    present (Some i) e h p =
        let below = position-Some (is_name name) names i [] (sym e) in
        let inside : i < length numbers = omega (arith, below.0) in
        get_kept numbers i p inside

    by : (b : Bool) → b ≡ bytes_eq name text → found_in names numbers text ≡ option_or (found_in names numbers text) (cond b (Some k) None)
    by true e =
        let same : name ≡ text = (bytes_eq-Decides name text).0 (sym e) in
        subst (λ t. found_in names numbers t ≡ option_or (found_in names numbers t) (Some k)) same (present (number_among names name) refl there (Some k))
    by false e = or_none (found_in names numbers text)

-- a name without a number gets this one
pub found_new : (names : List (List ℕ)) (numbers name : List ℕ) (k : ℕ) (text : List ℕ) → length numbers ≡ length names → is_some (number_among names name) ≡ false → found_in (with_name names name) (numbers ++ k ∷ []) text ≡ found_with (found_in names numbers) name k text
found_new names numbers name k text len new =
    let absent : list_any (is_name name) names ≡ false = none_any (is_name name) names new in
    ap (λ b. found_in (cond b names (names ++ name ∷ [])) (numbers ++ k ∷ []) text) absent
    ∙ ap (λ o. option_and_then (slice_get (numbers ++ k ∷ [])) o) (position-push (is_name text) names name)
    ∙ by (number_among names text) refl (bytes_eq name text)
  where
    by : (o : Option ℕ) → o ≡ number_among names text → (b : Bool) → option_and_then (slice_get (numbers ++ k ∷ [])) (option_or o (cond b (Some (length names)) None)) ≡ option_or (option_and_then (slice_get numbers) o) (cond b (Some k) None)
    by None e true = ap (slice_get (numbers ++ k ∷ [])) (sym len) ∙ get_last numbers k
    by None e false = refl
    by (Some i) e b =
        let below = position-Some (is_name text) names i [] (sym e) in
        let inside : i < length numbers = omega (arith, below.0) in
        get_front numbers (k ∷ []) i (cond b (Some k) None) inside

pub found_added : (names more : List (List ℕ)) (numbers longer name : List ℕ) (j k : ℕ) (text : List ℕ) → length numbers ≡ length names → is_some (number_among names name) ≡ false → more ≡ with_name names name → longer ≡ numbers ++ j ∷ [] → j ≡ k → found_in more longer text ≡ found_with (found_in names numbers) name k text
found_added names more numbers longer name j k text len new e f g =
    (λ i. found_in (e i) ((f ∙ ap (λ n. numbers ++ n ∷ []) g) i) text) ∙ found_new names numbers name k text len new

-- one more step of a loop over declarations with names
pub member_step : {T : Type 0} (f : T → Declaration) (ms : List T) (i : ℕ) (m : T) (n : Name) (text : List ℕ) (old new : Option ℕ) → i < length ms → m ≡ slice_index_or ms i m → name_of (f m) ≡ Some n → old ≡ position (is_named text) (map f (take i ms)) → new ≡ option_or old (cond (bytes_eq n.text text) (Some i) None) → new ≡ position (is_named text) (map f (take (i + 1) ms))
member_step f ms i m n text old new below is name e g =
    let taken : take (i + 1) ms ≡ take i ms ++ m ∷ [] = rw (add-one, take-suc ms i m below) (ap (λ x. take i ms ++ x ∷ []) (sym is)) in
    let len : length (map f (take i ms)) ≡ i = grind (arith, common_steps) in
    named_push (map f (take i ms)) (f m) n text old new name e (g ∙ ap (λ k. option_or old (cond (bytes_eq n.text text) (Some k) None)) (sym len))
    ∙ ap (position (is_named text)) (sym (map-append f (take i ms) (m ∷ []))) ∙ ap (λ xs. position (is_named text) (map f xs)) (sym taken)

-- one more of a machine's declarations, where it is an action
pub actions_step : (ds : List Decl) (i : ℕ) (d : Decl) → i < length ds → d ≡ slice_index_or ds i d → actions_among (take (i + 1) ds) ≡ actions_among (take i ds) ++ filter is_action (named_declarations d)
actions_step ds i d below is =
    let taken : take (i + 1) ds ≡ take i ds ++ d ∷ [] = rw (add-one, take-suc ds i d below) (ap (λ x. take i ds ++ x ∷ []) (sym is)) in
    ap actions_among taken ∙ ap (filter is_action) (flat_map-append named_declarations (take i ds) (d ∷ []))
    ∙ filter-append is_action (flat_map named_declarations (take i ds)) (flat_map named_declarations (d ∷ []))
    ∙ ap (λ xs. actions_among (take i ds) ++ filter is_action xs) (append-nil (named_declarations d))

pub fewer_among : (ds : List Decl) (i : ℕ) → length (actions_among (take i ds)) ≤ length (actions_among ds)
fewer_among [] zero = omega arith
fewer_among [] (suc i) = omega arith
fewer_among (d ∷ ds) zero = omega arith
fewer_among (d ∷ ds) (suc i) = omega (arith, one (take i ds), one ds, fewer_among ds i)
  where
    one : (xs : List Decl) → length (actions_among (d ∷ xs)) ≡ length (filter is_action (named_declarations d)) + length (actions_among xs)
    one xs =
        ap length (filter-append is_action (named_declarations d) (flat_map named_declarations xs))
        ∙ length-append (filter is_action (named_declarations d)) (actions_among xs)

no_action : (d : Decl) → ((a : Action) → d ≡ ActionDecl a → ⊥) → filter is_action (named_declarations d) ≡ []
no_action (States s) h = refl
no_action (Enumeration e) h = refl
no_action (Structure s) h = refl
no_action (OutPort p) h = refl
no_action (InPort p) h = refl
no_action (ActionDecl a) h = absurd (h a refl)
no_action (TransitionDecl t) h = refl
no_action (Function f) h = refl
no_action (Object o) h = refl

pub action_skipped : (ds : List Decl) (i : ℕ) (d : Decl) → i < length ds → d ≡ slice_index_or ds i d → ((a : Action) → d ≡ ActionDecl a → ⊥) → actions_among (take (i + 1) ds) ≡ actions_among (take i ds)
action_skipped ds i d below at none =
    actions_step ds i d below at ∙ ap (λ xs. actions_among (take i ds) ++ xs) (no_action d none) ∙ append-nil (actions_among (take i ds))

pub action_added : (ds : List Decl) (i k : ℕ) (d : Decl) (a : Action) (text : List ℕ) (old new : Option ℕ) → i < length ds → d ≡ slice_index_or ds i d → d ≡ ActionDecl a → k ≡ length (actions_among (take i ds)) → old ≡ position (is_named text) (actions_among (take i ds)) → new ≡ option_or old (cond (bytes_eq a.name.text text) (Some k) None) → new ≡ position (is_named text) (actions_among (take (i + 1) ds))
action_added ds i k d a text old new below at is count e f =
    named_push (actions_among (take i ds)) (action a) a.name text old new refl e (f ∙ ap (λ n. option_or old (cond (bytes_eq a.name.text text) (Some n) None)) count)
    ∙ ap (position (is_named text)) (sym (actions_step ds i d below at ∙ ap (λ x. actions_among (take i ds) ++ filter is_action (named_declarations x)) is))

pub action_counted : (ds : List Decl) (i k : ℕ) (d : Decl) (a : Action) → i < length ds → d ≡ slice_index_or ds i d → d ≡ ActionDecl a → k ≡ length (actions_among (take i ds)) → k + 1 ≡ length (actions_among (take (i + 1) ds))
action_counted ds i k d a below at is count =
    ap (λ n. n + 1) count ∙ sym (length-append (actions_among (take i ds)) (action a ∷ []))
    ∙ ap length (sym (actions_step ds i d below at ∙ ap (λ x. actions_among (take i ds) ++ filter is_action (named_declarations x)) is))

-- Names in transitions.

next_same : (found : Finding) (m : Machine) → ((text : List ℕ) → found text ≡ position (is_named text) (state_members m)) → (o : Option NextState) → found_next found o ≡ next_number m o
next_same found m h None = refl
next_same found m h (Some (Named n)) = ap (option_map To) (h n.text)
next_same found m h (Some (Asked place)) = refl

pub written_same : (parts : PartNumbers) (m : Machine) → ((text : List ℕ) → found_by parts.states text ≡ position (is_named text) (state_members m)) → ((text : List ℕ) → found_by parts.events text ≡ position (is_named text) (event_members m)) → ((text : List ℕ) → found_by parts.actions text ≡ position (is_named text) (actions_of m)) → map (written_with parts) (transitions_of m) ≡ written_of m
written_same parts m states events actions = λ i. map (λ t. one t i) (transitions_of m)
  where
    one : (t : Transition) → written_with parts t ≡ written m t
    one t = λ i. record {
      states = each_once (filter_map (λ (n : Name). states n.text i) (names_in t.states));
      events = each_once (filter_map (λ (n : Name). events n.text i) (names_in t.events));
      next = next_same (found_by parts.states) m states t.next i;
      actions = filter_map (λ (n : Name). actions n.text i) t.actions;
      span = t.span;
    }
