-- The messages of ports: in an accepted protocol a port is on a buffer of its machine, whose messages have the port's type.
use Rattle.std.specs.Prelude.{◌⊎◌}
use Rattle.std.proofs.Common.{◌≡◌, ◌∙◌, ◌==◌, ◌+◌, ◌++◌, ◌&&◌, ◌||◌, ℕ, zero, suc, Bool, true, false, cond, eqb-true, not, Option, None, Some, List, [], ◌∷◌, find, flat_map, map, slice_get, refl, sym, ap, subst, arith, option_and_then, inl, inr, codes}
use Rattle.std.specs.List.{AllPairs, list_any}
use Rattle.std.specs.Option.{option_or}
use Rattle.std.specs.Str.{bytes_eq}
use Rattle.std.proofs.lemmas.Bool.{and_parts}
use Rattle.std.proofs.lemmas.List.Kept.{AllPairs-cons}
use Rattle.ruby_value.proofs.Ordered.{AllPairs-head, AllPairs-nil, AllPairs-tail}
use Rattle.ruby_symbols.specs.declared.machine.BufferSymbol.{BufferSymbol}
use Rattle.ruby_symbols.specs.declared.names.Named.TheVariants as named
use Rattle.ruby_symbols.specs.Names.{buffer_among}
use Rattle.slicc_ast.specs.declared.tree.declaration.Pairs.{Pairs}
use Rattle.slicc_ast.specs.declared.tree.item.Tree.{Tree}
use Rattle.slicc_ast.specs.declared.tree.machine.Decl.{Decl}
use Rattle.slicc_ast.specs.declared.tree.machine.Decl.TheVariants as decl
use Rattle.slicc_ast.specs.declared.tree.machine.InPort.{InPort}
use Rattle.slicc_ast.specs.declared.tree.machine.Machine.{Machine}
use Rattle.slicc_ast.specs.declared.tree.machine.OutPort.{OutPort}
use Rattle.slicc_ast.specs.declared.tree.name.Name.{Name}
use Rattle.slicc_ast.specs.declared.tree.name.TypeName.{TypeName}
use Rattle.slicc_ast.specs.declared.tree.span.Span.{Span}
use Rattle.slicc_plan.specs.declared.broken.Rule.TheVariants.{WrongType}
use Rattle.slicc_plan.specs.declared.built_in.BuiltInType.TheVariants.{Buffer, Int, MachineId, Request}
use Rattle.slicc_plan.specs.AllRules.{IsAccepted}
use Rattle.slicc_plan.specs.BrokenBodies.{broken_port, port_environment, wrong_type_in}
use Rattle.slicc_plan.specs.Buffers.{BufferIn, Place, own, to_network, from_network, PortOn, buffer_in, buffer_named, buffer_of, is_same_known, place_by, port_in, port_on, ports_of}
use Rattle.slicc_plan.specs.BuiltIn.{is_table_nature, nature_of, type_number}
use Rattle.slicc_plan.specs.Declarations.{Declaration, parameter, object, in_port, out_port, within, first_named, is_named, machine_declarations, machines_of, named_declarations}
use Rattle.slicc_plan.specs.Environment.{bound_as, fixed, declared_value, meaning_of_found, names_everywhere, value_outside, wrong_meaning, wrong_value_name}
use Rattle.slicc_plan.specs.JudgedStatements.{body_judged}
use Rattle.slicc_plan.specs.Meanings.{value, table, unknown, unless, table_of, is_message, is_object_type, is_value, object_of_type, unfit, value_of_type}
use Rattle.slicc_plan.specs.MessageTypes.{is_on, is_on_network, message_type, port_message, type_at}
use Rattle.slicc_plan.specs.Networks.{all_ports, all_ports_from, differ, differing_after, doubled_in, is_mandatory, is_one_network, is_one_own_buffer, is_own, port_broken, wrong_ports_in}
use Rattle.slicc_plan.specs.Machines.{in_each}
use Rattle.slicc_plan.specs.Setups.{attributes_of, buffer_place, is_ordered}
use Rattle.slicc_plan.specs.SymbolsOfMachines.{buffer_of_place, buffer_symbol, buffer_symbols, machine_symbols}
use Rattle.slicc_plan.specs.TypeNumbers.{request_number, structure_number}
use Rattle.slicc_plan.specs.Types.{KnownType, built_in, enumerated, structured, is_built_in, type_in}
use Rattle.slicc_plan.specs.UnknownTypes.{use_of}
use Rattle.slicc_plan.proofs.MachinesKept.{machines_kept}
use Rattle.slicc_plan.proofs.Room.{left_none, right_none}
use Rattle.slicc_plan.proofs.There.{There, all_from, all_there, found_passes, there_first, there_flat, there_found, there_left, there_right}
use Rattle.rules_symbols.specs.NamedValues.{IsPortOf}
use Rattle.rules_symbols.proofs.Lists.{find_some}
use Rattle.rules_symbols.proofs.Owners.{text_turned}
use Rattle.rules_symbols.proofs.Parameters.{machine_scope, right_type, type_known, unbroken}
use Rattle.rules_symbols.proofs.Standing.{in_port_stands, out_port_stands}
use Rattle.rules_symbols.proofs.Types.{built_in_same, same_text, structures_alike}
use Rattle.rules_symbols.proofs.ValueKinds.{enumeration_itself, structure_itself}
use Rattle.rules_symbols.proofs.ValueNames.{buffers_some}

number_itself : (n : ℕ) → (n == n) ≡ true
number_itself n = grind arith

number_turned : (n j : ℕ) → (n == j) ≡ true → (j == n) ≡ true
number_turned n j is = grind arith

pub known_itself : (t : KnownType) → is_same_known t t ≡ true
known_itself (built_in b) = number_itself (type_number b)
known_itself (enumerated scope text members) = enumeration_itself scope text members members
known_itself (structured scope s) = structure_itself scope s

-- the same types have one number
pub numbers_alike : (trees : List Tree) (t u : KnownType) → is_same_known t u ≡ true → structure_number trees t ≡ structure_number trees u
numbers_alike trees (built_in b) (built_in c) is = ap (request_number trees) (built_in_same b c is)
numbers_alike trees (enumerated a s members) (enumerated b t others) is = refl
numbers_alike trees (structured a s) (structured b t) is = structures_alike trees a b s t is
numbers_alike trees (built_in b) (enumerated c u symbols) is = absurd (cc is)
numbers_alike trees (built_in b) (structured c u) is = absurd (cc is)
numbers_alike trees (enumerated a s members) (built_in c) is = absurd (cc is)
numbers_alike trees (enumerated a s members) (structured c u) is = absurd (cc is)
numbers_alike trees (structured a s) (built_in c) is = absurd (cc is)
numbers_alike trees (structured a s) (enumerated c u symbols) is = absurd (cc is)

-- Ports that may not differ.

abbrev Undiffering : PortOn → PortOn → Type 0
Undiffering q p = differ p q ≡ false

port_unbroken : (b : Bool) (p : PortOn) → port_broken b p ≡ [] → b ≡ false
port_unbroken true p none = absurd (cc none)
port_unbroken false p none = refl

none_of : (p q : PortOn) (before : List PortOn) → list_any (differ p) before ≡ false → There before q → differ p q ≡ false
none_of p q [] none there = absurd (cc there.1)
none_of p q (x ∷ xs) none (zero, at) = let same : x ≡ q = cc at in ap (differ p) (sym same) ∙ first (differ p x) (list_any (differ p) xs) none
  where
    first : (a b : Bool) → (a || b) ≡ false → a ≡ false
    first true b e = absurd (cc e)
    first false b e = refl
none_of p q (x ∷ xs) none (suc j, at) = none_of p q xs (second (differ p x) (list_any (differ p) xs) none) (j, at)
  where
    second : (a b : Bool) → (a || b) ≡ false → b ≡ false
    second true b e = absurd (cc e)
    second false b e = e

undiffering : (before ps : List PortOn) → differing_after before ps ≡ [] → (q p : PortOn) → There before q → There ps p → Undiffering q p
undiffering before [] none q p first there = absurd (cc there.1)
undiffering before (x ∷ xs) none q p first (zero, at) =
    let same : x ≡ p = cc at in
    subst (λ (y : PortOn). Undiffering q y) same
    (none_of x q before (port_unbroken (list_any (differ x) before) x (left_none (port_broken (list_any (differ x) before) x) (differing_after (before ++ x ∷ []) xs) none)) first)
undiffering before (x ∷ xs) none q p first (suc j, at) =
    undiffering (before ++ x ∷ []) xs (right_none (port_broken (list_any (differ x) before) x) (differing_after (before ++ x ∷ []) xs) none) q p
    (there_left before (x ∷ []) q first) (j, at)

pairs_undiffering : (before ps : List PortOn) → differing_after before ps ≡ [] → AllPairs Undiffering ps
pairs_undiffering before [] none = AllPairs-nil Undiffering
pairs_undiffering before (x ∷ xs) none =
    let rest = right_none (port_broken (list_any (differ x) before) x) (differing_after (before ++ x ∷ []) xs) none in
    AllPairs-cons Undiffering x xs
    (all_from (Undiffering x) xs (λ p there. undiffering (before ++ x ∷ []) xs rest x p (there_right before (x ∷ []) x (there_first x [])) there))
    (pairs_undiffering (before ++ x ∷ []) xs rest)

-- what is found first is this one, or comes before it
first_before : {X : Type 0} (R : X → X → Type 0) (test : X → Bool) (xs : List X) (q p : X) → AllPairs R xs → find test xs ≡ Some q → There xs p → test p ≡ true → (q ≡ p) ⊎ R q p
first_before R test [] q p pairs found there passes = absurd (cc there.1)
first_before {X} R test (x ∷ xs) q p pairs found there passes = by (test x) refl found there (λ rest later. first_before R test xs q p (AllPairs-tail R x xs pairs) rest later passes)
  where
    by : (b : Bool) → test x ≡ b → cond b (Some x) (find test xs) ≡ Some q → There (x ∷ xs) p → (find test xs ≡ Some q → There xs p → (q ≡ p) ⊎ R q p) → (q ≡ p) ⊎ R q p
    by true is same (zero, at) in_rest = let both : Some q ≡ Some p = sym same ∙ at in inl (cc both)
    by true is same (suc j, at) in_rest =
        let one : x ≡ q = cc same in inr (subst (λ (y : X). R y p) one (all_there (R x) xs p (AllPairs-head R x xs pairs) (j, at)))
    by false is rest (zero, at) in_rest = let one : x ≡ p = cc at in absurd (cc (sym is ∙ ap test one ∙ passes))
    by false is rest (suc j, at) in_rest = in_rest rest (j, at)

-- Types of messages.

module _ (trees : List Tree) (accepted : IsAccepted trees) where
  ports_undiffering : AllPairs Undiffering (all_ports trees)
  ports_undiffering =
      let kept = machines_kept trees accepted.of_machines in
      let first = differing_after [] (all_ports trees) in
      pairs_undiffering [] (all_ports trees)
      (left_none first (in_each (wrong_ports_in trees) trees) (left_none (first ++ in_each (wrong_ports_in trees) trees) (in_each (doubled_in trees) trees) kept.networks))

  -- two that go together have one type
  alike : (q p : PortOn) → (is_one_network p.buffer.place q.buffer.place || is_one_own_buffer p q) ≡ true → (q ≡ p) ⊎ Undiffering q p → is_same_known p.message q.message ≡ true
  alike q p together (inl same) = ap (λ (x : PortOn). is_same_known p.message x.message) same ∙ known_itself p.message
  alike q p together (inr undiffers) = by (is_one_network p.buffer.place q.buffer.place || is_one_own_buffer p q) (is_same_known p.message q.message) together undiffers
    where
      by : (a b : Bool) → a ≡ true → (a && not b) ≡ false → b ≡ true
      by true true e f = refl
      by true false e f = absurd (cc f)
      by false b e f = absurd (cc e)

  abbrev HasMessage : PortOn → ℕ → Type 0
  HasMessage p k = (u : KnownType) × (message_type trees k p.buffer ≡ Some u) × (is_same_known p.message u ≡ true)

  pub message_found : (k : ℕ) (p : PortOn) → p.machine ≡ k → There (all_ports trees) p → HasMessage p k
  message_found k p number there = by p.buffer.place refl
    where
      on_own : p.buffer.place ≡ own → HasMessage p k
      on_own place =
          let passes : is_on k p.buffer p ≡ true = ap (λ n. (n == k) && bytes_eq p.buffer.name.text p.buffer.name.text) number ∙ ap (λ b. b && bytes_eq p.buffer.name.text p.buffer.name.text) (number_itself k) ∙ same_text p.buffer.name.text in
          let found = find_some (is_on k p.buffer) (all_ports trees) p there passes in
          let q = found.0 in
          let parts = and_parts (q.machine == k) (bytes_eq q.buffer.name.text p.buffer.name.text) (found_passes (is_on k p.buffer) (all_ports trees) q found.1) in
          let same_number : p.machine ≡ q.machine = number ∙ sym (eqb-true q.machine k parts.0) in
          let named : bytes_eq p.buffer.name.text q.buffer.name.text ≡ true = turned q.buffer.name.text p.buffer.name.text parts.1 in
          let one : is_one_own_buffer p q ≡ true = own_one q place same_number named in (
            q.message,
            ap (type_at trees k p.buffer) place ∙ ap (λ (o : Option PortOn). option_or (port_message o) (cond (is_mandatory p.buffer) (Some (built_in Request)) None)) found.1,
            alike q p (second (is_one_network p.buffer.place q.buffer.place) (is_one_own_buffer p q) one) (first_before Undiffering (is_on k p.buffer) (all_ports trees) q p ports_undiffering found.1 there passes),
          )
        where
          turned : (a b : List ℕ) → bytes_eq a b ≡ true → bytes_eq b a ≡ true
          turned a b is = sym (text_turned a b) ∙ is

          second : (a b : Bool) → b ≡ true → (a || b) ≡ true
          second true b e = refl
          second false b e = e

          own_one : (q : PortOn) → p.buffer.place ≡ own → p.machine ≡ q.machine → bytes_eq p.buffer.name.text q.buffer.name.text ≡ true → is_one_own_buffer p q ≡ true
          own_one q place same_number named =
              ap (λ (x : Place). is_own x && (p.machine == q.machine) && bytes_eq p.buffer.name.text q.buffer.name.text) place
              ∙ ap (λ n. (n == q.machine) && bytes_eq p.buffer.name.text q.buffer.name.text) same_number
              ∙ ap (λ b. b && bytes_eq p.buffer.name.text q.buffer.name.text) (number_itself q.machine) ∙ named

      first : (a b : Bool) → a ≡ true → (a || b) ≡ true
      first true b e = refl
      first false b e = absurd (cc e)

      both : (n i j : ℕ) → (i == n) ≡ true → (j == n) ≡ true → (i == j) ≡ true
      both n i j on other = grind arith

      one_network : (n : ℕ) (x y : Place) → is_on_network n x ≡ true → is_on_network n y ≡ true → is_one_network x y ≡ true
      one_network n own y on other = absurd (cc on)
      one_network n (to_network i) own on other = absurd (cc other)
      one_network n (from_network i) own on other = absurd (cc other)
      one_network n (to_network i) (to_network j) on other = both n i j on other
      one_network n (to_network i) (from_network j) on other = both n i j on other
      one_network n (from_network i) (to_network j) on other = both n i j on other
      one_network n (from_network i) (from_network j) on other = both n i j on other

      on_network : (n : ℕ) → is_on_network n p.buffer.place ≡ true → message_type trees k p.buffer ≡ port_message (find (λ (x : PortOn). is_on_network n x.buffer.place) (all_ports trees)) → HasMessage p k
      on_network n passes typed =
          let test : PortOn → Bool = λ (x : PortOn). is_on_network n x.buffer.place in
          let found = find_some test (all_ports trees) p there passes in
          let q = found.0 in
          let other : is_on_network n q.buffer.place ≡ true = found_passes test (all_ports trees) q found.1 in (
            q.message,
            typed ∙ ap port_message found.1,
            alike q p (first (is_one_network p.buffer.place q.buffer.place) (is_one_own_buffer p q) (one_network n p.buffer.place q.buffer.place passes other))
                (first_before Undiffering test (all_ports trees) q p ports_undiffering found.1 there passes),
          )

      by : (x : Place) → p.buffer.place ≡ x → HasMessage p k
      by own place = on_own place
      by (to_network n) place = on_network n (ap (is_on_network n) place ∙ number_itself n) (ap (type_at trees k p.buffer) place)
      by (from_network n) place = on_network n (ap (is_on_network n) place ∙ number_itself n) (ap (type_at trees k p.buffer) place)

-- A port's buffer by its name.

-- what is no buffer isn't wanted
no_buffer_everywhere : (m : Machine) (text : List ℕ) (place : Span) → wrong_meaning m (table_of Buffer) place (meaning_of_found (bound_as text names_everywhere)) ≡ [] → ⊥
no_buffer_everywhere m text place none = by (bytes_eq (codes "machineID") text) (bytes_eq (codes "recycle_latency") text) none
  where
    by : (a b : Bool) → wrong_meaning m (table_of Buffer) place (meaning_of_found (cond a (Some (fixed (codes "machineID") (value (built_in MachineId)))) (cond b (Some (fixed (codes "recycle_latency") (value (built_in Int)))) None))) ≡ [] → ⊥
    by true b told = cc told
    by false true told = cc told
    by false false told = cc told

record OnBuffer (trees : List Tree) (m : Machine) (text : List ℕ) : Type 0 where
  declaration : Declaration
  found : first_named text (machine_declarations m) ≡ Some declaration
  buffer : BufferIn
  is : buffer_in trees m declaration ≡ Some buffer

module _ (trees : List Tree) (accepted : IsAccepted trees) (k : ℕ) (m : Machine) (at : slice_get (machines_of trees) k ≡ Some m) where
  -- a parameter or an object that fits where a buffer is wanted is one
  buffer_is : (place : Span) (t : KnownType) → is_object_type m t ≡ true → unfit m (table_of Buffer) place (object_of_type m (Some t)) ≡ [] → is_built_in Buffer (Some t) ≡ true
  buffer_is place (built_in b) fitting none = by (is_table_nature (nature_of b)) refl fitting none
    where
      tested : (v : Bool) → unless v WrongType place ≡ [] → v ≡ true
      tested true e = refl
      tested false e = absurd (cc e)

      valued : (v : Bool) → v ≡ true → unfit m (table_of Buffer) place (cond v (value (built_in b)) unknown) ≡ [] → is_built_in Buffer (Some (built_in b)) ≡ true
      valued true e told = absurd (cc told)
      valued false e told = absurd (cc e)

      by : (v : Bool) → is_table_nature (nature_of b) ≡ v → (v || is_value m (built_in b)) ≡ true → unfit m (table_of Buffer) place (cond v (table b) (value_of_type m (Some (built_in b)))) ≡ [] → is_built_in Buffer (Some (built_in b)) ≡ true
      by true is e told = tested (is_built_in Buffer (Some (built_in b))) told
      by false is e told = valued (is_value m (built_in b)) e told
  buffer_is place (enumerated scope text members) fitting none = absurd (cc none)
  buffer_is place (structured scope s) fitting none = by (is_value m (structured scope s)) fitting none
    where
      by : (v : Bool) → v ≡ true → unfit m (table_of Buffer) place (cond v (value (structured scope s)) unknown) ≡ [] → is_built_in Buffer (Some (structured scope s)) ≡ true
      by true e told = absurd (cc told)
      by false e told = absurd (cc e)

  buffer_declared : (n : Name) → wrong_value_name (port_environment trees m) (table_of Buffer) n ≡ [] → OnBuffer trees m n.text
  buffer_declared n none = by (first_named n.text (machine_declarations m)) refl none
    where
      of_type : (kind : TypeName) (name : Name) (pairs : Pairs) (span : Span) (t : KnownType) → type_in trees (within m) kind.text ≡ Some t → is_object_type m t ≡ true
          → unfit m (table_of Buffer) n.span (object_of_type m (type_in trees (within m) kind.text)) ≡ []
          → buffer_of (is_built_in Buffer (type_in trees (within m) kind.text)) name pairs span ≡ Some (record { name = name; place = place_by pairs; span = span })
      of_type kind name pairs span t is fitting told =
          let here = buffer_is n.span t fitting (sym (ap (λ (o : Option KnownType). unfit m (table_of Buffer) n.span (object_of_type m o)) is) ∙ told) in
          ap (λ v. buffer_of v name pairs span) (ap (is_built_in Buffer) is ∙ here)

      declared : (d : Declaration) → There (machine_declarations m) d → wrong_meaning m (table_of Buffer) n.span (meaning_of_found (declared_value trees m d)) ≡ [] → (b : BufferIn) × (buffer_in trees m d ≡ Some b)
      declared (parameter p) there told =
          let known = type_known trees accepted (within m) (machine_scope trees accepted k m at) (parameter p) there (use_of p.kind) (0, refl) refl in
          let right = right_type trees accepted k m at (is_object_type m) p.kind known.0 known.1 (unbroken trees accepted k m at (parameter p) there) in
          (record { name = p.name; place = place_by p.pairs; span = p.span }, of_type p.kind p.name p.pairs p.span known.0 known.1 right told)
      declared (object o) there told =
          let known = type_known trees accepted (within m) (machine_scope trees accepted k m at) (object o) there (use_of o.kind) (0, refl) refl in
          let right = right_type trees accepted k m at (is_object_type m) o.kind known.0 known.1 (unbroken trees accepted k m at (object o) there) in
          (record { name = o.name; place = place_by o.pairs; span = o.span }, of_type o.kind o.name o.pairs o.span known.0 known.1 right told)
      declared _ there told = absurd (cc told)

      by : (o : Option Declaration) → first_named n.text (machine_declarations m) ≡ o → wrong_meaning m (table_of Buffer) n.span (meaning_of_found (value_outside trees m n.text o)) ≡ [] → OnBuffer trees m n.text
      by None found told = absurd (no_buffer_everywhere m n.text n.span told)
      by (Some d) found told =
          let here = declared d (there_found (is_named n.text) (machine_declarations m) d found) told in
          record { declaration = d; found = found; buffer = here.0; is = here.1 }

  buffers_kept : (machine_symbols trees k m).buffers ≡ buffer_symbols trees k m
  unfolding machine_symbols
  buffers_kept = refl

  -- what a port is on: its buffer as a symbol, whose messages are of the port's type
  record PortOnBuffer (n : Name) (t : KnownType) : Type 0 where
    number : ℕ
    buffer : BufferSymbol
    found : buffer_among (buffer_symbols trees k m) n.text ≡ Some number
    stands : slice_get (machine_symbols trees k m).buffers number ≡ Some buffer
    message : buffer.message ≡ structure_number trees t

  ports_among : (n : ℕ) (ms : List Machine) (j : ℕ) (p : PortOn) → slice_get ms j ≡ Some m → There (ports_of trees (n + j) m) p → There (all_ports_from trees n ms) p
  ports_among n [] j p is there = absurd (cc is)
  ports_among n (x ∷ xs) zero p is there =
      let same : x ≡ m = cc is in
      let none : n + 0 ≡ n = omega arith in
      there_left (ports_of trees n x) (all_ports_from trees (n + 1) xs) p
      (subst (λ (y : Machine). There (ports_of trees n y) p) (sym same) (subst (λ (i : ℕ). There (ports_of trees i m) p) none there))
  ports_among n (x ∷ xs) (suc j) p is there =
      let next : n + suc j ≡ n + 1 + j = omega arith in
      there_right (ports_of trees n x) (all_ports_from trees (n + 1) xs) p (ports_among (n + 1) xs j p is (subst (λ (i : ℕ). There (ports_of trees i m) p) next there))

  on_buffer : (d : Declaration) → There (machine_declarations m) d → (is_in : Bool) (span : Span) (n : Name) (t : KnownType)
      → wrong_value_name (port_environment trees m) (table_of Buffer) n ≡ []
      → ((b : BufferIn) → buffer_named trees m n ≡ Some b → port_in trees k m d ≡ record { machine = k; is_in = is_in; buffer = b; message = t; span = span } ∷ [])
      → PortOnBuffer n t
  on_buffer d there is_in span n t right made =
      let on = buffer_declared n right in
      let b = on.buffer in
      let place = there_found (is_named n.text) (machine_declarations m) on.declaration on.found in
      let is_named_so = found_passes (is_named n.text) (machine_declarations m) on.declaration on.found in
      let buffer_at : buffer_named trees m n ≡ Some b = ap (option_and_then (buffer_in trees m)) on.found ∙ on.is in
      let p : PortOn = record { machine = k; is_in = is_in; buffer = b; message = t; span = span } in
      let in_one : There (port_in trees k m d) p = subst (λ (ps : List PortOn). There ps p) (sym (made b buffer_at)) (there_first p []) in
      let in_machine_ports : There (ports_of trees k m) p = there_flat (port_in trees k m) (machine_declarations m) d p there in_one in
      let none : 0 + k ≡ k = omega arith in
      let in_all : There (all_ports trees) p = ports_among 0 (machines_of trees) k p at (subst (λ (i : ℕ). There (ports_of trees i m) p) (sym none) in_machine_ports) in
      let message = message_found trees accepted k p refl in_all in
      let symbol : BufferSymbol = record { name = b.name.text; place = buffer_place trees b.place (message_type trees k b); ordered = is_ordered (attributes_of on.declaration); message = option_and_then (structure_number trees) (message_type trees k b) } in
      let made_so : buffer_symbol trees k m on.declaration ≡ symbol ∷ [] = ap (buffer_of_place trees k (attributes_of on.declaration)) on.is in
      let found = buffers_some trees accepted k m at n.text on.declaration symbol place is_named_so made_so in
      record {
        number = found.0;
        buffer = symbol;
        found = ap (λ (bs : List BufferSymbol). buffer_among bs n.text) (sym buffers_kept) ∙ found.1;
        stands = found.2;
        message = ap (option_and_then (structure_number trees)) message.1 ∙ sym (numbers_alike trees t message.0 message.2);
      }

  there_declared : (x : Decl) (d : Declaration) → named_declarations x ≡ d ∷ [] → There m.declarations x → There (machine_declarations m) d
  there_declared x d is there =
      there_right (map parameter m.parameters) (flat_map named_declarations m.declarations) d
      (there_flat named_declarations m.declarations x d there (subst (λ (ds : List Declaration). There ds d) (sym is) (there_first d [])))

  pub in_port_on : (p : InPort) (t : KnownType) → There m.declarations (decl.InPort p) → type_in trees (within m) p.message.text ≡ Some t
      → IsPortOf (machine_symbols trees k m) p.name.text named.InPort (machine_symbols trees k m).in_ports (structure_number trees t)
  in_port_on p t there is =
      let declared = there_declared (decl.InPort p) (in_port p) refl there in
      let whole = unbroken trees accepted k m at (in_port p) declared in
      let right = right_none (wrong_type_in trees m is_message p.message) (wrong_value_name (port_environment trees m) (table_of Buffer) p.buffer) (left_none (broken_port trees m p.message p.buffer) (body_judged (port_environment trees m) p.body) whole) in
      let on = on_buffer (in_port p) declared true p.span p.buffer t right
      (λ b buffer_at. ap (λ (o : Option BufferIn). port_on k true p.span o (type_in trees (within m) p.message.text)) buffer_at ∙ ap (port_on k true p.span (Some b)) is) in
      let stands = in_port_stands trees accepted k m at p on.number there declared on.found in
      (stands.0, record { name = p.name.text; buffer = on.number; declaration = stands.1 }, on.buffer, stands.2, stands.3, on.stands, on.message)

  pub out_port_on : (p : OutPort) (t : KnownType) → There m.declarations (decl.OutPort p) → type_in trees (within m) p.message.text ≡ Some t
      → IsPortOf (machine_symbols trees k m) p.name.text named.OutPort (machine_symbols trees k m).out_ports (structure_number trees t)
  out_port_on p t there is =
      let declared = there_declared (decl.OutPort p) (out_port p) refl there in
      let whole = unbroken trees accepted k m at (out_port p) declared in
      let right = right_none (wrong_type_in trees m is_message p.message) (wrong_value_name (port_environment trees m) (table_of Buffer) p.buffer) whole in
      let on = on_buffer (out_port p) declared false p.span p.buffer t right
      (λ b buffer_at. ap (λ (o : Option BufferIn). port_on k false p.span o (type_in trees (within m) p.message.text)) buffer_at ∙ ap (port_on k false p.span (Some b)) is) in
      let stands = out_port_stands trees accepted k m at p on.number there declared on.found in
      (stands.0, record { name = p.name.text; buffer = on.number; declaration = stands.1 }, on.buffer, stands.2, stands.3, on.stands, on.message)
