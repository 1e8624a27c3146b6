-- What an instruction that breaks no rule leads to: it goes on with the kinds that verification gives to its own ways, or ends its body
-- as the body is declared to end.
use Rattle.std.proofs.Common.{◌≡◌, ℕ, ◌<◌, ◌==◌, Bool, true, false, Option, None, Some, List, [], ◌∷◌, ◌++◌, ℤ, Result, Ok, Err, IfOk, IfSome, drop, take, length, map, reverse, is_some, nat_lt, slice_get, unwrap_or, refl, sym, ap, subst, ◌∙◌, if◌then◌else◌}
use Rattle.std.proofs.lemmas.Bool.{and_parts, eqb-true, ltb-true}
use Rattle.std.proofs.lemmas.List.{length-map, length-reverse, reverse-append, reverse-reverse}
use Rattle.std.specs.Option.{option_and_then, option_map}
use Rattle.ruby_value.specs.declared.fault.Fault.{Fault}
use Rattle.ruby_value.specs.declared.fault.Fault.TheVariants as fault
use Rattle.ruby_value.specs.declared.kind.Kind.{Kind}
use Rattle.ruby_value.specs.declared.kind.Kind.TheVariants as kind
use Rattle.ruby_value.specs.declared.setup.MachineSetup.{MachineSetup}
use Rattle.ruby_value.specs.declared.value.Ref.{Ref}
use Rattle.ruby_value.specs.declared.value.Value.{Value}
use Rattle.ruby_value.specs.declared.value.Value.TheVariants as value
use Rattle.ruby_value.specs.Prelude.{default_value, equal_kinds, is_reference}
use Rattle.acts.specs.declared.body_fault.BodyFault.{BodyFault}
use Rattle.acts.specs.declared.body_fault.BodyFault.TheVariants as own
use Rattle.acts.specs.Act as act
use Rattle.acts.specs.Prelude.{Acting, ends, ◌>>=◌, act as done, found, given}
use Rattle.built_in_acts.specs.Prelude.{address_of_line, argument, line_named, reference, difference, negation, number, product, sum, truth, with_field, built_in}
use Rattle.action_code.specs.declared.instr.Code.{Code}
use Rattle.action_code.specs.declared.instr.Instr.{Instr}
use Rattle.action_code.specs.declared.instr.Instr.TheVariants as instr
use Rattle.action_code.specs.declared.operand.Operand.{Operand}
use Rattle.action_code.specs.declared.operand.Operand.TheVariants as operand
use Rattle.action_code.specs.declared.operations.Operation.{Operation}
use Rattle.action_code.specs.declared.program.BufferDecl.{BufferDecl}
use Rattle.action_code.specs.declared.program.MachineDecl.{MachineDecl}
use Rattle.action_code.specs.declared.program.Program.{Program}
use Rattle.action_code.specs.declared.program.TableDecl.{TableDecl}
use Rattle.action_code.specs.declared.shape.Shape.{Shape}
use Rattle.action_code.specs.Prelude.{KeepsRules, Way, answered, bare, buffer_at, call_sign, can_push, continues, field_of, field_through, is_port, kind_of, local_kind, machine_of, operands_fit, operation_sign, operations, result_operand, shape_after, sign, structure_of, tables_of, target, wanted, with_given, with_message}
use Rattle.code_meaning.specs.declared.code_end.CodeEnd.{CodeEnd}
use Rattle.code_meaning.specs.declared.code_end.CodeEnd.TheVariants as code_end
use Rattle.code_meaning.specs.Prelude.{Bodies, Held, IsDeclared, IsTyped, On, Over, Step, To, are_messages, are_of_kinds, argument_count, arguments_on, arity, called, code_step, given_back, innermost, is_end_of, is_of_kind, kept_of, kinds_of, of_one_sort, on_stack, read_of, returned, tested, with_number}
use Rattle.code_meaning.proofs.Fields.{buffer_setup, field_gives, front_gives}
use Rattle.code_meaning.proofs.Gives.{Gives, any_gives, and_gives, ends_gives, found_gives, given_gives, stops_gives, then_gives}
use Rattle.code_meaning.proofs.OfKind.{at_kinds, bare_is, defaults_are, drop_kinds, given_kinds, more_kinds, equal_is, pushed_is, reverse_kinds, set_kinds}
use Rattle.code_meaning.proofs.Operations.{Answered, operation_gives}
use Rattle.code_meaning.proofs.Typed.{drop_messages, message_read, message_written, more_messages}

-- Operands.

module _ (m : Option MachineDecl) (on : ℕ) where
  -- the topmost value is of a kind where that is wanted
  pub wanted_is : (o : Option Kind) (k : Kind) (below : List Operand) (ks : List Kind) (vs : List Value) → o ≡ Some k → operands_fit m on (wanted o ∷ below) ks ≡ true → are_of_kinds (tables_of m) ks vs ≡ true
      → is_of_kind (tables_of m) k (argument vs 0) ≡ true
  wanted_is None k below ks vs is fit h = absurd (cc is)
  wanted_is (Some l) k below [] vs is fit h = absurd (cc fit)
  wanted_is (Some l) k below (x ∷ ks) vs is fit h =
      let same : l ≡ k = cc is in
      let here : is_of_kind (tables_of m) x (argument vs 0) ≡ true = at_kinds (tables_of m) (x ∷ ks) vs 0 x h refl in
      let equal : equal_kinds l x ≡ true = (and_parts (equal_kinds l x) (operands_fit m on below ks) fit).0 in
      subst (λ y. is_of_kind (tables_of m) y (argument vs 0) ≡ true) same (equal_is (tables_of m) l x (argument vs 0) equal ∙ here)

  -- the kind of the topmost value, which is a reference
  pub reference_on : (below : List Operand) (ks : List Kind) → operands_fit m on (operand.Reference ∷ below) ks ≡ true → (k : Kind) × (slice_get ks 0 ≡ Some k) × (is_reference k ≡ true)
  reference_on below [] fit = absurd (cc fit)
  reference_on below (k ∷ ks) fit = (k, refl, (and_parts (is_reference k) (operands_fit m on below ks) fit).0)

  -- the n topmost values are of these kinds
  pub taken_are : (kinds : List Kind) (ks : List Kind) (vs : List Value) → operands_fit m on (map operand.Value kinds) ks ≡ true → are_of_kinds (tables_of m) ks vs ≡ true
      → are_of_kinds (tables_of m) kinds (take (length kinds) vs) ≡ true
  taken_are [] ks vs fit h = refl
  taken_are (k ∷ kinds) [] vs fit h = absurd (cc fit)
  taken_are (k ∷ kinds) (x ∷ ks) [] fit h = absurd (cc h)
  taken_are (k ∷ kinds) (x ∷ ks) (v ∷ vs) fit h =
      let parts = and_parts (equal_kinds k x) (operands_fit m on (map operand.Value kinds) ks) fit in
      let here = and_parts (is_of_kind (tables_of m) x v) (are_of_kinds (tables_of m) ks vs) h in
      more_kinds (tables_of m) k kinds v (take (length kinds) vs) (equal_is (tables_of m) k x v parts.0 ∙ here.0) (taken_are kinds ks vs parts.1 here.1)

map_append : {A B : Type 0} (f : A → B) (ys zs : List A) → map f (ys ++ zs) ≡ map f ys ++ map f zs
map_append f [] zs = refl
map_append f (y ∷ ys) zs = ap (λ l. f y ∷ l) (map_append f ys zs)

map_reverse : {A B : Type 0} (f : A → B) (xs : List A) → reverse (map f xs) ≡ map f (reverse xs)
map_reverse f [] = refl
map_reverse f (x ∷ xs) =
    reverse-append (f x ∷ []) (map f xs) ∙ ap (λ ys. ys ++ f x ∷ []) (map_reverse f xs) ∙ sym (map_append f (reverse xs) (x ∷ [])) ∙ sym (ap (map f) (reverse-append (x ∷ []) xs))

-- the arguments of a call, which lie on the stack from the last one down
pub arguments_are : (m : Option MachineDecl) (on : ℕ) (kinds : List Kind) (ks : List Kind) (vs : List Value) → operands_fit m on (reverse (map operand.Value kinds)) ks ≡ true → are_of_kinds (tables_of m) ks vs ≡ true
    → are_of_kinds (tables_of m) kinds (reverse (take (length kinds) vs)) ≡ true
arguments_are m on kinds ks vs fit h =
    let there : operands_fit m on (map operand.Value (reverse kinds)) ks ≡ true = subst (λ os. operands_fit m on os ks ≡ true) (map_reverse operand.Value kinds) fit in
    let taken : are_of_kinds (tables_of m) (reverse kinds) (take (length (reverse kinds)) vs) ≡ true = taken_are m on (reverse kinds) ks vs there h in
    let as_long : are_of_kinds (tables_of m) (reverse kinds) (take (length kinds) vs) ≡ true = subst (λ n. are_of_kinds (tables_of m) (reverse kinds) (take n vs) ≡ true) (length-reverse kinds) taken in
    subst (λ l. are_of_kinds (tables_of m) l (reverse (take (length kinds) vs)) ≡ true) (reverse-reverse kinds) (reverse_kinds (tables_of m) (reverse kinds) (take (length kinds) vs) as_long)

-- a local's kind as it is declared
local_declared : (ks : List Kind) (n : ℕ) (k : Kind) (o : Option Kind) → slice_get ks n ≡ o → option_map bare o ≡ Some k → (l : Kind) × (slice_get ks n ≡ Some l) × (bare l ≡ k)
local_declared ks n k None is h = absurd (cc h)
local_declared ks n k (Some l) is h = (l, is, cc h)

given_some : (o : Option Kind) → is_some o ≡ true → (k : Kind) × (o ≡ Some k)
given_some None h = absurd (cc h)
given_some (Some k) h = (k, refl)

-- Instructions.

module _ (p : Program) (body : ℕ) (c : Code) (setup : MachineSetup) (declared : IsDeclared p (machine_of p c) setup) (calls : Bodies) where
  abbrev tables : List TableDecl
  tables = tables_of (machine_of p c)

  -- what the bodies do that this one may call
  pub record CallsGive : Type 0 where
    pub each : (n : ℕ) (d : Code) → slice_get p.bodies n ≡ Some d → n < body → d.machine ≡ c.machine → (arguments : List Value) → are_of_kinds tables d.arguments arguments ≡ true
        → Gives setup (λ end. is_end_of tables d.result end ≡ true) (calls n arguments)

  -- to a shape, where it goes on, and to an end of the body
  abbrev pub Turned : Instr → Shape → Step → Type 0
  Turned i s (On h) = (continues i ≡ true) × IsTyped p c s h
  Turned i s (To to h) = (target i ≡ Some to) × IsTyped p c s h
  Turned i s (Over end) = is_end_of tables c.result end ≡ true

  module _ (s : Shape) (h : Held) (typed : IsTyped p c s h) where
    abbrev Leads : Instr → Type 0
    Leads i = Gives setup (Turned i (shape_after p c s i (sign p body c s i))) (code_step p c calls i h)

    -- with another stack
    with_stack : (ks : List Kind) (vs : List Value) → are_of_kinds tables ks vs ≡ true → IsTyped p c (record { stack = ks; inner = s.inner; made = s.made }) (record h { stack = vs })
    with_stack ks vs is = record { stack = is; locals = typed.locals; inner = typed.inner; made = typed.made }

    dropped : (n : ℕ) → are_of_kinds tables (drop n s.stack) (drop n h.stack) ≡ true
    dropped n = drop_kinds tables n s.stack h.stack typed.stack

    put : (n : ℕ) (k : Kind) (v : Value) → is_of_kind tables k v ≡ true → are_of_kinds tables (k ∷ drop n s.stack) (v ∷ drop n h.stack) ≡ true
    put n k v is = more_kinds tables k (drop n s.stack) v (drop n h.stack) is (dropped n)

    put_given : (n : ℕ) (o : Option Kind) (v : Value) → is_some o ≡ true → ((k : Kind) → o ≡ Some k → is_of_kind tables k v ≡ true) → are_of_kinds tables (with_given o (drop n s.stack)) (v ∷ drop n h.stack) ≡ true
    put_given n o v there is = given_kinds tables o (drop n s.stack) v (drop n h.stack) there is (dropped n)

    stack_leads : (i : Instr) (ks : List Kind) (q : Acting (List Value)) → continues i ≡ true → Gives setup (λ vs. are_of_kinds tables ks vs ≡ true) q
        → Gives setup (Turned i (record { stack = ks; inner = s.inner; made = s.made })) (on_stack h q)
    stack_leads i ks q goes gives = then_gives setup gives (λ vs fits. ends_gives setup (goes, with_stack ks vs fits))

    push_leads : (v : Value) (n : ℕ) → can_push tables v ≡ true → Leads (instr.Push v n)
    push_leads v n can = stack_leads (instr.Push v n) _ _ refl (ends_gives setup (put 0 (kind_of tables v n) (of_one_sort v) (pushed_is tables v n can)))

    load_leads : (n : ℕ) → is_some (local_kind c n) ≡ true → Leads (instr.Load n)
    load_leads n there = stack_leads (instr.Load n) _ _ refl (ends_gives setup (put_given 0 (local_kind c n) (argument h.locals n) there each))
      where
        each : (k : Kind) → local_kind c n ≡ Some k → is_of_kind tables k (argument h.locals n) ≡ true
        each k is =
            let l = local_declared (c.arguments ++ c.locals) n k (slice_get (c.arguments ++ c.locals) n) refl is in
            let here : is_of_kind tables l.0 (argument h.locals n) ≡ true = at_kinds tables (c.arguments ++ c.locals) h.locals n l.0 typed.locals l.1 in
            subst (λ x. is_of_kind tables x (argument h.locals n) ≡ true) l.2 (sym (bare_is tables l.0 (argument h.locals n)) ∙ here)

    store_leads : (n : ℕ) → is_some (local_kind c n) ≡ true → operands_fit (machine_of p c) 0 (wanted (local_kind c n) ∷ []) s.stack ≡ true → Leads (instr.Store n)
    store_leads n there fit =
        let k = given_some (local_kind c n) there in
        let v = argument h.stack 0 in
        let is : is_of_kind tables k.0 v ≡ true = wanted_is (machine_of p c) 0 (local_kind c n) k.0 [] s.stack h.stack k.1 fit typed.stack in
        let l = local_declared (c.arguments ++ c.locals) n k.0 (slice_get (c.arguments ++ c.locals) n) refl k.1 in
        let here : is_of_kind tables l.0 v ≡ true = bare_is tables l.0 v ∙ subst (λ x. is_of_kind tables x v ≡ true) (sym l.2) is in
        ends_gives setup (
          refl,
          record {
            stack = dropped 1;
            locals = set_kinds tables (c.arguments ++ c.locals) h.locals n l.0 v typed.locals l.1 here;
            inner = typed.inner;
            made = typed.made;
          },
        )

    number_is : (n : ℕ) (r : Result ℤ BodyFault) → IfOk (with_number n h.stack r) (λ vs. are_of_kinds tables (kind.Int ∷ drop n s.stack) vs ≡ true)
    number_is n (Ok x) = put n kind.Int (value.Int x) refl
    number_is n (Err f) = tt

    number_leads : (i : Instr) (n : ℕ) (r : Result ℤ BodyFault) → continues i ≡ true
        → Gives setup (Turned i (record { stack = kind.Int ∷ drop n s.stack; inner = s.inner; made = s.made })) (on_stack h (given (with_number n h.stack r)))
    number_leads i n r goes = stack_leads i _ _ goes (given_gives setup (with_number n h.stack r) (number_is n r))

    tested_leads : (i : Instr) (n : ℕ) (b : Bool) → continues i ≡ true
        → Gives setup (Turned i (record { stack = kind.Bool ∷ drop n s.stack; inner = s.inner; made = s.made })) (on_stack h (ends (tested n b h.stack)))
    tested_leads i n b goes = stack_leads i _ _ goes (ends_gives setup (put n kind.Bool (value.Bool b) refl))

    unless_leads : (to : ℕ) → Leads (instr.Unless to)
    unless_leads to = ends_gives setup (by (truth (argument h.stack 0)))
      where
        by : (b : Bool) → Turned (instr.Unless to) (record { stack = drop 1 s.stack; inner = s.inner; made = s.made }) (if b then On (record h { stack = drop 1 h.stack }) else To to (record h { stack = drop 1 h.stack }))
        by true = (refl, with_stack _ _ (dropped 1))
        by false = (refl, with_stack _ _ (dropped 1))

    get_leads : (field : ℕ) → operands_fit (machine_of p c) 0 (operand.Reference ∷ []) s.stack ≡ true → is_some (field_through p s 0 field) ≡ true → Leads (instr.Get field)
    get_leads field fit there =
        let k0 = reference_on (machine_of p c) 0 [] s.stack fit in
        let k = given_some (field_through p s 0 field) there in
        let v = argument h.stack 0 in
        let is : is_of_kind tables k0.0 v ≡ true = at_kinds tables s.stack h.stack 0 k0.0 typed.stack k0.1 in
        let of : field_of p (structure_of k0.0) field ≡ Some k.0 = subst (λ o. field_of p (option_and_then structure_of o) field ≡ Some k.0) k0.1 k.1 in
        stack_leads (instr.Get field) _ _ refl (then_gives setup (field_gives p (machine_of p c) setup declared k0.0 v field k.0 k0.2 is of)
        (λ y fits. ends_gives setup (put_given 1 (field_through p s 0 field) y there (λ l found. let same : k.0 ≡ l = cc (sym k.1 ∙ found) in subst (λ x. is_of_kind tables x y ≡ true) same fits))))

    set_leads : (field : ℕ) → Leads (instr.Set field)
    set_leads field = stack_leads (instr.Set field) _ _ refl (and_gives setup (any_gives setup (with_field (argument h.stack 1) field (argument h.stack 0))) (ends_gives setup (dropped 2)))

    peek_leads : (buffer : ℕ) → is_port (buffer_at (machine_of p c) buffer) ≡ true → Leads (instr.Peek buffer)
    peek_leads buffer port = by (buffer_at (machine_of p c) buffer) refl port
      where
        by : (o : Option BufferDecl) → buffer_at (machine_of p c) buffer ≡ o → is_port o ≡ true → Leads (instr.Peek buffer)
        by None has is = absurd (cc is)
        by (Some b) has is =
            let s0 = buffer_setup p (machine_of p c) setup declared b buffer has in
            then_gives setup {R = λ ms. are_messages p tables (with_message (buffer_at (machine_of p c) buffer) s.inner) ms ≡ true}
            (then_gives setup (front_gives p (machine_of p c) setup declared b buffer s0)
            (λ x fits. ends_gives setup
            (subst (λ o. are_messages p tables (with_message o s.inner) (x.fields ∷ h.inner) ≡ true) (sym has) (more_messages p tables b.message s.inner s0.setup_there.kinds x.fields h.inner s0.kinds fits typed.inner))))
            (λ ms are. ends_gives setup (refl, record { stack = dropped 0; locals = typed.locals; inner = are; made = typed.made }))

    read_leads : (i : Instr) (types : List ℕ) (messages : List (List Value)) (field : ℕ) → continues i ≡ true → are_messages p tables types messages ≡ true → is_some (field_of p (slice_get types 0) field) ≡ true
        → Gives setup (Turned i (record { stack = with_given (field_of p (slice_get types 0) field) (drop 0 s.stack); inner = s.inner; made = s.made }))
        (on_stack h (read_of (innermost messages) field h.stack))
    read_leads i types messages field goes are there =
        stack_leads i _ _ goes (then_gives setup (found_gives setup {R = λ v. slice_get (innermost messages) field ≡ Some v} own.Reference (slice_get (innermost messages) field) (itself (slice_get (innermost messages) field) refl))
        (λ v is. ends_gives setup (put_given 0 (field_of p (slice_get types 0) field) v there (λ k found. message_read p tables types messages field k v are found is))))
      where
        itself : (o : Option Value) → slice_get (innermost messages) field ≡ o → IfSome o (λ v. slice_get (innermost messages) field ≡ Some v)
        itself None is = tt
        itself (Some v) is = is

    new_leads : (message : ℕ) → is_some (slice_get p.structures message) ≡ true → Leads (instr.New message)
    new_leads message there = by (slice_get p.structures message) refl there
      where
        by : (o : Option (List Kind)) → slice_get p.structures message ≡ o → is_some o ≡ true → Leads (instr.New message)
        by None has is = absurd (cc is)
        by (Some kinds) has is =
            let same : kinds_of p message ≡ kinds = ap (λ (o : Option (List Kind)). unwrap_or o []) has in
            ends_gives setup (
              refl,
              record {
                stack = dropped 0;
                locals = typed.locals;
                inner = typed.inner;
                made = more_messages p tables message s.made kinds (map default_value (kinds_of p message)) h.made same (subst (λ ks. are_of_kinds tables kinds (map default_value ks) ≡ true) (sym same) (defaults_are tables kinds)) typed.made;
              },
            )

    setout_leads : (field : ℕ) → is_some (field_of p (slice_get s.made 0) field) ≡ true → operands_fit (machine_of p c) 0 (wanted (field_of p (slice_get s.made 0) field) ∷ []) s.stack ≡ true → Leads (instr.Setout field)
    setout_leads field there fit =
        let k = given_some (field_of p (slice_get s.made 0) field) there in
        let v = argument h.stack 0 in
        let is : is_of_kind tables k.0 v ≡ true = wanted_is (machine_of p c) 0 (field_of p (slice_get s.made 0) field) k.0 [] s.stack h.stack k.1 fit typed.stack in
        ends_gives setup (
          refl,
          record {
            stack = dropped 1;
            locals = typed.locals;
            inner = typed.inner;
            made = message_written p tables s.made h.made field k.0 v typed.made k.1 is;
          },
        )

    send_leads : (buffer : ℕ) → Leads (instr.Send buffer)
    send_leads buffer =
        and_gives setup (any_gives setup (done (act.Send buffer (number (argument h.stack 0)) (innermost h.made))))
        (ends_gives setup (refl, record { stack = dropped 1; locals = typed.locals; inner = typed.inner; made = drop_messages p tables s.made h.made typed.made }))

    given_are : (n : ℕ) (o : Option Kind) (v : Option Value) → Answered (machine_of p c) setup o v → are_of_kinds tables (with_given o (drop n s.stack)) (given_back n h.stack v) ≡ true
    given_are n None None is = dropped n
    given_are n (Some k) (Some v) is = put n k v is
    given_are n None (Some v) is = absurd is
    given_are n (Some k) None is = absurd is

    op_leads : (n on : ℕ) (o : Option Operation) → slice_get operations n ≡ o → (operation_sign (machine_of p c) on o).known ≡ true → Leads (instr.Op n on)
    op_leads n on None found known = absurd (cc known)
    op_leads n on (Some o) found known =
        let P : Option Operation → Type 0 = λ q. Gives setup (Turned (instr.Op n on) (shape_after p c s (instr.Op n on) (operation_sign (machine_of p c) on q)))
        (on_stack h (built_in (kept_of p c) n on (arguments_on (arity q) h.stack) >>= (λ v. ends (given_back (arity q) h.stack v)))) in
        subst P (sym found)
        (stack_leads (instr.Op n on) _ _ refl
        (then_gives setup (operation_gives (machine_of p c) setup (kept_of p c) n on o (arguments_on (arity (Some o)) h.stack) found known)
        (λ v is. ends_gives setup (given_are (arity (Some o)) (answered (machine_of p c) on o.answer) v is))))

    called_leads : (n : ℕ) (d : Code) (end : CodeEnd) → is_end_of tables d.result end ≡ true
        → Turned (instr.Call n) (record { stack = with_given (option_map bare d.result) (drop (length d.arguments) s.stack); inner = s.inner; made = s.made }) (called (length d.arguments) end h)
    called_leads n d end is = by d.result end is
      where
        ends_anyhow : (o : Option Kind) (event address : ℕ) (entry tbe : Option Ref) → is_end_of tables o (code_end.Trigger event address entry tbe) ≡ true
        ends_anyhow None event address entry tbe = refl
        ends_anyhow (Some k) event address entry tbe = refl

        stops_anyhow : (o : Option Kind) (f : Fault) → is_end_of tables o (code_end.Stop f) ≡ true
        stops_anyhow None f = refl
        stops_anyhow (Some k) f = refl

        by : (o : Option Kind) (end : CodeEnd) → is_end_of tables o end ≡ true
            → Turned (instr.Call n) (record { stack = with_given (option_map bare o) (drop (length d.arguments) s.stack); inner = s.inner; made = s.made }) (called (length d.arguments) end h)
        by None code_end.Nothing is = (refl, with_stack _ _ (dropped (length d.arguments)))
        by None (code_end.Value v) is = absurd (cc is)
        by (Some k) (code_end.Value v) is = (refl, with_stack _ _ (put (length d.arguments) (bare k) v (sym (bare_is tables k v) ∙ is)))
        by (Some k) code_end.Nothing is = absurd (cc is)
        by o (code_end.Trigger event address entry tbe) is = ends_anyhow c.result event address entry tbe
        by o (code_end.Stop f) is = stops_anyhow c.result f

    call_leads : CallsGive → (n : ℕ) (o : Option Code) → slice_get p.bodies n ≡ o → (call_sign c.machine body n o).known ≡ true
        → operands_fit (machine_of p c) (call_sign c.machine body n o).on (call_sign c.machine body n o).takes s.stack ≡ true → Leads (instr.Call n)
    call_leads give n None found known fit = absurd (cc known)
    call_leads give n (Some d) found known fit =
        let parts = and_parts (nat_lt n body) (d.machine == c.machine) known in
        let P : Option Code → Type 0 = λ q. Gives setup (Turned (instr.Call n) (shape_after p c s (instr.Call n) (call_sign c.machine body n q)))
        (calls n (arguments_on (argument_count q) h.stack) >>= (λ end. ends (called (argument_count q) end h))) in
        let long : length (reverse (map operand.Value d.arguments)) ≡ length d.arguments = length-reverse (map operand.Value d.arguments) ∙ length-map d.arguments operand.Value in
        let Q : ℕ → Type 0 = λ k. Gives setup (Turned (instr.Call n) (record { stack = with_given (option_map bare d.result) (drop k s.stack); inner = s.inner; made = s.made }))
        (calls n (arguments_on (length d.arguments) h.stack) >>= (λ end. ends (called (length d.arguments) end h))) in
        subst P (sym found)
        (subst Q (sym long)
        (then_gives setup (give.each n d found (ltb-true n body parts.0) (eqb-true d.machine c.machine parts.1) (arguments_on (length d.arguments) h.stack) (arguments_are (machine_of p c) 0 d.arguments s.stack h.stack fit typed.stack))
        (λ end is. ends_gives setup (called_leads n d end is))))

    trigger_end : (o : Option Kind) (event address : ℕ) (entry tbe : Option Ref) → is_end_of tables o (code_end.Trigger event address entry tbe) ≡ true
    trigger_end None event address entry tbe = refl
    trigger_end (Some k) event address entry tbe = refl

    trigger_leads : (event : ℕ) → Leads (instr.Trigger event)
    trigger_leads event = ends_gives setup (trigger_end c.result event (address_of_line (line_named (argument h.stack 2))) (reference (argument h.stack 1)) (reference (argument h.stack 0)))

    stop_end : (f : Fault) → is_end_of tables c.result (code_end.Stop f) ≡ true
    stop_end f = by c.result
      where
        by : (o : Option Kind) → is_end_of tables o (code_end.Stop f) ≡ true
        by None = refl
        by (Some k) = refl

    stop_leads : (f : Fault) → Leads (instr.Stop f)
    stop_leads fault.Assert = stops_gives setup
    stop_leads (fault.Error text) = stops_gives setup
    stop_leads fault.Overflow = stops_gives setup
    stop_leads fault.Reference = stops_gives setup
    stop_leads f = ends_gives setup (stop_end f)

    ret_leads : operands_fit (machine_of p c) 0 (result_operand c.result) s.stack ≡ true → Leads instr.Ret
    ret_leads fit = ends_gives setup (by c.result fit)
      where
        by : (o : Option Kind) → operands_fit (machine_of p c) 0 (result_operand o) s.stack ≡ true → is_end_of tables o (returned o (argument h.stack 0)) ≡ true
        by None fit = refl
        by (Some k) fit = wanted_is (machine_of p c) 0 (Some k) k [] s.stack h.stack refl fit typed.stack

    -- each of them
    pub leads : CallsGive → (at : ℕ) (ways : List Way) (i : Instr) → KeepsRules p c at ways s (sign p body c s i) i → Leads i
    leads give at ways (instr.Push v n) k = push_leads v n k.names_what_is_served
    leads give at ways (instr.Load n) k = load_leads n k.names_what_is_served
    leads give at ways (instr.Store n) k = store_leads n k.names_what_is_served k.operands_have_their_kinds
    leads give at ways instr.Add k = number_leads instr.Add 2 (sum (argument h.stack 1) (argument h.stack 0)) refl
    leads give at ways instr.Sub k = number_leads instr.Sub 2 (difference (argument h.stack 1) (argument h.stack 0)) refl
    leads give at ways instr.Mul k = number_leads instr.Mul 2 (product (argument h.stack 1) (argument h.stack 0)) refl
    leads give at ways instr.Neg k = number_leads instr.Neg 1 (negation (argument h.stack 0)) refl
    leads give at ways instr.Not k = tested_leads instr.Not 1 _ refl
    leads give at ways instr.Lt k = tested_leads instr.Lt 2 _ refl
    leads give at ways instr.Le k = tested_leads instr.Le 2 _ refl
    leads give at ways instr.Eq k = tested_leads instr.Eq 2 _ refl
    leads give at ways (instr.Jump to) k = ends_gives setup (refl, with_stack _ _ (dropped 0))
    leads give at ways (instr.Unless to) k = unless_leads to
    leads give at ways (instr.Get field) k = get_leads field k.operands_have_their_kinds k.names_what_is_served
    leads give at ways (instr.Set field) k = set_leads field
    leads give at ways (instr.Peek buffer) k = peek_leads buffer k.names_what_is_served
    leads give at ways (instr.Infield field) k = read_leads (instr.Infield field) s.inner h.inner field refl typed.inner k.names_what_is_served
    leads give at ways instr.Unpeek k = ends_gives setup (refl, record { stack = dropped 0; locals = typed.locals; inner = drop_messages p tables s.inner h.inner typed.inner; made = typed.made })
    leads give at ways (instr.New message) k = new_leads message k.names_what_is_served
    leads give at ways (instr.Outfield field) k = read_leads (instr.Outfield field) s.made h.made field refl typed.made k.names_what_is_served
    leads give at ways (instr.Setout field) k = setout_leads field k.names_what_is_served k.operands_have_their_kinds
    leads give at ways (instr.Send buffer) k = send_leads buffer
    leads give at ways (instr.Op n on) k = op_leads n on (slice_get operations n) refl k.names_what_is_served
    leads give at ways (instr.Call n) k = call_leads give n (slice_get p.bodies n) refl k.names_what_is_served k.operands_have_their_kinds
    leads give at ways (instr.Trigger event) k = trigger_leads event
    leads give at ways (instr.Stop f) k = stop_leads f
    leads give at ways instr.Ret k = ret_leads k.operands_have_their_kinds
