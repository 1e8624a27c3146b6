-- A run goes from one instruction to the next: what is left of it is the same, and so is what is known of it.
use Rattle.std.proofs.Common.{◌≡◌, ℕ, zero, suc, ◌+◌, ◌-◌, ◌<◌, ◌≤◌, ◌==◌, true, All, IfOk, IsErrAnd, IsSome, Option, None, Some, List, [], ◌∷◌, ◌++◌, Result, Ok, Err, drop, length, length-append, map, nat_lt, reverse, slice_get, take, refl, sym, ap, subst, ◌∙◌, arith, unwrap_or}
use Rattle.std.proofs.lemmas.Bool.{and_parts, eqb-true, ltb-true}
use Rattle.std.proofs.lemmas.List.{length-reverse, reverse-reverse, take_at}
use Rattle.std.proofs.lemmas.List.Elements.{All-nil}
use Rattle.ruby_value.specs.declared.fault.Fault.{Fault}
use Rattle.ruby_value.specs.declared.kind.Kind.{Kind}
use Rattle.ruby_value.specs.declared.value.Value.{Value}
use Rattle.ruby_value.specs.Prelude.{default_value}
use Rattle.ctl_face.specs.declared.message_at.MessageAt.{MessageAt}
use Rattle.ctl_face.specs.declared.trouble.Trouble.{Trouble}
use Rattle.ctl_face.specs.declared.trouble.Trouble.TheVariants as trouble
use Rattle.ctl_face.specs.Prelude.{Ctl, IsLawful, IsPlace, LocalView, SameScan}
use Rattle.ctl_face.specs.Places.{message_in}
use Rattle.acts.specs.Prelude.{Acting, DoesAs, HoldsAfter, ends, ◌>>=◌, follow as follow_done, itself, no_message, run}
use Rattle.acts.proofs.Instances.{stays_in_scan}
use Rattle.built_in_acts.specs.Prelude.{argument}
use Rattle.acts.proofs.Walk.{does_ends_as, run-then, then_does, then_stops}
use Rattle.action_code.specs.declared.instr.Code.{Code}
use Rattle.action_code.specs.declared.instr.Instr.{Instr}
use Rattle.action_code.specs.declared.instr.Instr.TheVariants as instr
use Rattle.action_code.specs.declared.operand.Operand.TheVariants as operand
use Rattle.action_code.specs.declared.program.Program.{Program}
use Rattle.action_code.specs.declared.program.TableDecl.{TableDecl}
use Rattle.action_code.specs.Prelude.{Fits, KeepsRules, call_sign, machine_of, operands_fit, shape_after, shape_before, sign, tables_of, ways_before}
use Rattle.action_code.proofs.EachPlaces.{each_place_from}
use Rattle.action_code.proofs.Steps.{there}
use Rattle.code_meaning.specs.declared.code_end.CodeEnd.{CodeEnd}
use Rattle.code_meaning.specs.declared.code_end.CodeEnd.TheVariants as code_end
use Rattle.code_meaning.specs.Prelude.{Held, IsDeclared, IsTyped, On, Over as Ends, Step, To, are_of_kinds, argument_count, arguments_on, bodies_below, called, code_step, enter, entered, exec, follow, is_end_of, run_body}
use Rattle.code_meaning.proofs.Bodies.{below_is, calls_end, run_ends}
use Rattle.code_meaning.specs.Answers.{HoldsOfAnswer as Holds}
use Rattle.code_meaning.proofs.OfKind.{as_long}
use Rattle.code_meaning.proofs.Places.{goes_on, jumps}
use Rattle.code_meaning.proofs.Turns.{Turned, arguments_are, leads}
use Rattle.code_meaning.proofs.Typed.{begins_typed, same_typed}
use Rattle.action_vm.specs.declared.frame.Ended.{Ended}
use Rattle.action_vm.specs.declared.frame.Ended.TheVariants as ended
use Rattle.action_vm.specs.declared.frame.Next.{Next}
use Rattle.action_vm.specs.declared.frame.Next.TheVariants as next
use Rattle.code_frame.specs.declared.mark.Mark.{Mark}
use Rattle.code_frame.specs.Prelude.{Any, IsMark, Over, Rest, Window, begun}
use Rattle.action_vm.specs.declared.frame.Messages.{Messages}
use Rattle.action_vm.specs.Prelude.{EndsAs, EndsOfKind, HasPlaces, HasResult, IsAt, IsCallOf, IsCallOn, IsNoCall, MayRun, Needs, Own, called_next, code_answer, code_at, end_of, fields_at, held_of, left_by, outcome, own, place_after, step_at, step_of}
use Rattle.action_vm.proofs.Ready.{ready}

-- The same frame means the same in a later local of the scan.

fields_stay : (v w : LocalView) → SameScan v w → (places : List MessageAt) → fields_at w places ≡ fields_at v places
fields_stay v w scan places =
    let P : Ctl → List (List Value) = λ s. map (λ at. (unwrap_or (message_in s.mail at) no_message).fields) places in
    ap P scan.start

held_stays : (v w : LocalView) → SameScan v w → (f : Own) → held_of v f ≡ held_of w f
held_stays v w scan f = let P : List (List Value) → Held = λ ms. record { stack = f.stack; locals = f.locals; inner = ms; made = f.made } in ap P (sym (fields_stay v w scan f.inner))

-- Skipping.

skipped : (p : Program) (c : Code) (calls : ℕ → List Value → Acting CodeEnd) (xs : List Instr) (at skip to : ℕ) (h : Held) → at + skip ≡ to
    → exec p c calls xs at skip h ≡ exec p c calls (drop skip xs) to 0 h
skipped p c calls xs at zero to h e = let same : at ≡ to = omega (arith, e) in ap (λ k. exec p c calls xs k 0 h) same
skipped p c calls [] at (suc skip) to h e = refl
skipped p c calls (x ∷ xs) at (suc skip) to h e = skipped p c calls xs (at + 1) skip to h (omega (arith, e))

drop_nothing : {A : Type 0} (k : ℕ) → [] ≡ drop {A = A} k []
drop_nothing zero = refl
drop_nothing (suc k) = refl

drop_twice : {A : Type 0} (xs : List A) (a b n : ℕ) → a + b ≡ n → drop b (drop a xs) ≡ drop n xs
drop_twice xs zero b n e = let same : b ≡ n = omega (arith, e) in ap (λ k. drop k xs) same
drop_twice [] (suc a) b n e = sym (drop_nothing b) ∙ drop_nothing n
drop_twice (x ∷ xs) (suc a) b zero e = absurd (omega (arith, e))
drop_twice (x ∷ xs) (suc a) b (suc n) e = drop_twice xs a b n (omega (arith, e))

left_at : {A : Type 0} (xs : List A) (at : ℕ) (x : A) → slice_get xs at ≡ Some x → drop at xs ≡ x ∷ drop (at + 1) xs
left_at [] at x found = absurd (cc found)
left_at (y ∷ xs) zero x found = let same : y ≡ x = cc found in ap (λ z. z ∷ xs) same
left_at (y ∷ xs) (suc at) x found =
    let e : at + 1 + 1 ≡ suc at + 1 = omega arith in
    left_at xs at x found ∙ ap (λ k. x ∷ drop k (y ∷ xs)) (let q : suc (at + 1) ≡ suc at + 1 = omega arith in q)

module _ (p : Program) (fits : Fits p) (body : ℕ) (c : Code) (found : slice_get p.bodies body ≡ Some c) where
  -- what is left of a run at a place
  abbrev pub rest_at : ℕ → Held → Acting CodeEnd
  rest_at at h = exec p c (bodies_below p body) (drop at c.instructions) at 0 h

  module _ (at : ℕ) (f : Own) (v : LocalView) (is : IsAt p body c at f v) where
    pub there_is : (i : Instr) × (slice_get c.instructions at ≡ Some i)
    there_is = there c.instructions at is.within

    module _ (i : Instr) (here : slice_get c.instructions at ≡ Some i) where
      pub rules : KeepsRules p c at (ways_before p body c at) (shape_before p body c at) (sign p body c (shape_before p body c at) i) i
      rules = let all = each_place_from p fits body c found in all.each at i here

      pub needs : IsLawful v → Needs v c i f
      needs lawful = ready p body c (shape_before p body c at) f v is.typed lawful is.machine at (ways_before p body c at) i rules

      -- what it leads to
      turned : IsLawful v → Holds (Turned p body c v.machine is.machine (bodies_below p body) i (shape_after p c (shape_before p body c at) i (sign p body c (shape_before p body c at) i))) (run (code_step p c (bodies_below p body) i (held_of v f)) v)
      turned lawful =
          let g = leads p body c v.machine is.machine (bodies_below p body) (shape_before p body c at) (held_of v f) is.typed (calls_end p (each_place_from p fits) v.machine body c is.machine) at (ways_before p body c at) i rules in
          g.gives v lawful refl

      after_is : (step : Step) (w : LocalView) → IsLawful v → run (code_step p c (bodies_below p body) i (held_of v f)) v ≡ Ok (record { value = step; view = w })
          → Turned p body c v.machine is.machine (bodies_below p body) i (shape_after p c (shape_before p body c at) i (sign p body c (shape_before p body c at) i)) step
      after_is step w lawful does = subst (Holds (Turned p body c v.machine is.machine (bodies_below p body) i (shape_after p c (shape_before p body c at) i (sign p body c (shape_before p body c at) i)))) does (turned lawful)

      scan_is : (step : Step) (w : LocalView) → run (code_step p c (bodies_below p body) i (held_of v f)) v ≡ Ok (record { value = step; view = w }) → SameScan v w
      scan_is step w does = subst (HoldsAfter (SameScan v)) does (stays_in_scan (code_step p c (bodies_below p body) i (held_of v f)) v)

      -- the rest by a step
      rest_is : run (rest_at at (held_of v f)) v
          ≡ follow_done (run (code_step p c (bodies_below p body) i (held_of v f)) v) (λ x w. run (follow at (λ skip after. exec p c (bodies_below p body) (drop (at + 1) c.instructions) (at + 1) skip after) x) w)
      rest_is =
          ap (λ xs. run (exec p c (bodies_below p body) xs at 0 (held_of v f)) v) (left_at c.instructions at i here)
          ∙ run-then (code_step p c (bodies_below p body) i (held_of v f)) (follow at (λ skip after. exec p c (bodies_below p body) (drop (at + 1) c.instructions) (at + 1) skip after)) v

      rest_after : (step : Step) (w : LocalView) → run (code_step p c (bodies_below p body) i (held_of v f)) v ≡ Ok (record { value = step; view = w })
          → run (rest_at at (held_of v f)) v ≡ run (follow at (λ skip after. exec p c (bodies_below p body) (drop (at + 1) c.instructions) (at + 1) skip after) step) w
      rest_after step w does = rest_is ∙ ap (λ r. follow_done r (λ x w. run (follow at (λ skip after. exec p c (bodies_below p body) (drop (at + 1) c.instructions) (at + 1) skip after) x) w)) does

      later : (to : ℕ) (g : Own) (w : LocalView) → at < to → SameScan v w → HasPlaces v g.inner → to < length c.instructions → IsTyped p c (shape_before p body c to) (held_of v g) → IsAt p body c to g w
      later to g w forward scan places within typed = record {
        within = within;
        typed = subst (IsTyped p c (shape_before p body c to)) (held_stays v w scan g) typed;
        places = (let P : Ctl → Type 0 = λ s. All (λ at. IsSome (message_in s.mail at)) g.inner in subst P (sym scan.start) places);
        machine = subst (IsDeclared p (machine_of p c)) (sym scan.machine) is.machine;
      }

      -- to the next instruction
      pub moves_on : (g : Own) (w : LocalView) → IsLawful v → run (code_step p c (bodies_below p body) i (held_of v f)) v ≡ Ok (record { value = On (held_of v g); view = w }) → HasPlaces v g.inner
          → IsAt p body c (at + 1) g w × (run (rest_at at (held_of v f)) v ≡ run (rest_at (at + 1) (held_of w g)) w)
      moves_on g w lawful does places =
          let t = after_is (On (held_of v g)) w lawful does in
          let scan = scan_is (On (held_of v g)) w does in
          let on = goes_on p body c (let all = each_place_from p fits in all body c found) at i here t.0 in (
            later (at + 1) g w (omega arith) scan places on.0 (same_typed p c (shape_before p body c (at + 1)) _ (held_of v g) on.1 t.1),
            rest_after (On (held_of v g)) w does ∙ ap (λ h. run (rest_at (at + 1) h) w) (held_stays v w scan g),
          )

      -- to a later one
      pub jumps_to : (to : ℕ) (g : Own) (w : LocalView) → IsLawful v → run (code_step p c (bodies_below p body) i (held_of v f)) v ≡ Ok (record { value = To to (held_of v g); view = w }) → HasPlaces v g.inner
          → (at < to) × IsAt p body c to g w × (run (rest_at at (held_of v f)) v ≡ run (rest_at to (held_of w g)) w)
      jumps_to to g w lawful does places =
          let t = after_is (To to (held_of v g)) w lawful does in
          let scan = scan_is (To to (held_of v g)) w does in
          let jump = jumps p body c (let all = each_place_from p fits in all body c found) at i here to t.0 in
          let forward : at < to = jump.0 in (
            forward,
            later to g w forward scan places jump.1 (same_typed p c (shape_before p body c to) _ (held_of v g) jump.2 t.1),
            rest_after (To to (held_of v g)) w does
                ∙ ap (λ q. run q w) (skipped p c (bodies_below p body) (drop (at + 1) c.instructions) (at + 1) (to - (at + 1)) to (held_of v g) (omega (arith, forward)))
                ∙ ap (λ xs. run (exec p c (bodies_below p body) xs to 0 (held_of v g)) w) (drop_twice c.instructions (at + 1) (to - (at + 1)) to (omega (arith, forward)))
                ∙ ap (λ h. run (rest_at to h) w) (held_stays v w scan g),
          )

      -- to an end
      pub comes_to_end : (end : CodeEnd) (w : LocalView) → run (code_step p c (bodies_below p body) i (held_of v f)) v ≡ Ok (record { value = Ends end; view = w })
          → run (rest_at at (held_of v f)) v ≡ Ok (record { value = end; view = w })
      unfolding run
      comes_to_end end w does = rest_after (Ends end) w does

      pub stops_there : (fault : Fault) → run (code_step p c (bodies_below p body) i (held_of v f)) v ≡ Err fault → run (rest_at at (held_of v f)) v ≡ Err fault
      stops_there fault does = rest_is ∙ ap (λ r. follow_done r (λ x w. run (follow at (λ skip after. exec p c (bodies_below p body) (drop (at + 1) c.instructions) (at + 1) skip after) x) w)) does

-- As a body begins.

pub begins_at : (p : Program) (fits : Fits p) (body : ℕ) (c : Code) (found : slice_get p.bodies body ≡ Some c) (arguments : List Value) (f : Own) (v : LocalView) → MayRun p c arguments v
    → held_of v f ≡ entered c arguments → f.inner ≡ [] → IsAt p body c 0 f v × (run (run_body p body arguments) v ≡ run (rest_at p fits body c found 0 (held_of v f)) v)
unfolding run_body
begins_at p fits body c found arguments f v may is none =
    let all = each_place_from p fits body c found in (
      record {
        within = omega (arith, all.has_an_instruction);
        typed = subst (IsTyped p c (shape_before p body c 0)) (sym is) (begins_typed p c arguments may.arguments);
        places = subst (HasPlaces v) (sym none) (All-nil (IsPlace v));
        machine = may.machine;
      },
      ap (λ o. run (enter p o (bodies_below p body) arguments) v) found ∙ ap (λ h. run (exec p c (bodies_below p body) c.instructions 0 0 h) v) (sym is),
    )

-- What the code answers for an instruction, as a step.

module _ (p : Program) (fits : Fits p) (body : ℕ) (c : Code) (found : slice_get p.bodies body ≡ Some c) (at : ℕ) (f : Own) (v : LocalView) (is : IsAt p body c at f v) (lawful : IsLawful v) where
  step_is : (means : Next → Step) (n : Next) (w : LocalView) → DoesAs means (code_at p body c at (held_of v f)) (Ok n) v w
      → run (code_step p c (bodies_below p body) (there_is p fits body c found at f v is).0 (held_of v f)) v ≡ Ok (record { value = means n; view = w })
  unfolding DoesAs
  step_is means n w does = ap (λ o. run (step_at p body c o (held_of v f)) v) (sym (there_is p fits body c found at f v is).1) ∙ does

  -- it goes on
  pub goes_to : (n : Next) (to : ℕ) (g : Own) (w : LocalView) → DoesAs (step_of v g) (code_at p body c at (held_of v f)) (Ok n) v w → HasPlaces v g.inner → Ok to ≡ place_after at n
      → IsAt p body c to g w × (at < to) × (run (rest_at p fits body c found at (held_of v f)) v ≡ run (rest_at p fits body c found to (held_of w g)) w)
  goes_to next.On to g w does places so =
      let i = there_is p fits body c found at f v is in
      let m = moves_on p fits body c found at f v is i.0 i.1 g w lawful (step_is (step_of v g) next.On w does) places in
      let same : at + 1 ≡ to = cc (sym so) in
      let rest : run (rest_at p fits body c found at (held_of v f)) v ≡ run (rest_at p fits body c found to (held_of w g)) w = m.1 ∙ ap (λ k. run (rest_at p fits body c found k (held_of w g)) w) same in
      (subst (λ k. IsAt p body c k g w) same m.0, omega (arith, same), rest)
  goes_to (next.To k) to g w does places so =
      let i = there_is p fits body c found at f v is in
      let m = jumps_to p fits body c found at f v is i.0 i.1 k g w lawful (step_is (step_of v g) (next.To k) w does) places in
      let same : k ≡ to = cc (sym so) in
      let rest : run (rest_at p fits body c found at (held_of v f)) v ≡ run (rest_at p fits body c found to (held_of w g)) w = m.2 ∙ ap (λ k. run (rest_at p fits body c found k (held_of w g)) w) same in
      (subst (λ k. IsAt p body c k g w) same m.1, omega (arith, same, m.0), rest)
  goes_to (next.Over end) to g w does places so = absurd (cc so)

  -- it ends
  pub comes_to : (n : Next) (end : Ended) (g : Own) (w : LocalView) → DoesAs (step_of v g) (code_at p body c at (held_of v f)) (Ok n) v w → Err end ≡ place_after at n
      → run (rest_at p fits body c found at (held_of v f)) v ≡ Ok (record { value = end_of end g.stack; view = w })
  comes_to next.On end g w does so = absurd (cc so)
  comes_to (next.To k) end g w does so = absurd (cc so)
  comes_to (next.Over e) end g w does so =
      let i = there_is p fits body c found at f v is in
      let same : e ≡ end = cc (sym so) in
      comes_to_end p fits body c found at f v is i.0 i.1 (end_of e g.stack) w (step_is (step_of v g) (next.Over e) w does) ∙ ap (λ x. Ok (record { value = end_of x g.stack; view = w })) same

  -- it stops
  fails_by : (means : Next → Step) (fault : Fault) (w : LocalView) → DoesAs means (code_at p body c at (held_of v f)) (Err (trouble.Fault fault)) v w
      → run (rest_at p fits body c found at (held_of v f)) v ≡ Err fault
  unfolding DoesAs
  fails_by means fault w does =
      let i = there_is p fits body c found at f v is in
      stops_there p fits body c found at f v is i.0 i.1 fault (ap (λ o. run (step_at p body c o (held_of v f)) v) (sym i.1) ∙ does)

  pub fails : (means : Next → Step) (meaning : Ended → CodeEnd) (e : Trouble) (w : LocalView) (q : Acting CodeEnd) (u : LocalView) → DoesAs means (code_at p body c at (held_of v f)) (Err e) v w
      → run (rest_at p fits body c found at (held_of v f)) v ≡ run q u → DoesAs meaning q (Err e) u w
  unfolding DoesAs
  fails means meaning (trouble.Fault fault) w q u does rest = sym rest ∙ fails_by means fault w does
  fails means meaning trouble.NoMemory w q u does rest = tt

  pub ends_with : (meaning : Ended → CodeEnd) (end : Ended) (stack : List Value) (w : LocalView) (q : Acting CodeEnd) (u : LocalView) → run (rest_at p fits body c found at (held_of v f)) v ≡ Ok (record { value = end_of end stack; view = w })
      → run (rest_at p fits body c found at (held_of v f)) v ≡ run q u → end_of end stack ≡ meaning end → DoesAs meaning q (Ok end) u w
  unfolding DoesAs
  ends_with meaning end stack w q u is_end rest same = sym rest ∙ is_end ∙ ap (λ x. Ok (record { value = x; view = w })) same

-- the result is on the stack of the body that called
pub same_end : (end : Ended) (stack : List Value) (n : ℕ) (w new : Window) → new ≡ left_by end (argument stack 0) n w → end_of end stack ≡ end_of end new.stack
same_end ended.Value stack n w new is = ap (λ (x : Window). code_end.Value (argument x.stack 0)) (sym is)
same_end ended.Nothing stack n w new is = refl
same_end (ended.Trigger event address entry tbe) stack n w new is = refl
same_end (ended.Stop f) stack n w new is = refl

pub left_itself : (end : Ended) (v : Value) (n : ℕ) (w new : Window) → new ≡ left_by end v n w → new ≡ left_by end (argument new.stack 0) n w
left_itself ended.Value v n w new is = is ∙ ap (λ (x : Window). left_by ended.Value (argument x.stack 0) n w) (sym is)
left_itself ended.Nothing v n w new is = is
left_itself (ended.Trigger event address entry tbe) v n w new is = is
left_itself (ended.Stop f) v n w new is = is

-- Calls.

operands_long : (ks : List Kind) → length (reverse (map operand.Value ks)) ≡ length ks
operands_long ks = length-reverse (map operand.Value ks) ∙ many ks
  where
    many : (ks : List Kind) → length (map operand.Value ks) ≡ length ks
    many [] = refl
    many (k ∷ ks) = ap suc (many ks)

module _ (p : Program) (fits : Fits p) (body : ℕ) (c : Code) (found : slice_get p.bodies body ≡ Some c) (at n : ℕ) (f : Own) (v : LocalView) (is : IsAt p body c at f v)
    (here : slice_get c.instructions at ≡ Some (instr.Call n)) where
  pub record Callee : Type 0 where
    pub code : Code
    pub there : slice_get p.bodies n ≡ Some code
    pub lower : n < body
    pub may : MayRun p code (arguments_on (length code.arguments) f.stack) v
    pub long : length code.arguments ≤ length f.stack

  callee_by : (o : Option Code) → slice_get p.bodies n ≡ o → (call_sign c.machine body n o).known ≡ true
      → operands_fit (machine_of p c) (call_sign c.machine body n o).on (call_sign c.machine body n o).takes (shape_before p body c at).stack ≡ true
      → length (call_sign c.machine body n o).takes ≤ length (shape_before p body c at).stack → Callee
  callee_by None there known fit enough = absurd (cc known)
  callee_by (Some d) there known fit enough =
      let parts = and_parts (nat_lt n body) (d.machine == c.machine) known in
      let of : machine_of p c ≡ machine_of p d = ap (slice_get p.machines) (sym (eqb-true d.machine c.machine parts.1)) in
      record {
        code = d;
        there = there;
        lower = ltb-true n body parts.0;
        may = record {
          arguments = subst (λ m. are_of_kinds (tables_of m) d.arguments (arguments_on (length d.arguments) f.stack) ≡ true) of (arguments_are (machine_of p c) 0 d.arguments (shape_before p body c at).stack f.stack fit is.typed.stack);
          machine = subst (λ m. IsDeclared p m v.machine) of is.machine;
        };
        long = omega (arith, enough, operands_long d.arguments, as_long (tables_of (machine_of p c)) (shape_before p body c at).stack f.stack is.typed.stack);
      }

  pub callee : Callee
  callee =
      let k = rules p fits body c found at f v is (instr.Call n) here in
      callee_by (slice_get p.bodies n) refl k.names_what_is_served k.operands_have_their_kinds k.operands_are_there

  pub call_is : IsCallOn p (slice_get p.bodies n) f.stack v
  call_is =
      let d = callee in
      subst (λ o. IsCallOn p o f.stack v) (sym d.there) (d.may, d.long)

  call_does_as : (count : ℕ) → count ≡ argument_count (slice_get p.bodies n)
      → code_at p body c at (held_of v f) ≡ (run_body p n (arguments_on count f.stack) >>= (λ end. ends (called count end (held_of v f))))
  call_does_as count many =
      let d = callee in
      let P : ℕ → Acting Step = λ k. bodies_below p body n (arguments_on k f.stack) >>= (λ end. ends (called k end (held_of v f))) in
      ap (λ o. step_at p body c o (held_of v f)) here ∙ ap P (sym many) ∙ ap (λ (q : Acting CodeEnd). q >>= (λ end. ends (called count end (held_of v f)))) (below_is p body n (arguments_on count f.stack) d.lower)

  pub call_stops : (means : Next → Step) (meaning : Ended → CodeEnd) (e : Trouble) (o : Result Next Trouble) (w : LocalView)
      → DoesAs meaning (run_body p n (arguments_on (argument_count (slice_get p.bodies n)) f.stack)) (Err e) v w → IsErrAnd o (λ g. g ≡ e) → DoesAs means (code_at p body c at (held_of v f)) o v w
  call_stops means meaning e (Ok m) w does is_err = absurd is_err
  call_stops means meaning e (Err g) w does is_err =
      rw is_err
      (subst (λ q. DoesAs means q (Err e) v w) (sym (call_does_as (argument_count (slice_get p.bodies n)) refl))
      (then_stops meaning means (run_body p n (arguments_on (argument_count (slice_get p.bodies n)) f.stack)) (λ end. ends (called (argument_count (slice_get p.bodies n)) end (held_of v f))) e v w w does))

-- after a call the run goes on, or ends as the body did
called_is : (v : LocalView) (messages : Messages) (old new : Window) (count : ℕ) (end : Ended) → new ≡ left_by end (argument new.stack 0) count old
    → step_of v (own new messages) (called_next end) ≡ called count (end_of end new.stack) (held_of v (own old messages))
called_is v messages old new count ended.Value is = ap (λ (x : Window). On (held_of v (own x messages))) is
called_is v messages old new count ended.Nothing is = ap (λ (x : Window). On (held_of v (own x messages))) is
called_is v messages old new count (ended.Trigger event address entry tbe) is = refl
called_is v messages old new count (ended.Stop fault) is = refl

module _ (p : Program) (fits : Fits p) (body : ℕ) (c : Code) (found : slice_get p.bodies body ≡ Some c) (at n : ℕ) (old new : Window) (messages : Messages) (v : LocalView) (is : IsAt p body c at (own old messages) v)
    (here : slice_get c.instructions at ≡ Some (instr.Call n)) where
  pub call_ends : (end : Ended) (w : LocalView) → DoesAs (λ e. end_of e new.stack) (run_body p n (arguments_on (argument_count (slice_get p.bodies n)) old.stack)) (Ok end) v w
      → new ≡ left_by end (argument new.stack 0) (argument_count (slice_get p.bodies n)) old
      → DoesAs (step_of v (own new messages)) (code_at p body c at (held_of v (own old messages))) (Ok (called_next end)) v w
  call_ends end w does left =
      subst (λ q. DoesAs (step_of v (own new messages)) q (Ok (called_next end)) v w) (sym (call_does_as p fits body c found at n (own old messages) v is here (argument_count (slice_get p.bodies n)) refl))
      (then_does (λ e. end_of e new.stack) (step_of v (own new messages)) (run_body p n (arguments_on (argument_count (slice_get p.bodies n)) old.stack)) (λ end. ends (called (argument_count (slice_get p.bodies n)) end (held_of v (own old messages)))) end (Ok (called_next end)) v w w does
      (does_ends_as (step_of v (own new messages)) (called (argument_count (slice_get p.bodies n)) (end_of end new.stack) (held_of v (own old messages))) (called_next end) w (called_is v messages old new (argument_count (slice_get p.bodies n)) end left)))

-- The frame of a body as it begins.
pub frame_begins : (v : LocalView) (c : Code) (n : ℕ) (old new : Window) (messages : Messages) → n ≡ length c.arguments → new ≡ begun n c.locals old → messages.inner ≡ [] → messages.made ≡ []
    → held_of v (own new messages) ≡ entered c (arguments_on n old.stack)
frame_begins v c n old new messages many is ei em =
    let W : Window → Held = λ w. held_of v (own w messages) in
    let I : List MessageAt → Held = λ i. record { stack = []; locals = arguments_on n old.stack ++ map default_value c.locals; inner = fields_at v i; made = messages.made } in
    let M : List (List Value) → Held = λ m. record { stack = []; locals = arguments_on n old.stack ++ map default_value c.locals; inner = []; made = m } in
    ap W is ∙ ap I ei ∙ ap M em

-- at its first instruction
pub walk_begins : (p : Program) (fits : Fits p) (body : ℕ) (c : Code) (found : slice_get p.bodies body ≡ Some c) (old new : Window) (messages : Messages) (v : LocalView) (n : ℕ) (kinds : List Kind)
    → IsCallOn p (slice_get p.bodies body) old.stack v → n ≡ length c.arguments → kinds ≡ c.locals → new ≡ begun n kinds old → messages.inner ≡ [] → messages.made ≡ []
    → IsAt p body c 0 (own new messages) v
    × (run (rest_at p fits body c found 0 (held_of v (own new messages))) v ≡ run (run_body p body (arguments_on (argument_count (slice_get p.bodies body)) old.stack)) v)
    × (new.under ≡ old.under ++ old.locals ++ reverse (drop (argument_count (slice_get p.bodies body)) old.stack))
walk_begins p fits body c found old new messages v n kinds call many same is inner made =
    let count : n ≡ argument_count (slice_get p.bodies body) = many ∙ sym (ap argument_count found) in
    let as_begun : new ≡ begun (argument_count (slice_get p.bodies body)) c.locals old = is ∙ ap (λ k. begun k kinds old) count ∙ ap (λ ks. begun (argument_count (slice_get p.bodies body)) ks old) same in
    let may : MayRun p c (arguments_on (argument_count (slice_get p.bodies body)) old.stack) v = subst (λ o. IsCallOf p o (arguments_on (argument_count (slice_get p.bodies body)) old.stack) v) found call.0 in
    let b = begins_at p fits body c found (arguments_on (argument_count (slice_get p.bodies body)) old.stack) (own new messages) v may
    (frame_begins v c (argument_count (slice_get p.bodies body)) old new messages (ap argument_count found) as_begun inner made) inner in
    (b.0, sym b.1, ap (λ (w : Window). w.under) as_begun)

-- there is room for a mark below what a body leaves
pub mark_room : (m : Mark) (w : Window) (under : List Value) (n : ℕ) → IsMark m w → under ≡ w.under ++ w.locals ++ reverse (drop n w.stack) → (m.base ≤ m.floor) × (m.floor ≤ length under)
mark_room m w under n mark is =
    let long : length under ≡ length w.under + length w.locals + length (reverse (drop n w.stack)) = ap length is ∙ simp length-append refl in
    (omega (arith, mark.base, mark.floor), omega (arith, long, mark.floor))

-- the arguments of a call on top of a stack
pub arguments_back : (p : Program) (o : Option Code) (arguments stack below : List Value) (v : LocalView) → IsCallOf p o arguments v → stack ≡ reverse arguments ++ below
    → (arguments_on (argument_count o) stack ≡ arguments) × (argument_count o ≤ length stack)
arguments_back p None arguments stack below v call is = absurd call
arguments_back p (Some c) arguments stack below v call is =
    let long : length (reverse arguments) ≡ length c.arguments = length-reverse arguments ∙ sym (as_long (tables_of (machine_of p c)) c.arguments arguments call.arguments) in
    let all : length stack ≡ length (reverse arguments) + length below = ap length is ∙ length-append (reverse arguments) below in
    (ap (λ s. reverse (take (length c.arguments) s)) is ∙ ap reverse (take_at (reverse arguments) below (length c.arguments) long) ∙ reverse-reverse arguments, omega (arith, long, all))

pub call_on : (p : Program) (o : Option Code) (arguments stack below : List Value) (v : LocalView) → IsCallOf p o arguments v → stack ≡ reverse arguments ++ below → IsCallOn p o stack v
call_on p o arguments stack below v call is =
    let back = arguments_back p o arguments stack below v call is in
    (subst (λ l. IsCallOf p o l v) (sym back.0) call, back.1)

-- what is answered, in the words of the caller
pub answer_as : (means : Ended → CodeEnd) (q r : Acting CodeEnd) (e : Ended) (x : CodeEnd) (v w : LocalView) → DoesAs means q (Ok e) v w → q ≡ r → x ≡ means e → DoesAs itself r (Ok x) v w
unfolding DoesAs
answer_as means q r e x v w does same is = sym (ap (λ a. run a v) same) ∙ does ∙ ap (λ y. Ok (record { value = y; view = w })) (sym is)

pub stop_as : (means : Ended → CodeEnd) (q r : Acting CodeEnd) (e : Trouble) (v w : LocalView) → DoesAs means q (Err e) v w → q ≡ r → DoesAs itself r (Err e) v w
unfolding DoesAs
stop_as means q r (trouble.Fault f) v w does same = sym (ap (λ a. run a v) same) ∙ does
stop_as means q r trouble.NoMemory v w does same = tt

-- a body that ended with a value left it
pub has_result : (r : Result Ended Trouble) (old new : Window) (n : ℕ) → IfOk r (λ e. new ≡ left_by e (argument new.stack 0) n old) → IfOk r (λ e. HasResult e new.stack)
has_result (Ok ended.Value) old new n left = subst (λ (w : Window). Over Any Rest w.stack) (sym left) (tt, tt)
has_result (Ok ended.Nothing) old new n left = tt
has_result (Ok (ended.Trigger event address entry tbe)) old new n left = tt
has_result (Ok (ended.Stop f)) old new n left = tt
has_result (Err e) old new n left = tt

pub no_call : (i : Instr) → ((n : ℕ) → i ≡ instr.Call n → ⊥) → IsNoCall i
no_call (instr.Call n) other = other n refl
no_call i other = tt

-- What the call answers.

pub ends_as : (q : Acting CodeEnd) (end : CodeEnd) (v w : LocalView) → DoesAs itself q (Ok end) v w → EndsAs q (Ok end) v w
unfolding DoesAs
ends_as q (code_end.Value x) v w does = ap outcome does
ends_as q code_end.Nothing v w does = ap outcome does
ends_as q (code_end.Trigger event address entry tbe) v w does = ap outcome does
ends_as q (code_end.Stop f) v w does = ap outcome does

pub ends_as_fault : (q : Acting CodeEnd) (f : Fault) (v w : LocalView) → DoesAs itself q (Err (trouble.Fault f)) v w → EndsAs q (Ok (code_end.Stop f)) v w
unfolding DoesAs
ends_as_fault q f v w does = ap outcome does

-- What it answers is an end of the body with its result.

stop_is_end : (tables : List TableDecl) (result : Option Kind) (f : Fault) → is_end_of tables result (code_end.Stop f) ≡ true
stop_is_end tables None f = refl
stop_is_end tables (Some k) f = refl

pub stop_of_kind : (p : Program) (o : Option Code) (f : Fault) → EndsOfKind p o (Ok (code_end.Stop f))
stop_of_kind p None f = tt
stop_of_kind p (Some c) f = stop_is_end (tables_of (machine_of p c)) c.result f

module _ (body : ℕ) (arguments : List Value) (end : CodeEnd) (v w : LocalView) (lawful : IsLawful v) where
  end_by : (p : Program) (fits : Fits p) (o : Option Code) → slice_get p.bodies body ≡ o → IsCallOf p o arguments v → DoesAs itself (run_body p body arguments) (Ok end) v w → EndsOfKind p o (Ok end)
  unfolding DoesAs
  end_by p fits None found call does = tt
  end_by p fits (Some c) found call does =
      let g = run_ends p (each_place_from p fits) v.machine body c found call.machine arguments call.arguments in
      subst (Holds (λ end. is_end_of (tables_of (machine_of p c)) c.result end ≡ true)) does (g.gives v lawful refl)

module _ (p code : Program) (same : p ≡ code) (body : ℕ) (arguments stack below : List Value) (v : LocalView) (call : IsCallOf code (slice_get code.bodies body) arguments v) (is : stack ≡ reverse arguments ++ below) where
  pub may_call : IsCallOn p (slice_get p.bodies body) stack v
  may_call = subst (λ x. IsCallOn x (slice_get x.bodies body) stack v) (sym same) (call_on code (slice_get code.bodies body) arguments stack below v call is)

  the_same : run_body p body (arguments_on (argument_count (slice_get p.bodies body)) stack) ≡ run_body code body arguments
  the_same =
      let back = arguments_back code (slice_get code.bodies body) arguments stack below v call is in
      ap (λ x. run_body x body (arguments_on (argument_count (slice_get x.bodies body)) stack)) same ∙ ap (run_body code body) back.0

  module _ (w : LocalView) (left : List Value) where
    pub code_does : (r : Result Ended Trouble) → DoesAs (λ e. end_of e left) (run_body p body (arguments_on (argument_count (slice_get p.bodies body)) stack)) r v w → EndsAs (run_body code body arguments) (code_answer r left) v w
    code_does (Ok e) does =
        ends_as (run_body code body arguments) (end_of e left) v w
        (answer_as (λ e. end_of e left) (run_body p body (arguments_on (argument_count (slice_get p.bodies body)) stack)) (run_body code body arguments) e (end_of e left) v w does the_same refl)
    code_does (Err (trouble.Fault f)) does =
        ends_as_fault (run_body code body arguments) f v w
        (stop_as (λ e. end_of e left) (run_body p body (arguments_on (argument_count (slice_get p.bodies body)) stack)) (run_body code body arguments) (trouble.Fault f) v w does the_same)
    code_does (Err trouble.NoMemory) does = tt

    pub code_kind : IsLawful v → Fits code → (r : Result Ended Trouble) → DoesAs (λ e. end_of e left) (run_body p body (arguments_on (argument_count (slice_get p.bodies body)) stack)) r v w
        → EndsOfKind code (slice_get code.bodies body) (code_answer r left)
    code_kind lawful fits (Ok e) does =
        end_by body arguments (end_of e left) v w lawful code fits (slice_get code.bodies body) refl call
        (answer_as (λ e. end_of e left) (run_body p body (arguments_on (argument_count (slice_get p.bodies body)) stack)) (run_body code body arguments) e (end_of e left) v w does the_same refl)
    code_kind lawful fits (Err (trouble.Fault f)) does = stop_of_kind code (slice_get code.bodies body) f
    code_kind lawful fits (Err trouble.NoMemory) does = none_of_kind (slice_get code.bodies body)
      where
        none_of_kind : (o : Option Code) → EndsOfKind code o (Err (record {}))
        none_of_kind None = tt
        none_of_kind (Some c) = tt
