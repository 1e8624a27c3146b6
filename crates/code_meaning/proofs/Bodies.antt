-- The bodies of a program that fits end with what they are declared to give, from arguments of their kinds.
use Rattle.std.proofs.Common.{◌≡◌, ℕ, zero, suc, ◌+◌, ◌-◌, ◌<◌, ◌==◌, true, Some, List, [], ◌∷◌, drop, length, length-drop, slice_get, refl, sym, ap, subst, arith}
use Rattle.std.proofs.lemmas.Bool.{cond_both, eqb-false, eqb-true}
use Rattle.ruby_value.specs.declared.setup.MachineSetup.{MachineSetup}
use Rattle.ruby_value.specs.declared.value.Value.{Value}
use Rattle.acts.specs.Prelude.{Acting}
use Rattle.action_code.specs.declared.instr.Code.{Code}
use Rattle.action_code.specs.declared.instr.Instr.{Instr}
use Rattle.action_code.specs.declared.program.Program.{Program}
use Rattle.action_code.specs.Prelude.{FitsBody, FitsEachPlace, machine_of, shape_after, shape_before, sign, tables_of, ways_before}
use Rattle.code_meaning.specs.declared.code_end.CodeEnd.{CodeEnd}
use Rattle.code_meaning.specs.Prelude.{Bodies, Held, IsDeclared, IsTyped, On, Over, Step, To, are_of_kinds, bodies_below, enter, entered, exec, follow, is_end_of, run_body}
use Rattle.code_meaning.proofs.Gives.{Gives, ends_gives, then_gives}
use Rattle.code_meaning.proofs.Places.{goes_on, jumps}
use Rattle.code_meaning.proofs.Turns.{CallsGive, Turned, leads}
use Rattle.code_meaning.proofs.Typed.{begins_typed, same_typed}

-- a list from a place on
pub split_at : {A : Type 0} (xs : List A) (at : ℕ) (x : A) (rest : List A) → x ∷ rest ≡ drop at xs → (slice_get xs at ≡ Some x) × (rest ≡ drop (at + 1) xs)
split_at [] zero x rest is = absurd (cc is)
split_at [] (suc at) x rest is = absurd (cc is)
split_at (y ∷ xs) zero x rest is = (cc (sym is), cc is)
split_at (y ∷ xs) (suc at) x rest is =
    let tail = split_at xs at x rest is in
    let e : suc (at + 1) ≡ suc at + 1 = omega arith in
    (tail.0, subst (λ k. rest ≡ drop k (y ∷ xs)) e tail.1)

-- Of a body, where calls give what they are declared to.

module _ (p : Program) (body : ℕ) (c : Code) (setup : MachineSetup) (declared : IsDeclared p (machine_of p c) setup) (calls : Bodies) (fits : FitsBody p body c)
    (give : CallsGive p body c setup declared calls) where
  abbrev Ends : Acting CodeEnd → Type 0
  Ends q = Gives setup (λ end. is_end_of (tables_of (machine_of p c)) c.result end ≡ true) q

  next_ends : (at : ℕ) (i : Instr) → slice_get c.instructions at ≡ Some i → (rest : ℕ → Held → Acting CodeEnd)
      → ((skip : ℕ) (h : Held) → at + 1 + skip < length c.instructions → IsTyped p c (shape_before p body c (at + 1 + skip)) h → Ends (rest skip h))
      → (step : Step) → Turned p body c setup declared calls i (shape_after p c (shape_before p body c at) i (sign p body c (shape_before p body c at) i)) step → Ends (follow at rest step)
  next_ends at i found rest going (On h) (goes, typed) =
      let on = goes_on p body c fits at i found goes in
      let same : at + 1 ≡ at + 1 + 0 = omega arith in
      going 0 h (omega (arith, on.0)) (subst (λ k. IsTyped p c (shape_before p body c k) h) same (same_typed p c (shape_before p body c (at + 1)) _ h on.1 typed))
  next_ends at i found rest going (To to h) (is, typed) =
      let jump = jumps p body c fits at i found to is in
      let same : to ≡ at + 1 + (to - (at + 1)) = omega (arith, jump.0) in
      going (to - (at + 1)) h (omega (arith, jump.0, jump.1)) (subst (λ k. IsTyped p c (shape_before p body c k) h) same (same_typed p c (shape_before p body c to) _ h jump.2 typed))
  next_ends at i found rest going (Over end) is = ends_gives setup is

  going : (instructions : List Instr) (at skip : ℕ) (h : Held) → instructions ≡ drop at c.instructions → at + skip < length c.instructions → IsTyped p c (shape_before p body c (at + skip)) h
      → Ends (exec p c calls instructions at skip h)
  going [] at skip h is lt typed =
      let none : length (drop at c.instructions) ≡ 0 = ap length (sym is) in
      absurd (omega (arith, none, length-drop at c.instructions))
  going (i ∷ rest) at (suc skip) h is lt typed =
      let parts = split_at c.instructions at i rest is in
      let same : at + suc skip ≡ at + 1 + skip = omega arith in
      going rest (at + 1) skip h parts.1 (omega (arith, lt)) (subst (λ k. IsTyped p c (shape_before p body c k) h) same typed)
  going (i ∷ rest) at zero h is lt typed =
      let parts = split_at c.instructions at i rest is in
      let same : at + 0 ≡ at = omega arith in
      let here : IsTyped p c (shape_before p body c at) h = subst (λ k. IsTyped p c (shape_before p body c k) h) same typed in
      then_gives setup (leads p body c setup declared calls (shape_before p body c at) h here give at (ways_before p body c at) i (fits.each at i parts.0))
      (next_ends at i parts.0 (λ skip after. exec p c calls rest (at + 1) skip after) (λ skip after lt typed. going rest (at + 1) skip after parts.1 lt typed))

  pub body_ends : (arguments : List Value) → are_of_kinds (tables_of (machine_of p c)) c.arguments arguments ≡ true → Ends (exec p c calls c.instructions 0 0 (entered c arguments))
  body_ends arguments fit = going c.instructions 0 0 (entered c arguments) refl (omega (arith, fits.has_an_instruction)) (begins_typed p c arguments fit)

-- Of all bodies.

module _ (p : Program) (fits : FitsEachPlace p) (setup : MachineSetup) where
  -- a body does this
  abbrev pub EndsAs : Code → Acting CodeEnd → Type 0
  EndsAs c q = Gives setup (λ end. is_end_of (tables_of (machine_of p c)) c.result end ≡ true) q

  enter_ends : (body : ℕ) (c : Code) (calls : Bodies) (declared : IsDeclared p (machine_of p c) setup) → slice_get p.bodies body ≡ Some c → CallsGive p body c setup declared calls
      → (arguments : List Value) → are_of_kinds (tables_of (machine_of p c)) c.arguments arguments ≡ true → EndsAs c (enter p (slice_get p.bodies body) calls arguments)
  enter_ends body c calls declared found give arguments fit =
      subst (λ o. EndsAs c (enter p o calls arguments)) (sym found) (body_ends p body c setup declared calls (fits body c found) give arguments fit)

  mutual_calls : (body : ℕ) (c : Code) (calls : Bodies) (declared : IsDeclared p (machine_of p c) setup)
      → ((n : ℕ) (d : Code) → n < body → slice_get p.bodies n ≡ Some d → IsDeclared p (machine_of p d) setup → (arguments : List Value) → are_of_kinds (tables_of (machine_of p d)) d.arguments arguments ≡ true → EndsAs d (calls n arguments))
      → CallsGive p body c setup declared calls
  mutual_calls body c calls declared below = record {
    each = λ n d found lt same arguments fit.
        let of : machine_of p d ≡ machine_of p c = ap (slice_get p.machines) same in
        subst (λ o. Gives setup (λ end. is_end_of (tables_of o) d.result end ≡ true) (calls n arguments)) of
        (below n d lt found (subst (λ o. IsDeclared p o setup) (sym of) declared) arguments (subst (λ o. are_of_kinds (tables_of o) d.arguments arguments ≡ true) (sym of) fit));
  }

  below_end : (depth n : ℕ) (d : Code) → n < depth → slice_get p.bodies n ≡ Some d → IsDeclared p (machine_of p d) setup → (arguments : List Value)
      → are_of_kinds (tables_of (machine_of p d)) d.arguments arguments ≡ true → EndsAs d (bodies_below p depth n arguments)
  below_end zero n d lt found declared arguments fit = absurd (omega (arith, lt))
  below_end (suc body) n d lt found declared arguments fit =
      cond_both (n == body) (enter p (slice_get p.bodies body) (bodies_below p body) arguments) (bodies_below p body n arguments) (EndsAs d)
      (λ same. let e : n ≡ body = eqb-true n body same in
      enter_ends body d (bodies_below p body) declared (subst (λ k. slice_get p.bodies k ≡ Some d) e found)
      (mutual_calls body d (bodies_below p body) declared (λ k f lt found declared arguments fit. below_end body k f lt found declared arguments fit)) arguments fit)
      (λ other. below_end body n d (omega (arith, lt, eqb-false n body other)) found declared arguments fit)

  pub run_ends : (n : ℕ) (d : Code) → slice_get p.bodies n ≡ Some d → IsDeclared p (machine_of p d) setup → (arguments : List Value) → are_of_kinds (tables_of (machine_of p d)) d.arguments arguments ≡ true
      → EndsAs d (run_body p n arguments)
  unfolding run_body
  run_ends n d found declared arguments fit =
      enter_ends n d (bodies_below p n) declared found (mutual_calls n d (bodies_below p n) declared (λ k f lt found declared arguments fit. below_end n k f lt found declared arguments fit)) arguments fit

  -- what a body may call
  pub calls_end : (n : ℕ) (d : Code) (declared : IsDeclared p (machine_of p d) setup) → CallsGive p n d setup declared (bodies_below p n)
  calls_end n d declared = mutual_calls n d (bodies_below p n) declared (λ k f lt found declared arguments fit. below_end n k f lt found declared arguments fit)

-- the bodies below a number are the bodies
pub below_is : (p : Program) (depth n : ℕ) (arguments : List Value) → n < depth → bodies_below p depth n arguments ≡ run_body p n arguments
unfolding run_body
below_is p zero n arguments lt = absurd (omega (arith, lt))
below_is p (suc body) n arguments lt =
    cond_both (n == body) (enter p (slice_get p.bodies body) (bodies_below p body) arguments) (bodies_below p body n arguments) (λ q. q ≡ enter p (slice_get p.bodies n) (bodies_below p n) arguments)
    (λ same. let e : body ≡ n = sym (eqb-true n body same) in ap (λ k. enter p (slice_get p.bodies k) (bodies_below p k) arguments) e)
    (λ other. below_is p body n arguments (omega (arith, lt, eqb-false n body other)))
