-- What is written where a place is assigned or changed, step by step.
use Rattle.std.proofs.Common.{◌≡◌, ◌∙◌, ◌++◌, ◌∷◌, ◌+◌, ℕ, Bool, true, List, [], Option, Some, None, Result, Ok, Err, refl, ap, subst, length, ◌≤◌, ◌-◌, arith, drop, get_or, take}
use Rattle.std.proofs.lemmas.List.{take_all}
use Rattle.std.specs.Prelude.{option_and_then}
use Rattle.ruby_base.specs.declared.memory.NoMemory.{NoMemory}
use Rattle.slicc_ast.specs.declared.tree.expression.Expr.{Expr}
use Rattle.slicc_ast.specs.declared.tree.expression.Suffix.{Suffix}
use Rattle.ruby_value.specs.declared.kind.Kind.{Kind}
use Rattle.action_code.specs.declared.instr.Instr.{Instr}
use Rattle.action_code.specs.declared.instr.Instr.TheVariants as instr
use Rattle.body_meaning.specs.Prelude.{Reading, write_callback}
use Rattle.body_code.specs.declared.left.FieldAt.{FieldAt}
use Rattle.body_code.specs.declared.numbers.BodyNumbers.{BodyNumbers}
use Rattle.body_code.specs.declared.own.Locals.{Locals}
use Rattle.body_code.specs.declared.own.Own.{Own}
use Rattle.body_code.specs.Prelude.{Ending, Segment, arguments_by, assigned, assigned_at, changed, changed_at, goes_on, just, kind_at, piece, scratch_for, spot_of, spot_with, value_call, written_back, ◌⨾◌}
use Rattle.body_code.specs.Spots.{Spot, AtLine}
use Rattle.body_code.specs.Statements.{operation_on}
use Rattle.emit_expressions.specs.Prelude.{Adds, AddsIfOk}
use Rattle.emit_expressions.proofs.Adding.{adds_then}
use Rattle.emit_statements.specs.Prelude.{WritesLine, operated_by}
use Rattle.emit_statements.proofs.Following.{behind_writes, line_of, line_wrote}

-- the last of two, of which memory may want
pub adds_last : {A : Type 0} (a b : Segment) (result : Result A NoMemory) (old mid new : List Instr) → Adds a old mid → AddsIfOk b result mid new → AddsIfOk (a ⨾ b) result old new
unfolding AddsIfOk
adds_last a b (Err e) old mid new first last = tt
adds_last a b (Ok x) old mid new first last = adds_then old mid new a b first last

pub pushed_if_ok : {A : Type 0} (instructions : List Instr) (result : Result A NoMemory) (old new : List Instr) → (Adds (just instructions) old new) → AddsIfOk (just instructions) result old new
unfolding AddsIfOk
pushed_if_ok instructions (Err e) old new h = tt
pushed_if_ok instructions (Ok x) old new h = h

-- an instruction before and one after
pub around : (a b : Instr) (change : Segment) (own : Own) (c0 c1 c2 c3 : List Instr) → c1 ≡ c0 ++ a ∷ [] → Adds change c1 c2 → c3 ≡ c2 ++ b ∷ []
    → WritesLine (goes_on (just (a ∷ []) ⨾ change ⨾ just (b ∷ [])) own) (Ok true) c0 c3 own
around a b change own c0 c1 c2 c3 first second third =
    line_wrote (goes_on (just (a ∷ []) ⨾ change ⨾ just (b ∷ [])) own) true c0 c3 own refl refl
    (adds_then c0 c2 c3 (just (a ∷ []) ⨾ change) (just (b ∷ [])) (adds_then c0 c1 c2 (just (a ∷ [])) change first second) third)

module _ (code : Segment) (k : Kind) (f : FieldAt) (own : Own) where
  pub assigned_line : (e : Segment) (locals : Locals) (x : ℕ) (start c0 c1 c2 c3 c4 : List Instr)
      → x ≡ (scratch_for f.kind own.locals).slot → locals ≡ (scratch_for f.kind own.locals).locals
      → Adds e start c0 → c1 ≡ c0 ++ instr.Store x ∷ [] → Adds code c1 c2 → c3 ≡ c2 ++ instr.Load x ∷ [] → c4 ≡ c3 ++ instr.Set f.number ∷ []
      → WritesLine (assigned_at (AtLine code k f) e own) (Ok true) start c4 (record { names = own.names; locals = locals })
  assigned_line e locals x start c0 c1 c2 c3 c4 slot_is locals_are before first second third fourth =
      let slot : ℕ = (scratch_for f.kind own.locals).slot in
      let last : Adds (just (instr.Load slot ∷ instr.Set f.number ∷ [])) c2 c4 =
      adds_then c2 c3 c4 (just (instr.Load slot ∷ [])) (just (instr.Set f.number ∷ [])) (third ∙ ap (λ (y : ℕ). c2 ++ instr.Load y ∷ []) slot_is) fourth in
      line_wrote (assigned_at (AtLine code k f) e own) true start c4 (record { names = own.names; locals = locals }) refl
      (ap (λ (l : Locals). record { names = own.names; locals = l }) locals_are)
      (adds_then start c2 c4 (e ⨾ just (instr.Store slot ∷ []) ⨾ code) (just (instr.Load slot ∷ instr.Set f.number ∷ []))
      (adds_then start c1 c2 (e ⨾ just (instr.Store slot ∷ [])) code
      (adds_then start c0 c1 e (just (instr.Store slot ∷ [])) before (first ∙ ap (λ (y : ℕ). c0 ++ instr.Store y ∷ []) slot_is)) second)
      last)

  pub changed_line : (change : Segment) (one two : Locals) (y x : ℕ) (c0 c1 c2 c3 c4 : List Instr)
      → y ≡ (scratch_for k own.locals).slot → one ≡ (scratch_for k own.locals).locals → x ≡ (scratch_for f.kind one).slot → two ≡ (scratch_for f.kind one).locals
      → Adds code c0 c1 → c2 ≡ c1 ++ instr.Store y ∷ instr.Load y ∷ instr.Get f.number ∷ [] → Adds change c2 c3
      → c4 ≡ c3 ++ instr.Store x ∷ instr.Load y ∷ instr.Load x ∷ instr.Set f.number ∷ []
      → WritesLine (changed_at (AtLine code k f) change own) (Ok true) c0 c4 (record { names = own.names; locals = two })
  changed_line change one two y x c0 c1 c2 c3 c4 y_is one_is x_is two_is first second third fourth =
      let ys : ℕ = (scratch_for k own.locals).slot in
      let after : Locals = (scratch_for k own.locals).locals in
      let xs : ℕ = (scratch_for f.kind after).slot in
      let x_there : x ≡ xs = x_is ∙ ap (λ (l : Locals). (scratch_for f.kind l).slot) one_is in
      let two_there : two ≡ (scratch_for f.kind after).locals = two_is ∙ ap (λ (l : Locals). (scratch_for f.kind l).locals) one_is in
      let open_field : List Instr = instr.Store ys ∷ instr.Load ys ∷ instr.Get f.number ∷ [] in
      let close_field : List Instr = instr.Store xs ∷ instr.Load ys ∷ instr.Load xs ∷ instr.Set f.number ∷ [] in
      line_wrote (changed_at (AtLine code k f) change own) true c0 c4 (record { names = own.names; locals = two }) refl
      (ap (λ (l : Locals). record { names = own.names; locals = l }) two_there)
      (adds_then c0 c3 c4 (code ⨾ just open_field ⨾ change) (just close_field)
      (adds_then c0 c2 c3 (code ⨾ just open_field) change
      (adds_then c0 c1 c2 code (just open_field) first (second ∙ ap (λ (v : ℕ). c1 ++ instr.Store v ∷ instr.Load v ∷ instr.Get f.number ∷ []) y_is)) third)
      (fourth ∙ ap (λ (v : ℕ). c3 ++ instr.Store x ∷ instr.Load v ∷ instr.Load x ∷ instr.Set f.number ∷ []) y_is
      ∙ ap (λ (v : ℕ). c3 ++ instr.Store v ∷ instr.Load ys ∷ instr.Load v ∷ instr.Set f.number ∷ []) x_there))

module _ (s : Reading) (n : BodyNumbers) (ending : Ending) where
  pub operated_is : (operation : Option ℕ) → operated_by operation ≡ operation_on s n ending operation
  operated_is None = refl
  operated_is (Some number) = refl

  pub assigned_writes : (place e : Expr) (own later : Own) (spot : Spot) (kind : Option Kind) (result : Result Bool NoMemory) (old mid new : List Instr)
      → spot ≡ spot_of s n own.names place → kind ≡ kind_at spot → Adds (piece s n own.names kind e).code old mid
      → ((c : Segment) (start : List Instr) → Adds c start mid → WritesLine (assigned_at spot c own) result start new later)
      → WritesLine (assigned s n ending place e own) result old new later
  assigned_writes place e own later spot kind result old mid new spot_is kind_is first rest =
      let code : Segment = (piece s n own.names (kind_at spot) e).code in
      line_of (assigned_at spot code own) (assigned s n ending place e own) result old new later
      (ap (λ (x : Spot). assigned_at x (piece s n own.names (kind_at x) e).code own) spot_is)
      (rest code old (subst (λ (k : Option Kind). Adds (piece s n own.names k e).code old mid) kind_is first))

  pub changed_writes : (inner : Expr) (before : List Suffix) (text : List ℕ) (given : List Expr) (own later : Own) (spot : Spot) (kind : Option Kind) (operation : Option ℕ)
      (result : Result Bool NoMemory) (old new : List Instr)
      → spot ≡ spot_with s n own.names inner before → kind ≡ kind_at spot → operation ≡ option_and_then (λ k. value_call k text) kind
      → WritesLine (changed_at spot (arguments_by s n own.names [] given ⨾ operated_by operation) own) result old new later
      → WritesLine (changed s n ending inner before text given own) result old new later
  changed_writes inner before text given own later spot kind operation result old new spot_is kind_is operation_is written =
      let call : Option Kind → Option ℕ = λ (k : Option Kind). option_and_then (λ (x : Kind). value_call x text) k in
      let args : Segment = arguments_by s n own.names [] given in
      line_of (changed_at spot (args ⨾ operated_by operation) own) (changed s n ending inner before text given own) result old new later
      (ap (λ (o : Option ℕ). changed_at spot (args ⨾ operated_by o) own) (operation_is ∙ ap call kind_is)
      ∙ ap (λ (c : Segment). changed_at spot (args ⨾ c) own) (operated_is (call (kind_at spot)))
      ∙ ap (λ (x : Spot). changed_at x (args ⨾ operation_on s n ending (call (kind_at x))) own) spot_is)
      written

  pub written_back_writes : (address block : Expr) (others : List Expr) (own later : Own) (spot : Spot) (operation : ℕ) (result : Result Bool NoMemory) (old mid new : List Instr)
      → spot ≡ spot_of s n own.names block → operation ≡ write_callback (2 + length others) → Adds (piece s n own.names None address).code old mid
      → WritesLine (changed_at spot (arguments_by s n own.names [] others ⨾ operated_by (Some operation)) own) result mid new later
      → WritesLine (written_back s n ending (address ∷ block ∷ others) own) result old new later
  written_back_writes address block others own later spot operation result old mid new spot_is operation_is first written =
      let args : Segment = arguments_by s n own.names [] others in
      behind_writes (piece s n own.names None address).code (changed_at (spot_of s n own.names block) (args ⨾ just (instr.Op (write_callback (2 + length others)) 0 ∷ [])) own) result old mid new later
      first
      (line_of (changed_at spot (args ⨾ operated_by (Some operation)) own) (changed_at (spot_of s n own.names block) (args ⨾ just (instr.Op (write_callback (2 + length others)) 0 ∷ [])) own) result mid new later
      (ap (λ (x : Spot). changed_at x (args ⨾ just (instr.Op operation 0 ∷ [])) own) spot_is
      ∙ ap (λ (o : ℕ). changed_at (spot_of s n own.names block) (args ⨾ just (instr.Op o 0 ∷ [])) own) operation_is)
      written)

pub two_first : (xs : List Expr) (a b : Expr) → 2 ≤ length xs → a ≡ get_or xs 0 a → b ≡ get_or xs 1 b → a ∷ b ∷ take (length xs - 2) (drop 2 xs) ≡ xs
two_first [] a b long one two = absurd (omega arith)
two_first (x ∷ []) a b long one two = absurd (omega arith)
two_first (x ∷ y ∷ zs) a b long one two =
    let all : length zs ≤ length (x ∷ y ∷ zs) - 2 = omega arith in
    ap (λ (es : List Expr). a ∷ b ∷ es) (take_all (length (x ∷ y ∷ zs) - 2) zs all) ∙ ap (λ (e : Expr). e ∷ b ∷ zs) one ∙ ap (λ (e : Expr). x ∷ e ∷ zs) two
