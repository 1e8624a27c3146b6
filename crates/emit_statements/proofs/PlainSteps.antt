-- What is written for statements without a block.
use Rattle.std.proofs.Common.{◌≡◌, ◌∙◌, ◌++◌, ◌∷◌, ℕ, true, List, [], Option, Some, None, Ok, length, refl, sym, ap}
use Rattle.std.specs.Prelude.{slice_set, unwrap_or}
use Rattle.slicc_ast.specs.declared.tree.expression.Expr.{Expr}
use Rattle.ruby_value.specs.declared.fault.Fault.TheVariants as fault
use Rattle.ruby_value.specs.declared.kind.Kind.{Kind}
use Rattle.ruby_value.specs.declared.kind.Kind.TheVariants as kind
use Rattle.action_code.specs.declared.instr.Instr.{Instr}
use Rattle.action_code.specs.declared.instr.Instr.TheVariants as instr
use Rattle.body_meaning.specs.Prelude.{Reading, port_named, stall_call}
use Rattle.body_code.specs.declared.left.Home.TheVariants as home
use Rattle.body_code.specs.declared.left.NameAt.{NameAt}
use Rattle.body_code.specs.declared.numbers.BodyNumbers.{BodyNumbers}
use Rattle.body_code.specs.declared.own.Locals.{Locals}
use Rattle.body_code.specs.declared.own.Own.{Own}
use Rattle.body_code.specs.Prelude.{Ending, Line, Segment, goes_on, guard, just, nothing, piece, with_name, ◌⨾◌}
use Rattle.body_code.specs.Statements.{asserted, declared_as, stalled}
use Rattle.emit_expressions.specs.Prelude.{Adds}
use Rattle.emit_expressions.proofs.Adding.{adds_none, adds_then}
use Rattle.emit_expressions.proofs.Forks.{guards}
use Rattle.emit_statements.specs.Prelude.{WritesLine}
use Rattle.emit_statements.proofs.Following.{line_of, line_wrote}

module _ (s : Reading) (n : BodyNumbers) (ending : Ending) where
  pub declared_writes : (text : List ℕ) (known : Option Kind) (e : Expr) (own : Own) (k : Kind) (slot : ℕ) (kinds : List Kind) (names : List NameAt) (c0 c1 c2 : List Instr)
      → k ≡ unwrap_or known kind.Bool → slot ≡ length own.locals.kinds → Adds (piece s n own.names (Some k) e).code c0 c1 → c2 ≡ c1 ++ instr.Store slot ∷ []
      → kinds ≡ own.locals.kinds ++ k ∷ [] → names ≡ with_name text (home.Local slot k) own.names
      → WritesLine (declared_as s n ending text known e own) (Ok true) c0 c2 (record { names = names; locals = record own.locals { kinds = kinds } })
  declared_writes text known e own k slot kinds names c0 c1 c2 k_is slot_is first second kinds_are names_are =
      let all : Locals = record own.locals { kinds = kinds } in
      let made : Kind → Line = λ (x : Kind).
      goes_on ((piece s n own.names (Some x) e).code ⨾ just (instr.Store (length own.locals.kinds) ∷ []))
      (record { names = with_name text (home.Local (length own.locals.kinds) x) own.names; locals = record own.locals { kinds = own.locals.kinds ++ x ∷ [] } }) in
      line_of (made k) (declared_as s n ending text known e own) (Ok true) c0 c2 (record { names = names; locals = all }) (ap made k_is)
      (line_wrote (made k) true c0 c2 (record { names = names; locals = all }) refl
      (ap (λ (xs : List NameAt). record { names = xs; locals = all }) (names_are ∙ ap (λ (x : ℕ). with_name text (home.Local x k) own.names) slot_is)
      ∙ ap (λ (ks : List Kind). record { names = with_name text (home.Local (length own.locals.kinds) k) own.names; locals = record own.locals { kinds = ks } }) kinds_are)
      (adds_then c0 c1 c2 (piece s n own.names (Some k) e).code (just (instr.Store (length own.locals.kinds) ∷ [])) first
      (second ∙ ap (λ (x : ℕ). c1 ++ instr.Store x ∷ []) slot_is)))

  pub asserted_writes : (condition : Expr) (own : Own) (test : ℕ) (c0 c1 c2 c3 c4 c5 : List Instr) → Adds (piece s n own.names None condition).code c0 c1 → c2 ≡ c1 ++ instr.Not ∷ []
      → test ≡ length c2 → c3 ≡ c2 ++ instr.Ret ∷ [] → c4 ≡ c3 ++ instr.Stop fault.Assert ∷ [] → c5 ≡ slice_set c4 test (instr.Unless (length c4))
      → WritesLine (asserted s n ending condition own) (Ok true) c0 c5 own
  asserted_writes condition own test c0 c1 c2 c3 c4 c5 first second place third fourth fifth =
      line_wrote (asserted s n ending condition own) true c0 c5 own refl refl
      (adds_then c0 c2 c5 ((piece s n own.names None condition).code ⨾ just (instr.Not ∷ [])) (guard (just (instr.Stop fault.Assert ∷ [])) nothing)
      (adds_then c0 c1 c2 (piece s n own.names None condition).code (just (instr.Not ∷ [])) first second)
      (guards c2 (just (instr.Stop fault.Assert ∷ [])) nothing c3 c4 c5 c5 test instr.Ret place third fourth fifth (adds_none c5)))

  pub stalled_writes : (text : List ℕ) (buffer : ℕ) (address : Expr) (own : Own) (c0 c1 c2 : List Instr) → Some buffer ≡ port_named s.machine text
      → Adds (piece s n own.names None address).code c0 c1 → c2 ≡ c1 ++ instr.Op stall_call buffer ∷ [] → WritesLine (stalled s n ending text address own) (Ok true) c0 c2 own
  stalled_writes text buffer address own c0 c1 c2 found first second =
      let code : Segment = (piece s n own.names None address).code ⨾ just (instr.Op stall_call buffer ∷ []) in
      let there : port_named s.machine text ≡ Some buffer = sym found in
      let same : goes_on code own ≡ stalled s n ending text address own = rw there refl in
      line_of (goes_on code own) (stalled s n ending text address own) (Ok true) c0 c2 own same
      (line_wrote (goes_on code own) true c0 c2 own refl refl (adds_then c0 c1 c2 (piece s n own.names None address).code (just (instr.Op stall_call buffer ∷ [])) first second))
