-- What a run has of its own has the kinds that are known at a place of its body: as many values on the stack as kinds, each of its kind,
-- the locals those of the body, and messages of the types of those that are open.
use Rattle.std.specs.Prelude.{◌≡◌, ℕ, ◌&&◌, Bool, true, false, List, [], ◌∷◌, ◌++◌}
use Rattle.ruby_value.specs.declared.value.Value.{Value}
use Rattle.action_code.specs.declared.instr.Code.{Code}
use Rattle.action_code.specs.declared.program.Program.{Program}
use Rattle.action_code.specs.declared.program.TableDecl.{TableDecl}
use Rattle.action_code.specs.declared.shape.Shape.{Shape}
use Rattle.action_code.specs.Prelude.{machine_of, tables_of}
use Rattle.code_meaning.specs.Held.{Held}
use Rattle.code_meaning.specs.Kinds.{are_of_kinds}
use Rattle.code_meaning.specs.Stepping.{kinds_of}

-- messages of these types, of which one that isn't there has no fields
abbrev pub are_messages : Program → List TableDecl → List ℕ → List (List Value) → Bool
are_messages p tables [] [] = true
are_messages p tables (n ∷ types) (fields ∷ messages) = are_of_kinds tables (kinds_of p n) fields && are_messages p tables types messages
are_messages p tables _ _ = false

pub record IsTyped (p : Program) (c : Code) (s : Shape) (h : Held) : Type 0 where
  pub stack : are_of_kinds (tables_of (machine_of p c)) s.stack h.stack ≡ true
  pub locals : are_of_kinds (tables_of (machine_of p c)) (c.arguments ++ c.locals) h.locals ≡ true
  pub inner : are_messages p (tables_of (machine_of p c)) s.inner h.inner ≡ true
  pub made : are_messages p (tables_of (machine_of p c)) s.made h.made ≡ true
