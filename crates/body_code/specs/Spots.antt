-- Places that are assigned, in code: a local, a field of the message that is being made, and a field of a line through a reference. The
-- reference is evaluated once, where its place is found; it and the value are set aside until the field is written.
use Rattle.std.specs.Prelude.{ℕ, Option, None, Some, List, [], ◌∷◌}
use Rattle.slicc_ast.specs.declared.tree.expression.Suffix.{Suffix, Field}
use Rattle.slicc_ast.specs.declared.tree.expression.Expr.{Expr, Variable, items-the_row-Suffix}
use Rattle.slicc_ast.specs.Prelude.{Postfix', Group'}
use Rattle.ruby_value.specs.declared.kind.Kind.{Kind}
use Rattle.action_code.specs.declared.instr.Instr.TheVariants as instr
use Rattle.body_meaning.specs.Prelude.{Reading, before_last, last_of}
use Rattle.body_code.specs.declared.left.FieldAt.{FieldAt}
use Rattle.body_code.specs.declared.left.Home.{Home}
use Rattle.body_code.specs.declared.left.Home.TheVariants as home
use Rattle.body_code.specs.declared.left.Left.{Left}
use Rattle.body_code.specs.declared.left.Left.TheVariants as left
use Rattle.body_code.specs.declared.left.NameAt.{NameAt}
use Rattle.body_code.specs.declared.numbers.BodyNumbers.{BodyNumbers}
use Rattle.body_code.specs.declared.own.Own.{Own}
use Rattle.body_code.specs.Expressions.{piece_behind}
use Rattle.body_code.specs.Fields.{field_in, field_through}
use Rattle.body_code.specs.Lines.{Line, goes_on, with_locals}
use Rattle.body_code.specs.Locals.{scratch_for}
use Rattle.body_code.specs.Names.{home_of}
use Rattle.body_code.specs.Pieces.{Piece}
use Rattle.body_code.specs.Segments.{Segment, just, ◌⨾◌}

pub data Spot : Type 0 where
  AtLocal : (slot : ℕ) → Kind → Spot
  AtPart : FieldAt → Spot
  -- with the code of the reference, and its kind
  AtLine : Segment → Kind → FieldAt → Spot
  Nowhere : Spot

-- Finding one.

abbrev pub spot_at_home : Option Home → Spot
spot_at_home (Some (home.Local slot k)) = AtLocal slot k
spot_at_home _ = Nowhere

abbrev pub spot_by : (FieldAt → Spot) → Option FieldAt → Spot
spot_by spot None = Nowhere
spot_by spot (Some f) = spot f

abbrev pub field_spot : Reading → Segment → List ℕ → Left → Spot
field_spot s code text (left.Value k) = spot_by (AtLine code k) (field_through s.symbols k text)
field_spot s code text (left.Made structure) = spot_by AtPart (field_in s.symbols structure text)
field_spot s code text _ = Nowhere

abbrev pub last_spot : Reading → Piece → Option Suffix → Spot
last_spot s p (Some (Field name span)) = field_spot s p.code name.text p.left
last_spot s p _ = Nowhere

-- in a body that has these names of its own
module _ (s : Reading) (n : BodyNumbers) (names : List NameAt) where
  abbrev pub spot_behind : Expr → List Suffix → Spot
  spot_behind inner suffixes = last_spot s (piece_behind s n names inner (before_last suffixes)) (last_of suffixes)

  abbrev pub spot_of : Expr → Spot
  spot_of (Variable name) = spot_at_home (home_of name.text names)
  spot_of (Group' inner span) = spot_of inner
  spot_of (Postfix' inner count suffixes span) = spot_behind inner (items-the_row-Suffix _ suffixes)
  spot_of _ = Nowhere

  -- of an expression with suffixes behind it, if there are any
  abbrev pub spot_with : Expr → List Suffix → Spot
  spot_with e [] = spot_of e
  spot_with e (first ∷ others) = spot_behind e (first ∷ others)

-- Reading and writing one.

abbrev pub kind_at : Spot → Option Kind
kind_at (AtLocal slot k) = Some k
kind_at (AtPart f) = Some f.kind
kind_at (AtLine code k f) = Some f.kind
kind_at Nowhere = None

-- a value by this code, written to the place, which is found after it
abbrev pub assigned_at : Spot → Segment → Own → Line
assigned_at (AtLocal slot k) e own = goes_on (e ⨾ just (instr.Store slot ∷ [])) own
assigned_at (AtPart f) e own = goes_on (e ⨾ just (instr.Setout f.number ∷ [])) own
assigned_at (AtLine code k f) e own =
    let x = scratch_for f.kind own.locals in
    goes_on (e ⨾ just (instr.Store x.slot ∷ []) ⨾ code ⨾ just (instr.Load x.slot ∷ instr.Set f.number ∷ [])) (with_locals x.locals own)
assigned_at Nowhere e own = goes_on e own

-- what is at the place, which is found first, and what this code makes of it written there
abbrev pub changed_at : Spot → Segment → Own → Line
changed_at (AtLocal slot k) change own = goes_on (just (instr.Load slot ∷ []) ⨾ change ⨾ just (instr.Store slot ∷ [])) own
changed_at (AtPart f) change own =
    goes_on (just (instr.Outfield f.number ∷ []) ⨾ change ⨾ just (instr.Setout f.number ∷ [])) own
changed_at (AtLine code k f) change own =
    let y = scratch_for k own.locals in
    let x = scratch_for f.kind y.locals in
    goes_on
    (code ⨾ just (instr.Store y.slot ∷ instr.Load y.slot ∷ instr.Get f.number ∷ []) ⨾ change
    ⨾ just (instr.Store x.slot ∷ instr.Load y.slot ∷ instr.Load x.slot ∷ instr.Set f.number ∷ []))
    (with_locals x.locals own)
changed_at Nowhere change own = goes_on change own
