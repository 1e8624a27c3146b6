-- Places, which are assigned: a local, a field of a message that is being made, and a field of a line. A place is found once, and
-- then read and written as often as needed. What isn't one is the fault `reference`, and no accepted protocol assigns to it.
use Rattle.std.specs.Prelude.{ℕ, ◌-◌, Option, None, Some, List, [], ◌∷◌, length, slice_get, slice_set, take}
use Rattle.std.specs.Option.{option_map}
use Rattle.slicc_ast.specs.declared.tree.expression.Suffix.{Suffix, Field}
use Rattle.slicc_ast.specs.declared.tree.expression.Expr.{Expr, Variable, items-the_row-Suffix}
use Rattle.slicc_ast.specs.Prelude.{Postfix', Group'}
use Rattle.ruby_value.specs.declared.value.Ref.{Ref}
use Rattle.ruby_value.specs.declared.value.Value.{Value}
use Rattle.acts.specs.declared.body_fault.BodyFault.TheVariants as own
use Rattle.acts.specs.Act as act
use Rattle.acts.specs.Prelude.{Acting, ends, stops, ◌>>=◌, ◌>>◌, act as done, found}
use Rattle.built_in_acts.specs.Prelude.{reference}
use Rattle.body_meaning.specs.declared.frame.Frame.{Frame}
use Rattle.body_meaning.specs.declared.frame.Place.{Place}
use Rattle.body_meaning.specs.declared.frame.Place.TheVariants.{Named, Part, Line}
use Rattle.body_meaning.specs.Reading.{Reading}
use Rattle.body_meaning.specs.declared.thing.Thing.{Thing}
use Rattle.body_meaning.specs.declared.thing.Thing.TheVariants as thing
use Rattle.body_meaning.specs.Calls.{Calls}
use Rattle.body_meaning.specs.Names.{line_field, structure_field}
use Rattle.body_meaning.specs.Expressions.{value_behind}
use Rattle.body_meaning.specs.Frames.{rebind, thing_bound}
use Rattle.body_meaning.specs.Things.{value_in}

-- Finding one.

-- of a field of what a reference names
unfoldable pub line_place : Reading → Value → List ℕ → Acting Place
line_place s v text =
    found own.Reference (reference v) >>= (λ (r : Ref). found own.Reference (line_field s r.table text) >>= (λ k. ends (Line r k)))

-- of a field of the message of this name
abbrev pub part_place : Reading → Option (List ℕ) → ℕ → List ℕ → Option Place
part_place s None structure text = None
part_place s (Some name) structure text = option_map (Part name) (structure_field s.symbols structure text)

-- of a field of a thing, which the body may have under a name
abbrev pub field_place : Reading → Option (List ℕ) → List ℕ → Thing → Acting Place
field_place s name text (thing.Value v) = line_place s v text
field_place s name text (thing.Message structure fields) = found own.Reference (part_place s name structure text)
field_place s name text _ = stops own.Reference

-- the name that an expression is, parentheses aside, and the one that it is with suffixes behind it: none, unless there are none
abbrev pub name_in : Expr → Option (List ℕ)
name_in (Variable name) = Some name.text
name_in (Group' inner span) = name_in inner
name_in _ = None

abbrev pub name_behind : Expr → List Suffix → Option (List ℕ)
name_behind e [] = name_in e
name_behind e (first ∷ others) = None

-- the suffixes before the last one, and that one
abbrev pub before_last : List Suffix → List Suffix
before_last suffixes = take (length suffixes - 1) suffixes

abbrev pub last_of : List Suffix → Option Suffix
last_of suffixes = slice_get suffixes (length suffixes - 1)

module _ (s : Reading) (calls : Calls) (frame : Frame) where
  abbrev pub place_last : Expr → List Suffix → Option Suffix → Acting Place
  place_last inner before (Some (Field name span)) =
      value_behind s calls frame inner before >>= field_place s (name_behind inner before) name.text
  place_last inner before _ = stops own.Reference

  unfoldable pub place_behind : Expr → List Suffix → Acting Place
  place_behind inner suffixes = place_last inner (before_last suffixes) (last_of suffixes)

  abbrev pub place_of : Expr → Acting Place
  place_of (Variable name) = ends (Named name.text)
  place_of (Group' inner span) = place_of inner
  place_of (Postfix' inner n suffixes span) = place_behind inner (items-the_row-Suffix _ suffixes)
  place_of _ = stops own.Reference

  -- of an expression with suffixes behind it, if there are any
  abbrev pub place_with : Expr → List Suffix → Acting Place
  place_with e [] = place_of e
  place_with e (first ∷ others) = place_behind e (first ∷ others)

-- Reading and writing one.

abbrev pub part_of : ℕ → Option Thing → Option Value
part_of k (Some (thing.Message structure fields)) = slice_get fields k
part_of k _ = None

abbrev pub at_place : Frame → Place → Acting Value
at_place frame (Named text) = found own.Reference (option_map value_in (thing_bound text frame.names))
at_place frame (Part text k) = found own.Reference (part_of k (thing_bound text frame.names))
at_place frame (Line r k) = done (act.Get r k)

abbrev pub with_part : List ℕ → ℕ → Value → Frame → Option Thing → Frame
with_part text k v frame (Some (thing.Message structure fields)) = rebind text (thing.Message structure (slice_set fields k v)) frame
with_part text k v frame _ = frame

abbrev pub with_place : Frame → Place → Value → Acting Frame
with_place frame (Named text) v = ends (rebind text (thing.Value v) frame)
with_place frame (Part text k) v = ends (with_part text k v frame (thing_bound text frame.names))
with_place frame (Line r k) v = done (act.Set r k v) >> ends frame
