-- The code of a statement, with what the body has of its own after it, and whether a run goes on after it. After a statement that ends its
-- body there is no code: no run comes there.
use Rattle.std.specs.Prelude.{Bool, true, false, List, [], ◌∷◌, if◌then◌else◌}
use Rattle.action_code.specs.declared.instr.Instr.{Instr}
use Rattle.action_code.specs.declared.instr.Instr.TheVariants as instr
use Rattle.body_code.specs.declared.left.Left.{Left}
use Rattle.body_code.specs.declared.left.Left.TheVariants as left
use Rattle.body_code.specs.declared.left.NameAt.{NameAt}
use Rattle.body_code.specs.declared.own.Locals.{Locals}
use Rattle.body_code.specs.declared.own.Own.{Own}
use Rattle.body_code.specs.Locals.{scratch_for}
use Rattle.body_code.specs.Pieces.{Piece}
use Rattle.body_code.specs.Segments.{Segment, just, ◌⨾◌}

pub record Line : Type 0 where
  pub code : Segment
  pub own : Own
  pub goes_on : Bool

abbrev pub goes_on : Segment → Own → Line
goes_on code own = record { code = code; own = own; goes_on = true }

abbrev pub ends : Segment → Own → Line
ends code own = record { code = code; own = own; goes_on = false }

abbrev pub with_locals : Locals → Own → Own
with_locals l own = record own { locals = l }

-- with code before it
abbrev pub behind : Segment → Line → Line
behind before l = record l { code = before ⨾ l.code }

-- the one, and then the other by what the body has of its own then
abbrev pub followed_by : Line → (Own → Line) → Line
followed_by a next = if a.goes_on then behind a.code (next a.own) else a

-- where a run goes on after it, these instructions too
abbrev pub closed : Line → List Instr → Line
closed l instructions = if l.goes_on then record l { code = l.code ⨾ just instructions } else l

-- a block that begins with more names, and whose names are gone after it
abbrev pub within : List NameAt → (Own → Line) → Own → Line
within names block own =
    let l = block (record own { names = names }) in record l { own = record { names = own.names; locals = l.own.locals } }

abbrev pub in_block : (Own → Line) → Own → Line
in_block block own = within own.names block own

-- an expression as a statement: its value is set aside, and nothing reads it
abbrev pub dropped : Piece → Own → Line
dropped p own = by p.left
  where
    by : Left → Line
    by (left.Value k) =
        let x = scratch_for k own.locals in goes_on (p.code ⨾ just (instr.Store x.slot ∷ [])) (with_locals x.locals own)
    by l = goes_on p.code own
