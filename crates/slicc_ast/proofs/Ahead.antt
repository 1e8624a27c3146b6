-- Where the reader's next token is one that by the table begins what it reads, that token may indeed stand there.
use Rattle.std.proofs.Common.{◌≡◌, ℕ, suc, true, false, cond, List, [], ◌∷◌, ◌⊎◌, inl, inr}
use Rattle.std.proofs.lemmas.Bool.{and_parts, false≢true, both_ways}
use Rattle.slicc_ast.specs.Prelude.{has, Row, Rows, Grammar, nestings_of, is_nullable, first_of, done, form, maybe, next, Begins, Matches, Stop, Stops, read, taken, refused, chosen, by_default, unformed, too_deep, unopened}
use Rattle.slicc_ast.specs.Reader.Stops.{on, outside, present, absent, again, enough, inside}
use Rattle.slicc_ast.proofs.KindSets.{in_either, from_cond}
use Rattle.slicc_ast.proofs.Starts.{RowsStart, Starts}

not_first : {F : Type 0} (g : Grammar F) (kinds : List ℕ) (rows : Rows F) (kind : ℕ) → has kinds kind ≡ false → (has kinds kind ≡ true) ⊎ ((false ≡ true) × RowsStart g rows kind) → ⊥
not_first g kinds rows kind ahead starts =
    elim starts [
      | inl here ↦ both_ways (has kinds kind) ahead here
      | inr later ↦ false≢true later.0
    ]

-- behind a form none of whose alternatives begins with the token
behind_form : {F : Type 0} (g : Grammar F) (n : F) (row : Row F) (rows : Rows F) (kind : ℕ) → has (g.first n) kind ≡ false → Starts g (form n row) rows kind → (g.may_be_empty n ≡ true) × Starts g row rows kind
behind_form g n row rows kind ahead starts =
    elim starts [
      | inl here ↦ elim (in_either (g.first n) (cond (g.may_be_empty n) (first_of g row) []) kind here) [
        | inl of_form ↦ absurd (both_ways (has (g.first n) kind) ahead of_form)
        | inr of_row ↦ let parts = from_cond (g.may_be_empty n) (first_of g row) kind of_row in (parts.0, inl parts.1)
      ]
      | inr later ↦ let parts = and_parts (g.may_be_empty n) (is_nullable g row) later.0 in (parts.0, inr (parts.1, later.1))
    ]

behind_part : {F : Type 0} (g : Grammar F) (part row : Row F) (rows : Rows F) (kind : ℕ) → has (first_of g part) kind ≡ false → Starts g (maybe part row) rows kind → Starts g row rows kind
behind_part g part row rows kind ahead starts =
    elim starts [
      | inl here ↦ elim (in_either (first_of g part) (first_of g row) kind here) [
        | inl of_part ↦ absurd (both_ways (has (first_of g part) kind) ahead of_part)
        | inr of_row ↦ inl of_row
      ]
      | inr later ↦ inr later
    ]

behind_done : {F : Type 0} (g : Grammar F) (row : Row F) (rows : Rows F) (kind : ℕ) → Starts g done (next row rows) kind → Starts g row rows kind
behind_done g row rows kind starts =
    elim starts [
      | inl here ↦ absurd (false≢true here)
      | inr later ↦ later.1
    ]

pub may_stand : {F : Type 0} (g : Grammar F) {depth : ℕ} {row : Row F} {rows : Rows F} {kind : ℕ} {tokens : List ℕ} {stop : Stop} → Stops g depth row rows (kind ∷ tokens) stop → Starts g row rows kind → Begins g row rows (kind ∷ [])
may_stand g read starts = elim starts [ inl here ↦ absurd (false≢true here) | inr later ↦ absurd later.1 ]
may_stand g {kind = kind} (on {row = row} {rows = rows} s) starts =
    let m = may_stand g s (behind_done g row rows kind starts) in (m.0, Matches.on m.1)
may_stand g {kind = kind} (outside {row = row} {rows = rows} s) starts =
    let m = may_stand g s (behind_done g row rows kind starts) in (m.0, Matches.outside m.1)
may_stand g {rows = rows} (taken is s) starts = (nestings_of rows, Matches.one is Matches.stopped)
may_stand g {rows = rows} {kind = kind} (refused {kinds = kinds} ahead) starts = absurd (not_first g kinds rows kind ahead starts)
may_stand g (chosen place choice at ahead s) starts =
    let m = may_stand g s (inl ahead) in (m.0, Matches.alternative place choice at m.1)
may_stand g {rows = rows} {kind = kind} (by_default {n = n} {row = row} place choice at empty ahead s) starts =
    let m = may_stand g s (inr (empty, (behind_form g n row rows kind ahead starts).1)) in (m.0, Matches.alternative place choice at m.1)
may_stand g {rows = rows} {kind = kind} (unformed {n = n} {row = row} not_empty ahead) starts =
    absurd (both_ways (g.may_be_empty n) not_empty (behind_form g n row rows kind ahead starts).0)
may_stand g (present ahead s) starts = let m = may_stand g s (inl ahead) in (m.0, Matches.present m.1)
may_stand g {rows = rows} {kind = kind} (absent {part = part} {row = row} ahead s) starts =
    let m = may_stand g s (behind_part g part row rows kind ahead starts) in (m.0, Matches.absent m.1)
may_stand g (again ahead s) starts = let m = may_stand g s (inl ahead) in (m.0, Matches.again m.1)
may_stand g {rows = rows} {kind = kind} (enough {part = part} {row = row} ahead s) starts =
    let m = may_stand g s (behind_part g part row rows kind ahead starts) in (m.0, Matches.enough m.1)
may_stand g {rows = rows} (inside is s) starts = (suc (nestings_of rows), Matches.inside is Matches.stopped)
may_stand g {rows = rows} (too_deep is) starts = (suc (nestings_of rows), Matches.inside is Matches.stopped)
may_stand g {rows = rows} {kind = kind} (unopened {kinds = kinds} ahead) starts = absurd (not_first g kinds rows kind ahead starts)
