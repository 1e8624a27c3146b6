-- Going through statements: what is left, written from here on, writes the whole.
use Rattle.std.proofs.Common.{◌≡◌, ◌∙◌, ◌<◌, ◌≤◌, ◌+◌, ℕ, Bool, true, false, List, ◌∷◌, Result, Ok, drop, get_or, length, refl, sym, ap, subst}
use Rattle.std.proofs.lemmas.List.{drop_all, drop_more}
use Rattle.slicc_ast.specs.declared.tree.statement.Stmt.{Stmt}
use Rattle.ruby_base.specs.declared.memory.NoMemory.{NoMemory}
use Rattle.action_code.specs.declared.instr.Instr.{Instr}
use Rattle.body_meaning.specs.Prelude.{Reading}
use Rattle.body_code.specs.declared.numbers.BodyNumbers.{BodyNumbers}
use Rattle.body_code.specs.declared.own.Own.{Own}
use Rattle.body_code.specs.Prelude.{Ending, Line, all_lines, goes_on, line, nothing}
use Rattle.emit_expressions.proofs.Adding.{adds_none}
use Rattle.emit_statements.specs.Prelude.{WritesLine}
use Rattle.emit_statements.proofs.Following.{follows, line_wrote, stops_there}

abbrev pub LinesLead : Line → List Instr → Line → List Instr → Type 0
LinesLead rest code whole start =
    (result : Result Bool NoMemory) (new : List Instr) (later : Own) → WritesLine rest result code new later → WritesLine whole result start new later

module _ (s : Reading) (n : BodyNumbers) (ending : Ending) (xs : List Stmt) (whole : Line) (start : List Instr) (i : ℕ) where
  front : (x : Stmt) → i < length xs → x ≡ get_or xs i x → drop i xs ≡ x ∷ drop (i + 1) xs
  front x below is = drop_more xs i x below ∙ ap (λ (y : Stmt). y ∷ drop (i + 1) xs) (sym is)

  module _ (x : Stmt) (below : i < length xs) (is : x ≡ get_or xs i x) (own between : Own) (code longer : List Instr) where
    pub lines_more : WritesLine (line s n ending x own) (Ok true) code longer between
        → LinesLead (all_lines s n ending (drop i xs) own) code whole start → LinesLead (all_lines s n ending (drop (i + 1) xs) between) longer whole start
    lines_more first kept = λ result new later rest.
        kept result new later
        (subst (λ (ys : List Stmt). WritesLine (all_lines s n ending ys own) result code new later) (sym (front x below is))
        (follows (line s n ending x own) (all_lines s n ending (drop (i + 1) xs)) result code longer new between later first rest))

    pub lines_stop : WritesLine (line s n ending x own) (Ok false) code longer between
        → LinesLead (all_lines s n ending (drop i xs) own) code whole start → WritesLine whole (Ok false) start longer between
    lines_stop first kept =
        kept (Ok false) longer between
        (subst (λ (ys : List Stmt). WritesLine (all_lines s n ending ys own) (Ok false) code longer between) (sym (front x below is))
        (stops_there (line s n ending x own) (all_lines s n ending (drop (i + 1) xs)) code longer between first))

  pub lines_end : (own : Own) (code : List Instr) → length xs ≤ i → LinesLead (all_lines s n ending (drop i xs) own) code whole start → WritesLine whole (Ok true) start code own
  lines_end own code past kept =
      kept (Ok true) code own
      (subst (λ (ys : List Stmt). WritesLine (all_lines s n ending ys own) (Ok true) code code own) (sym (drop_all i xs past))
      (line_wrote (goes_on nothing own) true code code own refl refl (adds_none code)))
