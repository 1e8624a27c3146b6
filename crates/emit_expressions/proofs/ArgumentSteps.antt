-- Going through arguments: what is left, written from here on, writes the whole.
use Rattle.std.proofs.Common.{◌≡◌, ◌∙◌, ◌<◌, ◌≤◌, ◌+◌, inl, inr, ℕ, Ok, List, drop, get_or, length, sym, subst, ap, Option, Some, arith}
use Rattle.std.specs.Prelude.{slice_get}
use Rattle.std.proofs.lemmas.Bool.{cases_lt}
use Rattle.std.proofs.lemmas.List.{drop_all, drop_more, get_or-drop, length-drop}
use Rattle.std.proofs.lemmas.Option.{slice_get-get_or, slice_get_past}
use Rattle.slicc_ast.specs.declared.tree.expression.Expr.{Expr}
use Rattle.ruby_value.specs.declared.kind.Kind.{Kind}
use Rattle.ruby_value.specs.declared.kind.Kind.TheVariants as kind
use Rattle.action_code.specs.declared.instr.Instr.{Instr}
use Rattle.body_meaning.specs.Prelude.{Reading}
use Rattle.body_code.specs.declared.left.Left.{Left}
use Rattle.body_code.specs.declared.left.NameAt.{NameAt}
use Rattle.body_code.specs.declared.numbers.BodyNumbers.{BodyNumbers}
use Rattle.body_code.specs.Prelude.{Segment, arguments_by, piece, ◌⨾◌}
use Rattle.emit_expressions.specs.Prelude.{Adds, Writes}
use Rattle.emit_expressions.proofs.Adding.{adds_none, adds_then, code_is}

abbrev pub Leading : Segment → List Instr → Segment → List Instr → Type 0
Leading c mid whole old = (new : List Instr) → Adds c mid new → Adds whole old new

first_left : (kinds : List Kind) (i : ℕ) → slice_get (drop i kinds) 0 ≡ slice_get kinds i
first_left kinds i = elim (cases_lt i (length kinds)) [
  | inl below ↦
      let some : 0 < length (drop i kinds) = simp length-drop (omega arith) in
      slice_get-get_or (drop i kinds) 0 kind.Bool some
      ∙ ap (λ (k : Kind). Some k) (get_or-drop i kinds 0 kind.Bool ∙ ap (λ (j : ℕ). get_or kinds j kind.Bool) (omega arith))
      ∙ sym (slice_get-get_or kinds i kind.Bool below)
  | inr past ↦
      let none : length (drop i kinds) ≤ 0 = simp length-drop (omega arith) in
      slice_get_past (drop i kinds) 0 none ∙ sym (slice_get_past kinds i past)
]

later_left : (kinds : List Kind) (i : ℕ) → drop 1 (drop i kinds) ≡ drop (i + 1) kinds
later_left kinds i = elim (cases_lt i (length kinds)) [
  | inl below ↦ ap (λ (ks : List Kind). drop 1 ks) (drop_more kinds i kind.Bool below)
  | inr past ↦ ap (λ (ks : List Kind). drop 1 ks) (drop_all i kinds past) ∙ sym (drop_all (i + 1) kinds (omega arith))
]

module _ (s : Reading) (n : BodyNumbers) (names : List NameAt) (whole : Segment) (old : List Instr) (kinds : List Kind) (given : List Expr) (i : ℕ) where
  abbrev rest : ℕ → Segment
  rest k = arguments_by s n names (drop k kinds) (drop k given)

  step : (x : Expr) → i < length given → x ≡ get_or given i x → rest i ≡ (piece s n names (slice_get kinds i) x).code ⨾ rest (i + 1)
  step x below is =
      ap (λ (xs : List Expr). arguments_by s n names (drop i kinds) xs) (drop_more given i x below)
      ∙ ap (λ (k : Option Kind). (piece s n names k (get_or given i x)).code ⨾ arguments_by s n names (drop 1 (drop i kinds)) (drop (i + 1) given)) (first_left kinds i)
      ∙ ap (λ (ks : List Kind). (piece s n names (slice_get kinds i) (get_or given i x)).code ⨾ arguments_by s n names ks (drop (i + 1) given)) (later_left kinds i)
      ∙ ap (λ (y : Expr). (piece s n names (slice_get kinds i) y).code ⨾ rest (i + 1)) (sym is)

  pub arguments_more : (x : Expr) (l : Left) (mid later : List Instr) → i < length given → x ≡ get_or given i x
      → Writes (piece s n names (slice_get kinds i) x) (Ok l) mid later
      → Leading (arguments_by s n names (drop i kinds) (drop i given)) mid whole old
      → Leading (arguments_by s n names (drop (i + 1) kinds) (drop (i + 1) given)) later whole old
  arguments_more x l mid later below is first kept = λ new more.
      kept new
      (subst (λ (c : Segment). Adds c mid new) (sym (step x below is))
      (adds_then mid later new (piece s n names (slice_get kinds i) x).code (rest (i + 1)) (code_is _ _ _ _ first) more))

  pub arguments_end : (mid : List Instr) → length given ≤ i → Leading (arguments_by s n names (drop i kinds) (drop i given)) mid whole old → Adds whole old mid
  arguments_end mid past kept =
      kept mid (subst (λ (xs : List Expr). Adds (arguments_by s n names (drop i kinds) xs) mid mid) (sym (drop_all i given past)) (adds_none mid))
