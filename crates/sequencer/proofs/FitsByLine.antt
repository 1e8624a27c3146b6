-- The outstanding requests by line: each is a request, and each comes before the later ones.
use Rattle.std.proofs.Common.{◌≡◌, ℕ, ◌<◌, Bool, true, false, cond, List, [], ◌∷◌, map, Option, Some, None, IfSome, refl, sym, subst, ◌∙◌, arith, T, inl, inr, get_or}
use Rattle.std.proofs.lemmas.Bool.{eq-eqb, ne_eqb, cases_eq}
use Rattle.std.proofs.lemmas.Bool.Decides.{nat_tests}
use Rattle.std.proofs.lemmas.List.Elements.{All-cons, All-head, All-tail, All-map, All-weaker}
use Rattle.std.proofs.lemmas.List.Kept.{AllPairs-cons}
use Rattle.std.specs.Bool.{nat_lt}
use Rattle.std.specs.Prelude.{◌&&◌, ◌==◌}
use Rattle.std.specs.Cmp.{unsigned_tied}
use Rattle.std.specs.declared.cmp.Ordering.TheVariants.{Less, Equal, Greater}
use Rattle.std.specs.FinMap as finite
use Rattle.std.specs.FinMap.Entries as entries
use Rattle.std.specs.List.{All, AllPairs}
use Rattle.std.specs.Ordering.{nat_cmp, is_lt}
use Rattle.ruby_value.specs.declared.asked.Asked.{Asked}
use Rattle.ruby_value.proofs.Ordered.{AllPairs-nil}
use Rattle.sequencer.specs.Prelude.{AreRequests, ComesBefore, by_line}
use Rattle.ruby_value.specs.Prelude.{FitsRequests, IsRequest, Requests}

abbrev FitsAt : ℕ → Asked → Type 0
FitsAt line a = (a.line ≡ line) × IsRequest a

abbrev FitsEntry : ℕ × Asked → Type 0
FitsEntry e = FitsAt e.0 e.1

abbrev FitEach : List (ℕ × Asked) → Type 0
FitEach es = (q : ℕ) → IfSome (entries.find nat_cmp q es) (FitsAt q)

first : (a b : Bool) → T (a && b) → T a
first true b p = tt
first false b p = p

second : (a b : Bool) → T (a && b) → T b
second true b p = p
second false b p = absurd p

no-lt : (b : Bool) → T (is_lt (cond b Equal Greater)) → ⊥
no-lt true p = p
no-lt false p = p

by-lt : (b : Bool) (x y : ℕ) → nat_lt x y ≡ b → T (is_lt (cond b Less (cond (x == y) Equal Greater))) → x < y
by-lt true x y test is = grind (arith, nat_tests, test)
by-lt false x y test is = absurd (no-lt (x == y) is)

lesser : (x y : ℕ) → T (is_lt (nat_cmp x y)) → x < y
lesser x y is = by-lt (nat_lt x y) x y refl is

above : (x : ℕ) (es : List (ℕ × Asked)) → T (entries.below_all nat_cmp x es) → All (λ (e : ℕ × Asked). x < e.0) es
above x [] below = λ k d lt. absurd (omega arith)
above x (e ∷ es) below =
    All-cons (λ (e : ℕ × Asked). x < e.0) e es (lesser x e.0 (first _ _ below)) (above x es (second _ _ below))

absent : (q : ℕ) (es : List (ℕ × Asked)) → All (λ (e : ℕ × Asked). q < e.0) es → entries.find nat_cmp q es ≡ None
absent q [] all = refl
absent q (e ∷ es) all =
    let here : q < e.0 = All-head (λ (e : ℕ × Asked). q < e.0) e es all in
    rw (unsigned_tied q e.0, ne_eqb q e.0 (λ same. omega arith)) (absent q es (All-tail (λ (e : ℕ × Asked). q < e.0) e es all))

-- what a key has in the rest
rest-fits : (e : ℕ × Asked) (es : List (ℕ × Asked)) → All (λ (o : ℕ × Asked). e.0 < o.0) es → FitEach (e ∷ es) → FitEach es
rest-fits e es all fit q = elim (cases_eq q e.0) [
  | inl same ↦
      let none : entries.find nat_cmp q es ≡ None = absent q es (subst (λ (k : ℕ). All (λ (o : ℕ × Asked). k < o.0) es) (sym same) all) in
      subst (λ (o : Option Asked). IfSome o (FitsAt q)) (sym none) tt
  | inr apart ↦
      subst (λ (b : Bool). IfSome (cond b (Some e.1) (entries.find nat_cmp q es)) (FitsAt q)) (unsigned_tied q e.0 ∙ ne_eqb q e.0 apart) (fit q)
]

here-fits : (e : ℕ × Asked) (es : List (ℕ × Asked)) → FitEach (e ∷ es) → FitsEntry e
here-fits e es fit =
    subst (λ (b : Bool). IfSome (cond b (Some e.1) (entries.find nat_cmp e.0 es)) (FitsAt e.0)) (unsigned_tied e.0 e.0 ∙ eq-eqb e.0 e.0 refl) (fit e.0)

later : (e o : ℕ × Asked) → FitsEntry e → FitsEntry o → e.0 < o.0 → e.1.line < o.1.line
later e o here there less = let own : e.1.line ≡ e.0 = here.0 in let other : o.1.line ≡ o.0 = there.0 in omega arith

record Good (es : List (ℕ × Asked)) : Type 0 where
  each : All FitsEntry es
  ascend : AllPairs ComesBefore (map (λ (e : ℕ × Asked). e.1) es)

good : (es : List (ℕ × Asked)) → T (entries.is_sorted nat_cmp es) → FitEach es → Good es
good [] sorted fit = record { each = λ k d lt. absurd (omega arith); ascend = AllPairs-nil ComesBefore }
good (e ∷ es) sorted fit =
    let all : All (λ (o : ℕ × Asked). e.0 < o.0) es = above e.0 es (first _ _ sorted) in
    let rest : Good es = good es (second _ _ sorted) (rest-fits e es all fit) in
    let here : FitsEntry e = here-fits e es fit in
    record {
      each = All-cons FitsEntry e es here rest.each;
      ascend = AllPairs-cons ComesBefore e.1 (map (λ (o : ℕ × Asked). o.1) es)
          (All-map (ComesBefore e.1) (λ (o : ℕ × Asked). o.1) es
          (λ k d lt. later e (get_or es k d) here (rest.each k d lt) (all k d lt)))
          rest.ascend;
    }

pub by_line-fits : (r : Requests) → FitsRequests r → AreRequests (by_line r)
by_line-fits r fit =
    let all : Good (finite.entries r.outstanding) =
    good (finite.entries r.outstanding) (finite.entries_sorted r.outstanding)
    (λ q. subst (λ (o : Option Asked). IfSome o (FitsAt q)) (finite.get-entries r.outstanding q) (fit.outstanding q)) in
    record {
      ascend = all.ascend;
      each = All-map IsRequest (λ (e : ℕ × Asked). e.1) (finite.entries r.outstanding)
          (All-weaker FitsEntry (λ (e : ℕ × Asked). IsRequest e.1) (λ e is. is.1) (finite.entries r.outstanding) all.each);
    }
