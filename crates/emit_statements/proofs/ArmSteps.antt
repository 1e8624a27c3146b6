-- The arms of an `if`: what is written for one, where what follows it is written and its jump is set.
use Rattle.std.proofs.Common.{◌≡◌, ◌∙◌, ◌++◌, ◌∷◌, ◌+◌, ◌<◌, ◌≤◌, ℕ, zero, suc, Bool, true, false, List, [], Option, Some, None, Result, Ok, Err, inl, inr, drop, get_or, length, refl, sym, ap, subst, arith}
use Rattle.std.specs.Prelude.{◌&&◌, ◌||◌, if◌then◌else◌, is_some, nat_lt, slice_set}
use Rattle.std.specs.Result.{IfOk, OnOk}
use Rattle.ruby_base.specs.declared.memory.NoMemory.{NoMemory}
use Rattle.slicc_ast.specs.declared.tree.statement.Block.{Block}
use Rattle.std.proofs.lemmas.Bool.{cases_lt, false≢true}
use Rattle.std.proofs.lemmas.Bool.Decides.{nat_tests}
use Rattle.std.proofs.lemmas.List.{drop_all, drop_more, length-set}
use Rattle.slicc_ast.specs.declared.tree.statement.ElseIf.{ElseIf}
use Rattle.action_code.specs.declared.instr.Instr.{Instr}
use Rattle.action_code.specs.declared.instr.Instr.TheVariants as instr
use Rattle.body_meaning.specs.Prelude.{Reading}
use Rattle.body_code.specs.declared.numbers.BodyNumbers.{BodyNumbers}
use Rattle.body_code.specs.declared.own.Own.{Own}
use Rattle.body_code.specs.Prelude.{Ending, Line, Segment, all_lines, behind, fork, goes_on, guard, nothing}
use Rattle.body_code.specs.Statements.{branched, chosen}
use Rattle.emit_expressions.specs.Prelude.{Adds}
use Rattle.emit_expressions.proofs.Forks.{forks, guards}
use Rattle.emit_statements.specs.Prelude.{WritesArm, WritesLine, arm_closed, filled, filled_all, goes_on_after, line_or, others_by, otherwise_by, with_jump}
use Rattle.emit_statements.proofs.Following.{behind_writes, line_adds, line_goes, line_own, line_wrote, no_line}

-- Between a test and what follows.

module _ (a : Line) (own later : Own) (c1 c2 c3 c4 c : List Instr) (test : ℕ) (place : test ≡ length c1) (opened : c2 ≡ c1 ++ instr.Ret ∷ []) (other : Bool) where
  -- nothing follows
  last_arm : (goes : Bool) → WritesLine a (Ok goes) c2 c3 own → c4 ≡ slice_set c3 test (instr.Unless (length c3))
      → WritesLine (goes_on nothing own) (Ok other) c4 c later → WritesLine (branched a None) (Ok other) c1 c later
  last_arm goes first set rest =
      line_wrote (branched a None) other c1 c later
      (line_goes (goes_on nothing own) other c4 c later rest)
      (line_own (goes_on nothing own) other c4 c later rest ∙ line_own a goes c2 c3 own first)
      (guards c1 a.code nothing c2 c3 c4 c test instr.Ret place opened (line_adds a goes c2 c3 own first) set (line_adds (goes_on nothing own) other c4 c later rest))

  module _ (f : Own → Line) (rest : WritesLine (f own) (Ok other) c4 c later) where
    there : (goes : Bool) → WritesLine a (Ok goes) c2 c3 own → WritesLine (f a.own) (Ok other) c4 c later
    there goes first = subst (λ (o : Own). WritesLine (f o) (Ok other) c4 c later) (line_own a goes c2 c3 own first) rest

    -- a run ends in the block
    ending_arm : WritesLine a (Ok false) c2 c3 own → c4 ≡ slice_set c3 test (instr.Unless (length c3)) → WritesLine (branched a (Some f)) (Ok other) c1 c later
    ending_arm first set =
        let b : Line = f a.own in
        line_wrote (branched a (Some f)) other c1 c later
        (line_goes b other c4 c later (there false first) ∙ ap (λ (t : Bool). if t then true else b.goes_on) (line_goes a false c2 c3 own first))
        (line_own b other c4 c later (there false first))
        (subst (λ (t : Bool). Adds (if t then fork a.code b.code else guard a.code b.code) c1 c) (line_goes a false c2 c3 own first)
        (guards c1 a.code b.code c2 c3 c4 c test instr.Ret place opened (line_adds a false c2 c3 own first) set (line_adds b other c4 c later (there false first))))

    -- a run passes what follows
    passing_arm : WritesLine a (Ok true) c2 c3 own → c4 ≡ arm_closed test true c3
        → WritesLine (branched a (Some f)) (Ok true) c1 (slice_set c (length c3) (instr.Jump (length c))) later
    passing_arm first set =
        let b : Line = f a.own in
        let new : List Instr = slice_set c (length c3) (instr.Jump (length c)) in
        line_wrote (branched a (Some f)) true c1 new later
        (ap (λ (t : Bool). if t then true else b.goes_on) (line_goes a true c2 c3 own first))
        (line_own b other c4 c later (there true first))
        (subst (λ (t : Bool). Adds (if t then fork a.code b.code else guard a.code b.code) c1 new) (line_goes a true c2 c3 own first)
        (forks c1 a.code b.code c2 c3 (c3 ++ instr.Ret ∷ []) c4 c new test (length c3) instr.Ret instr.Ret place opened (line_adds a true c2 c3 own first) refl refl set
        (line_adds b other c4 c later (there true first)) refl))

module _ (a : Line) (own later : Own) (c1 c2 c3 c4 c : List Instr) (test : ℕ) (place : test ≡ length c1) (opened : c2 ≡ c1 ++ instr.Ret ∷ []) (other : Bool) where
  closed_arm : (rest : Option (Own → Line)) (goes more : Bool) (jump : Option ℕ) → WritesLine a (Ok goes) c2 c3 own → c4 ≡ arm_closed test (goes && more) c3
      → jump ≡ (if goes && more then Some (length c3) else None) → is_some rest ≡ more → WritesLine (line_or rest own) (Ok other) c4 c later
      → WritesLine (branched a rest) (Ok (if is_some jump then true else other)) c1 (filled jump c) later
  closed_arm None goes true jump first set left follows rest = absurd (false≢true follows)
  closed_arm None true false jump first set left follows rest =
      subst (λ (j : Option ℕ). WritesLine (branched a None) (Ok (if is_some j then true else other)) c1 (filled j c) later) (sym left)
      (last_arm a own later c1 c2 c3 c4 c test place opened other true first set rest)
  closed_arm None false false jump first set left follows rest =
      subst (λ (j : Option ℕ). WritesLine (branched a None) (Ok (if is_some j then true else other)) c1 (filled j c) later) (sym left)
      (last_arm a own later c1 c2 c3 c4 c test place opened other false first set rest)
  closed_arm (Some f) goes false jump first set left follows rest = absurd (false≢true (sym follows))
  closed_arm (Some f) true true jump first set left follows rest =
      subst (λ (j : Option ℕ). WritesLine (branched a (Some f)) (Ok (if is_some j then true else other)) c1 (filled j c) later) (sym left)
      (passing_arm a own later c1 c2 c3 c4 c test place opened other f rest first set)
  closed_arm (Some f) false true jump first set left follows rest =
      subst (λ (j : Option ℕ). WritesLine (branched a (Some f)) (Ok (if is_some j then true else other)) c1 (filled j c) later) (sym left)
      (ending_arm a own later c1 c2 c3 c4 c test place opened other f rest first set)

pub arm_writes : (condition : Segment) (block : Own → Line) (goes more : Bool) (own between : Own) (c0 c1 c2 c3 c4 : List Instr) (test : ℕ) (jump : Option ℕ)
    → Adds condition c0 c1 → test ≡ length c1 → c2 ≡ c1 ++ instr.Ret ∷ [] → WritesLine (block own) (Ok goes) c2 c3 between
    → jump ≡ (if goes && more then Some (length c3) else None) → c4 ≡ arm_closed test (goes && more) c3
    → WritesArm (λ rest. behind condition (branched (block own) rest)) more jump c0 c4 between
arm_writes condition block goes more own between c0 c1 c2 c3 c4 test jump first place opened second left set = λ rest other c later follows written.
    behind_writes condition (branched (block own) rest) (Ok (if is_some jump then true else other)) c0 c1 (filled jump c) later first
    (closed_arm (block own) between later c1 c2 c3 c4 c test place opened other rest goes more jump second set left follows written)

-- Jumps that are left open.

set_swap : (c : List Instr) (i j : ℕ) (v : Instr) → slice_set (slice_set c i v) j v ≡ slice_set (slice_set c j v) i v
set_swap [] i j v = refl
set_swap (x ∷ xs) zero zero v = refl
set_swap (x ∷ xs) zero (suc j) v = refl
set_swap (x ∷ xs) (suc i) zero v = refl
set_swap (x ∷ xs) (suc i) (suc j) v = ap (λ (ys : List Instr). x ∷ ys) (set_swap xs i j v)

abbrev to_end : List Instr → ℕ → List Instr
to_end c at = slice_set c at (instr.Jump (length c))

to_end_twice : (c : List Instr) (i j : ℕ) → to_end (to_end c i) j ≡ to_end (to_end c j) i
to_end_twice c i j =
    ap (λ (n : ℕ). slice_set (to_end c i) j (instr.Jump n)) (length-set c i (instr.Jump (length c)))
    ∙ set_swap c i j (instr.Jump (length c))
    ∙ sym (ap (λ (n : ℕ). slice_set (to_end c j) i (instr.Jump n)) (length-set c j (instr.Jump (length c))))

filled_more : (jumps : List ℕ) (at : ℕ) (c : List Instr) → filled_all (jumps ++ at ∷ []) c ≡ filled_all jumps (to_end c at)
filled_more [] at c = refl
filled_more (x ∷ xs) at c = filled_more xs at (to_end c x) ∙ ap (λ (d : List Instr). filled_all xs d) (to_end_twice c x at)

filled_with : (jumps : List ℕ) (jump : Option ℕ) (c : List Instr) → filled_all jumps (filled jump c) ≡ filled_all (with_jump jumps jump) c
filled_with jumps None c = refl
filled_with jumps (Some at) c = sym (filled_more jumps at c)

goes_with : (jumps : List ℕ) (jump : Option ℕ) (other : Bool) → goes_on_after jumps (if is_some jump then true else other) ≡ goes_on_after (with_jump jumps jump) other
goes_with jumps None other = refl
goes_with [] (Some at) other = refl
goes_with (x ∷ xs) (Some at) other = refl

-- Arms one after another.

-- what is left, written from here on, writes the whole, once the jumps that are left open are set
abbrev pub ArmsLead : Line → List Instr → List ℕ → Line → List Instr → Type 0
ArmsLead rest code jumps whole start =
    (other : Bool) (c : List Instr) (later : Own) → WritesLine rest (Ok other) code c later
    → WritesLine whole (Ok (goes_on_after jumps other)) start (filled_all jumps c) later

pub arms_begin : (whole : Line) (start : List Instr) → ArmsLead whole start [] whole start
arms_begin whole start = λ other c later h. h

module _ (s : Reading) (n : BodyNumbers) (ending : Ending) (otherwise : Option (Own → Line)) (others : List ElseIf) (whole : Line) (start : List Instr) (k : ℕ) where
  abbrev rest_at : ℕ → Option (Own → Line)
  rest_at i = others_by s n ending otherwise (drop i others)

  pub arms_more : (e : ElseIf) (own between : Own) (code longer : List Instr) (jumps all : List ℕ) (jump : Option ℕ) (more : Bool)
      → k < length others → e ≡ get_or others k e
      → WritesArm (λ rest. chosen s n ending e.condition (all_lines s n ending e.then.statements) rest own) more jump code longer between
      → is_some (others_by s n ending otherwise (drop (k + 1) others)) ≡ more → all ≡ with_jump jumps jump
      → ArmsLead (line_or (others_by s n ending otherwise (drop k others)) own) code jumps whole start
      → ArmsLead (line_or (others_by s n ending otherwise (drop (k + 1) others)) between) longer all whole start
  arms_more e own between code longer jumps all jump more below is arm follows with kept = λ other c later written.
      let made : WritesLine (chosen s n ending e.condition (all_lines s n ending e.then.statements) (rest_at (k + 1)) own) (Ok (if is_some jump then true else other)) code (filled jump c) later =
      arm (rest_at (k + 1)) other c later follows written in
      let front : drop k others ≡ e ∷ drop (k + 1) others = drop_more others k e below ∙ ap (λ (x : ElseIf). x ∷ drop (k + 1) others) (sym is) in
      let whole_written : WritesLine whole (Ok (goes_on_after jumps (if is_some jump then true else other))) start (filled_all jumps (filled jump c)) later =
      kept (if is_some jump then true else other) (filled jump c) later
      (subst (λ (xs : List ElseIf). WritesLine (line_or (others_by s n ending otherwise xs) own) (Ok (if is_some jump then true else other)) code (filled jump c) later) (sym front) made) in
      subst (λ (js : List ℕ). WritesLine whole (Ok (goes_on_after js other)) start (filled_all js c) later) (sym with)
      (subst (λ (b : Bool). WritesLine whole (Ok b) start (filled_all (with_jump jumps jump) c) later) (goes_with jumps jump other)
      (subst (λ (d : List Instr). WritesLine whole (Ok (goes_on_after jumps (if is_some jump then true else other))) start d later) (filled_with jumps jump c) whole_written))

  pub arms_end : (own later : Own) (code c : List Instr) (jumps : List ℕ) (other : Bool) → length others ≤ k
      → ArmsLead (line_or (others_by s n ending otherwise (drop k others)) own) code jumps whole start
      → WritesLine (line_or otherwise own) (Ok other) code c later
      → WritesLine whole (Ok (goes_on_after jumps other)) start (filled_all jumps c) later
  arms_end own later code c jumps other past kept written =
      kept other c later
      (subst (λ (xs : List ElseIf). WritesLine (line_or (others_by s n ending otherwise xs) own) (Ok other) code c later) (sym (drop_all k others past)) written)

  pub more_at : (last : Bool) → last ≡ is_some otherwise → is_some (others_by s n ending otherwise (drop k others)) ≡ (nat_lt k (length others) || last)
  more_at last same = elim (cases_lt k (length others)) [
    | inl below ↦
        let test : nat_lt k (length others) ≡ true = grind (arith, nat_tests) in
        (elim others as (λ xs. (nat_lt k (length xs) ≡ true) → k < length xs → is_some (others_by s n ending otherwise (drop k xs)) ≡ (nat_lt k (length xs) || last)) [
          | [] ↦ λ t b. absurd (omega arith)
          | x ∷ xs ↦ λ t b. ap (λ (ys : List ElseIf). is_some (others_by s n ending otherwise ys)) (drop_more (x ∷ xs) k x b) ∙ ap (λ (v : Bool). v || last) (sym t)
        ]) test below
    | inr past ↦
        let test : nat_lt k (length others) ≡ false = grind (arith, nat_tests) in
        ap (λ (ys : List ElseIf). is_some (others_by s n ending otherwise ys)) (drop_all k others past) ∙ sym same ∙ ap (λ (v : Bool). v || last) (sym test)
  ]

-- What functions answer of them.

pub arm_if_ok : (condition : Segment) (block : Own → Line) (goes more has_jump : Bool) (own between : Own) (c0 c1 c2 c3 c4 : List Instr) (test : ℕ) (result : Result (Option ℕ) NoMemory)
    → Adds condition c0 c1 → test ≡ length c1 → c2 ≡ c1 ++ instr.Ret ∷ [] → WritesLine (block own) (Ok goes) c2 c3 between → has_jump ≡ (goes && more)
    → IfOk result (λ jump. jump ≡ (if has_jump then Some (length c3) else None)) → OnOk result (c4 ≡ arm_closed test has_jump c3)
    → IfOk result (λ jump. WritesArm (λ rest. behind condition (branched (block own) rest)) more jump c0 c4 between)
arm_if_ok condition block goes more has_jump own between c0 c1 c2 c3 c4 test (Err e) first place opened second both left set = tt
arm_if_ok condition block goes more has_jump own between c0 c1 c2 c3 c4 test (Ok jump) first place opened second both left set =
    arm_writes condition block goes more own between c0 c1 c2 c3 c4 test jump first place opened second
    (left ∙ ap (λ (b : Bool). if b then Some (length c3) else None) both) (set ∙ ap (λ (b : Bool). arm_closed test b c3) both)

pub passed_writes : (whole : Line) (jumps : List ℕ) (other : Bool) (start c new : List Instr) (later : Own) (result : Result Bool NoMemory)
    → IfOk result (λ goes. goes ≡ goes_on_after jumps other) → OnOk result (new ≡ filled_all jumps c)
    → WritesLine whole (Ok (goes_on_after jumps other)) start (filled_all jumps c) later → WritesLine whole result start new later
passed_writes whole jumps other start c new later (Err e) goes filled written = no_line whole e start new later
passed_writes whole jumps other start c new later (Ok g) goes filled written =
    subst (λ (b : Bool). WritesLine whole (Ok b) start new later) (sym goes)
    (subst (λ (d : List Instr). WritesLine whole (Ok (goes_on_after jumps other)) start d later) (sym filled) written)

pub first_passed_writes : (whole : Line) (jump : Option ℕ) (other : Bool) (start c new : List Instr) (later : Own) (result : Result Bool NoMemory)
    → IfOk result (λ goes. goes ≡ (if is_some jump then true else other)) → OnOk result (new ≡ filled jump c)
    → WritesLine whole (Ok (if is_some jump then true else other)) start (filled jump c) later → WritesLine whole result start new later
first_passed_writes whole jump other start c new later (Err e) goes set written = no_line whole e start new later
first_passed_writes whole jump other start c new later (Ok g) goes set written =
    subst (λ (b : Bool). WritesLine whole (Ok b) start new later) (sym goes)
    (subst (λ (d : List Instr). WritesLine whole (Ok (if is_some jump then true else other)) start d later) (sym set) written)

module _ (s : Reading) (n : BodyNumbers) (ending : Ending) where
  pub otherwise_there : (o : Option Block) → is_some o ≡ is_some (otherwise_by s n ending o)
  otherwise_there None = refl
  otherwise_there (Some b) = refl
