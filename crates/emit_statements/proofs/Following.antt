-- Statements one after another: what each writes, after what is written before, is what they write together.
use Rattle.std.proofs.Common.{◌≡◌, ◌∙◌, ◌++◌, Bool, true, false, List, Result, Ok, Err, refl, sym, ap, subst}
use Rattle.std.specs.Prelude.{cond, if◌then◌else◌}
use Rattle.std.specs.Result.{IsErrAnd}
use Rattle.std.proofs.lemmas.List.{append-nil}
use Rattle.std.proofs.lemmas.Result.{err_from_is_err_and}
use Rattle.ruby_base.specs.declared.memory.NoMemory.{NoMemory}
use Rattle.ruby_value.specs.declared.kind.Kind.{Kind}
use Rattle.action_code.specs.declared.instr.Instr.{Instr}
use Rattle.body_code.specs.declared.left.Left.{Left}
use Rattle.body_code.specs.declared.left.Left.TheVariants as left
use Rattle.body_code.specs.declared.left.NameAt.{NameAt}
use Rattle.body_code.specs.declared.own.Locals.{Locals}
use Rattle.body_code.specs.declared.own.Own.{Own}
use Rattle.body_code.specs.Prelude.{Line, Piece, Segment, behind, closed, dropped, followed_by, goes_on, in_block, just, nothing, within, ◌⨾◌}
use Rattle.emit_expressions.specs.Prelude.{Adds, Writes}
use Rattle.emit_expressions.proofs.Adding.{adds_none, adds_then, code_is, left_is}
use Rattle.emit_statements.specs.Prelude.{WritesLine, set_aside}

module _ (l : Line) (goes : Bool) (old new : List Instr) (own : Own) where
  pub line_wrote : goes ≡ l.goes_on → own ≡ l.own → Adds l.code old new → WritesLine l (Ok goes) old new own
  unfolding WritesLine
  line_wrote a b c = (a, b, c)

  pub line_goes : WritesLine l (Ok goes) old new own → goes ≡ l.goes_on
  unfolding WritesLine
  line_goes h = h.0

  pub line_own : WritesLine l (Ok goes) old new own → own ≡ l.own
  unfolding WritesLine
  line_own h = h.1

  pub line_adds : WritesLine l (Ok goes) old new own → Adds l.code old new
  unfolding WritesLine
  line_adds h = h.2

pub no_line : (l : Line) (e : NoMemory) (old new : List Instr) (own : Own) → WritesLine l (Err e) old new own
unfolding WritesLine
no_line l e old new own = tt

pub without_line : (Q : NoMemory → Type 0) (l : Line) (result : Result Bool NoMemory) (old new : List Instr) (own : Own) → IsErrAnd result Q → WritesLine l result old new own
without_line Q l result old new own failed =
    let e = err_from_is_err_and result failed in subst (λ (r : Result Bool NoMemory). WritesLine l r old new own) (sym e.1) (no_line l e.0 old new own)

pub line_of : (a b : Line) (result : Result Bool NoMemory) (old new : List Instr) (own : Own) → a ≡ b → WritesLine a result old new own → WritesLine b result old new own
line_of a b result old new own same h = subst (λ (l : Line). WritesLine l result old new own) same h

pub behind_writes : (before : Segment) (l : Line) (result : Result Bool NoMemory) (old mid new : List Instr) (own : Own) → Adds before old mid → WritesLine l result mid new own
    → WritesLine (behind before l) result old new own
unfolding WritesLine
behind_writes before l (Err e) old mid new own first rest = tt
behind_writes before l (Ok goes) old mid new own first rest = (rest.0, rest.1, adds_then old mid new before l.code first rest.2)

module _ (a : Line) (next : Own → Line) where
  pub follows : (result : Result Bool NoMemory) (old mid new : List Instr) (own later : Own) → WritesLine a (Ok true) old mid own → WritesLine (next own) result mid new later
      → WritesLine (followed_by a next) result old new later
  follows result old mid new own later first rest =
      line_of (behind a.code (next a.own)) (followed_by a next) result old new later
      (ap (λ (b : Bool). if b then behind a.code (next a.own) else a) (line_goes a true old mid own first))
      (behind_writes a.code (next a.own) result old mid new later (line_adds a true old mid own first)
      (subst (λ (o : Own). WritesLine (next o) result mid new later) (line_own a true old mid own first) rest))

  pub stops_there : (old new : List Instr) (own : Own) → WritesLine a (Ok false) old new own → WritesLine (followed_by a next) (Ok false) old new own
  stops_there old new own first =
      line_of a (followed_by a next) (Ok false) old new own (ap (λ (b : Bool). if b then behind a.code (next a.own) else a) (line_goes a false old new own first)) first

pub closes : (l : Line) (instructions : List Instr) (goes : Bool) (old mid new : List Instr) (own : Own) → WritesLine l (Ok goes) old mid own
    → new ≡ (if goes then mid ++ instructions else mid) → WritesLine (closed l instructions) (Ok goes) old new own
closes l instructions true old mid new own first last =
    let longer : Line = record l { code = l.code ⨾ just instructions } in
    line_of longer (closed l instructions) (Ok true) old new own
    (ap (λ (b : Bool). if b then longer else l) (line_goes l true old mid own first))
    (line_wrote longer true old new own (line_goes l true old mid own first) (line_own l true old mid own first)
    (adds_then old mid new l.code (just instructions) (line_adds l true old mid own first) last))
closes l instructions false old mid new own first last =
    let longer : Line = record l { code = l.code ⨾ just instructions } in
    line_of l (closed l instructions) (Ok false) old new own
    (ap (λ (b : Bool). if b then longer else l) (line_goes l false old mid own first))
    (subst (λ (c : List Instr). WritesLine l (Ok false) old c own) (sym last) first)

-- after a block the names are as before
pub within_writes : (names kept : List NameAt) (block : Own → Line) (own later : Own) (goes : Bool) (old new : List Instr) → kept ≡ own.names
    → WritesLine (block (record { names = names; locals = own.locals })) (Ok goes) old new later
    → WritesLine (within names block own) (Ok goes) old new (record { names = kept; locals = later.locals })
within_writes names kept block own later goes old new same done =
    let l : Line = block (record { names = names; locals = own.locals }) in
    line_wrote (within names block own) goes old new (record { names = kept; locals = later.locals })
    (line_goes l goes old new later done)
    (ap (λ (xs : List NameAt). record { names = xs; locals = later.locals }) same
    ∙ ap (λ (o : Own). record { names = own.names; locals = o.locals }) (line_own l goes old new later done))
    (line_adds l goes old new later done)

pub block_writes : (kept : List NameAt) (block : Own → Line) (own later : Own) (goes : Bool) (old new : List Instr) → kept ≡ own.names
    → WritesLine (block own) (Ok goes) old new later → WritesLine (in_block block own) (Ok goes) old new (record { names = kept; locals = later.locals })
block_writes kept block own later goes old new same done = within_writes own.names kept block own later goes old new same done

-- nothing more after code
pub nothing_more : (c : Segment) (own later : Own) (result : Result Bool NoMemory) (old mid new : List Instr) → Adds c old mid
    → WritesLine (goes_on nothing own) result mid new later → WritesLine (goes_on c own) result old new later
unfolding WritesLine
nothing_more c own later (Err e) old mid new first rest = tt
nothing_more c own later (Ok goes) old mid new first rest = (rest.0, rest.1, rest.2 ∙ append-nil mid ∙ first)

-- a value that is set aside
aside : (l : Left) (c : Segment) (own later : Own) (result : Result Bool NoMemory) (old mid new : List Instr) → Adds c old mid → WritesLine (set_aside l own) result mid new later
    → WritesLine (dropped (record { left = l; code = c }) own) result old new later
aside (left.Value k) c own later result old mid new first rest = behind_writes c (set_aside (left.Value k) own) result old mid new later first rest
aside (left.Table k) c own later result old mid new first rest = nothing_more c own later result old mid new first rest
aside (left.Port b) c own later result old mid new first rest = nothing_more c own later result old mid new first rest
aside left.Sequencer c own later result old mid new first rest = nothing_more c own later result old mid new first rest
aside (left.Inner k) c own later result old mid new first rest = nothing_more c own later result old mid new first rest
aside (left.Made k) c own later result old mid new first rest = nothing_more c own later result old mid new first rest
aside (left.Kept k f) c own later result old mid new first rest = nothing_more c own later result old mid new first rest
aside left.Nothing c own later result old mid new first rest = nothing_more c own later result old mid new first rest

pub dropped_writes : (p : Piece) (l : Left) (own later : Own) (result : Result Bool NoMemory) (old mid new : List Instr) → Writes p (Ok l) old mid
    → WritesLine (set_aside l own) result mid new later → WritesLine (dropped p own) result old new later
dropped_writes p l own later result old mid new first rest =
    aside p.left p.code own later result old mid new (code_is p l old mid first)
    (subst (λ (x : Left). WritesLine (set_aside x own) result mid new later) (left_is p l old mid first) rest)

pub with_these : (names : List NameAt) (one two : Locals) → one ≡ two → ◌≡◌ {A = Own} (record { names = names; locals = one }) (record { names = names; locals = two })
with_these names one two same = ap (λ (l : Locals). record { names = names; locals = l }) same

pub nothing_aside : (l : Left) (own : Own) (code : List Instr) → ((k : Kind) → l ≡ left.Value k → ⊥) → WritesLine (set_aside l own) (Ok true) code code own
nothing_aside (left.Value k) own code not = absurd (not k refl)
nothing_aside (left.Table k) own code not = line_wrote (goes_on nothing own) true code code own refl refl (adds_none code)
nothing_aside (left.Port b) own code not = line_wrote (goes_on nothing own) true code code own refl refl (adds_none code)
nothing_aside left.Sequencer own code not = line_wrote (goes_on nothing own) true code code own refl refl (adds_none code)
nothing_aside (left.Inner k) own code not = line_wrote (goes_on nothing own) true code code own refl refl (adds_none code)
nothing_aside (left.Made k) own code not = line_wrote (goes_on nothing own) true code code own refl refl (adds_none code)
nothing_aside (left.Kept k f) own code not = line_wrote (goes_on nothing own) true code code own refl refl (adds_none code)
nothing_aside left.Nothing own code not = line_wrote (goes_on nothing own) true code code own refl refl (adds_none code)

-- by a test
module _ (b : Bool) (x y : Line) (result : Result Bool NoMemory) (old new : List Instr) (own : Own) where
  pub where_true : b ≡ true → WritesLine x result old new own → WritesLine (cond b x y) result old new own
  where_true is h = line_of x (cond b x y) result old new own (ap (λ (t : Bool). cond t x y) (sym is)) h

  pub where_false : b ≡ false → WritesLine y result old new own → WritesLine (cond b x y) result old new own
  where_false is h = line_of y (cond b x y) result old new own (ap (λ (t : Bool). cond t x y) (sym is)) h
