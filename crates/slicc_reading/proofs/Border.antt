-- From what the reader of a form comes to, to the answer with places.
use Rattle.std.proofs.Common.{◌≡◌, ℕ, ◌+◌, ◌-◌, ◌<◌, ◌≤◌, true, List, [], ◌∷◌, ◌++◌, length, drop, refl, sym, subst, ap, ◌∙◌, arith, length-append}
use Rattle.std.proofs.lemmas.List.{drop-append-le, length-drop}
use Rattle.slicc_ast.specs.declared.tree.token.TokenKind.TheVariants.{End}
use Rattle.slicc_ast.specs.Prelude.{Outline, IsFirstFault, Stop, Passed, Bad, Deep, Short, one_too_deep, opener_too_deep, not_viable, too_short, Form, of, written}
use Rattle.slicc_ast.proofs.Readers.{passed, failed}
use Rattle.slicc_lex.specs.declared.token.Token.{Token}
use Rattle.slicc_lex.specs.Prelude.{symbols, nesting_limit, AreEnded, IsReadAs, IsStoppedAt}
use Rattle.slicc_reading.specs.declared.fault.Fault.{Fault}
use Rattle.slicc_reading.specs.Prelude.{IsFaultFrom, placed, IsRead, Refuses, is_bad, is_deep, is_short, no_memory, stops}
use Rattle.slicc_reading.proofs.Endless.{is_inner, never_ended}
use Rattle.slicc_reading.proofs.Refusals.{symbols_length}
use Rattle.slicc_reading.proofs.Spelled.{node_of, spells_node}

-- so many tokens in front of those that are left
before_left : (tokens from own left : List Token) (at : ℕ) → at < length tokens → from ≡ drop at tokens → from ≡ own ++ left → length tokens - length left ≡ at + length own
before_left tokens from own left at lt is split =
    omega (arith, ap length is, length-drop at tokens, ap length split, length-append own left)

pub read_from : (n : Form) (depth at place : ℕ) (tokens from left : List Token) (outline : Outline)
    → at < length tokens → from ≡ drop at tokens → place ≡ length tokens - length left
    → IsRead (nesting_limit - depth) (of n) outline from from left → IsReadAs n depth tokens at outline place
read_from n depth at place tokens from left outline lt is place_is r =
    let own = node_of r.is_node in
    record {
      front = own.own;
      left = left;
      split = sym is ∙ own.split;
      spells = spells_node own;
      passed = subst (λ ts. IsFirstFault written (nesting_limit - depth) n (symbols ts) (Passed (symbols left))) is (passed (nesting_limit - depth) n (symbols from) (symbols left) r.passes);
      is_next = place_is ∙ before_left tokens from own.own left at lt is own.split;
    }

-- kinds of tokens in two parts are those of tokens in two parts
record IsCut (tokens : List Token) (rest : List ℕ) : Type 0 where
  front : List Token
  left : List Token
  split : tokens ≡ front ++ left
  is_rest : symbols left ≡ rest

cut : (tokens : List Token) (before rest : List ℕ) → symbols tokens ≡ before ++ rest → IsCut tokens rest
cut tokens [] rest is = record { front = []; left = tokens; split = refl; is_rest = is }
cut [] (kind ∷ before) rest is = absurd (cc)
cut (t ∷ tokens) (kind ∷ before) rest is =
    let tail : symbols tokens ≡ before ++ rest = cc in
    let smaller = cut tokens before rest tail in
    record { front = t ∷ smaller.front; left = smaller.left; split = ap (λ ts. t ∷ ts) smaller.split; is_rest = smaller.is_rest }

stopped_at : (n : Form) (depth at : ℕ) (tokens from : List Token) (why : List ℕ → Stop) (before rest : List ℕ)
    → at < length tokens → from ≡ drop at tokens → symbols from ≡ before ++ rest
    → IsFirstFault written (nesting_limit - depth) n (symbols from) (why rest)
    → IsStoppedAt n depth tokens at why (length tokens - length rest)
stopped_at n depth at tokens from why before rest lt is split fault =
    let parts = cut from before rest split in
    let size : length rest ≡ length parts.left = sym (ap length parts.is_rest) ∙ symbols_length parts.left in
    record {
      front = parts.front;
      left = parts.left;
      split = sym is ∙ parts.split;
      stopped = subst (λ ts. IsFirstFault written (nesting_limit - depth) n (symbols ts) (why (symbols parts.left))) is (subst (λ ks. IsFirstFault written (nesting_limit - depth) n (symbols from) (why ks)) (sym parts.is_rest) fault);
      is_place = ap (λ k. length tokens - k) size ∙ before_left tokens from parts.front parts.left at lt is parts.split;
    }

bad_at : (n : Form) (depth at : ℕ) (tokens from : List Token) (rest : List ℕ) → at < length tokens → from ≡ drop at tokens
    → IsFirstFault written (nesting_limit - depth) n (symbols from) (Bad rest) → IsStoppedAt n depth tokens at Bad (length tokens - length rest)
bad_at n depth at tokens from rest lt is (not_viable before later kind split within longest not_whole fine) =
    stopped_at n depth at tokens from Bad before (kind ∷ later) lt is split (not_viable before later kind split within longest not_whole fine)

deep_at : (n : Form) (depth at : ℕ) (tokens from : List Token) (rest : List ℕ) → at < length tokens → from ≡ drop at tokens
    → IsFirstFault written (nesting_limit - depth) n (symbols from) (Deep rest) → IsStoppedAt n depth tokens at Deep (length tokens - length rest)
deep_at n depth at tokens from rest lt is (one_too_deep before later kind nestings split within m more) =
    stopped_at n depth at tokens from Deep before (kind ∷ later) lt is split (one_too_deep before later kind nestings split within m more)
deep_at n depth at tokens from rest lt is (opener_too_deep before later kind split within longest not_whole deep) =
    stopped_at n depth at tokens from Deep before (kind ∷ later) lt is split (opener_too_deep before later kind split within longest not_whole deep)

record IsEnded (from : List Token) : Type 0 where
  front : List Token
  last : Token
  split : from ≡ front ++ last ∷ []
  is_end : last.kind ≡ End

ended_from : (at : ℕ) (tokens from : List Token) → at < length tokens → from ≡ drop at tokens → AreEnded tokens → IsEnded from
ended_from at tokens from lt is ended =
    let size : at ≤ length ended.front = omega (arith, ap length ended.split, length-append ended.front (ended.end ∷ [])) in
    record {
      front = drop at ended.front;
      last = ended.end;
      split = is ∙ ap (λ ts. drop at ts) ended.split ∙ drop-append-le at ended.front (ended.end ∷ []) size;
      is_end = ended.is_end;
    }

never_short : (n : Form) (limit at : ℕ) (tokens from : List Token) → is_inner n ≡ true → at < length tokens → from ≡ drop at tokens → AreEnded tokens
    → IsFirstFault written limit n (symbols from) Short → ⊥
never_short n limit at tokens from inner lt is ended (too_short within begins not_whole) =
    let last = ended_from at tokens from lt is ended in
    never_ended n from last.front last.last inner last.split last.is_end begins

-- the fault of a form that is never too short
pub fault_unless_short : (n : Form) (depth at : ℕ) (tokens from : List Token) (fault : Fault)
    → (IsFirstFault written (nesting_limit - depth) n (symbols from) Short → ⊥)
    → at < length tokens → from ≡ drop at tokens
    → Refuses (nesting_limit - depth) (of n) from fault → IsFaultFrom n depth tokens at (placed (length tokens) fault)
fault_unless_short n depth at tokens from fault never lt is no_memory = tt
fault_unless_short n depth at tokens from fault never lt is (stops stop fails (is_bad {rest = rest})) =
    bad_at n depth at tokens from rest lt is (failed (nesting_limit - depth) n (symbols from) (Bad rest) fails)
fault_unless_short n depth at tokens from fault never lt is (stops stop fails (is_deep {rest = rest})) =
    deep_at n depth at tokens from rest lt is (failed (nesting_limit - depth) n (symbols from) (Deep rest) fails)
fault_unless_short n depth at tokens from fault never lt is (stops stop fails is_short) =
    absurd (never (failed (nesting_limit - depth) n (symbols from) Short fails))

pub fault_from : (n : Form) (depth at : ℕ) (tokens from : List Token) (fault : Fault) → is_inner n ≡ true
    → at < length tokens → from ≡ drop at tokens → AreEnded tokens
    → Refuses (nesting_limit - depth) (of n) from fault → IsFaultFrom n depth tokens at (placed (length tokens) fault)
fault_from n depth at tokens from fault inner lt is ended r =
    fault_unless_short n depth at tokens from fault (never_short n (nesting_limit - depth) at tokens from inner lt is ended) lt is r
