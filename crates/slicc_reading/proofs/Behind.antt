-- Nodes that begin before what is read of them: with a comma of which it was not known whose it is.
use Rattle.std.proofs.Common.{◌≡◌, ℕ, ◌≤◌, Bool, IsTrue, List, [], length, sym, subst, arith}
use Rattle.slicc_ast.specs.declared.tree.declaration.Pair.{Pair}
use Rattle.slicc_ast.specs.declared.tree.span.Span.{Span}
use Rattle.slicc_ast.specs.declared.tree.token.Sign.TheVariants.{Comma}
use Rattle.slicc_ast.specs.Prelude.{pair_list, Outline, node, none, Parts, part, provided, ◌▸◌, comma, table}
use Rattle.slicc_ast.specs.Names.{sign}
use Rattle.slicc_ast.proofs.Steps.{passes_both}
use Rattle.slicc_ast.specs.Parts.{Part}
use Rattle.slicc_lex.specs.declared.token.Token.{Token}
use Rattle.slicc_lex.specs.Prelude.{symbols}
use Rattle.slicc_reading.specs.Prelude.{AreRead, Covers, IsNode, IsRead, allowed, inside, nothing, spelled, IsSpelledBefore}

shorter : (left between tokens : List Token) → length left ≤ length between → length between ≤ length tokens → length left ≤ length tokens
shorter left between tokens a b = omega arith

-- a node that is read on behind a part of it
pub goes_on : {room : ℕ} {g h : Part} {p : Parts → Parts} {o : Outline} {start tokens between left : List Token}
    → AreRead room g p tokens between → IsRead room h o start between left → IsRead room (g ▸ h) o start tokens left
goes_on {room = room} {g = g} {h = h} {tokens = tokens} {between = between} {left = left} a b =
    record {
      passes = passes_both table room g h (symbols tokens) (symbols between) (symbols left) a.passes b.passes;
      is_node = b.is_node;
      within = shorter left between tokens b.within a.within;
    }

-- a node that begins where the part before it does
pub from_start : {room : ℕ} {g h : Part} {p : Parts → Parts} {o : Outline} {start tokens left : List Token}
    → AreRead room g p start tokens → IsRead room h o start tokens left → AreRead room (g ▸ h) (part o) start left
from_start {room = room} {g = g} {h = h} {start = start} {tokens = tokens} {left = left} a b =
    record {
      passes = passes_both table room g h (symbols start) (symbols tokens) (symbols left) a.passes b.passes;
      spells = λ others end m. inside b.is_node m;
      within = shorter left tokens start b.within a.within;
    }

-- a comma, and then a node
pub comma_before : {room : ℕ} {o : Outline} {start tokens between : List Token}
    → AreRead room comma (sign Comma) start tokens → IsNode o tokens between → IsSpelledBefore (λ others. sign Comma (part o others)) start between
comma_before a n others end m = a.spells _ end (inside n m)

pub no_pairs : {span : Span} {tokens : List Token} (items : List Pair) → items ≡ [] → Covers span tokens tokens → IsNode (node span (pair_list items)) tokens tokens
no_pairs {span = span} {tokens = tokens} items is covers = subst (λ xs. IsNode (node span (pair_list xs)) tokens tokens) (sym is) (spelled covers nothing)

-- a node that begins with two others, which were read before, and goes on with the parts that were read
pub as_node_behind_two : {room : ℕ} {g : Part} {first second : Outline} {parts : Parts → Parts} {start between tokens left : List Token} (span : Span)
    → Covers span start left → IsNode first start between → IsNode second between tokens → AreRead room g parts tokens left
    → IsRead room g (node span (part first (part second (parts none)))) start tokens left
as_node_behind_two span covers first second r =
    record { passes = r.passes; is_node = spelled covers (inside first (inside second (r.spells none _ nothing))); within = r.within }

-- the same under a condition that holds
pub as_allowed_behind_two : {room : ℕ} {g : Part} {first second : Outline} {parts : Parts → Parts} {start between tokens left : List Token} {condition : Bool} (span : Span)
    → Covers span start left → IsTrue condition → IsNode first start between → IsNode second between tokens → AreRead room g parts tokens left
    → IsRead room g (node span (provided condition (part first (part second (parts none))))) start tokens left
as_allowed_behind_two span covers holds first second r =
    record { passes = r.passes; is_node = spelled covers (allowed holds (inside first (inside second (r.spells none _ nothing)))); within = r.within }
