-- How optional and repeated parts and nestings are read.
use Rattle.std.proofs.Common.{◌≡◌, ℕ, zero, suc, ◌-◌, ◌≤◌, true, false, List, [], ◌∷◌, length, refl, sym, subst, arith}
use Rattle.slicc_ast.specs.Prelude.{Outline, Parts, Row, first_of, done, maybe, many, nested, has, is_ahead, Fails, Passes, Form, ◌▸◌, table, kind_of, next, sign_kind}
use Rattle.slicc_ast.proofs.Steps.{passes_both, passes_present, passes_absent, passes_nested, fails_second, fails_present, fails_nested}
use Rattle.slicc_ast.specs.Parts.{Part}
use Rattle.slicc_lex.specs.declared.token.Token.{Token}
use Rattle.slicc_lex.specs.Prelude.{symbols}
use Rattle.slicc_reading.specs.declared.fault.Fault.{Fault}
use Rattle.slicc_reading.specs.Prelude.{IsNode, IsRead, AreRead, Refuses, one, no_memory, stops, IsOpened, Leads}
use Rattle.slicc_ast.specs.declared.tree.token.Sign.{Sign}
use Rattle.slicc_ast.specs.declared.tree.token.Sign.TheVariants.{OpenBrace, CloseBrace, OpenParenthesis, CloseParenthesis, OpenBracket, CloseBracket, Semicolon, Colon, Comma, Dot, Equals, Assign, Equal, Unequal, Less, Greater, LessOrEqual, GreaterOrEqual, Plus, Minus, Star, Not, And, Or}
use Rattle.slicc_ast.specs.Names.{sign}
use Rattle.slicc_ast.specs.Reader.Stops.{on, again, enough}

pub same_kind : (s : Sign) → has (sign_kind s ∷ []) (sign_kind s) ≡ true
same_kind OpenBrace = refl
same_kind CloseBrace = refl
same_kind OpenParenthesis = refl
same_kind CloseParenthesis = refl
same_kind OpenBracket = refl
same_kind CloseBracket = refl
same_kind Semicolon = refl
same_kind Colon = refl
same_kind Comma = refl
same_kind Dot = refl
same_kind Equals = refl
same_kind Assign = refl
same_kind Equal = refl
same_kind Unequal = refl
same_kind Less = refl
same_kind Greater = refl
same_kind LessOrEqual = refl
same_kind GreaterOrEqual = refl
same_kind Plus = refl
same_kind Minus = refl
same_kind Star = refl
same_kind Not = refl
same_kind And = refl
same_kind Or = refl

-- a nesting that is opened, with what is inside it
pub in_nesting : {room : ℕ} {g : Part} {p : Parts → Parts} {opener : Sign} {tokens behind left : List Token}
    → IsOpened room opener tokens behind → AreRead (room - 1) g p behind left
    → AreRead room (nested (sign_kind opener ∷ []) (g done)) (λ others. sign opener (p others)) tokens left
in_nesting {room = zero} opened r = absurd (omega arith)
in_nesting {room = suc room} {g = g} {p = p} {opener = opener} {tokens = tokens} {behind = behind} {left = left} opened r =
    let smaller : suc room - 1 ≡ room = omega arith in
    let read : AreRead room g p behind left = subst (λ n. AreRead n g p behind left) smaller r in
    let is_kind : has (sign_kind opener ∷ []) (kind_of opened.first.kind) ≡ true = subst (λ k. has (sign_kind opener ∷ []) (kind_of k) ≡ true) (sym opened.is_opener) (same_kind opener) in
    subst (λ ts. AreRead (suc room) (nested (sign_kind opener ∷ []) (g done)) (λ others. sign opener (p others)) ts left) (sym opened.split)
    (record {
      passes = passes_nested table room (sign_kind opener ∷ []) g (kind_of opened.first.kind) (symbols behind) (symbols left) is_kind read.passes;
      spells = λ others end m. one opened.is_opener (read.spells others end m);
      within = (let le : length left ≤ length behind = read.within in omega arith);
    })

pub fault_in_nesting : {room : ℕ} {g : Part} {opener : Sign} {tokens behind : List Token} {fault : Fault}
    → IsOpened room opener tokens behind → Refuses (room - 1) g behind fault
    → Refuses room (nested (sign_kind opener ∷ []) (g done)) tokens fault
fault_in_nesting opened no_memory = no_memory
fault_in_nesting {room = zero} opened (stops stop fails is) = absurd (omega arith)
fault_in_nesting {room = suc room} {g = g} {opener = opener} {tokens = tokens} {behind = behind} {fault = fault} opened (stops stop fails is) =
    let smaller : suc room - 1 ≡ room = omega arith in
    let inner : Fails table room g (symbols behind) stop = subst (λ n. Fails table n g (symbols behind) stop) smaller fails in
    let is_kind : has (sign_kind opener ∷ []) (kind_of opened.first.kind) ≡ true = subst (λ k. has (sign_kind opener ∷ []) (kind_of k) ≡ true) (sym opened.is_opener) (same_kind opener) in
    subst (λ ts. Refuses (suc room) (nested (sign_kind opener ∷ []) (g done)) ts fault) (sym opened.split)
    (stops stop (fails_nested table room (sign_kind opener ∷ []) g (kind_of opened.first.kind) (symbols behind) stop is_kind inner) is)

-- an optional part that isn't there, and one that is
pub absent : {room : ℕ} {tokens : List Token} (row : Row Form)
    → is_ahead (first_of table row) (symbols tokens) ≡ false → AreRead room (maybe row) (λ others. others) tokens tokens
absent {room = room} {tokens = tokens} row ahead =
    record { passes = passes_absent table room row (symbols tokens) ahead; spells = λ others end m. m; within = omega arith }

pub present : {room : ℕ} {g : Part} {p : Parts → Parts} {tokens left : List Token}
    → is_ahead (first_of table (g done)) (symbols tokens) ≡ true → AreRead room g p tokens left → AreRead room (maybe (g done)) p tokens left
present {room = room} {g = g} {tokens = tokens} {left = left} ahead r =
    record { passes = passes_present table room g (symbols tokens) (symbols left) ahead r.passes; spells = r.spells; within = r.within }

pub fault_in_present : {room : ℕ} {g : Part} {tokens : List Token} {fault : Fault}
    → is_ahead (first_of table (g done)) (symbols tokens) ≡ true → Refuses room g tokens fault → Refuses room (maybe (g done)) tokens fault
fault_in_present ahead no_memory = no_memory
fault_in_present {room = room} {g = g} {tokens = tokens} ahead (stops stop fails is) =
    stops stop (fails_present table room g (symbols tokens) stop ahead fails) is

pub present_read : {room : ℕ} {g : Part} {o : Outline} {start tokens left : List Token}
    → is_ahead (first_of table (g done)) (symbols tokens) ≡ true → IsRead room g o start tokens left → IsRead room (maybe (g done)) o start tokens left
present_read {room = room} {g = g} {tokens = tokens} {left = left} ahead r =
    record { passes = passes_present table room g (symbols tokens) (symbols left) ahead r.passes; is_node = r.is_node; within = r.within }

-- a node that nothing follows, where the optional part isn't there
pub absent_read : {room : ℕ} {o : Outline} {start tokens : List Token} (row : Row Form)
    → is_ahead (first_of table row) (symbols tokens) ≡ false → IsNode o start tokens → IsRead room (maybe row) o start tokens tokens
absent_read {room = room} {tokens = tokens} row ahead m =
    record { passes = passes_absent table room row (symbols tokens) ahead; is_node = m; within = omega arith }

-- a loop that begins
pub leads_here : (room : ℕ) (g : Part) (tokens : List Token) → Leads room g tokens g tokens
leads_here room g tokens = record { passes = λ left p. p; fails = λ stop f. f; within = omega arith }

pub leads_behind : {room : ℕ} {g : Part} {p : Parts → Parts} {tokens between : List Token} (h : Part)
    → AreRead room g p tokens between → Leads room (g ▸ h) tokens h between
leads_behind {room = room} {g = g} {tokens = tokens} {between = between} h r =
    record {
      passes = λ left p. passes_both table room g h (symbols tokens) (symbols between) left r.passes p;
      fails = λ stop f. fails_second table room g h (symbols tokens) (symbols between) stop r.passes f;
      within = r.within;
    }

-- once more of the repeated part
pub once_more : {room : ℕ} {g : Part} {tokens now next_tokens : List Token} (item rest : Part)
    → is_ahead (first_of table (item done)) (symbols now) ≡ true
    → Passes table room item (symbols now) (symbols next_tokens) → length next_tokens ≤ length now
    → Leads room g tokens (λ row. many (item done) (rest row)) now
    → Leads room g tokens (λ row. many (item done) (rest row)) next_tokens
once_more {room = room} {tokens = tokens} {now = now} {next_tokens = next_tokens} item rest ahead passes shorter l =
    record {
      passes = λ left p. l.passes left (λ row rows stop s. again ahead (passes done (next (many (item done) (rest row)) rows) stop (on (p row rows stop s))));
      fails = λ stop f. l.fails stop (λ row rows. again ahead (passes done (next (many (item done) (rest row)) rows) stop (on (f row rows))));
      within = (let le : length now ≤ length tokens = l.within in omega arith);
    }

-- a fault in the repeated part
pub fault_in_more : {room : ℕ} {g : Part} {tokens now : List Token} {fault : Fault} (item rest : Part)
    → is_ahead (first_of table (item done)) (symbols now) ≡ true → Refuses room item now fault
    → Leads room g tokens (λ row. many (item done) (rest row)) now
    → Refuses room g tokens fault
fault_in_more item rest ahead no_memory l = no_memory
fault_in_more item rest ahead (stops stop fails is) l =
    stops stop (l.fails stop (λ row rows. again ahead (fails done (next (many (item done) (rest row)) rows)))) is

-- the repeated part ends
pub no_more : {room : ℕ} {g : Part} {tokens now : List Token} (item : Row Form) (rest : Part)
    → is_ahead (first_of table item) (symbols now) ≡ false
    → Leads room g tokens (λ row. many item (rest row)) now → Leads room g tokens rest now
no_more item rest ahead l =
    record {
      passes = λ left p. l.passes left (λ row rows stop s. enough ahead (p row rows stop s));
      fails = λ stop f. l.fails stop (λ row rows. enough ahead (f row rows));
      within = l.within;
    }

-- the loop has come to the end of the part
pub all_of : {room : ℕ} {g : Part} {tokens now : List Token} → Leads room g tokens (λ row. row) now → Passes table room g (symbols tokens) (symbols now)
all_of {now = now} l = l.passes (symbols now) (λ row rows stop s. s)
