-- What the smaller parts of a tree spell, before what stands behind them: balanced parts, attributes, formals and names.
use Rattle.std.proofs.Common.{◌≡◌, ℕ, Bool, true, false, ◌||◌, cond, List, [], ◌∷◌, Option, Some, None, refl, sym, subst, codes}
use Rattle.std.specs.Str.{bytes_eq}
use Rattle.std.proofs.lemmas.Bool.{and_parts, false≢true, cond_both}
use Rattle.slicc_ast.specs.declared.tree.token.TokenKind.{TokenKind}
use Rattle.slicc_ast.specs.declared.tree.token.TokenKind.TheVariants.{Name as Named, Number, Quoted, Word, Sign, End}
use Rattle.slicc_ast.specs.declared.tree.token.Word.{Word as Reserved}
use Rattle.slicc_ast.specs.declared.tree.token.Word.TheVariants.{Protocol, Include, Machine, Enumeration, StateDeclaration, Structure, InPort, OutPort, Action, Transition, Peek, Enqueue, StallAndWait, CheckAllocate, If, Else, Return, True, False, Ood, New, IsValid, IsInvalid, StaticCast, Error, Assert, Dprintf, AppendTransitionComment, While}
use Rattle.slicc_ast.specs.declared.tree.token.Sign.{Sign as SignKind}
use Rattle.slicc_ast.specs.declared.tree.token.Sign.TheVariants.{OpenBrace, CloseBrace, OpenParenthesis, CloseParenthesis, OpenBracket, CloseBracket, Semicolon, Colon, Comma, Dot, Equals, Assign, Equal, Unequal, Less, Greater, LessOrEqual, GreaterOrEqual, Plus, Minus, Star, Not, And, Or}
use Rattle.slicc_ast.specs.declared.tree.balanced.Part.{Part, Token, Parentheses', Brackets', Braces', Row_of-Part, end_of-Part, more_of-Part}
use Rattle.slicc_ast.specs.declared.tree.declaration.Formal.{Formal}
use Rattle.slicc_ast.specs.declared.tree.declaration.Pair.{Pair}
use Rattle.slicc_ast.specs.declared.tree.declaration.Pair.TheVariants.{Named, Bare}
use Rattle.slicc_ast.specs.declared.tree.declaration.PairValue.{PairValue}
use Rattle.slicc_ast.specs.declared.tree.declaration.PairValue.TheVariants.{Quoted as QuotedValue, Number as NumberValue, Name as NameValue}
use Rattle.slicc_ast.specs.declared.tree.name.Name.{Name}
use Rattle.slicc_ast.specs.Prelude.{Parts, none, are_allowed, is_loose, balanced_row, balanced_list, pair_value, pair_list, more_formals, formal_list, optional_name, is_skipped, has, Row, Rows, done, form, maybe, many, up, Matches, Whole, one, Form, kind_of, name_kind, machine_type, functional_name, other_name, number, quoted, word_kind, sign_kind, names_of, of, ◌▸◌, unbracketed, comma, written}
use Rattle.slicc_ast.specs.Names.{star, balanced_part}
use Rattle.slicc_ast.specs.Declarations.{pair, formal}
use Rattle.slicc_ast.specs.Matches.Matches.{absent, enough, inside, outside}
use Rattle.slicc_ast.proofs.KindSets.{in_right}
use Rattle.slicc_ast.proofs.Translating.{fold_to, to_present, to_again}
use Rattle.slicc_ast.specs.Parts.{name, star as star_part, pairs, balanced}
use Rattle.slicc_ast.proofs.Followed.{follow, follow_parts}
use Rattle.slicc_ast.proofs.Leading.{name_is_one, close}

-- a list is the row and the rows behind it
abbrev pub Fits : Row Form → Rows Form → List ℕ → ℕ → Type 0
Fits r S ts o = Matches written Whole r S ts o

-- the kind of a token of a balanced part is one that may stand there
word_is_loose : (w : Reserved) → has unbracketed (word_kind w) ≡ true
word_is_loose Protocol = refl
word_is_loose Include = refl
word_is_loose Machine = refl
word_is_loose Enumeration = refl
word_is_loose StateDeclaration = refl
word_is_loose Structure = refl
word_is_loose InPort = refl
word_is_loose OutPort = refl
word_is_loose Action = refl
word_is_loose Transition = refl
word_is_loose Peek = refl
word_is_loose Enqueue = refl
word_is_loose StallAndWait = refl
word_is_loose CheckAllocate = refl
word_is_loose If = refl
word_is_loose Else = refl
word_is_loose Return = refl
word_is_loose True = refl
word_is_loose False = refl
word_is_loose Ood = refl
word_is_loose New = refl
word_is_loose IsValid = refl
word_is_loose IsInvalid = refl
word_is_loose StaticCast = refl
word_is_loose Error = refl
word_is_loose Assert = refl
word_is_loose Dprintf = refl
word_is_loose AppendTransitionComment = refl
word_is_loose While = refl

sign_is_loose : (s : SignKind) → is_loose (Sign s) ≡ true → has unbracketed (sign_kind s) ≡ true
sign_is_loose OpenBrace loose = absurd (false≢true loose)
sign_is_loose CloseBrace loose = absurd (false≢true loose)
sign_is_loose OpenParenthesis loose = absurd (false≢true loose)
sign_is_loose CloseParenthesis loose = absurd (false≢true loose)
sign_is_loose OpenBracket loose = absurd (false≢true loose)
sign_is_loose CloseBracket loose = absurd (false≢true loose)
sign_is_loose Semicolon loose = refl
sign_is_loose Colon loose = refl
sign_is_loose Comma loose = refl
sign_is_loose Dot loose = refl
sign_is_loose Equals loose = refl
sign_is_loose Assign loose = refl
sign_is_loose Equal loose = refl
sign_is_loose Unequal loose = refl
sign_is_loose Less loose = refl
sign_is_loose Greater loose = refl
sign_is_loose LessOrEqual loose = refl
sign_is_loose GreaterOrEqual loose = refl
sign_is_loose Plus loose = refl
sign_is_loose Minus loose = refl
sign_is_loose Star loose = refl
sign_is_loose Not loose = refl
sign_is_loose And loose = refl
sign_is_loose Or loose = refl

pub loose : (kind : TokenKind) → is_loose kind ≡ true → has unbracketed (kind_of kind) ≡ true
loose (Named text) is =
    cond_both (bytes_eq text (codes "MachineType")) machine_type
    (cond (bytes_eq text (codes "functionalRead") || bytes_eq text (codes "functionalWrite")) functional_name other_name)
    (λ kind. has unbracketed kind ≡ true) (λ named. refl)
    (λ named. cond_both (bytes_eq text (codes "functionalRead") || bytes_eq text (codes "functionalWrite")) functional_name other_name (λ kind. has unbracketed kind ≡ true) (λ f. refl) (λ f. refl))
loose (Number n) is = refl
loose (Quoted text) is = refl
loose (Word w) is = word_is_loose w
loose (Sign s) is = sign_is_loose s is
loose End is = absurd (false≢true is)

abbrev pub close_brace : Row Form
close_brace = Row.token (sign_kind CloseBrace ∷ []) done

abbrev pub close_bracket : Row Form
close_bracket = Row.token (sign_kind CloseBracket ∷ []) done

abbrev any_part : Row Form
any_part = form Form.balanced_part done

mutual
  part_leads : (p : Part) (parts : Parts) → are_allowed (balanced_part p parts) ≡ true → (r : Row Form) (S : Rows Form) (rest : List ℕ) (o : ℕ) → (are_allowed parts ≡ true → Fits (many any_part r) S (follow_parts parts rest) o) → Fits (many any_part r) S (follow_parts (balanced_part p parts) rest) o
  part_leads (Token kind) parts allowed r S rest o m =
      let both = and_parts (is_loose kind) (are_allowed parts) allowed in
      to_again written any_part r Whole _ o (fold_to written Form.balanced_part 0 refl Whole _ o (one (loose kind both.0) (m both.1)))
  part_leads (Parentheses' shape row span) parts allowed r S rest o m =
      let both = and_parts (are_allowed (balanced_row row)) (are_allowed parts) allowed in
      to_again written any_part r Whole _ o (fold_to written Form.balanced_part 1 refl Whole _ o
      (inside refl (row_leads row both.0 close (up (many any_part r) S) _ o (one refl (outside (m both.1))))))
  part_leads (Brackets' shape row span) parts allowed r S rest o m =
      let both = and_parts (are_allowed (balanced_row row)) (are_allowed parts) allowed in
      to_again written any_part r Whole _ o (fold_to written Form.balanced_part 2 refl Whole _ o
      (inside refl (row_leads row both.0 close_bracket (up (many any_part r) S) _ o (one refl (outside (m both.1))))))
  part_leads (Braces' shape row span) parts allowed r S rest o m =
      let both = and_parts (are_allowed (balanced_row row)) (are_allowed parts) allowed in
      to_again written any_part r Whole _ o (fold_to written Form.balanced_part 3 refl Whole _ o
      (inside refl (row_leads row both.0 close_brace (up (many any_part r) S) _ o (one refl (outside (m both.1))))))

  row_leads : {n : _} (row : Row_of-Part n) → are_allowed (balanced_row row) ≡ true → (r : Row Form) (S : Rows Form) (rest : List ℕ) (o : ℕ) → Fits r S rest o → Fits (many any_part r) S (follow_parts (balanced_row row) rest) o
  row_leads end_of-Part allowed r S rest o m = enough m
  row_leads (more_of-Part first row) allowed r S rest o m =
      part_leads first (balanced_row row) allowed r S rest o (λ later. row_leads row later r S rest o m)

pub balanced_leads : (ps : List Part) → are_allowed (balanced_list ps) ≡ true → (r : Row Form) (S : Rows Form) (rest : List ℕ) (o : ℕ) → Fits r S rest o → Fits (balanced r) S (follow_parts (balanced_list ps) rest) o
balanced_leads [] allowed r S rest o m = enough m
balanced_leads (first ∷ others) allowed r S rest o m =
    part_leads first (balanced_list others) allowed r S rest o (λ later. balanced_leads others later r S rest o m)

abbrev one_pair : Row Form
one_pair = (comma ▸ of Form.pair) done

value_leads : (v : PairValue) (r : Row Form) (S : Rows Form) (rest : List ℕ) (o : ℕ) → Fits r S rest o → Fits (Row.token (quoted ∷ number ∷ names_of) r) S (follow_parts (pair_value v none) rest) o
value_leads (QuotedValue text) r S rest o m = one refl m
value_leads (NumberValue n) r S rest o m = one refl m
value_leads (NameValue n) r S rest o m = one (in_right (quoted ∷ number ∷ []) names_of (name_kind n.text) (name_is_one n.text)) m

pair_leads : (p : Pair) (r : Row Form) (S : Rows Form) (rest : List ℕ) (o : ℕ) → Fits r S rest o → Fits (form Form.pair r) S (follow (pair p) rest) o
pair_leads (Named key value span) r S rest o m =
    fold_to written Form.pair 0 refl Whole _ o (one (name_is_one key.text) (one refl (value_leads value r S rest o m)))
pair_leads (Bare text span) r S rest o m = fold_to written Form.pair 1 refl Whole _ o (one refl m)

pub pairs_lead : (ps : List Pair) (r : Row Form) (S : Rows Form) (rest : List ℕ) (o : ℕ) → Fits r S rest o → Fits (pairs r) S (follow_parts (pair_list ps) rest) o
pairs_lead [] r S rest o m = enough m
pairs_lead (first ∷ others) r S rest o m =
    to_again written one_pair r Whole _ o (one refl (pair_leads first (pairs r) S _ o (pairs_lead others r S rest o m)))

pub star_leads : (b : Bool) (parts : Parts) (r : Row Form) (S : Rows Form) (rest : List ℕ) (o : ℕ) → Fits r S (follow_parts parts rest) o → Fits (maybe (star_part done) r) S (follow_parts (star b parts) rest) o
star_leads true parts r S rest o m = to_present written (star_part done) r Whole _ o (one refl m)
star_leads false parts r S rest o m = absent m

named_leads : (n : Option Name) (r : Row Form) (S : Rows Form) (rest : List ℕ) (o : ℕ) → Fits r S rest o → Fits (maybe (name done) r) S (follow_parts (optional_name n none) rest) o
named_leads None r S rest o m = absent m
named_leads (Some n) r S rest o m = to_present written (name done) r Whole _ o (one (name_is_one n.text) m)

formal_leads : (f : Formal) (r : Row Form) (S : Rows Form) (rest : List ℕ) (o : ℕ) → Fits r S rest o → Fits (form Form.formal r) S (follow (formal f) rest) o
formal_leads f r S rest o m =
    fold_to written Form.formal 0 refl Whole _ o (one (name_is_one f.kind.text)
    (star_leads f.has_star (optional_name f.name none) (maybe (name done) r) S rest o (named_leads f.name r S rest o m)))

abbrev one_formal : Row Form
one_formal = (comma ▸ of Form.formal) done

more_formals_lead : (fs : List Formal) (r : Row Form) (S : Rows Form) (rest : List ℕ) (o : ℕ) → Fits r S rest o → Fits (many one_formal r) S (follow_parts (more_formals fs) rest) o
more_formals_lead [] r S rest o m = enough m
more_formals_lead (first ∷ others) r S rest o m =
    to_again written one_formal r Whole _ o (one refl (formal_leads first (many one_formal r) S _ o (more_formals_lead others r S rest o m)))

pub formals_lead : (fs : List Formal) (r : Row Form) (S : Rows Form) (rest : List ℕ) (o : ℕ) → Fits r S rest o → Fits (maybe (form Form.formals done) r) S (follow_parts (formal_list fs) rest) o
formals_lead [] r S rest o m = absent m
formals_lead (first ∷ others) r S rest o m =
    to_present written (form Form.formals done) r Whole _ o (fold_to written Form.formals 0 refl Whole _ o
    (formal_leads first (many one_formal r) S _ o (more_formals_lead others r S rest o m)))

-- a name that is no skipped function's, and one that is
pub plain_name_is_one : (n : Name) → is_skipped n ≡ false → has (other_name ∷ machine_type ∷ []) (name_kind n.text) ≡ true
plain_name_is_one n plain =
    cond_both (bytes_eq n.text (codes "MachineType")) machine_type
    (cond (is_skipped n) functional_name other_name)
    (λ kind. has (other_name ∷ machine_type ∷ []) kind ≡ true) (λ is. refl)
    (λ is. subst (λ b. has (other_name ∷ machine_type ∷ []) (cond b functional_name other_name) ≡ true) (sym plain) refl)
