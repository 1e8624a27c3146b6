-- When kinds are the same, and tables and buffers what is declared.
use Rattle.std.proofs.Common.{◌≡◌, ℕ, zero, suc, true, List, [], ◌∷◌, slice_get, refl, ap, ◌∙◌, eqb-true}
use Rattle.ruby_value.specs.declared.kind.Kind.{Kind}
use Rattle.ruby_value.specs.declared.kind.Kind.TheVariants as kind
use Rattle.ruby_value.specs.Prelude.{equal_kinds}
use Rattle.ruby_value.specs.declared.setup.BufferSetup.{BufferSetup}
use Rattle.ruby_value.specs.declared.setup.TableSetup.{TableSetup}
use Rattle.action_code.specs.declared.program.BufferDecl.{BufferDecl}
use Rattle.action_code.specs.declared.program.Program.{Program}
use Rattle.action_code.specs.declared.program.TableDecl.{TableDecl}
use Rattle.code_meaning.specs.Prelude.{IsBuffer, IsBufferAt, IsTable, IsTableAt}
use Rattle.part_rows.specs.Kinds.{default_number}

pub same_kind : (a b : Kind) → equal_kinds a b ≡ true → default_number a ≡ default_number b → a ≡ b
same_kind kind.Bool kind.Bool same default = refl
same_kind kind.Int kind.Int same default = refl
same_kind (kind.Enum a m) (kind.Enum b n) same default = ap (λ (x : ℕ). kind.Enum x m) (eqb-true a b same) ∙ ap (kind.Enum b) default
same_kind kind.Addr kind.Addr same default = refl
same_kind kind.Machine kind.Machine same default = refl
same_kind kind.Dest kind.Dest same default = refl
same_kind kind.Block kind.Block same default = refl
same_kind (kind.Entry a) (kind.Entry b) same default = ap kind.Entry (eqb-true a b same)
same_kind (kind.Tbe a) (kind.Tbe b) same default = ap kind.Tbe (eqb-true a b same)
same_kind a b same default = absurd (cc same)

-- Tables and buffers, one more of each.

pub tables_more : (p : Program) (t : TableDecl) (s : TableSetup) (ts : List TableDecl) (ss : List TableSetup) → IsTable p t s
    → ((n : ℕ) → IsTableAt p (slice_get ts n) (slice_get ss n)) → (n : ℕ) → IsTableAt p (slice_get (t ∷ ts) n) (slice_get (s ∷ ss) n)
tables_more p t s ts ss is are zero = is
tables_more p t s ts ss is are (suc n) = are n

pub no_tables : (p : Program) (ts : List TableDecl) (ss : List TableSetup) → ts ≡ [] → ss ≡ [] → (n : ℕ) → IsTableAt p (slice_get ts n) (slice_get ss n)
no_tables p [] [] none_there none n = tt
no_tables p (t ∷ ts) ss none_there none n = absurd (cc none_there)
no_tables p [] (s ∷ ss) none_there none n = absurd (cc none)

pub buffers_more : (p : Program) (b : BufferDecl) (s : BufferSetup) (bs : List BufferDecl) (ss : List BufferSetup) → IsBuffer p b s
    → ((n : ℕ) → IsBufferAt p (slice_get bs n) (slice_get ss n)) → (n : ℕ) → IsBufferAt p (slice_get (b ∷ bs) n) (slice_get (s ∷ ss) n)
buffers_more p b s bs ss is are zero = is
buffers_more p b s bs ss is are (suc n) = are n

pub no_buffers : (p : Program) (bs : List BufferDecl) (ss : List BufferSetup) → bs ≡ [] → ss ≡ [] → (n : ℕ) → IsBufferAt p (slice_get bs n) (slice_get ss n)
no_buffers p [] [] none_there none n = tt
no_buffers p (b ∷ bs) ss none_there none n = absurd (cc none_there)
no_buffers p [] (s ∷ ss) none_there none n = absurd (cc none)
