-- A controller as a run begins fits its machine.
use Rattle.std.proofs.Common.{◌≡◌, ℕ, zero, suc, ◌≤◌, Bool, true, false, List, [], ◌∷◌, map, All, IsTrue, IfNone, IfSome, Option, None, Some, refl, arith, slice_get}
use Rattle.std.proofs.lemmas.List.{length-replicate}
use Rattle.std.proofs.lemmas.List.Elements.{All-nil, All-head, All-tail, All-replicate}
use Rattle.std.specs.FinMap.{empty, get, get-empty, len-empty}
use Rattle.std.specs.Ordering.{nat_cmp}
use Rattle.ruby_value.specs.declared.asked.Answer.{Answer}
use Rattle.ruby_value.specs.declared.kind.Kind.{Kind}
use Rattle.ruby_value.specs.declared.value.Value.{Value}
use Rattle.ruby_value.proofs.CacheEdits.{empty_cache}
use Rattle.ruby_value.proofs.Ordered.{AllPairs-nil}
use Rattle.ruby_value.specs.declared.setup.MachineSetup.{MachineSetup}
use Rattle.ruby_value.specs.declared.setup.TableSetup.{TableSetup}
use Rattle.ruby_value.specs.declared.setup.TableSize.{TableSize}
use Rattle.ruby_value.specs.declared.setup.TableSize.TheVariants as size
use Rattle.ctl_face.specs.declared.parcel.Lent.{Lent}
use Rattle.ctl_face.specs.Prelude.{InboxMessage, Fits, FitsLine, FitsLines, FitsMessage, FitsSequencer, FitsTableAt, IsOfSize, HasPlaces, IsMachine, IsTableSetup, network_count, opening_table, no_requests, opening_ctl}
use Rattle.ruby_value.specs.Prelude.{IsLine, IsRequest, has_kinds, number_before}
use Rattle.ctl_face.proofs.Callbacks.{Outstanding}

none_kept : {X : Type 0} (P : ℕ → X → Type 0) (line : ℕ) → IfSome (get (empty {X = X} {R = nat_cmp}) line) (P line)
none_kept P line = rw (get-empty nat_cmp line) tt

opened_size : (z : TableSize) (initial : List Value) → HasPlaces z → IsOfSize z initial (opening_table z initial)
opened_size (size.Cache sets ways) initial places = (empty_cache ways sets (omega arith) (omega arith), refl, length-replicate sets [])
opened_size size.Directory initial places = refl
opened_size (size.Tbe entries) initial places = (refl, rw (len-empty nat_cmp (List Value)) (omega arith))
opened_size size.Parameters initial places = tt

opened_lines : (z : TableSize) (kinds : List Kind) (initial : List Value) → IsTrue (has_kinds kinds initial) → FitsLines kinds (opening_table z initial)
opened_lines (size.Cache sets ways) kinds initial here = All-replicate (All (FitsLine kinds)) sets [] (All-nil (FitsLine kinds))
opened_lines size.Directory kinds initial here = (here, none_kept (λ line fields. FitsLine kinds (line, fields)))
opened_lines (size.Tbe entries) kinds initial here = none_kept (λ line fields. FitsLine kinds (line, fields))
opened_lines size.Parameters kinds initial here = here

opened_fits : (tables : List TableSetup) → All (IsTableSetup) tables → (j : ℕ) → FitsTableAt (slice_get tables j) (slice_get (map (λ (s : TableSetup). opening_table s.size s.initial) tables) j)
opened_fits [] all j = tt
opened_fits (s ∷ tables) all zero =
    let first = All-head (IsTableSetup) s tables all in
    record { size = opened_size s.size s.initial first.places; lines = opened_lines s.size s.kinds s.initial first.initial }
opened_fits (s ∷ tables) all (suc j) = opened_fits tables (All-tail (IsTableSetup) s tables all) j

no_requests_fit : (has : Bool) → FitsSequencer has (no_requests has)
no_requests_fit false = tt
no_requests_fit true = record {
  outstanding = none_kept Outstanding;
  finished = All-nil (λ (a : Answer). IsRequest a.asked);
  finished_ascend = AllPairs-nil (λ (a b : Answer). a.asked.line ≤ b.asked.line);
}

opened_states : (default : Option ℕ) → IfNone default (empty {X = ℕ} {R = nat_cmp} ≡ empty)
opened_states None = refl
opened_states (Some state) = tt

pub opening_fits : (machine : MachineSetup) (me now : ℕ) → IsMachine machine → Fits machine me (opening_ctl machine) now
opening_fits machine me now lawful = record {
  tables = record { each = opened_fits machine.tables lawful.tables; lines = none_kept (λ line state. IsLine line); no_states = opened_states machine.default_state };
  mail = record {
    inbox_ascends = AllPairs-nil (λ (a b : InboxMessage). IsTrue (number_before a.message.number b.message.number));
    messages = All-nil (FitsMessage machine.buffers me 0);
    marks_ascend = λ k within. absurd (omega arith);
    networks = length-replicate network_count (empty {K = ℕ} {X = ℕ} {R = nat_cmp});
    copies = omega arith;
    sent = omega arith;
    drawn = omega arith;
    lent = All-nil (λ (l : Lent). l.count ≤ 0);
  };
  sequencer = no_requests_fit machine.has_sequencer;
}
