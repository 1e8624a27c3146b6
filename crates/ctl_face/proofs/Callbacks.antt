-- What holds of a lawful local holds after a callback and after a state is set.
use Rattle.std.proofs.Common.{◌≡◌, ℕ, ◌≤◌, Bool, true, false, IfNone, IfSome, IsSome, refl, subst, arith, Option, None, Some, Result, Ok, Err}
use Rattle.std.proofs.lemmas.Bool.{leb-true, ltb-true}
use Rattle.std.specs.Bool.{nat_lt, nat_le}
use Rattle.ruby_value.specs.declared.asked.Answer.{Answer}
use Rattle.ruby_value.specs.declared.asked.Asked.{Asked}
use Rattle.ruby_value.specs.declared.fault.Fault.TheVariants.{Callback}
use Rattle.ruby_value.specs.declared.value.Block.{Block}
use Rattle.ruby_value.proofs.Ordered.{All-insert, AllPairs-insert}
use Rattle.ruby_value.specs.Callback as callback
use Rattle.ruby_value.specs.Prelude.{after_answer, finish_read, finish_write, is_store, stored_block, requests_with_answer, request_for, Requests, FitsRequests, IsRequest, IsLine}
use Rattle.ruby_value.specs.declared.asked.BackFault.{BackFault}
use Rattle.ruby_value.specs.declared.asked.BackFault.TheVariants.{NoRequest, WrongKind}
use Rattle.ctl_face.specs.Prelude.{after_callback, called_back, read_back, write_back, FitsSequencer, ScanFits, LocalView, HasStates, set_state}
use Rattle.ctl_face.proofs.Cases.{Good, good_ok, good_err, good_cond}
use Rattle.ctl_face.proofs.Maps.{insert_keeps, remove_keeps}

abbrev NoLater : Answer → Answer → Type 0
NoLater a b = a.asked.line ≤ b.asked.line

abbrev Answers : Answer → Type 0
Answers a = IsRequest a.asked

-- what is outstanding under a line asks for bytes of it
abbrev pub Outstanding : ℕ → Asked → Type 0
Outstanding line a = (a.line ≡ line) × IsRequest a

finished_fits : (r : Requests) (line : ℕ) (a : Answer) → IsRequest a.asked → FitsRequests r → FitsRequests (requests_with_answer r line a)
finished_fits r line a is fits =
    let before = λ (o : Answer). nat_le o.asked.line a.asked.line in
    let after = λ (o : Answer). nat_lt a.asked.line o.asked.line in
    record {
      outstanding = remove_keeps Outstanding r.outstanding line fits.outstanding;
      finished = All-insert Answers before after a r.finished fits.finished is;
      finished_ascend = AllPairs-insert NoLater (λ o p q first second. omega arith) before after a (λ o. leb-true o.asked.line a.asked.line) (λ o test. let later = ltb-true a.asked.line o.asked.line test in omega arith) r.finished fits.finished_ascend;
    }

sequencer_fits : (has : Bool) (r s : Requests) → (FitsRequests r → FitsRequests s) → FitsSequencer has (Some r) → FitsSequencer has (Some s)
sequencer_fits true r s keeps fits = keeps fits
sequencer_fits false r s keeps fits = fits

-- a callback keeps what holds of requests
module _ (r : Requests) (line : ℕ) (block : Block) (fits : FitsRequests r) where
  answer_fits : (asked : Asked) (with : Block) → request_for r line ≡ Some asked → FitsRequests (after_answer r line asked with)
  answer_fits asked with is = finished_fits r line (record { asked = asked; block = with }) (let Q : Option Asked → Type 0 = λ o. IfSome o (Outstanding line) in subst Q is (fits.outstanding line)).1 fits

  pub read_fits : Good FitsRequests (callback.read_back r line block)
  read_fits = go (request_for r line) refl
    where
      go : (o : Option Asked) → request_for r line ≡ o → Good FitsRequests (finish_read r line block o)
      go None is = good_err FitsRequests NoRequest
      go (Some asked) is =
          good_cond FitsRequests (is_store asked.kind) (Err WrongKind) (Ok (after_answer r line asked block)) (λ _. good_err FitsRequests WrongKind)
          (λ _. good_ok FitsRequests (after_answer r line asked block) (answer_fits asked block is))

  pub write_fits : Good FitsRequests (callback.write_back r line block)
  write_fits = go (request_for r line) refl
    where
      go : (o : Option Asked) → request_for r line ≡ o → Good FitsRequests (finish_write r line block o)
      go None is = good_err FitsRequests NoRequest
      go (Some asked) is =
          let stored = stored_block asked block in
          good_cond FitsRequests (is_store asked.kind) (Ok (after_answer r line asked stored)) (Err WrongKind)
          (λ _. good_ok FitsRequests (after_answer r line asked stored) (answer_fits asked stored is)) (λ _. good_err FitsRequests WrongKind)

-- the sequencer with other requests
pub with_requests_fits : (v : LocalView) (requests : Option Requests) → FitsSequencer v.machine.has_sequencer requests → ScanFits v → ScanFits (record v { ctl = record v.ctl { sequencer = requests } })
with_requests_fits v requests here lawful = record {
  machine = lawful.machine;
  routes = lawful.routes;
  now = lawful.now;
  start = lawful.start;
  fits = record { tables = lawful.fits.tables; mail = lawful.fits.mail; sequencer = here };
}

called_keeps : (v : LocalView) (call : Requests → Result Requests BackFault) → ((r : Requests) → FitsRequests r → Good FitsRequests (call r))
    → (requests : Option Requests) → FitsSequencer v.machine.has_sequencer requests → ScanFits v → Good ScanFits (called_back v call requests)
called_keeps v call keeps None fits lawful = good_err ScanFits Callback
called_keeps v call keeps (Some r) fits lawful = go (call r) (λ has. keeps r has)
  where
    go : (o : Result Requests BackFault) → (FitsRequests r → Good FitsRequests o) → Good ScanFits (after_callback v o)
    go (Err fault) good = good_err ScanFits Callback
    go (Ok after) good =
        good_ok ScanFits (record v { ctl = record v.ctl { sequencer = Some after } })
        (with_requests_fits v (Some after) (sequencer_fits v.machine.has_sequencer r after (λ has. (good has).good after refl) fits) lawful)

pub read_back_keeps : (v : LocalView) (line : ℕ) (block : Block) → ScanFits v → Good ScanFits (read_back v line block)
read_back_keeps v line block lawful = called_keeps v (λ r. callback.read_back r line block) (λ r. read_fits r line block) v.ctl.sequencer lawful.fits.sequencer lawful

pub write_back_keeps : (v : LocalView) (line : ℕ) (block : Block) → ScanFits v → Good ScanFits (write_back v line block)
write_back_keeps v line block lawful = called_keeps v (λ r. callback.write_back r line block) (λ r. write_fits r line block) v.ctl.sequencer lawful.fits.sequencer lawful

abbrev StateOfLine : ℕ → ℕ → Type 0
StateOfLine line state = IsLine line

-- a machine that has the built-in map
with_states : (default : Option ℕ) (X : Type 0) → IsSome default → IfNone default X
with_states None X has = absurd (cc has)
with_states (Some state) X has = tt

pub set_state_keeps : (v : LocalView) (line state : ℕ) → HasStates v → IsLine line → ScanFits v → ScanFits (set_state v line state)
set_state_keeps v line state has is lawful = record {
  machine = lawful.machine;
  routes = lawful.routes;
  now = lawful.now;
  start = lawful.start;
  fits = record {
    tables = record { each = lawful.fits.tables.each; lines = insert_keeps StateOfLine v.ctl.states line state lawful.fits.tables.lines is; no_states = with_states v.machine.default_state _ has };
    mail = lawful.fits.mail;
    sequencer = lawful.fits.sequencer;
  };
}
