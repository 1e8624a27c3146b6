-- What the arms of the machine do, as steps.
use Rattle.std.proofs.Common.{◌≡◌, ℕ, ℤ, All, Option, None, Some, List, [], ◌∷◌, Result, Ok, Err, IsErrAnd, OnOk, slice_get, unwrap_or, refl, sym, ap, subst, ◌∙◌}
use Rattle.std.proofs.lemmas.List.Elements.{All-nil, All-tail}
use Rattle.std.specs.Borrow.{Bor}
use Rattle.ruby_value.specs.declared.fault.Fault.TheVariants as fault
use Rattle.ruby_value.specs.declared.message.Message.{Message}
use Rattle.ruby_value.specs.declared.value.Ref.{Ref}
use Rattle.ruby_value.specs.declared.value.Value.{Value}
use Rattle.ruby_value.specs.declared.value.Value.TheVariants as value
use Rattle.ctl_face.specs.declared.message_at.MessageAt.{MessageAt}
use Rattle.ctl_face.specs.declared.trouble.Trouble.{Trouble}
use Rattle.ctl_face.specs.declared.trouble.Trouble.TheVariants as trouble
use Rattle.ctl_face.specs.Prelude.{IsPlace, LocalView, message_at}
use Rattle.acts.specs.declared.body_fault.BodyFault.{BodyFault}
use Rattle.acts.specs.declared.body_fault.BodyFault.TheVariants as own
use Rattle.acts.specs.Act as act
use Rattle.acts.specs.Prelude.{Acting, ends, ◌>>=◌, ◌>>◌, DoesAs, act as done, fault_of, given, itself, lent, no_message}
use Rattle.acts.proofs.Walk.{and_does, and_stops, does_ends_as, does_stops, found_does, found_stops, then_does, then_stops}
use Rattle.built_in_acts.specs.Prelude.{argument, difference, field_of, negation, product, reference, sum, with_field}
use Rattle.code_meaning.specs.Prelude.{On, Step, fetched, innermost, multiplied, negated, on_stack, read_of, subtracted, summed, with_number, written}
use Rattle.action_vm.specs.declared.frame.Messages.{Messages}
use Rattle.action_vm.specs.declared.frame.Next.{Next}
use Rattle.action_vm.specs.declared.frame.Next.TheVariants as next
use Rattle.code_frame.specs.Prelude.{IsTopReference, SameRest, Window}
use Rattle.action_vm.specs.Prelude.{HasPlaces, IsOverReference, Own, Popped, fields_at, held_of, on_of, own, step_of}

-- Of one that changes the stack alone, or the messages that are looked at.

pub own_same : (old new : Window) (messages : Messages) → SameRest old new → record (own old messages) { stack = new.stack } ≡ own new messages
own_same old new messages rest = let L : List Value → Own = λ l. record { stack = new.stack; locals = l; inner = messages.inner; made = messages.made } in ap L (sym rest.locals)

pub stack_turn : (q : Acting (List Value)) (r : Result (Unit {0}) Trouble) (o : Result Next Trouble) (old new : Window) (messages : Messages) (v w : LocalView) → DoesAs (λ (x : Unit {0}). new.stack) q r v w → OnOk r (SameRest old new) → o ≡ on_of r
    → DoesAs (step_of v (own new messages)) (on_stack (held_of v (own old messages)) q) o v w
stack_turn q (Ok tt) o old new messages v w does rest is =
    subst (λ z. DoesAs (step_of v (own new messages)) (on_stack (held_of v (own old messages)) q) z v w) (sym is)
    (then_does (λ (x : Unit {0}). new.stack) (step_of v (own new messages)) q (λ s. ends (On (record (held_of v (own old messages)) { stack = s }))) tt (Ok next.On) v w w does
    (does_ends_as (step_of v (own new messages)) (On (record (held_of v (own old messages)) { stack = new.stack })) next.On w (ap (λ f. On (held_of v f)) (sym (own_same old new messages rest)))))
stack_turn q (Err e) o old new messages v w does rest is =
    subst (λ z. DoesAs (step_of v (own new messages)) (on_stack (held_of v (own old messages)) q) z v w) (sym is)
    (then_stops (λ (x : Unit {0}). new.stack) (step_of v (own new messages)) q (λ s. ends (On (record (held_of v (own old messages)) { stack = s }))) e v w w does)

pub under_kept : (r : Result (Unit {0}) Trouble) (o : Result Next Trouble) (old new : Window) → OnOk r (SameRest old new) → o ≡ on_of r → OnOk o (new.under ≡ old.under)
under_kept (Ok tt) o old new rest is = rw is rest.under
under_kept (Err e) o old new rest is = rw is tt

abbrev inner_step : LocalView → Own → Acting (List (List Value)) → Acting Step
inner_step v f q = q >>= (λ ms. ends (On (record (held_of v f) { inner = ms })))

pub inner_turn : (q : Acting (List (List Value))) (r : Result (Unit {0}) Trouble) (o : Result Next Trouble) (f : Own) (inner : List MessageAt) (v w : LocalView) → DoesAs (λ (x : Unit {0}). fields_at v inner) q r v w → o ≡ on_of r
    → DoesAs (step_of v (record f { inner = inner })) (inner_step v f q) o v w
inner_turn q (Ok tt) o f inner v w does is =
    subst (λ z. DoesAs (step_of v (record f { inner = inner })) (inner_step v f q) z v w) (sym is)
    (then_does (λ (x : Unit {0}). fields_at v inner) (step_of v (record f { inner = inner })) q (λ ms. ends (On (record (held_of v f) { inner = ms }))) tt (Ok next.On) v w w does
    (does_ends_as (step_of v (record f { inner = inner })) (On (held_of v (record f { inner = inner }))) next.On w refl))
inner_turn q (Err e) o f inner v w does is =
    subst (λ z. DoesAs (step_of v (record f { inner = inner })) (inner_step v f q) z v w) (sym is)
    (then_stops (λ (x : Unit {0}). fields_at v inner) (step_of v (record f { inner = inner })) q (λ ms. ends (On (record (held_of v f) { inner = ms }))) e v w w does)

pub places_left : (v : LocalView) (r : Option MessageAt) (old new : List MessageAt) → Popped r old new → HasPlaces v old → HasPlaces v new
places_left v None old new left all = subst (All (IsPlace v)) (sym left.1) (All-nil (IsPlace v))
places_left v (Some x) old new left all = All-tail (IsPlace v) x new (subst (All (IsPlace v)) left all)

-- Numbers.

pub put_ok : (old new : List Value) (r : Result ℤ BodyFault) (n : ℤ) (l : LocalView) → r ≡ Ok n → new ≡ value.Int n ∷ old → DoesAs (λ (x : Unit {0}). new) (given (with_number 0 old r)) (Ok tt) l l
unfolding given
put_ok old new r n l is so = rw is (does_ends_as (λ (x : Unit {0}). new) (value.Int n ∷ old) tt l so)

pub put_err : (old new : List Value) (r : Result ℤ BodyFault) (f : BodyFault) (e : Trouble) (l : LocalView) → r ≡ Err f → e ≡ trouble.Fault (fault_of f) → DoesAs (λ (x : Unit {0}). new) (given (with_number 0 old r)) (Err e) l l
unfolding given
put_err old new r f e l is so = rw (is, so) (does_stops (λ (x : Unit {0}). new) f (fault_of f) l l refl)

pub ruleset put_steps = (put_ok, put_err)

off_two : (r : Result ℤ BodyFault) (x y : Value) (rest : List Value) → with_number 0 rest r ≡ with_number 2 (x ∷ y ∷ rest) r
off_two (Ok n) x y rest = refl
off_two (Err f) x y rest = refl

off_one : (r : Result ℤ BodyFault) (x : Value) (rest : List Value) → with_number 0 rest r ≡ with_number 1 (x ∷ rest) r
off_one (Ok n) x rest = refl
off_one (Err f) x rest = refl

two_off : (f : Value → Value → Result ℤ BodyFault) (old mid rest : List Value) (a b : ℤ) (r : Result ℤ BodyFault) → old ≡ value.Int b ∷ mid → mid ≡ value.Int a ∷ rest → r ≡ f (value.Int a) (value.Int b)
    → with_number 0 rest r ≡ with_number 2 old (f (argument old 1) (argument old 0))
two_off f old mid rest a b r first second is =
    ap (with_number 0 rest) is
    ∙ off_two (f (value.Int a) (value.Int b)) (value.Int b) (value.Int a) rest
    ∙ sym (ap (λ (s : List Value). with_number 2 s (f (argument s 1) (argument s 0))) (first ∙ ap (λ (s : List Value). value.Int b ∷ s) second))

module _ (old mid rest new : List Value) (a b : ℤ) (r : Result ℤ BodyFault) (o : Result (Unit {0}) Trouble) (l : LocalView) (first : old ≡ value.Int b ∷ mid) (second : mid ≡ value.Int a ∷ rest)
    (does : DoesAs (λ (x : Unit {0}). new) (given (with_number 0 rest r)) o l l) where
  pub sum_does : r ≡ sum (value.Int a) (value.Int b) → DoesAs (λ (x : Unit {0}). new) (given (summed old)) o l l
  sum_does is = subst (λ q. DoesAs (λ (x : Unit {0}). new) (given q) o l l) (two_off sum old mid rest a b r first second is) does

  pub difference_does : r ≡ difference (value.Int a) (value.Int b) → DoesAs (λ (x : Unit {0}). new) (given (subtracted old)) o l l
  difference_does is = subst (λ q. DoesAs (λ (x : Unit {0}). new) (given q) o l l) (two_off difference old mid rest a b r first second is) does

  pub product_does : r ≡ product (value.Int a) (value.Int b) → DoesAs (λ (x : Unit {0}). new) (given (multiplied old)) o l l
  product_does is = subst (λ q. DoesAs (λ (x : Unit {0}). new) (given q) o l l) (two_off product old mid rest a b r first second is) does

pub negation_does : (old rest new : List Value) (a : ℤ) (r : Result ℤ BodyFault) (o : Result (Unit {0}) Trouble) (l : LocalView) → old ≡ value.Int a ∷ rest → r ≡ negation (value.Int a)
    → DoesAs (λ (x : Unit {0}). new) (given (with_number 0 rest r)) o l l → DoesAs (λ (x : Unit {0}). new) (given (negated old)) o l l
negation_does old rest new a r o l first is does =
    subst (λ q. DoesAs (λ (x : Unit {0}). new) (given q) o l l)
    (ap (with_number 0 rest) is ∙ off_one (negation (value.Int a)) (value.Int a) rest ∙ sym (ap (λ (s : List Value). with_number 1 s (negation (argument s 0))) first)) does

-- Fields of lines.

pub over_reference : (old : List Value) (r : Option Ref) (rest : List Value) → IsTopReference old r rest → IsOverReference old r rest
over_reference [] r rest is = absurd is
over_reference (value.Entry held ∷ s) r rest is = is
over_reference (value.Tbe held ∷ s) r rest is = is
over_reference (v ∷ s) r rest is = absurd is

module _ (f : ℕ) (v w : LocalView) where
  field_does : (x : Value) (r : Ref) (b : Bor Value) → reference x ≡ Some r → DoesAs lent (done (act.Get r f)) (Ok b) v v → DoesAs lent (field_of x f) (Ok b) v v
  unfolding field_of
  field_does x r b is does = found_does lent (λ r. done (act.Get r f)) (reference x) own.Reference r (Ok b) v v is does

  field_fails : (x : Value) (r : Ref) (e : Trouble) → reference x ≡ Some r → DoesAs lent (done (act.Get r f)) (Err e) v v → DoesAs lent (field_of x f) (Err e) v v
  unfolding field_of
  field_fails x r e is does = found_does lent (λ r. done (act.Get r f)) (reference x) own.Reference r (Err e) v v is does

  field_none : (x : Value) (e : Trouble) → reference x ≡ None → e ≡ trouble.Fault fault.Reference → DoesAs lent (field_of x f) (Err e) v v
  unfolding field_of
  field_none x e is so = rw so (found_stops lent (λ r. done (act.Get r f)) (reference x) own.Reference fault.Reference v v is refl)

  pub get_ok : (old rest new : List Value) (r : Ref) (b : Bor Value) → IsOverReference old (Some r) rest → DoesAs lent (done (act.Get r f)) (Ok b) v v → new ≡ b.now ∷ rest
      → DoesAs (λ (x : Unit {0}). new) (fetched f old) (Ok tt) v v
  get_ok [] rest new r b over does is = absurd over
  get_ok (x ∷ s) rest new r b over does is =
      then_does lent (λ (x : Unit {0}). new) (field_of x f) (λ y. ends (y ∷ s)) b (Ok tt) v v v (field_does x r b over.0 does)
      (does_ends_as (λ (x : Unit {0}). new) (b.now ∷ s) tt v (is ∙ ap (λ (t : List Value). b.now ∷ t) (sym over.1)))

  pub get_err : (old rest new : List Value) (r : Ref) (e : Trouble) (o : Result (Unit {0}) Trouble) → IsOverReference old (Some r) rest → DoesAs lent (done (act.Get r f)) (Err e) v v → IsErrAnd o (λ g. g ≡ e)
      → DoesAs (λ (x : Unit {0}). new) (fetched f old) o v v
  get_err old rest new r e (Ok tt) over does is = absurd is
  get_err [] rest new r e (Err g) over does is = absurd over
  get_err (x ∷ s) rest new r e (Err g) over does is = rw is (then_stops lent (λ (x : Unit {0}). new) (field_of x f) (λ y. ends (y ∷ s)) e v v v (field_fails x r e over.0 does))

  pub get_none : (old rest new : List Value) (e : Trouble) → IsOverReference old None rest → e ≡ trouble.Fault fault.Reference → DoesAs (λ (x : Unit {0}). new) (fetched f old) (Err e) v v
  get_none [] rest new e over so = absurd over
  get_none (x ∷ s) rest new e over so = then_stops lent (λ (x : Unit {0}). new) (field_of x f) (λ y. ends (y ∷ s)) e v v v (field_none x e over.0 so)

  set_field_does : (m x : Value) (r : Ref) (o : Result (Unit {0}) Trouble) → reference m ≡ Some r → DoesAs itself (done (act.Set r f x)) o v w → DoesAs itself (with_field m f x) o v w
  unfolding with_field
  set_field_does m x r o is does = found_does itself (λ r. done (act.Set r f x)) (reference m) own.Reference r o v w is does

  set_field_none : (m x : Value) (e : Trouble) → reference m ≡ None → e ≡ trouble.Fault fault.Reference → DoesAs itself (with_field m f x) (Err e) v w
  unfolding with_field
  set_field_none m x e is so = rw so (found_stops itself (λ r. done (act.Set r f x)) (reference m) own.Reference fault.Reference v w is refl)

  set_by : (m x : Value) (s : List Value) (o : Result (Unit {0}) Trouble) → DoesAs itself (with_field m f x) o v w → DoesAs (λ (y : Unit {0}). s) (with_field m f x >> ends s) o v w
  set_by m x s (Ok tt) does = and_does itself (λ (y : Unit {0}). s) (with_field m f x) (ends s) tt (Ok tt) v w w does (does_ends_as (λ (y : Unit {0}). s) s tt w refl)
  set_by m x s (Err e) does = and_stops itself (λ (y : Unit {0}). s) (with_field m f x) (ends s) e v w w does

  written_is : (old mid : List Value) (x m : Value) (s : List Value) → old ≡ x ∷ mid → mid ≡ m ∷ s → written f old ≡ (with_field m f x >> ends s)
  written_is old mid x m s first second = ap (written f) (first ∙ ap (λ (t : List Value). x ∷ t) second)

  pub set_does : (old mid rest : List Value) (x : Value) (r : Ref) (o : Result (Unit {0}) Trouble) → old ≡ x ∷ mid → IsOverReference mid (Some r) rest → DoesAs itself (done (act.Set r f x)) o v w
      → DoesAs (λ (y : Unit {0}). rest) (written f old) o v w
  set_does old [] rest x r o first over does = absurd over
  set_does old (m ∷ s) rest x r o first over does =
      subst (λ q. DoesAs (λ (y : Unit {0}). rest) q o v w) (sym (written_is old (m ∷ s) x m s first refl))
      (subst (λ t. DoesAs (λ (y : Unit {0}). t) (with_field m f x >> ends s) o v w) over.1 (set_by m x s o (set_field_does m x r o over.0 does)))

  pub set_none : (old mid rest : List Value) (x : Value) (e : Trouble) → old ≡ x ∷ mid → IsOverReference mid None rest → e ≡ trouble.Fault fault.Reference
      → DoesAs (λ (y : Unit {0}). rest) (written f old) (Err e) v w
  set_none old [] rest x e first over so = absurd over
  set_none old (m ∷ s) rest x e first over so =
      subst (λ q. DoesAs (λ (y : Unit {0}). rest) q (Err e) v w) (sym (written_is old (m ∷ s) x m s first refl))
      (subst (λ t. DoesAs (λ (y : Unit {0}). t) (with_field m f x >> ends s) (Err e) v w) over.1 (set_by m x s (Err e) (set_field_none m x e over.0 so)))

-- Fields of messages.

pub read_ok : (fields : List Value) (f : ℕ) (x : Value) (old new : List Value) (l : LocalView) → slice_get fields f ≡ Some x → new ≡ x ∷ old → DoesAs (λ (y : Unit {0}). new) (read_of fields f old) (Ok tt) l l
read_ok fields f x old new l is so =
    found_does (λ (y : Unit {0}). new) (λ v. ends (v ∷ old)) (slice_get fields f) own.Reference x (Ok tt) l l is (does_ends_as (λ (y : Unit {0}). new) (x ∷ old) tt l so)

pub read_none : (fields : List Value) (f : ℕ) (old new : List Value) (e : Trouble) (l : LocalView) → slice_get fields f ≡ None → e ≡ trouble.Fault fault.Reference → DoesAs (λ (y : Unit {0}). new) (read_of fields f old) (Err e) l l
read_none fields f old new e l is so = rw so (found_stops (λ (y : Unit {0}). new) (λ v. ends (v ∷ old)) (slice_get fields f) own.Reference fault.Reference l l is refl)

pub open_is : (v : LocalView) (inner : List MessageAt) (at : MessageAt) (m : Message) → Some at ≡ slice_get inner 0 → message_at v at ≡ Some m → innermost (fields_at v inner) ≡ m.fields
open_is v [] at m top is = absurd (cc top)
open_is v (x ∷ inner) at m top is =
    let same : at ≡ x = cc top in
    let there : message_at v x ≡ Some m = subst (λ y. message_at v y ≡ Some m) same is in
    ap (λ (o : Option Message). (unwrap_or o no_message).fields) there
