-- A move in its place among those that a scan has made, and a last arrival in its place among those that it has written.
use Rattle.std.proofs.Common.{◌≡◌, ◌≢◌, ◌<◌, ◌-◌, ℕ, suc, false, Option, None, Some, Result, Ok, Err, OnOk, is_err, List, [], ◌∷◌, get_or, set, insert, drop, length, refl, sym, ap, subst, ◌∙◌, arith}
use Rattle.std.proofs.lemmas.List.{get_or_default}
use Rattle.ruby_value.specs.declared.message.MsgNo.{MsgNo}
use Rattle.ruby_value.specs.Prelude.{same_number}
use Rattle.stall_map.specs.Prelude.{IsSplit}
use Rattle.ctl_mail.specs.declared.last_arrivals.LastArrival.{LastArrival}
use Rattle.ctl_mail.specs.declared.moves.Move.{Move}
use Rattle.ctl_mail.specs.Log.{ArrivalsRise, kept_at, newer_network, pair_of, place_of, with_written}
use Rattle.ctl_mail.specs.Moves.{MovesRise, waiting_after, with_move}
use Rattle.ctl_mail.specs.declared.act.MailAct.TheVariants.{NetworkLast}
use Rattle.ctl_mail.proofs.Numbered.{found-at, found-none, found-with, later-differ, none-same, put-again, put-new, rise-with}

pub ok-holds : {A E P : Type 0} (r : Result A E) → is_err r ≡ false → OnOk r P → P
ok-holds (Ok a) fine holds = holds
ok-holds (Err e) fine holds = absurd (cc fine)

abbrev number_of : Move → MsgNo
number_of m = m.number

pub with-rises : (moves : List Move) (number : MsgNo) (line : Option ℕ) → MovesRise moves → MovesRise (with_move moves number line)
unfolding with_move
with-rises moves number line rise = rise-with number_of moves (record { number = number; line = line }) rise

-- no moves change where a message waits
pub waiting-none : (number : MsgNo) (moves : List Move) (before : Option ℕ) → length moves ≡ 0 → before ≡ waiting_after number moves before
unfolding waiting_after
waiting-none number [] before none = refl
waiting-none number (m ∷ moves) before none = absurd (omega (arith, none))

module _ (moves : List Move) (number : MsgNo) (line : Option ℕ) (at : ℕ) (rise : MovesRise moves) (split : IsSplit number_of number moves at) where
  -- the move of this number is the last of those up to it
  module _ (x : Move) (positive : 0 < at) (it : x ≡ get_or moves (at - 1) x) (is : x.number ≡ number) where
    same : (d : Move) → (get_or moves (at - 1) d).number ≡ number
    same d = ap number_of (get_or_default moves (at - 1) d x (omega (arith, split.within)) ∙ sym it) ∙ is

    pub moved-again : set moves (at - 1) (record { number = number; line = line }) ≡ with_move moves number line
    unfolding with_move
    moved-again = put-again number_of moves number at rise split positive same (record { number = number; line = line }) refl

    pub waiting-there : (before : Option ℕ) → x.line ≡ waiting_after number moves before
    unfolding waiting_after
    waiting-there before =
        ap (λ (m : Move). m.line) it
        ∙ sym (found-at number_of (λ (m : Move). m.line) number moves before (at - 1) x (omega (arith, split.within)) (same x)
        (subst (λ k. (i : ℕ) (d : Move) → i < length (drop k moves) → same_number (number_of (get_or (drop k moves) i d)) number ≡ false) (next at positive)
        (later-differ number_of moves number at rise split positive same)))
      where
        next : (at : ℕ) → 0 < at → at ≡ suc (at - 1)
        next at positive = omega arith

  -- no move has this number
  module _ (apart : (d : Move) → 0 < at → (get_or moves (at - 1) d).number ≢ number) where
    pub moved-new : insert moves at (record { number = number; line = line }) ≡ with_move moves number line
    unfolding with_move
    moved-new = put-new number_of moves number at rise split apart (record { number = number; line = line }) refl

    pub waiting-not-there : (before : Option ℕ) → before ≡ waiting_after number moves before
    unfolding waiting_after
    waiting-not-there before = sym (found-none number_of (λ (m : Move). m.line) number moves before (none-same number_of moves number at rise split apart))

abbrev value_of : LastArrival → Option ℕ
value_of l = Some l.arrival

pub written-rises : (arrivals : List LastArrival) (l : LastArrival) → ArrivalsRise arrivals → ArrivalsRise (with_written arrivals l)
unfolding with_written
written-rises arrivals l rise = rise-with place_of arrivals l rise

-- one that is written is what is kept at its receiver
pub kept-with : (network receiver : ℕ) (arrivals : List LastArrival) (l : LastArrival)
    → kept_at network receiver (with_written arrivals l) ≡ newer_network network receiver (kept_at network receiver arrivals) (NetworkLast l.network l.receiver l.arrival)
unfolding kept_at with_written
kept-with network receiver arrivals l = found-with place_of value_of (pair_of network receiver) arrivals l None

module _ (arrivals : List LastArrival) (pair : MsgNo) (at : ℕ) (rise : ArrivalsRise arrivals) (split : IsSplit place_of pair arrivals at) where
  -- the one of this receiver is the last of those up to it
  module _ (x : LastArrival) (positive : 0 < at) (it : x ≡ get_or arrivals (at - 1) x) (is : place_of x ≡ pair) where
    same-place : (d : LastArrival) → place_of (get_or arrivals (at - 1) d) ≡ pair
    same-place d = ap place_of (get_or_default arrivals (at - 1) d x (omega (arith, split.within)) ∙ sym it) ∙ is

    pub written-again : (l : LastArrival) → place_of l ≡ pair → set arrivals (at - 1) l ≡ with_written arrivals l
    unfolding with_written
    written-again l here = put-again place_of arrivals pair at rise split positive same-place l here

    pub kept-there : Some x.arrival ≡ kept_at pair.sender pair.count arrivals
    unfolding kept_at
    kept-there =
        ap value_of it
        ∙ sym (found-at place_of value_of pair arrivals None (at - 1) x (omega (arith, split.within)) (same-place x)
        (subst (λ k. (i : ℕ) (d : LastArrival) → i < length (drop k arrivals) → same_number (place_of (get_or (drop k arrivals) i d)) pair ≡ false) (next at positive)
        (later-differ place_of arrivals pair at rise split positive same-place)))
      where
        next : (at : ℕ) → 0 < at → at ≡ suc (at - 1)
        next at positive = omega arith

  -- none is of this receiver
  module _ (apart : (d : LastArrival) → 0 < at → place_of (get_or arrivals (at - 1) d) ≢ pair) where
    pub written-new : (l : LastArrival) → place_of l ≡ pair → insert arrivals at l ≡ with_written arrivals l
    unfolding with_written
    written-new l here = put-new place_of arrivals pair at rise split apart l here

    pub not-kept : None ≡ kept_at pair.sender pair.count arrivals
    unfolding kept_at
    not-kept = sym (found-none place_of value_of pair arrivals None (none-same place_of arrivals pair at rise split apart))
