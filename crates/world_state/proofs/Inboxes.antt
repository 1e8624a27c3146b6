-- An inbox to which a message has come.
use Rattle.std.proofs.Common.{◌≢◌, List, Bool, All, sym}
use Rattle.std.proofs.lemmas.List.Elements.{All-append, All-cons, All-filter}
use Rattle.ruby_value.specs.declared.message.Message.{Message}
use Rattle.ruby_value.specs.declared.message.MsgNo.{MsgNo}
use Rattle.ruby_value.specs.Prelude.{inserted, number_before}
use Rattle.ctl_face.specs.Prelude.{with_arrival, with_parcel_arrival, Ctl, InboxMessage}
use Rattle.ctl_face.specs.declared.parcel.Parcel.{Parcel}
use Rattle.ctl_face.specs.declared.parcel.Parcel.TheVariants as parcel
use Rattle.ctl_mail.specs.Prelude.{IsNewIn}
use Rattle.world_state.specs.Arrivals.{HaveOwnNumbers}

all-inserted : {X : Type 0} (P : X → Type 0) (before : X → X → Bool) (items : List X) (item : X) → All P items → P item → All P (inserted before items item)
all-inserted P before items item all holds =
    All-append P _ _ (All-filter (λ o. before o item) P items all) (All-cons P item _ holds (All-filter (λ o. before item o) P items all))

-- a number that was new, and isn't the message's, still is
pub still-new : (x : Ctl) (m : Message) (n : MsgNo) → n ≢ m.number → IsNewIn x.mail n → IsNewIn (with_arrival x m).mail n
still-new x m n differ new =
    all-inserted (λ (o : InboxMessage). o.message.number ≢ n) (λ (a b : InboxMessage). number_before a.message.number b.message.number) x.mail.inbox _ new
    (λ same. differ (sym same))

-- so it is after a parcel that isn't a message of this number
pub still-new-after : (x : Ctl) (p : Parcel) (m : Message) → HaveOwnNumbers p (parcel.Message m) → IsNewIn x.mail m.number → IsNewIn (with_parcel_arrival x p).mail m.number
still-new-after x (parcel.Message n) m differ new = still-new x n m.number (λ same. differ (sym same)) new
still-new-after x (parcel.Credit c) m differ new = new
