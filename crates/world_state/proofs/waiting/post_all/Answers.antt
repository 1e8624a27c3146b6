use Rattle.std.proofs.Common.{◌≡◌, ◌+◌, ◌++◌, ◌∷◌, ◌∙◌, ℕ, List, ap, arith, reverse, subst, sym, vec_len}
use Rattle.ruby_value.specs.declared.message.Delivery.{Delivery}
use Rattle.ctl_face.specs.declared.parcel.Parcel.{Parcel}
use Rattle.protocol_runs.specs.Prelude.{messages_for}
use Rattle.world_state.specs.Prelude.{HasRoomToPost, waiting_at}
use Rattle.world_state.proofs.ArrivingAt.{newest}
use Rattle.world_state.proofs.Posted.{first-room, posted-more, rest-room}
use Rattle.world_state.proofs.waiting.post_all.Goals as goal

pub post_one-requires : goal.post_one-requires
post_one-requires c =
    let cases = c.in-Some.ensures.cases in
    let left = c.pop.new.self.items in
    first-room c.loop-d.waiting.items (vec_len c.loop-d.newest_first) c.in-Some.d (reverse left)
    (omega arith)
    (subst (λ (ds : List (Delivery Parcel)). HasRoomToPost (vec_len c.loop-d.newest_first) ds c.loop-d.waiting.items)
    (newest c.loop-d.newest_first.items left c.in-Some.d c.in-Some.ensures.items) c.loop-d.invariant.room)

pub loop-d-preserved : goal.loop-d-preserved
loop-d-preserved c =
    let cases = c.in-Some.ensures.cases in
    let left = c.pop.new.self.items in
    let lists = c.loop-d.waiting.items in
    let more : vec_len c.loop-d.newest_first ≡ vec_len c.pop.new.self + 1 = omega arith in
    let back : reverse c.loop-d.newest_first.items ≡ c.in-Some.d ∷ reverse left = newest c.loop-d.newest_first.items left c.in-Some.d c.in-Some.ensures.items in
    record {
      count = c.post_one.ensures.count ∙ c.loop-d.invariant.count;
      room =
          c.post_one.ensures.room (vec_len c.pop.new.self) (reverse left)
          (rest-room lists (vec_len c.pop.new.self + 1) c.in-Some.d (reverse left)
          (subst (λ (ds : List (Delivery Parcel)). HasRoomToPost (vec_len c.pop.new.self + 1) ds lists) back
          (subst (λ (n : ℕ). HasRoomToPost n (reverse c.loop-d.newest_first.items) lists) more c.loop-d.invariant.room)));
      after = λ k.
          posted-more (waiting_at c.post_one.new.waiting.items k) (waiting_at lists k) k c.in-Some.d (reverse left) (c.post_one.ensures.after k)
          ∙ sym (ap (λ (ds : List (Delivery Parcel)). waiting_at lists k ++ messages_for k ds) back)
          ∙ c.loop-d.invariant.after k;
    }
