use Rattle.std.proofs.Common.{◌≡◌, ◌<◌, ◌≤◌, ◌+◌, ◌++◌, ◌∷◌, ◌∙◌, List, [], Some, arith, ap, false, length}
use Rattle.std.proofs.lemmas.List.{length-append}
use Rattle.std.proofs.lemmas.List.Elements.{All-pop}
use Rattle.std.specs.declared.alloc.Global.{Global}
use Rattle.std.specs.declared.vec.Vec.{Vec}
use Rattle.ruby_value.specs.declared.message.Delivery.{Delivery}
use Rattle.ruby_value.specs.declared.message.Message.{Message}
use Rattle.ctl_face.specs.declared.parcel.Parcel.{Parcel}
use Rattle.ctl_face.specs.declared.parcel.Parcel.TheVariants as parcel
use Rattle.ruby_value.specs.declared.value.Value.{Value}
use Rattle.world_state.specs.Prelude.{IsFieldRoom}
use Rattle.world_state.proofs.Asking.{at-seat, no-seat, number-more}
use Rattle.world_state.proofs.requests.Requests.push.Goals as goal

pub returns-in_default-clause-messages : goal.returns-in_default-clause-messages
returns-in_default-clause-messages c =
    let past : length c.args.seats.now ≤ c.args.i.seat = c.in_default.ensures.lookup.3 in
    no-seat c.args.seats.now c.args.i.seat c.args.number c.args.now c.args.i.asked c.args.self.now.messages.items past

pub returns-clause-messages : goal.returns-clause-messages
returns-clause-messages c =
    let seat = c.in-Some.seat.now in
    let lt : c.args.i.seat < length c.args.seats.now = c.in-Some.ensures.lookup.3.0 in
    let old = c.args.self.now.messages.items in
    c.push_reserved-2.ensures.items
    ∙ ap (λ (fields : List Value). old ++ (let d : Delivery Parcel = record { receiver = seat.controller; message = parcel.Message (record { number = c.args.number; buffer = seat.queue; arrival = c.args.now + 1; recycled = false; fields = fields }) } in d) ∷ []) c.request_fields.ensures
    ∙ ap (λ (ds : List (Delivery Parcel)). old ++ ds) (at-seat c.args.seats.now c.args.i.seat seat c.args.number c.args.now c.args.i.asked lt c.in-Some.ensures.lookup.1)

pub returns-clause-room : goal.returns-clause-room
returns-clause-room c =
    λ n has.
    let left = c.pop.new.self.items in
    let popped = All-pop IsFieldRoom c.args.self.now.fields.items left (Some c.in-Some-pop.room) c.in-Some-pop.ensures.items has.fields in
    let shorter : length c.args.self.now.fields.items ≡ length left + 1 =
    ap (λ (xs : List (Vec Value Global)). length xs) c.in-Some-pop.ensures.items ∙ length-append left (c.in-Some-pop.room ∷ []) in
    let m : Message = record { number = c.args.number; buffer = c.in-Some.seat.now.queue; arrival = c.args.now + 1; recycled = false; fields = c.request_fields.result } in
    record {
      fields = popped.0;
      lists = omega (arith, has.lists, shorter);
      messages = omega (arith, has.messages, c.push_reserved-2.ensures.len, c.push_reserved-2.ensures.capacity);
      numbers = omega (arith, has.numbers, c.push_reserved.ensures.len, c.push_reserved.ensures.capacity);
      are_numbers =
          c.push_reserved.ensures.items
          ∙ number-more c.args.self.now.messages.items c.push_reserved-2.new.self.items c.args.self.now.numbers.items c.in-Some.seat.now.controller m has.are_numbers c.push_reserved-2.ensures.items;
    }
