use Rattle.std.proofs.Common.{◌≡◌, ◌≤◌, ◌∙◌, List, ap, arith, length}
use Rattle.ruby_value.specs.declared.message.Delivery.{Delivery}
use Rattle.ctl_face.specs.declared.parcel.Parcel.{Parcel}
use Rattle.ruby_value.specs.declared.message.MsgNo.{MsgNo}
use Rattle.ctl_face.specs.Prelude.{Ctl}
use Rattle.protocol_runs.specs.World as runs
use Rattle.sequencer.specs.Prelude.{Drive, after_drive}
use Rattle.world_state.specs.Prelude.{delivered, places_with, seated, setups_in, numbers_of, requests_in}
use Rattle.world_state.proofs.Asking.{few-messages, numbers-count}
use Rattle.world_state.proofs.Driven.{room-fewer}
use Rattle.world_state.proofs.driving.act.Goals as goal

pub overflow_add-st : goal.overflow_add-st
overflow_add-st g c =
    let st = c.args.st.now in
    let seats = c.args.seats.now in
    let owned = c.args.ready.owned in
    let d : Drive g.row.D.Denot = g.D.Driver.drive st.driver owned.kept.seats st.now in
    let requests : List (Delivery Parcel) = requests_in seats st d in
    let acted = c.act_at_seats-finding.ensures in
    let number : length c.into_parts-messages.result.1 ≡ length requests =
    ap (λ (ns : List MsgNo). length ns) (c.into_parts-messages.ensures.numbers ∙ acted.numbers ∙ ap (λ (ms : List (Delivery Parcel)). numbers_of ms) acted.messages)
    ∙ numbers-count (setups_in seats) (length st.places.items) st.issued st.now d.issued in
    let few = few-messages (setups_in seats) (length st.places.items) st.issued st.now d.issued in
    omega (arith, number, few, c.len.ensures, acted.back.issued, c.requires.ready.issued, c.requires.ready.lawful.few)

pub deliver-requires-clause-room : goal.deliver-requires-clause-room
deliver-requires-clause-room g c =
    let st = c.args.st.now in
    let seats = c.args.seats.now in
    let owned = c.args.ready.owned in
    let d : Drive g.row.D.Denot = g.D.Driver.drive st.driver owned.kept.seats st.now in
    let acted = c.act_at_seats-finding.ensures in
    let count = ap (λ (ms : List (Delivery Parcel)). length ms) (c.into_parts-messages.ensures.messages ∙ acted.messages) in
    let few = few-messages (setups_in seats) (length st.places.items) st.issued st.now d.issued in
    let fewer : length c.into_parts-messages.result.0 ≤ owned.room = omega (arith, count, few, c.requires.ready.lawful.few) in
    λ some.
    room-fewer owned.room (length c.into_parts-messages.result.0) c.act_at_seats-finding.new.st.places.items fewer
    (acted.room owned.room (c.requires.room.places (omega (arith, some, fewer))))

pub returns-clause-acted : goal.returns-clause-acted
returns-clause-acted g c =
    let st = c.args.st.now in
    let seats = c.args.seats.now in
    let owned = c.args.ready.owned in
    let d : Drive g.row.D.Denot = g.D.Driver.drive st.driver owned.kept.seats st.now in
    let requests : List (Delivery Parcel) = requests_in seats st d in
    let acted = c.act_at_seats-finding.ensures in
    let messages = c.into_parts-messages.ensures.messages ∙ acted.messages in
    let number : length c.into_parts-messages.result.1 ≡ length requests =
    ap (λ (ns : List MsgNo). length ns) (c.into_parts-messages.ensures.numbers ∙ acted.numbers ∙ ap (λ (ms : List (Delivery Parcel)). numbers_of ms) acted.messages)
    ∙ numbers-count (setups_in seats) (length st.places.items) st.issued st.now d.issued in
    record {
      driver = acted.back.driver;
      next = acted.back.next;
      places = λ x.
          c.deliver.ensures.places x
          ∙ ap (λ (ps : List (runs.Place Ctl)). delivered ps c.into_parts-messages.result.0) (acted.back.places x)
          ∙ ap (λ (ms : List (Delivery Parcel)). delivered (seated seats (places_with x st.places.items) (after_drive owned.kept d).seats) ms) messages;
      made = c.deliver.ensures.made ∙ acted.back.made;
      now = acted.back.now;
      issued = omega (arith, number, c.len.ensures, acted.back.issued);
      verdict = acted.back.verdict;
      book = acted.back.book;
    }
