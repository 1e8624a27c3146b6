use Rattle.std.proofs.Common.{◌∙◌, List, ap, arith, subst, sym}
use Rattle.ruby_value.specs.declared.message.Delivery.{Delivery}
use Rattle.ctl_face.specs.declared.parcel.Parcel.{Parcel}
use Rattle.sequencer.specs.Prelude.{Drive}
use Rattle.world_state.specs.Prelude.{CanArrive, numbers_of}
use Rattle.world_state.proofs.Driven.{act-is, can-end, is-driven, may-act, requests-same, seated-same}
use Rattle.world_state.proofs.driving.drive.Goals as goal

pub act-requires-clause-ready : goal.act-requires-clause-ready
act-requires-clause-ready g c κs within =
    let can = c.requires in
    let seats = c.args.seats.now in
    let old = c.args.st.now in
    let mid = c.prepare.new.st in
    let owned = c.in_ok-ready.ready.owned in
    let held = can.can.held in
    let is_ready = c.seats_are_ready.ensures can.cycles seats old can.can in
    let out = c.in_ok-ready.ensures.out in
    let d : Drive g.row.D.Denot = g.D.Driver.drive mid.driver owned.kept.seats mid.now in
    let act = act-is g.D.Driver.least g.D.Driver.needs g.D.Driver.drive seats held old mid owned is_ready out in
    may-act g.D.Driver.least g.D.Driver.needs g.D.Driver.drive seats held old mid owned is_ready out c.in_ok-ready.ensures.room.few c.in_ok-ready.ensures.reserved
    (c.drives_are_lawful.ensures.seats seats held old d) (c.drives_are_lawful.ensures.kept seats held old d) (c.drives_are_lawful.ensures.issued can.cycles seats old d can.can act)
    (c.drives_are_lawful.ensures.few can.cycles seats old d can.can act) (c.drives_are_lawful.ensures.finding can.cycles seats old d can.can act)

pub act-requires-clause-come : goal.act-requires-clause-come
act-requires-clause-come g c κs within =
    let can = c.requires in
    let seats = c.args.seats.now in
    let old = c.args.st.now in
    let mid = c.prepare.new.st in
    let owned = c.in_ok-ready.ready.owned in
    let held = can.can.held in
    let is_ready = c.seats_are_ready.ensures can.cycles seats old can.can in
    let out = c.in_ok-ready.ensures.out in
    let d : Drive g.row.D.Denot = g.D.Driver.drive mid.driver owned.kept.seats mid.now in
    let act = act-is g.D.Driver.least g.D.Driver.needs g.D.Driver.drive seats held old mid owned is_ready out in
    λ places seated made.
    subst (λ (ms : List (Delivery Parcel)). CanArrive places ms)
    (sym (requests-same g.D.Driver.least g.D.Driver.needs g.D.Driver.drive seats held old mid owned is_ready out))
    (c.requests_can_arrive.ensures can.cycles seats old d places can.can act
    (λ x. seated x ∙ seated-same g.D.Driver.least g.D.Driver.needs g.D.Driver.drive seats held old mid owned is_ready out (c.drives_are_lawful.ensures.seats seats held old d) x)
    (made ∙ out.made))

pub returns-clause-driven : goal.returns-clause-driven
returns-clause-driven g c =
    let can = c.requires in
    let seats = c.args.seats.now in
    let old = c.args.st.now in
    let mid = c.prepare.new.st in
    let owned = c.in_ok-ready.ready.owned in
    let held = can.can.held in
    let is_ready = c.seats_are_ready.ensures can.cycles seats old can.can in
    let out = c.in_ok-ready.ensures.out in
    let d : Drive g.row.D.Denot = g.D.Driver.drive mid.driver owned.kept.seats mid.now in (
      d,
      is-driven g.D.Driver.least g.D.Driver.needs g.D.Driver.drive seats held old mid owned is_ready out c.act.new.st (c.drives_are_lawful.ensures.seats seats held old d) c.act.ensures.acted,
      c.act.ensures.numbers
          ∙ ap (λ (ms : List (Delivery Parcel)). numbers_of ms) (requests-same g.D.Driver.least g.D.Driver.needs g.D.Driver.drive seats held old mid owned is_ready out),
      c.act.ensures.finding,
    )

pub returns-clause-end : goal.returns-clause-end
returns-clause-end g c =
    let can = c.requires in
    let seats = c.args.seats.now in
    let old = c.args.st.now in
    let mid = c.prepare.new.st in
    let owned = c.in_ok-ready.ready.owned in
    let held = can.can.held in
    let is_ready = c.seats_are_ready.ensures can.cycles seats old can.can in
    let out = c.in_ok-ready.ensures.out in
    let d : Drive g.row.D.Denot = g.D.Driver.drive mid.driver owned.kept.seats mid.now in
    let act = act-is g.D.Driver.least g.D.Driver.needs g.D.Driver.drive seats held old mid owned is_ready out in
    let few = c.drives_are_lawful.ensures.few can.cycles seats old d can.can act in
    let reserved = c.in_ok-ready.ensures.reserved in
    can-end g.D.Driver.least g.D.Driver.needs g.D.Driver.drive seats held old mid owned is_ready out c.act.new.st c.act.result c.in_ok-ready.ready.room c.in_ok-ready.ensures.room c.act.ensures.acted
    (c.places_stay_home.ensures old.places.items c.act.new.st.places.items (c.act.ensures.acted.made ∙ out.made) is_ready.home)
    c.act.ensures.mail c.act.ensures.finding c.act.ensures.numbers
    (c.drives_are_lawful.ensures.messages can.cycles seats old d can.can act) (omega (arith, few, reserved))
    (c.drives_are_lawful.ensures.finding can.cycles seats old d can.can act)
