use Rattle.std.proofs.Common.{◌∷◌, ◌∙◌, [], true, false, sym, arith}
use Rattle.slicc_ast.specs.Prelude.{sign_kind}
use Rattle.slicc_reading.proofs.Parts.{first_ahead, none_ahead, not_opened, opened_too_deep}
use Rattle.slicc_reading.proofs.leaf.open.Goals as goal

pub returns-then-not-is_sign_kind-clause-refused : goal.returns-then-not-is_sign_kind-clause-refused
returns-then-not-is_sign_kind-clause-refused c row =
    not_opened c.args.room (sign_kind c.args.opener ∷ []) row c.args.tokens.now c.refuse.result
    (first_ahead (sign_kind c.args.opener ∷ []) c.in-Some.first.now c.args.tokens.now c.in-Some.left.now false c.in-Some.ensures (sym c.is_sign_kind.ensures.value ∙ c.if-not-is_sign_kind.true))
    c.refuse.ensures

pub returns-then-room-eq0-clause-refused : goal.returns-then-room-eq0-clause-refused
returns-then-room-eq0-clause-refused c row =
    opened_too_deep c.args.room (sign_kind c.args.opener ∷ []) row c.args.tokens.now c.if-room-eq0.true
    (first_ahead (sign_kind c.args.opener ∷ []) c.in-Some.first.now c.args.tokens.now c.in-Some.left.now true c.in-Some.ensures (sym c.is_sign_kind.ensures.value ∙ c.if-not-is_sign_kind.false))

pub returns-in-None-clause-refused : goal.returns-in-None-clause-refused
returns-in-None-clause-refused c row =
    not_opened c.args.room (sign_kind c.args.opener ∷ []) row c.args.tokens.now c.refuse-in-None.result
    (none_ahead (sign_kind c.args.opener ∷ []) c.args.tokens.now c.in-None.ensures) c.refuse-in-None.ensures

pub returns-else-room-eq0-clause-opened : goal.returns-else-room-eq0-clause-opened
returns-else-room-eq0-clause-opened c = record {
  first = c.in-Some.first.now;
  split = c.in-Some.ensures;
  is_opener = c.is_sign_kind.ensures.same c.if-not-is_sign_kind.false;
  allowed = omega arith;
}
