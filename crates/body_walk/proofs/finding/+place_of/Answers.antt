use Rattle.std.proofs.Common.{refl}
use Rattle.std.proofs.lemmas.Result.{err_from_is_err_and}
use Rattle.ruby_value.specs.declared.fault.Fault.TheVariants.{Reference}
use Rattle.acts.specs.declared.body_fault.BodyFault.TheVariants as own
use Rattle.acts.specs.Prelude.{itself}
use Rattle.acts.proofs.Walk.{does_ends_as, does_stops, does_without_memory}
use Rattle.body_meaning.specs.Prelude.{calls_within, reading}
use Rattle.body_walk.proofs.PlaceForms.{group_place, other_place, postfix_place}
use Rattle.body_walk.proofs.finding.+place_of.Goals as goal

pub returns-in_err-named_place-in-Variable : goal.returns-in_err-named_place-in-Variable
returns-in_err-named_place-in-Variable g t c =
    let p = err_from_is_err_and c.from_residual.result c.from_residual.ensures.1 in rw (p.1, p.2) (does_without_memory itself _ _ _)

pub returns-in_ok-named_place-in-Variable : goal.returns-in_ok-named_place-in-Variable
returns-in_ok-named_place-in-Variable g t c = rw (c.in-Variable.is, ← c.deref.ensures) (does_ends_as itself _ _ _ c.in_ok-named_place-in-Variable.ensures)

pub returns-in-Group : goal.returns-in-Group
returns-in-Group g t c = group_place (reading c.args.s) (calls_within (reading c.args.s) c.args.depth) c.args.frame.now c.args.e.now c.in-Group.inner c.get.result.now c.in-Group.field-1 c.place_of.result _ _ c.in-Group.is c.get.ensures c.place_of.ensures

pub returns-in-Postfix : goal.returns-in-Postfix
returns-in-Postfix g t c =
    postfix_place (reading c.args.s) (calls_within (reading c.args.s) c.args.depth) c.args.frame.now c.args.e.now c.in-Postfix.inner c.get-in-Postfix.result.now c.in-Postfix.suffixes c.deref-in-Postfix.result.now c.in-Postfix.span c.place_behind.result _ _
    c.in-Postfix.is c.get-in-Postfix.ensures c.deref-in-Postfix.ensures c.place_behind.ensures

pub returns-in_default : goal.returns-in_default
returns-in_default g t c =
    rw (other_place (reading c.args.s) (calls_within (reading c.args.s) c.args.depth) c.args.frame.now c.args.e.now c.in_default.not-Variable c.in_default.not-Group c.in_default.not-Postfix, c.from.ensures)
    (does_stops itself own.Reference Reference _ _ refl)
