use Rattle.std.proofs.Common.{flat_map, ap, sym, ◌∙◌, append-nil}
use Rattle.declared_types.specs.Prelude.{declaration_of}
use Rattle.slicc_names.specs.Prelude.{if_counted}
use Rattle.slicc_names.proofs.count.DeclCounted.place.Goals as goal

pub returns-in-None : goal.returns-in-None
returns-in-None c = ap (flat_map (if_counted c.args.kind)) c.in-None.ensures

pub returns-in-Some : goal.returns-in-Some
returns-in-Some c =
    c.place.ensures ∙ sym (append-nil (if_counted c.args.kind (declaration_of c.in-Some.d))) ∙ ap (flat_map (if_counted c.args.kind)) c.in-Some.ensures
