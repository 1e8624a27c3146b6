use Rattle.code_laws.proofs.AllForms.{each_expression_good}
use Rattle.code_laws.proofs.PermissionForms.{permissions_good}
use Rattle.code_laws.proofs.laws.expressions_do_what_they_mean.Goals as goal

pub returns : goal.returns
returns c = λ z body answer bound names frame h e expected is calling typed_in holds whole none used.
    let g = each_expression_good z is calling body answer bound names frame h typed_in holds (permissions_good z is calling body answer bound names frame h typed_in holds) e whole none used expected in
    let d = g.done in
    record {
      left_is = g.left_is;
      gives = let s = d.stays in s.gives;
      does = d.does;
    }
