use Rattle.std.proofs.Common.{◌≡◌, true, false, is_some, refl}
use Rattle.ruby_base.specs.Prelude.{number_among}
use Rattle.machine_table.proofs.NumbersOfNames.{found_added, found_there}
use Rattle.machine_table.proofs.by_name.Numbers.add.Goals as goal

pub returns-then-is_some : goal.returns-then-is_some
returns-then-is_some c =
    let there : is_some (number_among c.args.self.now.names c.args.name.now) ≡ true = cc in
    λ text. found_there c.args.self.now.names c.args.self.now.numbers c.args.name.now c.args.number text c.args.self.now.same_length there

pub returns-in-Ok : goal.returns-in-Ok
returns-in-Ok c =
    let new : is_some (number_among c.args.self.now.names c.args.name.now) ≡ false = cc in
    λ text. found_added c.args.self.now.names c.add.new.self c.args.self.now.numbers c.push.new.self c.args.name.now c.args.number c.args.number text
    c.args.self.now.same_length new c.in-Ok.ensures.ok c.in_ok-push.ensures.ok refl
