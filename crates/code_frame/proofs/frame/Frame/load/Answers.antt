use Rattle.std.proofs.Common.{◌≡◌, ◌+◌, false, OnOk, refl, sym, ap, subst, ◌∙◌}
use Rattle.ruby_value.specs.declared.value.Value.TheVariants as value
use Rattle.code_frame.specs.Prelude.{big, of_sort, pushed, value_at, word_of}
use Rattle.code_frame.proofs.Values.{is_word, not_apart}
use Rattle.code_frame.proofs.Windows.{local_is}
use Rattle.code_frame.proofs.frame.Frame.load.Goals as goal

pub returns-in_ok-v : goal.returns-in_ok-v
returns-in_ok-v c =
    let e : value_at c.args.self.now.locals c.args.n ≡ c.in_ok-v.v =
    local_is c.self.inside.words c.at-s.result c.self.inside.apart.items c.self.inside.base c.self.inside.floor c.args.n (c.self.inside.base + c.args.n) c.args.self.now c.self.view_is c.self.invariant.1 c.requires refl c.at-s.ensures
    ∙ ap (λ t. of_sort t c.at-s.result.word (value_at c.self.inside.apart.items (c.self.inside.base + c.args.n))) c.in-Apart.is
    ∙ ap (λ l. big (value_at l (c.self.inside.base + c.args.n))) (sym c.as_slice.ensures.value) ∙ sym c.in_ok-v.ensures in
    subst (λ y. OnOk c.push_apart.result (c.push_apart.new.self ≡ pushed y c.args.self.now)) (sym e) c.push_apart.ensures

pub returns-in_default : goal.returns-in_default
returns-in_default c =
    let e : value_at c.args.self.now.locals c.args.n ≡ word_of c.at-s.result =
    local_is c.self.inside.words c.at-s.result c.self.inside.apart.items c.self.inside.base c.self.inside.floor c.args.n (c.self.inside.base + c.args.n) c.args.self.now c.self.view_is c.self.invariant.1 c.requires refl c.at-s.ensures
    ∙ is_word c.at-s.result.sort c.at-s.result.word (value_at c.self.inside.apart.items (c.self.inside.base + c.args.n)) (value.Bool false) (not_apart c.at-s.result.sort c.in_default.not-Apart) in
    subst (λ y. OnOk c.push_slot.result (c.push_slot.new.self ≡ pushed y c.args.self.now)) (sym e) c.push_slot.ensures
