use Rattle.std.proofs.Common.{◌≡◌, length, ◌-◌, take, ap, sym, subst, ◌∙◌, IsUtf8}
use Rattle.slicc_files.specs.Prelude.{folder_of}
use Rattle.slicc_files.proofs.Folders.{folder_text}
use Rattle.slicc_files.proofs.state.folder.Goals as goal

pub returns-clause-text : goal.returns-clause-text
returns-clause-text c text =
    let same : c.split_at.result.0.now ≡ folder_of c.args.name.now =
    c.split_at.ensures.front ∙ ap (λ n. take (length c.args.name.now - n) c.args.name.now) c.last_name_len.ensures.value in
    subst IsUtf8 (sym same) (folder_text c.args.name.now text)
