use Rattle.std.proofs.Common.{◌≤◌, length, subst, sym}
use Rattle.xls_files.specs.Paths.{HasNoSlash, IsInside}
use Rattle.xls_tool.proofs.NameLemmas.{word-has-no-slash, ending-is-good}
use Rattle.xls_tool.proofs.sheets.text_path.Goals as goal

pub returns : goal.returns
returns c =
    let folder = subst (IsInside c.args.folder.now.path.now) (sym c.as_str.ensures.value) c.in_ok-below.ensures.inside in
    let name = subst HasNoSlash (sym c.name.ensures) (word-has-no-slash c.word.result) in
    let ending = ending-is-good c.args.job.now.request.command in
    let free = subst HasNoSlash (sym c.ending.ensures) ending.0 in
    let long = subst (λ e. 2 ≤ length e) (sym c.ending.ensures) ending.1 in
    c.file_path.ensures.inside c.args.folder.now.path.now folder name free long
