use Rattle.std.proofs.Common.{rules}
use Rattle.xls_compound.proofs.compound.Compound.open.Goals as goal

-- all before the mini stream is there
pub returns-in_err-mini_stream-clause-err : goal.returns-in_err-mini_stream-clause-err
returns-in_err-mini_stream-clause-err c =
    let listing = c.in_ok-directory.ensures.ok c.args.file.now c.in_ok-sectors.ensures.ok in
    let mini_fat = c.in_ok-mini_fat.ensures.ok in
    let refused = c.in_err-mini_stream.ensures.err c.args.file.now mini_fat.0 listing mini_fat.1 in
    search rules
