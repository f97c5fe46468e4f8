use Rattle.std.proofs.Common.{rules}
use Rattle.xls_files.proofs.PathLemmas.{folder_whole}
use Rattle.xls_files.proofs.paths.path_below.Goals as goal

pub returns : goal.returns
returns c =
    folder_whole c.args.out.now c.args.file.now _ c.deref-name-items.result.now c.loop-name.name-index (search rules) (search rules) c.loop-name.invariant
