use Rattle.std.specs.String.{string_bytes}
use Rattle.xls_files.proofs.PathLemmas.{folder_inside, lies_inside}
use Rattle.xls_files.proofs.paths.folder_of.Goals as goal

pub returns-clause-inside : goal.returns-clause-inside
returns-clause-inside c =
    lies_inside string_bytes c.args.out.now _ c.path_beside.result c.path_beside.ensures (folder_inside c.args.out.now c.args.file.now)
