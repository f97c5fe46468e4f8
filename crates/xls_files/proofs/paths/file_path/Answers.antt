use Rattle.std.specs.String.{string_bytes}
use Rattle.xls_files.proofs.PathLemmas.{file_inside, lies_inside}
use Rattle.xls_files.proofs.paths.file_path.Goals as goal

pub returns-clause-inside : goal.returns-clause-inside
returns-clause-inside c out lies name ending long =
    lies_inside string_bytes out _ c.path_in.result c.path_in.ensures
    (file_inside out c.args.folder.now c.args.name.now c.args.ending.now lies name ending long)
