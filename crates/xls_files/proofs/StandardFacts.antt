-- What users are told of a reason, and which paths parts and folders have, so that a wrong text in the definitions does not check.
use Rattle.std.proofs.Common.{◌≡◌, [], ◌∷◌, map, refl, codes}
use Rattle.xls_files.specs.Files.{part_path}
use Rattle.xls_files.specs.Paths.{folder_path}
use Rattle.xls_files.specs.Reasons.{reason_text}
use Rattle.xls_files.specs.declared.host.Reason.TheVariants.{Memory, Exists}

pub known_reasons : map reason_text (Memory ∷ Exists ∷ []) ≡ codes "out of memory" ∷ codes "File exists" ∷ []
known_reasons = refl

pub known_part : part_path (codes "out/a.xls/dump.txt") ≡ codes "out/a.xls/dump.txt.part"
known_part = refl

-- the folders for the texts of files, in the folder for all
pub known_folders : map (folder_path (codes "o")) (codes "b.xls" ∷ codes "/a/./b.xls" ∷ codes "../a//b.xls" ∷ codes "-" ∷ [])
    ≡ codes "o/b.xls.out" ∷ codes "o/a/b.xls.out" ∷ codes "o/__/a/b.xls.out" ∷ codes "o/stdin.out" ∷ []
known_folders = refl
