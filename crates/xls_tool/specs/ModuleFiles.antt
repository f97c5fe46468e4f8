-- The files of the modules of a macro project, for the proofs.
use Rattle.std.specs.Prelude.{◌≡◌, Some}
use Rattle.xls_files.specs.Paths.{IsInside}
use Rattle.xls_readable.specs.declared.forms.Form.TheVariants.{Text}
use Rattle.xls_tool.specs.Asked.{asked_by}
use Rattle.xls_tool.specs.declared.job.Asked.TheVariants.{Other}
use Rattle.xls_tool.specs.declared.job.Beside.TheVariants.{Macros}
use Rattle.xls_tool.specs.declared.macros.ModuleFiles.{ModuleFiles}

-- sources are asked for as text, and their folder lies inside that for all files
pub record AreModuleFiles (files : ModuleFiles) : Type 0 where
  pub out : files.job.now.request.out ≡ Some files.out.now
  pub inside : IsInside files.out.now.path.now files.folder.now
  pub asked : asked_by files.job.now.request.command ≡ Other (Macros Text)
