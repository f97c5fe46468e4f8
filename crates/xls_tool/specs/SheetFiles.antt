-- The files of the sheets of a workbook, for the proofs.
use Rattle.std.specs.Prelude.{◌≡◌, ◌⊎◌, ℕ, true, Some}
use Rattle.xls_answers.specs.HiddenParts.{AreSkipped}
use Rattle.xls_answers.specs.Sheets.{chosen_index}
use Rattle.xls_answers.specs.declared.answer.Answer.TheVariants.{Sheet}
use Rattle.xls_files.specs.Paths.{IsInside}
use Rattle.xls_open.specs.Workbook.{rules_of}
use Rattle.xls_tool.specs.Asked.{asked_by}
use Rattle.xls_tool.specs.declared.job.Asked.TheVariants.{Workbook}
use Rattle.xls_tool.specs.declared.sheets.SheetFiles.{SheetFiles}
use Rattle.xls_view.specs.Viewing.{Viewed, IsViewed}

-- sheets are asked for, of the workbook that is looked at, and their folder lies inside that for all files
pub record AreSheetFiles (files : SheetFiles) (view : Viewed) : Type 0 where
  pub out : files.job.now.request.out ≡ Some files.out.now
  pub inside : IsInside files.out.now.path.now files.folder.now
  pub asked : asked_by files.job.now.request.command ≡ Workbook (Sheet files.choice.now files.table.now files.sight)
  pub skipped : AreSkipped files.sight files.job.now.reading.options files.book.now.stream.now files.parts.now
  pub viewed : IsViewed (rules_of files.job.now.reading.options) files.book.now.stream.now view

-- all sheets are asked for, or this one
abbrev pub IsAskedSheet : SheetFiles → Viewed → ℕ → Type 0
IsAskedSheet files view n =
    (files.out.now.takes_all_sheets ≡ true) ⊎ (Some n ≡ chosen_index files.choice.now view.book.sheets)
