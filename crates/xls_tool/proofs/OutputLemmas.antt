-- Texts that are written into files of their own, and which files are made.
use Rattle.std.proofs.Common.{◌≡◌, ℕ, Bool, true, List, [], Option, Some, Result, Ok, Err, OnOk, inl, inr, refl, sym, subst}
use Rattle.std.specs.Io.KnownBytes.{Appends}
use Rattle.std.specs.Result.{IsOk}
use Rattle.xls_answers.specs.HiddenParts.{IsSkippedAt}
use Rattle.xls_answers.specs.Sheets.{BeginsTableOf, IsTableOf, MissesSheet, WritesSheetAt, chosen_index}
use Rattle.xls_answers.specs.Views.{AreLines, AreShownLines, BeginLines, BeginShownLines, IsDump, MissesNone, OfView, rules_shown}
use Rattle.xls_answers.specs.declared.answer.Answer.{Answer}
use Rattle.xls_answers.specs.declared.answer.Answer.TheVariants as answers
use Rattle.xls_answers.specs.declared.failure.Missing.{Missing}
use Rattle.xls_container.specs.Files.{Container}
use Rattle.xls_files.proofs.FileLemmas.{begun_one, placed_one}
use Rattle.xls_files.specs.Files.{Begins, HostFiles, Places, part_path}
use Rattle.xls_files.specs.Paths.{IsInside}
use Rattle.xls_hidden.specs.Hidden.{Hidden}
use Rattle.xls_meaning.specs.Rules.{Rules}
use Rattle.xls_open.specs.Workbook.{rules_of}
use Rattle.xls_open.specs.declared.options.XlsOptions.{XlsOptions}
use Rattle.xls_output.specs.Each.{WroteEach}
use Rattle.xls_output.specs.Gathering.{Wrote}
use Rattle.xls_output.specs.SinkState.{SinkState}
use Rattle.xls_output.specs.declared.stop.Stop.{Stop}
use Rattle.xls_readable.specs.declared.forms.Form.TheVariants.{Text}
use Rattle.xls_tool.specs.Asked.{asked_by}
use Rattle.xls_tool.specs.Beside.{OfContainer, as_failure, as_problem}
use Rattle.xls_tool.specs.Outputs.{HoldsText, IsOutput, IsSourceIn, KeepsOutputs, MayBegin, MayMake, TakesAll, unwritten}
use Rattle.xls_tool.specs.SheetFiles.{AreSheetFiles, IsAskedSheet}
use Rattle.xls_tool.specs.Texts.{OfWorkbook}
use Rattle.xls_tool.specs.declared.job.Asked.TheVariants.{Workbook, Other}
use Rattle.xls_tool.specs.declared.job.Beside.{Beside}
use Rattle.xls_tool.specs.declared.job.Beside.TheVariants as beside
use Rattle.xls_tool.specs.declared.problem.Problem.{Problem}
use Rattle.xls_tool.specs.declared.sheets.SheetFiles.{SheetFiles}
use Rattle.xls_view.specs.Viewing.{Viewed}
use Rattle.xls_words.specs.declared.request.Folder.{Folder}
use Rattle.xls_words.specs.declared.request.Request.{Request}

-- ---- from the first byte on

module _ (a b : SinkState) (empty : a.written ≡ Some []) where
  -- what was written from there is all that was written
  text-written : (text : List ℕ) → Wrote a b text → Wrote unwritten b text
  text-written text w = record {
    appends = subst (λ old. Appends old b.written text) empty w.appends;
    steady = λ n fits none. absurd none;
  }

  each-written : {A : Type 0} (IsText : A → List ℕ → Type 0) (items : List A) → WroteEach IsText items a b → WroteEach IsText items unwritten b
  each-written IsText items w = record { text = w.text; texts = w.texts; wrote = text-written w.text w.wrote }

  view-written : (rules : Rules) (stream : List ℕ) (IsWhole IsPart : Viewed → List ℕ → Type 0) (Misses : Missing → Viewed → Type 0)
      → OfView rules stream IsWhole IsPart Misses a b (Ok tt) → OfView rules stream IsWhole IsPart Misses unwritten b (Ok tt)
  view-written rules stream IsWhole IsPart Misses (view, is, text, whole, wrote) = (view, is, text, whole, text-written text wrote)

  workbook-written : (answer : Answer) (options : XlsOptions) (stream : List ℕ)
      → OfWorkbook answer options stream a b (Ok tt) → OfWorkbook answer options stream unwritten b (Ok tt)
  workbook-written (answers.Lines lines form) options stream h =
      view-written (rules_shown form options) stream (AreLines lines form) (BeginLines lines form) MissesNone h
  workbook-written (answers.Shown form) options stream h =
      view-written (rules_shown form options) stream (AreShownLines form) (BeginShownLines form) MissesNone h
  workbook-written answers.Exact options stream h =
      view-written (rules_of options) stream IsDump IsDump MissesNone h
  workbook-written (answers.Sheet choice table sight) options stream h =
      view-written (rules_of options) stream (IsTableOf choice table sight options stream) (BeginsTableOf choice table sight options stream)
      (MissesSheet choice) h
  workbook-written answers.Check options stream (sound, wrote) = (sound, text-written _ wrote)
  workbook-written (answers.Beside topic form) options stream (globals, has, wrote) = (globals, has, each-written _ _ wrote)
  workbook-written answers.Remade options stream (list, reads, text, writes, wrote) = (list, reads, text, writes, text-written text wrote)
  workbook-written answers.Bytes options stream wrote = text-written _ wrote

  beside-written : (what : Beside) (container : Container)
      → OfContainer what container a b (Ok tt) → OfContainer what container unwritten b (Ok tt)
  beside-written beside.Properties container (inl (properties, has, (Ok x, delivers, is))) =
      inl (properties, has, (Ok x, each-written _ _ delivers, is))
  beside-written beside.Properties container (inl (properties, has, (Err s, delivers, is))) = absurd (cc is)
  beside-written beside.Properties container (inr (inl (none, (is, same)))) = absurd (cc is)
  beside-written beside.Properties container (inr (inr (fault, refuses, (is, same)))) = absurd (cc is)
  beside-written beside.Project container (inl (project, has, (Ok x, (lines, are, wrote), is))) =
      inl (project, has, (Ok x, (lines, are, each-written _ _ wrote), is))
  beside-written beside.Project container (inl (project, has, (Err s, delivers, is))) = absurd (cc is)
  beside-written beside.Project container (inr (inl (none, (is, same)))) = absurd (cc is)
  beside-written beside.Project container (inr (inr (fault, refuses, (is, same)))) = absurd (cc is)
  beside-written (beside.Macros form) container (inl (macros, has, (Ok x, (parts, are, wrote), is))) =
      inl (macros, has, (Ok x, (parts, are, each-written _ _ wrote), is))
  beside-written (beside.Macros form) container (inl (macros, has, (Err s, delivers, is))) = absurd (cc is)
  beside-written (beside.Macros form) container (inr (inl (none, (is, same)))) = absurd (cc is)
  beside-written (beside.Macros form) container (inr (inr (fault, refuses, (is, same)))) = absurd (cc is)
  beside-written (beside.Stream path) container (inl (compound, in_it, inl (item, bytes, at, has, Ok x, wrote, is))) =
      inl (compound, in_it, inl (item, bytes, at, has, Ok x, text-written bytes wrote, is))
  beside-written (beside.Stream path) container (inl (compound, in_it, inl (item, bytes, at, has, Err f, stops, is))) = absurd (cc is)
  beside-written (beside.Stream path) container (inl (compound, in_it, inr (inl (none, (is, same))))) = absurd (cc is)
  beside-written (beside.Stream path) container (inl (compound, in_it, inr (inr (inl (item, error, at, refuses, (is, same)))))) = absurd (cc is)
  beside-written (beside.Stream path) container (inl (compound, in_it, inr (inr (inr (is, same))))) = absurd (cc is)
  beside-written (beside.Stream path) container (inr (none, (is, same))) = absurd (cc is)
  beside-written beside.Streams container (inl (compound, in_it, (Ok x, delivers, is))) = inl (compound, in_it, (Ok x, each-written _ _ delivers, is))
  beside-written beside.Streams container (inl (compound, in_it, (Err s, delivers, is))) = absurd (cc is)
  beside-written beside.Streams container (inr (none, (is, same))) = absurd (cc is)

  -- ---- what a file holds then

  pub holds-workbook : (request : Request) (answer : Answer) (options : XlsOptions) (stream : List ℕ) (r : Result (Unit {0}) Problem)
      → asked_by request.command ≡ Workbook answer → OfWorkbook answer options stream a b r → IsOk r
      → HoldsText request.out (asked_by request.command) options b
  holds-workbook request answer options stream (Ok x) is h ok =
      subst (λ asked. HoldsText request.out asked options b) (sym is) (stream, inl (workbook-written answer options stream h))
  holds-workbook request answer options stream (Err p) is h ok = absurd (cc ok)

  pub holds-beside : (request : Request) (what : Beside) (options : XlsOptions) (container : Container) (r : Result (Unit {0}) Problem)
      → asked_by request.command ≡ Other what → OfContainer what container a b r → IsOk r
      → HoldsText request.out (asked_by request.command) options b
  holds-beside request what options container (Ok x) is h ok =
      subst (λ asked. HoldsText request.out asked options b) (sym is) (container, inl (beside-written what container h))
  holds-beside request what options container (Err p) is h ok = absurd (cc ok)

  pub holds-source : (request : Request) (options : XlsOptions) (container : Container) (source : List ℕ) (r : Result (Unit {0}) Problem)
      → asked_by request.command ≡ Other (beside.Macros Text) → IsSourceIn container source → OnOk r (Wrote a b source) → IsOk r
      → HoldsText request.out (asked_by request.command) options b
  holds-source request options container source (Ok x) is in_it wrote ok =
      subst (λ asked. HoldsText request.out asked options b) (sym is) (container, inr (source, in_it, text-written source wrote))
  holds-source request options container source (Err p) is in_it wrote ok = absurd (cc ok)

  -- a sheet: where all are asked for, or the chosen one
  all-sheets : (files : SheetFiles) (view : Viewed) (n : ℕ) (hidden : Option Hidden) → AreSheetFiles files view
      → files.out.now.takes_all_sheets ≡ true → IsSkippedAt files.parts.now view n hidden
      → WritesSheetAt files.table.now hidden view n a b (Ok tt)
      → HoldsText files.job.now.request.out (Workbook (answers.Sheet files.choice.now files.table.now files.sight)) files.job.now.reading.options b
  all-sheets files view n hidden are all skipped (text, is, wrote) = (
    files.book.now.stream.now,
    inr (
      subst TakesAll (sym are.out) all,
      (view, are.viewed, n, hidden, (files.parts.now, are.skipped, skipped), (text, is, text-written text wrote)),
    ),
  )

  chosen-sheet : (files : SheetFiles) (view : Viewed) (n : ℕ) (hidden : Option Hidden) → AreSheetFiles files view
      → Some n ≡ chosen_index files.choice.now view.book.sheets → IsSkippedAt files.parts.now view n hidden
      → WritesSheetAt files.table.now hidden view n a b (Ok tt)
      → HoldsText files.job.now.request.out (Workbook (answers.Sheet files.choice.now files.table.now files.sight)) files.job.now.reading.options b
  chosen-sheet files view n hidden are chosen skipped (text, is, wrote) = (
    files.book.now.stream.now,
    inl (view, are.viewed, text, (n, chosen, hidden, (files.parts.now, are.skipped, skipped), is), text-written text wrote),
  )

  asked-sheet : (files : SheetFiles) (view : Viewed) (n : ℕ) (hidden : Option Hidden) → AreSheetFiles files view
      → IsAskedSheet files view n → IsSkippedAt files.parts.now view n hidden
      → WritesSheetAt files.table.now hidden view n a b (Ok tt)
      → HoldsText files.job.now.request.out (asked_by files.job.now.request.command) files.job.now.reading.options b
  asked-sheet files view n hidden are (inl all) skipped h =
      subst (λ asked. HoldsText files.job.now.request.out asked files.job.now.reading.options b) (sym are.asked) (all-sheets files view n hidden are all skipped h)
  asked-sheet files view n hidden are (inr chosen) skipped h =
      subst (λ asked. HoldsText files.job.now.request.out asked files.job.now.reading.options b) (sym are.asked) (chosen-sheet files view n hidden are chosen skipped h)

  pub holds-sheet : (files : SheetFiles) (view : Viewed) (n : ℕ) (hidden : Option Hidden) (done : Result (Unit {0}) Stop)
      (r : Result (Unit {0}) Problem)
      → AreSheetFiles files view → IsAskedSheet files view n → IsSkippedAt files.parts.now view n hidden
      → WritesSheetAt files.table.now hidden view n a b done
      → r ≡ as_problem (as_failure done) → IsOk r
      → HoldsText files.job.now.request.out (asked_by files.job.now.request.command) files.job.now.reading.options b
  holds-sheet files view n hidden (Ok x) r are asked skipped h is ok = asked-sheet files view n hidden are asked skipped h
  holds-sheet files view n hidden (Err s) r are asked skipped h is ok =
      let none : IsOk (as_problem (as_failure (Err s))) = subst IsOk is ok in absurd (cc none)

-- ---- the host's files

module _ {F : Type 0} (tells : Bool) (state : F → SinkState) (request : Request) (options : XlsOptions) where
  -- a part was begun of a file inside the folder
  pub begun : {X E : Type 0} (folder : Folder) (path : List ℕ) (before after : HostFiles F) (r : Result X E)
      → request.out ≡ Some folder → IsInside folder.path.now path
      → Begins (part_path path) before after r → KeepsOutputs tells state request options before after
  begun folder path before after r out inside begins h =
      begun_one (MayBegin request.out) (IsOutput tells state request options) (part_path path) before after r begins
      (subst (λ o. MayBegin o (part_path path)) (sym out) (path, inside, refl)) h

  -- a file that holds the whole text was given its path
  pub ended : (folder : Folder) (file : F) (path : List ℕ) (before after : HostFiles F) (done : Result (Unit {0}) Problem)
      → request.out ≡ Some folder → IsInside folder.path.now path
      → (IsOk done → tells ≡ true → HoldsText request.out (asked_by request.command) options (state file))
      → Places (record { file = file; path = path; over = folder.writes_over }) before after done
      → KeepsOutputs tells state request options before after
  ended folder file path before after done out inside holds places h =
      placed_one (MayBegin request.out) (IsOutput tells state request options)
      (record { file = file; path = path; over = folder.writes_over }) before after done places
      (λ ok. (subst (λ o. MayMake o path folder.writes_over) (sym out) (inside, λ e. e), holds ok)) h
