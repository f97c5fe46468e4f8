-- Laws over the stream that is made.
use Rattle.std.specs.Prelude.{◌≡◌, ℕ, ◌≤◌, ◌+◌, ◌*◌, length, codes, Some}
use Rattle.xls_stream.specs.Walks.{IsBytes}
use Rattle.xls_stream.specs.Listing.{Carries}
use Rattle.xls_layouts.specs.Layout.{lay, list_of, IsLayout}
use Rattle.xls_data.specs.declared.values.Data.{Data}
use Rattle.xls_data.specs.declared.regions.HeaderRow.TheVariants.{FirstNonEmptyRow}
use Rattle.xls_range.specs.Grid.{Grid}
use Rattle.xls_range.specs.Grid as grid
use Rattle.xls_meaning.specs.Reading.{SheetView, IsReading}
use Rattle.xls_open.specs.Workbook.{Workbook, view_of, view_named}
use Rattle.xls_meaning.specs.Faults.{IsSound}
use Rattle.xls_open.specs.Opening.{default_options, default_rules, IsOpened}
use Rattle.xls_book.specs.LookUps.{Equal, Blank, IsRangeOf}
use Rattle.xls_command.specs.Sample.{sample_stream, sample_list, sample_layout, sample_cells, IsSample, IsSampleRange}

-- the stream of any number of rows carries its list
abbrev pub SampleCarries : Type 0
SampleCarries = (n : ℕ) → Carries (sample_stream n) (sample_list n)

-- it is the canonical layout of that list; with as many rows as there are row numbers at most, that is
-- a valid one
pub record IsSampleLayout (n : ℕ) : Type 0 where
  pub bytes : lay (sample_layout n) ≡ sample_stream n
  pub list : list_of (sample_layout n) ≡ sample_list n
  pub valid : n ≤ 65536 → IsLayout (sample_layout n)

abbrev pub SampleLaid : Type 0
SampleLaid = (n : ℕ) → IsSampleLayout n

-- it has so many bytes
abbrev pub SampleLength : Type 0
SampleLength = (n : ℕ) → length (sample_stream n) ≡ 28 * n + 64

-- with as many rows as there are row numbers at most, it consists of bytes
abbrev pub SampleBytes : Type 0
SampleBytes = (n : ℕ) → n ≤ 65536 → IsBytes (sample_stream n)

-- no place of it has a fault, under the options by default
abbrev pub SampleSound : Type 0
SampleSound = (n : ℕ) → n ≤ 65536 → IsSound default_rules (sample_stream n)

-- each reading of the list, under the options by default, is the workbook that was made
abbrev pub SampleReading : Type 0
SampleReading = (n : ℕ) → n ≤ 65536 → (book : Workbook) → book.options ≡ default_options
    → IsReading default_rules (sample_list n) (view_of book) → IsSample n book

-- and each workbook that is opened from the stream
abbrev pub SampleOpens : Type 0
SampleOpens = (n : ℕ) → n ≤ 65536 → (book : Workbook) → IsOpened default_options book (sample_stream n)
    → IsSample n book

-- each range of the cells that were made is the one that was made
abbrev pub SampleRange : Equal → Blank → Type 0
SampleRange eq blank = (n : ℕ) → 1 ≤ n → (range : Grid Data) → grid.IsRange range
    → IsRangeOf eq blank FirstNonEmptyRow (sample_cells n) range → IsSampleRange blank n range

-- so is each range of the sheet `G` of a workbook that is opened from the stream
abbrev pub SampleShows : Equal → Blank → Type 0
SampleShows eq blank = (n : ℕ) → 1 ≤ n → n ≤ 65536 → (book : Workbook)
    → IsOpened default_options book (sample_stream n) → (view : SheetView)
    → view_named book (codes "G") ≡ Some view → (range : Grid Data) → grid.IsRange range
    → IsRangeOf eq blank book.options.header_row view.cells range → IsSampleRange blank n range
