-- What was read is what the records say.
use Rattle.std.proofs.Common.{◌≡◌, ℕ, zero, suc, ◌+◌, ◌<◌, ◌≤◌, List, [], refl, ap, ap₂, ◌∙◌, arith, Bool, false, if◌then◌else◌, Option, None}
use Rattle.xls_record.specs.declared.version.Biff.{Biff}
use Rattle.xls_hidden.specs.Walking.{at_the_end}
use Rattle.xls_hidden.specs.declared.types.TheConstants.{COLUMNS}
use Rattle.xls_hidden.specs.declared.fields.Mark.{Mark}
use Rattle.xls_hidden.specs.declared.lines.FilterArea.{FilterArea}
use Rattle.xls_hidden.specs.declared.lines.Run.{Run}
use Rattle.xls_hidden.specs.declared.lines.Why.{Why}
use Rattle.xls_hidden.specs.declared.reading.Reading.{Reading}
use Rattle.xls_hidden.specs.declared.said.Said.{Said}
use Rattle.xls_hidden.specs.Said.{row_count}
use Rattle.xls_hidden.specs.States.{why_of, row_why, column_why}
use Rattle.xls_hidden.specs.Runs.{with_line, runs_from}
use Rattle.xls_hidden.specs.Lines.{Table, why_at}
use Rattle.xls_hidden.specs.Windows.{frozen_by, hides_zeros_by}
use Rattle.xls_hidden.specs.Reading.{IsRead}
use Rattle.xls_hidden.specs.Hidden.{IsHiddenIn, items_of, damages_in}

-- runs depend on the lines that they are of, and no others
pub runs_same : (f g : ℕ → Option Why) (n line : ℕ) → ((k : ℕ) → line ≤ k → k < line + n → f k ≡ g k) → runs_from f line n ≡ runs_from g line n
unfolding runs_from
runs_same f g zero line same = refl
runs_same f g (suc n) line same =
    ap₂ (λ (w : Option Why) (rs : List Run). with_line line w rs) (same line (omega arith) (omega arith)) (runs_same f g n (line + 1) (λ k low high. same k (omega (arith, low)) (omega (arith, high))))

same_why : (h i : Bool) (a b : Option FilterArea) (line : ℕ) (m n : Mark) → h ≡ i → a ≡ b → m ≡ n → why_of h a line m ≡ why_of i b line n
same_why h i a b line m n p q r = rw (p, q, r) refl

module _ (version : Biff) (area : Option FilterArea) (said : List Said) (r : Reading) (read : IsRead version said [] r) where
  rows : Table
  rows = record { marks = r.rows.items; hides_unsaid = r.hides_others; area = if r.is_filtered then area else None }

  columns : Table
  columns = record { marks = r.columns.items; hides_unsaid = false; area = None }

  row_is : (row : ℕ) → row < row_count version → why_at rows row ≡ row_why area said row
  unfolding rows
  row_is row h = same_why _ _ _ _ row _ _ read.hides (ap (λ (f : Bool). if f then area else None) read.filtered) (read.rows row h)

  column_is : (column : ℕ) → column < COLUMNS → why_at columns column ≡ column_why said column
  unfolding columns
  column_is column h = same_why false false None None column _ _ refl refl (read.columns column h)

  pub is_hidden : IsHiddenIn version area said (record {
    rows = record { marks = r.rows.items; hides_unsaid = r.hides_others; area = if r.is_filtered then area else None };
    columns = record { marks = r.columns.items; hides_unsaid = false; area = None };
    items = items_of (runs_from (why_at (record { marks = r.rows.items; hides_unsaid = r.hides_others; area = if r.is_filtered then area else None })) 0 (row_count version))
        (runs_from (why_at (record { marks = r.columns.items; hides_unsaid = false; area = None })) 0 COLUMNS)
        (frozen_by (at_the_end r.window)) (hides_zeros_by (at_the_end r.window)) (damages_in said);
  })
  unfolding rows columns
  is_hidden = record {
    rows = row_is;
    columns = column_is;
    items =
        ap₂ (λ (rs cs : List Run). items_of rs cs (frozen_by (at_the_end r.window)) (hides_zeros_by (at_the_end r.window)) (damages_in said))
        (runs_same (why_at rows) (row_why area said) (row_count version) 0 (λ k low high. row_is k (omega (arith, high))))
        (runs_same (why_at columns) (column_why said) COLUMNS 0 (λ k low high. column_is k (omega (arith, high))))
        ∙ ap (λ w. items_of (runs_from (row_why area said) 0 (row_count version)) (runs_from (column_why said) 0 COLUMNS) (frozen_by w) (hides_zeros_by w) (damages_in said)) read.window;
  }
