-- Entries and their items.
use Rattle.std.proofs.Common.{◌≡◌, ℕ, List, [], ◌∷◌, ◌++◌, map, length, take, drop, refl, false, Result, Ok, Err}
use Rattle.std.specs.Prelude.{nat_lt, slice_index}
use Rattle.std.proofs.lemmas.List.{map-append}
use Rattle.xls_bytes.specs.Numbers.{le}
use Rattle.xls_text.specs.declared.encoding.XlsEncoding.{XlsEncoding}
use Rattle.xls_stream.specs.Listing.{Item, entry_of}
use Rattle.xls_data.specs.Sheets.{SheetContent}
use Rattle.xls_record.specs.declared.error.XlsError.{XlsError}
use Rattle.xls_record.specs.declared.version.Biff.{Biff}
use Rattle.xls_record.specs.Reading.{◌>>=◌, gives}
use Rattle.xls_biff.specs.Records.BoundSheet.{sheet_by, bound_sheet_at}

-- ---- what one more item gives

pub entries_push : (is : List Item) (i : Item) → map entry_of (is ++ i ∷ []) ≡ map entry_of is
    ++ entry_of i ∷ []
entries_push is i = map-append entry_of is (i ∷ [])

-- ---- lines of the table

-- a BoundSheet8 that is long enough, by its entry
pub long_sheet : (page : XlsEncoding) (version : Biff) (body : List ℕ) → nat_lt (length body) 6 ≡ false
    → gives (λ (q : ℕ × SheetContent). q.1) (bound_sheet_at page version body) ≡ sheet_by page version (slice_index body 4) (slice_index body 5) (drop 6 body)
long_sheet page version body t = rw t (found (sheet_by page version (slice_index body 4) (slice_index body 5) (drop 6 body)))
  where
    found : (r : Result SheetContent XlsError) → gives (λ (q : ℕ × SheetContent). q.1) (r >>= (λ s. Ok (le (take 4 body), s))) ≡ r
    found (Ok s) = refl
    found (Err e) = refl
