-- How the code finds a citation again: in an ordered set, by the bytes of its sheets' text and by its cells. What the contracts of public calls
-- say doesn't depend on it.
use Rattle.std.specs.Prelude.{◌≡◌, ℕ, List, [], ◌∷◌, ◌++◌, codes, drop, if◌then◌else◌, Option, Some, None}
use Rattle.std.specs.BTreeSet.{BTreeSet, contains}
use Rattle.std.specs.Borrow.{Bor}
use Rattle.std.specs.Cmp.Lexicographic.{slice_cmp}
use Rattle.std.specs.List.{list_any}
use Rattle.std.specs.Ordering.{nat_cmp, ordering_then}
use Rattle.std.specs.Str.{IsUtf8}
use Rattle.std.specs.declared.cmp.Ordering.{Ordering}
use Rattle.xls_formula_names.specs.declared.sheets.Sheets.{Sheets}
use Rattle.xls_formula_names.specs.declared.sheets.Sheets.TheVariants.{Gone, One, Range}
use Rattle.xls_formula_books.specs.Places.{cited_text, place_view}
use Rattle.xls_formula_books.specs.declared.places.SheetPlace.{SheetPlace}
use Rattle.xls_formula_books.specs.declared.places.SheetPlace.TheVariants as places
use Rattle.xls_shown_refs.specs.Items.{Citation}
use Rattle.xls_shown_refs.specs.Citations.{is_same}
use Rattle.xls_shown_refs.specs.declared.keys.SheetsKey.{SheetsKey}
use Rattle.xls_shown_refs.specs.declared.letters.Letters.{Letters}

-- ---- bytes

-- slices one behind the other
abbrev pub bytes_of : List (Bor (List ℕ)) → List ℕ
bytes_of [] = []
bytes_of (part ∷ parts) = part.now ++ bytes_of parts

abbrev pub sheets_bytes : Sheets → List ℕ
sheets_bytes Gone = codes "#REF"
sheets_bytes (One name) = name.now
sheets_bytes (Range first last) = first.now ++ (0x3A ∷ last.now)

-- of the text of sheets that are cited
abbrev pub text_bytes : SheetPlace → List ℕ
text_bytes (places.Here Gone) = []
text_bytes (places.Here sheets) = sheets_bytes sheets
text_bytes (places.Book dir file Gone) = []
text_bytes (places.Book dir file sheets) = dir.now ++ (0x5B ∷ (file.now ++ (0x5D ∷ sheets_bytes sheets)))
text_bytes (places.File dir file) = []
text_bytes (places.Link app topic) = []

-- ---- keys

abbrev pub Key : Type 0
Key = SheetsKey × (ℕ × ℕ) × (ℕ × ℕ)

abbrev pub key_bytes : SheetsKey → List ℕ
key_bytes k = text_bytes k.sheets

abbrev pub by_sheets : SheetsKey → SheetsKey → Ordering
by_sheets k q = slice_cmp nat_cmp (key_bytes k) (key_bytes q)

abbrev pub by_position : ℕ × ℕ → ℕ × ℕ → Ordering
by_position p q = ordering_then (nat_cmp p.0 q.0) (nat_cmp p.1 q.1)

abbrev pub by_key : Key → Key → Ordering
by_key k q = ordering_then (ordering_then (by_sheets k.0 q.0) (by_position k.1 q.1)) (by_position k.2 q.2)

abbrev pub key_view : Key → Citation
key_view k = record { sheet = cited_text (place_view k.0.sheets); first = k.1; last = k.2 }

-- ---- texts

abbrev pub AreSheetTexts : Sheets → Type 0
AreSheetTexts Gone = Unit {0}
AreSheetTexts (One name) = IsUtf8 name.now
AreSheetTexts (Range first last) = IsUtf8 first.now × IsUtf8 last.now

abbrev pub AreTexts : SheetPlace → Type 0
AreTexts (places.Here sheets) = AreSheetTexts sheets
AreTexts (places.Book dir file sheets) = IsUtf8 dir.now × IsUtf8 file.now × AreSheetTexts sheets
AreTexts (places.File dir file) = IsUtf8 dir.now × IsUtf8 file.now
AreTexts (places.Link app topic) = Unit {0}

-- ---- the set

-- it has exactly the citations so far
abbrev pub SeenSo : BTreeSet Key → List Citation → Type 0
SeenSo seen found =
    (q : Key) → AreTexts q.0.sheets → contains by_key seen q ≡ list_any (λ (b : Citation). is_same b (key_view q)) found

-- a citation more, where none is equal
abbrev pub kept : List Citation → Citation → List Citation
kept found c = if list_any (λ b. is_same b c) found then found else found ++ c ∷ []

-- ---- bytes that are left

abbrev pub left_of : Letters → List ℕ
left_of s = s.part.now ++ bytes_of (drop s.begun s.parts)

-- the first of them, and the others
abbrev pub IsNext : List ℕ → Option ℕ → List ℕ → Type 0
IsNext before None after = before ≡ []
IsNext before (Some b) after = before ≡ b ∷ after
