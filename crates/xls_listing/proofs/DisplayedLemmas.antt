-- The lines of sheets, formulas and citations, one after another.
use Rattle.std.proofs.Common.{◌≡◌, ℕ, zero, suc, ◌+◌, ◌<◌, ◌≤◌, List, [], ◌∷◌, ◌++◌, length, map, get_or, drop, drop-cons, add-one, refl, sym, ap, codes, ◌∙◌, arith, Some, None, true, false}
use Rattle.std.specs.Prelude.{slice_get, encode_utf8_all, ◌==◌, String}
use Rattle.std.specs.Global.{Global}
use Rattle.std.specs.Str.{chars, IsUtf8}
use Rattle.std.proofs.lemmas.Str.{chars-nil, encodes-chars}
use Rattle.xls_data.specs.Sheets.{SheetContent}
use Rattle.xls_range.specs.Positions.{Position}
use Rattle.xls_meaning.specs.SheetTable.{FormulaEntry, nonempty_formulas}
use Rattle.xls_formula.specs.Context.{Context}
use Rattle.xls_view.specs.Formulas.{Formula, text_entry}
use Rattle.xls_data.specs.declared.regions.Dimensions.{Dimensions}
use Rattle.xls_readable.specs.Lines.{name_members, sheet_members, formula_members, ref_members}
use Rattle.xls_listing.specs.Listing.{Line, line, cited_line, name_line, each_sheet, formula_line, sheet_line, displayed_at}

-- ---- lists by their index

-- what is left of a list from an index on
pub drop_step : {X : Type 0} (line : X → Line) (xs : List X) (k : ℕ) (x : X) → k < length xs → x ≡ get_or xs k x
    → map line (drop k xs) ≡ (line x ∷ []) ++ map line (drop (k + 1) xs)
drop_step line xs k x l is =
    let rest : drop k xs ≡ get_or xs k x ∷ drop (k + 1) xs = rw add-one (drop-cons xs k x l) in
    ap (map line) rest ∙ ap (λ y. line y ∷ map line (drop (k + 1) xs)) (sym is)

pub drop_all : {X : Type 0} (xs : List X) (k : ℕ) → length xs ≤ k → drop k xs ≡ []
drop_all [] zero l = refl
drop_all [] (suc k) l = refl
drop_all (x ∷ xs) zero l = absurd (omega arith)
drop_all (x ∷ xs) (suc k) l = drop_all xs k (omega arith)

-- where nothing is left
pub map_end : {X Y : Type 0} (line : X → Y) (xs : List X) (k : ℕ) → length xs ≤ k → map line (drop k xs) ≡ []
map_end line xs k l = ap (map line) (drop_all xs k l)

drop_nothing : {X : Type 0} (k : ℕ) → drop {A = X} k [] ≡ []
drop_nothing zero = refl
drop_nothing (suc k) = refl

-- what stands at an index of a list that was mapped
pub mapped : {X Y : Type 0} (f : X → Y) (xs : List X) (ys : List Y) (i : ℕ) (x : X) → i < length xs
    → x ≡ get_or xs i x → map f xs ≡ ys → slice_get ys i ≡ Some (f x)
mapped {X} {Y} f xs ys i x l e m = ap (λ (zs : List Y). slice_get zs i) (sym m) ∙ at_index xs i l e
  where
    at_index : (zs : List X) (k : ℕ) → k < length zs → x ≡ get_or zs k x
        → slice_get (map f zs) k ≡ Some (f x)
    at_index [] k l e = absurd (omega arith)
    at_index (z ∷ zs) zero l e = ap (λ (w : X). Some (f w)) (sym e)
    at_index (z ∷ zs) (suc k) l e = at_index zs k (omega arith) e

-- by what the things of a list hold
pub map_again : {X Y Z : Type 0} (line : Y → Z) (f : X → Y) (xs : List X) (ys : List Y) → map f xs ≡ ys
    → map (λ x. line (f x)) xs ≡ map line ys
map_again {X} {Y} {Z} line f xs ys e = each xs ∙ ap (map line) e
  where
    each : (zs : List X) → map (λ x. line (f x)) zs ≡ map line (map f zs)
    each [] = refl
    each (z ∷ zs) = ap (λ (l : List Z). line (f z) ∷ l) (each zs)

-- ---- texts

-- the bytes of a text are those of its characters
pub encoded : (bytes : List ℕ) → IsUtf8 bytes → bytes ≡ encode_utf8_all (chars bytes)
encoded bytes fits = sym (encodes-chars bytes fits)

-- likewise of a text that is lent
pub encoded_of : (lent bytes : List ℕ) → IsUtf8 lent → lent ≡ bytes → lent ≡ encode_utf8_all (chars bytes)
encoded_of lent bytes fits same = encoded lent fits ∙ ap (λ (l : List ℕ). encode_utf8_all (chars l)) same

-- ---- names

-- a defined name and its text
abbrev pub Reported : Type 0
Reported = String Global × String Global

-- ---- sheets

sheets_from : {V : Type 0} (displayed : V → List Line) (ss : List SheetContent) (vs : List V) (i : ℕ) (s : SheetContent)
    → slice_get ss i ≡ Some s
    → each_sheet displayed (drop i ss) (drop i vs)
    ≡ (sheet_line s ∷ displayed_at displayed (slice_get vs i)) ++ each_sheet displayed (drop (suc i) ss) (drop (suc i) vs)
sheets_from displayed [] vs i s e = absurd (let n : None ≡ Some s = e in cc)
sheets_from displayed (t ∷ ss) [] zero s e =
    let same : t ≡ s = cc in ap (λ (x : SheetContent). sheet_line x ∷ each_sheet displayed ss []) same
sheets_from displayed (t ∷ ss) (v ∷ vs) zero s e =
    let same : t ≡ s = cc in ap (λ (x : SheetContent). sheet_line x ∷ displayed v ++ each_sheet displayed ss vs) same
sheets_from displayed (t ∷ ss) [] (suc i) s e =
    ap (λ (l : List _). each_sheet displayed (drop i ss) l) (sym (drop_nothing i))
    ∙ sheets_from displayed ss [] i s e
sheets_from displayed (t ∷ ss) (v ∷ vs) (suc i) s e = sheets_from displayed ss vs i s e

-- the sheets from an index on
pub sheets_step : {V : Type 0} (displayed : V → List Line) (ss : List SheetContent) (vs : List V) (i : ℕ) (s : SheetContent)
    → slice_get ss i ≡ Some s
    → each_sheet displayed (drop i ss) (drop i vs)
    ≡ (sheet_line s ∷ displayed_at displayed (slice_get vs i)) ++ each_sheet displayed (drop (i + 1) ss) (drop (i + 1) vs)
sheets_step displayed ss vs i s e =
    sheets_from displayed ss vs i s e
    ∙ ap (λ (n : ℕ). (sheet_line s ∷ displayed_at displayed (slice_get vs i)) ++ each_sheet displayed (drop n ss) (drop n vs)) (sym (add-one i))

pub sheets_end : {V : Type 0} (displayed : V → List Line) (ss : List SheetContent) (vs : List V) (i : ℕ) → length ss ≤ i
    → each_sheet displayed (drop i ss) (drop i vs) ≡ []
sheets_end displayed ss vs i l = ap (λ (x : List SheetContent). each_sheet displayed x (drop i vs)) (drop_all ss i l)

-- ---- formulas

-- the line of a formula whose text isn't empty
abbrev pub displayed_lines : FormulaEntry → List Line
displayed_lines f = map formula_line (nonempty_formulas (f ∷ []))

-- that of a formula by its tokens, where it may name these
abbrev pub token_lines : Context → List Formula → List Line
token_lines context fs = map formula_line (nonempty_formulas (map (text_entry context) fs))

formula_first : (f : FormulaEntry) (fs : List FormulaEntry)
    → map formula_line (nonempty_formulas (f ∷ fs)) ≡ displayed_lines f ++ map formula_line (nonempty_formulas fs)
formula_first (p, []) fs = refl
formula_first (p, c ∷ cs) fs = refl

-- the first of those that are left, and the others
pub formulas_step : (context : Context) (old left : List Formula) (f : Formula) → old ≡ f ∷ left
    → token_lines context old ≡ displayed_lines (text_entry context f) ++ token_lines context left
formulas_step context old left f e =
    ap (token_lines context) e ∙ formula_first (text_entry context f) (map (text_entry context) left)

-- one without a text has no line, and another one its line
pub formula_none : (p : Position) (text : List ℕ) → text ≡ [] → displayed_lines (p, text) ≡ []
formula_none p [] e = refl
formula_none p (c ∷ cs) e = absurd cc

pub formula_displayed : (p : Position) (text : List ℕ) → (text ≡ [] → ⊥) → formula_line (p, text) ∷ [] ≡ displayed_lines (p, text)
formula_displayed p [] h = absurd (h refl)
formula_displayed p (c ∷ cs) h = refl

-- no bytes spell no characters, and some bytes spell some
pub no_characters : (bytes : List ℕ) → true ≡ (length bytes == 0) → chars bytes ≡ []
no_characters [] e = chars-nil
no_characters (b ∷ bs) e = absurd (grind arith)

pub some_characters : (bytes : List ℕ) → IsUtf8 bytes → false ≡ (length bytes == 0) → chars bytes ≡ [] → ⊥
some_characters bytes fits e none =
    filled bytes e (sym (encodes-chars bytes fits) ∙ ap encode_utf8_all none)
  where
    filled : (bs : List ℕ) → false ≡ (length bs == 0) → bs ≡ [] → ⊥
    filled [] e f = grind arith
    filled (b ∷ bs) e f = cc

-- ---- lines by their characters

-- the line of a name and its text
pub named_line : (a b name text : List ℕ) → a ≡ encode_utf8_all name → b ≡ encode_utf8_all text
    → line (codes "name") (name_members a b) ∷ [] ≡ name_line (name, text) ∷ []
named_line a b name text p q = rw (p, q) refl

-- that of a sheet
pub sheet_named_line : (a : List ℕ) (s : SheetContent) → a ≡ encode_utf8_all s.name
    → line (codes "sheet") (sheet_members a s.typ s.visible) ∷ [] ≡ sheet_line s ∷ []
sheet_named_line a s p = rw p refl

-- that of a formula
pub spelled_line : (p : Position) (text : List ℕ) → IsUtf8 text
    → line (codes "formula") (formula_members p.0 p.1 text) ∷ [] ≡ formula_line (p, chars text) ∷ []
spelled_line p text fits =
    ap (λ (t : List ℕ). line (codes "formula") (formula_members p.0 p.1 t) ∷ []) (encoded text fits)

-- that of cells that are cited
pub cited_named_line : (a b name sheet : List ℕ) (formula : Position) (cells : Dimensions) → a ≡ encode_utf8_all name → b ≡ encode_utf8_all sheet
    → line (codes "ref") (ref_members a formula b cells) ∷ [] ≡ cited_line name formula sheet cells ∷ []
cited_named_line a b name sheet formula cells p q = rw (p, q) refl
