-- Records that begin with the position of their one cell.
use Rattle.std.proofs.Common.{◌≡◌, ℕ, ◌≤◌, inl, inr, List, [], ◌∷◌, length, drop, take, refl, sym, ap, ◌∙◌, arith, subst, Bool, true, false, Option, Some, None, Result, Ok, Err}
use Rattle.std.specs.Prelude.{◌==◌, ◌||◌, nat_lt, slice_index, IfSome}
use Rattle.std.specs.Option.{option_map}
use Rattle.std.specs.List.{AllByRecursion}
use Rattle.std.proofs.lemmas.Bool.{eqb-true, false≢true}
use Rattle.xls_bytes.specs.Numbers.{le}
use Rattle.xls_stream.specs.Substreams.{is_among}
use Rattle.xls_stream.specs.declared.part.Part.{Part}
use Rattle.xls_stream.specs.declared.part.Part.TheVariants as parts
use Rattle.xls_stream.specs.declared.types.TheConstants as types
use Rattle.xls_data.specs.Content.{Content, text}
use Rattle.xls_data.specs.Formatted.{formatted_number}
use Rattle.xls_dates.specs.declared.numbers.Number.TheVariants.{Bits}
use Rattle.xls_record.specs.declared.error.XlsError.{XlsError}
use Rattle.xls_record.specs.declared.error.XlsError.TheVariants.{Len}
use Rattle.xls_record.specs.Reading.{◌>>=◌, ◌>>◌, at_least, gives}
use Rattle.xls_record.proofs.ReadingLemmas.{gives-ok}
use Rattle.xls_strings.specs.Strings.{string_at}
use Rattle.xls_biff.specs.Cells.{CellEntry, Position, class_at, position_at}
use Rattle.xls_biff.specs.Records.BoolErr.{bes_content, bool_err_at}
use Rattle.xls_biff.specs.Records.Label.{label_at}
use Rattle.xls_biff.specs.Records.LabelSst.{label_sst_at, shared_entry}
use Rattle.xls_biff.specs.Records.Number.{number_at}
use Rattle.xls_biff.specs.Records.Rk.{rk_at, rk_content}
use Rattle.xls_biff.specs.SheetTable.{CellContext, SheetRecord, cell_record, cells_record, formula_position, shared_record, sheet_record_at}
use Rattle.xls_meaning.specs.SheetTable.{adds}
use Rattle.xls_formula.specs.Context.{Context}
use Rattle.xls_view.specs.Surveying.{IsOneCell, IsPlainCell, placed_types}

-- a body without a fault is so long, and what follows has none
begins : {X : Type 0} (n : ℕ) (part : Part) (body : List ℕ) (rest : Result X XlsError) (x : X) → (at_least n part body >> rest) ≡ Ok x
    → (n ≤ length body) × (rest ≡ Ok x)
begins {X} n part body rest x h = by_test (nat_lt (length body) n) refl
  where
    long : nat_lt (length body) n ≡ false → n ≤ length body
    long t = grind arith

    by_test : (t : Bool) → nat_lt (length body) n ≡ t → (n ≤ length body) × (rest ≡ Ok x)
    by_test true t = absurd (let e : ◌≡◌ {A = Result X XlsError} (Err (Len n (length body) part)) (Ok x) = rw t at h in cc)
    by_test false t = (long t, rw t at h)

-- the cell stands where the body begins
abbrev Stands : List ℕ → CellEntry → Type 0
Stands body e = (4 ≤ length body) × (position_at body ≡ e.0)

one_value : {X : Type 0} (f : X → Content) (body : List ℕ) (r : Result X XlsError) (e : CellEntry)
    → (r >>= (λ v. Ok (position_at body, f v))) ≡ Ok e → position_at body ≡ e.0
one_value f body (Ok v) e h =
    let same : (position_at body, f v) ≡ e = cc in ap (λ (x : CellEntry). x.0) same
one_value f body (Err x) e h = absurd cc

stands : {X : Type 0} (n : ℕ) (part : Part) (body : List ℕ) (f : X → Content) (r : Result X XlsError) (e : CellEntry) → 4 ≤ n
    → (at_least n part body >> (r >>= (λ v. Ok (position_at body, f v)))) ≡ Ok e → Stands body e
stands {X} n part body f r e l h =
    let rest : Result CellEntry XlsError = r >>= (λ v. Ok (position_at body, f v)) in
    let b = begins n part body rest e h in
    let long = b.0 in
    (omega (arith, l, long), one_value f body r e b.1)

-- its line gives one cell, which stands there
abbrev Line : ℕ → List ℕ → Type 0
Line typ body = (s : CellContext) (g : SheetRecord) → sheet_record_at s typ body ≡ Ok g
    → (e : CellEntry) × Stands body e × (g ≡ cells_record (e ∷ []))

by_reader : (body : List ℕ) (g : SheetRecord) (r : Result CellEntry XlsError) → ((e : CellEntry) → r ≡ Ok e → Stands body e)
    → gives cell_record r ≡ Ok g → (e : CellEntry) × Stands body e × (g ≡ cells_record (e ∷ []))
by_reader body g r k h = let x = gives-ok cell_record r g h in (x.0, k x.0 x.1, sym x.2)

number_line : (body : List ℕ) → Line types.NUMBER body
number_line body s g h = by_reader body g (number_at s.classes s.is_1904 body) (λ e f.
    stands 14 parts.Number body (λ (v : Content). v) (Ok (formatted_number (class_at s.classes body) (Bits (le (take 8 (drop 6 body)))) s.is_1904)) e (omega arith) f) h

rk_line : (body : List ℕ) → Line types.RK body
rk_line body s g h = by_reader body g (rk_at s.classes s.is_1904 body) (λ e f.
    stands 10 parts.Rk body (λ (v : Content). v) (Ok (rk_content (class_at s.classes body) (le (take 4 (drop 6 body))) s.is_1904)) e (omega arith) f) h

bool_err_line : (body : List ℕ) → Line types.BOOL_ERR body
bool_err_line body s g h = by_reader body g (bool_err_at body) (λ e f.
    stands 8 parts.BoolErr body (λ (v : Content). v) (bes_content (slice_index body 6) (slice_index body 7)) e (omega arith) f) h

label_line : (body : List ℕ) → Line types.LABEL body
label_line body s g h = by_reader body g (label_at s.page s.version body) (λ e f.
    stands 6 parts.Label body text (string_at s.page s.version (drop 6 body)) e (omega arith) f) h

r_string_line : (body : List ℕ) → Line types.R_STRING body
r_string_line body s g h = by_reader body g (label_at s.page s.version body) (λ e f.
    stands 6 parts.Label body text (string_at s.page s.version (drop 6 body)) e (omega arith) f) h

by_line : (s : CellContext) (typ : ℕ) (body : List ℕ) → Line typ body → (typ ≡ types.MERGE_CELLS → ⊥) → (place : Option Position)
    → (4 ≤ length body → place ≡ Some (position_at body)) → IfSome place (IsPlainCell s (record { typ = typ; body = body }))
by_line s typ body line apart None is = tt
by_line s typ body line apart (Some p) is = record {
  one = λ g h.
      let l = line s g h in
      let there : Some p ≡ Some (position_at body) = is l.1.0 in
      let here : p ≡ position_at body = cc in
      (l.0.1, inl (l.2 ∙ ap (λ (q : Position). cells_record ((q, l.0.1) ∷ [])) (sym (here ∙ l.1.1))));
  apart = apart;
}

-- what all types of a list have
among : (P : ℕ → Type 0) (typ : ℕ) (ts : List ℕ) → is_among typ ts ≡ true → AllByRecursion P ts → P typ
among P typ [] h all = absurd (false≢true h)
among P typ (t ∷ ts) h all = by_test (typ == t) refl h (λ g. among P typ ts g all.1)
  where
    by_test : (b : Bool) → (typ == t) ≡ b → (b || is_among typ ts) ≡ true → (is_among typ ts ≡ true → P typ) → P typ
    by_test true e g later = subst P (sym (eqb-true typ t e)) all.0
    by_test false e g later = later g

-- their lines give one cell each, which stands where the body begins
each_placed : AllByRecursion (λ typ. (body : List ℕ) → Line typ body) placed_types
each_placed = (number_line, (rk_line, (bool_err_line, (label_line, (r_string_line, tt)))))

pub plain_placed : (s : CellContext) (typ : ℕ) (body : List ℕ) (place : Option Position) → (4 ≤ length body → place ≡ Some (position_at body))
    → is_among typ placed_types ≡ true → IfSome place (IsPlainCell s (record { typ = typ; body = body }))
plain_placed s typ body place is h =
    by_line s typ body (among (λ t. (b : List ℕ) → Line t b) typ placed_types h each_placed body) apart place is
  where
    apart : typ ≡ types.MERGE_CELLS → ⊥
    apart m = false≢true (subst (λ (t : ℕ). is_among t placed_types ≡ true) m h)

-- ---- a LabelSst

by_entry : (s : CellContext) (body : List ℕ) (place : Option Position) (c : Option CellEntry)
    → label_sst_at s.strings body ≡ Ok c → place ≡ option_map (λ (e : CellEntry). e.0) c
    → IfSome place (IsPlainCell s (record { typ = types.LABEL_SST; body = body }))
by_entry s body None c read is = tt
by_entry s body (Some p) None read is = absurd cc
by_entry s body (Some p) (Some e) read is = record {
  one = λ g h.
      let line : gives shared_record (label_sst_at s.strings body) ≡ Ok g = h in
      let same : ◌≡◌ {A = Result SheetRecord XlsError} (Ok (shared_record (Some e))) (Ok g) = rw read at line in
      let here : p ≡ e.0 = cc in
      (e.1, inr (rw here cc));
  apart = λ m. absurd (omega (arith, m));
}

-- its cell stands where it begins, if the table has its text
pub plain_label_sst : (s : CellContext) (body : List ℕ) (place : Option Position) (x : Position × ℕ)
    → label_sst_at s.strings body ≡ Ok (shared_entry s.strings x)
    → place ≡ option_map (λ (e : CellEntry). e.0) (shared_entry s.strings x)
    → IfSome place (IsPlainCell s (record { typ = types.LABEL_SST; body = body }))
plain_label_sst s body place x read is = by_entry s body place (shared_entry s.strings x) read is

-- ---- what one cell adds

pub one_added : (c : Context) (at : Position) (g : SheetRecord) (e : CellEntry) → IsOneCell g e → e ∷ [] ≡ (adds c at g).cells
one_added c at g e (inl is) = rw is refl
one_added c at g e (inr is) = rw is refl

pub one_without_formula : (g : SheetRecord) (e : CellEntry) → IsOneCell g e → None ≡ formula_position g
one_without_formula g e (inl is) = rw is refl
one_without_formula g e (inr is) = rw is refl
