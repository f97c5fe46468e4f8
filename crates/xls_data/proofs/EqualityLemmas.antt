-- Equality of values is equality of contents.
use Rattle.std.proofs.Common.{◌≡◌, sym, true≢false, eqb, ℕ, List, refl, ap, ◌∙◌, Bool, true, false, String, Global}
use Rattle.std.specs.Str.{chars}
use Rattle.std.specs.Bool.{Decides}
use Rattle.std.proofs.lemmas.Bool.{eq-eqb}
use Rattle.std.specs.String.{string_bytes}
use Rattle.std.proofs.lemmas.Str.{IsUtf8-string_bytes}
use Rattle.std.proofs.lemmas.Bool.Decides.{Decides-eqb, Decides-int_eq, Decides-like, Decides-and}
use Rattle.std.specs.Cmp.{booleans_Decides}
use Rattle.std.proofs.lemmas.Slice.Eq.{bytes_eq-Decides}
use Rattle.xls_data.proofs.TextLemmas.{chars_injective}
use Rattle.xls_data.specs.Content.{Content, int, float, text, truth, date, iso_date, iso_duration, failure, nothing}
use Rattle.xls_data.specs.Data.{content_of}
use Rattle.xls_dates.specs.Dates.{DateParts}
use Rattle.xls_dates.specs.declared.numbers.Number.{Number}
use Rattle.xls_dates.specs.declared.numbers.Number.TheVariants as number
use Rattle.xls_dates.specs.contracts.numbers.NumberPartialEq.TheImpl as number_impl
use Rattle.xls_dates.specs.declared.dates.ExcelDateTimeType.{ExcelDateTimeType}
use Rattle.xls_dates.specs.declared.dates.ExcelDateTimeType.TheVariants as kind
use Rattle.xls_dates.specs.contracts.dates.ExcelDateTimeTypePartialEq.TheImpl as kind_impl
use Rattle.xls_dates.specs.contracts.dates.ExcelDateTimePartialEq.TheImpl as date_impl
use Rattle.xls_data.specs.declared.errors.CellErrorType.{CellErrorType}
use Rattle.xls_data.specs.declared.errors.CellErrorType.TheVariants as error
use Rattle.xls_data.specs.contracts.errors.CellErrorTypePartialEq.TheImpl as error_impl
use Rattle.xls_data.specs.Sheets.{SheetContent, sheet_content}
use Rattle.xls_data.specs.declared.sheets.Sheet.{Sheet}
use Rattle.xls_data.specs.declared.sheets.SheetType.{SheetType}
use Rattle.xls_data.specs.declared.sheets.SheetType.TheVariants as sheet_kind
use Rattle.xls_data.specs.declared.sheets.SheetVisible.{SheetVisible}
use Rattle.xls_data.specs.declared.sheets.SheetVisible.TheVariants as visible
use Rattle.xls_data.specs.contracts.sheets.SheetPartialEq.TheImpl as sheet_impl
use Rattle.xls_data.specs.contracts.sheets.SheetTypePartialEq.TheImpl as sheet_kind_impl
use Rattle.xls_data.specs.contracts.sheets.SheetVisiblePartialEq.TheImpl as visible_impl
use Rattle.xls_data.specs.Refs.{ref_content_of, is_shared, HasText}
use Rattle.xls_data.specs.declared.refs.DataRef.{DataRef}
use Rattle.xls_data.specs.declared.refs.DataRef.TheVariants as shared
use Rattle.xls_data.specs.contracts.refs.DataRefPartialEq.TheImpl as ref_impl
use Rattle.xls_data.specs.declared.values.Data.{Data}
use Rattle.xls_data.specs.declared.values.Data.TheVariants as variant
use Rattle.xls_data.specs.contracts.values.DataPartialEq.TheImpl as data_impl

-- values whose places among the kinds differ are different
module _ {X : Type 0} (place : X → ℕ) (x y : X) where
  apart : eqb (place x) (place y) ≡ false → x ≡ y → false ≡ true
  apart h e = sym h ∙ eq-eqb _ _ (ap place e)

pub number_decides : (a b : Number) → Decides (number_impl.ghosts.eq a b) (a ≡ b)
number_decides (number.Whole m) (number.Whole n) = Decides-like _ (λ e. ap number.Whole e) (λ e. cc) (Decides-int_eq m n)
number_decides (number.Bits m) (number.Bits n) = Decides-like _ (λ e. ap number.Bits e) (λ e. cc) (Decides-eqb m n)
number_decides (number.Hundredths m) (number.Hundredths n) = Decides-like _ (λ e. ap number.Hundredths e) (λ e. cc) (Decides-int_eq m n)
number_decides (number.BitsOver100 m) (number.BitsOver100 n) = Decides-like _ (λ e. ap number.BitsOver100 e) (λ e. cc) (Decides-eqb m n)
number_decides a b = (λ e. absurd (true≢false (sym e)), λ e. cc)

pub kind_decides : (a b : ExcelDateTimeType) → Decides (kind_impl.ghosts.eq a b) (a ≡ b)
kind_decides kind.DateTime kind.DateTime = (λ e. refl, λ e. refl)
kind_decides kind.TimeDelta kind.TimeDelta = (λ e. refl, λ e. refl)
kind_decides a b = (λ e. absurd (true≢false (sym e)), λ e. cc)

abbrev error_place : CellErrorType → ℕ
error_place error.Div0 = 0
error_place error.NA = 1
error_place error.Name = 2
error_place error.Null = 3
error_place error.Num = 4
error_place error.Ref = 5
error_place error.Value = 6
error_place error.GettingData = 7

pub error_decides : (a b : CellErrorType) → Decides (error_impl.ghosts.eq a b) (a ≡ b)
error_decides error.Div0 error.Div0 = (λ e. refl, λ e. refl)
error_decides error.NA error.NA = (λ e. refl, λ e. refl)
error_decides error.Name error.Name = (λ e. refl, λ e. refl)
error_decides error.Null error.Null = (λ e. refl, λ e. refl)
error_decides error.Num error.Num = (λ e. refl, λ e. refl)
error_decides error.Ref error.Ref = (λ e. refl, λ e. refl)
error_decides error.Value error.Value = (λ e. refl, λ e. refl)
error_decides error.GettingData error.GettingData = (λ e. refl, λ e. refl)
error_decides a b = (λ e. absurd (true≢false (sym e)), apart error_place _ _ refl)

pub same_parts : (a b : DateParts) → (a.number ≡ b.number) × (a.kind ≡ b.kind) × (a.is_1904 ≡ b.is_1904) → a ≡ b
same_parts a b h =
    let built : Number → ExcelDateTimeType → Bool → DateParts = λ n k e. record { number = n; kind = k; is_1904 = e } in
    ap (λ n. built n a.kind a.is_1904) h.0 ∙ ap (λ k. built b.number k a.is_1904) h.1 ∙ ap (λ e. built b.number b.kind e) h.2

pub parts_decides : (a b : DateParts) → Decides (date_impl.ghosts.eq a b) (a ≡ b)
parts_decides a b =
    let all = Decides-and _ _ (number_decides a.number b.number) (Decides-and _ _ (kind_decides a.kind b.kind) (booleans_Decides a.is_1904 b.is_1904)) in
    Decides-like _ (λ e. same_parts a b (e.0, e.1.0, e.1.1)) (λ e. (ap (λ (d : DateParts). d.number) e, (ap (λ (d : DateParts). d.kind) e, ap (λ (d : DateParts). d.is_1904) e))) all

-- texts with the same characters have the same bytes
pub string_chars_injective : (a b : String Global) → chars (string_bytes a) ≡ chars (string_bytes b) → string_bytes a ≡ string_bytes b
string_chars_injective a b e = chars_injective _ _ (IsUtf8-string_bytes a) (IsUtf8-string_bytes b) e

-- the place of a content among the kinds
abbrev kind_of : Content → ℕ
kind_of (int _) = 0
kind_of (float _) = 1
kind_of (text _) = 2
kind_of (truth _) = 3
kind_of (date _) = 4
kind_of (iso_date _) = 5
kind_of (iso_duration _) = 6
kind_of (failure _) = 7
kind_of nothing = 8

pub data_decides : (a b : Data) → Decides (data_impl.ghosts.eq a b) (content_of a ≡ content_of b)
data_decides (variant.Int m) (variant.Int n) = Decides-like _ (λ e. ap int e) (λ e. cc) (Decides-int_eq m n)
data_decides (variant.Float m) (variant.Float n) = Decides-like _ (λ e. ap float e) (λ e. cc) (number_decides m n)
data_decides (variant.String m) (variant.String n) = Decides-like _ (λ e. ap (λ bs. text (chars bs)) e) (λ e. string_chars_injective m n (cc e)) (bytes_eq-Decides (string_bytes m) (string_bytes n))
data_decides (variant.Bool m) (variant.Bool n) = Decides-like _ (λ e. ap truth e) (λ e. cc) (booleans_Decides m n)
data_decides (variant.DateTime m) (variant.DateTime n) = Decides-like _ (λ e. ap date e) (λ e. cc) (parts_decides m n)
data_decides (variant.DateTimeIso m) (variant.DateTimeIso n) = Decides-like _ (λ e. ap (λ bs. iso_date (chars bs)) e) (λ e. string_chars_injective m n (cc e)) (bytes_eq-Decides (string_bytes m) (string_bytes n))
data_decides (variant.DurationIso m) (variant.DurationIso n) = Decides-like _ (λ e. ap (λ bs. iso_duration (chars bs)) e) (λ e. string_chars_injective m n (cc e)) (bytes_eq-Decides (string_bytes m) (string_bytes n))
data_decides (variant.Error m) (variant.Error n) = Decides-like _ (λ e. ap failure e) (λ e. cc) (error_decides m n)
data_decides variant.Empty variant.Empty = (λ e. refl, λ e. refl)
data_decides a b = (λ e. absurd (true≢false (sym e)), apart kind_of _ _ refl)

-- equal contents, and both texts shared or neither
module _ (t : Bool) {C : Type 0} (x y : C) (b : Bool) where
  beside : Decides t (x ≡ y) → Decides t ((x ≡ y) × (b ≡ b))
  beside d = (λ e. (d.0 e, refl), λ e. d.1 e.0)

pub ref_decides : (a b : DataRef) → HasText a → HasText b → Decides (ref_impl.ghosts.eq a b) ((ref_content_of a ≡ ref_content_of b) × (is_shared a ≡ is_shared b))
ref_decides (shared.Int m) (shared.Int n) u v = beside _ _ _ _ (Decides-like _ (λ e. ap int e) (λ e. cc) (Decides-int_eq m n))
ref_decides (shared.Float m) (shared.Float n) u v = beside _ _ _ _ (Decides-like _ (λ e. ap float e) (λ e. cc) (number_decides m n))
ref_decides (shared.String m) (shared.String n) u v = beside _ _ _ _ (Decides-like _ (λ e. ap (λ bs. text (chars bs)) e) (λ e. string_chars_injective m n (cc e)) (bytes_eq-Decides (string_bytes m) (string_bytes n)))
ref_decides (shared.String m) (shared.SharedString n) u v = (λ e. absurd (true≢false (sym e)), λ e. e.1)
ref_decides (shared.SharedString m) (shared.String n) u v = (λ e. absurd (true≢false (sym e)), λ e. sym e.1)
ref_decides (shared.SharedString m) (shared.SharedString n) u v = beside _ _ _ _ (Decides-like _ (λ e. ap (λ bs. text (chars bs)) e) (λ e. chars_injective m.now n.now u v (cc e)) (bytes_eq-Decides m.now n.now))
ref_decides (shared.Bool m) (shared.Bool n) u v = beside _ _ _ _ (Decides-like _ (λ e. ap truth e) (λ e. cc) (booleans_Decides m n))
ref_decides (shared.DateTime m) (shared.DateTime n) u v = beside _ _ _ _ (Decides-like _ (λ e. ap date e) (λ e. cc) (parts_decides m n))
ref_decides (shared.DateTimeIso m) (shared.DateTimeIso n) u v = beside _ _ _ _ (Decides-like _ (λ e. ap (λ bs. iso_date (chars bs)) e) (λ e. string_chars_injective m n (cc e)) (bytes_eq-Decides (string_bytes m) (string_bytes n)))
ref_decides (shared.DurationIso m) (shared.DurationIso n) u v = beside _ _ _ _ (Decides-like _ (λ e. ap (λ bs. iso_duration (chars bs)) e) (λ e. string_chars_injective m n (cc e)) (bytes_eq-Decides (string_bytes m) (string_bytes n)))
ref_decides (shared.Error m) (shared.Error n) u v = beside _ _ _ _ (Decides-like _ (λ e. ap failure e) (λ e. cc) (error_decides m n))
ref_decides shared.Empty shared.Empty u v = (λ e. (refl, refl), λ e. refl)
ref_decides a b u v = (λ e. absurd (true≢false (sym e)), λ e. apart kind_of _ _ refl e.0)

sheet_kind_decides : (a b : SheetType) → Decides (sheet_kind_impl.ghosts.eq a b) (a ≡ b)
sheet_kind_decides sheet_kind.WorkSheet sheet_kind.WorkSheet = (λ e. refl, λ e. refl)
sheet_kind_decides sheet_kind.DialogSheet sheet_kind.DialogSheet = (λ e. refl, λ e. refl)
sheet_kind_decides sheet_kind.MacroSheet sheet_kind.MacroSheet = (λ e. refl, λ e. refl)
sheet_kind_decides sheet_kind.ChartSheet sheet_kind.ChartSheet = (λ e. refl, λ e. refl)
sheet_kind_decides sheet_kind.Vba sheet_kind.Vba = (λ e. refl, λ e. refl)
sheet_kind_decides a b = (λ e. absurd (true≢false (sym e)), λ e. cc)

visible_decides : (a b : SheetVisible) → Decides (visible_impl.ghosts.eq a b) (a ≡ b)
visible_decides visible.Visible visible.Visible = (λ e. refl, λ e. refl)
visible_decides visible.Hidden visible.Hidden = (λ e. refl, λ e. refl)
visible_decides visible.VeryHidden visible.VeryHidden = (λ e. refl, λ e. refl)
visible_decides a b = (λ e. absurd (true≢false (sym e)), λ e. cc)

same_sheet : (a b : Sheet) → (string_bytes a.name ≡ string_bytes b.name) × (a.typ ≡ b.typ) × (a.visible ≡ b.visible) → sheet_content a ≡ sheet_content b
same_sheet a b h =
    let built : List ℕ → SheetType → SheetVisible → SheetContent = λ n t v. record { name = chars n; typ = t; visible = v } in
    ap (λ n. built n a.typ a.visible) h.0 ∙ ap (λ t. built (string_bytes b.name) t a.visible) h.1 ∙ ap (λ v. built (string_bytes b.name) b.typ v) h.2

pub sheet_decides : (a b : Sheet) → Decides (sheet_impl.ghosts.eq a b) (sheet_content a ≡ sheet_content b)
sheet_decides a b =
    let all = Decides-and _ _ (bytes_eq-Decides (string_bytes a.name) (string_bytes b.name)) (Decides-and _ _ (sheet_kind_decides a.typ b.typ) (visible_decides a.visible b.visible)) in
    Decides-like _ (λ e. same_sheet a b (e.0, e.1.0, e.1.1))
    (λ e. (string_chars_injective a.name b.name (ap (λ (s : SheetContent). s.name) e), (ap (λ (s : SheetContent). s.typ) e, ap (λ (s : SheetContent). s.visible) e))) all
