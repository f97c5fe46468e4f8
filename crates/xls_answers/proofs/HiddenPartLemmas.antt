-- What is hidden in a sheet, by where its part begins, and by its name.
use Rattle.std.proofs.Common.{◌≡◌, ℕ, zero, suc, ◌+◌, ◌<◌, List, [], ◌∷◌, length, get_or, drop, Option, Some, Result, Ok, Err, arith, slice_get, refl, subst, sym, ap, ◌∙◌, map, rules}
use Rattle.std.specs.Str.{chars}
use Rattle.std.specs.String.{string_bytes}
use Rattle.std.proofs.lemmas.List.{length-map}
use Rattle.xls_data.specs.Sheets.{SheetContent, sheet_content}
use Rattle.xls_data.specs.declared.sheets.Sheet.{Sheet}
use Rattle.std.specs.Prelude.{IfOk}
use Rattle.xls_hidden.specs.FilterAreas.{first_area}
use Rattle.xls_hidden.specs.Hidden.{Hidden, IsHiddenIn, said_in}
use Rattle.xls_hidden.specs.declared.lines.FilterArea.{FilterArea}
use Rattle.xls_record.specs.declared.version.Biff.{Biff}
use Rattle.xls_parts.specs.PartRecords.{globals_records}
use Rattle.xls_view.specs.Viewing.{Viewed}
use Rattle.xls_answers.specs.LastNamed.{last_named_from}
use Rattle.xls_answers.specs.HiddenParts.{IsHiddenAt, IsHiddenOf, IsHiddenPart, IsLastOf, Parts}

pub part_read : {E : Type 0} (parts : Parts) (index offset : ℕ) (version : Biff) (area : Option FilterArea) (part : List ℕ) (r : Result Hidden E)
    → version ≡ parts.globals.version → area ≡ first_area parts.globals.version index (globals_records parts.stream)
    → part ≡ drop offset parts.stream → IfOk r (IsHiddenIn version area (said_in version offset part))
    → IfOk r (IsHiddenPart parts index offset)
part_read parts index offset version area part (Ok hidden) v e f h =
    subst (λ (a : Option FilterArea). IsHiddenIn parts.globals.version a (said_in parts.globals.version offset (drop offset parts.stream)) hidden) e
    (subst (λ (w : Biff). IsHiddenIn w area (said_in w offset (drop offset parts.stream)) hidden) v
    (subst (λ (p : List ℕ). IsHiddenIn version area (said_in version offset p) hidden) f h))
part_read parts index offset version area part (Err x) v e f h = tt

pub found_at : {E : Type 0} (parts : Parts) (view : Viewed) (n : ℕ) (last : Option ℕ) (r : Result (Option Hidden) E) → IsLastOf view n last
    → IfOk r (IsHiddenOf parts last) → IfOk r (IsHiddenAt parts view n)
found_at parts view n last (Ok hidden) is h = (last, is, h)
found_at parts view n last (Err x) is h = tt

-- the element at a place
at_index : {X Y : Type 0} (f : X → Y) (x : X) (zs : List X) (k : ℕ) → k < length zs → x ≡ get_or zs k x → slice_get (map f zs) k ≡ Some (f x)
at_index f x [] k l e = absurd (omega arith)
at_index {X} f x (z ∷ zs) zero l e = ap (λ (w : X). Some (f w)) (sym e)
at_index f x (z ∷ zs) (suc k) l e = at_index f x zs k (omega arith) e

pub last_is : (view : Viewed) (sheets : List Sheet) (i : ℕ) (s : Sheet) (name : List ℕ) (last : Option ℕ) → i < length view.book.sheets
    → map sheet_content sheets ≡ view.book.sheets → s ≡ get_or sheets i s → name ≡ string_bytes s.name
    → last ≡ last_named_from 0 (chars name) (map sheet_content sheets) → IsLastOf view i last
last_is view sheets i s name last l same here named is = (
  sheet_content s,
  ap (λ (ss : List SheetContent). slice_get ss i) (sym same)
      ∙ at_index sheet_content s sheets i (subst (λ (n : ℕ). i < n) (ap length (sym same) ∙ length-map _ _) l) here,
  is ∙ (ap (λ (ss : List SheetContent). last_named_from 0 (chars name) ss) same ∙ ap (λ (t : List ℕ). last_named_from 0 (chars t) view.book.sheets) named),
)
