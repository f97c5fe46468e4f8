-- The part of the last sheet of each name.
use Rattle.std.proofs.Common.{◌≡◌, ℕ, zero, suc, ◌+◌, ◌<◌, ◌≤◌, List, [], ◌∷◌, length, map, drop, drop-cons, add-one, get_or, refl, sym, ap, ◌∙◌, arith, Bool, true, false, cond, Option, Some, None}
use Rattle.std.specs.Prelude.{◌==◌, if◌then◌else◌, encode_utf8_all}
use Rattle.std.specs.Bool.{one_answer}
use Rattle.std.specs.Option.{option_or}
use Rattle.std.specs.String.{string_bytes}
use Rattle.std.specs.Str.{chars, bytes_eq, IsUtf8}
use Rattle.std.specs.Cmp.Lexicographic.{pointwise}
use Rattle.std.proofs.lemmas.Slice.Eq.{bytes_eq-Decides}
use Rattle.std.proofs.lemmas.Str.{encodes-chars, IsUtf8-string_bytes}
use Rattle.xls_record.specs.declared.version.Biff.{Biff}
use Rattle.xls_hidden.specs.FilterAreas.{first_area}
use Rattle.xls_parts.specs.PartRecords.{Placed}
use Rattle.xls_hidden.specs.declared.lines.FilterArea.{FilterArea}
use Rattle.xls_meaning.specs.Reading.{last_named}
use Rattle.xls_open.specs.Globals.{listed_of}
use Rattle.xls_open.specs.declared.listed.Listed.{Listed}
use Rattle.xls_beside.specs.Parts.{parts_from}
use Rattle.xls_beside.specs.declared.parts.SheetPart.{SheetPart}

-- texts have the same bytes exactly where they have the same characters
same_text : (a b : List ℕ) → IsUtf8 a → IsUtf8 b → bytes_eq a b ≡ pointwise ◌==◌ (chars a) (chars b)
same_text a b u v = one_answer {P = a ≡ b} (bytes_eq a b) (pointwise ◌==◌ (chars a) (chars b)) (bytes_eq-Decides a b) (
  λ t. sym (encodes-chars a u) ∙ ap encode_utf8_all ((bytes_eq-Decides (chars a) (chars b)).0 t)
      ∙ encodes-chars b v,
  λ e. (bytes_eq-Decides (chars a) (chars b)).1 (ap chars e),
)

-- the parts of the sheets from an index on, or else those that a map has, are those of all
abbrev pub HasPartsBefore : (List ℕ → Option SheetPart) → Biff → List Placed → List Listed → ℕ → Type 0
HasPartsBefore found version globals sheets i =
    (name : List ℕ) → IsUtf8 name
    → option_or (last_named (parts_from version globals i (map listed_of (drop i sheets))) (chars name)) (found name)
    ≡ last_named (parts_from version globals 0 (map listed_of sheets)) (chars name)

or_none : (x : Option SheetPart) → option_or x None ≡ x
or_none None = refl
or_none (Some p) = refl

pub parts_first : (found : List ℕ → Option SheetPart) (version : Biff) (globals : List Placed) (sheets : List Listed)
    → ((name : List ℕ) → found name ≡ None) → HasPartsBefore found version globals sheets 0
parts_first found version globals sheets none name fits =
    let all = last_named (parts_from version globals 0 (map listed_of sheets)) (chars name) in
    ap (option_or all) (none name) ∙ or_none all

by_test : (later before : Option SheetPart) (part : SheetPart) (same : Bool)
    → option_or later (cond same (Some part) before) ≡ option_or (option_or later (if same then Some part else None)) before
by_test None before part true = refl
by_test None before part false = refl
by_test (Some p) before part same = refl

pub part_with : (offset : ℕ) {a b : Option FilterArea} → a ≡ b
    → ◌≡◌ {A = SheetPart} (record { offset = offset; area = a }) (record { offset = offset; area = b })
part_with offset e = ap (λ (area : Option FilterArea). record { offset = offset; area = area }) e

-- one more sheet
pub parts_next : (old new : List ℕ → Option SheetPart) (version : Biff) (globals : List Placed) (sheets : List Listed) (i : ℕ) (l : Listed)
    (text : List ℕ) (part : SheetPart) → i < length sheets → l ≡ get_or sheets i l → text ≡ string_bytes l.sheet.name
    → part ≡ record { offset = l.offset; area = first_area version i globals }
    → ((name : List ℕ) → new name ≡ cond (bytes_eq text name) (Some part) (old name))
    → HasPartsBefore old version globals sheets i → HasPartsBefore new version globals sheets (i + 1)
parts_next old new version globals sheets i l text part within is named part_is puts had name fits =
    let later = last_named (parts_from version globals (i + 1) (map listed_of (drop (i + 1) sheets))) (chars name) in
    let rest : drop i sheets ≡ l ∷ drop (i + 1) sheets =
    rw add-one (drop-cons sheets i l within) ∙ ap (λ (x : Listed). x ∷ drop (i + 1) sheets) (sym is) in
    let bytes = string_bytes l.sheet.name in
    let same = same_text bytes name (IsUtf8-string_bytes l.sheet.name) fits in
    ap (option_or later) (puts name)
    ∙ ap (λ (t : List ℕ). option_or later (cond (bytes_eq t name) (Some part) (old name))) named
    ∙ by_test later (old name) part (bytes_eq bytes name)
    ∙ ap (λ (b : Bool). option_or (option_or later (if b then Some part else None)) (old name)) same
    ∙ ap (λ (p : SheetPart). option_or (option_or later (if pointwise ◌==◌ (chars bytes) (chars name) then Some p else None)) (old name)) part_is
    ∙ ap (λ (ls : List Listed). option_or (last_named (parts_from version globals i (map listed_of ls)) (chars name)) (old name)) (sym rest)
    ∙ had name fits

drop_all : {X : Type 0} (xs : List X) (k : ℕ) → length xs ≤ k → drop k xs ≡ []
drop_all [] zero l = refl
drop_all [] (suc k) l = refl
drop_all (x ∷ xs) zero l = absurd (omega arith)
drop_all (x ∷ xs) (suc k) l = drop_all xs k (omega arith)

-- after the last
pub parts_all : (found : List ℕ → Option SheetPart) (version : Biff) (globals : List Placed) (sheets : List Listed) (i : ℕ)
    → length sheets ≤ i → HasPartsBefore found version globals sheets i → (name : List ℕ) → IsUtf8 name
    → found name ≡ last_named (parts_from version globals 0 (map listed_of sheets)) (chars name)
parts_all found version globals sheets i end had name fits =
    ap (λ (ls : List Listed). option_or (last_named (parts_from version globals i (map listed_of ls)) (chars name)) (found name)) (sym (drop_all sheets i end))
    ∙ had name fits
