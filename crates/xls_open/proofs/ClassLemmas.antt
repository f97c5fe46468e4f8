-- The class of an identifier among the first so many.
use Rattle.std.proofs.Common.{◌≡◌, ℕ, ◌+◌, ◌<◌, String, List, [], ◌∷◌, ◌++◌, length, map, take, get_or, refl, sym, ap, ◌∙◌, Bool, true, false, cond, Option, Some, None}
use Rattle.std.specs.Prelude.{◌==◌, if◌then◌else◌, unwrap_or}
use Rattle.std.specs.Global.{Global}
use Rattle.std.specs.Option.{option_or}
use Rattle.std.proofs.lemmas.List.{append-nil, map-append, take_more}
use Rattle.xls_dates.specs.Classes.{class_of}
use Rattle.xls_strings.specs.Texts.{text_of}
use Rattle.xls_biff.specs.Records.Format.{class_from, is_format_id}
use Rattle.xls_meaning.specs.Order.{somes}
use Rattle.xls_meaning.proofs.OrderLemmas.{somes-append}
use Rattle.xls_open.specs.Workbook.{code_texts}
use Rattle.xls_dates.specs.Builtin.{class_of_code}
use Rattle.xls_dates.specs.declared.formats.CellFormat.{CellFormat}
use Rattle.xls_meaning.specs.Settings.{last_class, class_in, classed}

-- ---- formats

class_push : (fs : List (ℕ × CellFormat)) (f : ℕ × CellFormat) (q : ℕ)
    → last_class (fs ++ f ∷ []) q ≡ cond (f.0 == q) (Some f.1) (last_class fs q)
class_push [] f q = by_test (f.0 == q)
  where
    by_test : (b : Bool) → (if b then Some f.1 else None) ≡ cond b (Some f.1) None
    by_test true = refl
    by_test false = refl
class_push (g ∷ fs) f q =
    rw (class_push fs f q) (by_test (f.0 == q) (last_class fs q) (if g.0 == q then Some g.1 else None))
  where
    by_test : (b : Bool) (o p : Option CellFormat)
        → option_or (cond b (Some f.1) o) p ≡ cond b (Some f.1) (option_or o p)
    by_test true o p = refl
    by_test false o p = refl

module _ (fs : List (ℕ × CellFormat)) (f : ℕ × String Global) (old new : ℕ → Option CellFormat) (had : (q : ℕ) → old q ≡ last_class fs q) where
  -- where the map had these classes, it has them and that of one more format
  pub class_put : (class : CellFormat) → is_format_id f.0 ≡ true → class ≡ class_of (text_of f.1)
      → ((q : ℕ) → new q ≡ cond (f.0 == q) (Some class) (old q))
      → (q : ℕ) → new q ≡ last_class (fs ++ classed (code_texts f ∷ [])) q
  class_put class counts is puts q =
      puts q
      ∙ ap (λ (c : CellFormat). cond (f.0 == q) (Some c) (old q)) is
      ∙ ap (cond (f.0 == q) (Some (class_of (text_of f.1)))) (had q)
      ∙ sym (class_push fs (f.0, class_of (text_of f.1)) q)
      ∙ ap (λ (b : Bool). last_class (fs ++ somes ((if b then Some (f.0, class_of (text_of f.1)) else None) ∷ [])) q) (sym counts)

  -- and those alone, where no class hangs on it
  pub class_kept : is_format_id f.0 ≡ false → new ≡ old → (q : ℕ) → new q ≡ last_class (fs ++ classed (code_texts f ∷ [])) q
  class_kept passed same q =
      ap (λ (m : ℕ → Option CellFormat). m q) same ∙ had q
      ∙ ap (λ (x : List (ℕ × CellFormat)). last_class x q) (sym (append-nil fs))
      ∙ ap (λ (b : Bool). last_class (fs ++ somes ((if b then Some (f.0, class_of (text_of f.1)) else None) ∷ [])) q) (sym passed)

-- the classes of one format more
pub classed_more : (fs : List (ℕ × String Global)) (i : ℕ) {f : ℕ × String Global} → i < length fs → f ≡ get_or fs i f
    → classed (map code_texts (take i fs)) ++ classed (code_texts f ∷ []) ≡ classed (map code_texts (take (i + 1) fs))
classed_more fs i {f} l is =
    let so_far = map class_from (map code_texts (take i fs)) in
    sym (somes-append so_far (class_from (code_texts f) ∷ []))
    ∙ ap somes (sym (map-append class_from (map code_texts (take i fs)) (code_texts f ∷ [])))
    ∙ ap classed (sym (map-append code_texts (take i fs) (f ∷ [])))
    ∙ ap (λ (g : ℕ × String Global). classed (map code_texts (take i fs ++ g ∷ []))) is
    ∙ ap (λ (x : List (ℕ × String Global)). classed (map code_texts x)) (sym (take_more fs i f l))

-- a class that was found so is that of the identifier
pub class_found : (m : ℕ → Option CellFormat) (fs : List (ℕ × CellFormat)) (n : ℕ) (class : CellFormat)
    → ((q : ℕ) → m q ≡ last_class fs q) → class ≡ unwrap_or (m n) (class_of_code n) → class ≡ class_in fs n
class_found m fs n class had is = is ∙ ap (λ (o : Option CellFormat). unwrap_or o (class_of_code n)) (had n)
