-- What is shown of cells, laid one after another.
use Rattle.std.proofs.Common.{◌≡◌, ◌≤◌, length, ℕ, List, [], ◌∷◌, ◌++◌, Result, Ok, Err, OnOk, Bool, Option, Some, None, IsUtf8, encode_utf8_all, ap, refl, subst, sym, ◌∙◌}
use Rattle.std.proofs.lemmas.List.{append-nil, append_assoc}
use Rattle.std.proofs.lemmas.Str.{chars-nil}
use Rattle.std.specs.List.{AllZip}
use Rattle.std.specs.Str.{chars}
use Rattle.xls_data.specs.Content.{Content, text}
use Rattle.xls_biff.specs.Cells.{CellEntry}
use Rattle.xls_shown.specs.Shown.{Gains}
use Rattle.xls_view.specs.Formats.{FormattedCell}
use Rattle.xls_view.specs.Viewing.{Viewed}
use Rattle.xls_cell_formats.specs.Contents.{IsContentShown}
use Rattle.xls_arrays.specs.Arrays.{Arrays, laid, with_cell_item, with_cell_laid}
use Rattle.xls_arrays.specs.Filled.{KeepsRooms, Lays, LaysText, RoomsHold}
use Rattle.xls_arrays.specs.Shown.{IsCellShown, IsShownAs, LaysShown, LaysShownCell, cells_in}
use Rattle.xls_arrays.specs.declared.items.Span.{Span}
use Rattle.xls_arrays.specs.declared.items.CellItem.{CellItem}
use Rattle.xls_arrays.specs.declared.rooms.Rooms.{Rooms}
use Rattle.xls_arrays.specs.Held.{RefusesStream, ShowsStream}
use Rattle.xls_arrays.specs.Laying.{MissesIndex}
use Rattle.xls_arrays.specs.declared.refusal.Refusal.{Refusal}
use Rattle.xls_arrays.specs.declared.refusal.Refusal.TheVariants as refusals
use Rattle.xls_arrays.specs.declared.options.Options.{Options}
use Rattle.xls_arrays.proofs.LaidLemmas.{keeps-refl, keeps-trans, lays-cell}
use Rattle.xls_arrays.proofs.TextLemmas.{encoded-as}

-- what is shown of a content was put into a text that was empty
pub shown-put : {X E : Type 0} (code : List ℕ) (is_1904 : Bool) (seen content : Content) (empty room : List ℕ) (r : Result X E)
    → seen ≡ content → empty ≡ [] → OnOk r (Gains (IsContentShown code is_1904 seen) (chars empty) (chars room))
    → OnOk r (Gains (IsContentShown code is_1904 content) [] (chars room))
shown-put code is_1904 seen content empty room (Ok x) same none (shown, is, e) =
    let nothing_before : chars empty ≡ [] = ap chars none ∙ chars-nil in
    (shown, subst (λ (c : Content). IsContentShown code is_1904 c shown) same is, e ∙ ap (λ (t : List ℕ). t ++ shown) nothing_before)
shown-put code is_1904 seen content empty room (Err x) same none p = tt

-- the text of a cell was laid, and its item
pub lays-shown : {r s t : Rooms} {bytes room : List ℕ} {span : Span} (view : Viewed) (c : FormattedCell) (item : CellItem)
    → IsUtf8 bytes → bytes ≡ room → Gains (IsCellShown view c.1) [] (chars room) → LaysText r s bytes span
    → item ≡ record { row = c.0.0; column = c.0.1; kind = 6; form = 0; value = span.offset; length = span.length }
    → Lays s t (λ a. with_cell_item a item) → LaysShownCell view c r t
lays-shown {bytes = bytes} {room = room} view c item utf8 same (shown, is, e) lays built then =
    let spelled : bytes ≡ encode_utf8_all shown = encoded-as bytes room utf8 same ∙ ap encode_utf8_all e in
    ((c.0, text shown), (shown, is, refl), lays-cell item (c.0, text shown) lays spelled built then)

-- ---- one after another

zip-push : {A B : Type 0} (P : A → B → Type 0) (xs : List A) (ys : List B) {x : A} {y : B} → AllZip P xs ys → P x y
    → AllZip P (xs ++ x ∷ []) (ys ++ y ∷ [])
zip-push P [] [] z p = (p, tt)
zip-push P [] (y ∷ ys) z p = absurd z
zip-push P (x ∷ xs) [] z p = absurd z
zip-push P (x ∷ xs) (y ∷ ys) z p = (z.0, zip-push P xs ys z.1 p)

laid-push : (a : Arrays) (es : List CellEntry) (e : CellEntry)
    → with_cell_laid (laid with_cell_laid a es) e ≡ laid with_cell_laid a (es ++ e ∷ [])
unfolding laid
laid-push a [] e = refl
laid-push a (d ∷ es) e = laid-push (with_cell_laid a d) es e

-- of these cells some were laid, and those are left
pub record IsPartlyShown (view : Viewed) (all left : List FormattedCell) (before now : Rooms) : Type 0 where
  pub same : KeepsRooms before now
  pub done : List FormattedCell
  pub whole : all ≡ done ++ left
  pub laid : LaysShown view done before now

pub shown-first : (view : Viewed) (all left : List FormattedCell) (r : Rooms) → left ≡ all → IsPartlyShown view all left r r
unfolding laid
shown-first view all left r is =
    record { same = keeps-refl r; done = []; whole = sym is; laid = ([], tt, λ a h. h) }

pub shown-next : {view : Viewed} {all left rest : List FormattedCell} {c : FormattedCell} {before now next : Rooms}
    → IsPartlyShown view all left before now → left ≡ c ∷ rest → KeepsRooms now next → LaysShownCell view c now next
    → IsPartlyShown view all rest before next
shown-next {view} {all} {left} {rest} {c} {before} {now} {next} p is same (e, shown, lays) =
    record {
      same = keeps-trans p.same same;
      done = p.done ++ c ∷ [];
      whole = p.whole ∙ ap (λ cs. p.done ++ cs) is ∙ sym (append_assoc p.done (c ∷ []) rest);
      laid = (
        p.laid.0 ++ e ∷ [],
        zip-push (IsShownAs view) p.done p.laid.0 p.laid.1 shown,
        λ a h. subst (RoomsHold next) (laid-push a p.laid.0 e) (lays _ (p.laid.2 a h)),
      );
    }

pub shown-all : {view : Viewed} {all left : List FormattedCell} {before now : Rooms} → IsPartlyShown view all left before now
    → left ≡ [] → LaysShown view all before now
shown-all {view} {before = before} {now = now} p is =
    subst (λ cs. LaysShown view cs before now) (sym (p.whole ∙ ap (λ cs. p.done ++ cs) is ∙ append-nil p.done)) p.laid

-- no cell was
pub shown-none : (view : Viewed) (o : Option (List FormattedCell)) (r : Rooms) → None ≡ o → LaysShown view (cells_in o) r r
unfolding laid
shown-none view None r e = ([], tt, λ a h. h)
shown-none view (Some cs) r e = absurd (let none : None ≡ Some cs = e in cc)

-- a sheet that isn't there refuses the stream
pub index-refused : (options : Options) (stream : List ℕ) (view : Viewed) → options.which ≡ 1 → ShowsStream options stream view
    → (r : Refusal) → MissesIndex view.book options.sheet r → RefusesStream options stream r
index-refused options stream view one shows refusals.Memory p = tt
index-refused options stream view one shows refusals.TooShort p = absurd p
index-refused options stream view one shows (refusals.NoSheet index) p =
    (view, shows, record { one = one; asked = p.0; past = subst (λ (i : ℕ). length view.book.sheets ≤ i) (sym p.0) p.1 })
index-refused options stream view one shows refusals.Obfuscated p = absurd p
index-refused options stream view one shows (refusals.Stream e) p = absurd p
index-refused options stream view one shows (refusals.Kind k) p = absurd p
index-refused options stream view one shows refusals.NoWorkbook p = absurd p
index-refused options stream view one shows (refusals.Chain chain fault) p = absurd p
index-refused options stream view one shows (refusals.Directory fault) p = absurd p
