-- The line of a stream.
use Rattle.std.proofs.Common.{◌≡◌, ℕ, List, [], ◌∷◌, ◌++◌, map, refl, sym, ap, subst, Bool, true, Bor, codes}
use Rattle.std.specs.List.{flat_map, join_by}
use Rattle.xls_output.specs.Added.{AddsText}
use Rattle.xls_compound.specs.Items.{Item, IsPath}
use Rattle.xls_compound.specs.Entries.{Entry, IsItem}
use Rattle.xls_readable.specs.Items.{NamedItem}
use Rattle.xls_readable.specs.Lines.{IsLine}
use Rattle.xls_readable.specs.declared.forms.Form.{Form}
use Rattle.xls_documents.specs.Streams.{IsEntryText, IsItemLine, IsStream, path_text, stream_members}

-- names that are lent
separated : (separator : List ℕ) (names : List (Bor (List ℕ))) → flat_map (λ name. separator ++ name.now) names
    ≡ flat_map (λ name. separator ++ name) (map (λ x. x.now) names)
separated separator [] = refl
separated separator (x ∷ xs) = ap (λ (l : List ℕ). (separator ++ x.now) ++ l) (separated separator xs)

pub path_joined : (names : List (Bor (List ℕ))) → join_by (λ name. name.now) (codes "/") names ≡ path_text (map (λ x. x.now) names)
path_joined [] = refl
path_joined (x ∷ xs) = ap (λ (l : List ℕ). x.now ++ l) (separated (codes "/") xs)

-- a line of the size and the path of a stream was appended
pub stream_added : (form : Form) (entry : Entry) (members : List NamedItem) (size : ℕ) (path : List (List ℕ)) (old new : List ℕ)
    → IsStream entry → ((item : Item) → IsItem entry item → size ≡ item.size) → IsPath entry.listing.items entry.place path
    → members ≡ stream_members size path → AddsText (IsLine form (codes "stream") members) old new → AddsText (IsEntryText form entry) old new
stream_added form entry members size path old new stream sized path_is are (out, line, added) =
    let reported : IsItemLine form entry true size out = (path, path_is, subst (λ (m : List NamedItem). IsLine form (codes "stream") m out) are line) in (
      out,
      (λ item is. subst (λ (b : Bool). IsItemLine form entry b item.size out) (sym (stream item is))
          (subst (λ (n : ℕ). IsItemLine form entry true n out) (sized item is) reported)),
      added,
    )

-- a list of the entries in it
pub each_itself : (entries : List Entry) → flat_map (λ entry. entry ∷ []) entries ≡ entries
each_itself [] = refl
each_itself (x ∷ xs) = ap (λ (l : List Entry). x ∷ l) (each_itself xs)
