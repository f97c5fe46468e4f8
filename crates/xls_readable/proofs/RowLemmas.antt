-- The fields of values, one after another, are a row.
use Rattle.std.proofs.Common.{◌≡◌, ℕ, List, [], ◌∷◌, ◌++◌, append_assoc, ap, ◌∙◌, Result, Ok, Err}
use Rattle.std.specs.Prelude.{OnOk}
use Rattle.xls_output.specs.Added.{AddsText}
use Rattle.xls_readable.specs.declared.values.Value.{Value}
use Rattle.xls_output.specs.Each.{Concatenates}
use Rattle.xls_readable.specs.Csv.{AreValueTexts, IsField, IsJoined, IsSeparated, csv_field, separated}

collected : (d : ℕ) (values : List Value) (text : List ℕ) → Concatenates (IsSeparated d) values text
    → (texts : List (List ℕ)) × AreValueTexts values texts × (text ≡ separated d texts)
collected d [] text none = ([], tt, none)
collected d (v ∷ vs) text all =
    let others = collected d vs all.1 all.3 in (
      all.2.0 ∷ others.0,
      (all.2.1, others.1),
      all.4 ∙ ap (λ t. t ++ all.1) all.2.2 ∙ ap (λ t. (d ∷ csv_field d all.2.0) ++ t) others.2,
    )

-- the first field, and those after it
pub joined_all : {E : Type 0} (r : Result (Unit {0}) E) (d : ℕ) (whole : List Value) (v : Value) (vs : List Value) (old mid new : List ℕ)
    → whole ≡ v ∷ vs → AddsText (IsField d v) old mid → OnOk r (AddsText (Concatenates (IsSeparated d) vs) mid new)
    → OnOk r (AddsText (IsJoined d whole) old new)
joined_all (Err e) d whole v vs old mid new is first more = more
joined_all (Ok x) d whole v vs old mid new is first more =
    let others = collected d vs more.0 more.1 in
    let field = first.1 in
    rw is (
      first.0 ++ more.0,
      (field.0 ∷ others.0, (field.1, others.1), ap (λ t. t ++ more.0) field.2 ∙ ap (λ t. csv_field d field.0 ++ t) others.2),
      more.2 ∙ ap (λ t. t ++ more.0) first.2 ∙ append_assoc old first.0 more.0,
    )
