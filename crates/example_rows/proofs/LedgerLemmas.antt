-- What is read of rows, one after the other.
use Rattle.std.proofs.Common.{◌≡◌, List, [], ◌∷◌, ◌++◌, sym, ap, ◌∙◌, append_assoc}
use Rattle.std.specs.Prelude.{Some, None, Result, Ok}
use Rattle.xls_rows.specs.Answers.{AnswersFirst}
use Rattle.xls_rows.specs.Rows.{Row}
use Rattle.xls_rows.specs.declared.error.DeError.{DeError}
use Rattle.example_rows.specs.Ledger.{EachGives}

-- one row more gives its value
each-last : {T D : Type 0} (answers : Row T → Result D DeError → Row T → Type 0) (rows : List (Row T)) (row after : Row T) (values : List D) (value : D)
    → EachGives answers rows values → answers row (Ok value) after → EachGives answers (rows ++ (row ∷ [])) (values ++ (value ∷ []))
each-last answers [] row after [] value all input = ((after, input), tt)
each-last answers [] row after (v ∷ vs) value all input = absurd all
each-last answers (r ∷ rs) row after [] value all input = absurd all
each-last answers (r ∷ rs) row after (v ∷ vs) value all input = (all.0, each-last answers rs row after vs value all.1 input)

-- some rows have their values, and with those that are left they are all
abbrev pub GaveSome : {T D : Type 0} → (Row T → Result D DeError → Row T → Type 0) → List (Row T) → List (Row T) → List D → Type 0
GaveSome {T} answers all left values =
    (done : List (Row T)) × (all ≡ done ++ left) × EachGives answers done values

pub gave-one : {T D : Type 0} (answers : Row T → Result D DeError → Row T → Type 0) (all old new : List (Row T)) (values more : List D) (a : Result D DeError) (value : D)
    → GaveSome answers all old values → AnswersFirst answers old (Some a) new → a ≡ Ok value → more ≡ values ++ (value ∷ [])
    → GaveSome answers all new more
gave-one answers all [] new values more a value some first ok grown = absurd (let e : Some a ≡ None = first.0 in cc)
gave-one {T} answers all (row ∷ rows) new values more a value some first ok grown =
    let rest : rows ≡ new = sym first.0 in
    let input : (after : Row T) × answers row (Ok value) after = rw (sym ok) first.1 in
    let whole : all ≡ (some.0 ++ (row ∷ [])) ++ new = some.1 ∙ ap (λ xs. some.0 ++ (row ∷ xs)) rest ∙ sym (append_assoc some.0 (row ∷ []) new) in
    (some.0 ++ (row ∷ []), whole, rw grown (each-last answers some.0 row input.0 values value some.2 input.1))
