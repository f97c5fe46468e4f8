-- A row of CSV reads back as its fields. It is read by the machine of the kit's reader.
use Rattle.std.specs.Prelude.{◌⊎◌, length, map, ◌||◌, ◌&&◌, not}
use Rattle.std.proofs.Common.{◌≡◌, ◌==◌, ◌++◌, ◌∷◌, ◌∙◌, [], ℕ, List, Bool, Some, refl, sym, ap, subst, true, false, append_assoc, inl, inr, suc, eq-eqb}
use Rattle.std.specs.List.{flat_map, list_any}
use Rattle.std.proofs.lemmas.List.{append-nil}
use Rattle.std.proofs.lemmas.Bool.{cases_Bool, eqb-true, ne_eqb}
use Rattle.csv.specs.Machine.{next_record}
use Rattle.csv.specs.Reading.{records_from}
use Rattle.csv.specs.declared.parser.State.TheVariants as st
use Rattle.xls_readable.specs.Csv.{is_delimiter, is_special, is_marked, doubled, csv_field, separated, joined, csv_row}
use Rattle.xls_readable.specs.Laws.{config, Row, fields_of}

or-left : (a b : Bool) → (a || b) ≡ false → a ≡ false
or-left false b e = refl
or-left true b e = cc e

or-right : (a b : Bool) → (a || b) ≡ false → b ≡ false
or-right false b e = e
or-right true b e = cc e

and-right : (a b : Bool) → (a && b) ≡ true → b ≡ true
and-right true b e = e
and-right false b e = cc e

not-false : (a : Bool) → not a ≡ true → a ≡ false
not-false false e = refl
not-false true e = cc e

-- what a byte that separates fields is not
pub record Apart (d : ℕ) : Type 0 where
  pub quote : (d == 34) ≡ false
  pub return : (d == 13) ≡ false
  pub newline : (d == 10) ≡ false

pub apart : (d : ℕ) → is_delimiter d ≡ true → Apart d
apart d e =
    let plain : is_special d ≡ false = not-false (is_special d) (and-right _ _ e) in
    record {
      quote = or-left _ _ plain;
      return = or-left _ _ (or-right (d == 34) _ plain);
      newline = or-right _ _ (or-right (d == 34) _ plain);
    }

same : (d : ℕ) → (d == d) ≡ true
same d = eq-eqb d d refl

other_side : (d k : ℕ) → (d == k) ≡ false → (k == d) ≡ false
other_side d k n = ne_eqb k d (λ e. cc (sym n ∙ subst (λ (x : ℕ). (d == x) ≡ true) (sym e) (same d)))

not-zero : (n : ℕ) → (suc n == 0) ≡ true → ⊥
not-zero n e = cc (sym e ∙ ne_eqb (suc n) 0 (λ z. cc z))

module _ (d : ℕ) (a : Apart d) where
  -- a byte that calls for no quotes is no mark of the format
  record Plain (b : ℕ) : Type 0 where
    delimiter : (b == d) ≡ false
    quote : (b == 0x22) ≡ false
    return : (b == 0x0D) ≡ false
    newline : (b == 0x0A) ≡ false

  plain-byte : (b : ℕ) → is_marked d b ≡ false → Plain b
  plain-byte b e =
      let special : is_special b ≡ false = or-right (b == d) _ e in
      record {
        delimiter = or-left (b == d) _ e;
        quote = or-left (b == 0x22) _ special;
        return = or-left (b == 0x0D) _ (or-right (b == 0x22) _ special);
        newline = or-right (b == 0x0D) _ (or-right (b == 0x22) _ special);
      }

  -- the bytes of a field with no mark in them
  plain-run : (fields : List (List ℕ)) (field x tail : List ℕ) → list_any (is_marked d) x ≡ false
      → next_record (config d) st.InField fields field (x ++ tail) ≡ next_record (config d) st.InField fields (field ++ x) tail
  unfolding next_record
  plain-run fields field [] tail e = rw (append-nil field) refl
  plain-run fields field (b ∷ rest) tail e =
      let q = plain-byte b (or-left _ _ e) in
      rw (q.delimiter, q.return, q.newline) (plain-run fields (field ++ (b ∷ [])) rest tail (or-right (is_marked d b) _ e)
      ∙ ap (λ (f : List ℕ). next_record (config d) st.InField fields f tail) (append_assoc field (b ∷ []) rest))

  -- a byte that is no quote, between quotes
  quoted-plain : (fields : List (List ℕ)) (field : List ℕ) (b : ℕ) (tail : List ℕ) → (b == 0x22) ≡ false
      → next_record (config d) st.InQuoted fields field (b ∷ tail) ≡ next_record (config d) st.InQuoted fields (field ++ (b ∷ [])) tail
  unfolding next_record
  quoted-plain fields field b tail n = rw n refl

  doubled-plain : (b : ℕ) (rest : List ℕ) → (b == 0x22) ≡ false → doubled (b ∷ rest) ≡ b ∷ doubled rest
  doubled-plain b rest n = rw n refl

  -- the bytes of a field between quotes, and the quote that ends them
  quoted-run : (fields : List (List ℕ)) (field x tail : List ℕ)
      → next_record (config d) st.InQuoted fields field (doubled x ++ (34 ∷ tail))
      ≡ next_record (config d) st.AfterQuote fields (field ++ x) tail
  unfolding next_record
  quoted-run fields field [] tail = rw (append-nil field) refl
  quoted-run fields field (b ∷ rest) tail = elim (cases_Bool (b == 0x22)) [
    | inl is ↦
        subst (λ (z : ℕ). next_record (config d) st.InQuoted fields field (doubled (z ∷ rest) ++ (34 ∷ tail))
        ≡ next_record (config d) st.AfterQuote fields (field ++ (z ∷ rest)) tail) (sym (eqb-true b 34 is))
        (quoted-run fields (field ++ (34 ∷ [])) rest tail
        ∙ ap (λ (f : List ℕ). next_record (config d) st.AfterQuote fields f tail) (append_assoc field (34 ∷ []) rest))
    | inr other ↦
        rw (doubled-plain b rest other) (quoted-plain fields field b _ other
        ∙ quoted-run fields (field ++ (b ∷ [])) rest tail
        ∙ ap (λ (f : List ℕ). next_record (config d) st.AfterQuote fields f tail) (append_assoc field (b ∷ []) rest))
  ]

  -- a byte that is no quote does the same after a quote, at the start of a field and in one
  after-quote-same : (fields : List (List ℕ)) (field : List ℕ) (c : ℕ) (tail : List ℕ) → (c == 0x22) ≡ false
      → next_record (config d) st.AfterQuote fields field (c ∷ tail) ≡ next_record (config d) st.InField fields field (c ∷ tail)
  unfolding next_record
  after-quote-same fields field c tail n = rw n refl

  start-same : (fields : List (List ℕ)) (field : List ℕ) (c : ℕ) (tail : List ℕ) → (c == 0x22) ≡ false
      → next_record (config d) st.StartField fields field (c ∷ tail) ≡ next_record (config d) st.InField fields field (c ∷ tail)
  unfolding next_record
  start-same fields field c tail n = rw n refl

  -- a byte that ends no record starts one as it starts a field
  record-same : (fields : List (List ℕ)) (field : List ℕ) (c : ℕ) (tail : List ℕ) → (c == 0x0D) ≡ false → (c == 0x0A) ≡ false
      → next_record (config d) st.StartRecord fields field (c ∷ tail) ≡ next_record (config d) st.StartField fields field (c ∷ tail)
  unfolding next_record
  record-same fields field c tail r n = rw (r, n) refl

  -- a field with no mark in it, from its start
  plain-start : (fields : List (List ℕ)) (x : List ℕ) (c : ℕ) (tail : List ℕ) → (c == 0x22) ≡ false → list_any (is_marked d) x ≡ false
      → next_record (config d) st.StartField fields [] (x ++ (c ∷ tail)) ≡ next_record (config d) st.InField fields x (c ∷ tail)
  plain-start fields [] c tail n p = start-same fields [] c tail n
  plain-start fields (b ∷ rest) c tail n p =
      let q = plain-byte b (or-left _ _ p) in
      start-same fields [] b (rest ++ (c ∷ tail)) q.quote ∙ plain-run fields [] (b ∷ rest) (c ∷ tail) p

  -- a field with what comes after it, which starts with no quote
  field-run : (fields : List (List ℕ)) (x : List ℕ) (c : ℕ) (tail : List ℕ) → (c == 0x22) ≡ false
      → next_record (config d) st.StartField fields [] (csv_field d x ++ (c ∷ tail))
      ≡ next_record (config d) st.InField fields x (c ∷ tail)
  unfolding next_record
  field-run fields x c tail n = elim (cases_Bool (list_any (is_marked d) x)) [
    | inl needs ↦
        let text : csv_field d x ++ (c ∷ tail) ≡ 34 ∷ (doubled x ++ (34 ∷ c ∷ tail)) =
        rw needs (ap (λ (t : List ℕ). 34 ∷ t) (append_assoc (doubled x) (34 ∷ []) (c ∷ tail))) in
        rw text (quoted-run fields [] x (c ∷ tail) ∙ after-quote-same fields x c tail n)
    | inr plain ↦
        let text : csv_field d x ≡ x = rw plain refl in
        rw text (plain-start fields x c tail n plain)
  ]

  -- a delimiter ends the field
  end-field : (fields : List (List ℕ)) (x u : List ℕ)
      → next_record (config d) st.InField fields x (d ∷ u) ≡ next_record (config d) st.StartField (fields ++ (x ∷ [])) [] u
  unfolding next_record
  end-field fields x u = rw (same d) refl

  -- a newline ends the row
  end-row : (fields : List (List ℕ)) (x u : List ℕ)
      → next_record (config d) st.InField fields x (10 ∷ u) ≡ Some (fields ++ (x ∷ []), st.StartRecord, u)
  unfolding next_record
  end-row fields x u =
      let apart_from : (10 == d) ≡ false = other_side d 10 a.newline in
      rw apart_from refl

  -- what comes after a field starts with no quote
  abbrev head-of : List (List ℕ) → ℕ
  head-of [] = 10
  head-of (z ∷ zs) = d

  abbrev tail-of : List (List ℕ) → List ℕ → List ℕ
  tail-of [] tail = tail
  tail-of (z ∷ zs) tail = (csv_field d z ++ separated d zs) ++ (10 ∷ tail)

  text-head : (ys : List (List ℕ)) (tail : List ℕ) → separated d ys ++ (10 ∷ tail) ≡ head-of ys ∷ tail-of ys tail
  text-head [] tail = refl
  text-head (z ∷ zs) tail = refl

  head-plain : (ys : List (List ℕ)) → (head-of ys == 34) ≡ false
  head-plain [] = refl
  head-plain (z ∷ zs) = a.quote

  -- the rest of a row, after a field
  rest-run : (fields : List (List ℕ)) (x : List ℕ) (rest : List (List ℕ)) (tail : List ℕ)
      → next_record (config d) st.InField fields x (separated d rest ++ (10 ∷ tail)) ≡ Some (fields ++ (x ∷ rest), st.StartRecord, tail)
  rest-run fields x [] tail = end-row fields x tail
  rest-run fields x (y ∷ ys) tail =
      let e = text-head ys tail in
      let u : (csv_field d y ++ separated d ys) ++ (10 ∷ tail) ≡ csv_field d y ++ (head-of ys ∷ tail-of ys tail) =
      append_assoc (csv_field d y) (separated d ys) (10 ∷ tail) ∙ ap (λ (t : List ℕ). csv_field d y ++ t) e in
      let run = field-run (fields ++ (x ∷ [])) y (head-of ys) (tail-of ys tail) (head-plain ys) in
      let more = rest-run (fields ++ (x ∷ [])) y ys tail in
      let back = subst (λ (t : List ℕ). next_record (config d) st.InField (fields ++ (x ∷ [])) y t ≡ Some ((fields ++ (x ∷ [])) ++ (y ∷ ys), st.StartRecord, tail)) e more in
      end-field fields x ((csv_field d y ++ separated d ys) ++ (10 ∷ tail))
      ∙ ap (λ (t : List ℕ). next_record (config d) st.StartField (fields ++ (x ∷ [])) [] t) u
      ∙ run ∙ back ∙ ap (λ (t : List (List ℕ)). Some (t, st.StartRecord, tail)) (append_assoc fields (x ∷ []) (y ∷ ys))

  -- a row's text starts as a field's does, where it starts with no mark of a row's end
  first-quoted : (x : List ℕ) (c : ℕ) (tail : List ℕ) → list_any (is_marked d) x ≡ true
      → next_record (config d) st.StartRecord [] [] (csv_field d x ++ (c ∷ tail))
      ≡ next_record (config d) st.StartField [] [] (csv_field d x ++ (c ∷ tail))
  first-quoted x c tail needs = rw needs (record-same [] [] 34 _ refl refl)

  first-plain : (x : List ℕ) (c : ℕ) (tail : List ℕ) → list_any (is_marked d) x ≡ false
      → ((length x == 0) ≡ false) ⊎ (((c == 0x0D) ≡ false) × ((c == 0x0A) ≡ false))
      → next_record (config d) st.StartRecord [] [] (x ++ (c ∷ tail)) ≡ next_record (config d) st.StartField [] [] (x ++ (c ∷ tail))
  first-plain [] c tail p (inl e) = cc e
  first-plain [] c tail p (inr n) = record-same [] [] c tail n.0 n.1
  first-plain (b ∷ rest) c tail p h =
      let q = plain-byte b (or-left _ _ p) in
      record-same [] [] b (rest ++ (c ∷ tail)) q.return q.newline

  -- a row, given how its text starts
  row-run : (x : List ℕ) (rest : List (List ℕ)) (tail : List ℕ)
      → next_record (config d) st.StartRecord [] [] (csv_field d x ++ (head-of rest ∷ tail-of rest tail))
      ≡ next_record (config d) st.StartField [] [] (csv_field d x ++ (head-of rest ∷ tail-of rest tail))
      → next_record (config d) st.StartRecord [] [] (csv_field d x ++ (separated d rest ++ (10 ∷ tail))) ≡ Some (x ∷ rest, st.StartRecord, tail)
  row-run x rest tail first =
      let e = text-head rest tail in
      let run = field-run [] x (head-of rest) (tail-of rest tail) (head-plain rest) in
      let more = subst (λ (t : List ℕ). next_record (config d) st.InField [] x t ≡ Some (x ∷ rest, st.StartRecord, tail)) e (rest-run [] x rest tail) in
      ap (λ (t : List ℕ). next_record (config d) st.StartRecord [] [] (csv_field d x ++ t)) e ∙ first ∙ run ∙ more

  -- the text of a row that has a byte
  row-plain : (x : List ℕ) (rest : List (List ℕ)) (tail : List ℕ) → (length (joined d (x ∷ rest)) == 0) ≡ false
      → csv_row d (x ∷ rest) ++ tail ≡ csv_field d x ++ (separated d rest ++ (10 ∷ tail))
  row-plain x rest tail b = rw b (append_assoc (csv_field d x ++ separated d rest) (10 ∷ []) tail
      ∙ append_assoc (csv_field d x) (separated d rest) (10 ∷ tail))

  -- a field that is written as nothing is empty
  empty-field : (x : List ℕ) → (length (csv_field d x) == 0) ≡ true → x ≡ []
  empty-field [] e = refl
  empty-field (b ∷ rest) e = elim (cases_Bool (list_any (is_marked d) (b ∷ rest))) [
    | inl needs ↦ absurd (not-zero _ (rw needs at e))
    | inr plain ↦ absurd (not-zero _ (rw plain at e))
  ]

  -- the row of one empty field
  blank : (tail : List ℕ) → next_record (config d) st.StartRecord [] [] (csv_row d ([] ∷ []) ++ tail) ≡ Some ([] ∷ [], st.StartRecord, tail)
  unfolding next_record
  blank tail = after-quote-same [] [] 10 tail refl ∙ end-row [] [] tail

  -- a row of one field
  one : (x tail : List ℕ) → next_record (config d) st.StartRecord [] [] (csv_row d (x ∷ []) ++ tail) ≡ Some (x ∷ [], st.StartRecord, tail)
  one x tail = elim (cases_Bool (length (csv_field d x) == 0)) [
    | inl none ↦ subst (λ (y : List ℕ). next_record (config d) st.StartRecord [] [] (csv_row d (y ∷ []) ++ tail) ≡ Some (y ∷ [], st.StartRecord, tail)) (sym (empty-field x none)) (blank tail)
    | inr some ↦
        let bytes : (length (joined d (x ∷ [])) == 0) ≡ false = rw (append-nil (csv_field d x)) some in
        ap (next_record (config d) st.StartRecord [] []) (row-plain x [] tail bytes) ∙ row-run x [] tail (elim (cases_Bool (list_any (is_marked d) x)) [
          | inl needs ↦ first-quoted x 10 tail needs
          | inr plain ↦ rw plain (first-plain x 10 tail plain (inl (rw plain at some)))
        ])
  ]

  not-empty : (xs ys : List ℕ) (c : ℕ) → (length (xs ++ (c ∷ ys)) == 0) ≡ false
  not-empty [] ys c = ne_eqb (suc (length ys)) 0 (λ z. cc z)
  not-empty (x ∷ xs) ys c = ne_eqb (suc (length (xs ++ (c ∷ ys)))) 0 (λ z. cc z)

  -- a row of more fields
  many : (x y : List ℕ) (ys : List (List ℕ)) (tail : List ℕ)
      → next_record (config d) st.StartRecord [] [] (csv_row d (x ∷ y ∷ ys) ++ tail) ≡ Some (x ∷ y ∷ ys, st.StartRecord, tail)
  many x y ys tail =
      ap (next_record (config d) st.StartRecord [] []) (row-plain x (y ∷ ys) tail (not-empty (csv_field d x) (csv_field d y ++ separated d ys) d))
      ∙ row-run x (y ∷ ys) tail (elim (cases_Bool (list_any (is_marked d) x)) [
        | inl needs ↦ first-quoted x d _ needs
        | inr plain ↦ rw plain (first-plain x d _ plain (inr (a.return, a.newline)))
      ])

  pub row_reads : (x : List ℕ) (rest : List (List ℕ)) (tail : List ℕ)
      → next_record (config d) st.StartRecord [] [] (csv_row d (x ∷ rest) ++ tail) ≡ Some (x ∷ rest, st.StartRecord, tail)
  row_reads x [] tail = one x tail
  row_reads x (y ∷ ys) tail = many x y ys tail

  pub rows_read : (rows : List Row)
      → records_from (config d) (length rows) st.StartRecord (flat_map (λ row. csv_row d (fields_of row)) rows) ≡ map fields_of rows
  unfolding records_from
  rows_read [] = refl
  rows_read (row ∷ rows) =
      rw (row_reads row.0 row.1 (flat_map (λ row. csv_row d (fields_of row)) rows))
      (ap (λ (t : List (List (List ℕ))). fields_of row ∷ t) (rows_read rows))
