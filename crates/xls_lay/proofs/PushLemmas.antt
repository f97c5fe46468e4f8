-- The last entry of a list, as it is kept, and how it grows.
use Rattle.std.proofs.Common.{◌≡◌, ◌↔◌, ℕ, zero, suc, ◌+◌, ◌<◌, ◌≤◌, ◌^◌, false, List, [], ◌∷◌, ◌++◌, length, get_or, refl, sym, ap, subst, ◌∙◌, arith}
use Rattle.std.specs.Prelude.{set, Bool, IsTrue}
use Rattle.std.specs.List.{AllByRecursion}
use Rattle.std.proofs.lemmas.List.{map-append, length-append}
use Rattle.xls_layouts.specs.Layout.{IsPlainType}
use Rattle.xls_stream.specs.Listing.{Kept, plain_entry, table_entry, sheet_entry}
use Rattle.xls_stream.specs.Listing as listing
use Rattle.xls_layouts.specs.Canonical.{AreBytes, IsUnit, FitsKept, FitsString}
use Rattle.xls_lay.specs.Counted.{CountedEntry, Counted}
use Rattle.xls_lay.specs.Pushing.{EndsInSheet, EndsInTable, count_in, last_count, AddsKept, AddsString}
use Rattle.xls_lay.specs.Entries.{entry_in, entries_in, is_sheet, is_table, KeptPushed, StringPushed}
use Rattle.xls_lay.specs.declared.entry.Entry.{Entry}
use Rattle.xls_lay.specs.declared.entry.Entry.TheVariants.{Plain, Table, Sheet}

-- ---- lists that grow at their end

pub fits_push : (list : List listing.ListEntry) (e : listing.ListEntry) → Counted list → CountedEntry e → Counted (list ++ e ∷ [])
fits_push [] e h f = (f, tt)
fits_push (x ∷ list) e h f = (h.0, fits_push list e h.1 f)

fits_split : (list : List listing.ListEntry) (e : listing.ListEntry) → Counted (list ++ e ∷ []) → Counted list × CountedEntry e
fits_split [] e h = (tt, h.0)
fits_split (x ∷ list) e h = let s = fits_split list e h.1 in ((h.0, s.0), s.1)

pub count_last : (list : List listing.ListEntry) (e : listing.ListEntry) → last_count (list ++ e ∷ []) ≡ count_in e
count_last [] e = refl
count_last (x ∷ []) e = refl
count_last (x ∷ y ∷ list) e = count_last (y ∷ list) e

pub same_prefix : (xs ys : List listing.ListEntry) (x y : listing.ListEntry) → xs ++ x ∷ [] ≡ ys ++ y ∷ [] → xs ≡ ys
same_prefix [] [] x y e = refl
same_prefix [] (b ∷ []) x y e = absurd cc
same_prefix [] (b ∷ c ∷ ys) x y e = absurd cc
same_prefix (a ∷ []) [] x y e = absurd cc
same_prefix (a ∷ c ∷ xs) [] x y e = absurd cc
same_prefix (a ∷ xs) (b ∷ ys) x y e =
    let here : a ≡ b = cc in
    ap (λ (z : listing.ListEntry). z ∷ xs) here ∙ ap (λ (zs : List listing.ListEntry). b ∷ zs) (same_prefix xs ys x y cc)

pub same_last : (xs ys : List listing.ListEntry) (x y : listing.ListEntry) → xs ++ x ∷ [] ≡ ys ++ y ∷ [] → x ≡ y
same_last [] [] x y e = cc
same_last [] (b ∷ []) x y e = absurd cc
same_last [] (b ∷ c ∷ ys) x y e = absurd cc
same_last (a ∷ []) [] x y e = absurd cc
same_last (a ∷ c ∷ xs) [] x y e = absurd cc
same_last (a ∷ xs) (b ∷ ys) x y e = same_last xs ys x y cc

pub are_bytes : (bs : List ℕ) → ((i : ℕ) → get_or bs i 0 < 256) → AreBytes bs
are_bytes [] h = tt
are_bytes (b ∷ bs) h = (h 0, are_bytes bs (λ i. h (suc i)))

pub are_units : (us : List ℕ) → ((i : ℕ) → get_or us i 0 < 2 ^ 16) → AllByRecursion IsUnit us
are_units [] h = tt
are_units (u ∷ us) h = (h 0, are_units us (λ i. h (suc i)))

-- ---- entries that are pushed

pub plain_fits : (typ : ℕ) (body : List ℕ) → IsPlainType typ → length body < 2 ^ 16 → ((i : ℕ) → get_or body i 0 < 256)
    → CountedEntry (plain_entry typ body)
plain_fits typ body t l b = (t, (l, are_bytes body b))

pub sheet_fits : (state kind : ℕ) (name : List ℕ) → state < 256 → kind < 256 → length name ≤ 65529 → ((i : ℕ) → get_or name i 0 < 256)
    → CountedEntry (sheet_entry state kind name [])
sheet_fits state kind name s k l b = record {
  state_is = s;
  kind_is = k;
  name_fits = omega arith;
  name_is = are_bytes name b;
  kept_fit = tt;
}

-- ---- the last entry

-- an index is that of the last entry
pub record Last (es : List Entry) (i : ℕ) : Type 0 where
  pub prefix : List Entry
  pub e : Entry
  pub whole : es ≡ prefix ++ e ∷ []
  pub set_is : (x : Entry) → set es i x ≡ prefix ++ x ∷ []
  pub get_is : (d : Entry) → get_or es i d ≡ e

pub last_at : (es : List Entry) (i : ℕ) → length es ≡ suc i → Last es i
last_at [] i h = absurd (omega (arith, h))
last_at (e ∷ []) zero h = record { prefix = []; e = e; whole = refl; set_is = λ x. refl; get_is = λ d. refl }
last_at (e ∷ []) (suc i) h = absurd (omega (arith, h))
last_at (e ∷ f ∷ es) zero h = absurd (omega (arith, h))
last_at (e ∷ f ∷ es) (suc i) h =
    let l = last_at (f ∷ es) i (omega (arith, h)) in
    record {
      prefix = e ∷ l.prefix;
      e = l.e;
      whole = ap (λ (x : List Entry). e ∷ x) l.whole;
      set_is = λ x. ap (λ (y : List Entry). e ∷ y) (l.set_is x);
      get_is = l.get_is;
    }

push_in : (prefix : List Entry) (e : Entry) → entries_in (prefix ++ e ∷ []) ≡ entries_in prefix ++ entry_in e ∷ []
push_in prefix e = map-append entry_in prefix (e ∷ [])

pub fits_pushed : (old new : List Entry) (e : Entry) → new ≡ old ++ e ∷ [] → Counted (entries_in old) → CountedEntry (entry_in e)
    → Counted (entries_in new)
fits_pushed old new e n h f =
    subst (λ (x : List listing.ListEntry). Counted x) (sym (ap entries_in n ∙ push_in old e)) (fits_push (entries_in old) (entry_in e) h f)

-- ---- a record for a sheet

kept_fits : (kept : List Kept) (k : Kept) → AllByRecursion FitsKept kept → FitsKept k → AllByRecursion FitsKept (kept ++ k ∷ [])
kept_fits [] k h f = (f, tt)
kept_fits (x ∷ kept) k h f = (h.0, kept_fits kept k h.1 f)

abbrev pub one_kept : ℕ → List ℕ → Kept
one_kept typ body = record { typ = typ; body = body }

fits_kept : (prefix : List Entry) (e new : Entry) (typ : ℕ) (body : List ℕ) → Counted (entries_in prefix ++ entry_in e ∷ [])
    → FitsKept (one_kept typ body) → KeptPushed e typ body new → Counted (entries_in prefix ++ entry_in new ∷ [])
fits_kept prefix (Plain t b) new typ body h f p = subst (λ (x : Entry). Counted (entries_in prefix ++ entry_in x ∷ [])) (sym p) h
fits_kept prefix (Table strings) new typ body h f p = subst (λ (x : Entry). Counted (entries_in prefix ++ entry_in x ∷ [])) (sym p) h
fits_kept prefix (Sheet state kind name kept) new typ body h f p =
    let s = fits_split (entries_in prefix) (entry_in (Sheet state kind name kept)) h in
    let own = s.1 in
    let k = one_kept typ body in
    subst (λ (x : Entry). Counted (entries_in prefix ++ entry_in x ∷ [])) (sym p)
    (fits_push (entries_in prefix) (sheet_entry state kind name.items (kept ++ k ∷ [])) s.0 (record {
      state_is = own.state_is;
      kind_is = own.kind_is;
      name_fits = own.name_fits;
      name_is = own.name_is;
      kept_fit = kept_fits kept k own.kept_fit f;
    }))

adds_kept : (prefix : List Entry) (e new : Entry) (typ : ℕ) (body : List ℕ) (list : List listing.ListEntry)
    → list ≡ entries_in prefix ++ entry_in e ∷ [] → EndsInSheet list → KeptPushed e typ body new
    → AddsKept list (entries_in prefix ++ entry_in new ∷ []) typ body
adds_kept prefix (Plain t b) new typ body list is s p =
    absurd (let e = same_last (entries_in prefix) s.prefix (plain_entry t b.items) (sheet_entry s.state s.kind s.name s.kept) (sym is ∙ s.whole) in cc)
adds_kept prefix (Table strings) new typ body list is s p =
    absurd (let e = same_last (entries_in prefix) s.prefix (table_entry strings) (sheet_entry s.state s.kind s.name s.kept) (sym is ∙ s.whole) in cc)
adds_kept prefix (Sheet state kind name kept) new typ body list is s p = record {
  prefix = entries_in prefix;
  state = state;
  kind = kind;
  name = name.items;
  kept = kept;
  before = is;
  after = ap (λ (x : Entry). entries_in prefix ++ entry_in x ∷ []) p;
}

-- ---- a string for a table

strings_fit : (strings : List (List ℕ)) (us : List ℕ) → AllByRecursion FitsString strings → FitsString us → AllByRecursion FitsString (strings ++ us ∷ [])
strings_fit [] us h f = (f, tt)
strings_fit (x ∷ strings) us h f = (h.0, strings_fit strings us h.1 f)

fits_string : (prefix : List Entry) (e new : Entry) (us : List ℕ) → Counted (entries_in prefix ++ entry_in e ∷ [])
    → FitsString us → last_count (entries_in prefix ++ entry_in e ∷ []) + 1 < 2 ^ 32 → StringPushed e us new → Counted (entries_in prefix ++ entry_in new ∷ [])
fits_string prefix (Plain t b) new us h f n p = subst (λ (x : Entry). Counted (entries_in prefix ++ entry_in x ∷ [])) (sym p) h
fits_string prefix (Sheet state kind name kept) new us h f n p = subst (λ (x : Entry). Counted (entries_in prefix ++ entry_in x ∷ [])) (sym p) h
fits_string prefix (Table strings) new us h f n p =
    let s = fits_split (entries_in prefix) (table_entry strings) h in
    let count : last_count (entries_in prefix ++ table_entry strings ∷ []) ≡ length strings = count_last (entries_in prefix) (table_entry strings) in
    subst (λ (x : Entry). Counted (entries_in prefix ++ entry_in x ∷ [])) (sym p)
    (fits_push (entries_in prefix) (table_entry (strings ++ us ∷ [])) s.0
    (omega (arith, count, n, length-append strings (us ∷ [])), strings_fit strings us s.1.1 f))

adds_string : (prefix : List Entry) (e new : Entry) (us : List ℕ) (list : List listing.ListEntry)
    → list ≡ entries_in prefix ++ entry_in e ∷ [] → EndsInTable list → StringPushed e us new
    → AddsString list (entries_in prefix ++ entry_in new ∷ []) us
adds_string prefix (Plain t b) new us list is s p =
    absurd (let e = same_last (entries_in prefix) s.prefix (plain_entry t b.items) (table_entry s.strings) (sym is ∙ s.whole) in cc)
adds_string prefix (Sheet state kind name kept) new us list is s p =
    absurd (let e = same_last (entries_in prefix) s.prefix (sheet_entry state kind name.items kept) (table_entry s.strings) (sym is ∙ s.whole) in cc)
adds_string prefix (Table strings) new us list is s p = record {
  prefix = entries_in prefix;
  strings = strings;
  before = is;
  after = ap (λ (x : Entry). entries_in prefix ++ entry_in x ∷ []) p;
}

-- ---- what a list ends in

nothing : (xs : List listing.ListEntry) (x : listing.ListEntry) → ¬ (xs ++ x ∷ [] ≡ [])
nothing [] x e = cc
nothing (y ∷ xs) x e = cc

sheet_or_not : (prefix : List listing.ListEntry) (e : listing.ListEntry) (list : List listing.ListEntry) → list ≡ prefix ++ e ∷ [] → IsTrue (is_sheet e) ↔ EndsInSheet list
sheet_or_not prefix (plain_entry t b) list is = (
  λ h. absurd cc,
  λ s. absurd (let e = same_last prefix s.prefix (plain_entry t b) (sheet_entry s.state s.kind s.name s.kept) (sym is ∙ s.whole) in cc),
)
sheet_or_not prefix (table_entry strings) list is = (
  λ h. absurd cc,
  λ s. absurd (let e = same_last prefix s.prefix (table_entry strings) (sheet_entry s.state s.kind s.name s.kept) (sym is ∙ s.whole) in cc),
)
sheet_or_not prefix (sheet_entry state kind name kept) list is = (
  λ h. record { prefix = prefix; state = state; kind = kind; name = name; kept = kept; whole = is },
  λ s. refl,
)

table_or_not : (prefix : List listing.ListEntry) (e : listing.ListEntry) (list : List listing.ListEntry) → list ≡ prefix ++ e ∷ [] → IsTrue (is_table e) ↔ EndsInTable list
table_or_not prefix (plain_entry t b) list is = (
  λ h. absurd cc,
  λ s. absurd (let e = same_last prefix s.prefix (plain_entry t b) (table_entry s.strings) (sym is ∙ s.whole) in cc),
)
table_or_not prefix (sheet_entry state kind name kept) list is = (
  λ h. absurd cc,
  λ s. absurd (let e = same_last prefix s.prefix (sheet_entry state kind name kept) (table_entry s.strings) (sym is ∙ s.whole) in cc),
)
table_or_not prefix (table_entry strings) list is = (λ h. record { prefix = prefix; strings = strings; whole = is }, λ s. refl)

-- ---- where they are kept

module _ (es : List Entry) (i : ℕ) (some : length es ≡ suc i) (e : Entry) (here : e ≡ get_or es i e) where
  abbrev l : Last es i
  l = last_at es i some

  is_last : e ≡ l.e
  is_last = here ∙ l.get_is e

  list_is : entries_in es ≡ entries_in l.prefix ++ entry_in e ∷ []
  list_is = ap entries_in l.whole ∙ push_in l.prefix l.e ∙ ap (λ (x : Entry). entries_in l.prefix ++ entry_in x ∷ []) (sym is_last)

  new_is : (x : Entry) → entries_in (set es i x) ≡ entries_in l.prefix ++ entry_in x ∷ []
  new_is x = ap entries_in (l.set_is x) ∙ push_in l.prefix x

  pub kept_pushed_fits : (new : Entry) (typ : ℕ) (body : List ℕ) → Counted (entries_in es) → FitsKept (one_kept typ body) → KeptPushed e typ body new
      → Counted (entries_in (set es i new))
  kept_pushed_fits new typ body h f p =
      subst (λ (x : List listing.ListEntry). Counted x) (sym (new_is new))
      (fits_kept l.prefix e new typ body (subst (λ (x : List listing.ListEntry). Counted x) list_is h) f p)

  pub kept_pushed : (new : Entry) (typ : ℕ) (body : List ℕ) (list : List listing.ListEntry) → entries_in es ≡ list → EndsInSheet list → KeptPushed e typ body new
      → AddsKept list (entries_in (set es i new)) typ body
  kept_pushed new typ body list is s p =
      subst (λ (x : List listing.ListEntry). AddsKept list x typ body) (sym (new_is new))
      (adds_kept l.prefix e new typ body list (sym is ∙ list_is) s p)

  pub string_pushed_fits : (new : Entry) (us : List ℕ) (list : List listing.ListEntry) → entries_in es ≡ list → last_count list + 1 < 2 ^ 32
      → Counted (entries_in es) → FitsString us → StringPushed e us new → Counted (entries_in (set es i new))
  string_pushed_fits new us list is n h f p =
      subst (λ (x : List listing.ListEntry). Counted x) (sym (new_is new))
      (fits_string l.prefix e new us (subst (λ (x : List listing.ListEntry). Counted x) list_is h) f
      (subst (λ (x : List listing.ListEntry). last_count x + 1 < 2 ^ 32) (sym is ∙ list_is) n) p)

  pub string_pushed : (new : Entry) (us : List ℕ) (list : List listing.ListEntry) → entries_in es ≡ list → EndsInTable list → StringPushed e us new
      → AddsString list (entries_in (set es i new)) us
  string_pushed new us list is s p =
      subst (λ (x : List listing.ListEntry). AddsString list x us) (sym (new_is new))
      (adds_string l.prefix e new us list (sym is ∙ list_is) s p)

  pub count_is : (list : List listing.ListEntry) → entries_in es ≡ list → last_count list ≡ count_in (entry_in e)
  count_is list is = ap last_count (sym is ∙ list_is) ∙ count_last (entries_in l.prefix) (entry_in e)

  ends_in : (list : List listing.ListEntry) → entries_in es ≡ list → list ≡ entries_in l.prefix ++ entry_in e ∷ []
  ends_in list is = sym is ∙ list_is

  pub sheet_exactly : (list : List listing.ListEntry) → entries_in es ≡ list → (b : Bool) → b ≡ is_sheet (entry_in e) → IsTrue b ↔ EndsInSheet list
  sheet_exactly list is b f = subst (λ (x : Bool). IsTrue x ↔ EndsInSheet list) (sym f) (sheet_or_not (entries_in l.prefix) (entry_in e) list (ends_in list is))

  pub table_exactly : (list : List listing.ListEntry) → entries_in es ≡ list → (b : Bool) → b ≡ is_table (entry_in e) → IsTrue b ↔ EndsInTable list
  table_exactly list is b f = subst (λ (x : Bool). IsTrue x ↔ EndsInTable list) (sym f) (table_or_not (entries_in l.prefix) (entry_in e) list (ends_in list is))

-- ---- an empty list

module _ (es : List Entry) (list : List listing.ListEntry) (none : length es ≡ 0) (is : entries_in es ≡ list) where
  empty : list ≡ []
  empty = by_cases es none is
    where
      by_cases : (es : List Entry) → length es ≡ 0 → entries_in es ≡ list → list ≡ []
      by_cases [] h e = sym e
      by_cases (e ∷ es) h f = absurd (omega (arith, h))

  pub no_sheet : (IsTrue false → EndsInSheet list) × (EndsInSheet list → IsTrue false)
  no_sheet = (λ h. absurd cc, λ s. absurd (nothing s.prefix (sheet_entry s.state s.kind s.name s.kept) (sym s.whole ∙ empty)))

  pub no_table : (IsTrue false → EndsInTable list) × (EndsInTable list → IsTrue false)
  no_table = (λ h. absurd cc, λ s. absurd (nothing s.prefix (table_entry s.strings) (sym s.whole ∙ empty)))

  pub no_count : 0 ≡ last_count list
  no_count = ap last_count (sym empty)
