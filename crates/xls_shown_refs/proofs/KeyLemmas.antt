-- Citations that are equal have equal keys.
use Rattle.std.proofs.Common.{◌≡◌, ℕ, List, [], ◌∷◌, ◌++◌, Bool, true, false, not, cond, ◌||◌, ◌==◌, codes, refl, sym, ◌∙◌, ap, subst, append_assoc, if◌then◌else◌, IsUtf8}
use lib.Utf8.{encode}
use Rattle.std.specs.BTreeSet.{BTreeSet, contains, Updates}
use Rattle.std.specs.Cmp.{both_tied, unsigned_ties}
use Rattle.std.specs.Cmp.Lexicographic.{slice_cmp, texts_ties}
use Rattle.std.specs.List.{list_any}
use Rattle.std.specs.Ordering.{eq_by_cmp, is_eq, nat_cmp}
use Rattle.std.specs.Str.{bytes_eq, chars}
use Rattle.std.proofs.lemmas.List.Folds.{list_any-append}
use Rattle.std.proofs.lemmas.Str.{IsUtf8-append, IsUtf8-nil, chars-append, chars-nil}
use Rattle.xls_formula_names.specs.Prefixes.{named, sheets_text}
use Rattle.std.specs.Borrow.{Bor}
use Rattle.xls_formula_names.specs.declared.sheets.Sheets.{Sheets}
use Rattle.xls_formula_names.specs.declared.sheets.Sheets.TheVariants.{Gone, One, Range}
use Rattle.xls_formula_books.specs.Places.{bracketed, cited_text, place_view}
use Rattle.xls_formula_books.specs.declared.places.SheetPlace.{SheetPlace}
use Rattle.xls_formula_books.specs.declared.places.SheetPlace.TheVariants as places
use Rattle.xls_other_books.proofs.BookLemmas.{same_text}
use Rattle.xls_shown_refs.specs.Items.{Citation}
use Rattle.xls_shown_refs.specs.Citations.{is_same, same_position}
use Rattle.xls_shown_refs.specs.Keys.{AreSheetTexts, AreTexts, Key, SeenSo, by_key, by_position, kept, key_view, sheets_bytes, text_bytes}

-- ---- texts

-- a mark of one byte before a text
colon : IsUtf8 (0x3A ∷ [])
unfolding encode
colon = (0x3A ∷ [], (refl, refl))

opening : IsUtf8 (0x5B ∷ [])
unfolding encode
opening = (0x5B ∷ [], (refl, refl))

closing : IsUtf8 (0x5D ∷ [])
unfolding encode
closing = (0x5D ∷ [], (refl, refl))

gone : IsUtf8 (codes "#REF")
unfolding encode
gone = (codes "#REF", (refl, refl))

behind_colon : (text : List ℕ) → chars (0x3A ∷ text) ≡ 0x3A ∷ chars text
unfolding chars
behind_colon text = chars-append (0x3A ∷ []) text colon

behind_opening : (text : List ℕ) → chars (0x5B ∷ text) ≡ 0x5B ∷ chars text
unfolding chars
behind_opening text = chars-append (0x5B ∷ []) text opening

behind_closing : (text : List ℕ) → chars (0x5D ∷ text) ≡ 0x5D ∷ chars text
unfolding chars
behind_closing text = chars-append (0x5D ∷ []) text closing

sheets_are : (sheets : Sheets) → AreSheetTexts sheets → IsUtf8 (sheets_bytes sheets)
sheets_are Gone t = gone
sheets_are (One name) t = t
sheets_are (Range first last) t = IsUtf8-append first.now (0x3A ∷ last.now) t.0 (IsUtf8-append (0x3A ∷ []) last.now colon t.1)

sheets_is : (sheets : Sheets) → AreSheetTexts sheets → chars (sheets_bytes sheets) ≡ sheets_text (named sheets)
unfolding chars
sheets_is Gone t = refl
sheets_is (One name) t = refl
sheets_is (Range first last) t = chars-append first.now (0x3A ∷ last.now) t.0 ∙ ap (λ (x : List ℕ). chars first.now ++ x) (behind_colon last.now)

book_are : (dir file : Bor (List ℕ)) (sheets : Sheets) → IsUtf8 dir.now → IsUtf8 file.now → AreSheetTexts sheets
    → IsUtf8 (dir.now ++ (0x5B ∷ (file.now ++ (0x5D ∷ sheets_bytes sheets))))
book_are dir file sheets t u v =
    let behind_file = IsUtf8-append file.now (0x5D ∷ sheets_bytes sheets) u (IsUtf8-append (0x5D ∷ []) (sheets_bytes sheets) closing (sheets_are sheets v)) in
    IsUtf8-append dir.now (0x5B ∷ (file.now ++ (0x5D ∷ sheets_bytes sheets))) t
    (IsUtf8-append (0x5B ∷ []) (file.now ++ (0x5D ∷ sheets_bytes sheets)) opening behind_file)

book_is : (dir file : Bor (List ℕ)) (sheets : Sheets) → IsUtf8 dir.now → IsUtf8 file.now → AreSheetTexts sheets
    → chars (dir.now ++ (0x5B ∷ (file.now ++ (0x5D ∷ sheets_bytes sheets))))
    ≡ bracketed (chars dir.now) (chars file.now) ++ sheets_text (named sheets)
book_is dir file sheets t u v =
    let d = chars dir.now in
    let f = chars file.now in
    let s = sheets_text (named sheets) in
    chars-append dir.now (0x5B ∷ (file.now ++ (0x5D ∷ sheets_bytes sheets))) t
    ∙ (ap (λ (x : List ℕ). d ++ x) (behind_opening (file.now ++ (0x5D ∷ sheets_bytes sheets)))
    ∙ (ap (λ (x : List ℕ). d ++ (0x5B ∷ x)) (chars-append file.now (0x5D ∷ sheets_bytes sheets) u)
    ∙ (ap (λ (x : List ℕ). d ++ (0x5B ∷ (f ++ x))) (behind_closing (sheets_bytes sheets) ∙ ap (λ (x : List ℕ). 0x5D ∷ x) (sheets_is sheets v))
    ∙ (ap (λ (x : List ℕ). d ++ (0x5B ∷ x)) (sym (append_assoc f (0x5D ∷ []) s))
    ∙ sym (append_assoc d (0x5B ∷ f ++ 0x5D ∷ []) s)))))

pub text_are : (p : SheetPlace) → AreTexts p → IsUtf8 (text_bytes p)
text_are (places.Here Gone) t = IsUtf8-nil
text_are (places.Here (One name)) t = sheets_are (One name) t
text_are (places.Here (Range first last)) t = sheets_are (Range first last) t
text_are (places.Book dir file Gone) t = IsUtf8-nil
text_are (places.Book dir file (One name)) t = book_are dir file (One name) t.0 t.1 t.2
text_are (places.Book dir file (Range first last)) t = book_are dir file (Range first last) t.0 t.1 t.2
text_are (places.File dir file) t = IsUtf8-nil
text_are (places.Link app topic) t = IsUtf8-nil

pub text_is : (p : SheetPlace) → AreTexts p → chars (text_bytes p) ≡ cited_text (place_view p)
text_is (places.Here Gone) t = chars-nil
text_is (places.Here (One name)) t = sheets_is (One name) t
text_is (places.Here (Range first last)) t = sheets_is (Range first last) t
text_is (places.Book dir file Gone) t = chars-nil
text_is (places.Book dir file (One name)) t = book_is dir file (One name) t.0 t.1 t.2
text_is (places.Book dir file (Range first last)) t = book_is dir file (Range first last) t.0 t.1 t.2
text_is (places.File dir file) t = chars-nil
text_is (places.Link app topic) t = chars-nil

-- ---- keys

sheets_tied : (p q : SheetPlace) → AreTexts p → AreTexts q
    → bytes_eq (cited_text (place_view p)) (cited_text (place_view q)) ≡ is_eq (slice_cmp nat_cmp (text_bytes p) (text_bytes q))
sheets_tied p q t u =
    ap (λ (x : List ℕ). bytes_eq x (cited_text (place_view q))) (sym (text_is p t))
    ∙ (ap (bytes_eq (chars (text_bytes p))) (sym (text_is q u))
    ∙ (sym (same_text (text_bytes p) (text_bytes q) (text_are p t) (text_are q u)) ∙ texts_ties (text_bytes p) (text_bytes q)))

position_tied : (p q : ℕ × ℕ) → same_position p q ≡ is_eq (by_position p q)
position_tied p q = both_tied (p.0 == q.0) (p.1 == q.1) (nat_cmp p.0 q.0) (nat_cmp p.1 q.1) (unsigned_ties p.0 q.0) (unsigned_ties p.1 q.1)

pub key_tied : (k q : Key) → AreTexts k.0.sheets → AreTexts q.0.sheets → is_same (key_view k) (key_view q) ≡ eq_by_cmp by_key k q
key_tied k q t u =
    both_tied _ _ _ _ (both_tied _ _ _ _ (sheets_tied k.0.sheets q.0.sheets t u) (position_tied k.1 q.1)) (position_tied k.2 q.2)

-- ---- the set

module _ (old new : BTreeSet Key) (found : List Citation) (k : Key) where
  last_or : (b x : Bool) → cond b true x ≡ (x || (b || false))
  last_or true true = refl
  last_or true false = refl
  last_or false true = refl
  last_or false false = refl

  -- with a key more
  pub seen_more : SeenSo old found → AreTexts k.0.sheets → Updates by_key old new k true → SeenSo new (found ++ key_view k ∷ [])
  seen_more seen t updates q u =
      updates.0 q
      ∙ (ap (λ (b : Bool). cond b true (contains by_key old q)) (sym (key_tied k q t u))
      ∙ (ap (λ (b : Bool). cond (is_same (key_view k) (key_view q)) true b) (seen q u)
      ∙ (last_or (is_same (key_view k) (key_view q)) (list_any (λ (b : Citation). is_same b (key_view q)) found)
      ∙ sym (list_any-append (λ (b : Citation). is_same b (key_view q)) found (key_view k ∷ [])))))

  pub seen_still : SeenSo old found → new.keys ≡ old.keys → SeenSo new found
  seen_still seen same q u = ap (list_any (λ x. is_eq (by_key q x))) same ∙ seen q u

  if_new : (b added : Bool) → added ≡ not b → added ≡ true → (c : Citation) → found ++ c ∷ [] ≡ (if b then found else found ++ c ∷ [])
  if_new true added e f c = absurd (let g : true ≡ false = sym f ∙ e in cc)
  if_new false added e f c = refl

  if_old : (b added : Bool) → added ≡ not b → added ≡ false → (c : Citation) → found ≡ (if b then found else found ++ c ∷ [])
  if_old true added e f c = refl
  if_old false added e f c = absurd (let g : false ≡ true = sym f ∙ e in cc)

  -- what `insert` answers says whether the citation is kept
  kept_by : SeenSo old found → AreTexts k.0.sheets → (added : Bool) → added ≡ not (contains by_key old k)
      → added ≡ not (list_any (λ (b : Citation). is_same b (key_view k)) found)
  kept_by seen t added e = e ∙ ap not (seen k t)

  pub taken : (c : Citation) → key_view k ≡ c → AreTexts k.0.sheets → (added : Bool) → added ≡ not (contains by_key old k) → added ≡ true
      → Updates by_key old new k true → (all : List Citation) → all ≡ found ++ c ∷ [] → SeenSo old found → SeenSo new all × (all ≡ kept found c)
  taken c is t added e f updates all more seen = (
    subst (SeenSo new) (sym (more ∙ ap (λ (x : Citation). found ++ x ∷ []) (sym is))) (seen_more seen t updates),
    more ∙ (if_new _ added (kept_by seen t added e) f c ∙ ap (λ (x : Citation). if list_any (λ (b : Citation). is_same b x) found then found else found ++ c ∷ []) is),
  )

  pub left_out : (c : Citation) → key_view k ≡ c → AreTexts k.0.sheets → (added : Bool) → added ≡ not (contains by_key old k) → added ≡ false
      → new.keys ≡ old.keys → SeenSo old found → SeenSo new found × (found ≡ kept found c)
  left_out c is t added e f same seen = (
    seen_still seen same,
    if_old _ added (kept_by seen t added e) f c ∙ ap (λ (x : Citation). if list_any (λ (b : Citation). is_same b x) found then found else found ++ c ∷ []) is,
  )
