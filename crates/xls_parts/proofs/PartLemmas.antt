-- The records of a part are those of its grammar.
use Rattle.std.proofs.Common.{◌≡◌, ◌≢◌, ◌⊎◌, ℕ, zero, suc, ◌+◌, ◌-◌, ◌≤◌, ◌<◌, ◌^◌, List, [], ◌∷◌, ◌++◌, map, filter, length, drop, refl, sym, ap, ◌∙◌, arith, Bool, true, false, cond, None, inl, inr, ne_eqb, length-append, append_assoc, append-nil, drop-drop}
use Rattle.std.specs.Prelude.{nat_le, ◌==◌}
use Rattle.std.specs.List.{AllByRecursion}
use Rattle.std.proofs.lemmas.Bool.{cases_lt, le-leb, lt-leb}
use Rattle.std.proofs.lemmas.Bool.Decides.{eqb_tells}
use Rattle.std.proofs.lemmas.List.{take_at, drop_at}
use Rattle.xls_stream.specs.Stream.{record_bytes, continues, Group, IsBody, Begins, Run}
use Rattle.xls_stream.specs.Substreams.{IsBof, IsEof, IsPlain, Items, none, plain, nested, AreItems, groups_of, outer_of, Open, no_more, open_at, IsOpen, open_groups, Outline, bare_closed, bare_open, own_closed, own_open, IsOutline, groups_of_outline, outer_in, EndsSo}
use Rattle.xls_stream.specs.Listing.{Kept, kept_group}
use Rattle.xls_stream.proofs.Records.{le_le16}
use Rattle.xls_parts.specs.PartRecords.{Placed, size_at, starts_whole, first_at, records_within, records_at, outer_from}
use Rattle.xls_parts.specs.Laws.{kept_of, is_no_continue, kinds_of, OuterAreThose}
use Rattle.xls_parts.proofs.PartRecordsLemmas.{within_none, within_first, records_lent}
use Rattle.xls_parts.proofs.PartRecordsLemmas as records

-- ---- a record at the beginning

module _ (typ : ℕ) (body rest : List ℕ) (typ_fits : typ < 2 ^ 16) (body_fits : IsBody body) where
  size_record : size_at (record_bytes typ body ++ rest) ≡ length body
  size_record = le_le16 (length body) body_fits

  drop_record : drop (4 + length body) (record_bytes typ body ++ rest) ≡ rest
  drop_record = sym (drop-drop (length body) 4 (record_bytes typ body ++ rest)) ∙ drop_at body rest (length body) refl

  whole_record : starts_whole (record_bytes typ body ++ rest) ≡ true
  whole_record =
      let long : length (record_bytes typ body ++ rest) ≡ suc (suc (suc (suc (length (body ++ rest))))) = refl in
      le-leb (4 + size_at (record_bytes typ body ++ rest)) (length (record_bytes typ body ++ rest)) (omega (arith, size_record, long, length-append body rest))

  record_first : (offset : ℕ) → records_at offset (record_bytes typ body ++ rest) ≡ record { offset = offset; typ = typ; body = body } ∷ records_at (offset + (4 + length body)) rest
  record_first offset = records_lent offset (record_bytes typ body ++ rest) typ body rest (record {
    whole = whole_record;
    typ_is = sym (le_le16 typ typ_fits);
    body_is = rw size_record (sym (take_at body rest (length body) refl));
    size_is = sym size_record;
    rest_is = rw size_record (sym drop_record);
  })

-- ---- records without their places

kinds_within : (n o p : ℕ) (bytes : List ℕ) → kinds_of (records_within n o bytes) ≡ kinds_of (records_within n p bytes)
unfolding records_within
kinds_within zero o p bytes = refl
kinds_within (suc n) o p bytes = by_first (starts_whole bytes) refl (kinds_within n (o + (4 + size_at bytes)) (p + (4 + size_at bytes)) (drop (4 + size_at bytes) bytes))
  where
    by_first : (b : Bool) → starts_whole bytes ≡ b → kinds_of (records_within n (o + (4 + size_at bytes)) (drop (4 + size_at bytes) bytes)) ≡ kinds_of (records_within n (p + (4 + size_at bytes)) (drop (4 + size_at bytes) bytes))
        → kinds_of (records_within (suc n) o bytes) ≡ kinds_of (records_within (suc n) p bytes)
    by_first true e same = ap kinds_of (within_first n o bytes e) ∙ ap (λ (ks : List Kept). cond (is_no_continue (kept_of (first_at 0 bytes))) (kept_of (first_at 0 bytes) ∷ ks) ks) same ∙ sym (ap kinds_of (within_first n p bytes e))
    by_first false e same = ap kinds_of (within_none (suc n) o bytes e) ∙ sym (ap kinds_of (within_none (suc n) p bytes e))

-- the records of some bytes, wherever they begin
kinds_at : List ℕ → List Kept
kinds_at bytes = kinds_of (records_at 0 bytes)

kinds_anywhere : (o : ℕ) (bytes : List ℕ) → kinds_of (records_at o bytes) ≡ kinds_at bytes
unfolding kinds_at
kinds_anywhere o bytes = kinds_within (length bytes) o 0 bytes

-- a record before others, unless it is a Continue
abbrev put : Kept → List Kept → List Kept
put k ks = cond (is_no_continue k) (k ∷ ks) ks

kinds_record : (typ : ℕ) (body rest : List ℕ) → typ < 2 ^ 16 → IsBody body → kinds_at (record_bytes typ body ++ rest) ≡ put (record { typ = typ; body = body }) (kinds_at rest)
unfolding kinds_at
kinds_record typ body rest h k =
    ap kinds_of (record_first typ body rest h k 0) ∙ ap (put (record { typ = typ; body = body })) (kinds_anywhere (0 + (4 + length body)) rest)

kinds_continues : (bodies : List (List ℕ)) (rest : List ℕ) → AllByRecursion IsBody bodies → kinds_at (continues bodies ++ rest) ≡ kinds_at rest
kinds_continues [] rest h = refl
kinds_continues (b ∷ bs) rest h =
    ap kinds_at (append_assoc (record_bytes 0x003C b) (continues bs) rest)
    ∙ kinds_record 0x003C b (continues bs ++ rest) (omega arith) h.0
    ∙ kinds_continues bs rest h.1

kinds_group : (bytes : List ℕ) (g : Group) (rest : List ℕ) → Begins bytes g rest → kinds_at bytes ≡ put (kept_group g) (kinds_at rest)
kinds_group bytes g rest b =
    ap kinds_at (b.whole ∙ append_assoc (record_bytes g.typ g.body) (continues g.tail) rest)
    ∙ kinds_record g.typ g.body (continues g.tail ++ rest) b.fits.typ b.fits.body
    ∙ ap (put (kept_group g)) (kinds_continues g.tail rest b.fits.tail)

-- those of some groups
abbrev those : List Group → List Kept
those gs = filter is_no_continue (map kept_group gs)

put_before : (k : Kept) (ks more : List Kept) → put k (ks ++ more) ≡ put k ks ++ more
put_before k ks more = by_test (is_no_continue k)
  where
    by_test : (b : Bool) → cond b (k ∷ (ks ++ more)) (ks ++ more) ≡ cond b (k ∷ ks) ks ++ more
    by_test true = refl
    by_test false = refl

kinds_run : (bytes : List ℕ) (gs : List Group) (rest : List ℕ) → Run bytes gs rest → kinds_at bytes ≡ those gs ++ kinds_at rest
kinds_run bytes [] rest r = ap kinds_at r
kinds_run bytes (g ∷ gs) rest r =
    kinds_group bytes g r.0 r.1 ∙ ap (put (kept_group g)) (kinds_run r.0 gs rest r.2) ∙ put_before (kept_group g) (those gs) (kinds_at rest)

-- ---- outside nested substreams

unfoldable outer_kept : ℕ → List Kept → List Kept
outer_kept depth [] = []
outer_kept depth (k ∷ ks) =
    cond (k.typ == 0x0809) (outer_kept (depth + 1) ks) (cond (k.typ == 0x000A) (cond (nat_le depth 1) [] (outer_kept (depth - 1) ks))
    (cond (nat_le depth 1) (k ∷ outer_kept depth ks) (outer_kept depth ks)))

outer_end : (depth : ℕ) → outer_kept depth [] ≡ []
unfolding outer_kept
outer_end depth = refl

module _ (depth : ℕ) (k : Kept) (ks : List Kept) where
  kept_bof : k.typ ≡ 0x0809 → outer_kept depth (k ∷ ks) ≡ outer_kept (depth + 1) ks
  unfolding outer_kept
  kept_bof e = rw e refl

  kept_eof : k.typ ≡ 0x000A → depth ≤ 1 → outer_kept depth (k ∷ ks) ≡ []
  unfolding outer_kept
  kept_eof e h = rw (e, le-leb depth 1 h) refl

  kept_eof_inside : k.typ ≡ 0x000A → 1 < depth → outer_kept depth (k ∷ ks) ≡ outer_kept (depth - 1) ks
  unfolding outer_kept
  kept_eof_inside e h = rw (e, lt-leb depth 1 h) refl

  kept_outside : k.typ ≢ 0x0809 → k.typ ≢ 0x000A → depth ≤ 1 → outer_kept depth (k ∷ ks) ≡ k ∷ outer_kept depth ks
  unfolding outer_kept
  kept_outside b e h = rw (ne_eqb k.typ 0x0809 b, ne_eqb k.typ 0x000A e, le-leb depth 1 h) refl

  kept_inside : k.typ ≢ 0x0809 → k.typ ≢ 0x000A → 1 < depth → outer_kept depth (k ∷ ks) ≡ outer_kept depth ks
  unfolding outer_kept
  kept_inside b e h = rw (ne_eqb k.typ 0x0809 b, ne_eqb k.typ 0x000A e, lt-leb depth 1 h) refl

kinds_put : (r : Placed) (rs : List Placed) → kinds_of (r ∷ rs) ≡ put (kept_of r) (kinds_of rs)
kinds_put r rs = refl

-- a record that neither opens nor closes a substream, a Continue or not
put_outside : (depth : ℕ) (k : Kept) (ks : List Kept) → k.typ ≢ 0x0809 → k.typ ≢ 0x000A → depth ≤ 1 → outer_kept depth (put k ks) ≡ put k (outer_kept depth ks)
put_outside depth k ks b e h = by_test (is_no_continue k)
  where
    by_test : (t : Bool) → outer_kept depth (cond t (k ∷ ks) ks) ≡ cond t (k ∷ outer_kept depth ks) (outer_kept depth ks)
    by_test true = kept_outside depth k ks b e h
    by_test false = refl

put_inside : (depth : ℕ) (k : Kept) (ks : List Kept) → k.typ ≢ 0x0809 → k.typ ≢ 0x000A → 1 < depth → outer_kept depth (put k ks) ≡ outer_kept depth ks
put_inside depth k ks b e h = by_test (is_no_continue k)
  where
    by_test : (t : Bool) → outer_kept depth (cond t (k ∷ ks) ks) ≡ outer_kept depth ks
    by_test true = kept_inside depth k ks b e h
    by_test false = refl

put_bof : (k : Kept) (ks : List Kept) → k.typ ≡ 0x0809 → put k ks ≡ k ∷ ks
put_bof k ks e = rw e refl

put_eof : (k : Kept) (ks : List Kept) → k.typ ≡ 0x000A → put k ks ≡ k ∷ ks
put_eof k ks e = rw e refl

outer_kinds : (depth : ℕ) (rs : List Placed) → kinds_of (outer_from depth rs) ≡ outer_kept depth (kinds_of rs)
outer_kinds depth [] = ap kinds_of (records.outer_end depth) ∙ sym (outer_end depth)
outer_kinds depth (r ∷ rs) =
    by_type (eqb_tells r.typ 0x0809) (eqb_tells r.typ 0x000A) (cases_lt 1 depth) (outer_kinds (depth + 1) rs) (outer_kinds (depth - 1) rs) (outer_kinds depth rs)
  where
    by_type : (((r.typ == 0x0809) ≡ true) × (r.typ ≡ 0x0809)) ⊎ (((r.typ == 0x0809) ≡ false) × (r.typ ≢ 0x0809))
        → (((r.typ == 0x000A) ≡ true) × (r.typ ≡ 0x000A)) ⊎ (((r.typ == 0x000A) ≡ false) × (r.typ ≢ 0x000A))
        → (1 < depth) ⊎ (depth ≤ 1)
        → kinds_of (outer_from (depth + 1) rs) ≡ outer_kept (depth + 1) (kinds_of rs)
        → kinds_of (outer_from (depth - 1) rs) ≡ outer_kept (depth - 1) (kinds_of rs)
        → kinds_of (outer_from depth rs) ≡ outer_kept depth (kinds_of rs)
        → kinds_of (outer_from depth (r ∷ rs)) ≡ outer_kept depth (kinds_of (r ∷ rs))
    by_type (inl bof) e d up down same =
        ap kinds_of (records.outer_bof depth r rs bof.1) ∙ up ∙ sym (kept_bof depth (kept_of r) (kinds_of rs) bof.1)
        ∙ sym (ap (outer_kept depth) (put_bof (kept_of r) (kinds_of rs) bof.1))
    by_type (inr nb) (inl eof) (inr h) up down same =
        ap kinds_of (records.outer_eof depth r rs eof.1 h) ∙ sym (kept_eof depth (kept_of r) (kinds_of rs) eof.1 h)
        ∙ sym (ap (outer_kept depth) (put_eof (kept_of r) (kinds_of rs) eof.1))
    by_type (inr nb) (inl eof) (inl h) up down same =
        ap kinds_of (records.outer_eof_inside depth r rs eof.1 h) ∙ down ∙ sym (kept_eof_inside depth (kept_of r) (kinds_of rs) eof.1 h)
        ∙ sym (ap (outer_kept depth) (put_eof (kept_of r) (kinds_of rs) eof.1))
    by_type (inr nb) (inr ne) (inr h) up down same =
        ap kinds_of (records.outer_kept depth r rs nb.1 ne.1 h) ∙ ap (put (kept_of r)) same ∙ sym (put_outside depth (kept_of r) (kinds_of rs) nb.1 ne.1 h)
    by_type (inr nb) (inr ne) (inl h) up down same =
        ap kinds_of (records.outer_inside depth r rs nb.1 ne.1 h) ∙ same ∙ sym (put_inside depth (kept_of r) (kinds_of rs) nb.1 ne.1 h)

-- ---- nested substreams

those_append : (gs hs : List Group) → those (gs ++ hs) ≡ those gs ++ those hs
those_append [] hs = refl
those_append (g ∷ gs) hs = ap (put (kept_group g)) (those_append gs hs) ∙ put_before (kept_group g) (those gs) (those hs)

-- a BOF, groups, an EOF and more
split_nested : (b : Group) (inner : List Group) (e : Group) (gs : List Group) (more : List Kept) → IsBof b → IsEof e
    → those (b ∷ (inner ++ e ∷ gs)) ++ more ≡ kept_group b ∷ (those inner ++ kept_group e ∷ (those gs ++ more))
split_nested b inner e gs more h k =
    ap (λ (ks : List Kept). ks ++ more) (put_bof (kept_group b) (those (inner ++ e ∷ gs)) h
    ∙ ap (λ (ks : List Kept). kept_group b ∷ ks) (those_append inner (e ∷ gs) ∙ ap (λ (ks : List Kept). those inner ++ ks) (put_eof (kept_group e) (those gs) k)))
    ∙ ap (λ (ks : List Kept). kept_group b ∷ ks) (append_assoc (those inner) (kept_group e ∷ those gs) more)

split_open : (b : Group) (inner gs : List Group) → IsBof b → those (b ∷ (inner ++ gs)) ≡ kept_group b ∷ (those inner ++ those gs)
split_open b inner gs h = put_bof (kept_group b) (those (inner ++ gs)) h ∙ ap (λ (ks : List Kept). kept_group b ∷ ks) (those_append inner gs)

deeper_by : (m n : ℕ) (ks : List Kept) → m ≡ n → outer_kept m ks ≡ outer_kept n ks
deeper_by m n ks e = ap (λ (d : ℕ). outer_kept d ks) e

skip_items : (items : Items) → AreItems items → (n : ℕ) (more : List Kept) → outer_kept (suc (suc n)) (those (groups_of items) ++ more) ≡ outer_kept (suc (suc n)) more
skip_items none h n more = refl
skip_items (plain g others) h n more =
    ap (outer_kept (suc (suc n))) (sym (put_before (kept_group g) (those (groups_of others)) more))
    ∙ put_inside (suc (suc n)) (kept_group g) (those (groups_of others) ++ more) h.0.0 h.0.1 (omega arith)
    ∙ skip_items others h.1 n more
skip_items (nested b inner e others) h n more =
    ap (outer_kept (suc (suc n))) (split_nested b (groups_of inner) e (groups_of others) more h.0 h.2)
    ∙ kept_bof (suc (suc n)) (kept_group b) (those (groups_of inner) ++ kept_group e ∷ (those (groups_of others) ++ more)) h.0
    ∙ deeper_by (suc (suc n) + 1) (suc (suc (suc n))) (those (groups_of inner) ++ kept_group e ∷ (those (groups_of others) ++ more)) (omega arith)
    ∙ skip_items inner h.1 (suc n) (kept_group e ∷ (those (groups_of others) ++ more))
    ∙ kept_eof_inside (suc (suc (suc n))) (kept_group e) (those (groups_of others) ++ more) h.2 (omega arith)
    ∙ deeper_by (suc (suc (suc n)) - 1) (suc (suc n)) (those (groups_of others) ++ more) (omega arith)
    ∙ skip_items others h.3 n more

keep_items : (items : Items) → AreItems items → (more : List Kept) → outer_kept 1 (those (groups_of items) ++ more) ≡ those (outer_of items) ++ outer_kept 1 more
keep_items none h more = refl
keep_items (plain g others) h more =
    ap (outer_kept 1) (sym (put_before (kept_group g) (those (groups_of others)) more))
    ∙ put_outside 1 (kept_group g) (those (groups_of others) ++ more) h.0.0 h.0.1 (omega arith)
    ∙ ap (put (kept_group g)) (keep_items others h.1 more)
    ∙ put_before (kept_group g) (those (outer_of others)) (outer_kept 1 more)
keep_items (nested b inner e others) h more =
    ap (outer_kept 1) (split_nested b (groups_of inner) e (groups_of others) more h.0 h.2)
    ∙ kept_bof 1 (kept_group b) (those (groups_of inner) ++ kept_group e ∷ (those (groups_of others) ++ more)) h.0
    ∙ skip_items inner h.1 0 (kept_group e ∷ (those (groups_of others) ++ more))
    ∙ kept_eof_inside 2 (kept_group e) (those (groups_of others) ++ more) h.2 (omega arith)
    ∙ keep_items others h.3 more

skip_open : (o : Open) → IsOpen o → (n : ℕ) → outer_kept (suc (suc n)) (those (open_groups o)) ≡ []
skip_open no_more h n = outer_end (suc (suc n))
skip_open (open_at b inner deeper) h n =
    ap (outer_kept (suc (suc n))) (split_open b (groups_of inner) (open_groups deeper) h.0)
    ∙ kept_bof (suc (suc n)) (kept_group b) (those (groups_of inner) ++ those (open_groups deeper)) h.0
    ∙ deeper_by (suc (suc n) + 1) (suc (suc (suc n))) (those (groups_of inner) ++ those (open_groups deeper)) (omega arith)
    ∙ skip_items inner h.1 (suc n) (those (open_groups deeper))
    ∙ skip_open deeper h.2 (suc n)

keep_open : (o : Open) → IsOpen o → outer_kept 1 (those (open_groups o)) ≡ []
keep_open no_more h = outer_end 1
keep_open (open_at b inner deeper) h =
    ap (outer_kept 1) (split_open b (groups_of inner) (open_groups deeper) h.0)
    ∙ kept_bof 1 (kept_group b) (those (groups_of inner) ++ those (open_groups deeper)) h.0
    ∙ skip_items inner h.1 0 (those (open_groups deeper))
    ∙ skip_open deeper h.2 0

keep_prefix : (prefix : List Group) → AllByRecursion IsPlain prefix → (more : List Kept) → outer_kept 0 (those prefix ++ more) ≡ those prefix ++ outer_kept 0 more
keep_prefix [] h more = refl
keep_prefix (g ∷ prefix) h more =
    ap (outer_kept 0) (sym (put_before (kept_group g) (those prefix) more))
    ∙ put_outside 0 (kept_group g) (those prefix ++ more) h.0.0 h.0.1 (omega arith)
    ∙ ap (put (kept_group g)) (keep_prefix prefix h.1 more)
    ∙ put_before (kept_group g) (those prefix) (outer_kept 0 more)

-- ---- a part

keep_outline : (outline : Outline) → IsOutline outline → (rest : List ℕ) → EndsSo outline rest None
    → outer_kept 0 (those (groups_of_outline outline) ++ kinds_at rest) ≡ those (outer_in outline)
unfolding kinds_at records_within
keep_outline (bare_closed prefix eof) h rest ends =
    let more = kinds_at rest in
    ap (outer_kept 0) (ap (λ (ks : List Kept). ks ++ more) (those_append prefix (eof ∷ []) ∙ ap (λ (ks : List Kept). those prefix ++ ks) (put_eof (kept_group eof) [] h.1)) ∙ append_assoc (those prefix) (kept_group eof ∷ []) more)
    ∙ keep_prefix prefix h.0 (kept_group eof ∷ more)
    ∙ ap (λ (ks : List Kept). those prefix ++ ks) (kept_eof 0 (kept_group eof) more h.1 (omega arith))
    ∙ append-nil (those prefix)
keep_outline (bare_open prefix) h rest ends =
    ap (λ (bytes : List ℕ). outer_kept 0 (those prefix ++ kinds_at bytes)) ends
    ∙ keep_prefix prefix h []
    ∙ ap (λ (ks : List Kept). those prefix ++ ks) (outer_end 0)
    ∙ append-nil (those prefix)
keep_outline (own_closed prefix bof items eof) h rest ends =
    let more = kinds_at rest in
    let own = those (groups_of items) ++ kept_group eof ∷ more in
    ap (outer_kept 0) (ap (λ (ks : List Kept). ks ++ more) (those_append prefix (bof ∷ (groups_of items ++ eof ∷ [])))
    ∙ append_assoc (those prefix) (those (bof ∷ (groups_of items ++ eof ∷ []))) more
    ∙ ap (λ (ks : List Kept). those prefix ++ ks) (split_nested bof (groups_of items) eof [] more h.1 h.3))
    ∙ keep_prefix prefix h.0 (kept_group bof ∷ own)
    ∙ ap (λ (ks : List Kept). those prefix ++ ks) (kept_bof 0 (kept_group bof) own h.1
    ∙ keep_items items h.2 (kept_group eof ∷ more)
    ∙ ap (λ (ks : List Kept). those (outer_of items) ++ ks) (kept_eof 1 (kept_group eof) more h.3 (omega arith))
    ∙ append-nil (those (outer_of items)))
    ∙ sym (those_append prefix (outer_of items))
keep_outline (own_open prefix bof items deeper) h rest ends =
    let own = those (groups_of items) ++ those (open_groups deeper) in
    ap (λ (bytes : List ℕ). outer_kept 0 (those (prefix ++ bof ∷ (groups_of items ++ open_groups deeper)) ++ kinds_at bytes)) ends
    ∙ ap (outer_kept 0) (append-nil (those (prefix ++ bof ∷ (groups_of items ++ open_groups deeper)))
    ∙ those_append prefix (bof ∷ (groups_of items ++ open_groups deeper))
    ∙ ap (λ (ks : List Kept). those prefix ++ ks) (split_open bof (groups_of items) (open_groups deeper) h.1))
    ∙ keep_prefix prefix h.0 (kept_group bof ∷ own)
    ∙ ap (λ (ks : List Kept). those prefix ++ ks) (kept_bof 0 (kept_group bof) own h.1
    ∙ keep_items items h.2 (those (open_groups deeper))
    ∙ ap (λ (ks : List Kept). those (outer_of items) ++ ks) (keep_open deeper h.3)
    ∙ append-nil (those (outer_of items)))
    ∙ sym (those_append prefix (outer_of items))

pub outer_are_those : OuterAreThose
outer_are_those part kept p offset =
    outer_kinds 0 (records_at offset part)
    ∙ ap (outer_kept 0) (kinds_anywhere offset part ∙ kinds_run part (groups_of_outline p.outline) p.rest p.run)
    ∙ keep_outline p.outline p.is_outline p.rest p.ends
