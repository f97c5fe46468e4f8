-- The records of a sheet's own, by their places in the part.
use Rattle.std.proofs.Common.{◌≡◌, ℕ, zero, suc, ◌+◌, ◌-◌, ◌≤◌, ◌<◌, List, [], ◌∷◌, length, drop, refl, sym, ap, ◌∙◌, subst, arith, Bool, true, false, cond, eq-eqb, ne_eqb, length-drop, length-take-le, drop-drop}
use Rattle.std.specs.Prelude.{◌==◌, ◌&&◌, not, nat_le}
use Rattle.std.proofs.lemmas.Bool.{leb-true, le-leb, eqb-true}
use Rattle.xls_parts.specs.PartRecords.{Placed, size_at, starts_whole, first_at, records_within, records_at, outer_from, own_from, own_records}
use Rattle.xls_parts.proofs.PartRecordsLemmas.{within_none, within_first, within_enough}
use Rattle.xls_comments.specs.Fields.{end_of}
use Rattle.xls_comments.specs.Objects.{HasText, is_piece, pieces}
use Rattle.xls_comments.specs.Walking.{leading_pieces, text_first, text_at, AreLast}

-- ---- one record is left out, or it is the first of a sheet's own, or it ends them

pub data Goes (f : Placed) (more : List Placed) (depth : ℕ) (inside : Bool) (own : List Placed) : Type 0 where
  ends : own ≡ [] → Goes f more depth inside own
  left_out : (d : ℕ) (i : Bool) → own ≡ own_from i (outer_from d more) → Goes f more depth inside own
  kept : depth ≤ 1 → own ≡ f ∷ own_from false (outer_from depth more) → Goes f more depth inside own

module _ (f : Placed) (more : List Placed) where
  by_view : (depth : ℕ) (inside : Bool) → depth ≤ 1 → (a b : Bool) (xs own : List Placed) → xs ≡ outer_from depth more
      → own ≡ cond a (own_from true xs) (cond b (own_from false xs) (cond inside (own_from true xs) (f ∷ own_from false xs))) → Goes f more depth inside own
  by_view depth inside h true b xs own x e = left_out depth true (e ∙ ap (own_from true) x)
  by_view depth inside h false true xs own x e = left_out depth false (e ∙ ap (own_from false) x)
  by_view depth true h false false xs own x e = left_out depth true (e ∙ ap (own_from true) x)
  by_view depth false h false false xs own x e = kept h (e ∙ ap (λ (ys : List Placed). f ∷ own_from false ys) x)

  by_type : (depth : ℕ) (inside : Bool) (a b c : Bool) → nat_le depth 1 ≡ c
      → Goes f more depth inside (own_from inside (cond a (outer_from (depth + 1) more) (cond b (cond c [] (outer_from (depth - 1) more)) (cond c (f ∷ outer_from depth more) (outer_from depth more)))))
  unfolding own_from
  by_type depth inside true b c e = left_out (depth + 1) inside refl
  by_type depth inside false true true e = ends refl
  by_type depth inside false true false e = left_out (depth - 1) inside refl
  by_type depth inside false false true e =
      by_view depth inside (leb-true depth 1 e) (f.typ == 0x01AA) (f.typ == 0x01AB) (outer_from depth more) (own_from inside (f ∷ outer_from depth more)) refl refl
  by_type depth inside false false false e = left_out depth inside refl

  pub goes : (depth : ℕ) (inside : Bool) → Goes f more depth inside (own_from inside (outer_from depth (f ∷ more)))
  unfolding outer_from
  goes depth inside = by_type depth inside (f.typ == 0x0809) (f.typ == 0x000A) (nat_le depth 1) refl

-- ---- the records of some bytes

no_own : (depth : ℕ) (inside : Bool) → own_from inside (outer_from depth []) ≡ []
unfolding outer_from own_from
no_own depth inside = refl

zero_within : (place : ℕ) (bytes : List ℕ) → records_within zero place bytes ≡ []
unfolding records_within
zero_within place bytes = refl

pub no_records : own_records 0 [] ≡ []
no_records = ap (λ (rs : List Placed). own_from false (outer_from 0 rs)) (zero_within 0 []) ∙ no_own 0 false

-- ---- pieces

-- no piece stands directly behind a place where the records begin behind it
later_more : (f : Placed) (more : List Placed) (place depth : ℕ) (inside : Bool) (own : List Placed) → Goes f more depth inside own → place < f.offset
    → ((d : ℕ) (i : Bool) → pieces place (own_from i (outer_from d more)) ≡ []) → pieces place own ≡ []
later_more f more place depth inside own (ends e) h others = ap (pieces place) e
later_more f more place depth inside own (left_out d i e) h others = ap (pieces place) e ∙ others d i
later_more f more place depth inside own (kept low e) h others = ap (pieces place) e ∙ apart (is_piece f)
  where
    apart : (b : Bool) → cond (b && f.offset == place) (f.body ∷ pieces (end_of f) (own_from false (outer_from depth more))) [] ≡ []
    apart false = refl
    apart true = rw (ne_eqb f.offset place (λ (e : f.offset ≡ place). omega (arith, e, h))) refl

later : (most start place depth : ℕ) (inside : Bool) (bytes : List ℕ) → place < start → pieces place (own_from inside (outer_from depth (records_within most start bytes))) ≡ []
later zero start place depth inside bytes h = ap (λ (rs : List Placed). pieces place (own_from inside (outer_from depth rs))) (zero_within start bytes) ∙ ap (pieces place) (no_own depth inside)
later (suc most) start place depth inside bytes h =
    by_whole (starts_whole bytes) refl (λ d i. later most (start + (4 + size_at bytes)) place d i (drop (4 + size_at bytes) bytes) (omega (arith, h)))
  where
    by_whole : (b : Bool) → starts_whole bytes ≡ b
        → ((d : ℕ) (i : Bool) → pieces place (own_from i (outer_from d (records_within most (start + (4 + size_at bytes)) (drop (4 + size_at bytes) bytes)))) ≡ [])
        → pieces place (own_from inside (outer_from depth (records_within (suc most) start bytes))) ≡ []
    by_whole false e others =
        ap (λ (rs : List Placed). pieces place (own_from inside (outer_from depth rs))) (within_none (suc most) start bytes e) ∙ ap (pieces place) (no_own depth inside)
    by_whole true e others =
        let f = first_at start bytes in
        let more = records_within most (start + (4 + size_at bytes)) (drop (4 + size_at bytes) bytes) in
        ap (λ (rs : List Placed). pieces place (own_from inside (outer_from depth rs))) (within_first most start bytes e)
        ∙ later_more f more place depth inside (own_from inside (outer_from depth (f ∷ more))) (goes f more depth inside) h others

-- a Continue is one of a sheet's own where the record before it is
piece_kept : (f : Placed) (more : List Placed) (depth : ℕ) → depth ≤ 1 → f.typ ≡ 0x3C → own_from false (outer_from depth (f ∷ more)) ≡ f ∷ own_from false (outer_from depth more)
unfolding own_from outer_from
piece_kept f more depth h e = rw (e, le-leb depth 1 h) refl

both : (a b : Bool) → (a && b) ≡ true → a ≡ true
both true b e = refl
both false b e = absurd cc

first_fits : (start : ℕ) (bytes : List ℕ) → starts_whole bytes ≡ true → end_of (first_at start bytes) ≡ start + (4 + size_at bytes)
first_fits start bytes e =
    let h = leb-true (4 + size_at bytes) (length bytes) e in
    let d = length-drop 4 bytes in
    let t = length-take-le (size_at bytes) (drop 4 bytes) (omega (arith, h, d)) in
    ap (λ (n : ℕ). start + (4 + n)) t

pieces_more : (f : Placed) (more : List Placed) (depth : ℕ) → depth ≤ 1 → pieces (end_of f) (own_from false (outer_from depth more)) ≡ leading_pieces more
    → ((d : ℕ) (i : Bool) → pieces f.offset (own_from i (outer_from d more)) ≡ [])
    → pieces f.offset (own_from false (outer_from depth (f ∷ more))) ≡ leading_pieces (f ∷ more)
pieces_more f more depth h same others = by_piece (is_piece f) refl
  where
    no_piece : is_piece f ≡ false → (own : List Placed) → Goes f more depth false own → pieces f.offset own ≡ []
    no_piece e own (ends g) = ap (pieces f.offset) g
    no_piece e own (left_out d i g) = ap (pieces f.offset) g ∙ others d i
    no_piece e own (kept low g) = ap (pieces f.offset) g ∙ rw e refl

    by_piece : (b : Bool) → is_piece f ≡ b → pieces f.offset (own_from false (outer_from depth (f ∷ more))) ≡ leading_pieces (f ∷ more)
    by_piece false e = no_piece e (own_from false (outer_from depth (f ∷ more))) (goes f more depth false) ∙ sym (rw e refl)
    by_piece true e =
        let typ : f.typ ≡ 0x3C = eqb-true f.typ 0x3C (both (f.typ == 0x3C) (not (length f.body == 0)) e) in
        ap (pieces f.offset) (piece_kept f more depth h typ)
        ∙ rw (e, eq-eqb f.offset f.offset refl) (ap (λ (bs : List (List ℕ)). f.body ∷ bs) same)

-- the pieces behind a place are the same in the stream
pub pieces_same : (most start depth : ℕ) (bytes : List ℕ) → depth ≤ 1 → pieces start (own_from false (outer_from depth (records_within most start bytes))) ≡ leading_pieces (records_within most start bytes)
pieces_same zero start depth bytes h =
    ap (λ (rs : List Placed). pieces start (own_from false (outer_from depth rs))) (zero_within start bytes) ∙ ap (pieces start) (no_own depth false) ∙ ap leading_pieces (sym (zero_within start bytes))
pieces_same (suc most) start depth bytes h =
    by_whole (starts_whole bytes) refl (pieces_same most (start + (4 + size_at bytes)) depth (drop (4 + size_at bytes) bytes) h)
  where
    by_whole : (b : Bool) → starts_whole bytes ≡ b
        → pieces (start + (4 + size_at bytes)) (own_from false (outer_from depth (records_within most (start + (4 + size_at bytes)) (drop (4 + size_at bytes) bytes))))
        ≡ leading_pieces (records_within most (start + (4 + size_at bytes)) (drop (4 + size_at bytes) bytes))
        → pieces start (own_from false (outer_from depth (records_within (suc most) start bytes))) ≡ leading_pieces (records_within (suc most) start bytes)
    by_whole false e same =
        ap (λ (rs : List Placed). pieces start (own_from false (outer_from depth rs))) (within_none (suc most) start bytes e) ∙ ap (pieces start) (no_own depth false)
        ∙ ap leading_pieces (sym (within_none (suc most) start bytes e))
    by_whole true e same =
        let f = first_at start bytes in
        let more = records_within most (start + (4 + size_at bytes)) (drop (4 + size_at bytes) bytes) in
        ap (λ (rs : List Placed). pieces start (own_from false (outer_from depth rs))) (within_first most start bytes e)
        ∙ pieces_more f more depth h
        (ap (λ (n : ℕ). pieces n (own_from false (outer_from depth more))) (first_fits start bytes e) ∙ same)
        (λ d i. later most (start + (4 + size_at bytes)) start d i (drop (4 + size_at bytes) bytes) (omega arith))
        ∙ ap leading_pieces (sym (within_first most start bytes e))

-- ---- the text at a place

enough_more : (most : ℕ) (bytes : List ℕ) → starts_whole bytes ≡ true → length bytes ≤ suc most → length (drop (4 + size_at bytes) bytes) ≤ most
enough_more most bytes e h =
    let fits = leb-true (4 + size_at bytes) (length bytes) e in
    let d = length-drop (4 + size_at bytes) bytes in
    omega (arith, fits, d, h)

module _ (offset : ℕ) (part : List ℕ) where
  -- a record of a sheet's own, so many bytes of the part before it, and those behind it
  pub record Lies (r : Placed) (rs : List Placed) : Type 0 where
    pub at : ℕ
    pub depth : ℕ
    pub most : ℕ
    pub whole : starts_whole (drop at part) ≡ true
    pub low : depth ≤ 1
    pub enough : length (drop (at + (4 + size_at (drop at part))) part) ≤ most
    pub is : r ≡ first_at (offset + at) (drop at part)
    pub are : rs ≡ own_from false (outer_from depth (records_within most (offset + (at + (4 + size_at (drop at part)))) (drop (at + (4 + size_at (drop at part))) part)))

  lies_more : (most at depth : ℕ) (inside : Bool) (r : Placed) (rs own more : List Placed) → starts_whole (drop at part) ≡ true → length (drop at part) ≤ suc most
      → more ≡ records_within most (offset + (at + (4 + size_at (drop at part)))) (drop (at + (4 + size_at (drop at part))) part)
      → Goes (first_at (offset + at) (drop at part)) more depth inside own → own ≡ r ∷ rs
      → ((d : ℕ) (i : Bool) → own_from i (outer_from d more) ≡ r ∷ rs → Lies r rs) → Lies r rs
  lies_more most at depth inside r rs own more e h m (ends g) o others = absurd (let f = sym g ∙ o in cc)
  lies_more most at depth inside r rs own more e h m (left_out d i g) o others = others d i (sym g ∙ o)
  lies_more most at depth inside r rs own more e h m (kept low g) o others =
      let same : first_at (offset + at) (drop at part) ∷ own_from false (outer_from depth more) ≡ r ∷ rs = sym g ∙ o in
      let here = enough_more most (drop at part) e h in
      let place = drop-drop (4 + size_at (drop at part)) at part in
      record {
        at = at;
        depth = depth;
        most = most;
        whole = e;
        low = low;
        enough = subst (λ (bs : List ℕ). length bs ≤ most) place here;
        is = sym (head_is same);
        are = sym (tail_is same) ∙ ap (λ (xs : List Placed). own_from false (outer_from depth xs)) m;
      }
    where
      head_is : {x y : Placed} {xs ys : List Placed} → x ∷ xs ≡ y ∷ ys → x ≡ y
      head_is f = cc

      tail_is : {x y : Placed} {xs ys : List Placed} → x ∷ xs ≡ y ∷ ys → xs ≡ ys
      tail_is f = cc

  lies : (most at depth : ℕ) (inside : Bool) (r : Placed) (rs : List Placed) → length (drop at part) ≤ most
      → own_from inside (outer_from depth (records_within most (offset + at) (drop at part))) ≡ r ∷ rs → Lies r rs
  lies zero at depth inside r rs h o =
      absurd (let f = sym (ap (λ (xs : List Placed). own_from inside (outer_from depth xs)) (zero_within (offset + at) (drop at part)) ∙ no_own depth inside) ∙ o in cc)
  lies (suc most) at depth inside r rs h o =
      by_whole (starts_whole (drop at part)) refl
      (λ e d i f. lies most (at + (4 + size_at (drop at part))) d i r rs
      (subst (λ (bs : List ℕ). length bs ≤ most) (drop-drop (4 + size_at (drop at part)) at part) (enough_more most (drop at part) e h)) f)
    where
      by_whole : (b : Bool) → starts_whole (drop at part) ≡ b
          → (starts_whole (drop at part) ≡ true → (d : ℕ) (i : Bool)
          → own_from i (outer_from d (records_within most (offset + (at + (4 + size_at (drop at part)))) (drop (at + (4 + size_at (drop at part))) part))) ≡ r ∷ rs → Lies r rs)
          → Lies r rs
      by_whole false e others = absurd (let f = sym (ap (λ (xs : List Placed). own_from inside (outer_from depth xs)) (within_none (suc most) (offset + at) (drop at part) e) ∙ no_own depth inside) ∙ o in cc)
      by_whole true e others =
          let size = 4 + size_at (drop at part) in
          let more = records_within most (offset + (at + size)) (drop (at + size) part) in
          let there : offset + at + size ≡ offset + (at + size) = omega arith in
          let split : records_within (suc most) (offset + at) (drop at part) ≡ first_at (offset + at) (drop at part) ∷ more =
          within_first most (offset + at) (drop at part) e
          ∙ ap (λ (bs : List ℕ). first_at (offset + at) (drop at part) ∷ records_within most (offset + at + size) bs) (drop-drop size at part)
          ∙ ap (λ (n : ℕ). first_at (offset + at) (drop at part) ∷ records_within most n (drop (at + size) part)) there in
          lies_more most at depth inside r rs (own_from inside (outer_from depth (first_at (offset + at) (drop at part) ∷ more))) more e h refl
          (goes (first_at (offset + at) (drop at part)) more depth inside)
          (ap (λ (xs : List Placed). own_from inside (outer_from depth xs)) (sym split) ∙ o)
          (others e)

  -- the text whose TxO such a record is, in the stream
  text_here : (r : Placed) (rs : List Placed) → Lies r rs → text_at offset part r.offset ≡ HasText r.body (pieces (end_of r) rs)
  text_here r rs l =
      let bytes = drop l.at part in
      let size = 4 + size_at bytes in
      let there = offset + l.at in
      let fewer = length bytes - 1 in
      let fits = leb-true size (length bytes) l.whole in
      let long : length bytes ≡ suc fewer = omega (arith, fits) in
      let place : r.offset ≡ there = ap (λ (x : Placed). x.offset) l.is in
      let skip : r.offset - offset ≡ l.at = omega (arith, place) in
      let behind : there + size ≡ offset + (l.at + size) = omega arith in
      let end : end_of r ≡ offset + (l.at + size) = ap end_of l.is ∙ first_fits there bytes l.whole ∙ behind in
      let rest = drop (l.at + size) part in
      let long_rest = length-drop size bytes in
      let same_rest = ap length (drop-drop size l.at part) in
      ap (λ (n : ℕ). text_first (records_at n (drop (n - offset) part))) place
      ∙ ap (λ (n : ℕ). text_first (records_at there (drop n part))) (sym (ap (λ (n : ℕ). n - offset) place) ∙ skip)
      ∙ ap (λ (n : ℕ). text_first (records_within n there bytes)) long
      ∙ ap text_first (within_first fewer there bytes l.whole)
      ∙ ap (λ (n : ℕ). HasText (first_at there bytes).body (leading_pieces (records_within fewer n (drop size bytes)))) behind
      ∙ ap (λ (bs : List ℕ). HasText (first_at there bytes).body (leading_pieces (records_within fewer (offset + (l.at + size)) bs))) (drop-drop size l.at part)
      ∙ ap (λ (rs : List Placed). HasText (first_at there bytes).body (leading_pieces rs))
      (within_enough fewer l.most (offset + (l.at + size)) rest (omega (arith, long, long_rest, same_rest, fits)) l.enough)
      ∙ sym (ap (λ (bs : List (List ℕ)). HasText (first_at there bytes).body bs)
      (ap (λ (n : ℕ). pieces n rs) end ∙ ap (pieces (offset + (l.at + size))) l.are ∙ pieces_same l.most (offset + (l.at + size)) l.depth rest l.low))
      ∙ ap (λ (x : Placed). HasText x.body (pieces (end_of r) rs)) (sym l.is)

  pub step_last : (before rs : List Placed) (r : Placed) → before ≡ r ∷ rs → AreLast offset part before
      → AreLast offset part rs × (text_at offset part r.offset ≡ HasText r.body (pieces (end_of r) rs))
  step_last before rs r e last =
      let l = lies last.most last.skipped last.depth last.inside r rs last.enough (sym last.are ∙ e) in (
        record { skipped = l.at + (4 + size_at (drop l.at part)); inside = false; depth = l.depth; most = l.most; enough = l.enough; are = l.are },
        text_here r rs l,
      )

  pub all_last : AreLast offset part (own_records offset part)
  all_last = record { skipped = 0; inside = false; depth = 0; most = length part; enough = omega arith; are = let e : offset + 0 ≡ offset = omega arith in rw e refl }
