-- The records of some bytes, one at a time; those up to an EOF; and those of a sheet's own.
use Rattle.std.proofs.Common.{◌≡◌, ◌≢◌, ℕ, zero, suc, ◌+◌, ◌-◌, ◌≤◌, ◌<◌, List, [], ◌∷◌, length, drop, refl, sym, ap, ◌∙◌, arith, Bool, true, false, length-drop, ne_eqb}
use Rattle.std.proofs.lemmas.Bool.{leb-true, le-leb, lt-leb}
use Rattle.xls_parts.specs.Walking.{SplitsFirst}
use Rattle.xls_parts.specs.PartRecords.{Placed, size_at, starts_whole, first_at, records_within, records_at, until_eof, outer_from, own_from}

-- a list that begins with something is longer than the rest
pub one_fewer : (before after : List Placed) (r : Placed) → before ≡ r ∷ after → length after < length before
one_fewer before after r e = rw e (omega arith)

-- ---- the records of some bytes

-- so many bytes are there as the first record takes
first_fits : (bytes : List ℕ) → starts_whole bytes ≡ true → 4 + size_at bytes ≤ length bytes
first_fits bytes e = leb-true (4 + size_at bytes) (length bytes) e

within_empty : (bytes : List ℕ) → length bytes ≤ 0 → starts_whole bytes ≡ false
within_empty bytes h = lt-leb (4 + size_at bytes) (length bytes) (omega (arith, h))

pub fewer : (bytes : List ℕ) → starts_whole bytes ≡ true → length (drop (4 + size_at bytes) bytes) + (4 + size_at bytes) ≡ length bytes
fewer bytes e = let h = first_fits bytes e in let d = length-drop (4 + size_at bytes) bytes in omega (arith, h, d)

pub within_none : (n offset : ℕ) (bytes : List ℕ) → starts_whole bytes ≡ false → records_within n offset bytes ≡ []
unfolding records_within
within_none zero offset bytes e = refl
within_none (suc n) offset bytes e = rw e refl

pub within_first : (n offset : ℕ) (bytes : List ℕ) → starts_whole bytes ≡ true
    → records_within (suc n) offset bytes ≡ first_at offset bytes ∷ records_within n (offset + (4 + size_at bytes)) (drop (4 + size_at bytes) bytes)
unfolding records_within
within_first n offset bytes e = rw e refl

few_more : (n offset : ℕ) (bytes : List ℕ) (b : Bool) → starts_whole bytes ≡ b
    → length (records_within n (offset + (4 + size_at bytes)) (drop (4 + size_at bytes) bytes)) ≤ n → length (records_within (suc n) offset bytes) ≤ suc n
few_more n offset bytes true e h = rw (within_first n offset bytes e) (omega (arith, h))
few_more n offset bytes false e h = rw (within_none (suc n) offset bytes e) (omega arith)

pub few_within : (n offset : ℕ) (bytes : List ℕ) → length (records_within n offset bytes) ≤ n
unfolding records_within
few_within zero offset bytes = omega arith
few_within (suc n) offset bytes = few_more n offset bytes (starts_whole bytes) refl (few_within n (offset + (4 + size_at bytes)) (drop (4 + size_at bytes) bytes))

enough_more : (n m offset : ℕ) (bytes : List ℕ) (b : Bool) → starts_whole bytes ≡ b
    → (starts_whole bytes ≡ true → records_within n (offset + (4 + size_at bytes)) (drop (4 + size_at bytes) bytes) ≡ records_within m (offset + (4 + size_at bytes)) (drop (4 + size_at bytes) bytes))
    → records_within (suc n) offset bytes ≡ records_within (suc m) offset bytes
enough_more n m offset bytes true e same =
    within_first n offset bytes e ∙ ap (λ (rs : List Placed). first_at offset bytes ∷ rs) (same e) ∙ sym (within_first m offset bytes e)
enough_more n m offset bytes false e same = within_none (suc n) offset bytes e ∙ sym (within_none (suc m) offset bytes e)

-- more room than bytes makes no difference
pub within_enough : (n m offset : ℕ) (bytes : List ℕ) → length bytes ≤ n → length bytes ≤ m → records_within n offset bytes ≡ records_within m offset bytes
within_enough zero m offset bytes h k = within_none zero offset bytes (within_empty bytes h) ∙ sym (within_none m offset bytes (within_empty bytes h))
within_enough (suc n) zero offset bytes h k = within_none (suc n) offset bytes (within_empty bytes k) ∙ sym (within_none zero offset bytes (within_empty bytes k))
within_enough (suc n) (suc m) offset bytes h k =
    enough_more n m offset bytes (starts_whole bytes) refl
    (λ e. within_enough n m (offset + (4 + size_at bytes)) (drop (4 + size_at bytes) bytes) (omega (arith, fewer bytes e, h)) (omega (arith, fewer bytes e, k)))

pub records_first : (offset : ℕ) (bytes : List ℕ) → starts_whole bytes ≡ true
    → records_at offset bytes ≡ first_at offset bytes ∷ records_at (offset + (4 + size_at bytes)) (drop (4 + size_at bytes) bytes)
records_first offset bytes e =
    within_enough (length bytes) (suc (length bytes)) offset bytes (omega arith) (omega arith)
    ∙ within_first (length bytes) offset bytes e
    ∙ ap (λ (rs : List Placed). first_at offset bytes ∷ rs)
    (within_enough (length bytes) (length (drop (4 + size_at bytes) bytes)) (offset + (4 + size_at bytes)) (drop (4 + size_at bytes) bytes) (omega (arith, fewer bytes e)) (omega arith))

pub records_lent : (offset : ℕ) (bytes : List ℕ) (typ : ℕ) (body rest : List ℕ) → SplitsFirst bytes typ body rest
    → records_at offset bytes ≡ record { offset = offset; typ = typ; body = body } ∷ records_at (offset + (4 + length body)) rest
records_lent offset bytes typ body rest s = rw (s.size_is, s.body_is, s.typ_is, s.rest_is) (records_first offset bytes s.whole)

pub records_none : (offset : ℕ) (bytes : List ℕ) → starts_whole bytes ≡ false → records_at offset bytes ≡ []
records_none offset bytes e = within_none (length bytes) offset bytes e

pub records_empty : (offset : ℕ) → records_at offset [] ≡ []
unfolding records_within
records_empty offset = refl

-- ---- up to an EOF

pub until_end : until_eof [] ≡ []
unfolding until_eof
until_end = refl

pub until_stop : (r : Placed) (rs : List Placed) → r.typ ≡ 0x000A → until_eof (r ∷ rs) ≡ []
unfolding until_eof
until_stop r rs e = rw e refl

pub until_more : (r : Placed) (rs : List Placed) → r.typ ≢ 0x000A → until_eof (r ∷ rs) ≡ r ∷ until_eof rs
unfolding until_eof
until_more r rs n = rw (ne_eqb r.typ 0x000A n) refl

-- ---- outside nested substreams

pub outer_end : (depth : ℕ) → outer_from depth [] ≡ []
unfolding outer_from
outer_end depth = refl

module _ (depth : ℕ) (r : Placed) (rs : List Placed) where
  pub outer_bof : r.typ ≡ 0x0809 → outer_from depth (r ∷ rs) ≡ outer_from (depth + 1) rs
  unfolding outer_from
  outer_bof e = rw e refl

  pub outer_eof : r.typ ≡ 0x000A → depth ≤ 1 → outer_from depth (r ∷ rs) ≡ []
  unfolding outer_from
  outer_eof e h = rw (e, le-leb depth 1 h) refl

  pub outer_eof_inside : r.typ ≡ 0x000A → 1 < depth → outer_from depth (r ∷ rs) ≡ outer_from (depth - 1) rs
  unfolding outer_from
  outer_eof_inside e h = rw (e, lt-leb depth 1 h) refl

  pub outer_kept : r.typ ≢ 0x0809 → r.typ ≢ 0x000A → depth ≤ 1 → outer_from depth (r ∷ rs) ≡ r ∷ outer_from depth rs
  unfolding outer_from
  outer_kept b e h = rw (ne_eqb r.typ 0x0809 b, ne_eqb r.typ 0x000A e, le-leb depth 1 h) refl

  pub outer_inside : r.typ ≢ 0x0809 → r.typ ≢ 0x000A → 1 < depth → outer_from depth (r ∷ rs) ≡ outer_from depth rs
  unfolding outer_from
  outer_inside b e h = rw (ne_eqb r.typ 0x0809 b, ne_eqb r.typ 0x000A e, lt-leb depth 1 h) refl

-- ---- outside custom views

pub own_end : (inside : Bool) → own_from inside [] ≡ []
unfolding own_from
own_end inside = refl

module _ (r : Placed) (rs : List Placed) where
  pub own_begin : (inside : Bool) → r.typ ≡ 0x01AA → own_from inside (r ∷ rs) ≡ own_from true rs
  unfolding own_from
  own_begin inside e = rw e refl

  pub own_leave : (inside : Bool) → r.typ ≡ 0x01AB → own_from inside (r ∷ rs) ≡ own_from false rs
  unfolding own_from
  own_leave inside e = rw e refl

  pub own_inside : (inside : Bool) → r.typ ≢ 0x01AA → r.typ ≢ 0x01AB → inside ≡ true → own_from inside (r ∷ rs) ≡ own_from inside rs
  unfolding own_from
  own_inside inside b e t = rw (t, ne_eqb r.typ 0x01AA b, ne_eqb r.typ 0x01AB e) refl

  pub own_kept : (inside : Bool) → r.typ ≢ 0x01AA → r.typ ≢ 0x01AB → inside ≡ false → own_from inside (r ∷ rs) ≡ r ∷ own_from inside rs
  unfolding own_from
  own_kept inside b e f = rw (f, ne_eqb r.typ 0x01AA b, ne_eqb r.typ 0x01AB e) refl
