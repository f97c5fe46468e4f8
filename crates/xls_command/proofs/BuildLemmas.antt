-- The stream as code builds it: the front, row after row, and the end.
use Rattle.std.proofs.Common.{◌≡◌, ℕ, zero, suc, ◌+◌, ◌/◌, ◌%◌, ◌<◌, List, [], ◌∷◌, ◌++◌, refl, ap, ◌∙◌, add-one, arith}
use Rattle.std.specs.Prelude.{codes}
use Rattle.std.specs.Str.{chars}
use Rattle.std.specs.Int.{w16, w32, to_le_bytes}
use Rattle.std.specs.List.{flat_map, range_with_len}
use Rattle.std.proofs.lemmas.List.{append-nil}
use Rattle.xls_bytes.specs.Numbers.{le16}
use Rattle.xls_stream.specs.Stream.{record_bytes}
use Rattle.xls_stream.specs.declared.types.TheConstants as types
use Rattle.xls_command.specs.Sample.{le32, part_body, sample_globals, sample_row, sample_rows, sample_stream}

-- the last number after the others
range_more : (a n : ℕ) → range_with_len a (suc n) ≡ range_with_len a n ++ (a + n) ∷ []
range_more a zero = ap (λ (k : ℕ). k ∷ []) (zero_after a)
  where
    zero_after : (a : ℕ) → a ≡ a + 0
    zero_after a = omega arith
range_more a (suc n) =
    ap (λ (ks : List ℕ). a ∷ ks) (range_more (a + 1) n)
    ∙ ap (λ (k : ℕ). a ∷ (range_with_len (a + 1) n ++ k ∷ [])) (next a n)
  where
    next : (a n : ℕ) → a + 1 + n ≡ a + suc n
    next a n = omega arith

-- the rows of the numbers before and the row of the last one
rows_append : (is : List ℕ) (i : ℕ) → flat_map sample_row (is ++ i ∷ []) ≡ flat_map sample_row is ++ sample_row i
rows_append [] i = append-nil (sample_row i)
rows_append (j ∷ is) i = ap (λ (x : List ℕ). sample_row j ++ x) (rows_append is i)

-- one row more
pub rows_more : (n : ℕ) → sample_rows (n + 1) ≡ sample_rows n ++ sample_row n
rows_more n =
    ap (λ (k : ℕ). sample_rows k) (add-one n) ∙ ap (flat_map sample_row) (range_more 0 n)
    ∙ rows_append (range_with_len 0 n) (0 + n) ∙ ap (λ (k : ℕ). sample_rows n ++ sample_row k) (zero_prefix n)
  where
    zero_prefix : (n : ℕ) → 0 + n ≡ n
    zero_prefix n = omega arith

-- before the rows
abbrev pub sample_prefix : List ℕ
sample_prefix = sample_globals ++ record_bytes types.BOF part_body

-- the front, the rows and an EOF record
pub stream_parts : (n : ℕ) → sample_stream n ≡ sample_prefix ++ (sample_rows n ++ record_bytes types.EOF [])
unfolding sample_stream
stream_parts n = refl

-- numbers as std writes them
pub le16-to_le_bytes : (n : ℕ) → n < 65536 → to_le_bytes w16 n ≡ le16 n
le16-to_le_bytes n h =
    let high : n / 256 % 256 ≡ n / 256 = omega arith in
    ap (λ (b : ℕ). n % 256 ∷ b ∷ []) high

-- likewise of 32 bits
pub le32-to_le_bytes : (n : ℕ) → n < 4294967296 → to_le_bytes w32 n ≡ le32 n
le32-to_le_bytes n h =
    let high : n / 16777216 % 256 ≡ n / 16777216 = omega arith in
    ap (λ (b : ℕ). n % 256 ∷ n / 256 % 256 ∷ n / 65536 % 256 ∷ b ∷ []) high

-- the name of the sheet, as text in UTF-8
pub name_chars : chars (codes "G") ≡ codes "G"
unfolding chars
name_chars = refl
