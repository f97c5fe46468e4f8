-- The walk over the records of a stream.
use Rattle.std.proofs.Common.{◌≡◌, ◌≢◌, ◌≤◌, ◌<◌, ◌+◌, ◌-◌, inl, inr, ℕ, zero, suc, List, [], ◌∷◌, length, take, drop, min, sym, ◌∙◌, ap, refl, arith, length-drop}
use Rattle.std.specs.Prelude.{Bool, Option, Some, None, if◌then◌else◌, ◌==◌}
use Rattle.std.proofs.lemmas.Bool.{ne_eqb, lt-ltb, le-ltb, cases_lt}
use Rattle.std.proofs.lemmas.List.{take_min, drop-drop, nil_from_length, length-take-le}
use Rattle.xls_passwords.specs.Schemes.{u16_at}
use Rattle.xls_passwords.specs.Records.{records_within, records_from, size_of, typ_of, file_pass_in, is_biff8_after}
use Rattle.xls_passwords.specs.Records.{rest, record_at}
use Rattle.xls_stream.specs.declared.types.TheConstants as types
use Rattle.xls_passwords.specs.declared.records.FilePass.{FilePass}

-- ---- the numbers of a header

pub typ_of_take : (bytes : List ℕ) → typ_of (take 4 bytes) ≡ u16_at 0 bytes
typ_of_take [] = refl
typ_of_take (a ∷ []) = refl
typ_of_take (a ∷ b ∷ bytes) = refl

pub size_of_take : (bytes : List ℕ) → size_of (take 4 bytes) ≡ u16_at 2 bytes
size_of_take [] = refl
size_of_take (a ∷ []) = refl
size_of_take (a ∷ b ∷ []) = refl
size_of_take (a ∷ b ∷ c ∷ []) = refl
size_of_take (a ∷ b ∷ c ∷ d ∷ bytes) = refl

pub u16_at_drop : (n at : ℕ) (stream : List ℕ) → u16_at n (drop at stream) ≡ u16_at (at + n) stream
u16_at_drop n at stream = ap (λ bytes. u16_at 0 bytes) (drop-drop n at stream)

-- ---- one record

-- fewer than four bytes are none
pub records_within-short : (n offset : ℕ) (bytes : List ℕ) → length bytes < 4 → records_within n offset bytes ≡ rest bytes
unfolding records_within
records_within-short zero offset bytes lt = refl
records_within-short (suc n) offset bytes lt = rw (lt-ltb (length bytes) 4 lt) refl

-- four bytes or more begin with one
pub records_within-more : (n offset : ℕ) (bytes : List ℕ) → 4 ≤ length bytes → records_within (suc n) offset bytes
    ≡ record_at offset (take 4 bytes) (take (size_of (take 4 bytes)) (drop 4 bytes)) (records_within n (offset + 4 + size_of (take 4 bytes)) (drop (4 + size_of (take 4 bytes)) bytes))
unfolding records_within
records_within-more n offset bytes le = rw (le-ltb (length bytes) 4 le) refl

-- a bound on their number doesn't matter
pub same_within : (n m offset : ℕ) (bytes : List ℕ) → length bytes ≤ n → length bytes ≤ m → records_within n offset bytes ≡ records_within m offset bytes
same_within zero m offset bytes le lf =
    records_within-short zero offset bytes (omega arith) ∙ sym (records_within-short m offset bytes (omega arith))
same_within (suc n) zero offset bytes le lf =
    records_within-short (suc n) offset bytes (omega arith) ∙ sym (records_within-short zero offset bytes (omega arith))
same_within (suc n) (suc m) offset bytes le lf =
    elim (cases_lt (length bytes) 4) [
      | inl short ↦ records_within-short (suc n) offset bytes short ∙ sym (records_within-short (suc m) offset bytes short)
      | inr more ↦
          let size = size_of (take 4 bytes) in
          let after = drop (4 + size) bytes in
          let shorter : length after ≡ length bytes - (4 + size) = length-drop (4 + size) bytes in
          records_within-more n offset bytes more
          ∙ ap (record_at offset (take 4 bytes) (take size (drop 4 bytes)))
          (same_within n m (offset + 4 + size) after (omega (arith, shorter)) (omega (arith, shorter)))
          ∙ sym (records_within-more m offset bytes more)
    ]

-- ---- in a stream

-- what stands behind a record, which the stream may cut
others_from : (n at size end : ℕ) (stream : List ℕ) → end ≡ min (at + 4 + size) (length stream) → length stream ≤ n + at + 4
    → records_within n (at + 4 + size) (drop (4 + size) (drop at stream)) ≡ records_from end (drop end stream)
others_from n at size end stream e le =
    let after = drop (4 + size) (drop at stream) in
    let same : after ≡ drop (at + (4 + size)) stream = drop-drop (4 + size) at stream in
    let len : length after ≡ length stream - (at + (4 + size)) = ap length same ∙ length-drop (at + (4 + size)) stream in
    let end_len : length (drop end stream) ≡ length stream - end = length-drop end stream in
    elim (cases_lt (length stream) (at + 4 + size)) [
      | inl cut ↦
          let none : length after ≡ 0 = omega (arith, len) in
          let none_at_end : length (drop end stream) ≡ 0 = omega (arith, end_len, e) in
          records_within-short n (at + 4 + size) after (omega (arith, none))
          ∙ ap rest (nil_from_length after none ∙ sym (nil_from_length (drop end stream) none_at_end))
          ∙ sym (records_within-short (length (drop end stream)) end (drop end stream) (omega (arith, none_at_end)))
      | inr whole ↦
          let there : at + 4 + size ≡ end = omega (arith, e) in
          let bytes : after ≡ drop end stream = same ∙ ap (λ k. drop k stream) (omega (arith, there)) in
          ap (λ k. records_within n k after) there ∙ ap (records_within n end) bytes
          ∙ same_within n (length (drop end stream)) end (drop end stream) (omega (arith, end_len, e)) (omega arith)
    ]

-- the records from an offset on: one, and those behind it
pub records_from-step : (at size end : ℕ) (stream : List ℕ) → at + 4 ≤ length stream → size ≡ u16_at (at + 2) stream → end ≡ min (at + 4 + size) (length stream)
    → records_from at (drop at stream) ≡ record_at at (take 4 (drop at stream)) (take (end - (at + 4)) (drop (at + 4) stream)) (records_from end (drop end stream))
records_from-step at size end stream room e f =
    let bytes = drop at stream in
    let len : length bytes ≡ length stream - at = length-drop at stream in
    let n = length bytes - 1 in
    let size_is : size_of (take 4 bytes) ≡ size = size_of_take bytes ∙ u16_at_drop 2 at stream ∙ sym e in
    let start = drop (at + 4) stream in
    let start_len : length start ≡ length stream - (at + 4) = length-drop (at + 4) stream in
    let within : end - (at + 4) ≡ min size (length start) = omega (arith, f, start_len) in
    let body : take size (drop 4 bytes) ≡ take (end - (at + 4)) start =
    ap (take size) (drop-drop 4 at stream) ∙ sym (take_min size start) ∙ ap (λ k. take k start) (sym within) in
    same_within (length bytes) (suc n) at bytes (omega arith) (omega (arith, len))
    ∙ records_within-more n at bytes (omega (arith, len))
    ∙ ap (λ s. record_at at (take 4 bytes) (take s (drop 4 bytes)) (records_within n (at + 4 + s) (drop (4 + s) bytes))) size_is
    ∙ ap (λ b. record_at at (take 4 bytes) b (records_within n (at + 4 + size) (drop (4 + size) bytes))) body
    ∙ ap (record_at at (take 4 bytes) (take (end - (at + 4)) start)) (others_from n at size end stream f (omega (arith, len)))

-- fewer than four bytes from an offset on
pub records_from-end : (at : ℕ) (stream : List ℕ) → length stream < at + 4 → records_from at (drop at stream) ≡ rest (drop at stream)
records_from-end at stream lt =
    let len : length (drop at stream) ≡ length stream - at = length-drop at stream in
    records_within-short (length (drop at stream)) at (drop at stream) (omega (arith, len))

-- ---- the first FilePass

-- what a record of this type, whose body ends there, says of it
abbrev pub file_pass_at : Bool → ℕ → ℕ → ℕ → List ℕ → Option FilePass
file_pass_at is_biff8 typ at end stream =
    if typ == types.EOF then None
    else if typ == types.FILE_PASS then Some (record { offset = at; end = end; is_biff8 = is_biff8 })
    else file_pass_in (if typ == types.BOF then is_biff8_after is_biff8 (take (end - (at + 4)) (drop (at + 4) stream)) else is_biff8) (records_from end (drop end stream))

pub file_pass_in-step : (is_biff8 : Bool) (typ at size end : ℕ) (stream : List ℕ) → at + 4 ≤ length stream → typ ≡ u16_at at stream → size ≡ u16_at (at + 2) stream → end ≡ min (at + 4 + size) (length stream)
    → file_pass_in is_biff8 (records_from at (drop at stream)) ≡ file_pass_at is_biff8 typ at end stream
file_pass_in-step is_biff8 typ at size end stream room t e f =
    let body = take (end - (at + 4)) (drop (at + 4) stream) in
    let others = records_from end (drop end stream) in
    let typ_is : typ_of (take 4 (drop at stream)) ≡ typ = typ_of_take (drop at stream) ∙ sym t in
    let start_len : length (drop (at + 4) stream) ≡ length stream - (at + 4) = length-drop (at + 4) stream in
    let len : length body ≡ end - (at + 4) = length-take-le (end - (at + 4)) (drop (at + 4) stream) (omega (arith, start_len, f)) in
    ap (file_pass_in is_biff8) (records_from-step at size end stream room e f)
    ∙ ap (λ n. if n == types.EOF then None
    else if n == types.FILE_PASS then Some (record { offset = at; end = at + 4 + length body; is_biff8 = is_biff8 })
    else file_pass_in (if n == types.BOF then is_biff8_after is_biff8 body else is_biff8) others) typ_is
    ∙ ap (λ n. if typ == types.EOF then None
    else if typ == types.FILE_PASS then Some (record { offset = at; end = n; is_biff8 = is_biff8 })
    else file_pass_in (if typ == types.BOF then is_biff8_after is_biff8 body else is_biff8) others) (omega (arith, len, f))

-- other types than EOF, FilePass and BOF
pub file_pass_at-other : (is_biff8 : Bool) (typ at end : ℕ) (stream : List ℕ) → typ ≢ 10 → typ ≢ 47 → typ ≢ 2057
    → file_pass_at is_biff8 typ at end stream ≡ file_pass_in is_biff8 (records_from end (drop end stream))
file_pass_at-other is_biff8 typ at end stream a b c = rw (ne_eqb typ 10 a, ne_eqb typ 47 b, ne_eqb typ 2057 c) refl
