-- The laws: a walk over records that are written gives them again, and plain records are written as the plain
-- stream.
use Rattle.std.proofs.Common.{◌≡◌, ◌≤◌, ◌<◌, ◌+◌, ◌-◌, ◌++◌, ◌∷◌, [], ◌⊎◌, inl, inr, ℕ, zero, suc, List, length, take, drop, replicate, subst, sym, ◌∙◌, ap, refl, arith, append_assoc, append-nil, length-append, length-drop}
use Rattle.std.specs.Prelude.{if◌then◌else◌, ◌==◌}
use Rattle.std.specs.Int.Bits.{xor_assoc, xor_self, xor_zero_r}
use Rattle.std.proofs.Math.Seq.{take-add}
use Rattle.std.proofs.lemmas.Bool.{cases_lt, cases_Bool, cond-true, cond-false}
use Rattle.std.proofs.lemmas.List.{take-append-drop, length-take-le, take_at, drop_at, take_all, drop-drop, nil_from_length, length-replicate}
use Rattle.std.specs.Prelude.{bit_xor}
use Rattle.xls_stream.specs.declared.types.TheConstants as types
use Rattle.xls_passwords.specs.Keys.{along, xored, key_byte}
use Rattle.xls_passwords.specs.Records.{Records, rest, record_at, typ_of, size_of, records_within, records_of}
use Rattle.xls_passwords.specs.Plain.{plain_body, plain_byte, kept_len, decrypted, plain_in}
use Rattle.xls_passwords.specs.Laws.{written, Outline, outlines, with_none, XorsBack, RecordsAreAll, KeepsLength, KeepsRecords}
use Rattle.xls_passwords.specs.declared.passwords.Key.{Key}
use Rattle.xls_passwords.proofs.RecordLemmas.{records_within-short, records_within-more}

-- ---- xor

pub xors_back : XorsBack
xors_back keys p [] = refl
xors_back keys p (b ∷ bytes) =
    let k = key_byte keys p in
    let back : bit_xor (bit_xor b k) k ≡ b = xor_assoc b k k ∙ ap (bit_xor b) (xor_self k) ∙ xor_zero_r b in
    ap (λ x. x ∷ along (xored keys) (p + 1) (along (xored keys) (p + 1) bytes)) back ∙ ap (λ bs. b ∷ bs) (xors_back keys (p + 1) bytes)

-- ---- records that a walk gives

-- the body is whole, or the stream ends in it
abbrev pub IsFilled : List ℕ → List ℕ → Records → Type 0
IsFilled head body others = (length body ≡ size_of head) ⊎ ((length body < size_of head) × (others ≡ rest []))

abbrev pub IsWalk : ℕ → Records → Type 0
IsWalk p (rest bytes) = length bytes < 4
IsWalk p (record_at offset head body others) =
    (offset ≡ p) × (length head ≡ 4) × IsFilled head body others × IsWalk (p + 4 + size_of head) others

pub is_walk : (n p : ℕ) (bytes : List ℕ) → length bytes ≤ n → IsWalk p (records_within n p bytes)
is_walk zero p bytes le = subst (IsWalk p) (sym (records_within-short zero p bytes (omega arith))) (let lt : length bytes < 4 = omega arith in lt)
is_walk (suc n) p bytes le =
    elim (cases_lt (length bytes) 4) [
      | inl short ↦ subst (IsWalk p) (sym (records_within-short (suc n) p bytes short)) short
      | inr room ↦
          let head = take 4 bytes in
          let size = size_of head in
          let body = take size (drop 4 bytes) in
          let behind = drop (4 + size) bytes in
          let others = records_within n (p + 4 + size) behind in
          let head_len : length head ≡ 4 = length-take-le 4 bytes room in
          let len : length (drop 4 bytes) ≡ length bytes - 4 = length-drop 4 bytes in
          let behind_len : length behind ≡ length bytes - (4 + size) = length-drop (4 + size) bytes in
          let filled : IsFilled head body others =
          elim (cases_lt (length (drop 4 bytes)) size) [
            | inl cut ↦
                let none : length behind ≡ 0 = omega (arith, behind_len, len) in
                let all : body ≡ drop 4 bytes = take_all size (drop 4 bytes) (omega (arith, cut)) in
                inr (
                  omega (arith, ap length all),
                  records_within-short n (p + 4 + size) behind (omega (arith, none)) ∙ ap rest (nil_from_length behind none),
                )
            | inr whole ↦ inl (length-take-le size (drop 4 bytes) whole)
          ] in
          subst (IsWalk p) (sym (records_within-more n p bytes room))
          (refl, head_len, filled, is_walk n (p + 4 + size) behind (omega (arith, behind_len)))
    ]

-- such records are read again where they are written
pub walks_again : (n p : ℕ) (r : Records) → IsWalk p r → length (written r) ≤ n → records_within n p (written r) ≡ r
walks_again n p (rest bytes) h le = records_within-short n p bytes h
walks_again zero p (record_at offset head body others) h le =
    absurd (omega (arith, h.1, le, length-append (head ++ body) (written others), length-append head body))
walks_again (suc n) p (record_at offset head body others) h le =
    let after = written others in
    let bytes = head ++ body ++ after in
    let size = size_of head in
    let joined : bytes ≡ head ++ (body ++ after) = append_assoc head body after in
    let len : length bytes ≡ 4 + length body + length after =
    length-append (head ++ body) after ∙ ap (λ k. k + length after) (length-append head body ∙ ap (λ k. k + length body) h.1) in
    let front : take 4 bytes ≡ head = ap (take 4) joined ∙ take_at head (body ++ after) 4 h.1 in
    let back : drop 4 bytes ≡ body ++ after = ap (drop 4) joined ∙ drop_at head (body ++ after) 4 h.1 in
    let split : drop (4 + size) bytes ≡ drop size (body ++ after) = sym (drop-drop size 4 bytes) ∙ ap (drop size) back in
    let step : records_within (suc n) p bytes ≡ record_at p head (take size (body ++ after)) (records_within n (p + 4 + size) (drop size (body ++ after))) =
    records_within-more n p bytes (omega (arith, len))
    ∙ ap (λ f. record_at p f (take (size_of f) (drop 4 bytes)) (records_within n (p + 4 + size_of f) (drop (4 + size_of f) bytes))) front
    ∙ ap (λ bs. record_at p head (take size bs) (records_within n (p + 4 + size) (drop (4 + size) bytes))) back
    ∙ ap (λ bs. record_at p head (take size (body ++ after)) (records_within n (p + 4 + size) bs)) split in
    let here : record_at p head body others ≡ record_at offset head body others = ap (λ o. record_at o head body others) (sym h.0) in
    elim h.2 [
      | inl whole ↦
          step ∙ ap (λ bs. record_at p head bs (records_within n (p + 4 + size) (drop size (body ++ after)))) (take_at body after size whole)
          ∙ ap (λ bs. record_at p head body (records_within n (p + 4 + size) bs)) (drop_at body after size whole)
          ∙ ap (record_at p head body) (walks_again n (p + 4 + size) others h.3 (omega (arith, len)))
          ∙ here
      | inr cut ↦
          let none : after ≡ [] = ap written cut.1 in
          let alone : body ++ after ≡ body = ap (λ bs. body ++ bs) none ∙ append-nil body in
          let nothing : length (drop size body) ≡ 0 = length-drop size body ∙ omega (arith, cut.0) in
          step ∙ ap (λ bs. record_at p head (take size bs) (records_within n (p + 4 + size) (drop size bs))) alone
          ∙ ap (λ bs. record_at p head bs (records_within n (p + 4 + size) (drop size body))) (take_all size body (omega (arith, cut.0)))
          ∙ ap (record_at p head body) (records_within-short n (p + 4 + size) (drop size body) (omega (arith, nothing)) ∙ ap rest (nil_from_length (drop size body) nothing) ∙ sym cut.1)
          ∙ here
    ]

-- with no room for a record all bytes are left
zero_records : (p : ℕ) (bytes : List ℕ) → written (records_within 0 p bytes) ≡ bytes
unfolding records_within
zero_records p bytes = refl

-- and they are the bytes
pub written_within : (n p : ℕ) (bytes : List ℕ) → written (records_within n p bytes) ≡ bytes
written_within zero p bytes = zero_records p bytes
written_within (suc n) p bytes =
    elim (cases_lt (length bytes) 4) [
      | inl short ↦ ap written (records_within-short (suc n) p bytes short)
      | inr room ↦
          let size = size_of (take 4 bytes) in
          ap written (records_within-more n p bytes room)
          ∙ ap (λ bs. take 4 bytes ++ take size (drop 4 bytes) ++ bs) (written_within n (p + 4 + size) (drop (4 + size) bytes))
          ∙ ap (λ bs. bs ++ drop (4 + size) bytes) (sym (take-add 4 size bytes))
          ∙ take-append-drop (4 + size) bytes
    ]

pub records_are_all : RecordsAreAll
records_are_all stream = written_within (length stream) 0 stream

-- ---- plain records

length-along : (change : ℕ → ℕ → ℕ) (p : ℕ) (bytes : List ℕ) → length (along change p bytes) ≡ length bytes
length-along change p [] = refl
length-along change p (b ∷ bytes) = ap suc (length-along change (p + 1) bytes)

length-plain_body : (key : Key) (p typ size : ℕ) (body : List ℕ) → length (plain_body key p typ size body) ≡ length body
length-plain_body key p typ size body =
    let kept = kept_len typ size in
    length-append (take kept body) (along (plain_byte key size) (p + kept) (drop kept body))
    ∙ ap (λ n. length (take kept body) + n) (length-along (plain_byte key size) (p + kept) (drop kept body))
    ∙ sym (length-append (take kept body) (drop kept body)) ∙ ap length (take-append-drop kept body)

abbrev decrypted_records : Key → Records → Records
decrypted_records key (rest bytes) = rest bytes
decrypted_records key (record_at offset head body others) =
    record_at offset head (plain_body key (offset + 4) (typ_of head) (size_of head) body) (decrypted_records key others)

abbrev plain_records : Key → Records → Records
plain_records key (rest bytes) = rest bytes
plain_records key (record_at offset head body others) =
    if typ_of head == types.FILE_PASS then record_at offset (0 ∷ 0 ∷ drop 2 head) (replicate (length body) 0) (decrypted_records key others)
    else record_at offset head body (plain_records key others)

written_decrypted : (key : Key) (r : Records) → written (decrypted_records key r) ≡ decrypted key r
written_decrypted key (rest bytes) = refl
written_decrypted key (record_at offset head body others) =
    ap (λ bs. head ++ plain_body key (offset + 4) (typ_of head) (size_of head) body ++ bs) (written_decrypted key others)

written_plain : (key : Key) (r : Records) → written (plain_records key r) ≡ plain_in key r
written_plain key (rest bytes) = refl
written_plain key (record_at offset head body others) =
    let is = typ_of head == types.FILE_PASS in
    let cleared = record_at offset (0 ∷ 0 ∷ drop 2 head) (replicate (length body) 0) (decrypted_records key others) in
    let kept = record_at offset head body (plain_records key others) in
    elim (cases_Bool is) [
      | inl here ↦
          ap written (cond-true is cleared kept here)
          ∙ ap (λ bs. 0 ∷ 0 ∷ drop 2 head ++ replicate (length body) 0 ++ bs) (written_decrypted key others)
          ∙ sym (cond-true is _ _ here)
      | inr other ↦
          ap written (cond-false is cleared kept other)
          ∙ ap (λ bs. head ++ body ++ bs) (written_plain key others)
          ∙ sym (cond-false is _ _ other)
    ]

filled_alike : (head front body now : List ℕ) (others after : Records) → size_of front ≡ size_of head → length now ≡ length body → (others ≡ rest [] → after ≡ rest []) → IsFilled head body others → IsFilled front now after
filled_alike head front body now others after e len same (inl whole) = inl (len ∙ whole ∙ sym e)
filled_alike head front body now others after e len same (inr cut) = inr (omega (arith, len, e, cut.0), same cut.1)

decrypted_is_walk : (key : Key) (p : ℕ) (r : Records) → IsWalk p r → IsWalk p (decrypted_records key r)
decrypted_is_walk key p (rest bytes) h = h
decrypted_is_walk key p (record_at offset head body others) h = (
  h.0,
  h.1,
  filled_alike head head body (plain_body key (offset + 4) (typ_of head) (size_of head) body) others (decrypted_records key others) refl
      (length-plain_body key (offset + 4) (typ_of head) (size_of head) body) (λ e. ap (decrypted_records key) e) h.2,
  decrypted_is_walk key (p + 4 + size_of head) others h.3,
)

-- the type doesn't bear on the size
cleared_size : (head : List ℕ) → length head ≡ 4 → size_of (0 ∷ 0 ∷ drop 2 head) ≡ size_of head
cleared_size [] e = absurd (omega (arith, e))
cleared_size (a ∷ []) e = absurd (omega (arith, e))
cleared_size (a ∷ b ∷ head) e = refl

cleared_len : (head : List ℕ) → length head ≡ 4 → length (0 ∷ 0 ∷ drop 2 head) ≡ 4
cleared_len [] e = absurd (omega (arith, e))
cleared_len (a ∷ []) e = absurd (omega (arith, e))
cleared_len (a ∷ b ∷ head) e = e

plain_is_walk : (key : Key) (p : ℕ) (r : Records) → IsWalk p r → IsWalk p (plain_records key r)
plain_is_walk key p (rest bytes) h = h
plain_is_walk key p (record_at offset head body others) h =
    let is = typ_of head == types.FILE_PASS in
    let front : List ℕ = 0 ∷ 0 ∷ drop 2 head in
    let zeros : List ℕ = replicate (length body) 0 in
    let cleared = record_at offset front zeros (decrypted_records key others) in
    let kept = record_at offset head body (plain_records key others) in
    let size : size_of front ≡ size_of head = cleared_size head h.1 in
    elim (cases_Bool is) [
      | inl here ↦ subst (IsWalk p) (sym (cond-true is cleared kept here)) (
        h.0,
        cleared_len head h.1,
        filled_alike head front body zeros others (decrypted_records key others) size (length-replicate (length body) 0) (λ e. ap (decrypted_records key) e) h.2,
        subst (λ n. IsWalk (p + 4 + n) (decrypted_records key others)) (sym size) (decrypted_is_walk key (p + 4 + size_of head) others h.3),
      )
      | inr other ↦ subst (IsWalk p) (sym (cond-false is cleared kept other)) (
        h.0,
        h.1,
        filled_alike head head body body others (plain_records key others) refl refl (λ e. ap (plain_records key) e) h.2,
        plain_is_walk key (p + 4 + size_of head) others h.3,
      )
    ]

-- ---- what a walk sees of them

abbrev outline_of : ℕ → List ℕ → List ℕ → Outline
outline_of offset head body = record { offset = offset; typ = typ_of head; size = size_of head; len = length body }

outlines_decrypted : (key : Key) (r : Records) → outlines (decrypted_records key r) ≡ outlines r
outlines_decrypted key (rest bytes) = refl
outlines_decrypted key (record_at offset head body others) =
    ap (λ n. record { offset = offset; typ = typ_of head; size = size_of head; len = n } ∷ outlines (decrypted_records key others))
    (length-plain_body key (offset + 4) (typ_of head) (size_of head) body)
    ∙ ap (λ os. outline_of offset head body ∷ os) (outlines_decrypted key others)

outlines_plain : (key : Key) (p : ℕ) (r : Records) → IsWalk p r → outlines (plain_records key r) ≡ with_none (outlines r)
outlines_plain key p (rest bytes) h = refl
outlines_plain key p (record_at offset head body others) h =
    let is = typ_of head == types.FILE_PASS in
    let front : List ℕ = 0 ∷ 0 ∷ drop 2 head in
    let zeros : List ℕ = replicate (length body) 0 in
    let cleared = record_at offset front zeros (decrypted_records key others) in
    let kept = record_at offset head body (plain_records key others) in
    let before = outline_of offset head body in
    let none = record before { typ = 0 } in
    let size : size_of front ≡ size_of head = cleared_size head h.1 in
    elim (cases_Bool is) [
      | inl here ↦
          ap outlines (cond-true is cleared kept here)
          ∙ ap (λ n. record { offset = offset; typ = 0; size = n; len = length zeros } ∷ outlines (decrypted_records key others)) size
          ∙ ap (λ n. record { offset = offset; typ = 0; size = size_of head; len = n } ∷ outlines (decrypted_records key others)) (length-replicate (length body) 0)
          ∙ ap (λ os. none ∷ os) (outlines_decrypted key others)
          ∙ sym (cond-true is (none ∷ outlines others) (before ∷ with_none (outlines others)) here)
      | inr other ↦
          ap outlines (cond-false is cleared kept other)
          ∙ ap (λ os. before ∷ os) (outlines_plain key (p + 4 + size_of head) others h.3)
          ∙ sym (cond-false is (none ∷ outlines others) (before ∷ with_none (outlines others)) other)
    ]

length_decrypted : (key : Key) (r : Records) → length (decrypted key r) ≡ length (written r)
length_decrypted key (rest bytes) = refl
length_decrypted key (record_at offset head body others) =
    let now = plain_body key (offset + 4) (typ_of head) (size_of head) body in
    omega (arith, length-append (head ++ now) (decrypted key others), length-append head now, length-append (head ++ body) (written others), length-append head body, length-plain_body key (offset + 4) (typ_of head) (size_of head) body, length_decrypted key others)

length_plain : (key : Key) (p : ℕ) (r : Records) → IsWalk p r → length (plain_in key r) ≡ length (written r)
length_plain key p (rest bytes) h = refl
length_plain key p (record_at offset head body others) h =
    let is = typ_of head == types.FILE_PASS in
    let front : List ℕ = 0 ∷ 0 ∷ drop 2 head in
    let zeros : List ℕ = replicate (length body) 0 in
    let joined = length-append (head ++ body) (written others) in
    elim (cases_Bool is) [
      | inl here ↦
          ap length (cond-true is (front ++ zeros ++ decrypted key others) (head ++ body ++ plain_in key others) here)
          ∙ omega (arith, length-append (front ++ zeros) (decrypted key others), length-append front zeros, length-replicate {A = ℕ} (length body) 0, cleared_len head h.1, joined, length-append head body, h.1, length_decrypted key others)
      | inr other ↦
          ap length (cond-false is (front ++ zeros ++ decrypted key others) (head ++ body ++ plain_in key others) other)
          ∙ omega (arith, length-append (head ++ body) (plain_in key others), length-append head body, joined, length_plain key (p + 4 + size_of head) others h.3)
    ]

pub keeps_length : KeepsLength
keeps_length key stream =
    length_plain key 0 (records_of stream) (is_walk (length stream) 0 stream (omega arith)) ∙ ap length (records_are_all stream)

pub keeps_records : KeepsRecords
keeps_records key stream =
    let r = records_of stream in
    let walk = is_walk (length stream) 0 stream (omega arith) in
    let now = plain_records key r in
    ap (λ bs. outlines (records_of bs)) (sym (written_plain key r))
    ∙ ap outlines (walks_again (length (written now)) 0 now (plain_is_walk key 0 r walk) (omega arith))
    ∙ outlines_plain key 0 r walk
