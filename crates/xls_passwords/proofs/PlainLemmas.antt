-- Records and their plain ones, one step on.
use Rattle.std.proofs.Common.{◌≡◌, ◌≢◌, ◌≤◌, ◌<◌, ◌+◌, ◌-◌, ◌++◌, ◌∷◌, [], inl, inr, ℕ, zero, suc, List, length, subst, replicate, take, drop, min, set, sym, ◌∙◌, ap, refl, arith, length-drop, append_assoc}
use Rattle.std.specs.Prelude.{Bool, Some, None, if◌then◌else◌, ◌==◌}
use Rattle.std.proofs.Math.Seq.{take-add}
use Rattle.std.proofs.lemmas.Bool.{cases_lt, cases_eq, eq-eqb, ne_eqb, cond-true, cond-false}
use Rattle.std.proofs.lemmas.List.{take-append-drop, length-take-le, take_at, drop_at, take-take, drop-take}
use Rattle.std.proofs.lemmas.Slice.{take-put_mid, drop-put_mid}
use borrow.Rule.Slice.PartMut.{put_mid}
use Rattle.xls_passwords.specs.Schemes.{u16_at}
use Rattle.xls_stream.specs.declared.types.TheConstants as types
use Rattle.xls_passwords.specs.Records.{records_from, typ_of, size_of, file_pass_in, is_biff8_after}
use Rattle.xls_passwords.specs.Plain.{plain_body, decrypted, plain_in, plain}
use Rattle.xls_passwords.specs.declared.records.FilePass.{FilePass}
use Rattle.xls_passwords.specs.declared.passwords.Key.{Key}
use Rattle.xls_passwords.proofs.RecordLemmas.{typ_of_take, size_of_take, u16_at_drop, records_from-step, records_from-end, file_pass_at, file_pass_in-step}

-- what stands before a record, its four bytes, and its body as far as the stream goes
pub take_record : (at end : ℕ) (stream : List ℕ) → at + 4 ≤ end → take at stream ++ take 4 (drop at stream) ++ take (end - (at + 4)) (drop (at + 4) stream) ≡ take end stream
take_record at end stream le =
    ap (λ front. front ++ take (end - (at + 4)) (drop (at + 4) stream)) (sym (take-add at 4 stream))
    ∙ sym (take-add (at + 4) (end - (at + 4)) stream)
    ∙ ap (λ n. take n stream) (omega arith)

-- the record at an offset, decrypted, and those behind it
pub decrypted-step : (key : Key) (typ at size end : ℕ) (stream : List ℕ) → at + 4 ≤ length stream → typ ≡ u16_at at stream → size ≡ u16_at (at + 2) stream → end ≡ min (at + 4 + size) (length stream)
    → decrypted key (records_from at (drop at stream))
    ≡ take 4 (drop at stream) ++ plain_body key (at + 4) typ size (take (end - (at + 4)) (drop (at + 4) stream)) ++ decrypted key (records_from end (drop end stream))
decrypted-step key typ at size end stream room t e f =
    let body = take (end - (at + 4)) (drop (at + 4) stream) in
    let others = decrypted key (records_from end (drop end stream)) in
    let typ_is : typ_of (take 4 (drop at stream)) ≡ typ = typ_of_take (drop at stream) ∙ sym t in
    let size_is : size_of (take 4 (drop at stream)) ≡ size = size_of_take (drop at stream) ∙ u16_at_drop 2 at stream ∙ sym e in
    ap (decrypted key) (records_from-step at size end stream room e f)
    ∙ ap (λ n. take 4 (drop at stream) ++ plain_body key (at + 4) n (size_of (take 4 (drop at stream))) body ++ others) typ_is
    ∙ ap (λ n. take 4 (drop at stream) ++ plain_body key (at + 4) typ n body ++ others) size_is

-- a stream whose record at an offset is decrypted in place
pub decrypted-place : (key : Key) (typ at size end : ℕ) (stream plain : List ℕ) → at + 4 ≤ length stream → typ ≡ u16_at at stream → size ≡ u16_at (at + 2) stream → end ≡ min (at + 4 + size) (length stream)
    → plain ≡ plain_body key (at + 4) typ size (take (end - (at + 4)) (drop (at + 4) stream)) → length plain ≡ end - (at + 4)
    → take end (put_mid (at + 4) (end - (at + 4)) stream plain) ++ decrypted key (records_from end (drop end (put_mid (at + 4) (end - (at + 4)) stream plain)))
    ≡ take at stream ++ decrypted key (records_from at (drop at stream))
decrypted-place key typ at size end stream plain room t e f h len =
    let k = end - (at + 4) in
    let others = decrypted key (records_from end (drop end stream)) in
    let body = plain_body key (at + 4) typ size (take k (drop (at + 4) stream)) in
    let front : take end (put_mid (at + 4) k stream plain) ≡ take (at + 4) stream ++ plain =
    take-put_mid (at + 4) k stream plain end (omega arith) room in
    let behind : drop end (put_mid (at + 4) k stream plain) ≡ drop end stream =
    drop-put_mid (at + 4) k stream plain end (omega arith) room len in
    ap (λ bs. take end (put_mid (at + 4) k stream plain) ++ decrypted key (records_from end bs)) behind
    ∙ ap (λ bs. bs ++ others) (front ∙ ap (λ bs. take (at + 4) stream ++ bs) h ∙ ap (λ bs. bs ++ body) (take-add at 4 stream))
    ∙ ap (λ bs. bs ++ others) (append_assoc (take at stream) (take 4 (drop at stream)) body)
    ∙ append_assoc (take at stream) (take 4 (drop at stream) ++ body) others
    ∙ ap (λ bs. take at stream ++ bs) (sym (decrypted-step key typ at size end stream room t e f))

-- where no record is left
pub decrypted-end : (key : Key) (at : ℕ) (stream : List ℕ) → length stream < at + 4 → take at stream ++ decrypted key (records_from at (drop at stream)) ≡ stream
decrypted-end key at stream lt =
    ap (λ r. take at stream ++ decrypted key r) (records_from-end at stream lt) ∙ take-append-drop at stream

-- ---- the FilePass

-- the record at an offset before the FilePass, or the FilePass itself, and those behind it
pub plain_in-step : (key : Key) (typ at size end : ℕ) (stream : List ℕ) → at + 4 ≤ length stream → typ ≡ u16_at at stream → size ≡ u16_at (at + 2) stream → end ≡ min (at + 4 + size) (length stream)
    → plain_in key (records_from at (drop at stream))
    ≡ (if typ == types.FILE_PASS then 0 ∷ 0 ∷ drop 2 (take 4 (drop at stream)) ++ replicate (end - (at + 4)) 0 ++ decrypted key (records_from end (drop end stream))
    else take 4 (drop at stream) ++ take (end - (at + 4)) (drop (at + 4) stream) ++ plain_in key (records_from end (drop end stream)))
plain_in-step key typ at size end stream room t e f =
    let head = take 4 (drop at stream) in
    let body = take (end - (at + 4)) (drop (at + 4) stream) in
    let others = records_from end (drop end stream) in
    let typ_is : typ_of head ≡ typ = typ_of_take (drop at stream) ∙ sym t in
    let start_len : length (drop (at + 4) stream) ≡ length stream - (at + 4) = length-drop (at + 4) stream in
    let len : length body ≡ end - (at + 4) = length-take-le (end - (at + 4)) (drop (at + 4) stream) (omega (arith, start_len, f)) in
    ap (plain_in key) (records_from-step at size end stream room e f)
    ∙ ap (λ n. if n == types.FILE_PASS then 0 ∷ 0 ∷ drop 2 head ++ replicate (length body) 0 ++ decrypted key others else head ++ body ++ plain_in key others) typ_is
    ∙ ap (λ n. if typ == types.FILE_PASS then 0 ∷ 0 ∷ drop 2 head ++ replicate n 0 ++ decrypted key others else head ++ body ++ plain_in key others) len

-- what stands from a FilePass on in the plain stream
abbrev pub plain_from : Key → FilePass → List ℕ → List ℕ
plain_from key f stream =
    0 ∷ 0 ∷ drop 2 (take 4 (drop f.offset stream)) ++ replicate (f.end - (f.offset + 4)) 0 ++ decrypted key (records_from f.end (drop f.end stream))

-- the FilePass lies in the stream, and the plain stream is the same up to it
pub record Found (key : Key) (at : ℕ) (stream : List ℕ) (f : FilePass) : Type 0 where
  pub room : f.offset + 4 ≤ f.end
  pub fits : f.end ≤ length stream
  pub same : take at stream ++ plain_in key (records_from at (drop at stream)) ≡ take f.offset stream ++ plain_from key f stream

found_here : (key : Key) (is_biff8 : Bool) (at size end : ℕ) (stream : List ℕ) (f : FilePass) → at + 4 ≤ length stream → 47 ≡ u16_at at stream → size ≡ u16_at (at + 2) stream → end ≡ min (at + 4 + size) (length stream)
    → f ≡ record { offset = at; end = end; is_biff8 = is_biff8 } → Found key at stream f
found_here key is_biff8 at size end stream f room t e g h =
    let there : Found key at stream (record { offset = at; end = end; is_biff8 = is_biff8 }) = record {
      room = omega (arith, g);
      fits = omega (arith, g);
      same = ap (λ bs. take at stream ++ bs) (plain_in-step key 47 at size end stream room t e g);
    } in
    subst (Found key at stream) (sym h) there

-- from one record on
found_later : (key : Key) (typ at size end : ℕ) (stream : List ℕ) (f : FilePass) → at + 4 ≤ length stream → typ ≡ u16_at at stream → size ≡ u16_at (at + 2) stream → end ≡ min (at + 4 + size) (length stream)
    → typ ≢ 47 → Found key end stream f → Found key at stream f
found_later key typ at size end stream f room t e g ne later =
    let head = take 4 (drop at stream) in
    let body = take (end - (at + 4)) (drop (at + 4) stream) in
    let others = plain_in key (records_from end (drop end stream)) in
    let step : plain_in key (records_from at (drop at stream)) ≡ head ++ body ++ others =
    plain_in-step key typ at size end stream room t e g ∙ cond-false (typ == 47) _ _ (ne_eqb typ 47 ne) in record {
      room = later.room;
      fits = later.fits;
      same = ap (λ bs. take at stream ++ bs) step ∙ sym (append_assoc (take at stream) (head ++ body) others)
          ∙ ap (λ bs. bs ++ others) (sym (append_assoc (take at stream) head body) ∙ take_record at end stream (omega (arith, g)))
          ∙ later.same;
    }

pub found : (n : ℕ) (key : Key) (is_biff8 : Bool) (at : ℕ) (stream : List ℕ) (f : FilePass) → length stream ≤ n + at → file_pass_in is_biff8 (records_from at (drop at stream)) ≡ Some f → Found key at stream f
found zero key is_biff8 at stream f le h =
    let none : None ≡ Some f = sym (ap (file_pass_in is_biff8) (records_from-end at stream (omega arith))) ∙ h in absurd (cc)
found (suc n) key is_biff8 at stream f le h =
    elim (cases_lt (length stream) (at + 4)) [
      | inl short ↦ let none : None ≡ Some f = sym (ap (file_pass_in is_biff8) (records_from-end at stream short)) ∙ h in absurd (cc)
      | inr room ↦
          let typ = u16_at at stream in
          let size = u16_at (at + 2) stream in
          let end = min (at + 4 + size) (length stream) in
          let step : file_pass_at is_biff8 typ at end stream ≡ Some f = sym (file_pass_in-step is_biff8 typ at size end stream room refl refl refl) ∙ h in
          elim (cases_eq typ 10) [
            | inl eof ↦ let none : None ≡ Some f = sym (cond-true (typ == 10) _ _ (eq-eqb typ 10 eof)) ∙ step in absurd (cc)
            | inr not_eof ↦
                let after = sym (cond-false (typ == 10) _ _ (ne_eqb typ 10 not_eof)) ∙ step in
                elim (cases_eq typ 47) [
                  | inl is ↦
                      let some : Some (record { offset = at; end = end; is_biff8 = is_biff8 }) ≡ Some f = sym (cond-true (typ == 47) _ _ (eq-eqb typ 47 is)) ∙ after in
                      found_here key is_biff8 at size end stream f room (sym is) refl refl (cc)
                  | inr not_file_pass ↦
                      let later : file_pass_in (if typ == 2057 then is_biff8_after is_biff8 (take (end - (at + 4)) (drop (at + 4) stream)) else is_biff8) (records_from end (drop end stream)) ≡ Some f =
                      sym (cond-false (typ == 47) _ _ (ne_eqb typ 47 not_file_pass)) ∙ after in
                      found_later key typ at size end stream f room refl refl refl not_file_pass
                      (found n key _ end stream f (omega arith) later)
                ]
          ]
    ]

-- ---- the parts of a stream around a FilePass

-- four bytes of a part that has them
head_within : (o end : ℕ) (stream : List ℕ) → o + 4 ≤ end → take 4 (drop o (take end stream)) ≡ take 4 (drop o stream)
head_within o end stream room =
    let size : end ≡ o + (end - o) = omega arith in
    ap (λ n. take 4 (drop o (take n stream))) size ∙ ap (take 4) (drop-take o (end - o) stream)
    ∙ take-take 4 (end - o) (drop o stream) (omega arith)

-- the first two of these bytes set to 0
cleared_type : (head : List ℕ) → 2 ≤ length head → set (set head 0 0) 1 0 ≡ 0 ∷ 0 ∷ drop 2 head
cleared_type [] le = absurd (omega (arith, le))
cleared_type (a ∷ []) le = absurd (omega (arith, le))
cleared_type (a ∷ b ∷ head) le = refl

-- the parts as they are left, in one
pub joined : (o end : ℕ) (stream front head filled behind : List ℕ) → o + 4 ≤ end → end ≤ length stream
    → front ≡ take o (take end stream) → head ≡ take 4 (drop o (take end stream)) → filled ≡ replicate (end - (o + 4)) 0 → behind ≡ drop end stream
    → front ++ (set (set head 0 0) 1 0 ++ filled) ++ behind
    ≡ take o stream ++ (0 ∷ 0 ∷ drop 2 (take 4 (drop o stream)) ++ replicate (end - (o + 4)) 0 ++ drop end stream)
joined o end stream front head filled behind room fits f h z b =
    let bytes = take 4 (drop o stream) in
    let zeros : List ℕ = replicate (end - (o + 4)) 0 in
    let drop_len : length (drop o stream) ≡ length stream - o = length-drop o stream in
    let len : length bytes ≡ 4 = length-take-le 4 (drop o stream) (omega (arith, drop_len, room, fits)) in
    let front_is : front ≡ take o stream = f ∙ take-take o end stream (omega (arith, room)) in
    let head_is : set (set head 0 0) 1 0 ≡ 0 ∷ 0 ∷ drop 2 bytes =
    ap (λ bs. set (set bs 0 0) 1 0) (h ∙ head_within o end stream room) ∙ cleared_type bytes (omega (arith, len)) in
    ap (λ bs. bs ++ (set (set head 0 0) 1 0 ++ filled) ++ behind) front_is
    ∙ ap (λ bs. take o stream ++ (bs ++ filled) ++ behind) head_is
    ∙ ap (λ bs. take o stream ++ (0 ∷ 0 ∷ drop 2 bytes ++ bs) ++ behind) z
    ∙ ap (λ bs. take o stream ++ (0 ∷ 0 ∷ drop 2 bytes ++ zeros) ++ bs) b
    ∙ append_assoc (take o stream) (0 ∷ 0 ∷ drop 2 bytes ++ zeros) (drop end stream)

-- a stream that is decrypted behind its FilePass, and whose FilePass is cleared
pub made_plain : (key : Key) (f : FilePass) (stream now : List ℕ) → Found key 0 stream f
    → now ≡ take f.end stream ++ decrypted key (records_from f.end (drop f.end stream))
    → take f.offset now ++ (0 ∷ 0 ∷ drop 2 (take 4 (drop f.offset now)) ++ replicate (f.end - (f.offset + 4)) 0 ++ drop f.end now) ≡ plain key stream
made_plain key f stream now found h =
    let behind = decrypted key (records_from f.end (drop f.end stream)) in
    let len : length (take f.end stream) ≡ f.end = length-take-le f.end stream found.fits in
    let front : take f.end now ≡ take f.end stream = ap (take f.end) h ∙ take_at (take f.end stream) behind f.end len in
    let rest : drop f.end now ≡ behind = ap (drop f.end) h ∙ drop_at (take f.end stream) behind f.end len in
    let before : take f.offset now ≡ take f.offset stream =
    sym (take-take f.offset f.end now (omega (arith, found.room))) ∙ ap (take f.offset) front ∙ take-take f.offset f.end stream (omega (arith, found.room)) in
    let head : take 4 (drop f.offset now) ≡ take 4 (drop f.offset stream) =
    sym (head_within f.offset f.end now found.room) ∙ ap (λ bs. take 4 (drop f.offset bs)) front ∙ head_within f.offset f.end stream found.room in
    ap (λ bs. bs ++ (0 ∷ 0 ∷ drop 2 (take 4 (drop f.offset now)) ++ replicate (f.end - (f.offset + 4)) 0 ++ drop f.end now)) before
    ∙ ap (λ bs. take f.offset stream ++ (0 ∷ 0 ∷ drop 2 bs ++ replicate (f.end - (f.offset + 4)) 0 ++ drop f.end now)) head
    ∙ ap (λ bs. take f.offset stream ++ (0 ∷ 0 ∷ drop 2 (take 4 (drop f.offset stream)) ++ replicate (f.end - (f.offset + 4)) 0 ++ bs)) rest
    ∙ sym found.same
