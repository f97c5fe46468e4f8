-- Pieces: bytes that are whole Continue records; and the end of a walk.
use Rattle.std.proofs.Common.{◌≡◌, ◌≢◌, ℕ, ◌+◌, ◌-◌, ◌≤◌, Bool, true, eqb, List, [], ◌∷◌, ◌++◌, length, take, drop, refl, sym, ap, ◌∙◌, append_assoc, arith}
use Rattle.std.specs.Prelude.{IsTrue}
use Rattle.std.specs.List.{AllByRecursion}
use Rattle.std.proofs.lemmas.Bool.{eqb-true}
use Rattle.std.proofs.lemmas.List.{take_at, take_all, drop-take, length-append, length-take, take_rest, nil_from_length}
use Rattle.xls_bytes.specs.Numbers.{le}
use Rattle.xls_stream.specs.Stream.{record_bytes, continues, IsBody, IsRecord, AreContinues, bodies_of, Gathers, StartsContinue}
use Rattle.xls_stream.specs.Cut.{Cut}
use Rattle.xls_stream.specs.declared.part.Part.{Part}
use Rattle.xls_stream.specs.declared.part.Part.TheVariants.{RecordHeader, RecordLength, ContinueLength}
use Rattle.xls_stream.proofs.Records.{size_continue, after_continue, bodies-continues, bodies-are}

-- the first of some Continue records
pub record Taken (bytes : List ℕ) : Type 0 where
  pub body : List ℕ
  pub others : List (List ℕ)
  pub body_fits : IsBody body
  pub others_fit : AllByRecursion IsBody others
  pub whole : bytes ≡ record_bytes 0x003C body ++ continues others

taken_by : (bytes : List ℕ) (cs : List (List ℕ)) → AllByRecursion IsBody cs → bytes ≡ continues cs
    → bytes ≢ [] → Taken bytes
taken_by bytes [] fit e some = absurd (some e)
taken_by bytes (c ∷ cs) fit e some =
    record { body = c; others = cs; body_fits = fit.0; others_fit = fit.1; whole = e }

pub taken : (bytes : List ℕ) → AreContinues bytes → bytes ≢ [] → Taken bytes
taken bytes h some = taken_by bytes h.bodies h.fit h.whole some

pub room_taken : (bytes : List ℕ) (t : Taken bytes) → 4 + length t.body ≤ length bytes
room_taken bytes t = rw t.whole (omega (arith, length-append t.body (continues t.others)))

pub size_taken : (bytes : List ℕ) (t : Taken bytes) (n : ℕ)
    → n ≡ le (take 2 (take (length bytes - 2) (drop 2 bytes))) → n ≡ length t.body
size_taken bytes t n e =
    let f = t.body_fits in
    e ∙ rw take_rest (rw t.whole (size_continue t.body (continues t.others) f))

rest_taken : (bytes : List ℕ) (t : Taken bytes) (n : ℕ) → n ≡ length t.body
    → drop (4 + n) bytes ≡ continues t.others
rest_taken bytes t n e = rw (e, t.whole) (after_continue t.body (continues t.others) t.body_fits)

body_taken : (bytes : List ℕ) (t : Taken bytes) (n : ℕ) → n ≡ length t.body
    → take n (drop 4 bytes) ≡ t.body
body_taken bytes t n e = rw (e, t.whole) (take_at t.body (continues t.others) (length t.body) refl)

pub rest_continues : (bytes rest : List ℕ) (t : Taken bytes) (n : ℕ) → n ≡ length t.body
    → rest ≡ drop (4 + n) bytes → AreContinues rest
rest_continues bytes rest t n e r =
    record { bodies = t.others; fit = t.others_fit; whole = r ∙ rest_taken bytes t n e }

pub bodies_taken : (bytes prefix rest : List ℕ) (t : Taken bytes) (n : ℕ) → n ≡ length t.body
    → prefix ≡ take (4 + n) bytes → rest ≡ drop (4 + n) bytes
    → bodies_of bytes ≡ take (length prefix - 4) (drop 4 prefix) ∷ bodies_of rest
bodies_taken bytes prefix rest t n e f r =
    let all : bodies_of bytes ≡ t.body ∷ t.others =
    rw t.whole (bodies-continues (t.body ∷ t.others) (t.body_fits, t.others_fit)) in
    let others : bodies_of rest ≡ t.others =
    ap bodies_of (r ∙ rest_taken bytes t n e) ∙ bodies-continues t.others t.others_fit in
    let inner : drop 4 prefix ≡ t.body = rw (f, drop-take 4 n bytes) (body_taken bytes t n e) in
    let room = room_taken bytes t in
    let prefix-len : length prefix ≡ 4 + n = rw f (omega (arith, length-take (4 + n) bytes)) in
    let body : take (length prefix - 4) (drop 4 prefix) ≡ t.body =
    rw inner (take_all (length prefix - 4) t.body (omega arith)) in
    rw (all, others, body) refl

bodies-nil : (bytes : List ℕ) → AreContinues bytes → bodies_of bytes ≡ [] → bytes ≡ []
bodies-nil bytes h e = h.whole ∙ ap continues (sym (bodies-are bytes h) ∙ e)

nil-bodies : bodies_of [] ≡ []
nil-bodies = bodies-continues [] tt

pub empty_pieces : (bytes : List ℕ) (h : AreContinues bytes) (v : List (List ℕ)) (r : Bool)
    → bodies_of bytes ≡ v → r ≡ eqb (length bytes) 0 → (IsTrue r → v ≡ []) × (v ≡ [] → IsTrue r)
empty_pieces bytes h v r view e = (
  λ t. let n : eqb (length bytes) 0 ≡ true = sym e ∙ t in
      sym view ∙ ap bodies_of (nil_from_length bytes (eqb-true _ _ n)) ∙ nil-bodies,
  λ z. e ∙ ap (λ (x : List ℕ). eqb (length x) 0) (bodies-nil bytes h (view ∙ z)),
)

-- ---- the end of a walk

pub cuts : (bytes : List ℕ) (typ : ℕ) (body start after : List ℕ) (p : Part) (g : Gathers start after) → IsRecord bytes typ body start → StartsContinue after → p ≢ ContinueLength → Cut after p → Cut bytes ContinueLength
cuts bytes typ body start after RecordHeader g r s ne c = let room = s.room in absurd (omega arith)
cuts bytes typ body start after RecordLength g r s ne c = (
  record { typ = typ; body = body; tail = g.bodies },
  after,
  record {
    whole = r.whole ∙ ap (λ (x : List ℕ). record_bytes typ body ++ x) g.whole
        ∙ sym (append_assoc (record_bytes typ body) (continues g.bodies) after);
    fits = record { typ = r.typ_fits; body = r.body_fits; tail = g.fit };
    room = g.room;
    begun = s;
    cut = c;
  },
)
cuts bytes typ body start after ContinueLength g r s ne c = absurd (ne refl)
cuts bytes typ body start after other g r s ne c = absurd c
