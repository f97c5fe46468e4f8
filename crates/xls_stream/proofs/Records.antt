-- Records and Continue records at the start of bytes.
use Rattle.std.proofs.Common.{◌≡◌, ℕ, zero, suc, ◌+◌, ◌-◌, ◌*◌, ◌/◌, ◌%◌, ◌^◌, ◌<◌, ◌≤◌, List, [], ◌∷◌, ◌++◌, length, get_or, take, drop, refl, sym, ap, subst, ◌∙◌, append_assoc, arith}
use Rattle.std.specs.List.{AllByRecursion}
use Rattle.std.proofs.lemmas.List.{take_at, drop_at, length-append, length-take, take-append-drop, take-take, drop-drop, drop-take, flat_map_more}
use Rattle.xls_bytes.specs.Numbers.{le, le16}
use Rattle.xls_stream.specs.Stream.{record_bytes, continues, IsBody, IsRecord, AreContinues, bodies_within, bodies_of, HasRoom, Gathers, StartsContinue, Begins}

abbrev pub IsBytes : List ℕ → Type 0
IsBytes bytes = (i : ℕ) → get_or bytes i 0 < 256

pub le16_le : (a b : ℕ) → a < 256 → b < 256 → le16 (a + 256 * (b + 256 * 0)) ≡ a ∷ b ∷ []
le16_le a b ha hb =
    let e1 : (a + 256 * (b + 256 * 0)) % 256 ≡ a = omega arith in
    let e2 : (a + 256 * (b + 256 * 0)) / 256 ≡ b = omega arith in
    rw (e1, e2) refl

pub le_le16 : (n : ℕ) → n < 2 ^ 16 → le (le16 n) ≡ n
le_le16 n h = omega arith

pub is_record : (bytes prefix rest : List ℕ) (typ size : ℕ) → IsBytes bytes → typ ≡ le (take 2 bytes)
    → size ≡ le (take 2 (drop 2 bytes)) → 4 ≤ length bytes → 4 + size ≤ length bytes
    → prefix ≡ take (4 + size) bytes → rest ≡ drop (4 + size) bytes
    → IsRecord bytes typ (take (length prefix - 4) (drop 4 prefix)) rest
is_record (a ∷ b ∷ c ∷ d ∷ bs) prefix rest typ size fits typ-is size-is four room prefix-is rest-is =
    let fa : a < 256 = fits 0 in
    let fb : b < 256 = fits 1 in
    let fc : c < 256 = fits 2 in
    let fd : d < 256 = fits 3 in
    let typ-sum : typ ≡ a + 256 * (b + 256 * 0) = typ-is in
    let size-sum : size ≡ c + 256 * (d + 256 * 0) = size-is in
    let room' : size ≤ length bs = omega arith in
    let body = take (length prefix - 4) (drop 4 prefix) in
    let in_prefix : drop 4 prefix ≡ take size bs =
    rw (prefix-is, drop-take 4 size (a ∷ b ∷ c ∷ d ∷ bs)) refl in
    let prefix-len : length prefix - 4 ≡ size =
    rw prefix-is (omega (arith, length-take (4 + size) (a ∷ b ∷ c ∷ d ∷ bs))) in
    let body-is : body ≡ take size bs =
    rw (prefix-len, in_prefix) (take-take size size bs (omega arith)) in
    let body-len : length body ≡ size = rw body-is (omega (arith, length-take size bs)) in
    let rest-bs : rest ≡ drop size bs = rest-is ∙ sym (drop-drop size 4 (a ∷ b ∷ c ∷ d ∷ bs)) in
    let parts : bs ≡ body ++ rest = rw (body-is, rest-bs) (sym (take-append-drop size bs)) in
    let t0 : typ % 256 ≡ a = omega arith in
    let t1 : typ / 256 ≡ b = omega arith in
    let s0 : length body % 256 ≡ c = omega arith in
    let s1 : length body / 256 ≡ d = omega arith in
    record { whole = cc; typ_fits = omega arith; body_fits = omega arith }
is_record (a ∷ b ∷ c ∷ []) prefix rest typ size fits typ-is size-is four room prefix-is rest-is =
    absurd (omega arith)
is_record (a ∷ b ∷ []) prefix rest typ size fits typ-is size-is four room prefix-is rest-is =
    absurd (omega arith)
is_record (a ∷ []) prefix rest typ size fits typ-is size-is four room prefix-is rest-is =
    absurd (omega arith)
is_record [] prefix rest typ size fits typ-is size-is four room prefix-is rest-is =
    absurd (omega arith)

-- ---- Continue records

pub continues-push : (cs : List (List ℕ)) (c rest : List ℕ) → continues (cs ++ c ∷ [])
    ++ rest ≡ continues cs ++ (record_bytes 0x003C c ++ rest)
continues-push cs c rest =
    ap (λ (x : List ℕ). x ++ rest) (sym (flat_map_more (record_bytes 0x003C) [] cs c))
    ∙ append_assoc (continues cs) (record_bytes 0x003C c) rest

-- what stands after a Continue at the start, and its body
pub after_continue : (c rest : List ℕ) → IsBody c → drop (4 + length c) (record_bytes 0x003C c ++ rest) ≡ rest
after_continue c rest fits =
    sym (drop-drop (length c) 4 (record_bytes 0x003C c ++ rest)) ∙ drop_at c rest (length c) refl

pub size_continue : (c rest : List ℕ) → IsBody c
    → le (take 2 (drop 2 (record_bytes 0x003C c ++ rest))) ≡ length c
size_continue c rest fits = le_le16 (length c) fits

within_step : (n : ℕ) (c rest : List ℕ) → IsBody c
    → bodies_within (suc n) (record_bytes 0x003C c ++ rest) ≡ c ∷ bodies_within n rest
unfolding bodies_within
within_step n c rest fits =
    let size : le (length c % 256 ∷ length c / 256 ∷ []) ≡ length c = le_le16 (length c) fits in
    rw (size, after_continue c rest fits, take_at c rest (length c) refl) refl

within_continues : (cs : List (List ℕ)) (n : ℕ) → AllByRecursion IsBody cs → length cs ≤ n
    → bodies_within n (continues cs) ≡ cs
unfolding bodies_within
within_continues [] zero fit le = refl
within_continues [] (suc n) fit le = refl
within_continues (c ∷ cs) zero fit le = absurd (omega arith)
within_continues (c ∷ cs) (suc n) fit le =
    within_step n c (continues cs) fit.0
    ∙ ap (λ (x : List (List ℕ)). c ∷ x) (within_continues cs n fit.1 (omega arith))

length-continues : (cs : List (List ℕ)) → length cs ≤ length (continues cs)
length-continues [] = omega arith
length-continues (c ∷ cs) = omega (arith, length-continues cs, length-append c (continues cs))

pub bodies-continues : (cs : List (List ℕ)) → AllByRecursion IsBody cs
    → bodies_of (continues cs) ≡ cs
unfolding bodies_of
bodies-continues cs fit = within_continues cs (length (continues cs)) fit (length-continues cs)

pub bodies-are : (bytes : List ℕ) (h : AreContinues bytes) → bodies_of bytes ≡ h.bodies
bodies-are bytes h = rw h.whole (bodies-continues h.bodies h.fit)

-- ---- gathering

HasRoom-push : (cs : List (List ℕ)) (c rest : List ℕ) → 4 < length (record_bytes 0x003C c ++ rest)
    → HasRoom cs (record_bytes 0x003C c ++ rest) → HasRoom (cs ++ c ∷ []) rest
HasRoom-push [] c rest lt room =
    (subst (λ (x : List ℕ). 4 < length x) (sym (continues-push [] c rest)) lt, tt)
HasRoom-push (d ∷ cs) c rest lt room = (
  subst (λ (x : List ℕ). 4 < length x) (sym (continues-push (d ∷ cs) c rest)) room.0,
  HasRoom-push cs c rest lt room.1,
)

fit-push : (cs : List (List ℕ)) (c : List ℕ) → AllByRecursion IsBody cs → IsBody c
    → AllByRecursion IsBody (cs ++ c ∷ [])
fit-push [] c fit h = (h, tt)
fit-push (d ∷ cs) c fit h = (fit.0, fit-push cs c fit.1 h)

pub gathers_nothing : (start : List ℕ) → Gathers start start
gathers_nothing start = record { bodies = []; fit = tt; room = tt; whole = refl }

-- a record that starts as a Continue is one
pub typ_continue : (bytes : List ℕ) (typ : ℕ) (body rest : List ℕ) → StartsContinue bytes
    → IsRecord bytes typ body rest → typ ≡ 0x003C
typ_continue bytes typ body rest s r =
    let h : typ % 256 ∷ typ / 256 ∷ [] ≡ 60 ∷ 0 ∷ [] =
    subst (λ (x : List ℕ). take 2 x ≡ 60 ∷ 0 ∷ []) r.whole s.typ in
    let h0 : typ % 256 ≡ 60 = cc in
    let h1 : typ / 256 ≡ 0 = cc in
    let f = r.typ_fits in
    omega arith

pub gathers_more : (start after : List ℕ) (typ : ℕ) (body rest : List ℕ) → Gathers start after
    → StartsContinue after → IsRecord after typ body rest → Gathers start rest
gathers_more start after typ body rest g s r =
    let t : typ ≡ 0x003C = typ_continue after typ body rest s r in
    let whole : after ≡ record_bytes 0x003C body ++ rest = r.whole ∙ ap (λ (t : ℕ). record_bytes t body ++ rest) t in
    record {
      bodies = g.bodies ++ body ∷ [];
      fit = fit-push g.bodies body g.fit r.body_fits;
      room = HasRoom-push g.bodies body rest (subst (λ (x : List ℕ). 4 < length x) whole s.room) (subst (λ (x : List ℕ). HasRoom g.bodies x) whole g.room);
      whole = g.whole ∙ ap (λ (x : List ℕ). continues g.bodies ++ x) whole
          ∙ sym (continues-push g.bodies body rest);
    }

-- what was gathered, as the bytes before what comes after
pub gathered : (start after : List ℕ) (g : Gathers start after)
    → take (length start - length after) start ≡ continues g.bodies
gathered start after g =
    let n : length start - length after ≡ length (continues g.bodies) =
    rw g.whole (omega (arith, length-append (continues g.bodies) after)) in
    rw (n, g.whole) (take_at (continues g.bodies) after (length (continues g.bodies)) refl)

pub begins : (bytes : List ℕ) (typ : ℕ) (body start after : List ℕ) (g : Gathers start after)
    → IsRecord bytes typ body start → ¬ StartsContinue after
    → Begins bytes (record { typ = typ; body = body; tail = g.bodies }) after
begins bytes typ body start after g r ended = record {
  whole = r.whole ∙ ap (λ (x : List ℕ). record_bytes typ body ++ x) g.whole
      ∙ sym (append_assoc (record_bytes typ body) (continues g.bodies) after);
  fits = record { typ = r.typ_fits; body = r.body_fits; tail = g.fit };
  room = g.room;
  ended = ended;
}
