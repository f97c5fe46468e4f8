-- Records and strings as they are kept in memory.
use Rattle.std.proofs.Common.{◌≡◌, ℕ, suc, ◌+◌, ◌*◌, ◌<◌, ◌≤◌, List, [], ◌∷◌, ◌++◌, length, take, drop, get_or, refl, sym, ap, ◌∙◌, append_assoc, arith}
use Rattle.std.specs.List.{flat_map}
use Rattle.std.proofs.Math.Seq.{drop-cons, take-length}
use Rattle.std.proofs.lemmas.List.{append-nil, drop_all, length-append, length-take-le, length-drop, take-append-le, drop-append-le}
use Rattle.xls_stream.specs.Stream.{record_bytes}
use Rattle.xls_stream.specs.Listing.{Kept}
use Rattle.xls_output.specs.Output.{Output, Buffers, GivesUp}
use Rattle.xls_output.specs.declared.stop.Stop.{Stop}
use Rattle.xls_output.proofs.OutputLemmas.{gathers-as, gathers-nothing, gathers-then, stops-as, stops-more, stops-then}
use Rattle.xls_lay.specs.Inside.{total, parts_of, sizes_sum, records_of}
use Rattle.xls_lay.specs.Cutting.{kept_bytes}
use Rattle.xls_lay.specs.declared.kept.RecordHead.{RecordHead}

-- ---- records

pub sizes_push : (hs : List RecordHead) (h : RecordHead) → sizes_sum (hs ++ h ∷ []) ≡ sizes_sum hs + h.size
sizes_push [] h = omega arith
sizes_push (x ∷ hs) h = omega (arith, sizes_push hs h)

abbrev one_record : RecordHead → List ℕ → Kept
one_record h body = record { typ = h.typ; body = body }

pub records_push : (hs : List RecordHead) (bytes : List ℕ) (h : RecordHead) (body : List ℕ)
    → sizes_sum hs ≡ length bytes → h.size ≡ length body
    → records_of (hs ++ h ∷ []) (bytes ++ body) ≡ records_of hs bytes ++ record { typ = h.typ; body = body } ∷ []
records_push [] [] h body e f =
    ap (λ (n : ℕ). one_record h (take n body) ∷ []) f ∙ ap (λ (x : List ℕ). one_record h x ∷ []) (take-length body)
records_push [] (b ∷ bytes) h body e f = absurd (omega (arith, e))
records_push (x ∷ hs) bytes h body e f =
    let le : x.size ≤ length bytes = omega (arith, e) in
    let rest : sizes_sum hs ≡ length (drop x.size bytes) = omega (arith, e, length-drop x.size bytes) in
    ap (λ (b : List ℕ). one_record x b ∷ records_of (hs ++ h ∷ []) (drop x.size (bytes ++ body))) (take-append-le x.size bytes body le)
    ∙ ap (λ (b : List ℕ). one_record x (take x.size bytes) ∷ records_of (hs ++ h ∷ []) b) (drop-append-le x.size bytes body le)
    ∙ ap (λ (ks : List Kept). one_record x (take x.size bytes) ∷ ks) (records_push hs (drop x.size bytes) h body rest f)

pub length-records : (hs : List RecordHead) (bytes : List ℕ) → length (records_of hs bytes) ≡ length hs
length-records [] bytes = refl
length-records (h ∷ hs) bytes = ap suc (length-records hs (drop h.size bytes))

-- four bytes for each head
pub records_size : (hs : List RecordHead) (bytes : List ℕ) → sizes_sum hs ≡ length bytes
    → length (flat_map kept_bytes (records_of hs bytes)) ≡ length hs * 4 + length bytes
records_size [] bytes e = omega (arith, e)
records_size (h ∷ hs) bytes e =
    let le : h.size ≤ length bytes = omega (arith, e) in
    let left = length-drop h.size bytes in
    let body = length-take-le h.size bytes le in
    let rest : sizes_sum hs ≡ length (drop h.size bytes) = omega (arith, e, left) in
    let others = records_size hs (drop h.size bytes) rest in
    let both = length-append (record_bytes h.typ (take h.size bytes)) (flat_map kept_bytes (records_of hs (drop h.size bytes))) in
    omega (arith, le, left, body, others, both)

-- some records are written, and the others are still to come
pub record PutsKept (old out : List ℕ) (heads : List RecordHead) (bytes rest : List ℕ) (i : ℕ) : Type 0 where
  pub whole : out ++ flat_map kept_bytes (records_of (drop i heads) rest)
      ≡ old ++ flat_map kept_bytes (records_of heads bytes)
  pub sizes : sizes_sum (drop i heads) ≡ length rest

pub kept_none : (old : List ℕ) (heads : List RecordHead) (bytes : List ℕ) → sizes_sum heads ≡ length bytes
    → PutsKept old old heads bytes bytes 0
kept_none old heads bytes e = record { whole = refl; sizes = e }

module _ (old out : List ℕ) (heads : List RecordHead) (bytes rest : List ℕ) (i : ℕ) where
  next_head : (h : RecordHead) → i < length heads → get_or heads i h ≡ h → drop i heads ≡ h ∷ drop (i + 1) heads
  next_head h lt here =
      let e : suc i ≡ i + 1 = omega arith in
      drop-cons heads i h lt ∙ ap (λ (k : ℕ). get_or heads i h ∷ drop k heads) e ∙ ap (λ (x : RecordHead). x ∷ drop (i + 1) heads) here

  pub kept_within : (h : RecordHead) → i < length heads → get_or heads i h ≡ h → PutsKept old out heads bytes rest i → h.size ≤ length rest
  kept_within h lt here p =
      let e = rw (next_head h lt here) at p.sizes in
      omega (arith, e)

  pub kept_more : (new : List ℕ) (h : RecordHead) → i < length heads → get_or heads i h ≡ h → PutsKept old out heads bytes rest i
      → new ≡ out ++ record_bytes h.typ (take h.size rest) → PutsKept old new heads bytes (drop h.size rest) (i + 1)
  kept_more new h lt here p e =
      let sizes = rw (next_head h lt here) at p.sizes in
      let le : h.size ≤ length rest = omega (arith, sizes) in
      let others = flat_map kept_bytes (records_of (drop (i + 1) heads) (drop h.size rest)) in
      record {
        whole =
            ap (λ (x : List ℕ). x ++ others) e
            ∙ append_assoc out (record_bytes h.typ (take h.size rest)) others
            ∙ ap (λ (hs : List RecordHead). out ++ flat_map kept_bytes (records_of hs rest)) (sym (next_head h lt here))
            ∙ p.whole;
        sizes = omega (arith, sizes, length-drop h.size rest);
      }

  pub kept_all : length heads ≤ i → PutsKept old out heads bytes rest i → out ≡ old ++ flat_map kept_bytes (records_of heads bytes)
  kept_all le p =
      sym (append-nil out)
      ∙ ap (λ (hs : List RecordHead). out ++ flat_map kept_bytes (records_of hs rest)) (sym (drop_all i heads le))
      ∙ p.whole

-- some records are put, and the others are still to come
pub record KeptOn (a b : Output) (heads : List RecordHead) (bytes rest : List ℕ) (i : ℕ) : Type 0 where
  pub text : List ℕ
  pub gathers : Buffers a b text
  pub put : PutsKept [] text heads bytes rest i

pub kept_on_none : (a : Output) (heads : List RecordHead) (bytes : List ℕ) → sizes_sum heads ≡ length bytes
    → KeptOn a a heads bytes bytes 0
kept_on_none a heads bytes e = record { text = []; gathers = gathers-nothing a; put = kept_none [] heads bytes e }

module _ {a b : Output} (heads : List RecordHead) (bytes rest : List ℕ) (i : ℕ) (so : KeptOn a b heads bytes rest i) (h : RecordHead) (lt : i < length heads) (here : get_or heads i h ≡ h) where
  pub kept_on_within : h.size ≤ length rest
  kept_on_within = kept_within [] so.text heads bytes rest i h lt here so.put

  pub kept_on_more : {c : Output} → Buffers b c (record_bytes h.typ (take h.size rest)) → KeptOn a c heads bytes (drop h.size rest) (i + 1)
  kept_on_more more = record {
    text = so.text ++ record_bytes h.typ (take h.size rest);
    gathers = gathers-then so.gathers more;
    put = kept_more [] so.text heads bytes rest i (so.text ++ record_bytes h.typ (take h.size rest)) h lt here so.put refl;
  }

  pub kept_on_stop : {c : Output} {e : Stop} → GivesUp b c (record_bytes h.typ (take h.size rest)) e → GivesUp a c (flat_map kept_bytes (records_of heads bytes)) e
  kept_on_stop stops =
      let next = kept_more [] so.text heads bytes rest i (so.text ++ record_bytes h.typ (take h.size rest)) h lt here so.put refl in
      stops-as (stops-more (flat_map kept_bytes (records_of (drop (i + 1) heads) (drop h.size rest))) (stops-then so.gathers stops)) next.whole

pub kept_on_all : {a b : Output} (heads : List RecordHead) (bytes rest : List ℕ) (i : ℕ) → length heads ≤ i
    → KeptOn a b heads bytes rest i → Buffers a b (flat_map kept_bytes (records_of heads bytes))
kept_on_all heads bytes rest i le so = gathers-as so.gathers (kept_all [] so.text heads bytes rest i le so.put)

-- ---- strings

pub total_push : (ns : List ℕ) (n : ℕ) → total (ns ++ n ∷ []) ≡ total ns + n
total_push [] n = omega arith
total_push (m ∷ ns) n = omega (arith, total_push ns n)

pub parts_push : (ns run : List ℕ) (n : ℕ) (part : List ℕ) → total ns ≡ length run → n ≡ length part
    → parts_of (ns ++ n ∷ []) (run ++ part) ≡ parts_of ns run ++ part ∷ []
parts_push [] [] n part e f =
    ap (λ (k : ℕ). take k part ∷ []) f ∙ ap (λ (x : List ℕ). x ∷ []) (take-length part)
parts_push [] (b ∷ run) n part e f = absurd (omega (arith, e))
parts_push (m ∷ ns) run n part e f =
    let le : m ≤ length run = omega (arith, e) in
    let rest : total ns ≡ length (drop m run) = omega (arith, e, length-drop m run) in
    ap (λ (b : List ℕ). b ∷ parts_of (ns ++ n ∷ []) (drop m (run ++ part))) (take-append-le m run part le)
    ∙ ap (λ (b : List ℕ). take m run ∷ parts_of (ns ++ n ∷ []) b) (drop-append-le m run part le)
    ∙ ap (λ (xs : List (List ℕ)). take m run ∷ xs) (parts_push ns (drop m run) n part rest f)

pub length-parts : (ns run : List ℕ) → length (parts_of ns run) ≡ length ns
length-parts [] run = refl
length-parts (n ∷ ns) run = ap suc (length-parts ns (drop n run))

pub next_size : (sizes : List ℕ) (i : ℕ) → i < length sizes → drop i sizes ≡ get_or sizes i 0 ∷ drop (i + 1) sizes
next_size sizes i lt =
    let e : suc i ≡ i + 1 = omega arith in
    drop-cons sizes i 0 lt ∙ ap (λ (k : ℕ). get_or sizes i 0 ∷ drop k sizes) e
