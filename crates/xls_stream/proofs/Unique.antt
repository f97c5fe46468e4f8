-- A stream is one list of groups, and ends in one way.
use Rattle.std.proofs.Common.{◌≡◌, ℕ, ◌+◌, ◌/◌, ◌%◌, ◌^◌, ◌<◌, ◌≤◌, List, [], ◌∷◌, ◌++◌, length, take, drop, refl, sym, ap, subst, ◌∙◌, append_assoc, arith, lit<}
use Rattle.std.specs.List.{AllByRecursion}
use Rattle.std.proofs.lemmas.List.{take_at, append_cancel_left, length-append}
use Rattle.xls_bytes.specs.Numbers.{le}
use Rattle.xls_stream.specs.Stream.{Group, record_bytes, continues, IsBody, StartsContinue, HasRoom, Begins, Run}
use Rattle.xls_stream.specs.Cut.{Cut, PassesEnd}
use Rattle.xls_stream.specs.declared.part.Part.{Part}
use Rattle.xls_stream.specs.declared.part.Part.TheVariants.{RecordHeader, RecordLength, ContinueLength}
use Rattle.xls_stream.proofs.Records.{le_le16}

-- two lists that go on from prefixes of one length
same_prefix : (x x' y y' : List ℕ) → length x ≡ length x' → x ++ y ≡ x' ++ y' → (x ≡ x') × (y ≡ y')
same_prefix x x' y y' n e =
    let prefix : x ≡ x' =
    sym (take_at x y (length x) refl) ∙ ap (take (length x)) e
    ∙ take_at x' y' (length x) (sym n) in
    (prefix, append_cancel_left x y y' (e ∙ ap (λ (z : List ℕ). z ++ y') (sym prefix)))

pub record SameRecord (t t' : ℕ) (x x' y y' : List ℕ) : Type 0 where
  pub typ : t ≡ t'
  pub body : x ≡ x'
  pub rest : y ≡ y'

same_record : (t t' : ℕ) (x x' y y' : List ℕ) → t < 2 ^ 16 → t' < 2 ^ 16 → IsBody x → IsBody x'
    → record_bytes t x ++ y ≡ record_bytes t' x' ++ y' → SameRecord t t' x x' y y'
same_record t t' x x' y y' ft ft' fx fx' e =
    let a : t % 256 ≡ t' % 256 = cc in
    let b : t / 256 ≡ t' / 256 = cc in
    let c : length x % 256 ≡ length x' % 256 = cc in
    let d : length x / 256 ≡ length x' / 256 = cc in
    let n : length x ≡ length x' = omega arith in
    let parts : x ++ y ≡ x' ++ y' = cc in
    let both = same_prefix x x' y y' n parts in
    record { typ = omega arith; body = both.0; rest = both.1 }

-- a Continue at the start, with more than four bytes left
starts : (c rest after : List ℕ) → after ≡ record_bytes 0x003C c ++ rest → 4 < length after
    → StartsContinue after
starts c rest after e lt = record { room = lt; typ = rw e refl }

same_tails : (cs ds : List (List ℕ)) (r s : List ℕ) → AllByRecursion IsBody cs
    → AllByRecursion IsBody ds → HasRoom cs r → HasRoom ds s → ¬ StartsContinue r
    → ¬ StartsContinue s
    → continues cs ++ r ≡ continues ds ++ s → (cs ≡ ds) × (r ≡ s)
same_tails [] [] r s fc fd hc hd nr ns e = (refl, e)
same_tails [] (d ∷ ds) r s fc fd hc hd nr ns e =
    absurd (nr (starts d (continues ds ++ s) r (e
    ∙ append_assoc (record_bytes 0x003C d) (continues ds) s) (rw e hd.0)))
same_tails (c ∷ cs) [] r s fc fd hc hd nr ns e =
    absurd (ns (starts c (continues cs ++ r) s (sym e
    ∙ append_assoc (record_bytes 0x003C c) (continues cs) r) (rw (← e) hc.0)))
same_tails (c ∷ cs) (d ∷ ds) r s fc fd hc hd nr ns e =
    let whole : record_bytes 0x003C c ++ (continues cs ++ r) ≡ record_bytes 0x003C d ++ (continues ds ++ s) =
    sym (append_assoc (record_bytes 0x003C c) (continues cs) r) ∙ e
    ∙ append_assoc (record_bytes 0x003C d) (continues ds) s in
    let one = same_record 60 60 c d (continues cs ++ r) (continues ds
    ++ s) (lit< tt) (lit< tt) fc.0 fd.0 whole in
    let others = same_tails cs ds r s fc.1 fd.1 hc.1 hd.1 nr ns one.rest in
    (ap (λ (x : List ℕ). x ∷ cs) one.body ∙ ap (λ (xs : List (List ℕ)). d ∷ xs) others.0, others.1)

same_group : (t t' : ℕ) (x x' : List ℕ) (cs cs' : List (List ℕ)) → t ≡ t' → x ≡ x' → cs ≡ cs'
    → ◌≡◌ {A = Group} (record { typ = t; body = x; tail = cs }) (record {
      typ = t';
      body = x';
      tail = cs';
    })
same_group t t' x x' cs cs' p q r = cc

-- a group that begins the bytes is the only one that does
pub one_group : (bytes : List ℕ) (g h : Group) (r s : List ℕ) → Begins bytes g r → Begins bytes h s
    → (g ≡ h) × (r ≡ s)
one_group bytes g h r s a b =
    let whole : record_bytes g.typ g.body ++ (continues g.tail ++ r) ≡ record_bytes h.typ h.body
    ++ (continues h.tail ++ s) =
    sym (append_assoc (record_bytes g.typ g.body) (continues g.tail) r) ∙ sym a.whole ∙ b.whole
    ∙ append_assoc (record_bytes h.typ h.body) (continues h.tail) s in
    let one = same_record g.typ h.typ g.body h.body (continues g.tail ++ r) (continues h.tail
    ++ s) a.fits.typ b.fits.typ a.fits.body b.fits.body whole in
    let tails = same_tails g.tail h.tail r s a.fits.tail b.fits.tail a.room b.room a.ended b.ended one.rest in
    (same_group g.typ h.typ g.body h.body g.tail h.tail one.typ one.body tails.0, tails.1)

-- no group begins the bytes
abbrev pub IsEnd : List ℕ → Type 0
IsEnd bytes = (g : Group) (rest : List ℕ) → Begins bytes g rest → ⊥

pub one_run : (bytes : List ℕ) (gs hs : List Group) (r s : List ℕ) → Run bytes gs r → Run bytes hs s
    → IsEnd r → IsEnd s → (gs ≡ hs) × (r ≡ s)
one_run bytes [] [] r s a b er es = (refl, sym a ∙ b)
one_run bytes [] (h ∷ hs) r s a b er es =
    absurd (er h b.0 (subst (λ (x : List ℕ). Begins x h b.0) a b.1))
one_run bytes (g ∷ gs) [] r s a b er es =
    absurd (es g a.0 (subst (λ (x : List ℕ). Begins x g a.0) b a.1))
one_run bytes (g ∷ gs) (h ∷ hs) r s a b er es =
    let one = one_group bytes g h a.0 b.0 a.1 b.1 in
    let others = one_run a.0 gs hs r s a.2 (subst (λ (x : List ℕ). Run x hs s) (sym one.1) b.2) er es in
    (ap (λ (x : Group). x ∷ gs) one.0 ∙ ap (λ (xs : List Group). h ∷ xs) others.0, others.1)

pub nothing_ends : IsEnd []
nothing_ends g rest b = let e = b.whole in absurd cc

pub long : (bytes : List ℕ) (g : Group) (rest : List ℕ) → Begins bytes g rest
    → 4 + length g.body ≤ length bytes
long bytes g rest b =
    rw b.whole (omega (
      arith,
      length-append g.body (continues g.tail),
      length-append (g.body ++ continues g.tail) rest,
    ))

pub size_is : (t : ℕ) (x rest : List ℕ) → IsBody x
    → le (take 2 (drop 2 (record_bytes t x ++ rest))) ≡ length x
size_is t x rest f = le_le16 (length x) f

tail_cut : (cs ds : List (List ℕ)) (r s : List ℕ) → AllByRecursion IsBody cs
    → AllByRecursion IsBody ds → HasRoom cs r → HasRoom ds s → StartsContinue r → PassesEnd r
    → ¬ StartsContinue s → continues cs ++ r ≡ continues ds ++ s → ⊥
tail_cut [] [] r s fc fd hc hd sr pr ns e = ns (subst StartsContinue e sr)
tail_cut [] (d ∷ ds) r s fc fd hc hd sr pr ns e =
    let whole : r ≡ record_bytes 0x003C d ++ (continues ds ++ s) =
    e ∙ append_assoc (record_bytes 0x003C d) (continues ds) s in
    let short = pr.short in
    let size : le (take 2 (drop 2 r)) ≡ length d =
    ap (λ (x : List ℕ). le (take 2 (drop 2 x))) whole ∙ size_is 60 d (continues ds ++ s) fd.0 in
    omega (arith, ap length whole, length-append d (continues ds ++ s))
tail_cut (c ∷ cs) [] r s fc fd hc hd sr pr ns e =
    ns (starts c (continues cs ++ r) s (sym e
    ∙ append_assoc (record_bytes 0x003C c) (continues cs) r) (rw (← e) hc.0))
tail_cut (c ∷ cs) (d ∷ ds) r s fc fd hc hd sr pr ns e =
    let whole : record_bytes 0x003C c ++ (continues cs ++ r) ≡ record_bytes 0x003C d ++ (continues ds ++ s) =
    sym (append_assoc (record_bytes 0x003C c) (continues cs) r) ∙ e
    ∙ append_assoc (record_bytes 0x003C d) (continues ds) s in
    let one = same_record 60 60 c d (continues cs ++ r) (continues ds
    ++ s) (lit< tt) (lit< tt) fc.0 fd.0 whole in
    tail_cut cs ds r s fc.1 fd.1 hc.1 hd.1 sr pr ns one.rest

-- where the stream is cut, no group begins
pub cut_ends : (bytes : List ℕ) (p : Part) → Cut bytes p → IsEnd bytes
cut_ends bytes RecordHeader c g rest b = omega (arith, long bytes g rest b)
cut_ends bytes RecordLength c g rest b =
    let short = c.short in
    let whole : bytes ≡ record_bytes g.typ g.body ++ (continues g.tail ++ rest) =
    b.whole ∙ append_assoc (record_bytes g.typ g.body) (continues g.tail) rest in
    let size : le (take 2 (drop 2 bytes)) ≡ length g.body =
    ap (λ (x : List ℕ). le (take 2 (drop 2 x))) whole
    ∙ size_is g.typ g.body (continues g.tail ++ rest) b.fits.body in
    omega (arith, long bytes g rest b)
cut_ends bytes ContinueLength c g rest b =
    let h = c.0 in
    let k = c.2 in
    let whole : record_bytes h.typ h.body ++ (continues h.tail ++ c.1) ≡ record_bytes g.typ g.body
    ++ (continues g.tail ++ rest) =
    sym (append_assoc (record_bytes h.typ h.body) (continues h.tail) c.1) ∙ sym k.whole ∙ b.whole
    ∙ append_assoc (record_bytes g.typ g.body) (continues g.tail) rest in
    let one = same_record h.typ g.typ h.body g.body (continues h.tail ++ c.1) (continues g.tail
    ++ rest) k.fits.typ b.fits.typ k.fits.body b.fits.body whole in
    tail_cut h.tail g.tail c.1 rest k.fits.tail b.fits.tail k.room b.room k.begun k.cut b.ended one.rest
cut_ends bytes other c g rest b = absurd c
