-- The number of a page, by the fields before it.
use Rattle.std.proofs.lemmas.List.{drop-drop}
use Rattle.std.proofs.Common.{◌≡◌, ℕ, ◌+◌, ◌≤◌, Bool, true, false, List, length, take, drop, length-drop, Result, Ok, Err, refl, sym, ap, subst, ◌∙◌, arith}
use Rattle.std.specs.Prelude.{◌==◌, if◌then◌else◌, nat_lt}
use Rattle.xls_bytes.specs.Numbers.{le}
use Rattle.xls_text.specs.declared.encoding.XlsEncoding.{XlsEncoding}
use Rattle.xls_text.specs.declared.error.CfbError.{CfbError}
use Rattle.xls_text.specs.Pages as text
use Rattle.xls_vba.specs.declared.error.VbaError.{VbaError}
use Rattle.xls_vba.specs.declared.error.VbaError.TheVariants as errors
use Rattle.xls_vba.specs.Fields.{◌>>=◌, bytes_from, header_from, information_from, kept_page, page_from, skip, skip_4a, skip_rec, u16_from}
use Rattle.xls_macros.specs.Page.{HasPage, number_place}

-- what was read first, where all was read
bound : {A B : Type 0} (m : Result A VbaError) (f : A → Result B VbaError) (y : B) → (m >>= f) ≡ Ok y → (x : A) × (m ≡ Ok x) × (f x ≡ Ok y)
bound (Ok x) f y h = (x, refl, h)
bound (Err e) f y h = absurd (let none : Err e ≡ Ok y = h in cc none)

long_by : (n : ℕ) (bytes : List ℕ) {A : Type 0} (x y : A) → (if nat_lt (length bytes) n then Err errors.Truncated else Ok x) ≡ Ok y
    → (n ≤ length bytes) × (x ≡ y)
long_by n bytes {A} x y h = by_test (nat_lt (length bytes) n) refl h
  where
    by_test : (t : Bool) → nat_lt (length bytes) n ≡ t → (if t then Err errors.Truncated else Ok x) ≡ Ok y → (n ≤ length bytes) × (x ≡ y)
    by_test true e h = absurd (let none : Err errors.Truncated ≡ Ok y = h in cc none)
    by_test false e h = (grind arith, (let same : Ok x ≡ Ok y = h in cc same))

skipped : (n : ℕ) (bytes rest : List ℕ) → skip n bytes ≡ Ok rest → (n ≤ length bytes) × (drop n bytes ≡ rest)
unfolding skip
skipped n bytes rest h =
    let first = bound (bytes_from n bytes) _ rest h in
    let long = long_by n bytes (take n bytes, drop n bytes) first.0 first.1 in
    (long.0, (cc (long.1, first.2)))

-- how long PROJECTCOMPATVERSION is, where it is there
abbrev compat : Bool → ℕ
compat t = if t then 10 else 0

number_read : (bytes : List ℕ) (n : ℕ) (rest : List ℕ) → u16_from bytes ≡ Ok (n, rest) → (2 ≤ length bytes) × (le (take 2 bytes) ≡ n)
number_read bytes n rest h =
    let long = long_by 2 bytes (le (take 2 bytes), drop 2 bytes) (n, rest) h in
    (long.0, ap (λ (x : ℕ × List ℕ). x.0) long.1)

compat_skipped : (bytes rest : List ℕ) → skip_4a bytes ≡ Ok rest
    → (2 ≤ length bytes) × (compat (le (take 2 bytes) == 0x4A) ≤ length bytes) × (drop (compat (le (take 2 bytes) == 0x4A)) bytes ≡ rest)
unfolding skip_4a
compat_skipped bytes rest h =
    let id = bound (u16_from bytes) (λ x. if x.0 == 0x4A then skip 10 bytes else Ok bytes) rest h in
    let number = number_read bytes id.0.0 id.0.1 id.1 in
    let after = by_test (le (take 2 bytes) == 0x4A) (rw (← number.1) at id.2) in
    (number.0, after.0, after.1)
  where
    by_test : (t : Bool) → (if t then skip 10 bytes else Ok bytes) ≡ Ok rest → (compat t ≤ length bytes) × (drop (compat t) bytes ≡ rest)
    by_test true h = skipped 10 bytes rest h
    by_test false h = ((omega arith), (let same : Ok bytes ≡ Ok rest = h in cc same))

-- where the number stands, and that it is there
pub record Numbered (directory : List ℕ) (page : XlsEncoding) : Type 0 where
  pub head : 12 ≤ length directory
  pub fits : number_place directory + 2 ≤ length directory
  pub is_page : text.page_of (le (take 2 (drop (number_place directory) directory))) ≡ Ok page

page_kept : (read : Result XlsEncoding _) (page : XlsEncoding) → kept_page read ≡ Ok page → read ≡ Ok page
page_kept (Ok p) page h = let same : Ok p ≡ Ok page = h in cc same
page_kept (Err e) page h = absurd (let none : Err (errors.Cfb e) ≡ Ok page = h in cc none)

-- four drops one after another
dropped : (k : ℕ) (bytes : List ℕ) → drop 6 (drop 20 (drop k (drop 10 bytes))) ≡ drop (36 + k) bytes
dropped k bytes =
    drop-drop 6 20 (drop k (drop 10 bytes)) ∙ drop-drop (20 + 6) k (drop 10 bytes) ∙ drop-drop (k + 26) 10 bytes
    ∙ ap (λ (n : ℕ). drop n bytes) (omega arith)

placed : (directory : List ℕ) → number_place directory ≡ 36 + compat (le (take 2 (drop 10 directory)) == 0x4A)
placed directory = by_test (le (take 2 (drop 10 directory)) == 0x4A)
  where
    by_test : (t : Bool) → (if t then 46 else 36) ≡ 36 + compat t
    by_test true = refl
    by_test false = refl

abbrev both : XlsEncoding → List ℕ → Result (XlsEncoding × List ℕ) VbaError
both page rest = Ok (page, rest)

page_is : (p q : XlsEncoding) (r s : List ℕ) → both p r ≡ both q s → p ≡ q
page_is p q r s h = let same : both p r ≡ both q s = h in ap first same
  where
    first : Result (XlsEncoding × List ℕ) VbaError → XlsEncoding
    first (Ok x) = x.0
    first (Err e) = p

long_of : (n m : ℕ) (bytes : List ℕ) → 1 ≤ m → m ≤ length (drop n bytes) → n + m ≤ length bytes
long_of n m bytes some l = omega (arith, length-drop n bytes)

stands : (bytes r1 r2 r3 r4 : List ℕ) (page : XlsEncoding) → drop 10 bytes ≡ r1 → drop (compat (le (take 2 r1) == 0x4A)) r1 ≡ r2
    → drop 20 r2 ≡ r3 → drop 6 r3 ≡ r4 → 2 ≤ length r1 → 2 ≤ length r4 → text.page_of (le (take 2 r4)) ≡ Ok page → Numbered bytes page
stands bytes r1 r2 r3 r4 page e1 e2 e3 e4 l1 l4 is =
    let k = compat (le (take 2 (drop 10 bytes)) == 0x4A) in
    let whole : r4 ≡ drop 6 (drop 20 (drop k (drop 10 bytes))) = cc (e1, e2, e3, e4) in
    let same : r4 ≡ drop (number_place bytes) bytes = whole ∙ dropped k bytes ∙ ap (λ (n : ℕ). drop n bytes) (sym (placed bytes)) in
    record {
      head = long_of 10 2 bytes (omega arith) (rw e1 l1);
      fits = long_of (number_place bytes) 2 bytes (omega arith) (rw same at l4);
      is_page = rw same at is;
    }

pub numbered : (directory : List ℕ) (page : XlsEncoding) → HasPage directory page → Numbered directory page
unfolding header_from
numbered directory page (rest, h) =
    let kind = bound (skip 10 directory) _ _ h in
    let a = skipped 10 directory kind.0 kind.1 in
    let compat_read = bound (skip_4a kind.0) _ _ kind.2 in
    let b = compat_skipped kind.0 compat_read.0 compat_read.1 in
    let lcid = bound (skip 20 compat_read.0) _ _ compat_read.2 in
    let c = skipped 20 compat_read.0 lcid.0 lcid.1 in
    let before = bound (skip 6 lcid.0) _ _ lcid.2 in
    let d = skipped 6 lcid.0 before.0 before.1 in
    let number = bound (u16_from before.0) _ _ before.2 in
    let n = number_read before.0 number.0.0 number.0.1 number.1 in
    let found = bound (page_from number.0.0) _ _ number.2 in
    let information = bound (information_from number.0.1) _ _ found.2 in
    let version = bound (skip 32 information.0) _ _ information.2 in
    let constants = bound (skip_rec 0x0C version.0) _ _ version.2 in
    let unicode = bound (skip_rec 0x3C constants.0) _ _ constants.2 in
    let same_page : found.0 ≡ page = page_is found.0 page unicode.0 rest unicode.2 in
    let whole = page_kept (text.page_of number.0.0) page (found.1 ∙ ap (λ (p : XlsEncoding). Ok p) same_page) in
    stands directory kind.0 compat_read.0 lcid.0 before.0 page a.1 b.2 c.1 d.1 b.0 n.0 (rw n.1 whole)

-- the page of the number that was read
pub read_page : (directory back : List ℕ) (place n : ℕ) (page : XlsEncoding) (r : Result XlsEncoding CfbError) → Numbered directory page
    → back ≡ drop place directory → place ≡ number_place directory → n ≡ le (take 2 back) → r ≡ text.page_of n → r ≡ Ok page
read_page directory back place n page r p e1 e2 e3 e4 = let is = p.is_page in cc (e1, e2, e3, e4, is)

pub same_page : (directory : List ℕ) (p q : XlsEncoding) (r : Result XlsEncoding CfbError) → r ≡ Ok p → r ≡ Ok q → HasPage directory q → HasPage directory p
same_page directory p q r e1 e2 h = let same : q ≡ p = cc (e1, e2) in subst (HasPage directory) same h

pub read_long : (directory back : List ℕ) (place : ℕ) (page : XlsEncoding) → Numbered directory page → back ≡ drop place directory
    → place ≡ number_place directory → 2 ≤ length back
read_long directory back place page p e1 e2 = let fits = p.fits in rw (e1, length-drop) (omega (arith, fits, e2))
