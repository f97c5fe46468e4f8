-- The DIFAT's chain and the numbers of the FAT, one sector after the other.
use Rattle.std.proofs.Common.{◌≡◌, ℕ, ◌+◌, ◌-◌, ◌*◌, ◌/◌, ◌<◌, ◌≤◌, List, [], ◌∷◌, ◌++◌, length, get_or, take, drop, Some, None, Result, Ok, Err, refl, sym, ap, subst, ◌∙◌, inl, inr, arith, length-append, length-take, length-drop, append_assoc, append-nil}
use Rattle.std.proofs.Common.{map, slice_get}
use Rattle.std.specs.List.{flat_map}
use Rattle.std.proofs.Math.Nat.{lt-div-mul-add, mul-le-mul_right}
use Rattle.std.proofs.Math.Seq.{get_or-append_seam}
use Rattle.std.proofs.lemmas.Bool.{cases_lt}
use Rattle.std.proofs.lemmas.Grind.{flat_map-append}
use Rattle.std.proofs.lemmas.List.{drop_more, map-append, take_all, take-take, take-append-le}
use Rattle.std.proofs.lemmas.Option.{slice_get-get_or}
use Rattle.xls_sectors.specs.declared.error.SectorFault.{SectorFault}
use Rattle.std.specs.Int.{div_ceil}
use Rattle.xls_bytes.specs.Numbers.{u32s_of}
use Rattle.xls_sectors.specs.declared.error.SectorFault.TheVariants as faults
use Rattle.xls_sectors.specs.declared.error.SectorError.{SectorError}
use Rattle.xls_sectors.specs.declared.error.SectorError.TheVariants as errors
use Rattle.xls_sectors.specs.declared.header.Header.{Header}
use Rattle.xls_sectors.specs.Header.{header_of, header_entries}
use Rattle.xls_sectors.specs.Reading.{◌>>=◌, Fails}
use Rattle.xls_sectors.specs.Chains.{Path, Loops, last_of}
use Rattle.xls_sectors.specs.Tables.{bytes_at, next_difat, difat_entries, in_use, listed_in, fat_part, fat_numbers, fat_up_to, area_of, Difat, Opened, opened_by, OpensBy, OpensSectors}
use Rattle.xls_sectors.proofs.ChainLemmas.{Path-push, long_loops}

-- numbers before those that are still to come, up to so many
abbrev pub with_numbers : ℕ → List ℕ → Result (List ℕ) SectorFault → Result (List ℕ) SectorFault
with_numbers most prefix read = read >>= λ numbers. Ok (take most (prefix ++ numbers))

-- ---- the DIFAT

-- no sector from the number of whole ones on is whole
next_difat_past : (size : ℕ) (area : List ℕ) → 0 < size → (n : ℕ) → length area / size ≤ n → next_difat size area n ≡ None
next_difat_past size area pos n le =
    let above : length area < length area / size * size + size = lt-div-mul-add pos in
    let products : length area / size * size ≤ n * size = mul-le-mul_right size le in
    let short : length (bytes_at size area n) < size = simp (length-take, length-drop) (omega arith) in
    grind (arith, short)

pub full_difat : (size : ℕ) (area : List ℕ) (first number after : ℕ) (sectors : List ℕ) → 0 < size
    → Path (next_difat size area) first sectors number → next_difat size area number ≡ Some after
    → length sectors ≡ length area / size → Loops (next_difat size area) first
full_difat size area first number after sectors pos p more full =
    long_loops (next_difat size area) first after (length area / size) (sectors ++ number ∷ []) (next_difat_past size area pos)
    (Path-push (next_difat size area) first sectors number after p more) (simp length-append (omega arith))

pub listed_more : (size : ℕ) (area entries sectors : List ℕ) (sector : ℕ)
    → listed_in size area entries (sectors ++ sector ∷ []) ≡ listed_in size area entries sectors ++ in_use (difat_entries size area sector)
listed_more size area entries sectors sector =
    let blocks : map (difat_entries size area) (sectors ++ sector ∷ []) ≡ map (difat_entries size area) sectors ++ difat_entries size area sector ∷ [] =
    map-append (difat_entries size area) sectors (sector ∷ []) in
    ap (λ (bs : List (List ℕ)). flat_map in_use (entries ∷ bs)) blocks
    ∙ flat_map-append in_use (entries ∷ map (difat_entries size area) sectors) (difat_entries size area sector ∷ [])
    ∙ ap (λ (xs : List ℕ). listed_in size area entries sectors ++ xs) (append-nil (in_use (difat_entries size area sector)))

pub last_more : (sectors : List ℕ) (sector : ℕ) → last_of (sectors ++ sector ∷ []) ≡ Some sector
last_more sectors sector =
    let place : length (sectors ++ sector ∷ []) - 1 ≡ length sectors = simp length-append (omega arith) in
    let within : length sectors < length (sectors ++ sector ∷ []) = simp length-append (omega arith) in
    ap (slice_get (sectors ++ sector ∷ [])) place ∙ slice_get-get_or (sectors ++ sector ∷ []) (length sectors) 0 within
    ∙ ap Some (get_or-append_seam sectors sector [] 0)

-- ---- the FAT

take_twice : (n : ℕ) (xs ys : List ℕ) → take n (take n xs ++ ys) ≡ take n (xs ++ ys)
take_twice n xs ys =
    elim (cases_lt (length xs) n) [
      | inl lt ↦ let all : take n xs ≡ xs = take_all n xs (omega arith) in rw all refl
      | inr le ↦
          let len : n ≤ length (take n xs) = simp length-take (omega arith) in
          take-append-le n (take n xs) ys len ∙ take-take n n xs (omega arith) ∙ sym (take-append-le n xs ys le)
    ]

regroup : (most : ℕ) (prefix part : List ℕ) (read : Result (List ℕ) SectorFault)
    → with_numbers most prefix (read >>= λ others. Ok (part ++ others)) ≡ with_numbers most (take most (prefix ++ part)) read
regroup most prefix part (Ok others) =
    ap Ok (ap (take most) (sym (append_assoc prefix part others)) ∙ sym (take_twice most (prefix ++ part) others))
regroup most prefix part (Err f) = refl

module _ (size most i : ℕ) (area prefix all : List ℕ) (total : Result (List ℕ) SectorFault) (within : i < length all)
    (so_far : with_numbers most prefix (fat_numbers size area (drop i all)) ≡ total) where
  here : with_numbers most prefix (fat_numbers size area (get_or all i 0 ∷ drop (i + 1) all)) ≡ total
  here = ap (λ (xs : List ℕ). with_numbers most prefix (fat_numbers size area xs)) (sym (drop_more all i 0 within)) ∙ so_far

  pub fat_step : (part : List ℕ) → fat_part size area (get_or all i 0) ≡ Ok part
      → with_numbers most (take most (prefix ++ part)) (fat_numbers size area (drop (i + 1) all)) ≡ total
  unfolding fat_numbers
  fat_step part h =
      let one : with_numbers most prefix (fat_numbers size area (get_or all i 0 ∷ drop (i + 1) all))
      ≡ with_numbers most (take most (prefix ++ part)) (fat_numbers size area (drop (i + 1) all)) =
      rw h (regroup most prefix part (fat_numbers size area (drop (i + 1) all))) in
      sym one ∙ here

  pub fat_stop : (fault : SectorFault) → fat_part size area (get_or all i 0) ≡ Err fault → total ≡ Err fault
  unfolding fat_numbers
  fat_stop fault h =
      let one : with_numbers most prefix (fat_numbers size area (get_or all i 0 ∷ drop (i + 1) all)) ≡ Err fault = rw h refl in
      sym here ∙ one

pub fat_done : (size most : ℕ) (area prefix : List ℕ) (total : Result (List ℕ) SectorFault) → length prefix ≤ most
    → with_numbers most prefix (fat_numbers size area []) ≡ total → total ≡ Ok prefix
unfolding fat_numbers
fat_done size most area prefix total few so_far =
    let all : take most (prefix ++ []) ≡ prefix = rw (append-nil prefix) (take_all most prefix few) in
    sym so_far ∙ ap Ok all

pub fat_part_cut : (size : ℕ) (area bytes : List ℕ) (sector : ℕ) → bytes ≡ bytes_at size area sector → length bytes < size
    → fat_part size area sector ≡ Err (faults.FatCut sector size (length bytes))
fat_part_cut size area bytes sector there short =
    let less : length (bytes_at size area sector) < size = subst (λ (xs : List ℕ). length xs < size) there short in
    rw there (grind (arith, less))

pub fat_part_whole : (size : ℕ) (area bytes : List ℕ) (sector : ℕ) → bytes ≡ bytes_at size area sector → size ≤ length bytes
    → fat_part size area sector ≡ Ok (u32s_of bytes)
fat_part_whole size area bytes sector there whole =
    let more : size ≤ length (bytes_at size area sector) = subst (λ (xs : List ℕ). size ≤ length xs) there whole in
    rw there (grind (arith, more))

-- ---- a file

module _ (file area entries : List ℕ) (header : Header) (read : header_of file ≡ Ok header) (after : area ≡ area_of header file)
    (block : entries ≡ header_entries file) where
  abbrev pub Lists : Result (List ℕ) SectorFault → Type 0
  Lists = Difat header.sector_size area entries header.first_difat

  abbrev pub fat_of : List ℕ → Result (List ℕ) SectorFault
  fat_of listed = fat_up_to (div_ceil (length area) header.sector_size) header.sector_size area listed

  abbrev pub with_fat : List ℕ → Opened
  with_fat fat = record { header = header; area = area; fat = fat }

  opens : (listed : Result (List ℕ) SectorFault) (result : Result Opened SectorFault) → Lists listed
      → result ≡ (listed >>= λ l. fat_of l >>= λ fat. Ok (with_fat fat)) → OpensSectors file result
  opens listed result l e =
      let Goal : List ℕ → List ℕ → Type 0 = λ xs es. Difat header.sector_size xs es header.first_difat listed in
      let lists : Goal (area_of header file) (header_entries file) =
      subst (λ (es : List ℕ). Goal (area_of header file) es) block (subst (λ (xs : List ℕ). Goal xs entries) after l) in
      let answer : result ≡ (listed >>= opened_by header (area_of header file)) =
      e ∙ ap (λ (xs : List ℕ). listed >>= opened_by header xs) after in
      let by : OpensBy (Ok header) file result = (listed, lists, answer) in
      subst (λ (r : Result Header SectorFault). OpensBy r file result) (sym read) by

  pub opens_ok : (listed fat : List ℕ) → Lists (Ok listed) → Ok fat ≡ fat_of listed → OpensSectors file (Ok (with_fat fat))
  opens_ok listed fat l f = opens (Ok listed) (Ok (with_fat fat)) l (ap (λ (r : Result (List ℕ) SectorFault). r >>= λ fat. Ok (with_fat fat)) f)

  pub opens_difat_fails : (e : SectorError) → Fails e Lists → Fails e (OpensSectors file)
  opens_difat_fails (errors.Fault f) h = opens (Err f) (Err f) h refl
  opens_difat_fails errors.Memory h = tt

  pub opens_fat_fails : (listed : List ℕ) (e : SectorError) → Lists (Ok listed) → Fails e (λ r. r ≡ fat_of listed) → Fails e (OpensSectors file)
  opens_fat_fails listed (errors.Fault f) l h = opens (Ok listed) (Err f) l (ap (λ (r : Result (List ℕ) SectorFault). r >>= λ fat. Ok (with_fat fat)) h)
  opens_fat_fails listed errors.Memory l h = tt
