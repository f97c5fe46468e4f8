-- The kept records that are left of a part, after each step of the walk.
use Rattle.std.proofs.Common.{◌≡◌, ℕ, zero, suc, ◌<◌, List, [], ◌∷◌, length, drop, refl, sym, ap, ◌∙◌, arith, inl, inr, Bool, true, false, Option, Some, None}
use Rattle.xls_stream.specs.Stream.{Group}
use Rattle.xls_stream.specs.Walks.{IsBytes, Groups}
use Rattle.xls_stream.specs.Counting.{From, found_from, Found}
use Rattle.xls_stream.specs.Listing.{Kept, kept_group, kept_of, IsPart, IsSheetPart}
use Rattle.xls_stream.specs.declared.part.Part.{Part}
use Rattle.xls_stream.proofs.Ends.{has_groups, one_groups}
use Rattle.xls_stream.proofs.Outlines.{has_from, same_parts}
use Rattle.xls_record.specs.declared.error.XlsError.{XlsError}
use Rattle.xls_biff.specs.Outer.{Keeps, Over, CutShort}
use Rattle.xls_open.specs.Bytes.{are_bytes}
use Rattle.xls_open.proofs.ByteLemmas.{bytes_where, where_bytes}
use Rattle.xls_open.proofs.PartLemmas.{keeps_from, over_from, cut_from, keeps_bytes}
use Rattle.xls_view.specs.Groups.{groups_by, groups_in}
use Rattle.xls_view.specs.SheetContents.{kept_in, kept_at}

-- ---- the groups of bytes

by_test : (bytes : List ℕ) (b : Bool) (e : are_bytes bytes ≡ b) → b ≡ true → Groups bytes (groups_by bytes b e).0 (groups_by bytes b e).1
by_test bytes true e t = (has_groups bytes (bytes_where bytes e)).2
by_test bytes false e t = absurd cc

pub are_groups : (bytes : List ℕ) → IsBytes bytes → Groups bytes (groups_in bytes).0 (groups_in bytes).1
are_groups bytes fits = by_test bytes (are_bytes bytes) refl (where_bytes bytes fits)

-- what any walk finds is what is kept
pub kept_is : (bytes : List ℕ) (depth : ℕ) (groups : List Group) (cut : Option Part) → IsBytes bytes
    → From (found_from depth) bytes groups cut → kept_in bytes depth ≡ kept_of groups
kept_is bytes depth groups cut fits f =
    let g = groups_in bytes in
    let same = one_groups bytes g.0 f.all g.1 f.stop (are_groups bytes fits) f.walk in
    ap (λ (gs : List Group). kept_of (found_from depth gs g.1).0) same.0
    ∙ ap (λ (o : Option Part). kept_of (found_from depth f.all o).0) same.1
    ∙ ap (λ (x : Found). kept_of x.0) f.is

-- ---- steps

pub kept_next : (before : List ℕ) (was : ℕ) (g : Group) (after : List ℕ) (now : ℕ) → IsBytes before → Keeps before was g after now
    → kept_in before was ≡ kept_group g ∷ kept_in after now
kept_next before was g after now fits k =
    let following = keeps_bytes before was g after now k fits in
    let more = has_from (found_from now) after following in
    kept_is before was (g ∷ more.0) more.1 fits (keeps_from before was g after now more.0 more.1 k more.2)
    ∙ ap (λ (ks : List Kept). kept_group g ∷ ks) (sym (kept_is after now more.0 more.1 following more.2))

pub kept_over : (before : List ℕ) (was : ℕ) → IsBytes before → Over before was → kept_in before was ≡ []
kept_over before was fits o = kept_is before was [] None fits (over_from before was fits o)

pub kept_cut : (before : List ℕ) (was : ℕ) (e : XlsError) → IsBytes before → CutShort before was e → kept_in before was ≡ []
kept_cut before was e fits c = kept_is before was [] (Some c.part) fits (cut_from before was e c)

-- of no bytes
pub kept_nothing : (depth : ℕ) → kept_in [] depth ≡ []
unfolding found_from
kept_nothing depth = kept_is [] depth [] None (λ i. omega arith) (record {
  all = [];
  stop = None;
  walk = record { rest = []; run = refl; end = refl };
  is = refl;
})

-- ---- parts

pub part_kept : (part : List ℕ) (kept : List Kept) (cut : Option Part) → IsBytes part → IsPart part kept cut
    → kept_in part 0 ≡ kept
part_kept part kept cut fits p = kept_is part 0 p.0 cut fits ((same_parts part p.0 cut fits).0 p.1) ∙ sym p.2

pub drop_bytes : (bytes : List ℕ) (n : ℕ) → IsBytes bytes → IsBytes (drop n bytes)
drop_bytes bytes zero fits = fits
drop_bytes [] (suc n) fits = λ i. omega arith
drop_bytes (b ∷ bs) (suc n) fits = drop_bytes bs n (λ i. fits (suc i))

drop_past : (bytes : List ℕ) (n : ℕ) → length bytes < n → drop n bytes ≡ []
drop_past bytes zero l = absurd (omega arith)
drop_past [] (suc n) l = refl
drop_past (b ∷ bs) (suc n) l = drop_past bs n (omega arith)

pub sheet_kept : (bytes : List ℕ) (offset : ℕ) (kept : List Kept) (cut : Option Part) → IsBytes bytes
    → IsSheetPart bytes offset kept cut → kept_at bytes offset ≡ kept
sheet_kept bytes offset kept cut fits s = elim s [
  | inl p ↦ part_kept (drop offset bytes) kept cut (drop_bytes bytes offset fits) p.1
  | inr p ↦ ap (λ (x : List ℕ). kept_in x 0) (drop_past bytes offset p.0) ∙ kept_nothing 0 ∙ sym p.1
]
