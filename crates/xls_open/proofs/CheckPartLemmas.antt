-- A sheet part as far as it was checked.
use Rattle.std.proofs.Common.{◌≡◌, ℕ, ◌+◌, ◌<◌, List, [], ◌∷◌, ◌++◌, refl, sym, ap, subst, ◌∙◌, append_assoc, arith, Option, Some, None, Result, Ok, Err}
use Rattle.std.specs.Option.{option_or}
use Rattle.std.proofs.lemmas.List.{append-nil, map-append}
use Rattle.xls_stream.specs.Stream.{Group}
use Rattle.xls_stream.specs.Counting.{From, found_from}
use Rattle.xls_stream.specs.Walks.{IsBytes}
use Rattle.xls_stream.specs.Listing.{Kept, kept_group, kept_of, IsPart}
use Rattle.xls_stream.specs.declared.part.Part.{Part}
use Rattle.xls_stream.proofs.Outlines.{has_from}
use Rattle.xls_record.specs.declared.error.XlsError.{XlsError}
use Rattle.xls_record.specs.declared.error.XlsError.TheVariants as errors
use Rattle.xls_biff.specs.Outer.{Keeps, Over, CutShort}
use Rattle.xls_biff.specs.SheetTable.{SheetRecord, weight_of}
use Rattle.xls_meaning.specs.Order.{map_with_earlier, first_of}
use Rattle.xls_meaning.specs.GlobalsTable.{fault_of}
use Rattle.xls_meaning.specs.SheetTable.{kept_line}
use Rattle.xls_meaning.specs.Faults.{weight_from, weight_in, weight_fault, kept_fault, cut_fault, part_places}
use Rattle.xls_open.specs.CheckSteps.{ChecksPart}
use Rattle.xls_open.specs.Steps.{weight_left}
use Rattle.xls_meaning.specs.Rules.{Rules}
use Rattle.xls_meaning.proofs.OrderLemmas.{first_at, none_push, first_after}
use Rattle.xls_open.proofs.PartLemmas.{part_from, keeps_from, over_from, cut_from, keeps_bytes, kept_push, weight_push, has_room, no_room, light, heavy}
use Rattle.xls_meaning.specs.Settings.{Settings}

-- the records so far have no fault, and there may be so many more cells
pub record CheckedPart (part rest : List ℕ) (depth : ℕ) (rules : Rules) (s : Settings) (room : ℕ) : Type 0 where
  pub groups : List Group
  pub joins : (more : List Group) (cut : Option Part) → From (found_from depth) rest more cut
      → From (found_from 0) part (groups ++ more) cut
  pub part_fits : IsBytes part
  pub fits : IsBytes rest
  pub faultless : first_of (map_with_earlier (kept_fault rules s.cells) [] (kept_of groups)) ≡ None
  pub weighed : room + weight_in s.cells (kept_of groups) ≡ rules.max_cells

pub part_nothing : (part : List ℕ) (rules : Rules) (s : Settings) → IsBytes part
    → CheckedPart part part 0 rules s rules.max_cells
part_nothing part rules s fits = record {
  groups = [];
  joins = λ more cut f. f;
  part_fits = fits;
  fits = fits;
  faultless = refl;
  weighed = omega arith;
}

module _ (part rest after : List ℕ) (depth now : ℕ) (rules : Rules) (s : Settings) (room : ℕ) (g : Group) (p : CheckedPart part rest depth rules s room) (k : Keeps rest depth g after now) where
  joined : (more : List Group) (cut : Option Part) → From (found_from now) after more cut
      → From (found_from 0) part (p.groups ++ g ∷ more) cut
  joined more cut f = p.joins (g ∷ more) cut (keeps_from rest depth g after now more cut k f)

  abbrev old : List Kept
  old = kept_of p.groups

  abbrev one : Kept
  one = kept_group g

  abbrev line : Result SheetRecord XlsError
  line = kept_line s.cells one

  pub part_more : (left : ℕ) (input : SheetRecord) → line ≡ Ok input
      → weight_left rules.max_cells room (weight_of input) ≡ Ok left → CheckedPart part after now rules s left
  part_more left input is weighs =
      let new : kept_of (p.groups ++ g ∷ []) ≡ old ++ one ∷ [] = kept_push p.groups g in
      let fits = has_room rules.max_cells room (weight_of input) left weighs in
      let weight : weight_from line ≡ weight_of input = ap weight_from is in
      let heavier = weight_push s old one in
      let had = p.weighed in
      let sum : left + weight_in s.cells (old ++ one ∷ []) ≡ rules.max_cells = omega (arith, fits, heavier, had, weight) in
      let none : kept_fault rules s.cells old one ≡ None =
      ap (λ (r : Result SheetRecord XlsError). option_or (fault_of r) (weight_fault rules s.cells (old ++ one ∷ []))) is
      ∙ light rules s (old ++ one ∷ []) (omega (arith, sum)) in
      record {
        groups = p.groups ++ g ∷ [];
        joins = λ more cut f. subst (λ (x : List Group). From (found_from 0) part x cut) (sym (append_assoc p.groups (g ∷ []) more)) (joined more cut f);
        part_fits = p.part_fits;
        fits = keeps_bytes rest depth g after now k p.fits;
        faultless = rw new (none_push (kept_fault rules s.cells) old one p.faultless none);
        weighed = ap (λ (ks : List Kept). left + weight_in s.cells ks) new ∙ sum;
      }

  record_fault : (e : XlsError) → kept_fault rules s.cells old one ≡ Some e → ChecksPart (IsPart part) rules s (Err e)
  record_fault e f =
      let others = has_from (found_from now) after (keeps_bytes rest depth g after now k p.fits) in
      let all = p.groups ++ g ∷ others.0 in
      let kept : kept_of all ≡ old ++ one ∷ kept_of others.0 = map-append kept_group p.groups (g ∷ others.0) in (
        kept_of all,
        others.1,
        (all, part_from part all others.1 p.part_fits (joined others.0 others.1 others.2), refl),
        ap (λ (l : List Kept). first_of (part_places rules s.cells l others.1)) kept
            ∙ first_at (kept_fault rules s.cells) old one (kept_of others.0) (cut_fault others.1 ∷ []) e p.faultless f,
      )

  -- a record's own fault
  pub record_refused : (e : XlsError) → line ≡ Err e → ChecksPart (IsPart part) rules s (Err e)
  record_refused e f =
      record_fault e (ap (λ (r : Result SheetRecord XlsError). option_or (fault_of r) (weight_fault rules s.cells (old ++ one ∷ []))) f)

  -- too many cells
  pub weight_refused : (e : XlsError) (input : SheetRecord) → line ≡ Ok input
      → weight_left rules.max_cells room (weight_of input) ≡ Err e → ChecksPart (IsPart part) rules s (Err e)
  weight_refused e input is weighs =
      let n = no_room rules.max_cells room (weight_of input) e weighs in
      let weight : weight_from line ≡ weight_of input = ap weight_from is in
      let heavier = weight_push s old one in
      let had = p.weighed in
      let less = n.0 in
      let over : rules.max_cells < weight_in s.cells (old ++ one ∷ []) = omega (arith, heavier, had, less, weight) in
      record_fault e
      (ap (λ (r : Result SheetRecord XlsError). option_or (fault_of r) (weight_fault rules s.cells (old ++ one ∷ []))) is
      ∙ heavy rules s (old ++ one ∷ []) over ∙ ap (λ (x : XlsError). Some x) (sym n.1))

module _ (part rest : List ℕ) (depth : ℕ) (rules : Rules) (s : Settings) (room : ℕ) (p : CheckedPart part rest depth rules s room) where
  pub part_cut : (e : XlsError) → CutShort rest depth e → ChecksPart (IsPart part) rules s (Err e)
  part_cut e c = (
    kept_of (p.groups ++ []),
    Some c.part,
    (
      p.groups ++ [],
      part_from part (p.groups ++ []) (Some c.part) p.part_fits (p.joins [] (Some c.part) (cut_from rest depth e c)),
      refl,
    ),
    ap (λ (l : List Group). first_of (part_places rules s.cells (kept_of l) (Some c.part))) (append-nil p.groups)
        ∙ first_after (map_with_earlier (kept_fault rules s.cells) [] (kept_of p.groups)) (Some (errors.EoStream c.part) ∷ []) p.faultless
        ∙ ap (λ (x : XlsError). Some x) (sym c.error),
  )

  pub part_end : Over rest depth → ChecksPart (IsPart part) rules s (Ok tt)
  part_end o = (
    kept_of (p.groups ++ []),
    None,
    (p.groups ++ [], part_from part (p.groups ++ []) None p.part_fits (p.joins [] None (over_from rest depth p.fits o)), refl),
    ap (λ (l : List Group). first_of (part_places rules s.cells (kept_of l) None)) (append-nil p.groups)
        ∙ first_after (map_with_earlier (kept_fault rules s.cells) [] (kept_of p.groups)) (None ∷ []) p.faultless,
  )
