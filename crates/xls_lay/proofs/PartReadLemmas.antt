-- A sheet part as far as it was read.
use Rattle.std.proofs.Common.{◌≡◌, ℕ, List, [], ◌∷◌, ◌++◌, refl, sym, ap, subst, ◌∙◌, append_assoc, Option, Some, None}
use Rattle.std.proofs.lemmas.List.{append-nil, map-append}
use Rattle.xls_stream.specs.Stream.{Group, Run, IsBody}
use Rattle.xls_stream.specs.Counting.{From, found_from}
use Rattle.xls_stream.specs.Walks.{IsBytes}
use Rattle.xls_stream.specs.Listing.{Kept, kept_group, kept_of, ListEntry, sheet_entry, IsPart}
use Rattle.xls_stream.specs.declared.part.Part.{Part}
use Rattle.xls_stream.proofs.HoldingLemmas.{one_part}
use Rattle.xls_record.specs.declared.error.XlsError.{XlsError}
use Rattle.xls_biff.specs.Outer.{Keeps, Over, CutShort}
use Rattle.xls_open.proofs.PartLemmas.{part_from, keeps_from, over_from, cut_from, keeps_bytes}
use Rattle.xls_lay.specs.Pushing.{EndsInSheet, AddsKept}
use Rattle.xls_lay.proofs.PushLemmas.{same_prefix, same_last}

-- the sheet that a list ends in has these records more
abbrev pub Grown : List ListEntry → List Kept → List ListEntry → Type 0
Grown old more new =
    (prefix : List ListEntry) (state kind : ℕ) (name : List ℕ) (kept : List Kept)
    → old ≡ prefix ++ sheet_entry state kind name kept ∷ [] → new ≡ prefix ++ sheet_entry state kind name (kept ++ more) ∷ []

-- the sheet has the records so far, and these bytes are left
pub record PartSoFar (old now : List ListEntry) (part rest : List ℕ) (depth : ℕ) : Type 0 where
  pub groups : List Group
  pub joins : (more : List Group) (cut : Option Part) → From (found_from depth) rest more cut
      → From (found_from 0) part (groups ++ more) cut
  pub part_fits : IsBytes part
  pub fits : IsBytes rest
  pub ends : EndsInSheet now
  pub grown : Grown old (kept_of groups) now

pub part_none : (old : List ListEntry) (part : List ℕ) → EndsInSheet old → IsBytes part → PartSoFar old old part part 0
part_none old part s fits = record {
  groups = [];
  joins = λ more cut f. f;
  part_fits = fits;
  fits = fits;
  ends = s;
  grown = λ prefix state kind name kept e. e ∙ ap (λ (ks : List Kept). prefix ++ sheet_entry state kind name ks ∷ []) (sym (append-nil kept));
}

grown_more : (old now new : List ListEntry) (groups : List Group) (g : Group) → Grown old (kept_of groups) now → AddsKept now new g.typ g.body
    → Grown old (kept_of (groups ++ g ∷ [])) new
grown_more old now new groups g h a = λ prefix state kind name kept e.
    let same : a.prefix ++ sheet_entry a.state a.kind a.name a.kept ∷ [] ≡ prefix ++ sheet_entry state kind name (kept ++ kept_of groups) ∷ [] =
    sym a.before ∙ h prefix state kind name kept e in
    let f : a.prefix ≡ prefix = same_prefix a.prefix prefix (sheet_entry a.state a.kind a.name a.kept) (sheet_entry state kind name (kept ++ kept_of groups)) same in
    let s : sheet_entry a.state a.kind a.name a.kept ≡ sheet_entry state kind name (kept ++ kept_of groups) =
    same_last a.prefix prefix (sheet_entry a.state a.kind a.name a.kept) (sheet_entry state kind name (kept ++ kept_of groups)) same in
    let state_is : a.state ≡ state = cc in
    let kind_is : a.kind ≡ kind = cc in
    let name_is : a.name ≡ name = cc in
    let kept_is : a.kept ≡ kept ++ kept_of groups = cc in
    let one = kept_group g in
    let all : a.kept ++ one ∷ [] ≡ kept ++ kept_of (groups ++ g ∷ []) =
    ap (λ (x : List Kept). x ++ one ∷ []) kept_is ∙ append_assoc kept (kept_of groups) (one ∷ [])
    ∙ ap (λ (x : List Kept). kept ++ x) (sym (map-append kept_group groups (g ∷ []))) in
    a.after
    ∙ ap (λ (x : List ListEntry). x ++ sheet_entry a.state a.kind a.name (a.kept ++ one ∷ []) ∷ []) f
    ∙ ap (λ (x : ℕ). prefix ++ sheet_entry x a.kind a.name (a.kept ++ one ∷ []) ∷ []) state_is
    ∙ ap (λ (x : ℕ). prefix ++ sheet_entry state x a.name (a.kept ++ one ∷ []) ∷ []) kind_is
    ∙ ap (λ (x : List ℕ). prefix ++ sheet_entry state kind x (a.kept ++ one ∷ []) ∷ []) name_is
    ∙ ap (λ (x : List Kept). prefix ++ sheet_entry state kind name x ∷ []) all

module _ (old now : List ListEntry) (part rest : List ℕ) (depth : ℕ) (p : PartSoFar old now part rest depth) where
  pub part_more : (after : List ℕ) (deeper : ℕ) (g : Group) (new : List ListEntry) → Keeps rest depth g after deeper → AddsKept now new g.typ g.body
      → PartSoFar old new part after deeper
  part_more after deeper g new k a = record {
    groups = p.groups ++ g ∷ [];
    joins = λ more cut f.
        subst (λ (x : List Group). From (found_from 0) part x cut) (sym (append_assoc p.groups (g ∷ []) more))
        (p.joins (g ∷ more) cut (keeps_from rest depth g after deeper more cut k f));
    part_fits = p.part_fits;
    fits = keeps_bytes rest depth g after deeper k p.fits;
    ends = record { prefix = a.prefix; state = a.state; kind = a.kind; name = a.name; kept = a.kept ++ record { typ = g.typ; body = g.body } ∷ []; whole = a.after };
    grown = grown_more old now new p.groups g p.grown a;
  }

  part_is : (cut : Option Part) → From (found_from depth) rest [] cut → IsPart part (kept_of p.groups) cut
  part_is cut f =
      (p.groups, part_from part p.groups cut p.part_fits (subst (λ (x : List Group). From (found_from 0) part x cut) (append-nil p.groups) (p.joins [] cut f)), refl)

  -- the end: these are the records of the part
  pub part_all : Over rest depth → (kept : List Kept) → IsPart part kept None → Grown old kept now
  part_all o kept h =
      let same = one_part part p.part_fits (kept_of p.groups) kept None None (part_is None (over_from rest depth p.fits o)) h in
      subst (λ (x : List Kept). Grown old x now) same.0 p.grown

  -- a part that is whole isn't cut
  pub part_uncut : {X : Type 0} (e : XlsError) → CutShort rest depth e → (kept : List Kept) → IsPart part kept None → X
  part_uncut e c kept h =
      let same = one_part part p.part_fits (kept_of p.groups) kept (Some c.part) None (part_is (Some c.part) (cut_from rest depth e c)) h in
      absurd (let f : Some c.part ≡ None = same.1 in cc)

-- the body of a record has a length of 16 bits
last_fits : (before : List ℕ) (groups : List Group) (g : Group) (after : List ℕ) → Run before (groups ++ g ∷ []) after → IsBody g.body
last_fits before [] g after run = run.1.fits.body
last_fits before (x ∷ groups) g after run = last_fits run.0 groups g after run.2

pub keeps_fits : (rest after : List ℕ) (depth deeper : ℕ) (g : Group) → Keeps rest depth g after deeper → IsBody g.body
keeps_fits rest after depth deeper g k = last_fits rest k.groups g after k.run
