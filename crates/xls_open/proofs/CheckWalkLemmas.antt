-- The walk over the globals with an item for each record.
use Rattle.std.proofs.Common.{◌≡◌, ◌≢◌, ℕ, List, [], ◌∷◌, ◌++◌, refl, sym, subst, ◌∙◌, append_assoc, arith, true, false, Option, Some, None}
use Rattle.std.specs.Prelude.{◌==◌}
use Rattle.std.specs.List.{filter, AllZip}
use Rattle.std.proofs.lemmas.List.{append-nil}
use Rattle.std.proofs.lemmas.List.Elements.{filter-append}
use Rattle.xls_stream.specs.Stream.{Group, Begins}
use Rattle.xls_stream.specs.Counting.{From, globals_of}
use Rattle.xls_stream.specs.Cut.{Cut}
use Rattle.xls_stream.specs.Walks.{IsBytes}
use Rattle.xls_stream.specs.Listing.{is_globals_type, Item, IsItem, Holds}
use Rattle.xls_stream.specs.declared.part.Part.{Part}
use Rattle.xls_stream.proofs.Outlines.{run_bytes, has_from}
use Rattle.xls_stream.proofs.HoldingLemmas.{has_items}
use Rattle.xls_open.proofs.WalkLemmas.{globals_from, begins_from, eof_from, end_from, cut_from}

pub apart : (m n : ℕ) → m ≢ n → (m == n) ≡ false
apart m n h = grind arith

pub zip_append : (R : Group → Item → Type 0) (gs hs : List Group) (is js : List Item) → AllZip R gs is
    → AllZip R hs js → AllZip R (gs ++ hs) (is ++ js)
zip_append R [] hs [] js a b = b
zip_append R [] hs (i ∷ is) js a b = absurd a
zip_append R (g ∷ gs) hs [] js a b = absurd a
zip_append R (g ∷ gs) hs (i ∷ is) js a b = (a.0, zip_append R gs hs is js a.1 b)

pub filter_here : (gs more : List Group) (g : Group) → is_globals_type g ≡ true
    → filter is_globals_type (gs ++ g ∷ more) ≡ filter is_globals_type gs
    ++ g ∷ filter is_globals_type more
filter_here gs more g t = filter-append is_globals_type gs (g ∷ more) ∙ rw t refl

pub filter_not : (gs : List Group) (g : Group) → is_globals_type g ≡ false
    → filter is_globals_type (gs ++ g ∷ []) ≡ filter is_globals_type gs
filter_not gs g t = filter-append is_globals_type gs (g ∷ [])
    ∙ rw t (append-nil (filter is_globals_type gs))

-- the stream up to the rest, as items
pub record Passed (stream rest : List ℕ) (items : List Item) : Type 0 where
  pub groups : List Group
  pub joins : (more : List Group) (cut : Option Part) → From globals_of rest more cut
      → From globals_of stream (groups ++ more) cut
  pub whole : IsBytes stream
  pub fits : IsBytes rest
  pub are : AllZip (IsItem stream) (filter is_globals_type groups) items

pub passed_nothing : (stream : List ℕ) → IsBytes stream → Passed stream stream []
passed_nothing stream fits = record {
  groups = [];
  joins = λ more cut f. f;
  whole = fits;
  fits = fits;
  are = tt;
}

-- ---- the next record

module _ (stream rest after : List ℕ) (items : List Item) (g : Group) (p : Passed stream rest items) (b : Begins rest g after) (n : g.typ ≡ 0x000A → ⊥) where
  joined : (more : List Group) (cut : Option Part) → From globals_of after more cut
      → From globals_of stream (p.groups ++ g ∷ more) cut
  joined more cut f = p.joins (g ∷ more) cut (begins_from rest g after more cut b (apart g.typ 10 n) f)

  pushed : (more : List Group) (cut : Option Part) → From globals_of after more cut
      → From globals_of stream ((p.groups ++ g ∷ []) ++ more) cut
  pushed more cut f =
      subst (λ (x : List Group). From globals_of stream x cut) (sym (append_assoc p.groups (g ∷ []) more)) (joined more cut f)

  fits_after : IsBytes after
  fits_after = run_bytes rest (g ∷ []) after (after, b, refl) p.fits

  -- it has an item
  pub passed_item : (i : Item) → is_globals_type g ≡ true → IsItem stream g i → Passed stream after (items ++ i ∷ [])
  passed_item i t is = record {
    groups = p.groups ++ g ∷ [];
    joins = pushed;
    whole = p.whole;
    fits = fits_after;
    are = subst (λ (x : List Group). AllZip (IsItem stream) x (items ++ i ∷ [])) (sym (filter_here p.groups [] g t))
        (zip_append (IsItem stream) (filter is_globals_type p.groups) (g ∷ []) items (i ∷ []) p.are (is, tt));
  }

  -- it has none
  pub passed_other : is_globals_type g ≡ false → Passed stream after items
  passed_other t = record {
    groups = p.groups ++ g ∷ [];
    joins = pushed;
    whole = p.whole;
    fits = fits_after;
    are = subst (λ (x : List Group). AllZip (IsItem stream) x items) (sym (filter_not p.groups g t)) p.are;
  }

  -- the stream holds its item after those before it
  pub holds_at : (i : Item) → is_globals_type g ≡ true → IsItem stream g i
      → (js : List Item) × (cut : Option Part) × Holds stream (items ++ i ∷ js) cut
  holds_at i t is =
      let others = has_from globals_of after fits_after in
      let js = has_items stream p.whole (filter is_globals_type others.0) in (
        js.0,
        others.1,
        record {
          groups = p.groups ++ g ∷ others.0;
          globals = globals_from stream (p.groups ++ g ∷ others.0) others.1 p.whole (joined others.0 others.1 others.2);
          items_are = subst (λ (x : List Group). AllZip (IsItem stream) x (items ++ i ∷ js.0)) (sym (filter_here p.groups others.0 g t))
              (zip_append (IsItem stream) (filter is_globals_type p.groups) (g ∷ filter is_globals_type others.0) items (i ∷ js.0) p.are (is, js.1));
        },
      )

-- ---- the end

module _ (stream rest : List ℕ) (items : List Item) (p : Passed stream rest items) where
  ended : (cut : Option Part) → From globals_of rest [] cut → Holds stream items cut
  ended cut f = record {
    groups = p.groups;
    globals = globals_from stream p.groups cut p.whole (subst (λ (x : List Group). From globals_of stream x cut) (append-nil p.groups) (p.joins [] cut f));
    items_are = p.are;
  }

  pub passed_cut : (part : Part) → Cut rest part → Holds stream items (Some part)
  passed_cut part k = ended (Some part) (cut_from rest part k)

  pub passed_eof : (g : Group) (after : List ℕ) → Begins rest g after → g.typ ≡ 0x000A → Holds stream items None
  passed_eof g after b e = ended None (eof_from rest g after b e p.fits)

  pub passed_end : rest ≡ [] → Holds stream items None
  passed_end e = ended None (end_from rest e)
