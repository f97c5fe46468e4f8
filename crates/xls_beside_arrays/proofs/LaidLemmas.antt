-- Things that are laid one after another.
use Rattle.std.proofs.Common.{◌≡◌, ℕ, List, [], ◌∷◌, refl, sym, ap, subst, ◌∙◌, Option}
use Rattle.std.specs.List.{fold}
use Rattle.xls_open.specs.Globals.{State}
use Rattle.xls_beside.specs.declared.parts.SheetPart.{SheetPart}
use Rattle.xls_arrays.specs.declared.items.Span.{Span}
use Rattle.xls_arrays.specs.declared.options.Options.{Options}
use Rattle.xls_beside_arrays.specs.Arrays.{Arrays, after_text, nothing, with_damage_item, with_item, with_text}
use Rattle.xls_beside_arrays.specs.Arrays.{with_four, with_three, with_two}
use Rattle.xls_beside_arrays.specs.Damages.{damage_item, with_damage}
use Rattle.xls_beside_arrays.specs.Filled.{KeepsRooms, Lays, LaysText, RoomsHold}
use Rattle.xls_beside_arrays.specs.Opened.{IsOfBook, IsOfSheet, IsOpened, IsSheetOpened, LaysHeld, things_if}
use Rattle.xls_beside_arrays.specs.declared.damage.Damaged.{Damaged}
use Rattle.xls_beside_arrays.specs.declared.items.DamageItem.{DamageItem}
use Rattle.xls_beside_arrays.specs.declared.opening.OpenedSheet.{OpenedSheet}
use Rattle.xls_beside_arrays.specs.declared.rooms.Rooms.{Rooms}

-- the same arrays
pub keeps-refl : {X : Type 0} (r : Rooms X) → KeepsRooms r r
keeps-refl r = record { items = refl; damages = refl; texts = refl }

pub keeps-trans : {X : Type 0} {r s t : Rooms X} → KeepsRooms r s → KeepsRooms s t → KeepsRooms r t
keeps-trans a b = record { items = a.items ∙ b.items; damages = a.damages ∙ b.damages; texts = a.texts ∙ b.texts }

-- ---- one after another

-- after what was laid before, these things are to be laid in all, and those are left
pub record IsPartly {X Y : Type 0} (step : Arrays X → Y → Arrays X) (all left : List Y) (before now : Rooms X) : Type 0 where
  pub same : KeepsRooms before now
  pub laid : (a : Arrays X) → RoomsHold before a → (b : Arrays X) × RoomsHold now b × (fold step b left ≡ fold step a all)

pub partly-first : {X Y : Type 0} (step : Arrays X → Y → Arrays X) (all left : List Y) (r : Rooms X) → left ≡ all
    → IsPartly step all left r r
partly-first step all left r is = record { same = keeps-refl r; laid = λ a h. (a, h, ap (fold step a) is) }

pub partly-next : {X Y : Type 0} (step : Arrays X → Y → Arrays X) {all left rest : List Y} {y : Y} {before now next : Rooms X}
    → IsPartly step all left before now → left ≡ y ∷ rest → KeepsRooms now next → Lays now next (λ a. step a y)
    → IsPartly step all rest before next
partly-next step {y = y} p is same lays =
    record {
      same = keeps-trans p.same same;
      laid = λ a h.
          let b = p.laid a h in
          (step b.0 y, lays b.0 b.1, sym (ap (fold step b.0) is) ∙ b.2);
    }

pub partly-all : {X Y : Type 0} (step : Arrays X → Y → Arrays X) {all left : List Y} {before now : Rooms X}
    → IsPartly step all left before now → left ≡ [] → Lays before now (λ a. fold step a all)
partly-all step {all = all} {now = now} p is =
    λ a h.
    let b = p.laid a h in
    let e : b.0 ≡ fold step a all = sym (ap (fold step b.0) is) ∙ b.2 in
    subst (RoomsHold now) e b.1

-- ---- an item with its texts

module _ {X : Type 0} where
  pub lays-then : {r s t : Rooms X} {text : List ℕ} {span : Span} (step : Span → Arrays X → Arrays X) → LaysText r s text span
      → Lays s t (step span) → Lays r t (after_text step text)
  lays-then {t = t} {text = text} step lays then =
      λ a h.
      let laid = lays a h in
      subst (λ (at : Span). RoomsHold t (step at (with_text a text))) laid.1 (then (with_text a text) laid.0)

  lays-made : {r s : Rooms X} {made item : X} → made ≡ item → Lays r s (λ a. with_item a made) → Lays r s (λ a. with_item a item)
  lays-made {r} {s} is lays = subst (λ (x : X). Lays r s (λ a. with_item a x)) is lays

  pub lays-two : {r s t u : Rooms X} {one two : List ℕ} {first second : Span} {made : X} (item : Span → Span → X)
      → LaysText r s one first → LaysText s t two second → made ≡ item first second → Lays t u (λ a. with_item a made)
      → Lays r u (with_two item one two)
  lays-two {two = two} {first = first} item one_laid two_laid is then =
      lays-then (λ (f : Span). after_text (λ (g : Span) (a : Arrays X). with_item a (item f g)) two) one_laid
      (lays-then (λ (g : Span) (a : Arrays X). with_item a (item first g)) two_laid (lays-made is then))

  pub lays-three : {r s t u v : Rooms X} {one two three : List ℕ} {first second third : Span} {made : X} (item : Span → Span → Span → X)
      → LaysText r s one first → LaysText s t two second → LaysText t u three third → made ≡ item first second third
      → Lays u v (λ a. with_item a made) → Lays r v (with_three item one two three)
  lays-three {two = two} {three = three} {first = first} item one_laid two_laid three_laid is then =
      lays-then (λ (f : Span). with_two (item f) two three) one_laid (lays-two (item first) two_laid three_laid is then)

  pub lays-four : {r s t u v w : Rooms X} {one two three four : List ℕ} {first second third fourth : Span} {made : X}
      (item : Span → Span → Span → Span → X) → LaysText r s one first → LaysText s t two second → LaysText t u three third
      → LaysText u v four fourth → made ≡ item first second third fourth → Lays v w (λ a. with_item a made)
      → Lays r w (with_four item one two three four)
  lays-four {two = two} {three = three} {four = four} {first = first} item one_laid two_laid three_laid four_laid is then =
      lays-then (λ (f : Span). with_three (item f) two three four) one_laid
      (lays-three (item first) two_laid three_laid four_laid is then)

  -- a damaged record
  pub lays-damage : {r s t : Rooms X} {why : List ℕ} {span : Span} {made : DamageItem} (d : Damaged) → LaysText r s why span
      → made ≡ damage_item d span → Lays s t (λ a. with_damage_item a made) → Lays r t (λ a. with_damage a d why)
  lays-damage {r} {s} {t} d lays is then =
      lays-then (λ (at : Span) (b : Arrays X). with_damage_item b (damage_item d at)) lays
      (subst (λ (x : DamageItem). Lays s t (λ a. with_damage_item a x)) is then)

-- ---- what a stream holds

pub sheet-held : {X Y : Type 0} (step : Arrays X → Y → Arrays X) (things : State → List ℕ → SheetPart → List Y)
    {options : Options} {stream : List ℕ} (sheet : OpenedSheet) {r s : Rooms X} → IsSheetOpened options stream sheet
    → Lays r s (λ a. fold step a (things_if (things sheet.globals stream) sheet.part))
    → LaysHeld (IsOfSheet step things options stream) r s
sheet-held {X} {Y} step things {stream = stream} sheet opened lays =
    λ h. (
      fold step nothing (things_if (things sheet.globals stream) sheet.part),
      record {
        globals = sheet.globals;
        opened = opened.opened;
        there = opened.there;
        arrays = ap (λ (part : Option SheetPart). fold step nothing (things_if (things sheet.globals stream) part)) opened.part;
      },
      lays nothing h,
    )

pub book-held : {X : Type 0} (arrays_of : State → List ℕ → Arrays X) {options : Options} {stream : List ℕ} {globals : State}
    {r s : Rooms X} (step : Arrays X → Arrays X) → IsOpened options stream globals → step nothing ≡ arrays_of globals stream → Lays r s step
    → LaysHeld (IsOfBook arrays_of options stream) r s
book-held arrays_of {globals = globals} step opened is lays =
    λ h. (step nothing, record { globals = globals; opened = opened; arrays = is }, lays nothing h)
