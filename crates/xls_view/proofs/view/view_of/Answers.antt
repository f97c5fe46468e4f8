use Rattle.std.proofs.Common.{◌≡◌, ℕ, List, map, length, refl, sym, ap, subst, ◌∙◌, arith}
use Rattle.std.proofs.lemmas.List.{length-map}
use Rattle.xls_data.specs.Sheets.{SheetContent, sheet_content}
use Rattle.xls_data.specs.declared.sheets.Sheet.{Sheet}
use Rattle.xls_formula.specs.Defined.{named_of}
use Rattle.xls_meaning.specs.Settings.{class_in, classed}
use Rattle.xls_open.specs.Globals.{AreGlobals, IsNaming, listed_of}
use Rattle.xls_open.specs.Workbook.{code_texts, rules_of, rules_under, name_texts}
use Rattle.xls_open.proofs.NamingLemmas.{context_is}
use Rattle.xls_open.proofs.OpenLemmas.{settings_are}
use Rattle.xls_view.specs.Index.{IsIndex}
use Rattle.xls_view.proofs.ViewLemmas.{globals_alike, readable_under, viewed_under}
use Rattle.xls_view.proofs.view.view_of.Goals as goal

as_many : (ls : List (ℕ × SheetContent)) (offsets : List ℕ) (sheets : List Sheet) → offsets ≡ map (λ (q : ℕ × SheetContent). q.0) ls
    → map sheet_content sheets ≡ map (λ (q : ℕ × SheetContent). q.1) ls → length offsets ≡ length sheets
as_many ls offsets sheets e f =
    ap length e ∙ length-map ls (λ (q : ℕ × SheetContent). q.0) ∙ sym (length-map ls (λ (q : ℕ × SheetContent). q.1))
    ∙ ap length (sym f) ∙ length-map sheets sheet_content

pub invariant_of-result : goal.invariant_of-result
invariant_of-result c =
    let rules = rules_under c.args.numbers c.args.options.now in
    let a = globals_alike c.args.numbers c.args.options.now c.args.bytes.now _ (subst (AreGlobals (rules_of c.args.options.now) c.args.bytes.now) (sym c.globals.view_is) c.requires.globals) in
    let naming = subst (λ ls. IsNaming c.globals.inside.version (map listed_of ls) c.globals.inside.refs (map named_of c.globals.inside.names.items) c.in_ok-naming.naming) c.deref-3.ensures.value c.in_ok-naming.ensures in
    let context = context_is rules a.items _ c.in_ok-naming.naming a.state a.faultless naming in
    let classes = c.in_ok-classes.ensures
    ∙ ap (λ fs. map (class_in (classed (map code_texts fs))) c.deref-2.result.now) c.deref.ensures.value
    ∙ ap (map (class_in (classed (map code_texts c.globals.inside.codes.items)))) c.deref-2.ensures.value in (
      λ i. omega (arith, c.type_inv.bytes i),
      as_many (map listed_of c.globals.inside.listed.items) c.in_ok-sheets.offsets.items c.in_ok-sheets.sheets.items c.in_ok-sheets.ensures.1 c.in_ok-sheets.ensures.0,
      subst (IsIndex c.in_ok-index.index) c.deref-4.ensures.value c.in_ok-index.ensures,
      readable_under rules c.args.bytes.now (λ i. omega (arith, c.type_inv.bytes i)) c.requires.forced c.requires.sound _ a _ c.in_ok-sheets.offsets.items
          (settings_are rules a.items _ c.in_ok-classes.classes.items _ a.state classes context) c.in_ok-sheets.ensures.1,
    )

pub returns : goal.returns
returns c =
    let rules = rules_under c.args.numbers c.args.options.now in
    let a = globals_alike c.args.numbers c.args.options.now c.args.bytes.now _ (subst (AreGlobals (rules_of c.args.options.now) c.args.bytes.now) (sym c.globals.view_is) c.requires.globals) in
    let naming = subst (λ ls. IsNaming c.globals.inside.version (map listed_of ls) c.globals.inside.refs (map named_of c.globals.inside.names.items) c.in_ok-naming.naming) c.deref-3.ensures.value c.in_ok-naming.ensures in
    let context = context_is rules a.items _ c.in_ok-naming.naming a.state a.faultless naming in
    let classes = c.in_ok-classes.ensures
    ∙ ap (λ fs. map (class_in (classed (map code_texts fs))) c.deref-2.result.now) c.deref.ensures.value
    ∙ ap (map (class_in (classed (map code_texts c.globals.inside.codes.items)))) c.deref-2.ensures.value in
    rw c.in_ok-functions.ensures
    (viewed_under rules c.args.bytes.now (λ i. omega (arith, c.type_inv.bytes i)) c.requires.forced c.requires.sound _ a _ (map sheet_content c.in_ok-sheets.sheets.items) c.in_ok-sheets.offsets.items (map name_texts c.in_ok-naming.naming.reported.items)
    c.globals.inside.identifiers.items (map code_texts c.globals.inside.codes.items) (settings_are rules a.items _ c.in_ok-classes.classes.items _ a.state classes context) c.in_ok-sheets.ensures.0 c.in_ok-sheets.ensures.1 c.in_ok-naming.ensures.reported refl refl)
