use Rattle.std.proofs.Common.{sym, ap, subst, map, length, ◌∙◌, arith}
use Rattle.std.specs.Prelude.{is_some, String, ◌≡◌, ℕ, Some}
use Rattle.std.specs.Option.{option_copied}
use Rattle.std.specs.Global.{Global}
use Rattle.std.specs.BTreeMap.{get_by_text}
use Rattle.std.specs.String.{string_bytes}
use Rattle.xls_data.specs.Data.{is_nothing}
use Rattle.xls_data.specs.Sheets.{sheet_content}
use Rattle.xls_data.specs.contracts.values.DataPartialEq.TheImpl as data_impl
use Rattle.xls_meaning.specs.Reading.{last_named, paired}
use Rattle.xls_view.proofs.IndexLemmas.{looked, place_within}
use Rattle.xls_book.proofs.WorksheetLemmas.{Listing, listing_more, listing_end, entry_holds, entry_shows, not_past}
use Rattle.xls_book.proofs.ranges.list_worksheets.Goals as goal

pub loop-name-preserved-in-Continue-1 : goal.loop-name-preserved-in-Continue-1
loop-name-preserved-in-Continue-1 c =
    let l = c.loop-name in
    let sheets = c.args.sheets.now in
    let contents = c.args.contents.now in
    let named = last_named (paired (map sheet_content sheets) contents) in
    let listing = subst (λ rest. Listing data_impl.ghosts.eq is_nothing named c.args.index.now.entries l.list.items rest) c.in-Some.ensures.steps l.invariant.2 in
    let found = entry_holds (λ (e : String Global × ℕ). get_by_text c.args.index.now (string_bytes e.0) ≡ Some e.1) c.args.index.now.entries listing.prefix (c.in-Some.name.now, c.in-Some.place.now) c.next.new.self listing.whole c.iter-name-items.ensures.found in
    let shows = entry_shows sheets contents c.args.index.now c.requires.index c.requires.each (c.in-Some.name.now, c.in-Some.place.now) found in
    let at = c.get.ensures.lookup in
    let view = sym (looked contents c.in-Some.place.now c.get.result at.0 at.1) ∙ ap option_copied c.in-Some-get.is in
    let pushed = c.in_ok-push_worksheet.ensures in
    (tt, tt, listing_more data_impl.ghosts.eq is_nothing named c.args.index.now.entries l.list.items c.push_worksheet.new.list.items (c.in-Some.name.now, c.in-Some.place.now) c.next.new.self pushed.0 c.in-Some-get.content.now listing pushed.1 (pushed.2 ∙ c.as_str.ensures.value) (shows ∙ view) pushed.3)

-- each entry has a content at its place
pub loop-name-preserved : goal.loop-name-preserved
loop-name-preserved c =
    let l = c.loop-name in
    let sheets = c.args.sheets.now in
    let contents = c.args.contents.now in
    let named = last_named (paired (map sheet_content sheets) contents) in
    let listing = subst (λ rest. Listing data_impl.ghosts.eq is_nothing named c.args.index.now.entries l.list.items rest) c.in-Some.ensures.steps l.invariant.2 in
    let found = entry_holds (λ (e : String Global × ℕ). get_by_text c.args.index.now (string_bytes e.0) ≡ Some e.1) c.args.index.now.entries listing.prefix (c.in-Some.name.now, c.in-Some.place.now) c.next.new.self listing.whole c.iter-name-items.ensures.found in
    let within = place_within sheets (string_bytes c.in-Some.name.now) c.in-Some.place.now (sym (c.requires.index (string_bytes c.in-Some.name.now)) ∙ found) in
    absurd (not_past c.in-Some.place.now (length contents) (omega (arith, within, c.requires.each)) (ap is_some (sym c.in_default.is) ∙ c.get.ensures.lookup.0))

pub returns : goal.returns
returns c =
    let l = c.loop-name in
    listing_end c.args.sheets.now c.args.contents.now c.args.index.now c.requires.index c.requires.each data_impl.ghosts.eq is_nothing l.list.items l.name-iterator c.in-None.ensures.steps.0 l.invariant.2 c.iter-name-items.ensures.ordered
