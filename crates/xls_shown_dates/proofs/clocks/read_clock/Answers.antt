use Rattle.std.proofs.Common.{◌≡◌, [], ap, sym, ◌∙◌}
use Rattle.std.specs.Str.{chars}
use Rattle.xls_number_formats.specs.Grammar.{Token}
use Rattle.xls_shown_dates.specs.Fields.{letters, fields, fields_from}
use Rattle.xls_shown_dates.specs.Scans.{scan_all}
use Rattle.xls_shown_dates.proofs.ScanLemmas.{clock_all, behind_step, scan_step}
use Rattle.xls_shown_dates.proofs.clocks.read_clock.Goals as goal

pub items-preserved : goal.items-preserved
items-preserved c =
    let l = c.items in
    let token : Token = (c.in-Some.item, chars c.in-Some.own.now) in
    let left = l.items in
    let next = c.next.new.self in
    let behind = behind_step token next left l.behind c.look_ahead-behind.result (letters l.ahead) (letters c.look_ahead-behind.new.ahead)
    c.in-Some.ensures.steps c.look_ahead-behind.ensures l.invariant.behind l.invariant.ahead in
    record {
      clock = scan_step token next left l.before c.letter_after-before.result l.zeros c.zeros_after-zeros.result c.look_ahead-behind.result c.field_of.result l.clock c.scanned-clock.result _
          c.in-Some.ensures.steps behind.0 c.field_of.ensures c.scanned-clock.ensures c.letter_after-before.ensures c.zeros_after-zeros.ensures l.invariant.clock;
      behind = behind.0;
      ahead = behind.1;
    }

pub returns : goal.returns
returns c =
    let none : c.items.items ≡ [] = c.in_default.ensures.steps.0 in
    sym (ap (λ ts. scan_all c.items.clock (fields_from c.items.before c.items.zeros ts)) none) ∙ c.items.invariant.clock ∙ clock_all (fields c.args.section.now)
