use Rattle.std.proofs.Common.{sym, ap, ◌∙◌, ◌++◌, ◌-◌, List, ℕ, None, Some}
use Rattle.std.specs.Str.{chars}
use Rattle.xls_strings.specs.Texts.{text_of}
use Rattle.xls_links.specs.declared.items.LinkKind.{LinkKind}
use Rattle.xls_links.specs.Walking.{target_of}
use Rattle.xls_links.specs.Monikers.{joined_at}
use Rattle.xls_links.proofs.MonikerLemmas.{joined_ok, joined_stops, joined_end}
use Rattle.xls_links.proofs.monikers.joined_at.Goals as goal

pub monikers-preserved : goal.monikers-preserved
monikers-preserved c =
    let l = c.monikers in
    let left = l.left - 1 in
    let text = c.in_ok-push_text-in-Ok.ensures ∙ ap (λ (bs : List ℕ). text_of l.text ++ chars bs) c.as_str.ensures.value in
    ap (λ (cs : List ℕ). joined_at c.args.page left (Some c.joined_kind.result) cs c.in-Ok.after.now) text
    ∙ ap (λ (k : LinkKind). joined_at c.args.page left (Some k) (text_of l.text ++ text_of c.in-Ok.next.text) c.in-Ok.after.now) c.joined_kind.ensures
    ∙ sym (joined_ok c.args.page l.kind (text_of l.text) l.rest.now l.left (target_of c.in-Ok.next) c.in-Ok.after.now c.monikers-test.true c.in-Ok.ensures)
    ∙ l.invariant

pub returns-in-Err : goal.returns-in-Err
returns-in-Err c =
    let l = c.monikers in
    let all = l.invariant ∙ ap (λ (cs : List ℕ). joined_at c.args.page c.args.count None cs c.args.bytes.now) c.no_text-text.ensures in
    joined_stops c.args.page l.kind (text_of l.text) l.rest.now l.left _ c.in-Err.stop c.monikers-test.true c.in-Err.ensures all

pub returns : goal.returns
returns c =
    let l = c.monikers in
    let all = l.invariant ∙ ap (λ (cs : List ℕ). joined_at c.args.page c.args.count None cs c.args.bytes.now) c.no_text-text.ensures in
    rw c.kind_or_file.ensures (sym all ∙ joined_end c.args.page l.kind (text_of l.text) l.rest.now l.left c.monikers-test.false)
