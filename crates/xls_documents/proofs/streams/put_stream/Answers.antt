use Rattle.std.proofs.Common.{◌≡◌, ◌∙◌, ap, map, codes}
use Rattle.std.specs.List.{join_by}
use Rattle.std.specs.String.{string_bytes}
use Rattle.xls_documents.specs.Streams.{IsEntryText, path_text}
use Rattle.xls_documents.proofs.StreamLemmas.{path_joined, stream_added}
use Rattle.xls_output.proofs.EachLemmas.{puts-memory, puts-one}
use Rattle.xls_documents.proofs.LineLemmas.{displayed, two_fields}
use Rattle.xls_documents.proofs.streams.put_stream.Goals as goal

pub returns-in_err-path : goal.returns-in_err-path
returns-in_err-path g c = puts-memory (IsEntryText c.args.form) _ _ _ _ _ c.from_residual.result c.from_residual.ensures.1

pub returns-in_err-path-2 : goal.returns-in_err-path-2
returns-in_err-path-2 g c =
    let a = c.from_residual-in_err-path-2 in
    puts-memory (IsEntryText c.args.form) _ _ _ _ _ a.result a.ensures.1

pub returns-in_err-push_line : goal.returns-in_err-push_line
returns-in_err-push_line g c =
    let a = c.from_residual-in_err-push_line in
    puts-memory (IsEntryText c.args.form) _ _ _ _ _ a.result a.ensures.1

pub returns : goal.returns
returns g c =
    let names = c.in_ok-path.field-0.items in
    let path : string_bytes c.in_ok-path-2.path ≡ path_text (map (λ x. x.now) names) =
    c.in_ok-path-2.ensures.ok ∙ ap (join_by _ (codes "/")) c.deref.ensures.value ∙ path_joined names in
    let members = two_fields c.count_member.result c.text_member.result c.count_member.ensures
    (c.text_member.ensures ∙ displayed (codes "path") (c.as_str.ensures.value ∙ path)) in
    let added = stream_added c.args.form c.args.entry.now _ c.size.result (map (λ x. x.now) names) _ _ c.requires c.size.ensures c.in_ok-path.ensures members
    c.in_ok-push_line.ensures.ok in
    puts-one (IsEntryText c.args.form) c.args.entry.now _ _ _ _ _ c.pass.result added c.pass.ensures.puts
