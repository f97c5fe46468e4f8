use Rattle.std.proofs.Common.{rules, inr}
use Rattle.std.specs.Cow.{cow_slice_items}
use Rattle.std.specs.Option.{option_map}
use Rattle.xls_documents.specs.PropertyStreams.{RefusesProperties}
use Rattle.xls_documents.proofs.property_streams.properties_in.Goals as goal

-- the first stream is whole, or isn't there
pub returns-in_err-document-clause-err : goal.returns-in_err-document-clause-err
returns-in_err-document-clause-err c =
    let cause : RefusesProperties c.args.compound.now c.in_err-document.field-0.0 =
    inr (option_map cow_slice_items c.in_ok-summary.summary, c.in_ok-summary.ensures.ok, c.in_err-document.ensures.err) in
    search rules
