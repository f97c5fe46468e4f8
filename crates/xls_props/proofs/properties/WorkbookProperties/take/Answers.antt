use Rattle.std.proofs.Common.{subst}
use Rattle.xls_props.specs.Custom.{HasLast}
use Rattle.xls_props.specs.Sections.{customs_in}
use Rattle.xls_props.specs.Properties.{IsSummary, IsDocument}
use Rattle.xls_props.proofs.properties.WorkbookProperties.take.Goals as goal

-- each section's fields stay where the next ones are taken
pub returns : goal.returns
returns c =
    let summary = subst (λ s. IsSummary s c.take_summary.new.self) c.section_from.ensures c.in_ok-take_summary.ensures in
    let fields = c.in_ok-take_document.ensures in
    let document = subst (λ s. IsDocument s c.take_document.new.self) c.section_from-2.ensures fields.fields in
    let customs = c.in_ok-take_custom.ensures in
    let both = customs.others _ _ (fields.others _ summary) document in
    record {
      summary = both.0;
      document = both.1;
      custom = subst (λ s. HasLast c.take_custom.new.self.custom_properties (customs_in s)) c.section_from-3.ensures customs.customs;
    }
