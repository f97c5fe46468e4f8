use Rattle.xls_dates.proofs.SectionLemmas.{class_of-section}
use Rattle.xls_dates.proofs.laws.class_of_first_section.Goals as goal

pub returns : goal.returns
returns c = class_of-section
