use Rattle.xls_number_formats.proofs.LawLemmas.{spells_code}
use Rattle.xls_number_formats.proofs.laws.items_spell_the_code.Goals as goal

pub returns : goal.returns
returns c = spells_code
