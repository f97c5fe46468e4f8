use Rattle.std.proofs.Common.{ap, ◌∙◌}
use Rattle.xls_number_formats.specs.declared.items.Item.TheVariants.{Exponent}
use Rattle.xls_number_formats.proofs.heads.exponent.Goals as goal

pub returns : goal.returns
returns c = record {
  item = c.front.ensures.item ∙ ap Exponent c.begins_with.ensures;
  text = c.front.ensures.text _ _ c.requires;
  rest = c.front.ensures.rest _ _ c.requires;
}
