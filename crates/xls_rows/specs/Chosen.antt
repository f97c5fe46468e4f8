-- What a builder chose.
use Rattle.xls_rows.specs.Choices.{Choice}
use Rattle.xls_rows.specs.Ranges.{choice_of}
use Rattle.xls_rows.specs.declared.builder.RangeDeserializerBuilder.{RangeDeserializerBuilder}

-- the choice of the headers that it holds
abbrev pub chosen : RangeDeserializerBuilder → Choice
chosen builder = choice_of builder.headers
