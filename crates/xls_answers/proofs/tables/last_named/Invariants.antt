use Rattle.std.proofs.Common.{◌≡◌, ◌<◌, drop, length, map}
use Rattle.std.specs.Prelude.{IfSome}
use Rattle.std.specs.Option.{option_or}
use Rattle.std.specs.Str.{chars}
use Rattle.xls_data.specs.Sheets.{sheet_content}
use Rattle.xls_answers.specs.Sheets.{last_named_from}
use Rattle.xls_answers.proofs.tables.last_named.Given as goal

-- the last one is among the sheets that are left, or else what was found
abbrev pub invariant-loop-index : goal.invariant-loop-index
invariant-loop-index l =
    (last_named_from 0 (chars l.name) (map sheet_content l.sheets)
    ≡ option_or (last_named_from l.index (chars l.name) (map sheet_content (drop l.index l.sheets))) l.found)
    × IfSome l.found (λ n. n < length l.sheets)
