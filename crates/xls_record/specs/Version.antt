-- Versions of the record format.
use Rattle.std.specs.Prelude.{Bool, true, false}
use Rattle.xls_record.specs.declared.version.Biff.{Biff}
use Rattle.xls_record.specs.declared.version.Biff.TheVariants.{Biff8}

-- whether records have the layouts of BIFF8
abbrev pub is_biff8 : Biff → Bool
is_biff8 Biff8 = true
is_biff8 biff = false
