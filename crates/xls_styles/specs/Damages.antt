-- Font and XF records that are shorter than their fields.
use Rattle.std.specs.Prelude.{ℕ, List, [], ◌∷◌, length, nat_lt, ◌==◌, if◌then◌else◌, Option, Some, None}
use Rattle.xls_parts.specs.PartRecords.{Placed}
use Rattle.xls_record.specs.declared.version.Biff.{Biff}
use Rattle.xls_record.specs.Version.{is_biff8}
use Rattle.xls_stream.specs.declared.types.TheConstants.{XF}
use Rattle.xls_styles.specs.declared.types.TheConstants.{FONT}
use Rattle.xls_styles.specs.declared.damage.Damage.{Damage}
use Rattle.xls_styles.specs.declared.damage.DamagedRecord.{DamagedRecord}
use Rattle.xls_styles.specs.declared.damage.DamagedRecord.TheVariants as names
use Rattle.xls_styles.specs.declared.damage.Flaw.TheVariants.{Short}

-- an XF has 20 bytes, and 16 before BIFF8
abbrev pub xf_size : Biff → ℕ
xf_size version = if is_biff8 version then 20 else 16

abbrev pub short_damage : DamagedRecord → ℕ → Placed → Option Damage
short_damage name least r =
    if nat_lt (length r.body) least
    then Some (record { record_name = name; offset = r.offset; flaw = Short least (length r.body) })
    else None

-- what is wrong with a record; a Font has 15 bytes with the count of its name
abbrev pub damage_of : Biff → Placed → Option Damage
damage_of version r =
    if r.typ == FONT then short_damage names.Font 15 r
    else if r.typ == XF then short_damage names.Xf (xf_size version) r
    else None

abbrev pub with_damage : Option Damage → List Damage → List Damage
with_damage None damages = damages
with_damage (Some damage) damages = damage ∷ damages

-- those of the records of the globals, in order
abbrev pub damages_of : Biff → List Placed → List Damage
damages_of version [] = []
damages_of version (r ∷ rs) = with_damage (damage_of version r) (damages_of version rs)
