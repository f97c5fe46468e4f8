-- The page of a project's directory ([MS-OVBA] PROJECTCODEPAGE): that of its header.
use Rattle.std.specs.Prelude.{◌≡◌, ℕ, ◌==◌, List, drop, take, Ok, if◌then◌else◌}
use Rattle.xls_bytes.specs.Numbers.{le}
use Rattle.xls_text.specs.declared.encoding.XlsEncoding.{XlsEncoding}
use Rattle.xls_vba.specs.Fields.{header_from}

-- a directory that begins with a header of this page
abbrev pub HasPage : List ℕ → XlsEncoding → Type 0
HasPage directory page = (rest : List ℕ) × (header_from directory ≡ Ok (page, rest))

abbrev pub HasHeader : List ℕ → Type 0
HasHeader directory = (page : XlsEncoding) × HasPage directory page

-- ---- for the code

-- where the number of the page stands: PROJECTCOMPATVERSION may be left out
abbrev pub number_place : List ℕ → ℕ
number_place directory = if le (take 2 (drop 10 directory)) == 0x4A then 46 else 36
