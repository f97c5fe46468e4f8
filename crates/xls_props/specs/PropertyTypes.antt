-- The types of property values ([MS-OLEPS] PropertyType).
use Rattle.std.specs.Prelude.{ℕ}

-- a signed number of 16 bits
abbrev pub VT_I2 : ℕ
VT_I2 = 0x0002

-- a signed number of 32 bits
abbrev pub VT_I4 : ℕ
VT_I4 = 0x0003

-- a double
abbrev pub VT_R8 : ℕ
VT_R8 = 0x0005

-- a truth value in 16 bits
abbrev pub VT_BOOL : ℕ
VT_BOOL = 0x000B

-- an unsigned number of 32 bits
abbrev pub VT_UI4 : ℕ
VT_UI4 = 0x0013

-- bytes in the page of the section
abbrev pub VT_LPSTR : ℕ
VT_LPSTR = 0x001E

-- units of UTF-16
abbrev pub VT_LPWSTR : ℕ
VT_LPWSTR = 0x001F

-- a FILETIME
abbrev pub VT_FILETIME : ℕ
VT_FILETIME = 0x0040
