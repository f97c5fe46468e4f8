-- Values that IEEE 754, two's complement and Excel's column letters give, so that a wrong rule in
-- the specs does not check.
use Rattle.std.proofs.Common.{◌≡◌, ◌∷◌, [], Some, None, refl, pos, negsuc, ◌-◌, ◌^◌}
use Rattle.xls_bytes.specs.Numbers.{le, le16, twos_complement, u32s_of}
use Rattle.xls_bytes.specs.Doubles.{whole_of, size_of_parts, quotient_of, trunc_checked_of, trunc_of}
use Rattle.xls_bytes.specs.Columns.{column_name, word_of, word_value}
use Rattle.xls_bytes.specs.Escapes.{escaped_text}

-- the bytes `ABCD` are 44434241 in hexadecimal
text_number : le (0x41 ∷ 0x42 ∷ 0x43 ∷ 0x44 ∷ []) ≡ 0x44434241
text_number = refl

biff8_number : le16 0x0600 ≡ 0x00 ∷ 0x06 ∷ []
biff8_number = refl

minus_one : twos_complement 16 0xFFFF ≡ negsuc 0
minus_one = refl

least_16 : twos_complement 16 0x8000 ≡ negsuc 0x7FFF
least_16 = refl

greatest_32 : twos_complement 32 0x7FFFFFFF ≡ pos 2147483647
greatest_32 = refl

two_numbers : u32s_of (0x41 ∷ 0x42 ∷ 0x43 ∷ 0x44 ∷ 0x45 ∷ 0x46 ∷ 0x47 ∷ 0x48 ∷ []) ≡ 0x44434241 ∷ 0x48474645 ∷ []
two_numbers = refl

-- A, Z, AA, IV (the last column of BIFF8), ZZ, AAA, XFD (the last column of later files)
first_column : column_name 0 ≡ 65 ∷ []
unfolding column_name word_of
first_column = refl

column_z : column_name 25 ≡ 90 ∷ []
unfolding column_name word_of
column_z = refl

column_aa : column_name 26 ≡ 65 ∷ 65 ∷ []
unfolding column_name word_of
column_aa = refl

column_iv : column_name 255 ≡ 73 ∷ 86 ∷ []
unfolding column_name word_of
column_iv = refl

column_zz : column_name 701 ≡ 90 ∷ 90 ∷ []
unfolding column_name word_of
column_zz = refl

column_aaa : column_name 702 ≡ 65 ∷ 65 ∷ 65 ∷ []
unfolding column_name word_of
column_aaa = refl

column_xfd : word_value (88 ∷ 70 ∷ 68 ∷ []) ≡ 16384
column_xfd = refl

-- 7.0, -0.0, 2.5 and infinity as whole numbers
seven : whole_of 0x401C000000000000 ≡ Some (pos 7)
unfolding size_of_parts
seven = refl

minus_zero : whole_of 0x8000000000000000 ≡ Some (pos 0)
unfolding size_of_parts
minus_zero = refl

two_and_a_half : whole_of 0x4004000000000000 ≡ None
unfolding size_of_parts
two_and_a_half = refl

infinity : whole_of 0x7FF0000000000000 ≡ None
unfolding size_of_parts
infinity = refl

-- -2.5 is cut to -2, 250.0 over 100 to 2
cut_toward_zero : trunc_checked_of 0xC004000000000000 1 ≡ Some (negsuc 1)
unfolding quotient_of
cut_toward_zero = refl

hundredths : trunc_checked_of 0x406F400000000000 100 ≡ Some (pos 2)
unfolding quotient_of
hundredths = refl

-- 2 ^ 63 and what is not a number have none; -2 ^ 63 has
too_large : trunc_checked_of 0x43E0000000000000 1 ≡ None
unfolding quotient_of
too_large = refl

least_64 : trunc_checked_of 0xC3E0000000000000 1 ≡ Some (negsuc (2 ^ 63 - 1))
unfolding quotient_of
least_64 = refl

not_a_number : trunc_checked_of 0x7FF8000000000000 1 ≡ None
unfolding quotient_of
not_a_number = refl

-- what is not a number gives 0, minus infinity and -1.0e300 the least number
nothing : trunc_of 0x7FF8000000000000 1 ≡ pos 0
unfolding quotient_of
nothing = refl

minus_infinity : trunc_of 0xFFF0000000000000 100 ≡ negsuc (2 ^ 63 - 1)
unfolding quotient_of
minus_infinity = refl

far_below : trunc_of 0xFE37E43C8800759C 1 ≡ negsuc (2 ^ 63 - 1)
unfolding quotient_of
far_below = refl

-- a backslash, a newline, a return and a tab have two bytes, e with acute has the two of UTF-8
escapes : escaped_text (0x5C ∷ 0x0A ∷ 0x0D ∷ 0x09 ∷ 0xE9 ∷ [])
    ≡ 0x5C ∷ 0x5C ∷ 0x5C ∷ 0x6E ∷ 0x5C ∷ 0x72 ∷ 0x5C ∷ 0x74 ∷ 0xC3 ∷ 0xA9 ∷ []
unfolding lib.Utf8.encode
escapes = refl
