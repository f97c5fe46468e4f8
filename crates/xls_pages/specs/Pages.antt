-- The pages whose tables stand here, and texts by them.
use Rattle.std.specs.Prelude.{ℕ, ◌==◌, if◌then◌else◌, List, map, Option, Some, None}
use Rattle.xls_pages.specs.Double.{double_text, is_within}
use Rattle.xls_pages.specs.Single.{single_character}
use Rattle.xls_pages.specs.declared.double.DoublePage.TheVariants as double
use Rattle.xls_pages.specs.declared.page.CodePage.{CodePage}
use Rattle.xls_pages.specs.declared.page.CodePage.TheVariants.{Single, Double}
use Rattle.xls_pages.specs.declared.single.SinglePage.TheVariants as single

-- the page of a number
abbrev pub page_of : ℕ → Option CodePage
page_of n =
    if n == 437 then Some (Single single.P437) else
    if n == 720 then Some (Single single.P720) else
    if n == 737 then Some (Single single.P737) else
    if n == 775 then Some (Single single.P775) else
    if n == 850 then Some (Single single.P850) else
    if n == 852 then Some (Single single.P852) else
    if n == 855 then Some (Single single.P855) else
    if n == 857 then Some (Single single.P857) else
    if n == 858 then Some (Single single.P858) else
    if n == 860 then Some (Single single.P860) else
    if n == 861 then Some (Single single.P861) else
    if n == 862 then Some (Single single.P862) else
    if n == 863 then Some (Single single.P863) else
    if n == 864 then Some (Single single.P864) else
    if n == 865 then Some (Single single.P865) else
    if n == 866 then Some (Single single.P866) else
    if n == 869 then Some (Single single.P869) else
    if n == 874 then Some (Single single.P874) else
    if n == 1250 then Some (Single single.P1250) else
    if n == 1251 then Some (Single single.P1251) else
    if n == 1252 then Some (Single single.P1252) else
    if n == 1253 then Some (Single single.P1253) else
    if n == 1254 then Some (Single single.P1254) else
    if n == 1255 then Some (Single single.P1255) else
    if n == 1256 then Some (Single single.P1256) else
    if n == 1257 then Some (Single single.P1257) else
    if n == 1258 then Some (Single single.P1258) else
    if n == 10000 then Some (Single single.P10000) else
    if n == 10006 then Some (Single single.P10006) else
    if n == 10007 then Some (Single single.P10007) else
    if n == 10010 then Some (Single single.P10010) else
    if n == 10017 then Some (Single single.P10017) else
    if n == 10029 then Some (Single single.P10029) else
    if n == 10079 then Some (Single single.P10079) else
    if n == 10081 then Some (Single single.P10081) else
    if n == 10082 then Some (Single single.P10082) else
    if n == 20866 then Some (Single single.P20866) else
    if n == 21866 then Some (Single single.P21866) else
    if n == 28592 then Some (Single single.P28592) else
    if n == 28593 then Some (Single single.P28593) else
    if n == 28594 then Some (Single single.P28594) else
    if n == 28595 then Some (Single single.P28595) else
    if n == 28596 then Some (Single single.P28596) else
    if n == 28597 then Some (Single single.P28597) else
    if n == 28598 then Some (Single single.P28598) else
    if n == 28599 then Some (Single single.P28599) else
    if n == 28603 then Some (Single single.P28603) else
    if n == 28605 then Some (Single single.P28605) else
    if n == 932 then Some (Double double.P932) else
    if n == 936 then Some (Double double.P936) else
    if n == 949 then Some (Double double.P949) else
    if n == 950 then Some (Double double.P950) else
    if n == 32768 then Some (Single single.P10000) else
    if n == 32769 then Some (Single single.P1252) else
    if n == 367 then Some (Single single.P1252) else
    None

-- half of a pair of UTF-16 is no character
abbrev pub scalar : ℕ → ℕ
scalar unit = if is_within 0xD800 0xDFFF unit then 0xFFFD else unit

abbrev pub units : CodePage → List ℕ → List ℕ
units (Single page) bytes = map (single_character page) bytes
units (Double page) bytes = double_text page bytes

-- the characters of bytes in a page
abbrev pub decoded : CodePage → List ℕ → List ℕ
decoded page bytes = map scalar (units page bytes)
