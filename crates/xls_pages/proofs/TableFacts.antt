-- The tables, whole: a sum over all units of each, by which no other table is taken for it, made of the published tables of
-- Windows (pages 10000 and 10007: of the WHATWG standard); how many pairs there are; and which numbers are pages.
use Rattle.std.proofs.Common.{◌≡◌, ℕ, ◌+◌, ◌*◌, ◌%◌, ◌==◌, not, Bool, true, false, List, [], ◌∷◌, if◌then◌else◌, length, map, nat_lt, Some, None, refl}
use Rattle.std.specs.List.{list_all}
use Rattle.xls_pages.specs.Double.{alone, double_text, is_lead, pairs_of}
use Rattle.xls_pages.specs.Pages.{page_of}
use Rattle.xls_pages.specs.Single.{table_of}
use Rattle.xls_pages.specs.declared.double.DoublePage.TheVariants as double
use Rattle.xls_pages.specs.declared.page.CodePage.TheVariants.{Single, Double}
use Rattle.xls_pages.specs.declared.single.SinglePage.TheVariants as single

-- each unit counts by its place: u0 + 65537 (u1 + 65537 (u2 + ..)), modulo the prime 2^61 - 1
abbrev sum_by_place : List ℕ → ℕ
sum_by_place [] = 0
sum_by_place (u ∷ us) = (u + 65_537 * sum_by_place us) % 2_305_843_009_213_693_951

abbrev count_pairs : List ℕ → ℕ
count_pairs [] = 0
count_pairs (u ∷ us) = if u == 0 then count_pairs us else 1 + count_pairs us

pub known_437 : sum_by_place (table_of single.P437) ≡ 0x30B1237D2325B25
known_437 = refl

pub known_720 : sum_by_place (table_of single.P720) ≡ 0x1D81C96B40B82A4D
known_720 = refl

pub known_737 : sum_by_place (table_of single.P737) ≡ 0x1FE310F6DB7A9E46
known_737 = refl

pub known_775 : sum_by_place (table_of single.P775) ≡ 0x27002E82D4DC8CC
known_775 = refl

pub known_850 : sum_by_place (table_of single.P850) ≡ 0x157EB4437617A72D
known_850 = refl

pub known_852 : sum_by_place (table_of single.P852) ≡ 0xBF364F195423B00
known_852 = refl

pub known_855 : sum_by_place (table_of single.P855) ≡ 0x12A6948DE1468C90
known_855 = refl

pub known_857 : sum_by_place (table_of single.P857) ≡ 0xAF7F45957D9D1A9
known_857 = refl

pub known_858 : sum_by_place (table_of single.P858) ≡ 0xC13CC35816A4C9D
known_858 = refl

pub known_860 : sum_by_place (table_of single.P860) ≡ 0x12C97D377E9D0DFA
known_860 = refl

pub known_861 : sum_by_place (table_of single.P861) ≡ 0x12BDD11171629CB1
known_861 = refl

pub known_862 : sum_by_place (table_of single.P862) ≡ 0x19FDC7DA77DD058D
known_862 = refl

pub known_863 : sum_by_place (table_of single.P863) ≡ 0x16BF0C5BDC1FBEA4
known_863 = refl

pub known_864 : sum_by_place (table_of single.P864) ≡ 0x96BA2792DC4EE01
known_864 = refl

pub known_865 : sum_by_place (table_of single.P865) ≡ 0x13555011337CB057
known_865 = refl

pub known_866 : sum_by_place (table_of single.P866) ≡ 0x1CC67A023290BBD3
known_866 = refl

pub known_869 : sum_by_place (table_of single.P869) ≡ 0x6F4DAF099041993
known_869 = refl

pub known_874 : sum_by_place (table_of single.P874) ≡ 0xE9FBD7E39C665A2
known_874 = refl

pub known_1250 : sum_by_place (table_of single.P1250) ≡ 0x14B5C3740A7FE466
known_1250 = refl

pub known_1251 : sum_by_place (table_of single.P1251) ≡ 0x15F8AF65EE64DDC6
known_1251 = refl

pub known_1252 : sum_by_place (table_of single.P1252) ≡ 0x8526DA206D40E47
known_1252 = refl

pub known_1253 : sum_by_place (table_of single.P1253) ≡ 0x2E95256F1ED2E91
known_1253 = refl

pub known_1254 : sum_by_place (table_of single.P1254) ≡ 0x40F176C5F79B91A
known_1254 = refl

pub known_1255 : sum_by_place (table_of single.P1255) ≡ 0x3FC2ED73C8E5D27
known_1255 = refl

pub known_1256 : sum_by_place (table_of single.P1256) ≡ 0x2932A4D37B8AB18
known_1256 = refl

pub known_1257 : sum_by_place (table_of single.P1257) ≡ 0x5D9073606A9CBEE
known_1257 = refl

pub known_1258 : sum_by_place (table_of single.P1258) ≡ 0x3314A1E7E4B4428
known_1258 = refl

pub known_10000 : sum_by_place (table_of single.P10000) ≡ 0xEB4FDC4E91F8E4F
known_10000 = refl

pub known_10006 : sum_by_place (table_of single.P10006) ≡ 0x10BC66ADDC0890E5
known_10006 = refl

pub known_10007 : sum_by_place (table_of single.P10007) ≡ 0x1793CD217079A091
known_10007 = refl

pub known_10010 : sum_by_place (table_of single.P10010) ≡ 0x194C1545FE6DD89D
known_10010 = refl

pub known_10017 : sum_by_place (table_of single.P10017) ≡ 0x6D6762775CCE73D
known_10017 = refl

pub known_10029 : sum_by_place (table_of single.P10029) ≡ 0x1FC0FE4C6C25F014
known_10029 = refl

pub known_10079 : sum_by_place (table_of single.P10079) ≡ 0x1B714D6B27820BF5
known_10079 = refl

pub known_10081 : sum_by_place (table_of single.P10081) ≡ 0x266DF6BDBAB5D79
known_10081 = refl

pub known_10082 : sum_by_place (table_of single.P10082) ≡ 0x119C1EAE668B1EE0
known_10082 = refl

pub known_20866 : sum_by_place (table_of single.P20866) ≡ 0x1687D877344869A
known_20866 = refl

pub known_21866 : sum_by_place (table_of single.P21866) ≡ 0x1FCE50F9ECCAB8ED
known_21866 = refl

pub known_28592 : sum_by_place (table_of single.P28592) ≡ 0x104559F89F526F9F
known_28592 = refl

pub known_28593 : sum_by_place (table_of single.P28593) ≡ 0xCF65632D018D207
known_28593 = refl

pub known_28594 : sum_by_place (table_of single.P28594) ≡ 0x180564654A596DAF
known_28594 = refl

pub known_28595 : sum_by_place (table_of single.P28595) ≡ 0x11890F58CF981DAA
known_28595 = refl

pub known_28596 : sum_by_place (table_of single.P28596) ≡ 0x14F9A2ACFBDB45A8
known_28596 = refl

pub known_28597 : sum_by_place (table_of single.P28597) ≡ 0x1C5BAD9191C849BF
known_28597 = refl

pub known_28598 : sum_by_place (table_of single.P28598) ≡ 0xC5D13DB3AB707C0
known_28598 = refl

pub known_28599 : sum_by_place (table_of single.P28599) ≡ 0x1AC1202768060EF5
known_28599 = refl

pub known_28603 : sum_by_place (table_of single.P28603) ≡ 0x1F0D990A45DE3C68
known_28603 = refl

pub known_28605 : sum_by_place (table_of single.P28605) ≡ 0x15FB69D51A5F017D
known_28605 = refl

pub known_932 : sum_by_place (pairs_of double.P932) ≡ 0x61F729D43914905
known_932 = refl

pub counted_932 : count_pairs (pairs_of double.P932) ≡ 9_604
counted_932 = refl

pub known_936 : sum_by_place (pairs_of double.P936) ≡ 0x1B63A0D3517E2F2
known_936 = refl

pub counted_936 : count_pairs (pairs_of double.P936) ≡ 23_940
counted_936 = refl

pub known_949 : sum_by_place (pairs_of double.P949) ≡ 0x19F398206AE18B9E
known_949 = refl

pub counted_949 : count_pairs (pairs_of double.P949) ≡ 17_236
counted_949 = refl

pub known_950 : sum_by_place (pairs_of double.P950) ≡ 0x1462137ABA9162F2
known_950 = refl

pub counted_950 : count_pairs (pairs_of double.P950) ≡ 19_720
counted_950 = refl

-- ---- which numbers are pages; 1200, 28591 and 65001 have no table

pub known_pages : map page_of
    (437 ∷ 720 ∷ 737 ∷ 775 ∷ 850 ∷ 852 ∷ 855 ∷ 857 ∷ 858 ∷ 860 ∷ 861 ∷ 862 ∷ 863 ∷ 864 ∷ 865 ∷ 866 ∷ 869 ∷ 874 ∷ 1250 ∷ 1251 ∷ 1252
    ∷ 1253 ∷ 1254 ∷ 1255 ∷ 1256 ∷ 1257 ∷ 1258 ∷ 10000 ∷ 10006 ∷ 10007 ∷ 10010 ∷ 10017 ∷ 10029 ∷ 10079 ∷ 10081 ∷ 10082 ∷ 20866 ∷ 21866
    ∷ 28592 ∷ 28593 ∷ 28594 ∷ 28595 ∷ 28596 ∷ 28597 ∷ 28598 ∷ 28599 ∷ 28603 ∷ 28605 ∷ 932 ∷ 936 ∷ 949 ∷ 950 ∷ 32768 ∷ 32769 ∷ 367 ∷ [])
    ≡ map Some
    (Single single.P437 ∷ Single single.P720 ∷ Single single.P737 ∷ Single single.P775 ∷ Single single.P850 ∷ Single single.P852
    ∷ Single single.P855 ∷ Single single.P857 ∷ Single single.P858 ∷ Single single.P860 ∷ Single single.P861 ∷ Single single.P862
    ∷ Single single.P863 ∷ Single single.P864 ∷ Single single.P865 ∷ Single single.P866 ∷ Single single.P869 ∷ Single single.P874
    ∷ Single single.P1250 ∷ Single single.P1251 ∷ Single single.P1252 ∷ Single single.P1253 ∷ Single single.P1254
    ∷ Single single.P1255 ∷ Single single.P1256 ∷ Single single.P1257 ∷ Single single.P1258 ∷ Single single.P10000
    ∷ Single single.P10006 ∷ Single single.P10007 ∷ Single single.P10010 ∷ Single single.P10017 ∷ Single single.P10029
    ∷ Single single.P10079 ∷ Single single.P10081 ∷ Single single.P10082 ∷ Single single.P20866 ∷ Single single.P21866
    ∷ Single single.P28592 ∷ Single single.P28593 ∷ Single single.P28594 ∷ Single single.P28595 ∷ Single single.P28596
    ∷ Single single.P28597 ∷ Single single.P28598 ∷ Single single.P28599 ∷ Single single.P28603 ∷ Single single.P28605
    ∷ Double double.P932 ∷ Double double.P936 ∷ Double double.P949 ∷ Double double.P950 ∷ Single single.P10000 ∷ Single single.P1252
    ∷ Single single.P1252 ∷ [])
known_pages = refl

abbrev others : List ℕ
others = 0 ∷ 1 ∷ 366 ∷ 368 ∷ 436 ∷ 438 ∷ 875 ∷ 931 ∷ 933 ∷ 951 ∷ 1200 ∷ 1249 ∷ 1259 ∷ 1361 ∷ 9999 ∷ 10001 ∷ 10002 ∷ 10003 ∷ 10004 ∷ 10005
    ∷ 10008 ∷ 10021 ∷ 20127 ∷ 28591 ∷ 28600 ∷ 32767 ∷ 32770 ∷ 65000 ∷ 65001 ∷ 65535 ∷ []

pub known_others : map page_of others ≡ map (λ n. None) others
known_others = refl

-- ---- bytes of the double-byte pages, from 80 on: which stand alone, and which lead

pub known_alone : map (alone double.P932) (0x7F ∷ 0x80 ∷ 0x81 ∷ 0xA0 ∷ 0xA1 ∷ 0xDF ∷ 0xE0 ∷ 0xFD ∷ 0xFF ∷ []) ≡ 0 ∷ 0x80 ∷ 0 ∷ 0 ∷ 0xFF61 ∷ 0xFF9F ∷ 0 ∷ 0 ∷ 0 ∷ []
known_alone = refl

pub known_euro : map (alone double.P936) (0x7F ∷ 0x80 ∷ 0x81 ∷ 0xFF ∷ []) ≡ 0 ∷ 0x20AC ∷ 0 ∷ 0 ∷ []
known_euro = refl

pub known_leads : map (is_lead double.P932) (0x7F ∷ 0x80 ∷ 0x81 ∷ 0x9F ∷ 0xA0 ∷ 0xDF ∷ 0xE0 ∷ 0xFC ∷ 0xFD ∷ 0xFF ∷ [])
    ≡ false ∷ false ∷ true ∷ true ∷ false ∷ false ∷ true ∷ true ∷ false ∷ false ∷ []
known_leads = refl

pub known_other_leads : map (is_lead double.P936) (0x7F ∷ 0x80 ∷ 0x81 ∷ 0xFE ∷ 0xFF ∷ []) ≡ false ∷ false ∷ true ∷ true ∷ false ∷ []
known_other_leads = refl

pub known_korean_leads : map (is_lead double.P949) (0x80 ∷ 0x81 ∷ 0xFE ∷ 0xFF ∷ []) ≡ map (is_lead double.P950) (0x80 ∷ 0x81 ∷ 0xFE ∷ 0xFF ∷ [])
known_korean_leads = refl

-- ---- texts: あ, a lead byte before a quote, before a byte from 80 on without a pair, at the end

pub known_text : double_text double.P932 (0x82 ∷ 0xA0 ∷ 0x82 ∷ 0x22 ∷ 0x81 ∷ 0xFF ∷ 0xA0 ∷ 0x41 ∷ 0x82 ∷ [])
    ≡ 0x3042 ∷ 0xFFFD ∷ 0x22 ∷ 0xFFFD ∷ 0xFFFD ∷ 0x41 ∷ 0xFFFD ∷ []
known_text = refl
