-- Pages of single bytes.
use Rattle.std.specs.Prelude.{ℕ, ◌-◌, List, nat_lt, if◌then◌else◌, slice_index_or}
use Rattle.xls_pages.specs.declared.dos.TheConstants as dos
use Rattle.xls_pages.specs.declared.iso.TheConstants as iso
use Rattle.xls_pages.specs.declared.macintosh.TheConstants as macintosh
use Rattle.xls_pages.specs.declared.windows.TheConstants as windows
use Rattle.xls_pages.specs.declared.single.SinglePage.{SinglePage}
use Rattle.xls_pages.specs.declared.single.SinglePage.TheVariants as pages

-- the characters of the bytes 80 to FF, in order
abbrev pub table_of : SinglePage → List ℕ
table_of pages.P437 = dos.PAGE_437
table_of pages.P720 = dos.PAGE_720
table_of pages.P737 = dos.PAGE_737
table_of pages.P775 = dos.PAGE_775
table_of pages.P850 = dos.PAGE_850
table_of pages.P852 = dos.PAGE_852
table_of pages.P855 = dos.PAGE_855
table_of pages.P857 = dos.PAGE_857
table_of pages.P858 = dos.PAGE_858
table_of pages.P860 = dos.PAGE_860
table_of pages.P861 = dos.PAGE_861
table_of pages.P862 = dos.PAGE_862
table_of pages.P863 = dos.PAGE_863
table_of pages.P864 = dos.PAGE_864
table_of pages.P865 = dos.PAGE_865
table_of pages.P866 = dos.PAGE_866
table_of pages.P869 = dos.PAGE_869
table_of pages.P874 = windows.PAGE_874
table_of pages.P1250 = windows.PAGE_1250
table_of pages.P1251 = windows.PAGE_1251
table_of pages.P1252 = windows.PAGE_1252
table_of pages.P1253 = windows.PAGE_1253
table_of pages.P1254 = windows.PAGE_1254
table_of pages.P1255 = windows.PAGE_1255
table_of pages.P1256 = windows.PAGE_1256
table_of pages.P1257 = windows.PAGE_1257
table_of pages.P1258 = windows.PAGE_1258
table_of pages.P10000 = macintosh.PAGE_10000
table_of pages.P10006 = macintosh.PAGE_10006
table_of pages.P10007 = macintosh.PAGE_10007
table_of pages.P10010 = macintosh.PAGE_10010
table_of pages.P10017 = macintosh.PAGE_10017
table_of pages.P10029 = macintosh.PAGE_10029
table_of pages.P10079 = macintosh.PAGE_10079
table_of pages.P10081 = macintosh.PAGE_10081
table_of pages.P10082 = macintosh.PAGE_10082
table_of pages.P20866 = iso.PAGE_20866
table_of pages.P21866 = iso.PAGE_21866
table_of pages.P28592 = iso.PAGE_28592
table_of pages.P28593 = iso.PAGE_28593
table_of pages.P28594 = iso.PAGE_28594
table_of pages.P28595 = iso.PAGE_28595
table_of pages.P28596 = iso.PAGE_28596
table_of pages.P28597 = iso.PAGE_28597
table_of pages.P28598 = iso.PAGE_28598
table_of pages.P28599 = iso.PAGE_28599
table_of pages.P28603 = iso.PAGE_28603
table_of pages.P28605 = iso.PAGE_28605

-- a byte below 80 is its own number
abbrev pub single_character : SinglePage → ℕ → ℕ
single_character page b = if nat_lt b 0x80 then b else slice_index_or (table_of page) (b - 0x80) 0
