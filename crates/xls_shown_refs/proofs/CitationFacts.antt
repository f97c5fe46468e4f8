-- Values from outside, so that a wrong rule in the definitions does not check: the cells that formulas as Excel shows them cite.
use Rattle.std.proofs.Common.{◌≡◌, ℕ, List, [], ◌∷◌, ◌++◌, map, refl, codes, true, false, Some, None}
use Rattle.std.specs.Fmt.{digits}
use Rattle.xls_bytes.specs.Columns.{column_name, word_of}
use Rattle.xls_parts.specs.PartRecords.{records_within}
use Rattle.xls_bodies.specs.Bodies.{continued}
use Rattle.xls_shown_ptg.specs.Reading.{shared}
use Rattle.xls_shown_ptg.specs.ShownTokens.{basic_by, by_link, classed_by, mem_by}
use Rattle.xls_shared_formulas.specs.declared.contents.TableInput.TheVariants.{Cell, Gone}
use Rattle.xls_shared_formulas.specs.declared.contents.TableInputs.{TableInputs}
use Rattle.xls_shown_refs.specs.Items.{Citation}
use Rattle.xls_shown_refs.specs.Citations.{citations, distinct, is_same, table_citations}
use Rattle.xls_shown_refs.proofs.Known.{a1, area, b1, cell, citing, citing_in, early_citing, early_named, early_on_sheets, named, on_sheets, own, plus, zeros}

abbrev cited : List ℕ → List Citation
cited tokens = citations citing tokens []

abbrev early_cited : List ℕ → List Citation
early_cited tokens = citations early_citing tokens []

-- ---- tokens

-- 24, 44 and 64, whatever the flags; 25, whose corners stay as they are
known_cells : map cited ((0x24 ∷ 15 ∷ 0 ∷ 2 ∷ 0xC0 ∷ []) ∷ (0x44 ∷ 15 ∷ 0 ∷ 2 ∷ 0 ∷ []) ∷ (0x64 ∷ 0xFF ∷ 0xFF ∷ 0xFF ∷ 0x80 ∷ [])
    ∷ (0x25 ∷ 9 ∷ 0 ∷ 2 ∷ 0 ∷ 3 ∷ 0xC0 ∷ 1 ∷ 0xC0 ∷ []) ∷ [])
    ≡ (own 15 2 ∷ []) ∷ (own 15 2 ∷ []) ∷ (own 65535 255 ∷ []) ∷ (area (codes "It's") (9, 3) (2, 1) ∷ []) ∷ []
unfolding shared basic_by classed_by by_link mem_by digits column_name word_of
known_cells = refl

-- 2C and 2D: offsets from B3, modulo rows and columns, of 8 and of 14 bits; a part that isn't relative stays
known_offsets : map cited ((0x2C ∷ 0xFF ∷ 0xFF ∷ 1 ∷ 0xC0 ∷ []) ∷ (0x4C ∷ 0xFD ∷ 0xFF ∷ 0xFF ∷ 0xFF ∷ []) ∷ (0x6C ∷ 5 ∷ 0 ∷ 0xFF ∷ 0x40 ∷ [])
    ∷ (0x4C ∷ 5 ∷ 0 ∷ 6 ∷ 0 ∷ []) ∷ (0x2D ∷ 0 ∷ 0 ∷ 9 ∷ 0 ∷ 0xFF ∷ 0x40 ∷ 3 ∷ 0x80 ∷ []) ∷ [])
    ≡ (own 1 2 ∷ []) ∷ (own 65535 0 ∷ []) ∷ (own 5 0 ∷ []) ∷ (own 5 6 ∷ []) ∷ (area (codes "It's") (0, 0) (11, 3) ∷ []) ∷ []
unfolding shared basic_by classed_by by_link mem_by digits column_name word_of
known_offsets = refl

-- 3A: a sheet; from one to another; gone; of another book, without quotes, and gone there; a program, added functions; the formula's own; no SupBook, no entry
known_sheets : map (λ ixti. cited (on_sheets ixti)) (0 ∷ 1 ∷ 2 ∷ 3 ∷ 4 ∷ 5 ∷ 6 ∷ 7 ∷ 8 ∷ 9 ∷ 10 ∷ [])
    ≡ (cell (codes "Jan") 1 2 ∷ []) ∷ (cell (codes "Jan:Dec") 1 2 ∷ []) ∷ [] ∷ (cell (codes "C:\\d\\[b.xls]S") 1 2 ∷ [])
    ∷ (cell (codes "C:\\d\\[b.xls]S:T 1") 1 2 ∷ []) ∷ [] ∷ [] ∷ [] ∷ (own 1 2 ∷ []) ∷ [] ∷ [] ∷ []
unfolding shared basic_by classed_by by_link mem_by digits column_name word_of
known_sheets = refl

-- 3B; what is gone: 2A, 2B, 3C and 3D
known_others : map cited ((0x3B ∷ 1 ∷ 0 ∷ 3 ∷ 0 ∷ 1 ∷ 0 ∷ 2 ∷ 0xC0 ∷ 0 ∷ 0x00 ∷ []) ∷ (0x2A ∷ 0 ∷ 0 ∷ 0 ∷ 0 ∷ []) ∷ (0x2B ∷ zeros)
    ∷ (0x3C ∷ 0 ∷ 0 ∷ 0 ∷ 0 ∷ 0 ∷ 0 ∷ []) ∷ (0x3D ∷ 0 ∷ 0 ∷ zeros) ∷ (0x1E ∷ 1 ∷ 0 ∷ []) ∷ [])
    ≡ (area (codes "Jan:Dec") (3, 2) (1, 0) ∷ []) ∷ [] ∷ [] ∷ [] ∷ [] ∷ [] ∷ []
unfolding shared basic_by classed_by by_link mem_by digits column_name word_of
known_others = refl

-- ---- formulas

-- from left to right, each once, also where a reference tells the formula's own sheet: B1+A1+B1, A1+It's!C2+It's!C2
known_order : map cited ((b1 ++ (a1 ++ (plus ++ (b1 ++ plus)))) ∷ (0x24 ∷ 1 ∷ 0 ∷ 2 ∷ 0 ∷ on_sheets 8 ++ (plus ++ (on_sheets 0 ++ plus))) ∷ [])
    ≡ (own 0 1 ∷ own 0 0 ∷ []) ∷ (own 1 2 ∷ cell (codes "Jan") 1 2 ∷ []) ∷ []
unfolding shared basic_by classed_by by_link mem_by digits column_name word_of
known_order = refl

-- a formula that can't be spelled: two operands, none, an operator without operands, a token that isn't known, a function that isn't known
known_unspelled : map cited ((a1 ++ b1) ∷ [] ∷ (a1 ++ plus) ∷ (a1 ++ (0x01 ∷ zeros)) ∷ (a1 ++ (0x41 ∷ 0x7D ∷ 0x01 ∷ [])) ∷ [])
    ≡ [] ∷ [] ∷ [] ∷ [] ∷ [] ∷ []
unfolding shared basic_by classed_by by_link mem_by digits column_name word_of
known_unspelled = refl

-- a constant array with its extra bytes, and without the last of them
abbrev with_array : List ℕ → List Citation
with_array extra = citations citing (0x20 ∷ 0 ∷ 0 ∷ 0 ∷ 0 ∷ 0 ∷ 0 ∷ 0 ∷ a1 ++ plus) extra

known_extra : map with_array ((0 ∷ 0 ∷ 0 ∷ 4 ∷ 1 ∷ 0 ∷ 0 ∷ 0 ∷ 0 ∷ 0 ∷ 0 ∷ 0 ∷ []) ∷ (0 ∷ 0 ∷ 0 ∷ 4 ∷ 1 ∷ 0 ∷ 0 ∷ 0 ∷ 0 ∷ 0 ∷ 0 ∷ []) ∷ [])
    ≡ (own 0 0 ∷ []) ∷ [] ∷ []
unfolding shared basic_by classed_by by_link mem_by digits column_name word_of
known_extra = refl

-- in a sheet that isn't there
known_gone : map (λ tokens. citations (citing_in 9) tokens []) (a1 ∷ on_sheets 0 ∷ []) ≡ [] ∷ (cell (codes "Jan") 1 2 ∷ []) ∷ []
unfolding shared basic_by classed_by by_link mem_by digits column_name word_of
known_gone = refl

-- ---- names

-- none; a cell; in a circle; a cell on sheets, by offsets; one that can't be spelled; by offsets from the citing cell; one that is cut; names in it;
-- an array; itself, and a cell; none
known_names : map (λ number. cited (named number)) (0 ∷ 1 ∷ 2 ∷ 3 ∷ 4 ∷ 5 ∷ 6 ∷ 7 ∷ 8 ∷ 9 ∷ 10 ∷ 11 ∷ [])
    ≡ [] ∷ (own 0 0 ∷ []) ∷ (own 0 1 ∷ []) ∷ (own 0 1 ∷ []) ∷ (cell (codes "Jan") 3 3 ∷ []) ∷ [] ∷ (own 1 1 ∷ []) ∷ []
    ∷ (own 0 0 ∷ own 1 1 ∷ []) ∷ (own 0 0 ∷ []) ∷ (own 0 1 ∷ []) ∷ [] ∷ []
unfolding shared basic_by classed_by by_link mem_by digits column_name word_of records_within continued
known_names = refl

-- two of the four bytes are the number
known_number : cited (0x63 ∷ 1 ∷ 0 ∷ 7 ∷ 1 ∷ []) ≡ own 0 0 ∷ []
unfolding shared basic_by classed_by by_link mem_by digits column_name word_of records_within continued
known_number = refl

-- in their places, each once: N6 and N8 (N1 and N6), N8 and B1, N1 twice
known_places : map cited ((named 6 ++ (named 8 ++ plus)) ∷ (named 8 ++ (b1 ++ plus)) ∷ (named 1 ++ (named 1 ++ plus)) ∷ [])
    ≡ (own 1 1 ∷ own 0 0 ∷ []) ∷ (own 0 0 ∷ own 1 1 ∷ own 0 1 ∷ []) ∷ (own 0 0 ∷ []) ∷ []
unfolding shared basic_by classed_by by_link mem_by digits column_name word_of records_within continued
known_places = refl

-- by reference: of this workbook, and none there; of another one, of a program, an added function
known_references : map cited ((0x39 ∷ 0 ∷ 0 ∷ 1 ∷ 0 ∷ 0 ∷ 0 ∷ []) ∷ (0x59 ∷ 0 ∷ 0 ∷ 11 ∷ 0 ∷ 0 ∷ 0 ∷ []) ∷ (0x39 ∷ 3 ∷ 0 ∷ 1 ∷ 0 ∷ 0 ∷ 0 ∷ [])
    ∷ (0x39 ∷ 6 ∷ 0 ∷ 1 ∷ 0 ∷ 0 ∷ 0 ∷ []) ∷ (0x39 ∷ 7 ∷ 0 ∷ 1 ∷ 0 ∷ 0 ∷ 0 ∷ []) ∷ [])
    ≡ (own 0 0 ∷ []) ∷ [] ∷ [] ∷ [] ∷ [] ∷ []
unfolding shared basic_by classed_by by_link mem_by digits column_name word_of records_within continued
known_references = refl

-- ---- before BIFF8

-- a row of 14 bits; offsets modulo 16,384 rows
known_early_cells : map early_cited ((0x24 ∷ 5 ∷ 0xC0 ∷ 2 ∷ []) ∷ (0x2C ∷ 0xFF ∷ 0xFF ∷ 1 ∷ []) ∷ (0x2D ∷ 1 ∷ 0x40 ∷ 0xFD ∷ 0xBF ∷ 0xFF ∷ 3 ∷ []) ∷ [])
    ≡ (own 5 2 ∷ []) ∷ (own 1 2 ∷ []) ∷ (area (codes "It's") (1, 0) (16383, 3) ∷ []) ∷ []
unfolding shared basic_by classed_by by_link mem_by digits column_name word_of
known_early_cells = refl

-- by the numbers of sheets; of one that is gone; through each of the sheet's own records, and through none
known_early_sheets : early_cited (early_on_sheets (0xFF ∷ 0xFF ∷ []) 0 3) ∷ early_cited (early_on_sheets (0xFF ∷ 0xFF ∷ []) 2 2)
    ∷ early_cited (early_on_sheets (0xFE ∷ 0xFF ∷ []) 0xFFFF 0xFFFF)
    ∷ map (λ reference. early_cited (early_on_sheets (reference ∷ 0 ∷ []) 0 3)) (1 ∷ 2 ∷ 3 ∷ 4 ∷ 5 ∷ 6 ∷ 7 ∷ 8 ∷ 9 ∷ 0 ∷ [])
    ≡ (cell (codes "Jan:Dec") 1 2 ∷ []) ∷ (cell (codes "A1") 1 2 ∷ []) ∷ []
    ∷ (own 1 2 ∷ []) ∷ (cell (codes "Jan") 1 2 ∷ []) ∷ [] ∷ (cell (codes "[b.xls]S") 1 2 ∷ []) ∷ []
    ∷ [] ∷ [] ∷ [] ∷ [] ∷ [] ∷ []
unfolding shared basic_by classed_by by_link mem_by digits column_name word_of
known_early_sheets = refl

-- names refer by the records of the globals; by reference: of this workbook, and an ExternName of it as it is
known_early_names : map early_cited ((0x23 ∷ 1 ∷ 0 ∷ zeros ++ (0 ∷ 0 ∷ 0 ∷ 0 ∷ [])) ∷ early_named (0xFF ∷ 0xFF ∷ []) 2 ∷ early_named (7 ∷ 0 ∷ []) 2
    ∷ early_named (7 ∷ 0 ∷ []) 1 ∷ early_named (4 ∷ 0 ∷ []) 2 ∷ [])
    ≡ (cell (codes "Dec") 3 3 ∷ []) ∷ (own 0 0 ∷ []) ∷ (own 0 0 ∷ []) ∷ [] ∷ [] ∷ []
unfolding shared basic_by classed_by by_link mem_by digits column_name word_of records_within continued
known_early_names = refl

-- ---- tables

abbrev by_table : TableInputs → List Citation
by_table inputs = table_citations citing.here inputs

-- two inputs, the same twice, one that is gone, one alone; in a sheet that isn't there
known_tables : map by_table (record { row = Some (Cell (record { row = 3; column = 4 })); column = Some (Cell (record { row = 0; column = 1 })) }
    ∷ record { row = Some (Cell (record { row = 3; column = 4 })); column = Some (Cell (record { row = 3; column = 4 })) }
    ∷ record { row = Some Gone; column = Some (Cell (record { row = 0; column = 1 })) }
    ∷ record { row = None; column = Some (Cell (record { row = 0; column = 1 })) } ∷ [])
    ≡ (own 3 4 ∷ own 0 1 ∷ []) ∷ (own 3 4 ∷ []) ∷ (own 0 1 ∷ []) ∷ (own 0 1 ∷ []) ∷ []
known_tables = refl

known_no_sheet : table_citations (citing_in 0).here (record { row = Some (Cell (record { row = 3; column = 4 })); column = None }) ≡ []
known_no_sheet = refl

-- ---- equal citations

known_distinct : distinct (own 2 0 ∷ own 1 0 ∷ own 2 0 ∷ own 0 0 ∷ own 1 0 ∷ []) ≡ own 2 0 ∷ own 1 0 ∷ own 0 0 ∷ []
known_distinct = refl

known_same : is_same (own 1 2) (own 1 2) ∷ is_same (own 1 2) (own 2 2) ∷ is_same (own 1 2) (own 1 3) ∷ is_same (own 1 2) (cell (codes "Jan") 1 2)
    ∷ is_same (own 1 2) (area (codes "It's") (1, 2) (1, 3)) ∷ is_same (own 1 2) (area (codes "It's") (0, 2) (1, 2)) ∷ []
    ≡ true ∷ false ∷ false ∷ false ∷ false ∷ false ∷ []
known_same = refl
