-- The record table, a file for each type: what a record gives, or its first fault. SST stands in
-- xls_strings (specs/Sst.antt), and so does the string that a String is.
pub mod Bof
pub mod FilePass
pub mod CodePage
pub mod DateMode
pub mod Format
pub mod Xf
pub mod BoundSheet
pub mod ExternSheet
pub mod Number
pub mod Rk
pub mod BoolErr
pub mod Label
pub mod LabelSst
pub mod Formula
pub mod Dimensions
pub mod MergeCells
