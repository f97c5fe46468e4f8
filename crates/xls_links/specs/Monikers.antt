-- Where a link leads ([MS-OSHARED] HyperlinkMoniker and what it names): 16 bytes for the kind of a moniker, and
-- then its own.
use Rattle.std.specs.Prelude.{ℕ, zero, suc, List, [], ◌++◌, take, drop, length, nat_lt, ◌==◌, ◌&&◌, Bool, if◌then◌else◌, Option, Some, None, Result, Ok, Err}
use Rattle.std.specs.Int.{from_be_bytes, w64}
use Rattle.std.specs.Char.Utf16.{utf16_lossy_chars}
use Rattle.xls_bytes.specs.Numbers.{le}
use Rattle.xls_text.specs.Pages.{units_of}
use Rattle.xls_text.specs.declared.encoding.XlsEncoding.{XlsEncoding}
use Rattle.xls_links.specs.declared.damage.Flaw.{Flaw}
use Rattle.xls_links.specs.declared.damage.Flaw.TheVariants.{EndsIn, UnknownKind}
use Rattle.xls_links.specs.declared.damage.Part.TheVariants as parts
use Rattle.xls_links.specs.declared.items.LinkKind.{LinkKind}
use Rattle.xls_links.specs.declared.items.LinkKind.TheVariants.{Url, File, Unc}
use Rattle.xls_links.specs.declared.monikers.MonikerId.{MonikerId}
use Rattle.xls_links.specs.Splitting.{◌>>=◌, split_bytes, split_number, split_counted}
use Rattle.xls_links.specs.Strings.{units_text, bytes_text, above, is_unc}

-- where a link leads: what kind of target it is, and its text
pub record Target : Type 0 where
  pub kind : LinkKind
  pub text : List ℕ

-- what is told of a moniker that isn't there whole
abbrev pub ends : Flaw
ends = EndsIn parts.Target

-- `unc` or `file`, by how the target begins
abbrev pub path_kind : List ℕ → LinkKind
path_kind text = if is_unc text then Unc else File

-- a target of a path, and one of a file that isn't told by its path
abbrev pub path_of : List ℕ → Target
path_of text = record { kind = path_kind text; text = text }

abbrev pub file_of : List ℕ → Target
file_of text = record { kind = File; text = text }

-- ---- the 16 bytes that say the kind

-- two numbers of eight bytes, the highest first
abbrev pub id_of : List ℕ → MonikerId
id_of bytes = record { first = from_be_bytes w64 (take 8 bytes); second = from_be_bytes w64 (drop 8 bytes) }

abbrev pub is_id : ℕ → ℕ → MonikerId → Bool
is_id first second id = id.first == first && id.second == second

-- ---- what follows them

-- URLMoniker
abbrev pub url_at : List ℕ → Result (Target × List ℕ) Flaw
url_at bytes = split_counted ends bytes >>= λ url. Ok (record { kind = Url; text = units_text url.0 }, url.1)

-- the path in units where there is one, and else that in bytes
abbrev pub longer_path : XlsEncoding → List ℕ → List ℕ → Result (List ℕ) Flaw
longer_path page path more =
    if length more == 0 then Ok (bytes_text page path)
    else if nat_lt (length more) 6 then Err ends
    else Ok (utf16_lossy_chars (units_of (take (le (take 4 more)) (drop 6 more))))

-- FileMoniker: how often `..\` stands before the path (cAnti), the path in bytes, 24 bytes, the path in units,
-- if there is one; and what follows
abbrev pub split_file : List ℕ → Result (ℕ × List ℕ × List ℕ × List ℕ) Flaw
split_file bytes =
    split_bytes ends 2 bytes >>= λ up.
    split_counted ends up.1 >>= λ path.
    split_bytes ends 24 path.1 >>= λ between.
    split_counted ends between.1 >>= λ more.
    Ok (le up.0, path.0, more.0, more.1)

-- its path, with what stands before it
abbrev pub file_text : XlsEncoding → ℕ → List ℕ → List ℕ → Result (List ℕ) Flaw
file_text page up path more = longer_path page path more >>= λ text. Ok (above up ++ text)

abbrev pub file_at : XlsEncoding → List ℕ → Result (Target × List ℕ) Flaw
file_at page bytes =
    split_file bytes >>= λ file.
    file_text page file.0 file.1 file.2 >>= λ text.
    Ok (path_of text, file.3)

-- AntiMoniker
abbrev pub anti_at : List ℕ → Result (Target × List ℕ) Flaw
anti_at bytes = split_number ends bytes >>= λ n. Ok (file_of (above n.0), n.1)

-- ItemMoniker: a delimiter and a name
abbrev pub item_at : XlsEncoding → List ℕ → Result (Target × List ℕ) Flaw
item_at page bytes =
    split_counted ends bytes >>= λ delimiter.
    split_counted ends delimiter.1 >>= λ name.
    Ok (file_of (bytes_text page delimiter.0 ++ bytes_text page name.0), name.1)

-- the kinds that aren't made of others
abbrev pub simple_of : XlsEncoding → MonikerId → List ℕ → Result (Target × List ℕ) Flaw
simple_of page id bytes =
    if is_id 0xE0C9EA79F9BACE11 0x8C8200AA004BA90B id then url_at bytes
    else if is_id 0x0303000000000000 0xC000000000000046 id then file_at page bytes
    else if is_id 0x0503000000000000 0xC000000000000046 id then anti_at bytes
    else if is_id 0x0403000000000000 0xC000000000000046 id then item_at page bytes
    else Err (UnknownKind id.first id.second)

-- the 16 bytes, and what follows
abbrev pub split_id : List ℕ → Result (MonikerId × List ℕ) Flaw
split_id bytes = split_bytes ends 16 bytes >>= λ id. Ok (id_of id.0, id.1)

-- a moniker that isn't made of others
abbrev pub simple_at : XlsEncoding → List ℕ → Result (Target × List ℕ) Flaw
simple_at page bytes = split_id bytes >>= λ id. simple_of page id.0 id.1

-- ---- CompositeMoniker: a number of monikers, whose texts are joined

-- the kind is `url` where one of them is, and else that of the first
abbrev pub joined_kind : Option LinkKind → LinkKind → LinkKind
joined_kind None kind = kind
joined_kind (Some before) Url = Url
joined_kind (Some before) kind = before

-- `file` where there is none
abbrev pub kind_or_file : Option LinkKind → LinkKind
kind_or_file None = File
kind_or_file (Some kind) = kind

-- so many monikers behind others of this kind and text
unfoldable pub joined_at : XlsEncoding → ℕ → Option LinkKind → List ℕ → List ℕ → Result (Target × List ℕ) Flaw
joined_at page zero kind text bytes = Ok (record { kind = kind_or_file kind; text = text }, bytes)
joined_at page (suc n) kind text bytes =
    simple_at page bytes >>= λ x. joined_at page n (Some (joined_kind kind x.0.kind)) (text ++ x.0.text) x.1

abbrev pub composite_at : XlsEncoding → List ℕ → Result (Target × List ℕ) Flaw
composite_at page bytes = split_number ends bytes >>= λ n. joined_at page n.0 None [] n.1

-- any moniker
abbrev pub moniker_of : XlsEncoding → MonikerId → List ℕ → Result (Target × List ℕ) Flaw
moniker_of page id bytes =
    if is_id 0x0903000000000000 0xC000000000000046 id then composite_at page bytes else simple_of page id bytes

abbrev pub moniker_at : XlsEncoding → List ℕ → Result (Target × List ℕ) Flaw
moniker_at page bytes = split_id bytes >>= λ id. moniker_of page id.0 id.1
