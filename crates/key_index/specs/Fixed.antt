-- Entries of one length: those that have numbers as keys.
use Rattle.std.specs.Prelude.{◌≡◌, ℕ, zero, suc, ◌+◌, ◌*◌, ◌<◌, ◌≤◌, List, None}
use Rattle.heap_page.specs.Fields.{short_at}
use Rattle.rows.specs.declared.field.ColType.TheVariants.{Int4}
use Rattle.key_index.specs.Readings.{page_fault}

-- The key takes 4 bytes. Behind it on a leaf the heap page takes 4 and the slot 2, and above the page takes 4 and the entries left of it 4.
abbrev pub entry_size : ℕ → ℕ
entry_size zero = 10
entry_size (suc level) = 12

-- the byte of the page where the entry at a place begins
abbrev pub offset_of : ℕ → ℕ → ℕ
offset_of level place = 20 + entry_size level * place

-- The page breaks none of rules 6 to 8, and has so many entries.
pub record IsFine (level start : ℕ) (bytes : List ℕ) (len : ℕ) : Type 0 where
  pub fine : page_fault Int4 level start bytes ≡ None
  pub counted : short_at bytes 6 ≡ len
  pub some : 0 < len
  pub there : offset_of level len ≤ 8192
