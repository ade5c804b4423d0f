-- The pages of a scratch file.
use Rattle.std.specs.Prelude.{ℕ, ◌+◌, ◌*◌, List, map}
use Rattle.std.specs.List.{range_with_len}

-- the bytes of a page
abbrev pub page_at : (ℕ → ℕ) → ℕ → List ℕ
page_at bytes page = map (λ i. bytes (page * 8192 + i)) (range_with_len 0 8192)

-- all pages, of which a scratch file has 2,048
abbrev pub pages_of : (ℕ → ℕ) → List (List ℕ)
pages_of bytes = map (page_at bytes) (range_with_len 0 2048)
