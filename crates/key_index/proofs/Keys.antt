-- Keys and items read again from their bytes.
use Rattle.std.proofs.Common.{◌≡◌, ℕ, zero, suc, ◌^◌, ◌<◌, ◌≤◌, false, ltb, List, [], ◌∷◌, ◌++◌, length, refl, sym, ap, arith, Some, le-ltb, append_assoc, length-append, flat_map}
use Rattle.std.proofs.lemmas.Nat.{from_be_bytes-to_be_bytes_2, from_be_bytes-to_be_bytes_4}
use Rattle.heap_page.specs.Fields.{short_at, long_at}
use Rattle.rows.specs.declared.field.ColType.{ColType}
use Rattle.rows.specs.declared.value.Value.{Value}
use Rattle.rows.specs.RowBytes.{IsOfType, value_bytes}
use Rattle.rows.proofs.RowValues.{typed_again}
use Rattle.key_index.specs.Bytes.{item_bytes, tail_bytes, weight}
use Rattle.key_index.specs.Entries.{Item}
use Rattle.key_index.specs.Readings.{item_front, items_in, prepend, tail_front}

-- ---- items

-- an item that is there in whole on a page of this level
abbrev pub IsItem : ColType → ℕ → ℕ → Item → Type 0
IsItem t zero number e = IsOfType t e.key × (e.page < 2 ^ 32) × (e.slot < 65536) × (e.left ≡ number)
IsItem t (suc level) number e = IsOfType t e.key × (e.page < 2 ^ 32) × (e.slot ≡ 0) × (e.left < 2 ^ 32)

abbrev pub AreItems : ColType → ℕ → ℕ → List Item → Type 0
AreItems t level number [] = Unit {0}
AreItems t level number (e ∷ es) = IsItem t level number e × AreItems t level (suc number) es

item_eq : (k : Value) (p s l : ℕ) (e : Item) → k ≡ e.key → p ≡ e.page → s ≡ e.slot → l ≡ e.left → ◌≡◌ {A = Item} (record { key = k; page = p; slot = s; left = l }) e
item_eq k p s l e a b c d = rw (a, b, c, d) refl

tail_again : (t : ColType) (level number : ℕ) (e : Item) (more : List ℕ) → IsItem t level number e → tail_front level number e.key (tail_bytes level e ++ more) ≡ Some (e, more)
tail_again t zero number e more h =
    let enough : ltb (length (tail_bytes 0 e ++ more)) 6 ≡ false = le-ltb (length (tail_bytes 0 e ++ more)) 6 (omega (arith, length-append (tail_bytes 0 e) more)) in
    let page : long_at (tail_bytes 0 e ++ more) 0 ≡ e.page = from_be_bytes-to_be_bytes_4 e.page h.1 in
    let slot : short_at (tail_bytes 0 e ++ more) 4 ≡ e.slot = from_be_bytes-to_be_bytes_2 e.slot h.2 in
    rw enough (ap (λ (x : Item). Some (x, more)) (item_eq e.key (long_at (tail_bytes 0 e ++ more) 0) (short_at (tail_bytes 0 e ++ more) 4) number e refl page slot (sym h.3)))
tail_again t (suc level) number e more h =
    let enough : ltb (length (tail_bytes 1 e ++ more)) 8 ≡ false = le-ltb (length (tail_bytes 1 e ++ more)) 8 (omega (arith, length-append (tail_bytes 1 e) more)) in
    let page : long_at (tail_bytes 1 e ++ more) 0 ≡ e.page = from_be_bytes-to_be_bytes_4 e.page h.1 in
    let left : long_at (tail_bytes 1 e ++ more) 4 ≡ e.left = from_be_bytes-to_be_bytes_4 e.left h.3 in
    rw enough (ap (λ (x : Item). Some (x, more)) (item_eq e.key (long_at (tail_bytes 1 e ++ more) 0) 0 (long_at (tail_bytes 1 e ++ more) 4) e refl page (sym h.2) left))

key_of : (t : ColType) (level number : ℕ) (e : Item) → IsItem t level number e → IsOfType t e.key
key_of t zero number e h = h.0
key_of t (suc level) number e h = h.0

item_again : (t : ColType) (level number : ℕ) (e : Item) (more : List ℕ) → IsItem t level number e → item_front t level number (item_bytes level e ++ more) ≡ Some (e, more)
item_again t level number e more h =
    rw (append_assoc (value_bytes e.key) (tail_bytes level e) more, typed_again t e.key (tail_bytes level e ++ more) (key_of t level number e h)) (tail_again t level number e more h)

-- what was written is read again
pub read_again : (t : ColType) (level number : ℕ) (items : List Item) (rest : List ℕ) → AreItems t level number items → items_in t level number (length items) (flat_map (item_bytes level) items ++ rest) ≡ Some (items, rest)
read_again t level number [] rest h = refl
read_again t level number (e ∷ es) rest h =
    let more = flat_map (item_bytes level) es ++ rest in
    rw (append_assoc (item_bytes level e) (flat_map (item_bytes level) es) rest, item_again t level number e more h.0)
    (ap (prepend (e ∷ [])) (read_again t level (suc number) es rest h.1))

-- ---- sizes

tail_length : (level : ℕ) (e : Item) → (6 ≤ length (tail_bytes level e)) × (length (tail_bytes level e) ≤ 8)
tail_length zero e = (omega arith, omega arith)
tail_length (suc level) e = (omega arith, omega arith)

pub weight_bounds : (level : ℕ) (e : Item) → length (value_bytes e.key) ≤ 2002 → (6 ≤ weight level e) × (weight level e ≤ 2010)
weight_bounds level e small =
    let both = tail_length level e in
    let sum = length-append (value_bytes e.key) (tail_bytes level e) in
    (omega (arith, both.0, sum), omega (arith, both.1, sum, small))
