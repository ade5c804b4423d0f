-- Entries of one length.
use Rattle.std.proofs.Common.{◌≡◌, ℕ, zero, suc, ◌+◌, ◌-◌, ◌*◌, ◌<◌, ◌≤◌, Bool, true, false, ltb, List, [], ◌∷◌, length, take, drop, Option, Some, None, refl, sym, ap, subst, ◌∙◌, arith, inl, inr, le-ltb, lt-ltb}
use Rattle.std.specs.Prelude.{◌==◌, slice_get}
use Rattle.std.specs.List.{list_all}
use Rattle.std.specs.Int.{w32, from_be_bytes, cast_signed}
use Rattle.std.proofs.lemmas.List.{length-drop, drop-drop}
use Rattle.std.proofs.lemmas.Bool.{cases_lt}
use Rattle.lists.specs.Arranged.{one_if}
use Rattle.heap_page.specs.Fields.{short_at, long_at}
use Rattle.rows.specs.declared.field.ColType.TheVariants.{Int4}
use Rattle.rows.specs.declared.value.Value.{Value}
use Rattle.rows.specs.declared.value.Value.TheVariants.{Number}
use Rattle.key_index.specs.declared.aim.Aim.{Aim}
use Rattle.key_index.specs.declared.page_entry.Step.{Step}
use Rattle.key_index.specs.Aims.{IsFront, NonePass, Scans, chosen, count, first_of, passes, seen_item}
use Rattle.key_index.specs.Entries.{Item, blank}
use Rattle.key_index.specs.Fixed.{IsFine, entry_size, offset_of}
use Rattle.key_index.specs.Readings.{item_front, items_in, page_fault}
use Rattle.key_index.proofs.Levels.{few, no_count}
use Rattle.key_index.proofs.Scanning.{all_zeros, cut_short, not_zeros, same_items}

abbrev pub number_of : List ℕ → Value
number_of bytes = Number (cast_signed w32 (from_be_bytes w32 (take 4 bytes)))

-- the item whose bytes stand in front
abbrev pub item_of : ℕ → ℕ → List ℕ → Item
item_of zero number bytes = record { key = number_of bytes; page = long_at (drop 4 bytes) 0; slot = short_at (drop 4 bytes) 4; left = number }
item_of (suc level) number bytes = record { key = number_of bytes; page = long_at (drop 4 bytes) 0; slot = 0; left = long_at (drop 4 bytes) 4 }

abbrev pub items_of_bytes : ℕ → ℕ → ℕ → List ℕ → List Item
items_of_bytes level number zero bytes = []
items_of_bytes level number (suc n) bytes = item_of level number bytes ∷ items_of_bytes level (suc number) n (drop (entry_size level) bytes)

in_front : (level number : ℕ) (bytes : List ℕ) → entry_size level ≤ length bytes → item_front Int4 level number bytes ≡ Some (item_of level number bytes, drop (entry_size level) bytes)
in_front zero number bytes le =
    let a : ltb (length bytes) 4 ≡ false = le-ltb (length bytes) 4 (omega (arith, le)) in
    let b : ltb (length (drop 4 bytes)) 6 ≡ false = le-ltb (length (drop 4 bytes)) 6 (omega (arith, le, length-drop 4 bytes)) in
    rw (a, b) (ap (λ (xs : List ℕ). Some (item_of zero number bytes, xs)) (drop-drop 6 4 bytes))
in_front (suc level) number bytes le =
    let a : ltb (length bytes) 4 ≡ false = le-ltb (length bytes) 4 (omega (arith, le)) in
    let b : ltb (length (drop 4 bytes)) 8 ≡ false = le-ltb (length (drop 4 bytes)) 8 (omega (arith, le, length-drop 4 bytes)) in
    rw (a, b) (ap (λ (xs : List ℕ). Some (item_of (suc level) number bytes, xs)) (drop-drop 8 4 bytes))

tail_missing : (level number : ℕ) (bytes : List ℕ) → length bytes < entry_size level → 4 ≤ length bytes → item_front Int4 level number bytes ≡ None
tail_missing zero number bytes lt le =
    let a : ltb (length bytes) 4 ≡ false = le-ltb (length bytes) 4 le in
    let b : ltb (length (drop 4 bytes)) 6 ≡ true = lt-ltb (length (drop 4 bytes)) 6 (omega (arith, lt, le, length-drop 4 bytes)) in
    rw (a, b) refl
tail_missing (suc level) number bytes lt le =
    let a : ltb (length bytes) 4 ≡ false = le-ltb (length bytes) 4 le in
    let b : ltb (length (drop 4 bytes)) 8 ≡ true = lt-ltb (length (drop 4 bytes)) 8 (omega (arith, lt, le, length-drop 4 bytes)) in
    rw (a, b) refl

not_in_front : (level number : ℕ) (bytes : List ℕ) → length bytes < entry_size level → item_front Int4 level number bytes ≡ None
not_in_front level number bytes lt = elim (cases_lt (length bytes) 4) [
  | inl short ↦ (let a : ltb (length bytes) 4 ≡ true = lt-ltb (length bytes) 4 short in rw a refl)
  | inr le ↦ tail_missing level number bytes lt le
]

none_yet : (level : ℕ) → entry_size level * 0 ≡ 0
none_yet zero = refl
none_yet (suc level) = refl

one_more : (level n : ℕ) → entry_size level * suc n ≡ entry_size level + entry_size level * n
one_more zero n = omega arith
one_more (suc level) n = omega arith

-- the entries are all there exactly where so many bytes are
all_there : (level number n : ℕ) (bytes : List ℕ) → entry_size level * n ≤ length bytes → items_in Int4 level number n bytes ≡ Some (items_of_bytes level number n bytes, drop (entry_size level * n) bytes)
all_there level number zero bytes le = rw (none_yet level) refl
all_there level number (suc n) bytes le =
    let k = one_more level n in
    let one = in_front level number bytes (omega (arith, k, le)) in
    let rest = all_there level (suc number) n (drop (entry_size level) bytes) (omega (arith, k, le, length-drop (entry_size level) bytes)) in
    rw (one, rest, k) (ap (λ (xs : List ℕ). Some (items_of_bytes level number (suc n) bytes, xs)) (drop-drop (entry_size level * n) (entry_size level) bytes))

not_all_there : (level number n : ℕ) (bytes : List ℕ) → length bytes < entry_size level * n → items_in Int4 level number n bytes ≡ None
not_all_there level number zero bytes lt = absurd (omega (arith, none_yet level, lt))
not_all_there level number (suc n) bytes lt = elim (cases_lt (length bytes) (entry_size level)) [
  | inl short ↦ rw (not_in_front level number bytes short) refl
  | inr le ↦ (let k = one_more level n in
      let one = in_front level number bytes le in
      let rest = not_all_there level (suc number) n (drop (entry_size level) bytes) (omega (arith, k, lt, le, length-drop (entry_size level) bytes)) in
      rw (one, rest) refl)
]

length_items : (level number n : ℕ) (bytes : List ℕ) → length (items_of_bytes level number n bytes) ≡ n
length_items level number zero bytes = refl
length_items level number (suc n) bytes = ap suc (length_items level (suc number) n (drop (entry_size level) bytes))

-- each entry is the one at its place
at_place : (level number n i : ℕ) (bytes : List ℕ) → i < n → slice_get (items_of_bytes level number n bytes) i ≡ Some (item_of level (number + i) (drop (entry_size level * i) bytes))
at_place level number zero i bytes lt = absurd (omega arith)
at_place level number (suc n) zero bytes lt =
    let a : number + 0 ≡ number = omega arith in
    rw (a, none_yet level) refl
at_place level number (suc n) (suc i) bytes lt =
    let a : number + suc i ≡ suc number + i = omega arith in
    rw (a, one_more level i, ← drop-drop (entry_size level * i) (entry_size level) bytes) (at_place level (suc number) n i (drop (entry_size level) bytes) (omega arith))

-- what was read is these entries
module _ (level number n : ℕ) (bytes : List ℕ) (items : List Item) (rest : List ℕ) (whole : items_in Int4 level number n bytes ≡ Some (items, rest)) where
  all : entry_size level * n ≤ length bytes
  all = elim (cases_lt (length bytes) (entry_size level * n)) [
    | inl lt ↦ (let no = sym (not_all_there level number n bytes lt) ∙ whole in absurd cc)
    | inr le ↦ le
  ]

  same : items_of_bytes level number n bytes ≡ items
  same = same_items (items_of_bytes level number n bytes) items (drop (entry_size level * n) bytes) rest (sym (all_there level number n bytes all) ∙ whole)

  pub so_many : length items ≡ n
  so_many = sym (ap length same) ∙ length_items level number n bytes

  pub place_of : (i : ℕ) → i < n → slice_get items i ≡ Some (item_of level (number + i) (drop (entry_size level * i) bytes))
  place_of i lt = subst (λ (xs : List Item). slice_get xs i ≡ Some (item_of level (number + i) (drop (entry_size level * i) bytes))) same (at_place level number n i bytes lt)

abbrev first : Option (Item × List ℕ) → Item
first None = blank
first (Some f) = f.0

module _ (level number place : ℕ) (bytes : List ℕ) (there : offset_of level (place + 1) ≤ length bytes) where
  whole_entry : entry_size level ≤ length (drop (offset_of level place) bytes)
  whole_entry =
      let k = one_more level place in
      let e : place + 1 ≡ suc place = omega arith in
      let s : entry_size level * (place + 1) ≡ entry_size level + entry_size level * place = ap (λ (i : ℕ). entry_size level * i) e ∙ k in
      omega (arith, there, s, length-drop (offset_of level place) bytes)

  pub never : (start : ℕ) → None ≡ item_front Int4 level start (drop (offset_of level place) bytes) → ⊥
  never start has = let no = has ∙ in_front level start (drop (offset_of level place) bytes) whole_entry in absurd cc

  pub here : (e : Item) (behind : List ℕ) → Some (e, behind) ≡ item_front Int4 level (number + place) (drop (offset_of level place) bytes) →
      (n : ℕ) (items : List Item) (rest : List ℕ) → items_in Int4 level number n (drop 20 bytes) ≡ Some (items, rest) → place < n → slice_get items place ≡ Some e
  here e behind has n items rest whole lt =
      let is : e ≡ item_of level (number + place) (drop (offset_of level place) bytes) = ap first (has ∙ in_front level (number + place) (drop (offset_of level place) bytes) whole_entry) in
      place_of level number n (drop 20 bytes) items rest whole place lt
      ∙ (ap (λ (xs : List ℕ). Some (item_of level (number + place) xs)) (drop-drop (entry_size level * place) 20 bytes) ∙ ap Some (sym is))

-- ---- the search

one_le : (b : Bool) → one_if b ≤ 1
one_le true = omega arith
one_le false = omega arith

none_at : (p : Item → Bool) (xs : List Item) (i : ℕ) (x : Item) → NonePass p xs → slice_get xs i ≡ Some x → p x ≡ false
none_at p [] i x none at = absurd cc
none_at p (y ∷ ys) zero x none at = let k : y ≡ x = cc in subst (λ (z : Item). p z ≡ false) k none.0
none_at p (y ∷ ys) (suc i) x none at = none_at p ys i x none.1 at

-- an item that passes is among those counted
counted : (p : Item → Bool) (xs : List Item) (i : ℕ) (x : Item) → IsFront p xs → slice_get xs i ≡ Some x → p x ≡ true → i < count p xs
counted p [] i x front at passed = absurd cc
counted p (y ∷ ys) zero x front at passed =
    let k : y ≡ x = cc in
    let one : one_if (p y) ≡ 1 = ap one_if (ap p k ∙ passed) in
    omega (arith, one)
counted p (y ∷ ys) (suc i) x front at passed = by (p y) refl (counted p ys i x front.1 at passed) where
  by : (b : Bool) → p y ≡ b → i < count p ys → suc i < one_if (p y) + count p ys
  by true e lt = let one : one_if (p y) ≡ 1 = ap one_if e in omega (arith, one, lt)
  by false e lt = let wrong : true ≡ false = sym passed ∙ none_at p ys i x (front.0 e) at in absurd cc

-- and so many are counted at most as stand before one that doesn't pass
not_counted : (p : Item → Bool) (xs : List Item) (i : ℕ) (x : Item) → IsFront p xs → slice_get xs i ≡ Some x → p x ≡ false → count p xs ≤ i
not_counted p [] i x front at failed = omega arith
not_counted p (y ∷ ys) zero x front at failed =
    let k : y ≡ x = cc in
    let e : p y ≡ false = ap p k ∙ failed in
    let z : one_if (p y) ≡ 0 = ap one_if e in
    omega (arith, z, no_count p ys (front.0 e))
not_counted p (y ∷ ys) (suc i) x front at failed = omega (arith, one_le (p y), not_counted p ys i x front.1 at failed)

-- the count is within the part of the page that is left
pub record Narrowed (level start len : ℕ) (p : Item → Bool) (body : List ℕ) (low high : ℕ) : Type 0 where
  pub part : low ≤ high
  pub small : high ≤ len
  pub counts : (items : List Item) (rest : List ℕ) → items_in Int4 level start len body ≡ Some (items, rest) → IsFront p items → (low ≤ count p items) × (count p items ≤ high)

module _ (level start len : ℕ) (p : Item → Bool) (body : List ℕ) where
  pub whole_page : Narrowed level start len p body 0 len
  whole_page = record {
    part = omega arith;
    small = omega arith;
    counts = λ items rest whole front. (omega arith, omega (arith, few p items, so_many level start len body items rest whole));
  }

  module _ (low high middle : ℕ) (from : low ≤ middle) (upto : middle < high) (now : Narrowed level start len p body low high) (e : Item)
      (at : (n : ℕ) (items : List Item) (rest : List ℕ) → items_in Int4 level start n body ≡ Some (items, rest) → middle < n → slice_get items middle ≡ Some e) where
    inside : middle < len
    inside = omega (arith, upto, now.small)

    pub above : p e ≡ true → Narrowed level start len p body (middle + 1) high
    above passed = record {
      part = omega (arith, upto);
      small = now.small;
      counts = λ items rest whole front. (omega (arith, counted p items middle e front (at len items rest whole inside) passed), (now.counts items rest whole front).1);
    }

    pub below : p e ≡ false → Narrowed level start len p body low middle
    below failed = record {
      part = from;
      small = omega (arith, inside);
      counts = λ items rest whole front. ((now.counts items rest whole front).0, not_counted p items middle e front (at len items rest whole inside) failed);
    }

-- ---- the item that is chosen

none_chosen : (p : Item → Bool) (d : Item) (xs : List Item) → NonePass p xs → chosen p d xs ≡ d
none_chosen p d [] none = refl
none_chosen p d (x ∷ xs) none = rw none.0 (none_chosen p d xs none.1)

-- the last one counted, or what stands before them
chosen_at : (p : Item → Bool) (d : Item) (xs : List Item) → IsFront p xs → slice_get (d ∷ xs) (count p xs) ≡ Some (chosen p d xs)
chosen_at p d [] front = refl
chosen_at p d (x ∷ xs) front = by (p x) refl (chosen_at p x xs front.1) where
  by : (b : Bool) → p x ≡ b → slice_get (x ∷ xs) (count p xs) ≡ Some (chosen p x xs) → slice_get (d ∷ x ∷ xs) (one_if (p x) + count p xs) ≡ Some (chosen p d (x ∷ xs))
  by true e rest =
      let one : one_if (p x) ≡ 1 = ap one_if e in
      let k : one_if (p x) + count p xs ≡ suc (count p xs) = omega (arith, one) in
      rw (k, e) rest
  by false e rest =
      let z : one_if (p x) ≡ 0 = ap one_if e in
      let k : one_if (p x) + count p xs ≡ 0 = omega (arith, z, no_count p xs (front.0 e)) in
      rw (k, e, none_chosen p d xs (front.0 e)) refl

pub last_counted : (p : Item → Bool) (xs : List Item) (place : ℕ) (x : Item) → IsFront p xs → place ≡ count p xs - 1 → slice_get xs place ≡ Some x → x ≡ chosen p (first_of xs) xs
last_counted p [] place x front is at = absurd cc
last_counted p (y ∷ ys) place x front is at = by (p y) refl where
  some : {a b : Item} → ◌≡◌ {A = Option Item} (Some a) (Some b) → a ≡ b
  some e = cc

  by : (b : Bool) → p y ≡ b → x ≡ chosen p y (y ∷ ys)
  by true e =
      let one : one_if (p y) ≡ 1 = ap one_if e in
      let k : place ≡ count p ys = omega (arith, is, one) in
      let got : slice_get (y ∷ ys) (count p ys) ≡ Some x = subst (λ (i : ℕ). slice_get (y ∷ ys) i ≡ Some x) k at in
      rw e (some (sym got ∙ chosen_at p y ys front.1))
  by false e =
      let z : one_if (p y) ≡ 0 = ap one_if e in
      let k : place ≡ 0 = omega (arith, is, z, no_count p ys (front.0 e)) in
      let got : slice_get (y ∷ ys) 0 ≡ Some x = subst (λ (i : ℕ). slice_get (y ∷ ys) i ≡ Some x) k at in
      rw (e, none_chosen p y ys (front.0 e)) (some (sym got))

-- ---- the page

module _ (level start len : ℕ) (bytes : List ℕ) (long : length bytes ≡ 8192) (at_level : short_at bytes 16 ≡ level) (is : short_at bytes 6 ≡ len) (some : 0 < len) where
  pub too_many : length bytes < offset_of level len → page_fault Int4 level start bytes ≡ Some 7
  too_many lt = cut_short Int4 level start len bytes at_level is some (not_all_there level start len (drop 20 bytes) (omega (arith, lt, long, length-drop 20 bytes)))

  module _ (le : offset_of level len ≤ length bytes) (rest : List ℕ) (behind : rest ≡ drop (offset_of level len) bytes) where
    read : items_in Int4 level start len (drop 20 bytes) ≡ Some (items_of_bytes level start len (drop 20 bytes), rest)
    read =
        all_there level start len (drop 20 bytes) (omega (arith, le, long, length-drop 20 bytes))
        ∙ ap (λ (xs : List ℕ). Some (items_of_bytes level start len (drop 20 bytes), xs)) (drop-drop (entry_size level * len) 20 bytes ∙ sym behind)

    pub more_behind : list_all (λ b. b == 0) rest ≡ false → page_fault Int4 level start bytes ≡ Some 8
    more_behind z = not_zeros Int4 level start len bytes at_level is some (items_of_bytes level start len (drop 20 bytes)) rest read z

    pub is_fine : list_all (λ b. b == 0) rest ≡ true → IsFine level start bytes len
    is_fine z = record {
      fine = all_zeros Int4 level start len bytes at_level is some (items_of_bytes level start len (drop 20 bytes)) rest read z;
      counted = is;
      some = some;
      there = omega (arith, le, long);
    }

pub before : (level a b : ℕ) → a ≤ b → offset_of level a ≤ offset_of level b
before zero a b le = omega (arith, le)
before (suc level) a b le = omega (arith, le)

pub scanned : (level start len : ℕ) (aim : Aim) (bytes : List ℕ) (step : Step) (place : ℕ) → length bytes ≡ 8192 → IsFine level start bytes len → place < len → place ≡ step.count - 1 →
    ((n : ℕ) (items : List Item) (rest : List ℕ) → items_in Int4 level start n (drop 20 bytes) ≡ Some (items, rest) → place < n → slice_get items place ≡ Some (seen_item step.entry)) →
    ((items : List Item) (rest : List ℕ) → items_in Int4 level start len (drop 20 bytes) ≡ Some (items, rest) → IsFront (passes aim) items → step.count ≡ count (passes aim) items) →
    Scans Int4 level start aim bytes step
scanned level start len aim bytes step place long f lt is at counts =
    let items = items_of_bytes level start len (drop 20 bytes) in
    let rest = drop (entry_size level * len) (drop 20 bytes) in
    let there = f.there in
    let whole = all_there level start len (drop 20 bytes) (omega (arith, there, long, length-drop 20 bytes)) in
    record {
      fine = f.fine;
      items = items;
      rest = rest;
      holds = ap (λ (k : ℕ). items_in Int4 level start k (drop 20 bytes)) f.counted ∙ whole;
      place = place;
      here = at len items rest whole lt;
      counts = λ front. counts items rest whole front;
      last = λ front. last_counted (passes aim) items place (seen_item step.entry) front (is ∙ ap (λ (n : ℕ). n - 1) (counts items rest whole front)) (at len items rest whole lt);
    }
