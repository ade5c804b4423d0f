-- The row that bytes encode, whole.
use Rattle.std.proofs.Common.{◌≡◌, ℕ, zero, suc, ◌+◌, ◌≤◌, ◌<◌, Bool, true, false, true≢false, cond, ◌&&◌, leb, eqb, List, [], ◌∷◌, ◌++◌, append_assoc, length, get_or, take, drop, refl, sym, ap, subst, ◌∙◌, arith, inl, inr, Option, Some, None, Result, Ok, Err, IfOk, option_map, option_and_then, is_some, IsSome, IfSome, IsTrue, lit≤, flat_map, leb-true, le-leb, take-append-drop, length-append, length-take-le, take_at, drop_at}
use Rattle.std.proofs.lemmas.Option.{none-some}
use Rattle.std.proofs.lemmas.Bool.{cases_Bool, and_parts, lt-leb}
use Rattle.std.proofs.Math.Bool.{and-false}
use Rattle.std.proofs.Math.ListN.{drop_of_length-le}
use Rattle.std.proofs.lemmas.List.{drop_more}
use Rattle.rows.specs.declared.value.Value.{Value}
use Rattle.rows.specs.declared.plain.Column.{Column}
use Rattle.rows.specs.Values.{column_of}
use Rattle.rows.specs.RowBytes.{IsRowOf, nullables, bit_bytes, low_bytes, null_bits, row_bytes, value_bytes, Encodes, Decodes}
use Rattle.rows.specs.RowFields.{Front, behind, bits_behind, ends, low_number, row_in, row_or_none, value_front, values_in}
use Rattle.rows.proofs.RowBits.{IsBytes, bits_again, length-low_bytes, low_back}
use Rattle.rows.proofs.RowValues.{IsBytes-take, IsBytes-drop, cond_true, cond_false, some_same, values_again, values_back}

-- the bytes of a row are read as this row
pub row_again : (columns : List Column) (row : List Value) → length columns ≤ 32 → IsRowOf columns row → row_in columns (row_bytes columns row) ≡ Some row
row_again columns row few_columns is =
    let front = low_bytes (bit_bytes columns) (null_bits columns row) in
    let fields = flat_map value_bytes row in
    let len : length front ≡ bit_bytes columns = length-low_bytes (bit_bytes columns) (null_bits columns row) in
    let few : leb (length columns) 32 ≡ true = le-leb (length columns) 32 few_columns in
    let there : leb (bit_bytes columns) (length (front ++ fields)) ≡ true = le-leb (bit_bytes columns) (length (front ++ fields)) (omega (arith, length-append front fields, len)) in
    rw (few, there, take_at front fields (bit_bytes columns) len, drop_at front fields (bit_bytes columns) len, bits_again columns row) (values_again columns row is)

bytes_again : (columns : List Column) (row : List Value) (bytes : List ℕ) → Encodes columns row bytes → row_in columns bytes ≡ Some row
bytes_again columns row bytes h = rw h.are_bytes (row_again columns row h.few h.is_row)

row_back : (columns : List Column) (row : List Value) (bytes : List ℕ) → IsBytes bytes → row_in columns bytes ≡ Some row → Encodes columns row bytes
row_back columns row bytes small e =
    let n = bit_bytes columns in
    elim (cases_Bool (leb (length columns) 32 && leb n (length bytes))) [
      | inr other ↦ absurd (none-some row (cond_false _ _ _ _ other e))
      | inl both ↦
          let two = and_parts (leb (length columns) 32) (leb n (length bytes)) both in
          let r = values_back columns (low_number (take n bytes)) (drop n bytes) row (IsBytes-drop n bytes small) (cond_true _ _ _ _ both e) in
          let len : length (take n bytes) ≡ n = length-take-le n bytes (leb-true _ _ two.1) in
          let front : low_bytes n (null_bits columns row) ≡ take n bytes = ap (low_bytes n) (sym r.bits_are) ∙ (ap (λ (k : ℕ). low_bytes k (low_number (take n bytes))) (sym len) ∙ low_back (take n bytes) (IsBytes-take n bytes small)) in
          record {
            few = leb-true _ _ two.0;
            is_row = r.is_row;
            are_bytes = sym (rw (front, ← r.are_bytes) (take-append-drop n bytes));
          }
    ]

pub decodes : (columns : List Column) (bytes : List ℕ) → IsBytes bytes → Decodes columns bytes (row_in columns bytes)
decodes columns bytes small = by (row_in columns bytes) refl where
  by : (found : Option (List Value)) → row_in columns bytes ≡ found → Decodes columns bytes found
  by None e = record { sound = tt; complete = (λ row h. absurd (none-some row (sym e ∙ bytes_again columns row bytes h))) }
  by (Some row) e = record { sound = row_back columns row bytes small e; complete = (λ other h. sym e ∙ bytes_again columns other bytes h) }

-- ---- walking over the columns

pub ends_where : (cs : List Column) (bits : ℕ) (bytes : List ℕ) → is_some (values_in cs bits bytes) ≡ ends (behind cs bits bytes)
ends_where [] bits bytes = by (eqb bits 0 && eqb (length bytes) 0) where
  nothing : Option (List Value)
  nothing = Some []

  by : (b : Bool) → is_some (cond b nothing None) ≡ b
  by true = refl
  by false = refl
ends_where (c ∷ cs) bits bytes = by (value_front c bits bytes) (λ b xs. ends_where cs b xs) where
  mapped : (v : Value) (found : Option (List Value)) → is_some (option_map (λ ws. v ∷ ws) found) ≡ is_some found
  mapped v None = refl
  mapped v (Some ws) = refl

  by : (front : Option Front) → ((b : ℕ) (xs : List ℕ) → is_some (values_in cs b xs) ≡ ends (behind cs b xs)) →
      is_some (option_and_then (λ (p : Front). option_map (λ ws. p.0 ∷ ws) (values_in cs (bits_behind c bits) p.1)) front) ≡ ends (option_and_then (λ (p : Front). behind cs (bits_behind c bits) p.1) front)
  by None again = refl
  by (Some p) again = mapped p.0 (values_in cs (bits_behind c bits) p.1) ∙ again (bits_behind c bits) p.1

-- the first value of a row that is read
pub record First (c : Column) (cs : List Column) (bits : ℕ) (bytes : List ℕ) (row : List Value) : Type 0 where
  pub value : Value
  pub rest : List ℕ
  pub values : List Value
  pub front : value_front c bits bytes ≡ Some (value, rest)
  pub more : values_in cs (bits_behind c bits) rest ≡ Some values
  pub whole : value ∷ values ≡ row

pub first : (c : Column) (cs : List Column) (bits : ℕ) (bytes : List ℕ) (row : List Value) → values_in (c ∷ cs) bits bytes ≡ Some row → First c cs bits bytes row
first c cs bits bytes row e = by (value_front c bits bytes) refl e where
  more : (v : Value) (rest : List ℕ) → value_front c bits bytes ≡ Some (v, rest) → (left : Option (List Value)) → values_in cs (bits_behind c bits) rest ≡ left → option_map (λ ws. v ∷ ws) left ≡ Some row → First c cs bits bytes row
  more v rest f None l m = absurd (none-some row m)
  more v rest f (Some ws) l m = record { value = v; rest = rest; values = ws; front = f; more = l; whole = some_same (v ∷ ws) row m }

  by : (front : Option Front) → value_front c bits bytes ≡ front → option_and_then (λ (p : Front). option_map (λ ws. p.0 ∷ ws) (values_in cs (bits_behind c bits) p.1)) front ≡ Some row → First c cs bits bytes row
  by None f m = absurd (none-some row m)
  by (Some p) f m = more p.0 p.1 f (values_in cs (bits_behind c bits) p.1) refl m

-- what stands at a column
pub record At (cs : List Column) (bits : ℕ) (bytes : List ℕ) (row : List Value) (place : ℕ) (c : Column) : Type 0 where
  pub bits_there : ℕ
  pub bytes_there : List ℕ
  pub rest : List ℕ
  pub before : behind (take place cs) bits bytes ≡ Some (bits_there, bytes_there)
  pub front : value_front (get_or cs place c) bits_there bytes_there ≡ Some (column_of row place, rest)

pub at : (cs : List Column) (bits : ℕ) (bytes : List ℕ) (row : List Value) (place : ℕ) (c : Column) → values_in cs bits bytes ≡ Some row → place < length cs → At cs bits bytes row place c
at [] bits bytes row place c e h = absurd (omega (arith, h))
at (d ∷ cs) bits bytes row zero c e h =
    let f = first d cs bits bytes row e in
    record { bits_there = bits; bytes_there = bytes; rest = f.rest; before = refl; front = f.front ∙ ap (λ (vs : List Value). Some (column_of vs 0, f.rest)) f.whole }
at (d ∷ cs) bits bytes row (suc place) c e h =
    let f = first d cs bits bytes row e in
    let a = at cs (bits_behind d bits) f.rest f.values place c f.more (omega (arith, h)) in
    record {
      bits_there = a.bits_there;
      bytes_there = a.bytes_there;
      rest = a.rest;
      before = rw f.front a.before;
      front = a.front ∙ ap (λ (vs : List Value). Some (column_of vs (suc place), a.rest)) f.whole;
    }

pub same_length : (cs : List Column) (bits : ℕ) (bytes : List ℕ) (row : List Value) → values_in cs bits bytes ≡ Some row → length row ≡ length cs
same_length [] bits bytes row e =
    elim (cases_Bool (eqb bits 0 && eqb (length bytes) 0)) [
      | inl both ↦ ap length (sym (some_same [] row (cond_true _ _ _ _ both e)))
      | inr other ↦ absurd (none-some row (cond_false _ _ _ _ other e))
    ]
same_length (c ∷ cs) bits bytes row e =
    let f = first c cs bits bytes row e in
    ap length (sym f.whole) ∙ ap suc (same_length cs (bits_behind c bits) f.rest f.values f.more)

-- ---- what the code meets

pub none_there : (columns : List Column) (bytes : List ℕ) → IsBytes bytes → (leb (length columns) 32 && leb (bit_bytes columns) (length bytes)) ≡ false → Decodes columns bytes None
none_there columns bytes small e = subst (Decodes columns bytes) (rw e refl) (decodes columns bytes small)

pub too_many : (columns : List Column) (bytes : List ℕ) → IsBytes bytes → 32 < length columns → Decodes columns bytes None
too_many columns bytes small h = none_there columns bytes small (rw (lt-leb (length columns) 32 h) refl)

pub too_short : (columns : List Column) (bytes : List ℕ) → IsBytes bytes → length bytes < bit_bytes columns → Decodes columns bytes None
too_short columns bytes small h = none_there columns bytes small (rw (lt-leb (bit_bytes columns) (length bytes) h) (and-false (leb (length columns) 32)))

pub there : (columns : List Column) (bytes : List ℕ) → IsBytes bytes → length columns ≤ 32 → bit_bytes columns ≤ length bytes →
    Decodes columns bytes (values_in columns (low_number (take (bit_bytes columns) bytes)) (drop (bit_bytes columns) bytes))
there columns bytes small few long = subst (Decodes columns bytes) (rw (le-leb _ _ few, le-leb _ _ long) refl) (decodes columns bytes small)

-- the parts of bytes that are long enough
pub parts_of : (columns : List Column) (bytes : List ℕ) → length columns ≤ 32 → bit_bytes columns ≤ length bytes →
    row_in columns bytes ≡ values_in columns (low_number (take (bit_bytes columns) bytes)) (drop (bit_bytes columns) bytes)
parts_of columns bytes few long = rw (le-leb _ _ few, le-leb _ _ long) refl

nullables_few : (columns : List Column) → nullables columns ≤ length columns
nullables_few [] = lit≤ tt
nullables_few (c ∷ cs) = elim c.nullable as (λ b. cond b 1 0 + nullables cs ≤ suc (length cs)) [
  | true ↦ omega (arith, nullables_few cs)
  | false ↦ omega (arith, nullables_few cs)
]

-- the bits of 32 columns stand in four bytes
pub bits_small : (columns : List Column) → length columns ≤ 32 → bit_bytes columns ≤ 4
bits_small columns few = omega (arith, nullables_few columns)

-- a row that is read is of the columns
pub read_of : (columns : List Column) (bytes : List ℕ) (found : Option (List Value)) → Decodes columns bytes found → IfSome found (IsRowOf columns)
read_of columns bytes None d = tt
read_of columns bytes (Some row) d = d.sound.is_row

pub some_of : (found : Option (List Value)) → is_some found ≡ true → found ≡ Some (row_or_none found)
some_of None e = absurd (true≢false (sym e))
some_of (Some row) e = refl

pub none_of : (found : Option (List Value)) → is_some found ≡ false → found ≡ None
none_of None e = refl
none_of (Some row) e = absurd (true≢false e)

pub whole_of : (found : Option (List Value)) (row : List Value) → IsTrue (is_some found) → row_or_none found ≡ row → found ≡ Some row
whole_of found row e v = some_of found e ∙ ap Some v

pub field_at : (cs : List Column) (bits : ℕ) (bytes : List ℕ) (row : List Value) (place : ℕ) (c : Column) → values_in cs bits bytes ≡ Some row → place < length cs →
    (b : ℕ) (xs : List ℕ) → behind (take place cs) bits bytes ≡ Some (b, xs) → (rest : List ℕ) × (value_front (get_or cs place c) b xs ≡ Some (column_of row place, rest))
field_at cs bits bytes row place c e h b xs before =
    let a = at cs bits bytes row place c e h in
    let pair : ◌≡◌ {A = ℕ × List ℕ} (a.bits_there, a.bytes_there) (b, xs) = some_same (a.bits_there, a.bytes_there) (b, xs) (sym a.before ∙ before) in
    (a.rest, ap (λ (p : ℕ × List ℕ). value_front (get_or cs place c) p.0 p.1) (sym pair) ∙ a.front)

-- what stands before a column of a row that is read
pub behind_some : (cs : List Column) (bits : ℕ) (bytes : List ℕ) (row : List Value) (place : ℕ) (c : Column) → values_in cs bits bytes ≡ Some row → place < length cs →
    IsSome (behind (take place cs) bits bytes)
behind_some cs bits bytes row place c e h = ap is_some (at cs bits bytes row place c e h).before

-- one value more of a row that is read
pub one_more : (cs : List Column) (i bits : ℕ) (bytes : List ℕ) (tail : List Value) (c : Column) → i < length cs → c ≡ get_or cs i c → values_in (drop i cs) bits bytes ≡ Some tail →
    First c (drop (i + 1) cs) bits bytes tail
one_more cs i bits bytes tail c h same e =
    let split : drop i cs ≡ c ∷ drop (i + 1) cs = drop_more cs i c h ∙ ap (λ (d : Column). d ∷ drop (i + 1) cs) (sym same) in
    first c (drop (i + 1) cs) bits bytes tail (sym (ap (λ (xs : List Column). values_in xs bits bytes) split) ∙ e)

-- no value is left
pub none_left : (cs : List Column) (i bits : ℕ) (bytes : List ℕ) (tail : List Value) → length cs ≤ i → values_in (drop i cs) bits bytes ≡ Some tail → tail ≡ []
none_left cs i bits bytes tail h e = empty tail (same_length [] bits bytes tail (sym (ap (λ (xs : List Column). values_in xs bits bytes) (drop_of_length-le cs h)) ∙ e)) where
  empty : (vs : List Value) → length vs ≡ 0 → vs ≡ []
  empty [] l = refl
  empty (v ∷ vs) l = absurd (omega (arith, l))

-- the next value of a row that is read, behind those read before
pub step : (cs : List Column) (i bits : ℕ) (bytes : List ℕ) (all front now : List Value) (c : Column) (v : Value) (rest : List ℕ) → i < length cs → c ≡ get_or cs i c →
    (tail : List Value) × (values_in (drop i cs) bits bytes ≡ Some tail) × (front ++ tail ≡ all) →
    ◌≡◌ {A = Option Front} (Some (v, rest)) (value_front c bits bytes) → now ≡ front ++ v ∷ [] →
    (tail : List Value) × (values_in (drop (i + 1) cs) (bits_behind c bits) rest ≡ Some tail) × (now ++ tail ≡ all)
step cs i bits bytes all front now c v rest h same (tail, e, whole) is pushed =
    let f = one_more cs i bits bytes tail c h same e in
    let pair : ◌≡◌ {A = Front} (f.value, f.rest) (v, rest) = some_same (f.value, f.rest) (v, rest) (sym f.front ∙ sym is) in
    let value : f.value ≡ v = ap (λ (p : Front). p.0) pair in
    let left : f.rest ≡ rest = ap (λ (p : Front). p.1) pair in (
      f.values,
      subst (λ (xs : List ℕ). values_in (drop (i + 1) cs) (bits_behind c bits) xs ≡ Some f.values) left f.more,
      ap (λ (xs : List Value). xs ++ f.values) pushed ∙ (append_assoc front (v ∷ []) f.values ∙ (ap (λ (w : Value). front ++ w ∷ f.values) (sym value) ∙ (ap (λ (xs : List Value). front ++ xs) f.whole ∙ whole))),
    )

-- the parts that the code has are those of the bytes
pub same_values : (columns cs : List Column) (bytes front rest : List ℕ) (n bits : ℕ) → n ≡ bit_bytes columns → cs ≡ columns → front ≡ take n bytes → rest ≡ drop n bytes → bits ≡ low_number front →
    values_in columns (low_number (take (bit_bytes columns) bytes)) (drop (bit_bytes columns) bytes) ≡ values_in cs bits rest
same_values columns cs bytes front rest n bits is same f r b = rw (b, f, r, same, is) refl

-- what was read of the same bytes
pub found_same : (columns : List Column) (bytes : List ℕ) (there read : Option (List Value)) → there ≡ read → Decodes columns bytes there →
    {E : Type 0} (result : Result (Option (List Value)) E) → IfOk result (λ found. found ≡ read) → IfOk result (Decodes columns bytes)
found_same columns bytes there read same d (Ok found) is = subst (Decodes columns bytes) (same ∙ sym is) d
found_same columns bytes there read same d (Err e) is = tt
