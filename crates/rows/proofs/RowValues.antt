-- Values and rows read again from their bytes.
use Rattle.std.proofs.Common.{◌≡◌, ℕ, ℤ, ◌+◌, ◌*◌, ◌/◌, ◌%◌, ◌^◌, ◌<◌, ◌≤◌, Bool, true, false, cond, ◌&&◌, ◌||◌, eqb, ltb, List, [], ◌∷◌, ◌++◌, length, take, drop, refl, sym, ap, ap₂, ◌∙◌, arith, inl, inr, Option, Some, None, option_map, option_and_then, IsTrue, flat_map, ltb-false, le-ltb, eqb-true, append_assoc, true≢false, take-append-drop, length-append, take_at, drop_at, subst, FitsSigned, to_z-of_z}
use Rattle.std.proofs.lemmas.Option.{none-some}
use Rattle.std.proofs.lemmas.Bool.{cases_Bool, cases_lt, and_parts, eqb-false}
use Rattle.std.proofs.lemmas.List.{length-take-le}
use Rattle.std.proofs.lemmas.List as lists
use Rattle.std.proofs.Math.Facts.{Fits-lt-pow, Fits-of_z, Fits-of_lt, sfits_to_z}
use Rattle.std.proofs.lemmas.Int.{of_z-to_z}
use Rattle.std.proofs.Math.Bool.{and-false}
use Rattle.std.proofs.lemmas.Nat.{be_bytes_2, be_bytes_4, from_be_bytes-to_be_bytes_2, from_be_bytes-to_be_bytes_4}
use Rattle.std.specs.Int.{w16, w32, from_be_bytes, to_be_bytes, cast_signed, cast_unsigned}
use Rattle.std.specs.Str.{is_utf8}
use Rattle.rows.specs.declared.value.Value.{Value}
use Rattle.rows.specs.declared.value.Value.TheVariants.{Null, Number, Word, Truth}
use Rattle.rows.specs.declared.plain.Column.{Column}
use Rattle.rows.specs.declared.field.ColType.{ColType}
use Rattle.rows.specs.declared.field.ColType.TheVariants as col
use Rattle.rows.specs.RowBytes.{IsOfType, IsValueOf, IsRowOf, null_bits, one_if_null, value_bytes}
use Rattle.rows.specs.RowFields.{Front, integer_front, text_of_size, text_front, truth_front, typed_front, bits_behind, value_front, values_in}
use Rattle.rows.proofs.RowBits.{IsBytes}

pub cond_true : {A : Type 0} (b : Bool) (x y z : A) → b ≡ true → cond b x y ≡ z → x ≡ z
cond_true true x y z e h = h
cond_true false x y z e h = absurd (true≢false (sym e))

pub cond_false : {A : Type 0} (b : Bool) (x y z : A) → b ≡ false → cond b x y ≡ z → y ≡ z
cond_false true x y z e h = absurd (true≢false e)
cond_false false x y z e h = h

abbrev some_or : {A : Type 0} → A → Option A → A
some_or other None = other
some_or other (Some x) = x

pub some_same : {A : Type 0} (x y : A) → ◌≡◌ {A = Option A} (Some x) (Some y) → x ≡ y
some_same x y e = ap (some_or x) e

pub IsBytes-drop : (n : ℕ) (bytes : List ℕ) → IsBytes bytes → IsBytes (drop n bytes)
IsBytes-drop n bytes h i = rw lists.get_or-drop (h (n + i))

pub IsBytes-take : (n : ℕ) (bytes : List ℕ) → IsBytes bytes → IsBytes (take n bytes)
IsBytes-take n bytes h i =
    elim (cases_lt i n) [
      | inl lt ↦ rw (lists.get_or-take n bytes i 0 lt) (h i)
      | inr le ↦ rw (lists.get_or_past (take n bytes) i 0 (omega (arith, lists.length-take n bytes))) (omega arith)
    ]

-- ---- a value that was written is read

unsigned_fits : (n : ℤ) → FitsSigned w32 n → cast_unsigned w32 n < 2 ^ 32
unsigned_fits n fits = Fits-lt-pow (Fits-of_z fits)

integer_again : (n : ℤ) (rest : List ℕ) → FitsSigned w32 n → integer_front (value_bytes (Number n) ++ rest) ≡ Some (Number n, rest)
integer_again n rest fits =
    let bytes = to_be_bytes w32 (cast_unsigned w32 n) in
    let enough : ltb (length (bytes ++ rest)) 4 ≡ false = le-ltb (length (bytes ++ rest)) 4 (omega (arith, length-append bytes rest)) in
    let number : from_be_bytes w32 (take 4 (bytes ++ rest)) ≡ cast_unsigned w32 n = ap (from_be_bytes w32) (take_at bytes rest 4 refl) ∙ from_be_bytes-to_be_bytes_4 (cast_unsigned w32 n) (unsigned_fits n fits) in
    rw (enough, number, to_z-of_z fits, drop_at bytes rest 4 refl) refl

text_again : (w : List ℕ) (rest : List ℕ) → IsTrue (is_utf8 w) → length w ≤ 2000 → text_front (value_bytes (Word w) ++ rest) ≡ Some (Word w, rest)
text_again w rest utf8 short =
    let size = to_be_bytes w16 (length w) in
    let all : (size ++ w) ++ rest ≡ size ++ (w ++ rest) = refl in
    let enough : ltb (length (size ++ (w ++ rest))) 2 ≡ false = le-ltb (length (size ++ (w ++ rest))) 2 (omega (arith, length-append size (w ++ rest))) in
    let number : from_be_bytes w16 (take 2 (size ++ (w ++ rest))) ≡ length w = ap (from_be_bytes w16) (take_at size (w ++ rest) 2 refl) ∙ from_be_bytes-to_be_bytes_2 (length w) (omega (arith, short)) in
    let long : ltb 2000 (length w) ≡ false = le-ltb 2000 (length w) short in
    let there : ltb (length (w ++ rest)) (length w) ≡ false = le-ltb (length (w ++ rest)) (length w) (omega (arith, length-append w rest)) in
    rw (enough, number, drop_at size (w ++ rest) 2 refl, long, there, take_at w rest (length w) refl, utf8, drop_at w rest (length w) refl) refl

truth_again : (b : Bool) (rest : List ℕ) → truth_front (value_bytes (Truth b) ++ rest) ≡ Some (Truth b, rest)
truth_again true rest = refl
truth_again false rest = refl

pub typed_again : (t : ColType) (v : Value) (rest : List ℕ) → IsOfType t v → typed_front t (value_bytes v ++ rest) ≡ Some (v, rest)
typed_again col.Int4 Null rest h = elim h [ ]
typed_again col.Int4 (Number n) rest h = integer_again n rest h
typed_again col.Int4 (Word w) rest h = elim h [ ]
typed_again col.Int4 (Truth b) rest h = elim h [ ]
typed_again col.Text Null rest h = elim h [ ]
typed_again col.Text (Number n) rest h = elim h [ ]
typed_again col.Text (Word w) rest h = text_again w rest h.0 h.1
typed_again col.Text (Truth b) rest h = elim h [ ]
typed_again col.Bool Null rest h = elim h [ ]
typed_again col.Bool (Number n) rest h = elim h [ ]
typed_again col.Bool (Word w) rest h = elim h [ ]
typed_again col.Bool (Truth b) rest h = truth_again b rest

-- a value takes at most 2,002 bytes
pub value_small : (t : ColType) (v : Value) → IsOfType t v → length (value_bytes v) ≤ 2002
value_small col.Int4 Null h = elim h [ ]
value_small col.Int4 (Number n) h = omega arith
value_small col.Int4 (Word w) h = elim h [ ]
value_small col.Int4 (Truth b) h = elim h [ ]
value_small col.Text Null h = elim h [ ]
value_small col.Text (Number n) h = elim h [ ]
value_small col.Text (Word w) h = omega (arith, h.1)
value_small col.Text (Truth b) h = elim h [ ]
value_small col.Bool Null h = elim h [ ]
value_small col.Bool (Number n) h = elim h [ ]
value_small col.Bool (Word w) h = elim h [ ]
value_small col.Bool (Truth true) h = omega arith
value_small col.Bool (Truth false) h = omega arith

-- the first column's bit
first_bit : (n : Bool) (one bits : ℕ) → one ≤ 1 → (n && eqb (cond n (one + 2 * bits) bits % 2) 1) ≡ (n && eqb one 1)
first_bit true one bits le = let k : (one + 2 * bits) % 2 ≡ one = omega (arith, le) in rw k refl
first_bit false one bits le = refl

bits_after : (c : Column) (one bits : ℕ) → one ≤ 1 → bits_behind c (cond c.nullable (one + 2 * bits) bits) ≡ bits
bits_after c one bits le = elim c.nullable as (λ n. cond n (cond n (one + 2 * bits) bits / 2) (cond n (one + 2 * bits) bits) ≡ bits) [ true ↦ omega (arith, le) | false ↦ refl ]

front_again : (c : Column) (v : Value) (bits : ℕ) (rest : List ℕ) → IsValueOf c v → value_front c (cond c.nullable (one_if_null v + 2 * bits) bits) (value_bytes v ++ rest) ≡ Some (v, rest)
front_again c Null bits rest h = rw (first_bit c.nullable 1 bits (omega arith), h) refl
front_again c (Number n) bits rest h = rw (first_bit c.nullable 0 bits (omega arith), and-false c.nullable) (typed_again c.col_type (Number n) rest h)
front_again c (Word w) bits rest h = rw (first_bit c.nullable 0 bits (omega arith), and-false c.nullable) (typed_again c.col_type (Word w) rest h)
front_again c (Truth b) bits rest h = rw (first_bit c.nullable 0 bits (omega arith), and-false c.nullable) (typed_again c.col_type (Truth b) rest h)

one_at_most : (v : Value) → one_if_null v ≤ 1
one_at_most Null = omega arith
one_at_most (Number n) = omega arith
one_at_most (Word w) = omega arith
one_at_most (Truth b) = omega arith

-- a row that was written is read
pub values_again : (cs : List Column) (vs : List Value) → IsRowOf cs vs → values_in cs (null_bits cs vs) (flat_map value_bytes vs) ≡ Some vs
values_again [] [] h = refl
values_again [] (v ∷ vs) h = elim h [ ]
values_again (c ∷ cs) [] h = elim h [ ]
values_again (c ∷ cs) (v ∷ vs) h =
    rw (front_again c v (null_bits cs vs) (flat_map value_bytes vs) h.0, bits_after c (one_if_null v) (null_bits cs vs) (one_at_most v), values_again cs vs h.1) refl

-- ---- a value that is read was written

-- what was read from the front of the bytes
pub record Back (P : Value → Type 0) (bytes : List ℕ) (v : Value) (rest : List ℕ) : Type 0 where
  pub is_value : P v
  pub are_bytes : bytes ≡ value_bytes v ++ rest

back : (P : Value → Type 0) (bytes : List ℕ) (v w : Value) (xs ys : List ℕ) → ◌≡◌ {A = Option Front} (Some (w, ys)) (Some (v, xs)) → P w → bytes ≡ value_bytes w ++ ys → Back P bytes v xs
back P bytes v w xs ys e p b =
    let pair : ◌≡◌ {A = Front} (w, ys) (v, xs) = some_same (w, ys) (v, xs) e in
    let first : w ≡ v = ap (λ q. q.0) pair in
    let second : ys ≡ xs = ap (λ q. q.1) pair in
    record { is_value = rw (← first) p; are_bytes = b ∙ ap₂ (λ (u : Value) (zs : List ℕ). value_bytes u ++ zs) first second }

four_below : (bytes : List ℕ) → IsBytes bytes → from_be_bytes w32 bytes < 2 ^ 32
four_below bytes small = omega (arith, small 0, small 1, small 2, small 3)

integer_back : (bytes : List ℕ) (v : Value) (rest : List ℕ) → IsBytes bytes → integer_front bytes ≡ Some (v, rest) → Back (IsOfType col.Int4) bytes v rest
integer_back bytes v rest small e =
    elim (cases_Bool (ltb (length bytes) 4)) [
      | inl short ↦ absurd (none-some (v, rest) (cond_true _ _ _ _ short e))
      | inr long ↦
          let front = take 4 bytes in
          let four : length front ≡ 4 = length-take-le 4 bytes (ltb-false _ _ long) in
          let bits = from_be_bytes w32 front in
          let written : to_be_bytes w32 bits ≡ front = be_bytes_4 front bits four (IsBytes-take 4 bytes small) refl in
          let fits : bits < 2 ^ 32 = four_below front (IsBytes-take 4 bytes small) in
          back (IsOfType col.Int4) bytes v (Number (cast_signed w32 bits)) rest (drop 4 bytes) (cond_false _ _ _ _ long e) (sfits_to_z (Fits-of_lt fits))
          (sym (take-append-drop 4 bytes) ∙ ap (λ (xs : List ℕ). xs ++ drop 4 bytes) (sym (ap (to_be_bytes w32) (of_z-to_z w32 bits fits) ∙ written)))
    ]

two_below : (bytes : List ℕ) → IsBytes bytes → from_be_bytes w16 bytes < 2 ^ 16
two_below bytes small = omega (arith, small 0, small 1)

or_parts : (a b : Bool) → (a || b) ≡ false → (a ≡ false) × (b ≡ false)
or_parts true b e = absurd (true≢false e)
or_parts false b e = (refl, e)

text_of_size_back : (size : ℕ) (bytes rest : List ℕ) (v : Value) → text_of_size size bytes ≡ Some (v, rest) →
    (IsTrue (is_utf8 (take size bytes))) × (length (take size bytes) ≡ size) × (size ≤ 2000) × (◌≡◌ {A = Option Front} (Some (Word (take size bytes), drop size bytes)) (Some (v, rest)))
text_of_size_back size bytes rest v e =
    elim (cases_Bool (ltb 2000 size || ltb (length bytes) size)) [
      | inl bad ↦ absurd (none-some (v, rest) (cond_true _ _ _ _ bad e))
      | inr good ↦
          let two = or_parts (ltb 2000 size) (ltb (length bytes) size) good in
          elim (cases_Bool (is_utf8 (take size bytes))) [
            | inl utf8 ↦ (utf8, length-take-le size bytes (ltb-false _ _ two.1), ltb-false _ _ two.0, cond_true _ _ _ _ utf8 (cond_false _ _ _ _ good e))
            | inr other ↦ absurd (none-some (v, rest) (cond_false _ _ _ _ other (cond_false _ _ _ _ good e)))
          ]
    ]

text_whole : (bytes front behind : List ℕ) (size : ℕ) → front ++ behind ≡ bytes → to_be_bytes w16 size ≡ front → length (take size behind) ≡ size →
    bytes ≡ (to_be_bytes w16 (length (take size behind)) ++ take size behind) ++ drop size behind
text_whole bytes front behind size split written len =
    let text = take size behind in
    let rest = drop size behind in
    sym split ∙ (ap (λ (xs : List ℕ). front ++ xs) (sym (take-append-drop size behind)) ∙ (sym (append_assoc front text rest) ∙ ap (λ (xs : List ℕ). (xs ++ text) ++ rest) (sym (ap (to_be_bytes w16) len ∙ written))))

text_back : (bytes : List ℕ) (v : Value) (rest : List ℕ) → IsBytes bytes → text_front bytes ≡ Some (v, rest) → Back (IsOfType col.Text) bytes v rest
text_back bytes v rest small e =
    elim (cases_Bool (ltb (length bytes) 2)) [
      | inl short ↦ absurd (none-some (v, rest) (cond_true _ _ _ _ short e))
      | inr long ↦
          let front = take 2 bytes in
          let behind = drop 2 bytes in
          let size = from_be_bytes w16 front in
          let written : to_be_bytes w16 size ≡ front = be_bytes_2 front size (length-take-le 2 bytes (ltb-false _ _ long)) (IsBytes-take 2 bytes small) refl in
          let h = text_of_size_back size behind rest v (cond_false _ _ _ _ long e) in
          back (IsOfType col.Text) bytes v (Word (take size behind)) rest (drop size behind) h.3 (h.0, rw h.1 h.2)
          (text_whole bytes front behind size (take-append-drop 2 bytes) written h.1)
    ]

truth_back : (bytes : List ℕ) (v : Value) (rest : List ℕ) → truth_front bytes ≡ Some (v, rest) → Back (IsOfType col.Bool) bytes v rest
truth_back [] v rest e = absurd (none-some (v, rest) e)
truth_back (b ∷ bytes) v rest e =
    elim (cases_Bool (eqb b 0)) [
      | inl zero_is ↦ back (IsOfType col.Bool) (b ∷ bytes) v (Truth false) rest bytes (cond_true _ _ _ _ zero_is e) tt (ap (λ (x : ℕ). x ∷ bytes) (eqb-true b 0 zero_is))
      | inr other ↦ elim (cases_Bool (eqb b 1)) [
        | inl one_is ↦ back (IsOfType col.Bool) (b ∷ bytes) v (Truth true) rest bytes (cond_true _ _ _ _ one_is (cond_false _ _ _ _ other e)) tt (ap (λ (x : ℕ). x ∷ bytes) (eqb-true b 1 one_is))
        | inr neither ↦ absurd (none-some (v, rest) (cond_false _ _ _ _ neither (cond_false _ _ _ _ other e)))
      ]
    ]

pub typed_back : (t : ColType) (bytes : List ℕ) (v : Value) (rest : List ℕ) → IsBytes bytes → typed_front t bytes ≡ Some (v, rest) → Back (IsOfType t) bytes v rest
typed_back col.Int4 bytes v rest small e = integer_back bytes v rest small e
typed_back col.Text bytes v rest small e = text_back bytes v rest small e
typed_back col.Bool bytes v rest small e = truth_back bytes v rest e

-- a value of a type isn't null
not_null : (t : ColType) (v : Value) → IsOfType t v → one_if_null v ≡ 0
not_null col.Int4 Null h = elim h [ ]
not_null col.Text Null h = elim h [ ]
not_null col.Bool Null h = elim h [ ]
not_null t (Number n) h = refl
not_null t (Word w) h = refl
not_null t (Truth b) h = refl

value_of : (c : Column) (v : Value) → IsOfType c.col_type v → IsValueOf c v
value_of c Null h = absurd (null_none c.col_type h) where
  null_none : (t : ColType) → IsOfType t Null → ⊥
  null_none col.Int4 h = h
  null_none col.Text h = h
  null_none col.Bool h = h
value_of c (Number n) h = h
value_of c (Word w) h = h
value_of c (Truth b) h = h

-- what the first bit says of the value
abbrev BitOf : Bool → ℕ → Value → Type 0
BitOf n bits v = (n ≡ true → bits % 2 ≡ one_if_null v)

pub record FrontBack (c : Column) (bits : ℕ) (bytes : List ℕ) (v : Value) (rest : List ℕ) : Type 0 where
  pub is_value : IsValueOf c v
  pub bit : BitOf c.nullable bits v
  pub are_bytes : bytes ≡ value_bytes v ++ rest

even_or_odd : (bits : ℕ) → eqb (bits % 2) 1 ≡ false → bits % 2 ≡ 0
even_or_odd bits e = let no = eqb-false (bits % 2) 1 e in omega (arith, no)

and_right : (a b : Bool) → a ≡ true → (a && b) ≡ false → b ≡ false
and_right true b t e = e
and_right false b t e = absurd (true≢false (sym t))

front_back : (c : Column) (bits : ℕ) (bytes : List ℕ) (v : Value) (rest : List ℕ) → IsBytes bytes → value_front c bits bytes ≡ Some (v, rest) → FrontBack c bits bytes v rest
front_back c bits bytes v rest small e =
    elim (cases_Bool (c.nullable && eqb (bits % 2) 1)) [
      | inl null ↦
          let two = and_parts c.nullable (eqb (bits % 2) 1) null in
          let b = back (λ u. (IsValueOf c u) × (bits % 2 ≡ one_if_null u)) bytes v Null rest bytes (cond_true _ _ _ _ null e) (two.0, eqb-true (bits % 2) 1 two.1) refl in
          record { is_value = b.is_value.0; bit = (λ n. b.is_value.1); are_bytes = b.are_bytes }
      | inr other ↦
          let b = typed_back c.col_type bytes v rest small (cond_false _ _ _ _ other e) in
          record {
            is_value = value_of c v b.is_value;
            bit = (λ n. even_or_odd bits (and_right c.nullable _ n other) ∙ sym (not_null c.col_type v b.is_value));
            are_bytes = b.are_bytes;
          }
    ]

bits_back : (n : Bool) (bits one rest : ℕ) → (n ≡ true → bits % 2 ≡ one) → cond n (bits / 2) bits ≡ rest → bits ≡ cond n (one + 2 * rest) rest
bits_back true bits one rest h e = let k = h refl in omega (arith, k, e)
bits_back false bits one rest h e = e

-- a row that is read was written
pub record RowBack (cs : List Column) (bits : ℕ) (bytes : List ℕ) (vs : List Value) : Type 0 where
  pub is_row : IsRowOf cs vs
  pub bits_are : bits ≡ null_bits cs vs
  pub are_bytes : bytes ≡ flat_map value_bytes vs

pub values_back : (cs : List Column) (bits : ℕ) (bytes : List ℕ) (vs : List Value) → IsBytes bytes → values_in cs bits bytes ≡ Some vs → RowBack cs bits bytes vs
values_back [] bits bytes vs small e =
    elim (cases_Bool (eqb bits 0 && eqb (length bytes) 0)) [
      | inl both ↦
          let two = and_parts (eqb bits 0) (eqb (length bytes) 0) both in
          nothing bytes vs (some_same [] vs (cond_true _ _ _ _ both e)) (eqb-true bits 0 two.0) (eqb-true (length bytes) 0 two.1)
      | inr other ↦ absurd (none-some vs (cond_false _ _ _ _ other e))
    ] where
      nothing : (xs : List ℕ) (ws : List Value) → [] ≡ ws → bits ≡ 0 → length xs ≡ 0 → RowBack [] bits xs ws
      nothing [] [] r z l = record { is_row = tt; bits_are = z; are_bytes = refl }
      nothing (x ∷ xs) ws r z l = absurd (omega (arith, l))
      nothing [] (w ∷ ws) r z l = absurd cc
values_back (c ∷ cs) bits bytes vs small e = by (value_front c bits bytes) refl e (λ b xs ws small' l. values_back cs b xs ws small' l) where
  Again : Type 0
  Again = (b : ℕ) (xs : List ℕ) (ws : List Value) → IsBytes xs → values_in cs b xs ≡ Some ws → RowBack cs b xs ws

  more : (v : Value) (rest : List ℕ) → value_front c bits bytes ≡ Some (v, rest) → (left : Option (List Value)) → values_in cs (bits_behind c bits) rest ≡ left → option_map (λ ws. v ∷ ws) left ≡ Some vs → Again → RowBack (c ∷ cs) bits bytes vs
  more v rest f None l m again = absurd (none-some vs m)
  more v rest f (Some ws) l m again =
      let b = front_back c bits bytes v rest small f in
      let d : drop (length (value_bytes v)) bytes ≡ rest = ap (drop (length (value_bytes v))) b.are_bytes ∙ drop_at (value_bytes v) rest (length (value_bytes v)) refl in
      let r = again (bits_behind c bits) rest ws (subst IsBytes d (IsBytes-drop (length (value_bytes v)) bytes small)) l in
      let s : v ∷ ws ≡ vs = some_same (v ∷ ws) vs m in
      subst (RowBack (c ∷ cs) bits bytes) s (record {
        is_row = (b.is_value, r.is_row);
        bits_are = bits_back c.nullable bits (one_if_null v) (null_bits cs ws) b.bit r.bits_are;
        are_bytes = b.are_bytes ∙ ap (λ (xs : List ℕ). value_bytes v ++ xs) r.are_bytes;
      })

  by : (front : Option Front) → value_front c bits bytes ≡ front → option_and_then (λ (p : Front). option_map (λ ws. p.0 ∷ ws) (values_in cs (bits_behind c bits) p.1)) front ≡ Some vs → Again → RowBack (c ∷ cs) bits bytes vs
  by None f m again = absurd (none-some vs m)
  by (Some p) f m again = more p.0 p.1 f (values_in cs (bits_behind c bits) p.1) refl m again
