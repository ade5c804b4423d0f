-- The bits of a row, and numbers in a few bytes.
use Rattle.std.proofs.Common.{◌≡◌, ℕ, zero, suc, ◌+◌, ◌-◌, ◌*◌, ◌/◌, ◌%◌, ◌^◌, ◌<◌, ◌≤◌, true, false, cond, List, [], ◌∷◌, length, get_or, drop, refl, sym, ap, ◌∙◌, arith, pow-suc, pow-add, pow_mono, zero-add, append_assoc, ◌++◌, lt_of_lt_of_le}
use Rattle.std.proofs.lemmas.List.{drop_more}
use Rattle.rows.specs.declared.value.Value.{Value}
use Rattle.rows.specs.declared.value.Value.TheVariants.{Null, Number, Word, Truth}
use Rattle.rows.specs.declared.plain.Column.{Column}
use Rattle.rows.specs.RowBytes.{bit_bytes, low_bytes, null_bits, nullables, one_if_null}
use Rattle.rows.specs.RowFields.{low_number}

wider : (n m : ℕ) → 0 < m → m ≤ n → 2 ^ (n - (m - 1)) ≡ 2 ^ (n - m) * 2
wider n m pos le = let k : n - (m - 1) ≡ suc (n - m) = omega arith in ap (λ (e : ℕ). 2 ^ e) k ∙ pow-suc 2 (n - m)

pub step_nullable : (cs : List Column) (vs : List Value) (place bits bit : ℕ) (c : Column) (v : Value) → 0 < place → place ≤ length cs → length vs ≡ length cs →
    (get_or cs (place - 1) c).nullable ≡ true → v ≡ get_or vs (place - 1) v → bit ≡ one_if_null v → bit ≤ 1 →
    bits ≡ null_bits (drop place cs) (drop place vs) → bits < 2 ^ (length cs - place) →
    (2 * bits + bit ≡ null_bits (drop (place - 1) cs) (drop (place - 1) vs)) × (2 * bits + bit < 2 ^ (length cs - (place - 1)))
step_nullable cs vs place bits bit c v pos le len n is b one told small =
    let k : place - 1 + 1 ≡ place = omega arith in
    let d1 : drop (place - 1) cs ≡ get_or cs (place - 1) c ∷ drop place cs = drop_more cs (place - 1) c (omega arith) ∙ ap (λ (j : ℕ). get_or cs (place - 1) c ∷ drop j cs) k in
    let d2 : drop (place - 1) vs ≡ v ∷ drop place vs = drop_more vs (place - 1) v (omega arith) ∙ (ap (λ (j : ℕ). get_or vs (place - 1) v ∷ drop j vs) k ∙ ap (λ (w : Value). w ∷ drop place vs) (sym is)) in
    let w = wider (length cs) place pos le in
    (rw (d1, d2, n) (omega (arith, told, b)), omega (arith, w, small, one))

pub step_other : (cs : List Column) (vs : List Value) (place bits : ℕ) (c : Column) → 0 < place → place ≤ length cs → length vs ≡ length cs →
    (get_or cs (place - 1) c).nullable ≡ false → bits ≡ null_bits (drop place cs) (drop place vs) → bits < 2 ^ (length cs - place) →
    (bits ≡ null_bits (drop (place - 1) cs) (drop (place - 1) vs)) × (bits < 2 ^ (length cs - (place - 1)))
step_other cs vs place bits c pos le len n told small =
    let k : place - 1 + 1 ≡ place = omega arith in
    let d1 : drop (place - 1) cs ≡ get_or cs (place - 1) c ∷ drop place cs = drop_more cs (place - 1) c (omega arith) ∙ ap (λ (j : ℕ). get_or cs (place - 1) c ∷ drop j cs) k in
    let d2 : drop (place - 1) vs ≡ get_or vs (place - 1) Null ∷ drop place vs = drop_more vs (place - 1) Null (omega arith) ∙ ap (λ (j : ℕ). get_or vs (place - 1) Null ∷ drop j vs) k in
    let w = wider (length cs) place pos le in
    (rw (d1, d2, n) told, omega (arith, w, small))

pub few_nullables : (cs : List Column) → nullables cs ≤ length cs
few_nullables [] = omega arith
few_nullables (c ∷ cs) = elim c.nullable as (λ b. cond b 1 0 + nullables cs ≤ suc (length cs)) [ true ↦ omega (arith, few_nullables cs) | false ↦ omega (arith, few_nullables cs) ]

one_at_most : (v : Value) → one_if_null v ≤ 1
one_at_most Null = omega arith
one_at_most (Number n) = omega arith
one_at_most (Word w) = omega arith
one_at_most (Truth b) = omega arith

bits_small : (cs : List Column) (vs : List Value) → null_bits cs vs < 2 ^ nullables cs
bits_small [] vs = omega arith
bits_small (c ∷ cs) [] = omega (arith, one-le (nullables (c ∷ cs))) where
  one-le : (n : ℕ) → 1 ≤ 2 ^ n
  one-le n = pow_mono {i = 0} {j = n} (omega arith)
bits_small (c ∷ cs) (v ∷ vs) = elim c.nullable as (λ b. cond b (one_if_null v + 2 * null_bits cs vs) (null_bits cs vs) < 2 ^ (cond b 1 0 + nullables cs)) [
  | true ↦ let k : 1 + nullables cs ≡ suc (nullables cs) = omega arith in rw k (omega (arith, pow-suc 2 (nullables cs), one_at_most v, bits_small cs vs))
  | false ↦ rw (zero-add (nullables cs)) (bits_small cs vs)
]

byte_more : (n : ℕ) → 2 ^ (8 * suc n) ≡ 2 ^ (8 * n) * 256
byte_more n = let k : 8 * suc n ≡ 8 * n + 8 = omega arith in ap (λ (e : ℕ). 2 ^ e) k ∙ pow-add 2 (8 * n) 8

low_again : (n x : ℕ) → x < 2 ^ (8 * n) → low_number (low_bytes n x) ≡ x
low_again zero x lt = omega (arith, lt)
low_again (suc n) x lt = let again = low_again n (x / 256) (omega (arith, byte_more n, lt)) in omega (arith, again)

-- the bits are read from their bytes
pub bits_again : (cs : List Column) (vs : List Value) → low_number (low_bytes (bit_bytes cs) (null_bits cs vs)) ≡ null_bits cs vs
bits_again cs vs = low_again (bit_bytes cs) (null_bits cs vs) (lt_of_lt_of_le (bits_small cs vs) (pow_mono (omega arith)))

pub length-low_bytes : (n x : ℕ) → length (low_bytes n x) ≡ n
length-low_bytes zero x = refl
length-low_bytes (suc n) x = ap suc (length-low_bytes n (x / 256))

abbrev pub IsBytes : List ℕ → Type 0
IsBytes bytes = (i : ℕ) → get_or bytes i 0 < 256

-- bytes are those of the number that they write
pub low_back : (bs : List ℕ) → IsBytes bs → low_bytes (length bs) (low_number bs) ≡ bs
low_back [] small = refl
low_back (b ∷ bs) small =
    let one : b < 256 = small 0 in
    let low : (b + 256 * low_number bs) % 256 ≡ b = omega (arith, one) in
    let high : (b + 256 * low_number bs) / 256 ≡ low_number bs = omega (arith, one) in
    rw (low, high) (ap (λ (xs : List ℕ). b ∷ xs) (low_back bs (λ i. small (suc i))))

-- one byte more, in front
pub low_step : (bytes : List ℕ) (place number b : ℕ) → 0 < place → place ≤ length bytes → b ≡ get_or bytes (place - 1) 0 → b < 256 →
    number ≡ low_number (drop place bytes) → number < 2 ^ (8 * (length bytes - place)) →
    (256 * number + b ≡ low_number (drop (place - 1) bytes)) × (256 * number + b < 2 ^ (8 * (length bytes - (place - 1))))
low_step bytes place number b pos le is small told below =
    let k : place - 1 + 1 ≡ place = omega arith in
    let d : drop (place - 1) bytes ≡ b ∷ drop place bytes = drop_more bytes (place - 1) 0 (omega arith) ∙ (ap (λ (j : ℕ). get_or bytes (place - 1) 0 ∷ drop j bytes) k ∙ ap (λ (x : ℕ). x ∷ drop place bytes) (sym is)) in
    let e : length bytes - (place - 1) ≡ suc (length bytes - place) = omega arith in
    (rw d (omega (arith, told)), rw e (omega (arith, byte_more (length bytes - place), below, small)))

-- one byte more, behind
pub put_step : (out new all : List ℕ) (count i rest byte : ℕ) → i < count → new ≡ out ++ byte ∷ [] → byte ≡ rest % 256 → out ++ low_bytes (count - i) rest ≡ all →
    new ++ low_bytes (count - (i + 1)) (rest / 256) ≡ all
put_step out new all count i rest byte lt is same told =
    let k : count - i ≡ suc (count - (i + 1)) = omega arith in
    rw (is, append_assoc out (byte ∷ []) (low_bytes (count - (i + 1)) (rest / 256)), same) (rw k at told)

-- there is room for one byte more
pub low_room : (len place number : ℕ) → 0 < place → place ≤ len → len ≤ 4 → number < 2 ^ (8 * (len - place)) → 256 * number + 255 < 2 ^ 32
low_room len place number pos le few below =
    let most : 2 ^ (8 * suc (len - place)) ≤ 2 ^ 32 = pow_mono {i = 8 * suc (len - place)} {j = 32} (omega (arith, few, pos, le)) in
    omega (arith, byte_more (len - place), below, most)
