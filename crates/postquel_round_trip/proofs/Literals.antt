-- Names, numbers and texts are lexed as what they are printed from.
use Rattle.std.proofs.Common.{◌≡◌, ℕ, suc, ◌+◌, ◌-◌, ◌*◌, ◌^◌, ◌<◌, ◌≤◌, ◌/◌, ◌%◌, ℤ, pos, Bool, true, false, ◌||◌, cond, eqb, ltb, leb, List, [], ◌∷◌, ◌++◌, length, take, Result, Ok, Err, refl, sym, ap, subst, ◌∙◌, append_assoc, length-append, arith}
use Rattle.std.proofs.lemmas.List.{take_at}
use Rattle.std.proofs.lemmas.Bool.{lt-ltb, le-ltb, lt-leb, eqb-true}
use Rattle.std.proofs.lemmas.Fmt.{decimal_by_steps, length-decimal-le, IsAscii-decimal}
use Rattle.std.proofs.lemmas.Str.{IsUtf8-append, IsUtf8-from_ascii}
use Rattle.std.specs.Prelude.{fold, slice_index_or}
use Rattle.std.specs.Fmt.{decimal, signed_decimal}
use Rattle.std.specs.List.{list_all}
use Rattle.std.specs.Str.{IsUtf8}
use Rattle.postquel_tokens.specs.declared.fault.Spot.{Spot}
use Rattle.postquel_tokens.specs.declared.fault.What.TheVariants as what
use Rattle.postquel_tokens.specs.declared.token.Token.{Token}
use Rattle.postquel_tokens.specs.declared.token.TokenKind.TheVariants as kind
use Rattle.postquel_tokens.specs.declared.piece.Run.TheVariants as run
use Rattle.postquel_tokens.specs.Lex.{Piece, Wrong, worded, body, with_byte, unit, value, number as number_piece, is_in, name, piece, mark, after, prepend, tokens_from}
use Rattle.postquel.specs.declared.class.Class.{Class}
use Rattle.postquel.specs.declared.class.Class.TheVariants as class
use Rattle.postquel.specs.Class.{class_of, looks}
use Rattle.postquel.specs.Grammar.{number_of, text_of}
use Rattle.postquel.specs.Print.{escaped, quoted}
use Rattle.postquel_round_trip.proofs.Lexing.{front_one, token, Gives, Any, Apart, One, one, no_blank, and_true, low_utf8, run_is, piece_first}

-- ---- names

abbrev pub IsName : List ℕ → Type 0
IsName n = (list_all (is_in run.Word) n ≡ true) × (is_in run.Digit (slice_index_or n 0 0) ≡ false) × (0 < length n) × (length n ≤ 31)

piece_name : (b : ℕ) (z : List ℕ) → is_in run.Digit b ≡ false → is_in run.Word b ≡ true → piece b z ≡ name (b ∷ z)
unfolding piece
piece_name b z d w =
    let rest : Piece = cond (eqb b 34) (worded (body 1 z)) (mark b (slice_index_or (b ∷ z) 1 0)) in
    ap (λ q. cond q (number_piece (b ∷ z)) (cond (is_in run.Word b) (name (b ∷ z)) rest)) d ∙ ap (λ q. cond q (name (b ∷ z)) rest) w

name_piece : (n r : List ℕ) → IsName n → Apart r → name (n ++ r) ≡ Ok (kind.Name n, length n)
name_piece n r h k =
    let F : ℕ → Piece = λ m. cond (ltb 31 m) (Err (what.LongName, 0)) (Ok (kind.Name (take m (n ++ r)), m)) in
    let fits : ltb 31 (length n) ≡ false = le-ltb _ _ h.3 in
    ap F (run_is (is_in run.Word) n r h.0 k.0) ∙ rw (fits, take_at n r (length n) refl) refl

name_is : (n r : List ℕ) (s : Spot) → IsName n → Apart r → tokens_from 0 s (n ++ r) ≡ prepend (token (kind.Name n) s) (tokens_from 0 (fold after s n) r)
name_is [] r s h k = absurd (omega (arith, h.2))
name_is (b ∷ n) r s h k =
    let w = (and_true (is_in run.Word b) (list_all (is_in run.Word) n) h.0).0 in
    piece_first b n r (kind.Name (b ∷ n)) s (no_blank b w) (piece_name b (n ++ r) h.1 w ∙ name_piece (b ∷ n) r h k)

low_byte : (b : ℕ) → is_in run.Word b ≡ true → ltb b 128 ≡ true
low_byte b h = let small : b < 128 = grind arith in lt-ltb b 128 small

word_low : (n : List ℕ) → list_all (is_in run.Word) n ≡ true → list_all (λ b. ltb b 128) n ≡ true
word_low [] h = refl
word_low (b ∷ n) h = let q = and_true (is_in run.Word b) (list_all (is_in run.Word) n) h in rw (low_byte b q.0, word_low n q.1) refl

pub name_utf8 : (n : List ℕ) → list_all (is_in run.Word) n ≡ true → IsUtf8 n
name_utf8 n h = low_utf8 n (word_low n h)

-- a name of a class, with its text
pub data Named (n : List ℕ) (c : Class) : List Token → Type 0 where
  named : (t : Token) → looks t ≡ c → text_of t.kind ≡ n → Named n c (t ∷ [])

pub name_gives : (n : List ℕ) (c : Class) → IsName n → class_of (kind.Name n) ≡ c → Gives n Apart (Named n c)
name_gives n c h e s r p =
    record {
      tokens = token (kind.Name n) s ∷ [];
      to = fold after s n;
      is = name_is n r s h p ∙ front_one (token (kind.Name n) s) (tokens_from 0 (fold after s n) r);
      derives = named (token (kind.Name n) s) e refl;
      short = omega (arith, h.3);
      utf8 = name_utf8 n h.0;
    }

-- a name and a blank behind it
pub name_blank_gives : (n : List ℕ) (c : Class) → IsName n → class_of (kind.Name n) ≡ c → Gives (n ++ 32 ∷ []) Any (Named n c)
name_blank_gives n c h e s r p =
    let to = fold after s n in
    record {
      tokens = token (kind.Name n) s ∷ [];
      to = after to 32;
      is = ap (tokens_from 0 s) (append_assoc n (32 ∷ []) r) ∙ name_is n (32 ∷ r) s h (refl, refl) ∙ front_one (token (kind.Name n) s) (tokens_from 0 (after to 32) r);
      derives = named (token (kind.Name n) s) e refl;
      short = omega (arith, h.3, length-append n (32 ∷ []));
      utf8 = IsUtf8-append n (32 ∷ []) (name_utf8 n h.0) (low_utf8 (32 ∷ []) refl);
    }

-- a key
pub key_gives : (n : List ℕ) (c : Class) → IsName n → class_of (kind.Name n) ≡ c → Gives n Apart (One c)
key_gives n c h e s r p =
    record {
      tokens = token (kind.Name n) s ∷ [];
      to = fold after s n;
      is = name_is n r s h p ∙ front_one (token (kind.Name n) s) (tokens_from 0 (fold after s n) r);
      derives = one (token (kind.Name n) s) e;
      short = omega (arith, h.3);
      utf8 = name_utf8 n h.0;
    }

-- ---- numbers

record Digits (m : ℕ) (ds : List ℕ) : Type 0 where
  all : list_all (is_in run.Digit) ds ≡ true
  is : value ds ≡ m
  some : 0 < length ds

digit_is : (m : ℕ) → m < 10 → is_in run.Digit (48 + m) ≡ true
digit_is m h = grind arith

all_both : (p : ℕ → Bool) (u w : List ℕ) → list_all p u ≡ true → list_all p w ≡ true → list_all p (u ++ w) ≡ true
all_both p [] w h k = k
all_both p (b ∷ u) w h k = let q = and_true (p b) (list_all p u) h in rw (q.0, all_both p u w q.1 k) refl

value_from : ℕ → List ℕ → ℕ
value_from = fold (λ n b. 10 * n + (b - 48))

value_push : (n : ℕ) (ds : List ℕ) (b : ℕ) → value_from n (ds ++ b ∷ []) ≡ 10 * value_from n ds + (b - 48)
unfolding value_from
value_push n [] b = refl
value_push n (d ∷ ds) b = value_push (10 * n + (d - 48)) ds b

value_last : (n : ℕ) (ds : List ℕ) → value ds ≡ n / 10 → value (ds ++ (48 + n % 10) ∷ []) ≡ n
unfolding value_from
value_last n ds e = let push : value (ds ++ (48 + n % 10) ∷ []) ≡ 10 * value ds + (48 + n % 10 - 48) = value_push 0 ds (48 + n % 10) in omega (arith, push, e)

digits : (m : ℕ) → m < 2 ^ 64 → Digits m (decimal m)
digits = decimal_by_steps Digits
    (λ n h. record { all = rw (digit_is n h) refl; is = omega arith; some = omega arith })
    (λ n ds h x. record {
      all = all_both (is_in run.Digit) ds ((48 + n % 10) ∷ []) x.all (rw (digit_is (n % 10) (omega arith)) refl);
      is = value_last n ds x.is;
      some = omega (arith, length-append ds ((48 + n % 10) ∷ []));
    })

digit_word : (b : ℕ) → is_in run.Word b ≡ false → is_in run.Digit b ≡ false
digit_word b h = grind arith

word_digit : (b : ℕ) → is_in run.Digit b ≡ true → is_in run.Word b ≡ true
word_digit b h = grind arith

piece_number : (b : ℕ) (z : List ℕ) → is_in run.Digit b ≡ true → piece b z ≡ number_piece (b ∷ z)
unfolding piece
piece_number b z d =
    let rest : Piece = cond (eqb b 34) (worded (body 1 z)) (mark b (slice_index_or (b ∷ z) 1 0)) in
    ap (λ q. cond q (number_piece (b ∷ z)) (cond (is_in run.Word b) (name (b ∷ z)) rest)) d

number_piece_is : (m : ℕ) (ds r : List ℕ) → Digits m ds → m < 2 ^ 63 → Apart r → number_piece (ds ++ r) ≡ Ok (kind.Number (pos m), length ds)
number_piece_is m ds r h small k =
    let F : ℕ → Piece = λ n. cond (leb (2 ^ 63) (value (take n (ds ++ r)))) (Err (what.BigNumber, 0)) (Ok (kind.Number (pos (value (take n (ds ++ r)))), n)) in
    let G : ℕ → Piece = λ v. cond (leb (2 ^ 63) v) (Err (what.BigNumber, 0)) (Ok (kind.Number (pos v), length ds)) in
    let fits : leb (2 ^ 63) m ≡ false = lt-leb _ _ small in
    ap F (run_is (is_in run.Digit) ds r h.all (digit_word (slice_index_or r 0 0) k.0)) ∙ ap G (ap value (take_at ds r (length ds) refl) ∙ h.is) ∙ rw fits refl

number_is : (m : ℕ) (ds r : List ℕ) (s : Spot) → Digits m ds → m < 2 ^ 63 → Apart r → tokens_from 0 s (ds ++ r) ≡ prepend (token (kind.Number (pos m)) s) (tokens_from 0 (fold after s ds) r)
number_is m [] r s h small k = absurd (omega (arith, h.some))
number_is m (b ∷ ds) r s h small k =
    let d = (and_true (is_in run.Digit b) (list_all (is_in run.Digit) ds) h.all).0 in
    piece_first b ds r (kind.Number (pos m)) s (no_blank b (word_digit b d)) (piece_number b (ds ++ r) d ∙ number_piece_is m (b ∷ ds) r h small k)

-- a number
pub data Counted (n : ℤ) : List Token → Type 0 where
  counted : (t : Token) → looks t ≡ class.Number → number_of t.kind ≡ n → Counted n (t ∷ [])

pub number_gives : (m : ℕ) → m < 2 ^ 63 → Gives (signed_decimal (pos m)) Apart (Counted (pos m))
number_gives m small s r p =
    let ds = decimal m in
    record {
      tokens = token (kind.Number (pos m)) s ∷ [];
      to = fold after s ds;
      is = number_is m ds r s (digits m (omega arith)) small p ∙ front_one (token (kind.Number (pos m)) s) (tokens_from 0 (fold after s ds) r);
      derives = counted (token (kind.Number (pos m)) s) refl refl;
      short = omega (arith, length-decimal-le 20 m (omega arith) (omega arith) (omega arith));
      utf8 = IsUtf8-from_ascii ds (IsAscii-decimal m (omega arith));
    }

-- ---- texts

abbrev pub NoFeed : List ℕ → Type 0
NoFeed [] = Unit {0}
NoFeed (b ∷ w) = (eqb b 10 ≡ false) × NoFeed w

abbrev pub IsWord : List ℕ → Type 0
IsWord w = (length w ≤ 2000) × NoFeed w × IsUtf8 (escaped w)

quote_is : (at : ℕ) (z : List ℕ) → body at (92 ∷ 34 ∷ z) ≡ with_byte 34 (body (at + 1 + 1) z)
unfolding unit
quote_is at z = refl

slash_is : (at : ℕ) (z : List ℕ) → body at (92 ∷ 92 ∷ z) ≡ with_byte 92 (body (at + 1 + 1) z)
unfolding unit
slash_is at z = refl

plain_is : (at b : ℕ) (z : List ℕ) → eqb b 34 ≡ false → eqb b 10 ≡ false → eqb b 92 ≡ false → body at (b ∷ z) ≡ with_byte b (body (at + 1) z)
unfolding unit
plain_is at b z p q r = rw (p, q, r) refl

done : List ℕ → ℕ → Result (List ℕ × ℕ) Wrong
done w n = Ok (w, n)

read_again : (w r : List ℕ) (at n : ℕ) → NoFeed w → n ≡ at + length (escaped w) + 1 → body at (escaped w ++ 34 ∷ r) ≡ done w n
unfolding done
read_again [] r at n h e = let k : at + 1 ≡ n = omega (arith, e) in ap (λ m. done [] m) k
read_again (b ∷ w) r at n h e =
    elim (eqb b 34) as (λ q. eqb b 34 ≡ q → n ≡ at + length (cond (q || eqb b 92) (92 ∷ b ∷ []) (b ∷ []) ++ escaped w) + 1 → body at ((cond (q || eqb b 92) (92 ∷ b ∷ []) (b ∷ []) ++ escaped w) ++ 34 ∷ r) ≡ done (b ∷ w) n) [
      | true ↦ λ p k.
          let is : b ≡ 34 = eqb-true b 34 p in
          let F : ℕ → Type 0 = λ c. body at (92 ∷ c ∷ (escaped w ++ 34 ∷ r)) ≡ done (c ∷ w) n in
          subst F (sym is) (quote_is at (escaped w ++ 34 ∷ r) ∙ ap (with_byte 34) (read_again w r (at + 1 + 1) n h.1 (omega arith)))
      | false ↦ λ p k. elim (eqb b 92) as (λ q. eqb b 92 ≡ q → n ≡ at + length (cond q (92 ∷ b ∷ []) (b ∷ []) ++ escaped w) + 1 → body at ((cond q (92 ∷ b ∷ []) (b ∷ []) ++ escaped w) ++ 34 ∷ r) ≡ done (b ∷ w) n) [
        | true ↦ λ s k.
            let is : b ≡ 92 = eqb-true b 92 s in
            let F : ℕ → Type 0 = λ c. body at (92 ∷ c ∷ (escaped w ++ 34 ∷ r)) ≡ done (c ∷ w) n in
            subst F (sym is) (slash_is at (escaped w ++ 34 ∷ r) ∙ ap (with_byte 92) (read_again w r (at + 1 + 1) n h.1 (omega arith)))
        | false ↦ λ s k. plain_is at b (escaped w ++ 34 ∷ r) p h.0 s ∙ ap (with_byte b) (read_again w r (at + 1) n h.1 (omega arith))
      ] refl k
    ] refl e

escaped_length : (w : List ℕ) → length (escaped w) ≤ 2 * length w
escaped_length [] = omega arith
escaped_length (b ∷ w) = elim (eqb b 34 || eqb b 92) as (λ q. length (cond q (92 ∷ b ∷ []) (b ∷ []) ++ escaped w) ≤ 2 * length (b ∷ w)) [
  | true ↦ omega (arith, escaped_length w)
  | false ↦ omega (arith, escaped_length w)
]

piece_word : (z : List ℕ) → piece 34 z ≡ worded (body 1 z)
unfolding piece
piece_word z = refl

word_piece : (w r : List ℕ) → length w ≤ 2000 → NoFeed w → piece 34 ((escaped w ++ 34 ∷ []) ++ r) ≡ Ok (kind.Word w, suc (length (escaped w ++ 34 ∷ [])))
unfolding done
word_piece w r n h =
    let len : suc (length (escaped w ++ 34 ∷ [])) ≡ 1 + length (escaped w) + 1 = omega (arith, length-append (escaped w) (34 ∷ [])) in
    let fits : ltb 2000 (length w) ≡ false = le-ltb _ _ n in
    piece_word ((escaped w ++ 34 ∷ []) ++ r) ∙ ap (λ (z : List ℕ). worded (body 1 z)) (append_assoc (escaped w) (34 ∷ []) r)
    ∙ ap worded (read_again w r 1 (suc (length (escaped w ++ 34 ∷ []))) h len) ∙ rw fits refl

-- a text
pub data Worded (w : List ℕ) : List Token → Type 0 where
  worded_as : (t : Token) → looks t ≡ class.Word → text_of t.kind ≡ w → Worded w (t ∷ [])

pub word_gives : (w : List ℕ) → IsWord w → Gives (quoted w) Any (Worded w)
word_gives w h s r p =
    let inner = escaped w ++ 34 ∷ [] in
    record {
      tokens = token (kind.Word w) s ∷ [];
      to = fold after s (34 ∷ inner);
      is = piece_first 34 inner r (kind.Word w) s refl (word_piece w r h.0 h.1) ∙ front_one (token (kind.Word w) s) (tokens_from 0 (fold after s (34 ∷ inner)) r);
      derives = worded_as (token (kind.Word w) s) refl refl;
      short = omega (arith, h.0, escaped_length w, length-append (escaped w) (34 ∷ []));
      utf8 = IsUtf8-append (34 ∷ []) inner (low_utf8 (34 ∷ []) refl) (IsUtf8-append (escaped w) (34 ∷ []) h.2 (low_utf8 (34 ∷ []) refl));
    }
