-- What is read in front of a text is a valid token, and UTF-8 is left behind it.
use Rattle.std.proofs.Common.{◌≡◌, ◌⊎◌, ℕ, zero, suc, ◌+◌, ◌-◌, ◌^◌, ◌<◌, ◌≤◌, pos, Bool, true, false, ◌||◌, ◌&&◌, cond, eqb, ltb, leb, List, [], ◌∷◌, ◌++◌, length, take, drop, Result, Ok, Err, refl, sym, ap, subst, ◌∙◌, inl, inr, append_assoc, length-append, arith}
use Rattle.std.proofs.lemmas.Bool.{eqb-true, leb-false, ltb-false}
use Rattle.std.proofs.lemmas.List.{drop_at, length-take}
use Rattle.std.specs.Prelude.{slice_index_or}
use Rattle.std.specs.List.{prefix_len, list_all}
use Rattle.std.specs.Str.{IsUtf8}
use Rattle.postquel_tokens.specs.declared.fault.What.TheVariants as what
use Rattle.postquel_tokens.specs.declared.token.Sign.{Sign}
use Rattle.postquel_tokens.specs.declared.token.Sign.TheVariants as sign
use Rattle.postquel_tokens.specs.declared.token.TokenKind.{TokenKind}
use Rattle.postquel_tokens.specs.declared.token.TokenKind.TheVariants as kind
use Rattle.postquel_tokens.specs.declared.piece.Run.TheVariants as run
use Rattle.postquel_tokens.specs.Lex.{Piece, Wrong, worded, body_from, body, with_byte, unit, then_body, value, number, is_in, name, piece, mark, marked}
use Rattle.postquel.specs.Print.{escaped}
use Rattle.postquel_round_trip.proofs.Lexing.{and_true}
use Rattle.postquel_round_trip.proofs.Literals.{NoFeed}
use Rattle.postquel_round_trip.proofs.Valid.{ValidKind}
use Rattle.postquel_round_trip.proofs.Utf8.{before_ascii, behind_ascii, tail_utf8, tail_second, tail_run}

-- what may stand in front of the bytes behind the first
pub data Fine (z : List ℕ) : Piece → Type 0 where
  found : (k : TokenKind) (n : ℕ) → ValidKind k → IsUtf8 (drop (n - 1) z) → Fine z (Ok (k, n))
  flaw : (e : Wrong) → Fine z (Err e)

either : (z : List ℕ) (q : Bool) (x y : Piece) → (q ≡ true → Fine z x) → (q ≡ false → Fine z y) → Fine z (cond q x y)
either z true x y p r = p refl
either z false x y p r = r refl

-- ---- marks

short_mark : (b c : ℕ) (z : List ℕ) (s : Sign) → IsUtf8 (b ∷ z) → c < 128 → eqb b c ≡ true → Fine z (marked s 1)
short_mark b c z s u low e = let is : b ≡ c = eqb-true b c e in found (kind.Mark s) 1 tt (tail_utf8 b z (omega (arith, is, low)) u)

long_mark : (b c d : ℕ) (z : List ℕ) (s : Sign) → IsUtf8 (b ∷ z) → c < 128 → d < 128 → eqb b c ≡ true → eqb (slice_index_or z 0 0) d ≡ true → Fine z (marked s 2)
long_mark b c d z s u low small e f =
    let is : b ≡ c = eqb-true b c e in
    found (kind.Mark s) 2 tt (tail_second b d z (omega (arith, is, low)) (eqb-true (slice_index_or z 0 0) d f) small u)

both_mark : (b c d : ℕ) (z : List ℕ) (s : Sign) → IsUtf8 (b ∷ z) → c < 128 → d < 128 → (eqb b c && eqb (slice_index_or z 0 0) d) ≡ true → Fine z (marked s 2)
both_mark b c d z s u low small e = let p = and_true (eqb b c) (eqb (slice_index_or z 0 0) d) e in long_mark b c d z s u low small p.0 p.1

mark_fine : (b : ℕ) (z : List ℕ) → IsUtf8 (b ∷ z) → Fine z (mark b (slice_index_or z 0 0))
unfolding mark
mark_fine b z u =
    let next = slice_index_or z 0 0 in
    let m12 : Piece = Err (what.BadChar, 0) in
    let m11 : Piece = cond (eqb b 92 && eqb next 103) (marked sign.Go 2) m12 in
    let m10 : Piece = cond (eqb b 62) (cond (eqb next 61) (marked sign.AtLeast 2) (marked sign.More 1)) m11 in
    let m9 : Piece = cond (eqb b 60) (cond (eqb next 61) (marked sign.AtMost 2) (marked sign.Less 1)) m10 in
    let m8 : Piece = cond (eqb b 33 && eqb next 61) (marked sign.NotEqual 2) m9 in
    let m7 : Piece = cond (eqb b 42) (marked sign.Times 1) m8 in
    let m6 : Piece = cond (eqb b 45) (marked sign.Minus 1) m7 in
    let m5 : Piece = cond (eqb b 43) (marked sign.Plus 1) m6 in
    let m4 : Piece = cond (eqb b 61) (marked sign.Equal 1) m5 in
    let m3 : Piece = cond (eqb b 46) (marked sign.Dot 1) m4 in
    let m2 : Piece = cond (eqb b 44) (marked sign.Comma 1) m3 in
    let m1 : Piece = cond (eqb b 41) (marked sign.Right 1) m2 in
    let h11 : Fine z m11 = either z (eqb b 92 && eqb next 103) (marked sign.Go 2) m12 (λ e. both_mark b 92 103 z sign.Go u (omega arith) (omega arith) e) (λ e. flaw (what.BadChar, 0)) in
    let h10 : Fine z m10 = either z (eqb b 62) (cond (eqb next 61) (marked sign.AtLeast 2) (marked sign.More 1)) m11
    (λ e. either z (eqb next 61) (marked sign.AtLeast 2) (marked sign.More 1) (λ f. long_mark b 62 61 z sign.AtLeast u (omega arith) (omega arith) e f) (λ f. short_mark b 62 z sign.More u (omega arith) e)) (λ e. h11) in
    let h9 : Fine z m9 = either z (eqb b 60) (cond (eqb next 61) (marked sign.AtMost 2) (marked sign.Less 1)) m10
    (λ e. either z (eqb next 61) (marked sign.AtMost 2) (marked sign.Less 1) (λ f. long_mark b 60 61 z sign.AtMost u (omega arith) (omega arith) e f) (λ f. short_mark b 60 z sign.Less u (omega arith) e)) (λ e. h10) in
    let h8 : Fine z m8 = either z (eqb b 33 && eqb next 61) (marked sign.NotEqual 2) m9 (λ e. both_mark b 33 61 z sign.NotEqual u (omega arith) (omega arith) e) (λ e. h9) in
    let h7 : Fine z m7 = either z (eqb b 42) (marked sign.Times 1) m8 (λ e. short_mark b 42 z sign.Times u (omega arith) e) (λ e. h8) in
    let h6 : Fine z m6 = either z (eqb b 45) (marked sign.Minus 1) m7 (λ e. short_mark b 45 z sign.Minus u (omega arith) e) (λ e. h7) in
    let h5 : Fine z m5 = either z (eqb b 43) (marked sign.Plus 1) m6 (λ e. short_mark b 43 z sign.Plus u (omega arith) e) (λ e. h6) in
    let h4 : Fine z m4 = either z (eqb b 61) (marked sign.Equal 1) m5 (λ e. short_mark b 61 z sign.Equal u (omega arith) e) (λ e. h5) in
    let h3 : Fine z m3 = either z (eqb b 46) (marked sign.Dot 1) m4 (λ e. short_mark b 46 z sign.Dot u (omega arith) e) (λ e. h4) in
    let h2 : Fine z m2 = either z (eqb b 44) (marked sign.Comma 1) m3 (λ e. short_mark b 44 z sign.Comma u (omega arith) e) (λ e. h3) in
    let h1 : Fine z m1 = either z (eqb b 41) (marked sign.Right 1) m2 (λ e. short_mark b 41 z sign.Right u (omega arith) e) (λ e. h2) in
    either z (eqb b 40) (marked sign.Left 1) m1 (λ e. short_mark b 40 z sign.Left u (omega arith) e) (λ e. h1)

-- ---- names and numbers

word_low : (c : ℕ) → is_in run.Word c ≡ true → c < 128
word_low c h = grind arith

digit_low : (c : ℕ) → is_in run.Digit c ≡ true → c < 128
digit_low c h = grind arith

taken_all : (p : ℕ → Bool) (z : List ℕ) → list_all p (take (prefix_len p z) z) ≡ true
taken_all p [] = refl
taken_all p (c ∷ z) = elim (p c) as (λ q. p c ≡ q → list_all p (take (cond q (1 + prefix_len p z) 0) (c ∷ z)) ≡ true) [
  | true ↦ λ e.
      let more : suc (prefix_len p z) ≡ 1 + prefix_len p z = omega arith in
      subst (λ n. list_all p (take n (c ∷ z)) ≡ true) more (ap (λ q. q && list_all p (take (prefix_len p z) z)) e ∙ taken_all p z)
  | false ↦ λ e. refl
] refl

run_first : (p : ℕ → Bool) (b : ℕ) (z : List ℕ) → p b ≡ true → prefix_len p (b ∷ z) ≡ suc (prefix_len p z)
run_first p b z h = let more : 1 + prefix_len p z ≡ suc (prefix_len p z) = omega arith in ap (λ q. cond q (1 + prefix_len p z) 0) h ∙ more

behind_run : (p : ℕ → Bool) → ((c : ℕ) → p c ≡ true → c < 128) → (b : ℕ) (z : List ℕ) → p b ≡ true → IsUtf8 (b ∷ z) → IsUtf8 (drop (prefix_len p (b ∷ z) - 1) z)
behind_run p low b z h u =
    let less : prefix_len p z ≡ prefix_len p (b ∷ z) - 1 = omega (arith, run_first p b z h) in
    subst (λ n. IsUtf8 (drop n z)) less (tail_run p low b z (low b h) u)

number_fine : (b : ℕ) (z : List ℕ) → is_in run.Digit b ≡ true → IsUtf8 (b ∷ z) → Fine z (number (b ∷ z))
number_fine b z h u =
    let n = prefix_len (is_in run.Digit) (b ∷ z) in
    let v = value (take n (b ∷ z)) in
    either z (leb (2 ^ 63) v) (Err (what.BigNumber, 0)) (Ok (kind.Number (pos v), n)) (λ e. flaw (what.BigNumber, 0))
    (λ e. found (kind.Number (pos v)) n (v, refl, leb-false _ _ e) (behind_run (is_in run.Digit) digit_low b z h u))

first_taken : (n b : ℕ) (z : List ℕ) → (n ≡ suc (prefix_len (is_in run.Word) z)) → is_in run.Digit b ≡ false → (is_in run.Digit (slice_index_or (take n (b ∷ z)) 0 0) ≡ false) × (0 < length (take n (b ∷ z)))
first_taken n b z e h = subst (λ m. (is_in run.Digit (slice_index_or (take m (b ∷ z)) 0 0) ≡ false) × (0 < length (take m (b ∷ z)))) (sym e) (h, omega arith)

name_fine : (b : ℕ) (z : List ℕ) → is_in run.Digit b ≡ false → is_in run.Word b ≡ true → IsUtf8 (b ∷ z) → Fine z (name (b ∷ z))
name_fine b z d h u =
    let n = prefix_len (is_in run.Word) (b ∷ z) in
    let first = first_taken n b z (run_first (is_in run.Word) b z h) d in
    either z (ltb 31 n) (Err (what.LongName, 0)) (Ok (kind.Name (take n (b ∷ z)), n)) (λ e. flaw (what.LongName, 0))
    (λ e. found (kind.Name (take n (b ∷ z))) n (taken_all (is_in run.Word) (b ∷ z), first.0, first.1, omega (arith, ltb-false _ _ e, length-take n (b ∷ z))) (behind_run (is_in run.Word) word_low b z h u))

-- ---- texts

-- what is read of a text, and how its bytes stand there
record Read (at : ℕ) (z w : List ℕ) (n : ℕ) : Type 0 where
  rest : List ℕ
  is : z ≡ escaped w ++ 34 ∷ rest
  ends : n ≡ at + length (escaped w) + 1
  feeds : NoFeed w

-- a byte that is in a text as it is, or behind a backslash
data Stands (b : ℕ) (z : List ℕ) (c : ℕ) : ℕ → Type 0 where
  plain : eqb b 10 ≡ false → eqb b 92 ≡ false → b ≡ c → Stands b z c 1
  behind : (more : List ℕ) → b ≡ 92 → z ≡ c ∷ more → (c ≡ 34) ⊎ (c ≡ 92) → Stands b z c 2

stands_as : (b : ℕ) (z : List ℕ) (c len n : ℕ) → len ≡ n → Stands b z c n → Stands b z c len
stands_as b z c len n e x = subst (Stands b z c) (sym e) x

two : ℕ → ℕ → Result (ℕ × ℕ) Wrong
two c n = Ok (c, n)

couple : ℕ → ℕ → ℕ × ℕ
couple a b = (a, b)

same_two : (a m c n : ℕ) → two a m ≡ two c n → (a ≡ c) × (m ≡ n)
unfolding two couple
same_two a m c n e = let pair : couple a m ≡ couple c n = cc in (ap (λ (x : ℕ × ℕ). x.0) pair, ap (λ (x : ℕ × ℕ). x.1) pair)

head_is : (z : List ℕ) (c : ℕ) → slice_index_or z 0 0 ≡ c → 0 < c → (more : List ℕ) × (z ≡ c ∷ more)
head_is [] c e h = absurd (omega (arith, e))
head_is (d ∷ z) c e h = (z, ap (λ k. k ∷ z) e)

escape_stands : (b : ℕ) (z : List ℕ) (at c len : ℕ) → b ≡ 92 → cond (eqb (slice_index_or z 0 0) 34) (two 34 2) (cond (eqb (slice_index_or z 0 0) 92) (two 92 2) (Err (what.BadEscape, at))) ≡ two c len → Stands b z c len
unfolding two
escape_stands b z at c len is e =
    elim (eqb (slice_index_or z 0 0) 34) as (λ q. eqb (slice_index_or z 0 0) 34 ≡ q → cond q (two 34 2) (cond (eqb (slice_index_or z 0 0) 92) (two 92 2) (Err (what.BadEscape, at))) ≡ two c len → Stands b z c len) [
      | true ↦ λ p k.
          let same = same_two 34 2 c len k in
          let one : 34 ≡ c = same.0 in
          let long : 2 ≡ len = same.1 in
          let h = head_is z 34 (eqb-true _ _ p) (omega arith) in
          stands_as b z c len 2 (sym long) (behind h.0 is (h.1 ∙ ap (λ x. x ∷ h.0) one) (inl (sym one)))
      | false ↦ λ p k. elim (eqb (slice_index_or z 0 0) 92) as (λ q. eqb (slice_index_or z 0 0) 92 ≡ q → cond q (two 92 2) (Err (what.BadEscape, at)) ≡ two c len → Stands b z c len) [
        | true ↦ λ s j.
            let same = same_two 92 2 c len j in
            let one : 92 ≡ c = same.0 in
            let long : 2 ≡ len = same.1 in
            let h = head_is z 92 (eqb-true _ _ s) (omega arith) in
            stands_as b z c len 2 (sym long) (behind h.0 is (h.1 ∙ ap (λ x. x ∷ h.0) one) (inr (sym one)))
        | false ↦ λ s j. absurd cc
      ] refl k
    ] refl e

unit_stands : (at b : ℕ) (z : List ℕ) (c len : ℕ) → unit at (b ∷ z) ≡ two c len → Stands b z c len
unfolding unit two
unit_stands at b z c len e =
    elim (eqb b 10) as (λ q. eqb b 10 ≡ q → cond q (Err (what.UnclosedText, 0)) (cond (eqb b 92) (cond (eqb (slice_index_or z 0 0) 34) (two 34 2) (cond (eqb (slice_index_or z 0 0) 92) (two 92 2) (Err (what.BadEscape, at)))) (two b 1)) ≡ two c len → Stands b z c len) [
      | true ↦ λ p k. absurd cc
      | false ↦ λ p k. elim (eqb b 92) as (λ q. eqb b 92 ≡ q → cond q (cond (eqb (slice_index_or z 0 0) 34) (two 34 2) (cond (eqb (slice_index_or z 0 0) 92) (two 92 2) (Err (what.BadEscape, at)))) (two b 1) ≡ two c len → Stands b z c len) [
        | true ↦ λ s j. escape_stands b z at c len (eqb-true b 92 s) j
        | false ↦ λ s j.
            let same = same_two b 1 c len j in
            let one : b ≡ c = same.0 in
            let long : 1 ≡ len = same.1 in
            stands_as b z c len 1 (sym long) (plain p s one)
      ] refl k
    ] refl e

done : List ℕ → ℕ → Result (List ℕ × ℕ) Wrong
done w n = Ok (w, n)

both : List ℕ → ℕ → List ℕ × ℕ
both w n = (w, n)

same_done : (v : List ℕ) (m : ℕ) (w : List ℕ) (n : ℕ) → done v m ≡ done w n → (v ≡ w) × (m ≡ n)
unfolding done both
same_done v m w n e = let pair : both v m ≡ both w n = cc in (ap (λ (x : List ℕ × ℕ). x.0) pair, ap (λ (x : List ℕ × ℕ). x.1) pair)

-- a first byte, and what is read behind it
record Next (x : Result (ℕ × ℕ) Wrong) (f : ℕ → Result (List ℕ × ℕ) Wrong) (w : List ℕ) (n : ℕ) : Type 0 where
  byte : ℕ
  len : ℕ
  tail : List ℕ
  unit_is : x ≡ two byte len
  more : f len ≡ done tail n
  is : byte ∷ tail ≡ w

next_by : (c len : ℕ) (f : ℕ → Result (List ℕ × ℕ) Wrong) (w : List ℕ) (n : ℕ) (o : Result (List ℕ × ℕ) Wrong) → f len ≡ o → with_byte c o ≡ done w n → Next (two c len) f w n
unfolding done
next_by c len f w n (Ok y) p k =
    let same = same_done (c ∷ y.0) y.1 w n k in
    record { byte = c; len = len; tail = y.0; unit_is = refl; more = p ∙ ap (λ m. done y.0 m) same.1; is = same.0 }
next_by c len f w n (Err e) p k = absurd cc

next_of : (x : Result (ℕ × ℕ) Wrong) (f : ℕ → Result (List ℕ × ℕ) Wrong) (w : List ℕ) (n : ℕ) → then_body x f ≡ done w n → Next x f w n
unfolding two done
next_of (Ok x) f w n e = next_by x.0 x.1 f w n (f x.1) refl e
next_of (Err x) f w n e = absurd cc

escape_one : (c : ℕ) → (c ≡ 34) ⊎ (c ≡ 92) → (eqb c 34 || eqb c 92) ≡ true
escape_one c (inl e) = subst (λ d. (eqb d 34 || eqb d 92) ≡ true) (sym e) refl
escape_one c (inr e) = subst (λ d. (eqb d 34 || eqb d 92) ≡ true) (sym e) refl

escape_no_feed : (c : ℕ) → (c ≡ 34) ⊎ (c ≡ 92) → eqb c 10 ≡ false
escape_no_feed c (inl e) = subst (λ d. eqb d 10 ≡ false) (sym e) refl
escape_no_feed c (inr e) = subst (λ d. eqb d 10 ≡ false) (sym e) refl

or_false : (a b : Bool) → a ≡ false → b ≡ false → (a || b) ≡ false
or_false a b p q = ap (λ c. c || b) p ∙ q

abbrev Reader : ℕ → Type 0
Reader fuel = (at : ℕ) (z w : List ℕ) (n : ℕ) → length z ≤ fuel → body at z ≡ done w n → Read at z w n

step_read : (fuel at b : ℕ) (z : List ℕ) (c len : ℕ) (tail : List ℕ) (n : ℕ) → Reader fuel → length z ≤ fuel → eqb b 34 ≡ false → Stands b z c len → body_from (at + 1) (len - 1) z ≡ done tail n → Read at (b ∷ z) (c ∷ tail) n
step_read fuel at b z c _ tail n ih h p (plain f s is) e =
    let r = ih (at + 1) z tail n h e in
    let whole : escaped (b ∷ tail) ≡ b ∷ escaped tail = ap (λ q. cond q (92 ∷ b ∷ []) (b ∷ []) ++ escaped tail) (or_false (eqb b 34) (eqb b 92) p s) in
    let here : Read at (b ∷ z) (b ∷ tail) n = record { rest = r.rest; is = ap (λ (v : List ℕ). b ∷ v) r.is ∙ ap (λ (v : List ℕ). v ++ 34 ∷ r.rest) (sym whole); ends = omega (arith, r.ends, ap length whole); feeds = (f, r.feeds) } in
    subst (λ d. Read at (b ∷ z) (d ∷ tail) n) is here
step_read fuel at b z c _ tail n ih h p (behind more is there which) e =
    let inside : body (at + 1 + 1) more ≡ done tail n = subst (λ (v : List ℕ). body_from (at + 1) (2 - 1) v ≡ done tail n) there e in
    let r = ih (at + 1 + 1) more tail n (omega (arith, h, ap length there)) inside in
    let whole : escaped (c ∷ tail) ≡ 92 ∷ c ∷ escaped tail = ap (λ q. cond q (92 ∷ c ∷ []) (c ∷ []) ++ escaped tail) (escape_one c which) in
    record {
      rest = r.rest;
      is = ap (λ x. x ∷ z) is ∙ ap (λ (v : List ℕ). 92 ∷ v) there ∙ ap (λ (v : List ℕ). 92 ∷ c ∷ v) r.is ∙ ap (λ (v : List ℕ). v ++ 34 ∷ r.rest) (sym whole);
      ends = omega (arith, r.ends, ap length whole);
      feeds = (escape_no_feed c which, r.feeds);
    }

body_read : (fuel : ℕ) → Reader fuel
unfolding done
body_read fuel at [] w n h e = absurd cc
body_read zero at (b ∷ z) w n h e = absurd (omega (arith, h))
body_read (suc fuel) at (b ∷ z) w n h e =
    let f : ℕ → Result (List ℕ × ℕ) Wrong = λ m. body_from (at + 1) (m - 1) z in
    elim (eqb b 34) as (λ q. eqb b 34 ≡ q → cond q (done [] (at + 1)) (then_body (unit at (b ∷ z)) f) ≡ done w n → Read at (b ∷ z) w n) [
      | true ↦ λ p k.
          let same = same_done [] (at + 1) w n k in
          let empty : Read at (b ∷ z) [] n = record { rest = z; is = ap (λ x. x ∷ z) (eqb-true b 34 p); ends = omega (arith, same.1); feeds = tt } in
          subst (λ (v : List ℕ). Read at (b ∷ z) v n) same.0 empty
      | false ↦ λ p k.
          let x = next_of (unit at (b ∷ z)) f w n k in
          subst (λ (v : List ℕ). Read at (b ∷ z) v n) x.is (step_read fuel at b z x.byte x.len x.tail n (body_read fuel) (omega (arith, h)) p (unit_stands at b z x.byte x.len x.unit_is) x.more)
    ] refl e

behind_quote : (a c : List ℕ) (n : ℕ) → n ≡ length a + 1 → IsUtf8 (a ++ 34 ∷ c) → IsUtf8 (drop n (a ++ 34 ∷ c))
behind_quote a c n e u =
    let all : a ++ 34 ∷ c ≡ (a ++ 34 ∷ []) ++ c = sym (append_assoc a (34 ∷ []) c) in
    let len : length (a ++ 34 ∷ []) ≡ n = omega (arith, e, length-append a (34 ∷ [])) in
    subst IsUtf8 (sym (ap (drop n) all ∙ drop_at (a ++ 34 ∷ []) c n len)) (behind_ascii a c 34 (omega arith) u)

word_fine : (z : List ℕ) → IsUtf8 z → Fine z (worded (body 1 z))
unfolding done
word_fine z u =
    elim (body 1 z) as (λ o. body 1 z ≡ o → Fine z (worded o)) [
      | Ok x ↦ λ e.
          let r = body_read (length z) 1 z x.0 x.1 (omega arith) e in
          let v : IsUtf8 (escaped x.0 ++ 34 ∷ r.rest) = subst IsUtf8 r.is u in
          let rest : IsUtf8 (drop (x.1 - 1) z) = subst (λ (y : List ℕ). IsUtf8 (drop (x.1 - 1) y)) (sym r.is) (behind_quote (escaped x.0) r.rest (x.1 - 1) (omega (arith, r.ends)) v) in
          either z (ltb 2000 (length x.0)) (Err (what.LongText, 0)) (Ok (kind.Word x.0, x.1)) (λ p. flaw (what.LongText, 0))
          (λ p. found (kind.Word x.0) x.1 (ltb-false _ _ p, r.feeds, before_ascii (escaped x.0) r.rest 34 (omega arith) v) rest)
      | Err e ↦ λ p. flaw e
    ] refl

pub piece_fine : (b : ℕ) (z : List ℕ) → IsUtf8 (b ∷ z) → Fine z (piece b z)
unfolding piece
piece_fine b z u =
    let last : Piece = cond (eqb b 34) (worded (body 1 z)) (mark b (slice_index_or (b ∷ z) 1 0)) in
    either z (is_in run.Digit b) (number (b ∷ z)) (cond (is_in run.Word b) (name (b ∷ z)) last) (λ d. number_fine b z d u)
    (λ d. either z (is_in run.Word b) (name (b ∷ z)) last (λ w. name_fine b z d w u)
    (λ w. either z (eqb b 34) (worded (body 1 z)) (mark b (slice_index_or (b ∷ z) 1 0))
    (λ q. word_fine z (tail_utf8 34 z (omega arith) (subst (λ c. IsUtf8 (c ∷ z)) (eqb-true b 34 q) u))) (λ q. mark_fine b z u)))
