-- What tokens of a text are: none but the last is the end.
use Rattle.std.proofs.Common.{◌≢◌, ◌-◌, ◌^◌, ℕ, zero, suc, pos, Bool, true, false, ◌&&◌, cond, leb, ltb, eqb, length, take, List, [], ◌∷◌, Option, Some, None, Result, Ok, Err, refl, ap, subst}
use Rattle.std.specs.Prelude.{slice_index_or}
use Rattle.std.specs.Str.{is_utf8}
use Rattle.postquel_tokens.specs.declared.fault.What.TheVariants as what
use Rattle.postquel_tokens.specs.declared.piece.Run.TheVariants as run
use Rattle.postquel_tokens.specs.declared.fault.Spot.{Spot}
use Rattle.postquel_tokens.specs.declared.token.Sign.{Sign}
use Rattle.postquel_tokens.specs.declared.token.Sign.TheVariants as sign
use Rattle.postquel_tokens.specs.declared.token.Token.{Token}
use Rattle.postquel_tokens.specs.declared.token.TokenKind.{TokenKind}
use Rattle.postquel_tokens.specs.declared.token.TokenKind.TheVariants as kind
use Rattle.postquel_tokens.specs.Lex.{Piece, Wrong, is_in, run_len, value, name, number, worded, marked, mark, piece, body, is_blank, after, start, Tokens, prepend, behind, tokens_from, tokens_of, lex_of}
use Rattle.postquel.specs.declared.class.Class.TheVariants as class
use Rattle.postquel_tokens.specs.declared.name.Key.{Key}
use Rattle.postquel.specs.Class.{class_of, named}
use Rattle.postquel_tokens.specs.Names.{key_of}
use Rattle.postquel.specs.Reading.{IsText, IsLexed}

named_no_end : (o : Option Key) (n : List ℕ) → named o n ≢ class.End
named_no_end None n = λ e. absurd cc
named_no_end (Some k) n = λ e. absurd cc

data NotEnd : Piece → Type 0 where
  found : (p : TokenKind × ℕ) → class_of p.0 ≢ class.End → NotEnd (Ok p)
  flaw : (e : Wrong) → NotEnd (Err e)

either : (b : Bool) (x y : Piece) → NotEnd x → NotEnd y → NotEnd (cond b x y)
either true x y p q = p
either false x y p q = q

number_no_end : (z : List ℕ) → NotEnd (number z)
number_no_end z = either (leb (2 ^ 63) (value (take (run_len run.Digit z) z))) (Err (what.BigNumber, 0)) (Ok (kind.Number (pos (value (take (run_len run.Digit z) z))), run_len run.Digit z)) (flaw (what.BigNumber, 0)) (found (kind.Number (pos (value (take (run_len run.Digit z) z))), run_len run.Digit z) (λ e. absurd cc))

name_no_end : (z : List ℕ) → NotEnd (name z)
name_no_end z =
    let n = run_len run.Word z in
    either (ltb 31 n) (Err (what.LongName, 0)) (Ok (kind.Name (take n z), n)) (flaw (what.LongName, 0)) (found (kind.Name (take n z), n) (named_no_end (key_of (take n z)) (take n z)))

worded_no_end : (o : Result (List ℕ × ℕ) Wrong) → NotEnd (worded o)
worded_no_end (Ok x) = either (ltb 2000 (length x.0)) (Err (what.LongText, 0)) (Ok (kind.Word x.0, x.1)) (flaw (what.LongText, 0)) (found (kind.Word x.0, x.1) (λ e. absurd cc))
worded_no_end (Err e) = flaw e

marked_no_end : (s : Sign) (n : ℕ) → NotEnd (marked s n)
marked_no_end s n = found (kind.Mark s, n) (λ e. absurd cc)

mark_no_end : (b next : ℕ) → NotEnd (mark b next)
unfolding mark
mark_no_end b next =
    let m12 : Piece = Err (what.BadChar, 0) in
    let h12 : NotEnd m12 = flaw (what.BadChar, 0) in
    let m11 : Piece = cond (eqb b 92 && eqb next 103) (marked sign.Go 2) m12 in
    let h11 : NotEnd m11 = either (eqb b 92 && eqb next 103) (marked sign.Go 2) m12 (marked_no_end sign.Go 2) h12 in
    let m10 : Piece = cond (eqb b 62) (cond (eqb next 61) (marked sign.AtLeast 2) (marked sign.More 1)) m11 in
    let h10 : NotEnd m10 = either (eqb b 62) (cond (eqb next 61) (marked sign.AtLeast 2) (marked sign.More 1)) m11 (either (eqb next 61) (marked sign.AtLeast 2) (marked sign.More 1) (marked_no_end sign.AtLeast 2) (marked_no_end sign.More 1)) h11 in
    let m9 : Piece = cond (eqb b 60) (cond (eqb next 61) (marked sign.AtMost 2) (marked sign.Less 1)) m10 in
    let h9 : NotEnd m9 = either (eqb b 60) (cond (eqb next 61) (marked sign.AtMost 2) (marked sign.Less 1)) m10 (either (eqb next 61) (marked sign.AtMost 2) (marked sign.Less 1) (marked_no_end sign.AtMost 2) (marked_no_end sign.Less 1)) h10 in
    let m8 : Piece = cond (eqb b 33 && eqb next 61) (marked sign.NotEqual 2) m9 in
    let h8 : NotEnd m8 = either (eqb b 33 && eqb next 61) (marked sign.NotEqual 2) m9 (marked_no_end sign.NotEqual 2) h9 in
    let m7 : Piece = cond (eqb b 42) (marked sign.Times 1) m8 in
    let h7 : NotEnd m7 = either (eqb b 42) (marked sign.Times 1) m8 (marked_no_end sign.Times 1) h8 in
    let m6 : Piece = cond (eqb b 45) (marked sign.Minus 1) m7 in
    let h6 : NotEnd m6 = either (eqb b 45) (marked sign.Minus 1) m7 (marked_no_end sign.Minus 1) h7 in
    let m5 : Piece = cond (eqb b 43) (marked sign.Plus 1) m6 in
    let h5 : NotEnd m5 = either (eqb b 43) (marked sign.Plus 1) m6 (marked_no_end sign.Plus 1) h6 in
    let m4 : Piece = cond (eqb b 61) (marked sign.Equal 1) m5 in
    let h4 : NotEnd m4 = either (eqb b 61) (marked sign.Equal 1) m5 (marked_no_end sign.Equal 1) h5 in
    let m3 : Piece = cond (eqb b 46) (marked sign.Dot 1) m4 in
    let h3 : NotEnd m3 = either (eqb b 46) (marked sign.Dot 1) m4 (marked_no_end sign.Dot 1) h4 in
    let m2 : Piece = cond (eqb b 44) (marked sign.Comma 1) m3 in
    let h2 : NotEnd m2 = either (eqb b 44) (marked sign.Comma 1) m3 (marked_no_end sign.Comma 1) h3 in
    let m1 : Piece = cond (eqb b 41) (marked sign.Right 1) m2 in
    let h1 : NotEnd m1 = either (eqb b 41) (marked sign.Right 1) m2 (marked_no_end sign.Right 1) h2 in
    either (eqb b 40) (marked sign.Left 1) m1 (marked_no_end sign.Left 1) h1

piece_no_end : (b : ℕ) (z : List ℕ) → NotEnd (piece b z)
unfolding piece
piece_no_end b z =
    let rest : Piece = cond (eqb b 34) (worded (body 1 z)) (mark b (slice_index_or (b ∷ z) 1 0)) in
    either (is_in run.Digit b) (number (b ∷ z)) (cond (is_in run.Word b) (name (b ∷ z)) rest) (number_no_end (b ∷ z))
    (either (is_in run.Word b) (name (b ∷ z)) rest (name_no_end (b ∷ z))
    (either (eqb b 34) (worded (body 1 z)) (mark b (slice_index_or (b ∷ z) 1 0)) (worded_no_end (body 1 z)) (mark_no_end b (slice_index_or (b ∷ z) 1 0))))

-- what was read so far is a text, if it is no fault
abbrev AreText : Tokens → Type 0
AreText (Ok ts) = IsText ts
AreText (Err e) = Unit {0}

prepend_text : (k : TokenKind) (s : Spot) (o : Tokens) → class_of k ≢ class.End → AreText o → AreText (prepend (record { kind = k; spot = s }) o)
prepend_text k s (Ok ts) n h = record { tokens = record { kind = k; spot = s } ∷ h.tokens; end = h.end; parts = ap (λ (v : List Token). record { kind = k; spot = s } ∷ v) h.parts; no_end = (n, h.no_end); is_end = h.is_end }
prepend_text k s (Err e) n h = tt

behind_text : (p : Piece) (s : Spot) (more : ℕ → Tokens) → NotEnd p → ((n : ℕ) → AreText (more n)) → AreText (behind p s more)
behind_text _ s more (found p n) h = prepend_text p.0 s (more (p.1 - 1)) n (h (p.1 - 1))
behind_text _ s more (flaw e) h = tt

chosen_text : (b : Bool) (x y : Tokens) → AreText x → AreText y → AreText (cond b x y)
chosen_text true x y p q = p
chosen_text false x y p q = q

tokens_text : (n : ℕ) (s : Spot) (z : List ℕ) → AreText (tokens_from n s z)
tokens_text n s [] = record { tokens = []; end = record { kind = kind.End; spot = s }; parts = refl; no_end = tt; is_end = refl }
tokens_text (suc n) s (b ∷ z) = tokens_text n (after s b) z
tokens_text zero s (b ∷ z) = chosen_text (is_blank b) (tokens_from zero (after s b) z) (behind (piece b z) s (λ n. tokens_from n (after s b) z)) (tokens_text zero (after s b) z)
    (behind_text (piece b z) s (λ n. tokens_from n (after s b) z) (piece_no_end b z) (λ n. tokens_text n (after s b) z))

lex_text : (text : List ℕ) → AreText (lex_of text)
unfolding lex_of tokens_of
lex_text text = chosen_text (is_utf8 text) (tokens_of text) _ (tokens_text 0 start text) tt

pub lexed_text : (all : List Token) → IsLexed all → IsText all
lexed_text all h = subst AreText h.gives (lex_text h.text)
