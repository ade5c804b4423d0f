-- The tokens of a text are valid.
use Rattle.std.proofs.Common.{◌≡◌, ℕ, zero, suc, ◌-◌, ◌<◌, Bool, true, false, cond, List, [], ◌∷◌, drop, Ok, Err, refl, subst, arith}
use Rattle.std.proofs.lemmas.Str.{IsUtf8-from_is_utf8}
use Rattle.std.specs.Str.{IsUtf8, is_utf8}
use Rattle.postquel_tokens.specs.declared.fault.Spot.{Spot}
use Rattle.postquel_tokens.specs.declared.token.Token.{Token}
use Rattle.postquel_tokens.specs.declared.token.TokenKind.{TokenKind}
use Rattle.postquel_tokens.specs.Lex.{Piece, piece, is_blank, after, start, Tokens, prepend, behind, tokens_from, tokens_of, lex_of}
use Rattle.postquel_round_trip.proofs.Lexing.{token}
use Rattle.postquel_round_trip.proofs.Valid.{Valid, ValidKind}
use Rattle.postquel_round_trip.proofs.Utf8.{tail_utf8}
use Rattle.postquel_round_trip.proofs.Pieces.{Fine, found, flaw, piece_fine}

-- what was read so far is valid, if it is no fault
abbrev AreValid : Tokens → Type 0
AreValid (Ok ts) = Valid ts
AreValid (Err e) = Unit {0}

prepend_valid : (k : TokenKind) (s : Spot) (o : Tokens) → ValidKind k → AreValid o → AreValid (prepend (token k s) o)
prepend_valid k s (Ok ts) v h = (v, h)
prepend_valid k s (Err e) v h = tt

behind_valid : (z : List ℕ) (p : Piece) (s : Spot) (more : ℕ → Tokens) → Fine z p → ((n : ℕ) → IsUtf8 (drop n z) → AreValid (more n)) → AreValid (behind p s more)
behind_valid z _ s more (found k n v u) h = prepend_valid k s (more (n - 1)) v (h (n - 1) u)
behind_valid z _ s more (flaw e) h = tt

blank_low : (b : ℕ) → is_blank b ≡ true → b < 128
blank_low b h = grind arith

chosen_valid : (b : Bool) (x y : Tokens) → (b ≡ true → AreValid x) → AreValid y → AreValid (cond b x y)
chosen_valid true x y p q = p refl
chosen_valid false x y p q = q

tokens_valid : (n : ℕ) (s : Spot) (z : List ℕ) → IsUtf8 (drop n z) → AreValid (tokens_from n s z)
tokens_valid n s [] u = (tt, tt)
tokens_valid (suc n) s (b ∷ z) u = tokens_valid n (after s b) z u
tokens_valid zero s (b ∷ z) u =
    chosen_valid (is_blank b) (tokens_from zero (after s b) z) (behind (piece b z) s (λ n. tokens_from n (after s b) z)) (λ e. tokens_valid zero (after s b) z (tail_utf8 b z (blank_low b e) u))
    (behind_valid z (piece b z) s (λ n. tokens_from n (after s b) z) (piece_fine b z u) (λ n v. tokens_valid n (after s b) z v))

lex_valid : (text : List ℕ) → AreValid (lex_of text)
unfolding lex_of tokens_of
lex_valid text = chosen_valid (is_utf8 text) (tokens_of text) _ (λ e. tokens_valid 0 start text (IsUtf8-from_is_utf8 text e)) tt

pub lexed_valid : (text : List ℕ) (all : List Token) → lex_of text ≡ Ok all → Valid all
lexed_valid text all e = subst AreValid e (lex_valid text)
