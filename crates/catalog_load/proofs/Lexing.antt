-- A text has a token, its end at least.
use Rattle.std.proofs.Common.{◌≡◌, ℕ, ◌<◌, ◌-◌, zero, suc, Bool, true, false, cond, List, [], ◌∷◌, length, Ok, Err, arith}
use Rattle.std.specs.Str.{is_utf8}
use Rattle.postquel_tokens.specs.declared.fault.Spot.{Spot}
use Rattle.postquel_tokens.specs.declared.token.Token.{Token}
use Rattle.postquel_tokens.specs.Lex.{Piece, Tokens, after, behind, is_blank, lex_of, piece, prepend, start, tokens_from, tokens_of}

abbrev HasSome : Tokens → Type 0
HasSome (Ok ts) = 0 < length ts
HasSome (Err e) = Unit {0}

some_prepended : (t : Token) (x : Tokens) → HasSome (prepend t x)
some_prepended t (Ok ts) = omega arith
some_prepended t (Err e) = tt

some_behind : (p : Piece) (s : Spot) (more : ℕ → Tokens) → HasSome (behind p s more)
some_behind (Ok p) s more = some_prepended (record { kind = p.0; spot = s }) (more (p.1 - 1))
some_behind (Err e) s more = tt

chosen : (b : Bool) (x y : Tokens) → HasSome x → HasSome y → HasSome (cond b x y)
chosen true x y p q = p
chosen false x y p q = q

some_from : (n : ℕ) (s : Spot) (z : List ℕ) → HasSome (tokens_from n s z)
some_from n s [] = omega arith
some_from (suc n) s (b ∷ z) = some_from n (after s b) z
some_from zero s (b ∷ z) = chosen (is_blank b) (tokens_from zero (after s b) z) (behind (piece b z) s (λ n. tokens_from n (after s b) z)) (some_from zero (after s b) z) (some_behind (piece b z) s (λ n. tokens_from n (after s b) z))

some_lexed : (text : List ℕ) → HasSome (lex_of text)
unfolding lex_of tokens_of
some_lexed text = chosen (is_utf8 text) (tokens_from 0 start text) _ (some_from 0 start text) tt

told : (x : Tokens) (ts : List Token) → HasSome x → x ≡ Ok ts → 0 < length ts
told (Ok us) ts h e = let same : us ≡ ts = cc in rw (← same) h
told (Err f) ts h e = cc

pub has_token : (text : List ℕ) (ts : List Token) → lex_of text ≡ Ok ts → 0 < length ts
has_token text ts e = told (lex_of text) ts (some_lexed text) e
