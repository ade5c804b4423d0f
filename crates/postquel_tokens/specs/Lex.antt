-- Tokens, by cases on the text.
use Rattle.std.specs.Prelude.{◌≡◌, ◌≤◌, ℕ, zero, suc, ◌+◌, ◌-◌, ◌*◌, ◌^◌, min, pos, Bool, ◌&&◌, ◌||◌, if◌then◌else◌, ◌==◌, nat_lt, nat_le, List, [], ◌∷◌, length, take, drop, fold, slice_index, Result, Ok, Err}
use Rattle.std.specs.Char.{is_ascii_digit, is_ascii_alphanumeric}
use Rattle.std.specs.List.{prefix_len}
use Rattle.std.specs.Str.{is_utf8}
use Rattle.std.specs.Str.Lossy.{utf8_valid_len}
use Rattle.postquel_tokens.specs.declared.fault.Spot.{Spot}
use Rattle.postquel_tokens.specs.declared.fault.What.{What}
use Rattle.postquel_tokens.specs.declared.fault.What.TheVariants as what
use Rattle.postquel_tokens.specs.declared.token.Sign.{Sign}
use Rattle.postquel_tokens.specs.declared.token.Sign.TheVariants as sign
use Rattle.postquel_tokens.specs.declared.token.Token.{Token}
use Rattle.postquel_tokens.specs.declared.token.TokenKind.{TokenKind}
use Rattle.postquel_tokens.specs.declared.token.TokenKind.TheVariants.{Name, Number, Word, Mark, End}
use Rattle.postquel_tokens.specs.declared.piece.Run.{Run}
use Rattle.postquel_tokens.specs.declared.piece.Run.TheVariants as run
use Rattle.postquel_tokens.specs.declared.piece.Flaw.{Flaw}
use Rattle.postquel_tokens.specs.declared.piece.Flaw.TheVariants as flaw
use Rattle.postquel_tokens.specs.declared.fault.TextErr.{TextErr}
use Rattle.postquel_tokens.specs.declared.fault.TextErr.TheVariants as text_err

-- what is wrong, and how many bytes after the token's first
abbrev pub Wrong : Type 0
Wrong = What × ℕ

-- a token and its length
abbrev pub Piece : Type 0
Piece = Result (TokenKind × ℕ) Wrong

abbrev pub is_blank : ℕ → Bool
is_blank b = b == 32 || b == 9 || b == 13 || b == 10

abbrev pub is_in : Run → ℕ → Bool
is_in run.Word b = is_ascii_alphanumeric b || b == 95
is_in run.Digit b = is_ascii_digit b

abbrev pub run_len : Run → List ℕ → ℕ
run_len r z = prefix_len (is_in r) z

abbrev pub name : List ℕ → Piece
name z = let n = run_len run.Word z in if nat_lt 31 n then Err (what.LongName, 0) else Ok (Name (take n z), n)

abbrev pub value : List ℕ → ℕ
value = fold (λ n b. 10 * n + (b - 48)) 0

abbrev pub capped : List ℕ → ℕ
capped = fold (λ n b. min (10 * n + (b - 48)) (2 ^ 63)) 0

abbrev pub number : List ℕ → Piece
number z = let n = run_len run.Digit z in if nat_le (2 ^ 63) (value (take n z)) then Err (what.BigNumber, 0) else Ok (Number (pos (value (take n z))), n)

abbrev pub with_byte : ℕ → Result (List ℕ × ℕ) Wrong → Result (List ℕ × ℕ) Wrong
with_byte b (Ok x) = Ok (b ∷ x.0, x.1)
with_byte b (Err e) = Err e

-- the byte that a text has in front, and how many bytes it takes
unfoldable pub unit : ℕ → List ℕ → Result (ℕ × ℕ) Wrong
unit at [] = Err (what.UnclosedText, 0)
unit at (b ∷ z) =
    if b == 10 then Err (what.UnclosedText, 0)
    else (if b == 92 then (if slice_index z 0 == 34 then Ok (34, 2) else (if slice_index z 0 == 92 then Ok (92, 2) else Err (what.BadEscape, at)))
    else Ok (b, 1))

abbrev pub then_body : Result (ℕ × ℕ) Wrong → (ℕ → Result (List ℕ × ℕ) Wrong) → Result (List ℕ × ℕ) Wrong
then_body (Ok x) more = with_byte x.0 (more x.1)
then_body (Err e) more = Err e

-- A text behind its opening quote, and where it ends: the place, and how many bytes are left of a unit.
abbrev pub body_from : ℕ → ℕ → List ℕ → Result (List ℕ × ℕ) Wrong
body_from at n [] = Err (what.UnclosedText, 0)
body_from at (suc n) (b ∷ z) = body_from (at + 1) n z
body_from at zero (b ∷ z) = if b == 34 then Ok ([], at + 1) else then_body (unit at (b ∷ z)) (λ n. body_from (at + 1) (n - 1) z)

abbrev pub body : ℕ → List ℕ → Result (List ℕ × ℕ) Wrong
body at z = body_from at 0 z

abbrev pub Units : Result (ℕ × ℕ) Flaw → Result (ℕ × ℕ) Wrong → Type 0
Units (Ok x) p = p ≡ Ok x
Units (Err (flaw.At w n)) p = p ≡ Err (w, n)
Units (Err flaw.NoMemory) p = Unit {0}

abbrev pub worded : Result (List ℕ × ℕ) Wrong → Piece
worded (Ok x) = if nat_lt 2000 (length x.0) then Err (what.LongText, 0) else Ok (Word x.0, x.1)
worded (Err e) = Err e

abbrev pub marked : Sign → ℕ → Piece
marked s n = Ok (Mark s, n)

-- a mark by its first two bytes
unfoldable pub mark : ℕ → ℕ → Piece
mark b next =
    if b == 40 then marked sign.Left 1 else (if b == 41 then marked sign.Right 1 else (if b == 44 then marked sign.Comma 1
    else (if b == 46 then marked sign.Dot 1 else (if b == 61 then marked sign.Equal 1
    else (if b == 43 then marked sign.Plus 1 else (if b == 45 then marked sign.Minus 1 else (if b == 42 then marked sign.Times 1
    else (if b == 33 && next == 61 then marked sign.NotEqual 2
    else (if b == 60 then (if next == 61 then marked sign.AtMost 2 else marked sign.Less 1)
    else (if b == 62 then (if next == 61 then marked sign.AtLeast 2 else marked sign.More 1)
    else (if b == 92 && next == 103 then marked sign.Go 2
    else Err (what.BadChar, 0))))))))))))

-- the token in front of a text that begins with this byte
unfoldable pub piece : ℕ → List ℕ → Piece
piece b z =
    if is_in run.Digit b then number (b ∷ z)
    else (if is_in run.Word b then name (b ∷ z)
    else (if b == 34 then worded (body 1 z)
    else mark b (slice_index (b ∷ z) 1)))

-- the place behind a byte
abbrev pub after : Spot → ℕ → Spot
after s b = if b == 10 then record { line = s.line + 1; col = 1 } else record { line = s.line; col = s.col + 1 }

abbrev pub Fault : Type 0
Fault = What × Spot

abbrev pub Tokens : Type 0
Tokens = Result (List Token) Fault

abbrev pub prepend : Token → Tokens → Tokens
prepend t (Ok ts) = Ok (t ∷ ts)
prepend t (Err e) = Err e

abbrev pub behind : Piece → Spot → (ℕ → Tokens) → Tokens
behind (Ok p) s more = prepend (record { kind = p.0; spot = s }) (more (p.1 - 1))
behind (Err e) s more = Err (e.0, record { line = s.line; col = s.col + e.1 })

-- The tokens of a text from a place on. The number counts the bytes that are left of a token.
abbrev pub tokens_from : ℕ → Spot → List ℕ → Tokens
tokens_from n s [] = Ok (record { kind = End; spot = s } ∷ [])
tokens_from (suc n) s (b ∷ z) = tokens_from n (after s b) z
tokens_from zero s (b ∷ z) = if is_blank b then tokens_from zero (after s b) z else behind (piece b z) s (λ n. tokens_from n (after s b) z)

-- what a function returned is this, unless memory ran out
abbrev pub Found : Result (TokenKind × ℕ) Flaw → Piece → Type 0
Found (Ok x) p = p ≡ Ok x
Found (Err (flaw.At w n)) p = p ≡ Err (w, n)
Found (Err flaw.NoMemory) p = Unit {0}

-- the same of tokens, through a view
abbrev pub Gives : {A : Type 0} → (A → List Token) → Result A TextErr → Tokens → Type 0
Gives view (Ok x) p = p ≡ Ok (view x)
Gives view (Err (text_err.Fault line col w)) p = p ≡ Err (w, record { line = line; col = col })
Gives view (Err text_err.NoMemory) p = Unit {0}

abbrev pub Bodies : Result (List ℕ × ℕ) Flaw → Result (List ℕ × ℕ) Wrong → Type 0
Bodies (Ok x) p = p ≡ Ok x
Bodies (Err (flaw.At w n)) p = p ≡ Err (w, n)
Bodies (Err flaw.NoMemory) p = Unit {0}

abbrev pub rest_of : List ℕ → List ℕ
rest_of z = drop 1 z

abbrev pub start : Spot
start = record { line = 1; col = 1 }

unfoldable pub tokens_of : List ℕ → Tokens
tokens_of text = tokens_from 0 start text

-- the tokens of a whole text, or the place of its first byte that is no UTF-8
unfoldable pub lex_of : List ℕ → Tokens
lex_of text = if is_utf8 text then tokens_of text else Err (what.NotUtf8, fold after start (take (utf8_valid_len text) text))

-- a token takes a byte and no more than there are, and a flaw is in it
abbrev pub Within : Result (TokenKind × ℕ) Flaw → ℕ → Type 0
Within (Ok x) n = (1 ≤ x.1) × (x.1 ≤ n)
Within (Err (flaw.At w k)) n = k ≤ n
Within (Err flaw.NoMemory) n = Unit {0}

abbrev pub WithinBody : Result (List ℕ × ℕ) Flaw → ℕ → Type 0
WithinBody (Ok x) n = (1 ≤ x.1) × (x.1 ≤ n)
WithinBody (Err (flaw.At w k)) n = k ≤ n
WithinBody (Err flaw.NoMemory) n = Unit {0}

abbrev pub WithinUnit : Result (ℕ × ℕ) Flaw → ℕ → ℕ → Type 0
WithinUnit (Ok x) n at = (1 ≤ x.1) × (x.1 ≤ n)
WithinUnit (Err (flaw.At w k)) n at = k ≤ at
WithinUnit (Err flaw.NoMemory) n at = Unit {0}
