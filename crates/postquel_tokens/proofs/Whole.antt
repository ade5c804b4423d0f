-- The tokens of a whole text, by whether it is UTF-8.
use Rattle.std.proofs.Common.{◌≡◌, ℕ, Bool, true, false, List, take, Err, refl}
use Rattle.std.specs.Prelude.{fold}
use Rattle.std.specs.Str.{IsUtf8, is_utf8}
use Rattle.std.specs.Str.Lossy.{utf8_valid_len}
use Rattle.std.proofs.lemmas.Str.{IsUtf8-from_is_utf8, is_utf8-from_IsUtf8}
use Rattle.postquel_tokens.specs.declared.fault.What.TheVariants as what
use Rattle.postquel_tokens.specs.Lex.{after, start, tokens_of, lex_of}

pub lex_good : (text : List ℕ) → IsUtf8 text → lex_of text ≡ tokens_of text
unfolding lex_of
lex_good text u = rw (is_utf8-from_IsUtf8 text u) refl

not_utf8 : (text : List ℕ) → ¬ (IsUtf8 text) → (b : Bool) → is_utf8 text ≡ b → b ≡ false
not_utf8 text n true e = absurd (n (IsUtf8-from_is_utf8 text e))
not_utf8 text n false e = refl

pub lex_bad : (text : List ℕ) → ¬ (IsUtf8 text) → lex_of text ≡ Err (what.NotUtf8, fold after start (take (utf8_valid_len text) text))
unfolding lex_of
lex_bad text n = rw (not_utf8 text n (is_utf8 text) refl) refl
