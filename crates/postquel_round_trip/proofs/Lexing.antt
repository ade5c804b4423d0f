-- Texts that are lexed to known tokens, whatever follows.
use Rattle.std.proofs.Common.{◌≡◌, ℕ, zero, suc, ◌+◌, ◌-◌, ◌*◌, ◌<◌, ◌≤◌, Bool, true, false, ◌&&◌, cond, eqb, ltb, List, [], ◌∷◌, ◌++◌, length, Ok, Err, refl, sym, ap, subst, ◌∙◌, append_assoc, length-append, arith}
use Rattle.std.proofs.lemmas.Bool.{ltb-true, eqb-true}
use Rattle.std.specs.Prelude.{fold, slice_index_or}
use Rattle.std.specs.List.{prefix_len, list_all}
use Rattle.std.specs.Str.{IsUtf8}
use Rattle.std.proofs.lemmas.Str.{IsUtf8-append, IsUtf8-from_ascii}
use Rattle.postquel_tokens.specs.declared.fault.Spot.{Spot}
use Rattle.postquel_tokens.specs.declared.token.Token.{Token}
use Rattle.postquel_tokens.specs.declared.token.TokenKind.{TokenKind}
use Rattle.postquel_tokens.specs.declared.piece.Run.TheVariants as run
use Rattle.postquel_tokens.specs.Lex.{is_in, is_blank, piece, after, Tokens, prepend, behind, tokens_from}
use Rattle.postquel.specs.declared.class.Class.{Class}
use Rattle.postquel.specs.Class.{class_of, looks}

pub and_true : (a b : Bool) → (a && b) ≡ true → (a ≡ true) × (b ≡ true)
and_true true b h = (refl, h)
and_true false b h = absurd cc

abbrev pub in_front : List Token → Tokens → Tokens
in_front ts (Ok us) = Ok (ts ++ us)
in_front ts (Err e) = Err e

front_then : (ts us : List Token) (o : Tokens) → in_front ts (in_front us o) ≡ in_front (ts ++ us) o
front_then ts us (Ok x) = ap (λ (v : List Token). Ok v) (sym (append_assoc ts us x))
front_then ts us (Err e) = refl

pub front_none : (o : Tokens) → o ≡ in_front [] o
front_none (Ok x) = refl
front_none (Err e) = refl

pub front_one : (t : Token) (o : Tokens) → prepend t o ≡ in_front (t ∷ []) o
front_one t (Ok x) = refl
front_one t (Err e) = refl

abbrev pub token : TokenKind → Spot → Token
token k s = record { kind = k; spot = s }

-- what the text is lexed to, and that it is not long
pub record Lexes (text : List ℕ) (s : Spot) (r : List ℕ) (D : List Token → Type 0) : Type 0 where
  pub tokens : List Token
  pub to : Spot
  pub is : tokens_from 0 s (text ++ r) ≡ in_front tokens (tokens_from 0 to r)
  pub derives : D tokens
  pub short : length text ≤ 4002 * length tokens
  pub utf8 : IsUtf8 text

-- the same before each text that may follow
abbrev pub Gives : List ℕ → (List ℕ → Type 0) → (List Token → Type 0) → Type 0
Gives text P D = (s : Spot) (r : List ℕ) → P r → Lexes text s r D

abbrev pub Any : List ℕ → Type 0
Any r = Unit {0}

-- ---- bytes of ASCII

low_index : (bs : List ℕ) → list_all (λ b. ltb b 128) bs ≡ true → (i : ℕ) → slice_index_or bs i 0 < 128
low_index [] h i = omega arith
low_index (b ∷ bs) h zero = ltb-true _ _ (and_true (ltb b 128) (list_all (λ c. ltb c 128) bs) h).0
low_index (b ∷ bs) h (suc i) = low_index bs (and_true (ltb b 128) (list_all (λ c. ltb c 128) bs) h).1 i

pub low_utf8 : (bs : List ℕ) → list_all (λ b. ltb b 128) bs ≡ true → IsUtf8 bs
low_utf8 bs h = IsUtf8-from_ascii bs (low_index bs h)

-- ---- what is lexed

-- no byte that makes a name, a number or a `>` longer comes first
abbrev pub Apart : List ℕ → Type 0
Apart r = (is_in run.Word (slice_index_or r 0 0) ≡ false) × (eqb (slice_index_or r 0 0) 61 ≡ false)

pub data Both (D E : List Token → Type 0) : List Token → Type 0 where
  both : {u w : List Token} → D u → E w → Both D E (u ++ w)

-- one token of a class
pub data One (c : Class) : List Token → Type 0 where
  one : (t : Token) → looks t ≡ c → One c (t ∷ [])

pub then : {P Q : List ℕ → Type 0} {D E : List Token → Type 0} (a b : List ℕ) → Gives a P D → ((r : List ℕ) → Q r → P (b ++ r)) → Gives b Q E → Gives (a ++ b) Q (Both D E)
then a b x p y s r q =
    let u = x s (b ++ r) (p r q) in
    let w = y u.to r q in
    record {
      tokens = u.tokens ++ w.tokens;
      to = w.to;
      is = ap (tokens_from 0 s) (append_assoc a b r) ∙ u.is ∙ ap (in_front u.tokens) w.is ∙ front_then u.tokens w.tokens (tokens_from 0 w.to r);
      derives = both u.derives w.derives;
      short = omega (arith, u.short, w.short, length-append a b, length-append u.tokens w.tokens);
      utf8 = IsUtf8-append a b u.utf8 w.utf8;
    }

pub means : {P : List ℕ → Type 0} {D E : List Token → Type 0} (a : List ℕ) → ((ts : List Token) → D ts → E ts) → Gives a P D → Gives a P E
means a f x s r p = let u = x s r p in record { tokens = u.tokens; to = u.to; is = u.is; derives = f u.tokens u.derives; short = u.short; utf8 = u.utf8 }

-- the same text, grouped another way
pub flat4 : (a b c d : List ℕ) → ((a ++ b) ++ c) ++ d ≡ a ++ (b ++ (c ++ d))
flat4 a b c d = append_assoc (a ++ b) c d ∙ append_assoc a b (c ++ d)

pub flat5 : (a b c d e : List ℕ) → (((a ++ b) ++ c) ++ d) ++ e ≡ a ++ (b ++ (c ++ (d ++ e)))
flat5 a b c d e = append_assoc ((a ++ b) ++ c) d e ∙ flat4 a b c (d ++ e)

pub as_grouped : {P : List ℕ → Type 0} {D : List Token → Type 0} (a b : List ℕ) → a ≡ b → Gives b P D → Gives a P D
as_grouped {P} {D} a b e x = subst (λ (z : List ℕ). Gives z P D) (sym e) x

pub loose : {D : List Token → Type 0} (P : List ℕ → Type 0) (a : List ℕ) → Gives a Any D → Gives a P D
loose P a x s r p = x s r tt

pub nothing : (P : List ℕ → Type 0) (D : List Token → Type 0) → D [] → Gives [] P D
nothing P D d s r p = record { tokens = []; to = s; is = front_none (tokens_from 0 s r); derives = d; short = omega arith; utf8 = low_utf8 [] refl }

-- a text that is one token, with blanks around it
pub fixed : (text lead : List ℕ) (k : TokenKind) (c : Class) → class_of k ≡ c → ((s : Spot) (r : List ℕ) → tokens_from 0 s (text ++ r) ≡ prepend (token k (fold after s lead)) (tokens_from 0 (fold after s text) r)) → length text ≤ 4002 → list_all (λ b. ltb b 128) text ≡ true
    → Gives text Any (One c)
fixed text lead k c e is n u s r p =
    record {
      tokens = token k (fold after s lead) ∷ [];
      to = fold after s text;
      is = is s r ∙ front_one (token k (fold after s lead)) (tokens_from 0 (fold after s text) r);
      derives = one (token k (fold after s lead)) e;
      short = omega (arith, n);
      utf8 = low_utf8 text u;
    }

-- ---- runs of bytes

pub other_byte : (b c : ℕ) → is_in run.Word b ≡ true → is_in run.Word c ≡ false → eqb b c ≡ false
other_byte b c h k = elim (eqb b c) as (λ q. eqb b c ≡ q → q ≡ false) [
  | true ↦ λ e. let same : b ≡ c = eqb-true b c e in absurd cc
  | false ↦ λ e. refl
] refl

pub no_blank : (b : ℕ) → is_in run.Word b ≡ true → is_blank b ≡ false
no_blank b h = rw (other_byte b 32 h refl, other_byte b 9 h refl, other_byte b 13 h refl, other_byte b 10 h refl) refl

pub run_is : (p : ℕ → Bool) (n r : List ℕ) → list_all p n ≡ true → p (slice_index_or r 0 0) ≡ false → prefix_len p (n ++ r) ≡ length n
run_is p [] [] h k = refl
run_is p [] (b ∷ r) h k = rw k refl
run_is p (b ∷ n) r h k =
    let q = and_true (p b) (list_all p n) h in
    let one : 1 + length n ≡ suc (length n) = omega arith in
    rw (q.0, run_is p n r q.1 k) one

pub skips : (n r : List ℕ) (s : Spot) → tokens_from (length n) s (n ++ r) ≡ tokens_from 0 (fold after s n) r
skips [] r s = refl
skips (b ∷ n) r s = skips n r (after s b)

-- a token in front is read whole
pub piece_first : (b : ℕ) (n r : List ℕ) (k : TokenKind) (s : Spot) → is_blank b ≡ false → piece b (n ++ r) ≡ Ok (k, suc (length n)) → tokens_from 0 s (b ∷ (n ++ r)) ≡ prepend (token k s) (tokens_from 0 (fold after s (b ∷ n)) r)
piece_first b n r k s blank is =
    let less : suc (length n) - 1 ≡ length n = omega arith in
    let more : ℕ → Tokens = λ m. tokens_from m (after s b) (n ++ r) in
    ap (λ q. cond q (tokens_from 0 (after s b) (n ++ r)) (behind (piece b (n ++ r)) s more)) blank
    ∙ ap (λ p. behind p s more) is
    ∙ ap (λ m. prepend (token k s) (more m)) less
    ∙ ap (prepend (token k s)) (skips n r (after s b))
