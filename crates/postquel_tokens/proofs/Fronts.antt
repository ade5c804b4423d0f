-- Tokens that were read before, in front of those that are still read.
use Rattle.std.proofs.Common.{◌≡◌, ℕ, zero, suc, ◌+◌, ◌-◌, ◌<◌, ◌≤◌, true, false, cond, List, [], ◌∷◌, ◌++◌, length, take, drop, get_or, drop-cons, Ok, Err, refl, sym, ap, subst, ◌∙◌, append_assoc, arith}
use Rattle.std.specs.Prelude.{fold}
use Rattle.std.proofs.lemmas.List.{drop-drop}
use Rattle.postquel_tokens.specs.declared.fault.Spot.{Spot}
use Rattle.postquel_tokens.specs.declared.token.Token.{Token}
use Rattle.postquel_tokens.specs.declared.token.TokenKind.{TokenKind}
use Rattle.postquel_tokens.specs.declared.fault.What.{What}
use Rattle.postquel_tokens.specs.Lex.{piece, is_blank, after, Tokens, prepend, behind, tokens_from}

abbrev pub in_front : List Token → Tokens → Tokens
in_front ts (Ok us) = Ok (ts ++ us)
in_front ts (Err e) = Err e

one_more : (ts : List Token) (t : Token) (o : Tokens) → in_front ts (prepend t o) ≡ in_front (ts ++ t ∷ []) o
one_more ts t (Ok x) = ap (λ (v : List Token). Ok v) (sym (append_assoc ts (t ∷ []) x))
one_more ts t (Err e) = refl

skips : (n : ℕ) (z : List ℕ) (s : Spot) → n ≤ length z → tokens_from n s z ≡ tokens_from 0 (fold after s (take n z)) (drop n z)
skips zero z s h = refl
skips (suc n) [] s h = absurd (omega arith)
skips (suc n) (b ∷ z) s h = skips n z (after s b) (omega arith)

pub blank_step : (ts : List Token) (s : Spot) (text : List ℕ) (at b : ℕ) (total : Tokens) → at < length text → b ≡ get_or text at 0 → is_blank b ≡ true
    → in_front ts (tokens_from 0 s (drop at text)) ≡ total → in_front ts (tokens_from 0 (after s b) (drop (at + 1) text)) ≡ total
blank_step ts s text at b total h is blank so_far =
    let e : drop at text ≡ b ∷ drop (suc at) text = rw is (drop-cons text at 0 h) in
    let k : at + 1 ≡ suc at = omega arith in
    let step : tokens_from 0 s (b ∷ drop (suc at) text) ≡ tokens_from 0 (after s b) (drop (suc at) text) = ap (λ q. cond q (tokens_from 0 (after s b) (drop (suc at) text)) (behind (piece b (drop (suc at) text)) s (λ n. tokens_from n (after s b) (drop (suc at) text)))) blank in
    ap (in_front ts) (ap (λ m. tokens_from 0 (after s b) (drop m text)) k ∙ sym step ∙ ap (tokens_from 0 s) (sym e)) ∙ so_far

piece_is : (s : Spot) (b : ℕ) (z : List ℕ) → is_blank b ≡ false → tokens_from 0 s (b ∷ z) ≡ behind (piece b z) s (λ n. tokens_from n (after s b) z)
piece_is s b z blank = ap (λ q. cond q (tokens_from 0 (after s b) z) (behind (piece b z) s (λ n. tokens_from n (after s b) z))) blank

cut_at : (text : List ℕ) (at b : ℕ) → at < length text → b ≡ get_or text at 0 → drop at text ≡ b ∷ drop (suc at) text
cut_at text at b h is = rw is (drop-cons text at 0 h)

pub piece_step : (ts : List Token) (s : Spot) (text : List ℕ) (at b : ℕ) (k : TokenKind) (len : ℕ) (total : Tokens) → at < length text → b ≡ get_or text at 0 → is_blank b ≡ false
    → piece b (drop 1 (drop at text)) ≡ Ok (k, len) → 1 ≤ len → len ≤ length (drop at text)
    → in_front ts (tokens_from 0 s (drop at text)) ≡ total → in_front (ts ++ record { kind = k; spot = s } ∷ []) (tokens_from 0 (fold after s (take len (drop at text))) (drop (at + len) text)) ≡ total
piece_step ts s text at b k zero total h is blank p one le so_far = absurd (omega arith)
piece_step ts s text at b k (suc n) total h is blank p one le so_far =
    let z = drop (suc at) text in
    let t : Token = record { kind = k; spot = s } in
    let e = cut_at text at b h is in
    let fits : suc n ≤ length (b ∷ z) = subst (λ (v : List ℕ). suc n ≤ length v) e le in
    let p2 : piece b z ≡ Ok (k, suc n) = subst (λ (v : List ℕ). piece b (drop 1 v) ≡ Ok (k, suc n)) e p in
    let less : suc n - 1 ≡ n = omega arith in
    let more : ℕ → Tokens = λ m. tokens_from m (after s b) z in
    let read : tokens_from 0 s (b ∷ z) ≡ prepend t (tokens_from 0 (fold after (after s b) (take n z)) (drop n z)) =
    piece_is s b z blank ∙ ap (λ q. behind q s more) p2 ∙ ap (λ m. prepend t (more m)) less ∙ ap (prepend t) (skips n z (after s b) (omega arith)) in
    let there : drop (at + suc n) text ≡ drop n z = ap (λ m. drop m text) (omega arith) ∙ sym (drop-drop n (suc at) text) in
    let F : List ℕ → Type 0 = λ v. in_front (ts ++ t ∷ []) (tokens_from 0 (fold after s (take (suc n) v)) (drop (at + suc n) text)) ≡ total in
    subst F (sym e) (ap (λ (v : List ℕ). in_front (ts ++ t ∷ []) (tokens_from 0 (fold after (after s b) (take n z)) v)) there
    ∙ sym (one_more ts t (tokens_from 0 (fold after (after s b) (take n z)) (drop n z))) ∙ ap (in_front ts) (sym read ∙ ap (tokens_from 0 s) (sym e)) ∙ so_far)

pub flaw_step : (ts : List Token) (s : Spot) (text : List ℕ) (at b : ℕ) (w : What) (n : ℕ) (total : Tokens) → at < length text → b ≡ get_or text at 0 → is_blank b ≡ false
    → piece b (drop 1 (drop at text)) ≡ Err (w, n) → in_front ts (tokens_from 0 s (drop at text)) ≡ total → total ≡ Err (w, record { line = s.line; col = s.col + n })
flaw_step ts s text at b w n total h is blank p so_far =
    let z = drop (suc at) text in
    let e = cut_at text at b h is in
    let p2 : piece b z ≡ Err (w, n) = subst (λ (v : List ℕ). piece b (drop 1 v) ≡ Err (w, n)) e p in
    sym so_far ∙ ap (in_front ts) (ap (tokens_from 0 s) e ∙ piece_is s b z blank ∙ ap (λ q. behind q s (λ m. tokens_from m (after s b) z)) p2)

pub front_none : (o : Tokens) → in_front [] o ≡ o
front_none (Ok x) = refl
front_none (Err e) = refl
