-- What is read, printed and read again is the same but for places.
use Rattle.std.proofs.Common.{◌≡◌, ◌≢◌, ℕ, ◌≤◌, List, [], ◌∷◌, ◌++◌, length, Some, Ok, refl, sym, ap, subst, ◌∙◌, length-append, arith}
use Rattle.std.proofs.lemmas.List.{append-nil}
use Rattle.postquel_tokens.specs.declared.token.Token.{Token}
use Rattle.postquel_tokens.specs.declared.token.TokenKind.TheVariants as kind
use Rattle.postquel_tokens.specs.Lex.{start, tokens_from, tokens_of, lex_of}
use Rattle.postquel_tokens.proofs.Whole.{lex_good}
use Rattle.postquel.specs.Limits.{room}
use Rattle.postquel.specs.Print.{script_text}
use Rattle.postquel.specs.Program.{Program}
use Rattle.postquel.specs.Reading.{Free, Whole}
use Rattle.postquel.specs.Start.{none_yet}
use Rattle.postquel.specs.Statement.{IsScript}
use Rattle.postquel.specs.Syntax.{nest}
use Rattle.postquel.proofs.Lexed.{lexed_text}
use Rattle.postquel_round_trip.specs.RoundTrip.{PrintsBack, RoundTrip}
use Rattle.postquel_round_trip.proofs.Lexing.{token}
use Rattle.postquel_round_trip.proofs.Limits.{Unbarred, to_unbarred, from_unbarred, script_passed, script_no_deeper, script_length}
use Rattle.postquel_round_trip.proofs.Scripts.{script_prints}
use Rattle.postquel_round_trip.proofs.Valid.{Valid, valid_left}
use Rattle.postquel_round_trip.proofs.Origin.{lexed_valid}

no_last : (v : List Token) (s : Token) → [] ≢ v ++ s ∷ []
no_last v s e = omega (arith, ap length e, length-append v (s ∷ []))

same_front : (u v : List Token) (t s : Token) → u ++ t ∷ [] ≡ v ++ s ∷ [] → u ≡ v
same_front [] [] t s e = refl
same_front [] (y ∷ v) t s e = absurd (no_last v s (let rest : [] ≡ v ++ s ∷ [] = cc in rest))
same_front (x ∷ u) [] t s e = absurd (no_last u t (let rest : [] ≡ u ++ t ∷ [] = cc in rest))
same_front (x ∷ u) (y ∷ v) t s e =
    let head : x ≡ y = cc in
    let rest : u ++ t ∷ [] ≡ v ++ s ∷ [] = cc in
    ap (λ z. z ∷ u) head ∙ ap (λ (w : List Token). y ∷ w) (same_front u v t s rest)

-- tokens of a text that are a script within the limits
whole_again : (text : List ℕ) (all ts : List Token) (end : Token) (p : Program) (left : ℕ) → lex_of text ≡ Ok all → all ≡ ts ++ end ∷ [] → IsScript p ts → Unbarred none_yet ts → nest 32 ts ≡ Some left → Whole all p
whole_again text all ts end p left e parts is free nests =
    let t = lexed_text all (record { text = text; gives = e }) in
    let same : ts ≡ t.tokens = same_front ts t.tokens end t.end (sym parts ∙ t.parts) in
    let counts : length ts ≤ room none_yet all = subst (λ (v : List Token). length ts ≤ room none_yet v) (sym parts) (from_unbarred none_yet ts (end ∷ []) free) in
    record {
      text = t;
      is = subst (IsScript p) same is;
      free = subst (Free all) same (record { counts = counts; left = left; nests = nests });
    }

back_from : (p : Program) (text : List ℕ) (all : List Token) → lex_of text ≡ Ok all → (w : Whole all p) → PrintsBack p
unfolding tokens_of
back_from p text all e w =
    let u = w.text.tokens in
    let valid : Valid u = valid_left u (w.text.end ∷ []) (subst Valid w.text.parts (lexed_valid text all e)) in
    let x = script_prints p u w.is valid start [] tt in
    let k = x.derives in
    let counts : length u ≤ room none_yet (u ++ w.text.end ∷ []) = subst (λ (v : List Token). length u ≤ room none_yet v) w.text.parts w.free.counts in
    let passed = script_passed k.lines (to_unbarred none_yet u (w.text.end ∷ []) counts) in
    let end = token kind.End x.to in
    let lexed : lex_of (script_text p) ≡ Ok (x.tokens ++ end ∷ []) = lex_good (script_text p) x.utf8 ∙ ap (tokens_from 0 start) (sym (append-nil (script_text p))) ∙ x.is in
    record {
      again = k.again;
      short = omega (arith, x.short, script_length k.lines, passed.1);
      reads = record {
        tokens = x.tokens ++ end ∷ [];
        lexes = lexed;
        reads = whole_again (script_text p) (x.tokens ++ end ∷ []) x.tokens end k.again w.free.left lexed refl k.derives passed.0 (script_no_deeper k.lines 32 w.free.left w.free.nests);
      };
      same = k.same;
    }

pub round_trip : RoundTrip
round_trip p r = back_from p r.text r.reads.tokens r.reads.lexes r.reads.reads
