-- The printed text of a script has no fault, and one reading.
use Rattle.std.proofs.Common.{◌≡◌, ◌-◌, ◌^◌, ◌<◌, ℕ, List, length, Result, Ok, Err, sym, ap, subst, ◌∙◌}
use Rattle.postquel_tokens.specs.declared.fault.Spot.{Spot}
use Rattle.postquel_tokens.specs.declared.fault.What.{What}
use Rattle.postquel_tokens.specs.declared.fault.TextErr.{TextErr}
use Rattle.postquel_tokens.specs.declared.fault.TextErr.TheVariants.{Fault}
use Rattle.postquel_tokens.specs.declared.token.Token.{Token}
use Rattle.postquel_tokens.specs.Lex.{Gives, lex_of}
use Rattle.postquel.specs.Print.{script_text}
use Rattle.postquel.specs.Program.{Program}
use Rattle.postquel.specs.Reading.{IsReading, Tells}
use Rattle.postquel.proofs.OneReading.{one_reading}
use Rattle.postquel_round_trip.specs.Bare.{bare}
use Rattle.postquel_round_trip.specs.RoundTrip.{IsRead}
use Rattle.postquel_round_trip.proofs.Round.{round_trip}

pub prints_short : (p : Program) (text : List ℕ) → IsRead p → text ≡ script_text p → length text < 2 ^ 32 - 1
prints_short p text r e = subst (λ (t : List ℕ). length t < 2 ^ 32 - 1) (sym e) (round_trip p r).short

pub no_lex_fault : (p : Program) (text : List ℕ) (f : What × Spot) → IsRead p → text ≡ script_text p → lex_of text ≡ Err f → ⊥
no_lex_fault p text f r e k =
    let fine : lex_of text ≡ Ok (round_trip p r).reads.tokens = ap lex_of e ∙ (round_trip p r).reads.lexes in
    absurd cc

-- no fault of the lexer is given
pub lexer_gives_no_fault : (p : Program) (text : List ℕ) (line col : ℕ) (w : What) (e : TextErr) (r : Result (List Token) TextErr) → IsRead p → text ≡ script_text p → e ≡ Fault line col w → r ≡ Err e → Gives (λ (z : List Token). z) r (lex_of text) → ⊥
lexer_gives_no_fault p text line col w e r k same is err g =
    let fault : Gives (λ (z : List Token). z) (Err (Fault line col w)) (lex_of text) = subst (λ (z : Result (List Token) TextErr). Gives (λ (y : List Token). y) z (lex_of text)) (err ∙ ap (λ (z : TextErr). Err z) is) g in
    no_lex_fault p text (w, record { line = line; col = col }) k same fault

same_tokens : (p : Program) (all : List Token) (r : IsRead p) → lex_of (script_text p) ≡ Ok all → (round_trip p r).reads.tokens ≡ all
same_tokens p all r e =
    let fine = (round_trip p r).reads.lexes in
    cc

pub same_again : (p again : Program) (all : List Token) → IsRead p → lex_of (script_text p) ≡ Ok all → IsReading all (Ok again) → bare again ≡ bare p
same_again p again all r e x =
    let back = round_trip p r in
    let both : Ok again ≡ Ok back.again = one_reading all (Ok again) (Ok back.again) x (subst (λ (v : List Token). IsReading v (Ok back.again)) (same_tokens p all r e) back.reads.reads) in
    let one : again ≡ back.again = cc in
    ap bare one ∙ back.same

pub no_fault : (p : Program) (all : List Token) (f : What × Spot) → IsRead p → lex_of (script_text p) ≡ Ok all → IsReading all (Err f) → ⊥
no_fault p all f r e x =
    let back = round_trip p r in
    let both : Err f ≡ Ok back.again = one_reading all (Err f) (Ok back.again) x (subst (λ (v : List Token). IsReading v (Ok back.again)) (same_tokens p all r e) back.reads.reads) in
    absurd cc

-- no fault of the parser is told
pub parser_tells_no_fault : (p : Program) (all : List Token) (line col : ℕ) (w : What) (e : TextErr) (r : Result Program TextErr) → IsRead p → lex_of (script_text p) ≡ Ok all → e ≡ Fault line col w → r ≡ Err e → Tells all r → ⊥
parser_tells_no_fault p all line col w e r k lexed is err t =
    let fault : Tells all (Err (Fault line col w)) = subst (Tells all) (err ∙ ap (λ (z : TextErr). Err z) is) t in
    no_fault p all (w, record { line = line; col = col }) k lexed fault

pub parser_tells_same : (p again : Program) (all : List Token) (r : Result Program TextErr) → IsRead p → lex_of (script_text p) ≡ Ok all → r ≡ Ok again → Tells all r → bare again ≡ bare p
parser_tells_same p again all r k lexed is t = same_again p again all k lexed (subst (Tells all) is t)
