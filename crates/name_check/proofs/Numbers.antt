-- The numbers of a script that was read from a text are those of its tokens, which are below 2^63.
use Rattle.std.proofs.Common.{◌≡◌, ◌≤◌, ◌^◌, ◌==◌, ◌-◌, ◌&&◌, ℕ, zero, suc, pos, nat_abs, nat_le, Bool, true, false, List, [], ◌∷◌, ◌++◌, Option, None, Result, Ok, Err, IfOk, All, refl, subst, arith, if◌then◌else◌, take, slice_index}
use Rattle.std.specs.Str.{is_utf8}
use Rattle.std.proofs.lemmas.Bool.Decides.{nat_tests}
use Rattle.std.proofs.lemmas.List.Elements.{All-nil, All-cons}
use Rattle.postquel_tokens.specs.declared.fault.Spot.{Spot}
use Rattle.postquel_tokens.specs.declared.token.Token.{Token}
use Rattle.postquel_tokens.specs.declared.token.TokenKind.{TokenKind}
use Rattle.postquel_tokens.specs.declared.token.TokenKind.TheVariants as kind
use Rattle.postquel_tokens.specs.declared.piece.Run.TheVariants as run
use Rattle.postquel_tokens.specs.declared.fault.What.TheVariants as what
use Rattle.postquel_tokens.specs.Lex as lex
use Rattle.postquel_tokens.specs.Lex.{Piece, Tokens, Wrong, lex_of, tokens_of, tokens_from, behind, prepend, after, piece, mark, number, value, is_blank, is_in, worded, run_len}
use Rattle.postquel_tokens.specs.Forms.{Phrase, Wish, Condition, Sentence}
use Rattle.postquel.specs.declared.level.Level.{Level}
use Rattle.postquel.specs.Grammar.{number_of}
use Rattle.postquel.specs.Syntax as by
use Rattle.postquel.specs.Syntax.{Derives}
use Rattle.postquel.specs.Parts.{OrNone, absent, present, More, none, more, Listed, listed}
use Rattle.postquel.specs.Program.{Parts, Program, program_of}
use Rattle.postquel.specs.Reading.{IsLexed, Tells}
use Rattle.std.specs.Result.{result_map_both}
use Rattle.postquel_tokens.specs.declared.fault.TextErr.{TextErr}
use Rattle.postquel.specs.Statement as rule
use Rattle.postquel.specs.Statement.{IsTarget, IsTest, IsStatement, AreStatements, IsScript}
use Rattle.name_check.specs.Faults.{NumbersFit}
use Rattle.name_check.specs.Sentences.{HasNumbers, WishNumbers, TestNumbers}
use Rattle.name_check.specs.Numbers.{ReadNumbers}

abbrev pub KindFits : TokenKind → Type 0
KindFits k = nat_abs (number_of k) ≤ 9223372036854775807

abbrev pub AllFit : List Token → Type 0
AllFit [] = Unit {0}
AllFit (t ∷ ts) = KindFits t.kind × AllFit ts

front : (u w : List Token) → AllFit (u ++ w) → AllFit u
front [] w h = tt
front (t ∷ u) w h = (h.0, front u w h.1)

back : (u w : List Token) → AllFit (u ++ w) → AllFit w
back [] w h = h
back (t ∷ u) w h = back u w h.1

derived : {l : Level} {f : Phrase} {u : List Token} → Derives l f u → AllFit u → NumbersFit f
derived (by.number t e) h = h.0
derived (by.word t e) h = tt
derived (by.truth t e) h = tt
derived (by.falsity t e) h = tt
derived (by.dotted v d c e f g) h = tt
derived (by.parens l r {f} {u} e g d) h = derived d (front u (r ∷ []) h.1)
derived (by.tighter e d) h = derived d h
derived (by.prefixed t op e d) h = derived d h.1
derived (by.compared {a} {b} {u} {w} t op d e g) h = (derived d (front u (t ∷ w) h), derived g (back u (t ∷ w) h).1)
derived (by.null {a} {u} t n d e g) h = derived d (front u (t ∷ n ∷ []) h)
derived (by.not_null {a} {u} t m n d e g k) h = derived d (front u (t ∷ m ∷ n ∷ []) h)
derived (by.chained {l} {a} {b} {u} {w} t op c d e g) h = (derived d (front u (t ∷ w) h), derived g (back u (t ∷ w) h).1)

wish : {w : Wish} {u : List Token} → IsTarget w u → AllFit u → WishNumbers w
wish (rule.titled n e a b d) h = derived d h.1.1
wish (rule.folded n e g l r {f} {u} a b c k d m) h = derived d (front u (r ∷ []) h.1.1.1.1)
wish (rule.every v d a x y z) h = tt
wish (rule.column v d c x y z) h = tt

more_wishes : {ws : List Wish} {u : List Token} → More IsTarget ws u → AllFit u → All WishNumbers ws
more_wishes none h = All-nil WishNumbers
more_wishes (more {a} {xs} {u} {w} c e d m) h = All-cons WishNumbers a xs (wish d (front u w h.1)) (more_wishes m (back u w h.1))

wishes : {ws : List Wish} {u : List Token} → Listed IsTarget ws u → AllFit u → All WishNumbers ws
wishes (listed {a} {xs} {u} {w} d m) h = All-cons WishNumbers a xs (wish d (front u w h)) (more_wishes m (back u w h))

test : {o : Option Condition} {u : List Token} → OrNone None IsTest o u → AllFit u → TestNumbers o
test absent h = tt
test (present (rule.test t e d)) h = derived d h.1

sentence : {s : Sentence} {u : List Token} → IsStatement s u → AllFit u → HasNumbers s
sentence (rule.retrieve t l r g {un} {k} {ws} {rs} {o} {ks} {a} {b} {c} {d} {e} {f} x0 x1 x2 x3 x4 x5 x6 x7 x8 x9) h =
    let targets : AllFit (c ++ r ∷ (d ++ (e ++ (f ++ g ∷ [])))) = (back b (l ∷ (c ++ r ∷ (d ++ (e ++ (f ++ g ∷ []))))) (back a (b ++ l ∷ (c ++ r ∷ (d ++ (e ++ (f ++ g ∷ []))))) h.1)).1 in
    record {
      wishes = wishes x4 (front c (r ∷ (d ++ (e ++ (f ++ g ∷ [])))) targets);
      test = test x7 (front e (f ++ g ∷ []) (back d (e ++ (f ++ g ∷ [])) (back c (r ∷ (d ++ (e ++ (f ++ g ∷ [])))) targets).1));
    }

sentences : {ss : List Sentence} {u : List Token} → AreStatements ss u → AllFit u → All HasNumbers ss
sentences rule.empty h = All-nil HasNumbers
sentences (rule.next {s} {ss} {u} {w} d m) h = All-cons HasNumbers s ss (sentence d (front u w h)) (sentences m (back u w h))

program : {p : Program} {u : List Token} → IsScript p u → AllFit u → All HasNumbers p.sentences
program (rule.script {steps} {ss} {u} {w} m d) h = sentences d (back u w h)

-- tokens
abbrev pub PieceFits : Piece → Type 0
PieceFits (Ok x) = KindFits x.0
PieceFits (Err e) = Unit {0}

abbrev pub TokensFit : Tokens → Type 0
TokensFit (Ok ts) = AllFit ts
TokensFit (Err e) = Unit {0}

little : 0 ≤ 9223372036854775807
little = omega arith

choose : (b : Bool) (p q : Piece) → PieceFits p → PieceFits q → PieceFits (if b then p else q)
choose true p q h k = h
choose false p q h k = k

number_by : (v n : ℕ) (b : Bool) → nat_le (2 ^ 63) v ≡ b → PieceFits (if b then Err (what.BigNumber, 0) else Ok (kind.Number (pos v), n))
number_by v n true e = tt
number_by v n false e = grind (arith, nat_tests)

number_fits : (z : List ℕ) → PieceFits (number z)
number_fits z = number_by (value (take (run_len run.Digit z) z)) (run_len run.Digit z) (nat_le (2 ^ 63) (value (take (run_len run.Digit z) z))) refl

name_fits : (z : List ℕ) → PieceFits (lex.name z)
name_fits z = choose _ (Err (what.LongName, 0)) (Ok (kind.Name (take (run_len run.Word z) z), run_len run.Word z)) tt little

word_fits : (b : Result (List ℕ × ℕ) Wrong) → PieceFits (worded b)
word_fits (Ok x) = choose _ (Err (what.LongText, 0)) (Ok (kind.Word x.0, x.1)) tt little
word_fits (Err e) = tt

mark_fits : (b next : ℕ) → PieceFits (mark b next)
unfolding mark
mark_fits b next =
    choose (b == 40) _ _ little (choose (b == 41) _ _ little (choose (b == 44) _ _ little (choose (b == 46) _ _ little (choose (b == 61) _ _ little
    (choose (b == 43) _ _ little (choose (b == 45) _ _ little (choose (b == 42) _ _ little (choose (b == 33 && next == 61) _ _ little
    (choose (b == 60) _ _ (choose (next == 61) _ _ little little) (choose (b == 62) _ _ (choose (next == 61) _ _ little little)
    (choose (b == 92 && next == 103) _ _ little tt)))))))))))

piece_fits : (b : ℕ) (z : List ℕ) → PieceFits (piece b z)
unfolding piece
piece_fits b z =
    choose (is_in run.Digit b) _ _ (number_fits (b ∷ z)) (choose (is_in run.Word b) _ _ (name_fits (b ∷ z))
    (choose (b == 34) _ _ (word_fits (lex.body 1 z)) (mark_fits b (slice_index (b ∷ z) 1))))

prepend_fits : (t : Token) (o : Tokens) → KindFits t.kind → TokensFit o → TokensFit (prepend t o)
prepend_fits t (Ok ts) h k = (h, k)
prepend_fits t (Err e) h k = tt

behind_fits : (p : Piece) (s : Spot) (rest : ℕ → Tokens) → PieceFits p → ((n : ℕ) → TokensFit (rest n)) → TokensFit (behind p s rest)
behind_fits (Ok p) s rest h k = prepend_fits (record { kind = p.0; spot = s }) (rest (p.1 - 1)) h (k (p.1 - 1))
behind_fits (Err e) s rest h k = tt

either : (b : Bool) (p q : Tokens) → TokensFit p → TokensFit q → TokensFit (if b then p else q)
either true p q h k = h
either false p q h k = k

tokens_fit : (n : ℕ) (s : Spot) (z : List ℕ) → TokensFit (tokens_from n s z)
tokens_fit n s [] = (little, tt)
tokens_fit (suc n) s (b ∷ z) = tokens_fit n (after s b) z
tokens_fit zero s (b ∷ z) =
    either (is_blank b) (tokens_from zero (after s b) z) (behind (piece b z) s (λ n. tokens_from n (after s b) z)) (tokens_fit zero (after s b) z)
    (behind_fits (piece b z) s (λ n. tokens_from n (after s b) z) (piece_fits b z) (λ n. tokens_fit n (after s b) z))

lex_fits : (text : List ℕ) → TokensFit (lex_of text)
unfolding lex_of tokens_of
lex_fits text = either (is_utf8 text) _ _ (tokens_fit zero lex.start text) tt

pub read_numbers : ReadNumbers
read_numbers all script lexed read =
    let fit : AllFit all = subst TokensFit lexed.gives (lex_fits lexed.text) in
    program read.is (front read.text.tokens (read.text.end ∷ []) (subst AllFit read.text.parts fit))

-- what `parse` answers, where it answers a script
pub parsed_fits : (all : List Token) (r : Result Parts TextErr) → IsLexed all → Tells all (result_map_both program_of (λ e. e) r) → IfOk r (λ script. All HasNumbers (program_of script).sentences)
parsed_fits all (Ok script) lexed read = read_numbers all (program_of script) lexed read
parsed_fits all (Err e) lexed read = tt
