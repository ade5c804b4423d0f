-- A script that was read from a text has at most 16 statements.
use Rattle.std.proofs.Common.{◌≡◌, ◌≤◌, ◌+◌, ◌==◌, ◌&&◌, ℕ, Bool, true, false, nat_le, if◌then◌else◌, List, [], ◌∷◌, ◌++◌, length, Option, Some, None, Result, Ok, Err, IfOk, refl, ap, subst, ◌∙◌, arith}
use Rattle.std.specs.Result.{result_map_both}
use Rattle.std.proofs.lemmas.Bool.Decides.{nat_tests}
use Rattle.postquel_tokens.specs.declared.fault.TextErr.{TextErr}
use Rattle.postquel_tokens.specs.declared.fault.What.{What}
use Rattle.postquel_tokens.specs.declared.fault.What.TheVariants as what
use Rattle.postquel_tokens.specs.declared.name.Key.TheVariants as key
use Rattle.postquel_tokens.specs.declared.token.Sign.TheVariants as sign
use Rattle.postquel_tokens.specs.declared.token.Token.{Token}
use Rattle.postquel_tokens.specs.Forms.{Sentence}
use Rattle.postquel.specs.declared.class.Class.{Class}
use Rattle.postquel.specs.declared.class.Class.TheVariants as class
use Rattle.postquel.specs.declared.counts.Counts.{Counts}
use Rattle.postquel.specs.Class.{looks}
use Rattle.postquel.specs.Limits.{after, barred, begins, one_more, room, room_by}
use Rattle.postquel.specs.Parts.{OrNone, absent, present}
use Rattle.postquel.specs.Program.{Parts, Program, program_of}
use Rattle.postquel.specs.Reading.{IsReading, Tells}
use Rattle.postquel.specs.Start.{none_yet}
use Rattle.postquel.specs.Statement as rule
use Rattle.postquel.specs.Statement.{AreStatements, IsMachine, IsScript, IsStatement}

-- the counts behind tokens
abbrev over : Counts → List Token → Counts
over c [] = c
over c (t ∷ ts) = over (after c (looks t)) ts

over_append : (c : Counts) (us ws : List Token) → over c (us ++ ws) ≡ over (over c us) ws
over_append c [] ws = refl
over_append c (u ∷ us) ws = over_append (after c (looks u)) us ws

-- ---- a token that no limit bars

begun : (c : Counts) (a b : Bool) → nat_le 16 c.statements ≡ b → ◌≡◌ {A = Option What} (if a && b then Some what.TooManyStatements else None) None → c.statements ≤ 16 →
    (if a then record { tokens = 1; statements = c.statements + 1 } else one_more c).statements ≤ 16
begun c true true f e h = absurd cc
begun c true false f e h = grind (arith, nat_tests)
begun c false b f e h = h

few_after : (c : Counts) (k : Class) → begins c k ≡ None → c.statements ≤ 16 → (after c k).statements ≤ 16
few_after c (class.Key key.Retrieve) e h = begun c (c.tokens == 0) (nat_le 16 c.statements) refl e h
few_after c (class.Mark sign.Go) e h = h
few_after c _ e h = h

free_of : (long : Bool) (o : Option What) → ◌≡◌ {A = Option What} (if long then Some what.StatementTooLong else o) None → o ≡ None
free_of true o e = absurd cc
free_of false o e = e

few_over : (c : Counts) (used rest : List Token) → length used ≤ room c (used ++ rest) → c.statements ≤ 16 → (over c used).statements ≤ 16
few_over c [] rest h few = few
few_over c (t ∷ used) rest h few = by (barred c (looks t)) refl (omega (arith, h)) (λ k more. few_over (after c (looks t)) used rest k more) where
  by : (o : Option What) → barred c (looks t) ≡ o → length used + 1 ≤ room_by o (room (after c (looks t)) (used ++ rest))
      → (length used ≤ room (after c (looks t)) (used ++ rest) → (after c (looks t)).statements ≤ 16 → (over (after c (looks t)) used).statements ≤ 16) → (over (after c (looks t)) used).statements ≤ 16
  by None e k others = others (omega (arith, k)) (few_after c (looks t) (free_of (nat_le 1000 c.tokens) (begins c (looks t)) e) few)
  by (Some w) e k others = absurd (omega (arith, k))

-- ---- statements are counted

grown : (c : Counts) (a : Bool) → c.statements ≤ (if a then record { tokens = 1; statements = c.statements + 1 } else one_more c).statements
grown c true = omega arith
grown c false = omega arith

grows : (c : Counts) (k : Class) → c.statements ≤ (after c k).statements
grows c (class.Key key.Retrieve) = grown c (c.tokens == 0)
grows c (class.Mark sign.Go) = omega arith
grows c _ = omega arith

grows_over : (c : Counts) (ts : List Token) → c.statements ≤ (over c ts).statements
grows_over c [] = omega arith
grows_over c (t ∷ ts) = let one = grows c (looks t) in let others = grows_over (after c (looks t)) ts in omega (arith, one, others)

-- behind these tokens a statement may begin
abbrev Ends : List Token → Type 0
Ends ts = (c : Counts) → (over c ts).tokens ≡ 0

ends_go : (g : Token) → looks g ≡ class.Mark sign.Go → Ends (g ∷ [])
ends_go g e c = ap (λ k. (after c k).tokens) e

ends_behind : (us ws : List Token) → Ends ws → Ends (us ++ ws)
ends_behind us ws h c = ap (λ (k : Counts). k.tokens) (over_append c us ws) ∙ h (over c us)

ends_after : (t : Token) (ws : List Token) → Ends ws → Ends (t ∷ ws)
ends_after t ws h c = h (after c (looks t))

first_counts : (c : Counts) → c.tokens ≡ 0 → (after c (class.Key key.Retrieve)).statements ≡ c.statements + 1
first_counts c e = ap (λ (n : ℕ). (if n == 0 then record { tokens = 1; statements = c.statements + 1 } else one_more c).statements) e

statement : {s : Sentence} {u : List Token} → IsStatement s u → (k : Counts) → k.tokens ≡ 0 → (k.statements + 1 ≤ (over k u).statements) × ((over k u).tokens ≡ 0)
statement (rule.retrieve t l r g {a} {b} {c} {d} {e} {f} x0 x1 x2 x3 x4 x5 x6 x7 x8 x9) k none =
    let behind : List Token = a ++ (b ++ l ∷ (c ++ r ∷ (d ++ (e ++ (f ++ g ∷ []))))) in
    let one : (after k (looks t)).statements ≡ k.statements + 1 = ap (λ x. (after k x).statements) x0 ∙ first_counts k none in
    let more = grows_over (after k (looks t)) behind in
    let end : Ends (t ∷ behind) =
    ends_after t behind
    (ends_behind a (b ++ l ∷ (c ++ r ∷ (d ++ (e ++ (f ++ g ∷ [])))))
    (ends_behind b (l ∷ (c ++ r ∷ (d ++ (e ++ (f ++ g ∷ [])))))
    (ends_after l (c ++ r ∷ (d ++ (e ++ (f ++ g ∷ []))))
    (ends_behind c (r ∷ (d ++ (e ++ (f ++ g ∷ []))))
    (ends_after r (d ++ (e ++ (f ++ g ∷ []))) (ends_behind d (e ++ (f ++ g ∷ [])) (ends_behind e (f ++ g ∷ []) (ends_behind f (g ∷ []) (ends_go g x9))))))))) in
    (omega (arith, one, more), end k)

statements : {ss : List Sentence} {u : List Token} → AreStatements ss u → (k : Counts) → k.tokens ≡ 0 → k.statements + length ss ≤ (over k u).statements
statements rule.empty k none = omega arith
statements (rule.next {s} {ss} {u} {w} d m) k none =
    let first = statement d k none in
    let others = statements m (over k u) first.1 in
    let whole : (over k (u ++ w)).statements ≡ (over (over k u) w).statements = ap (λ (n : Counts). n.statements) (over_append k u w) in
    omega (arith, first.0, others, whole)

machine : {ss : _} {u : List Token} → IsMachine ss u → Ends u
machine (rule.machine t g {ss} {u} e d h) = ends_after t (u ++ g ∷ []) (ends_behind u (g ∷ []) (ends_go g h))

begins_clear : {ss : _} {u : List Token} → OrNone [] IsMachine ss u → (over none_yet u).tokens ≡ 0
begins_clear absent = refl
begins_clear (present d) = machine d none_yet

program : {p : Program} {u : List Token} → IsScript p u → length p.sentences ≤ (over none_yet u).statements
program (rule.script {steps} {ss} {u} {w} m d) =
    let all = statements d (over none_yet u) (begins_clear m) in
    let whole : (over none_yet (u ++ w)).statements ≡ (over (over none_yet u) w).statements = ap (λ (n : Counts). n.statements) (over_append none_yet u w) in
    omega (arith, all, whole)

pub read_few : (tokens : List Token) (p : Program) → IsReading tokens (Ok p) → length p.sentences ≤ 16
read_few tokens p whole =
    let counts = subst (λ (all : List Token). length whole.text.tokens ≤ room none_yet all) whole.text.parts whole.free.counts in
    let most = few_over none_yet whole.text.tokens (whole.text.end ∷ []) counts (omega arith) in
    let many = program whole.is in
    omega (arith, most, many)

pub parsed_few : (tokens : List Token) (r : Result Parts TextErr) → Tells tokens (result_map_both program_of (λ e. e) r) → IfOk r (λ script. length (program_of script).sentences ≤ 16)
parsed_few tokens (Ok script) h = read_few tokens (program_of script) h
parsed_few tokens (Err e) h = tt
