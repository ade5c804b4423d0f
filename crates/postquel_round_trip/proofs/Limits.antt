-- What passes no limit passes none where tokens are left out.
use Rattle.std.proofs.Common.{◌≡◌, ◌≢◌, ℕ, suc, ◌+◌, ◌*◌, ◌<◌, ◌≤◌, true, false, ◌&&◌, cond, leb, eqb, List, [], ◌∷◌, ◌++◌, length, Some, None, refl, sym, ap, subst, ◌∙◌, length-append, arith}
use Rattle.std.proofs.lemmas.Bool.{lt-leb, leb-false, eqb-true}
use Rattle.postquel_tokens.specs.declared.fault.What.TheVariants as what
use Rattle.postquel_tokens.specs.declared.token.Token.{Token}
use Rattle.postquel_tokens.specs.declared.token.Sign.TheVariants as sign
use Rattle.postquel.specs.declared.class.Class.{Class}
use Rattle.postquel.specs.declared.class.Class.TheVariants as class
use Rattle.postquel_tokens.specs.declared.name.Key.TheVariants as key
use Rattle.postquel.specs.declared.counts.Counts.{Counts}
use Rattle.postquel.specs.Class.{looks}
use Rattle.postquel.specs.Limits.{begins, barred, after, room, room_by}
use Rattle.postquel.specs.Start.{none_yet}
use Rattle.postquel.specs.Syntax.{nest_step, opt_then, nest}
use Rattle.postquel.proofs.Good.{nest-append, nest_both}
use Rattle.postquel_round_trip.proofs.Trims.{NoGo, trims_length, trims_nest, trims_within, opt_some}
use Rattle.postquel_round_trip.proofs.Statements.{Line, line}
use Rattle.postquel_round_trip.proofs.Scripts.{Lines, empty_lines, next_line, MachineLine, no_machine, machine_line, ScriptLines, script_lines}

-- no limit bars any of the tokens
abbrev pub Unbarred : Counts → List Token → Type 0
Unbarred c [] = Unit {0}
Unbarred c (t ∷ ts) = (barred c (looks t) ≡ None) × Unbarred (after c (looks t)) ts

abbrev run : Counts → List Token → Counts
run c [] = c
run c (t ∷ ts) = run (after c (looks t)) ts

pub to_unbarred : (c : Counts) (ts rest : List Token) → length ts ≤ room c (ts ++ rest) → Unbarred c ts
to_unbarred c [] rest h = tt
to_unbarred c (t ∷ ts) rest h =
    elim (barred c (looks t)) as (λ o. barred c (looks t) ≡ o → suc (length ts) ≤ room_by o (room (after c (looks t)) (ts ++ rest)) → Unbarred c (t ∷ ts)) [
      | None ↦ λ e k. (e, to_unbarred (after c (looks t)) ts rest (omega (arith, k)))
      | Some w ↦ λ e k. absurd (omega (arith, k))
    ] refl h

pub from_unbarred : (c : Counts) (ts rest : List Token) → Unbarred c ts → length ts ≤ room c (ts ++ rest)
from_unbarred c [] rest h = omega arith
from_unbarred c (t ∷ ts) rest h =
    let n = from_unbarred (after c (looks t)) ts rest h.1 in
    subst (λ o. suc (length ts) ≤ room_by o (room (after c (looks t)) (ts ++ rest))) (sym h.0) (omega (arith, n))

cut : (c : Counts) (u w : List Token) → Unbarred c (u ++ w) → Unbarred c u × Unbarred (run c u) w
cut c [] w h = (tt, h)
cut c (t ∷ u) w h = let k = cut (after c (looks t)) u w h.1 in ((h.0, k.0), k.1)

join : (c : Counts) (u w : List Token) → Unbarred c u → Unbarred (run c u) w → Unbarred c (u ++ w)
join c [] w h k = k
join c (t ∷ u) w h k = (h.0, join (after c (looks t)) u w h.1 k)

run_both : (c : Counts) (u w : List Token) → run c (u ++ w) ≡ run (run c u) w
run_both c [] w = refl
run_both c (t ∷ u) w = run_both (after c (looks t)) u w

-- ---- within a statement

counts : ℕ → ℕ → Counts
counts n s = record { tokens = n; statements = s }

not_zero : (n : ℕ) → eqb (suc n) 0 ≡ false
not_zero n = elim (eqb (suc n) 0) as (λ q. eqb (suc n) 0 ≡ q → q ≡ false) [
  | true ↦ λ e. let same : suc n ≡ 0 = eqb-true _ _ e in absurd (omega (arith, same))
  | false ↦ λ e. refl
] refl

begins_inner : (n s : ℕ) (k : Class) → begins (counts (suc n) s) k ≡ None
unfolding counts
begins_inner n s (class.Key key.Retrieve) = ap (λ q. cond (q && leb 16 s) (Some what.TooManyStatements) None) (not_zero n)
begins_inner n s _ = refl

barred_inner : (n s : ℕ) (k : Class) → suc n < 1000 → barred (counts (suc n) s) k ≡ None
unfolding counts
barred_inner n s k h =
    let fits : leb 1000 (suc n) ≡ false = lt-leb _ _ h in
    ap (λ q. cond q (Some what.StatementTooLong) (begins (counts (suc n) s) k)) fits ∙ begins_inner n s k

barred_below : (n s : ℕ) (k : Class) → barred (counts n s) k ≡ None → n < 1000
unfolding counts
barred_below n s k h = elim (leb 1000 n) as (λ q. leb 1000 n ≡ q → cond q (Some what.StatementTooLong) (begins (counts n s) k) ≡ None → n < 1000) [
  | true ↦ λ e p. absurd cc
  | false ↦ λ e p. leb-false _ _ e
] refl h

after_inner : (n s : ℕ) (k : Class) → k ≢ class.Mark sign.Go → after (counts (suc n) s) k ≡ counts (suc (suc n)) s
unfolding counts
after_inner n s (class.Mark sign.Go) h = absurd (h refl)
after_inner n s (class.Key key.Retrieve) h = let e : suc n + 1 ≡ suc (suc n) = omega arith in ap (λ q. cond q (counts 1 (s + 1)) (counts (suc n + 1) s)) (not_zero n) ∙ ap (λ m. counts m s) e
after_inner n s _ h = let e : suc n + 1 ≡ suc (suc n) = omega arith in ap (λ m. counts m s) e

after_go : (n s : ℕ) (k : Class) → k ≡ class.Mark sign.Go → after (counts n s) k ≡ counts 0 s
unfolding counts
after_go n s k h = ap (λ c. after (counts n s) c) h

inner_free : (n s : ℕ) (ts : List Token) → NoGo ts → suc n + length ts ≤ 1000 → Unbarred (counts (suc n) s) ts
inner_free n s [] g h = tt
inner_free n s (t ∷ ts) g h = (barred_inner n s (looks t) (omega (arith, h)), subst (λ c. Unbarred c ts) (sym (after_inner n s (looks t) g.0)) (inner_free (suc n) s ts g.1 (omega (arith, h))))

inner_run : (n s : ℕ) (ts : List Token) → NoGo ts → run (counts (suc n) s) ts ≡ counts (suc n + length ts) s
inner_run n s [] g = ap (λ m. counts m s) (omega arith)
inner_run n s (t ∷ ts) g = ap (λ c. run c ts) (after_inner n s (looks t) g.0) ∙ inner_run (suc n) s ts g.1 ∙ ap (λ m. counts m s) (omega arith)

-- what a line comes to, from the counts before it
record Passed (s after_it : ℕ) (u ts : List Token) : Type 0 where
  free : Unbarred (counts 0 s) ts
  long : length u ≤ 1000
  first : run (counts 0 s) u ≡ counts 0 after_it
  second : run (counts 0 s) ts ≡ counts 0 after_it

line_run : (k : Class) (s after_it : ℕ) (t g : Token) (x : List Token) → looks t ≡ k → looks g ≡ class.Mark sign.Go → NoGo x → after (counts 0 s) k ≡ counts 1 after_it → run (counts 0 s) (t ∷ (x ++ g ∷ [])) ≡ counts 0 after_it
line_run k s a t g x e f h m =
    ap (λ c. run (after (counts 0 s) c) (x ++ g ∷ [])) e ∙ ap (λ c. run c (x ++ g ∷ [])) m ∙ run_both (counts 1 a) x (g ∷ []) ∙ ap (λ c. after c (looks g)) (inner_run 0 a x h) ∙ after_go (1 + length x) a (looks g) f

line_long : (k : Class) (s after_it : ℕ) (t g : Token) (x : List Token) → looks t ≡ k → NoGo x → after (counts 0 s) k ≡ counts 1 after_it → Unbarred (counts 0 s) (t ∷ (x ++ g ∷ [])) → 1 + length x < 1000
line_long k s a t g x e h m free =
    let rest : Unbarred (counts 1 a) (x ++ g ∷ []) = subst (λ c. Unbarred c (x ++ g ∷ [])) m (subst (λ c. Unbarred (after (counts 0 s) c) (x ++ g ∷ [])) e free.1) in
    let last = (cut (counts 1 a) x (g ∷ []) rest).1 in
    barred_below (1 + length x) a (looks g) (subst (λ c. barred c (looks g) ≡ None) (inner_run 0 a x h) last.0)

line_free : (k : Class) (s after_it : ℕ) (t g : Token) (x : List Token) → looks t ≡ k → NoGo x → after (counts 0 s) k ≡ counts 1 after_it → barred (counts 0 s) k ≡ None → 1 + length x < 1000 → Unbarred (counts 0 s) (t ∷ (x ++ g ∷ []))
line_free k s a t g x e h m b long =
    let same : suc (length x) ≡ 1 + length x = omega arith in
    let last : barred (run (counts 1 a) x) (looks g) ≡ None = subst (λ c. barred c (looks g) ≡ None) (sym (inner_run 0 a x h)) (subst (λ n. barred (counts n a) (looks g) ≡ None) same (barred_inner (length x) a (looks g) (omega (arith, long)))) in
    let rest : Unbarred (counts 1 a) (x ++ g ∷ []) = join (counts 1 a) x (g ∷ []) (inner_free 0 a x h (omega (arith, long))) (last, tt) in
    (subst (λ c. barred (counts 0 s) c ≡ None) (sym e) b, subst (λ c. Unbarred (after (counts 0 s) c) (x ++ g ∷ [])) (sym e) (subst (λ c. Unbarred c (x ++ g ∷ [])) (sym m) rest))

line_passed : (k : Class) (s after_it : ℕ) (u ts : List Token) → after (counts 0 s) k ≡ counts 1 after_it → Line k u ts → Unbarred (counts 0 s) u → Passed s after_it u ts
line_passed k s a _ _ m (line {x} {y} t v g h e f z i j) free =
    let within = trims_within z in
    let long = line_long k s a t g x e within.0 m free in
    record {
      free = line_free k s a v h y f within.1 m (subst (λ c. barred (counts 0 s) c ≡ None) e free.0) (omega (arith, long, trims_length z));
      long = omega (arith, long, length-append x (g ∷ []));
      first = line_run k s a t g x e i within.0 m;
      second = line_run k s a v h y f j within.1 m;
    }

after_retrieve : (s : ℕ) → after (counts 0 s) (class.Key key.Retrieve) ≡ counts 1 (s + 1)
unfolding counts
after_retrieve s = refl

after_machine : (s : ℕ) → after (counts 0 s) (class.Key key.Machine) ≡ counts 1 s
unfolding counts
after_machine s = refl

few_statements : (s : ℕ) → barred (counts 0 s) (class.Key key.Retrieve) ≡ None → s < 16
unfolding counts
few_statements s h = elim (leb 16 s) as (λ q. leb 16 s ≡ q → cond q (Some what.TooManyStatements) None ≡ None → s < 16) [
  | true ↦ λ e p. absurd cc
  | false ↦ λ e p. leb-false _ _ e
] refl h

first_few : (s : ℕ) (u ts : List Token) → Line (class.Key key.Retrieve) u ts → Unbarred (counts 0 s) u → s < 16
first_few s _ _ (line t v g h e f z i j) free = few_statements s (subst (λ c. barred (counts 0 s) c ≡ None) e free.0)

-- the lines pass no limit, and there are not many tokens
lines_passed : {u ts : List Token} → Lines u ts → (s : ℕ) → s ≤ 16 → Unbarred (counts 0 s) u → Unbarred (counts 0 s) ts × (length u + 1000 * s ≤ 16000)
lines_passed empty_lines s few free = (tt, omega (arith, few))
lines_passed (next_line {u} {ts} {w} {xs} x y) s few free =
    let both = cut (counts 0 s) u w free in
    let p = line_passed (class.Key key.Retrieve) s (s + 1) u ts (after_retrieve s) x both.0 in
    let less = first_few s u ts x both.0 in
    let rest = lines_passed y (s + 1) (omega (arith, less)) (subst (λ c. Unbarred c w) p.first both.1) in
    (join (counts 0 s) ts xs p.free (subst (λ c. Unbarred c xs) (sym p.second) rest.0), omega (arith, p.long, rest.1, length-append u w))

pub script_passed : {u ts : List Token} → ScriptLines u ts → Unbarred none_yet u → Unbarred none_yet ts × (length u ≤ 17000)
unfolding counts
script_passed (script_lines {w} {xs} no_machine y) free = let rest = lines_passed y 0 (omega arith) free in (rest.0, omega (arith, rest.1))
script_passed (script_lines {u} {ts} {w} {xs} (machine_line x) y) free =
    let both = cut (counts 0 0) u w free in
    let p = line_passed (class.Key key.Machine) 0 0 u ts (after_machine 0) x both.0 in
    let rest = lines_passed y 0 (omega arith) (subst (λ c. Unbarred c w) p.first both.1) in
    (join (counts 0 0) ts xs p.free (subst (λ c. Unbarred c xs) (sym p.second) rest.0), omega (arith, p.long, rest.1, length-append u w))

-- ---- open parentheses

abbrev NoDeeper : List Token → List Token → Type 0
NoDeeper u ts = (d e : ℕ) → nest d u ≡ Some e → nest d ts ≡ Some e

first_no_deeper : (t s : Token) (u w : List Token) → looks t ≡ looks s → NoDeeper u w → NoDeeper (t ∷ u) (s ∷ w)
first_no_deeper t s u w p x d e h =
    let a = opt_some (nest_step (looks t) d) (λ k. nest k u) e h in
    ap (λ c. opt_then (nest_step c d) (λ k. nest k w)) (sym p) ∙ ap (λ o. opt_then o (λ k. nest k w)) a.1 ∙ x a.0 e a.2

both_no_deeper : (u ts w xs : List Token) → NoDeeper u ts → NoDeeper w xs → NoDeeper (u ++ w) (ts ++ xs)
both_no_deeper u ts w xs x y d e h =
    let a = opt_some (nest d u) (λ k. nest k w) e (sym (nest-append d u w) ∙ h) in
    nest_both d a.0 e ts xs (x d a.0 a.1) (y a.0 e a.2)

line_no_deeper : {k : Class} {u ts : List Token} → Line k u ts → NoDeeper u ts
line_no_deeper (line {x} {y} t s g h e f z i j) =
    first_no_deeper t s (x ++ g ∷ []) (y ++ h ∷ []) (e ∙ sym f) (both_no_deeper x y (g ∷ []) (h ∷ []) (trims_nest z) (first_no_deeper g h [] [] (i ∙ sym j) (λ d n p. p)))

lines_no_deeper : {u ts : List Token} → Lines u ts → NoDeeper u ts
lines_no_deeper empty_lines = λ d e h. h
lines_no_deeper (next_line {u} {ts} {w} {xs} x y) = both_no_deeper u ts w xs (line_no_deeper x) (lines_no_deeper y)

machine_no_deeper : {u ts : List Token} → MachineLine u ts → NoDeeper u ts
machine_no_deeper no_machine = λ d e h. h
machine_no_deeper (machine_line x) = line_no_deeper x

pub script_no_deeper : {u ts : List Token} → ScriptLines u ts → NoDeeper u ts
script_no_deeper (script_lines {u} {ts} {w} {xs} x y) = both_no_deeper u ts w xs (machine_no_deeper x) (lines_no_deeper y)

-- fewer tokens
line_length : {k : Class} {u ts : List Token} → Line k u ts → length ts ≤ length u
line_length (line {x} {y} t s g h e f z i j) = omega (arith, trims_length z, length-append x (g ∷ []), length-append y (h ∷ []))

lines_length : {u ts : List Token} → Lines u ts → length ts ≤ length u
lines_length empty_lines = omega arith
lines_length (next_line {u} {ts} {w} {xs} x y) = omega (arith, line_length x, lines_length y, length-append u w, length-append ts xs)

machine_length : {u ts : List Token} → MachineLine u ts → length ts ≤ length u
machine_length no_machine = omega arith
machine_length (machine_line x) = line_length x

pub script_length : {u ts : List Token} → ScriptLines u ts → length ts ≤ length u
script_length (script_lines {u} {ts} {w} {xs} x y) = omega (arith, machine_length x, lines_length y, length-append u w, length-append ts xs)
