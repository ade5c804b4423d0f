-- A text that is read unit by unit, and the value of its digits.
use Rattle.std.proofs.Common.{◌≡◌, ℕ, zero, suc, ◌+◌, ◌-◌, ◌*◌, ◌^◌, ◌<◌, ◌≤◌, min, Bool, true, false, eqb, cond, List, [], ◌∷◌, ◌++◌, length, take, drop, Result, Ok, Err, refl, sym, ap, subst, ◌∙◌, append_assoc, arith, get_or, drop-cons, leb, pos}
use Rattle.std.specs.Prelude.{fold, slice_index_or}
use Rattle.std.specs.List.{prefix_len}
use Rattle.std.proofs.lemmas.List.{drop-drop}
use Rattle.postquel_tokens.specs.declared.fault.What.TheVariants as what
use Rattle.postquel_tokens.specs.declared.piece.Run.TheVariants as run
use Rattle.postquel_tokens.specs.declared.token.TokenKind.TheVariants.{Number}
use Rattle.std.proofs.lemmas.Bool.{le-leb, lt-leb}
use Rattle.postquel_tokens.specs.Lex.{Wrong, body_from, body, with_byte, unit, is_in, value, capped, number}

-- what was read before, in front
abbrev pub behind_text : List ℕ → Result (List ℕ × ℕ) Wrong → Result (List ℕ × ℕ) Wrong
behind_text front (Ok x) = Ok (front ++ x.0, x.1)
behind_text front (Err e) = Err e

regroup : (front : List ℕ) (b : ℕ) (o : Result (List ℕ × ℕ) Wrong) → behind_text front (with_byte b o) ≡ behind_text (front ++ b ∷ []) o
regroup front b (Ok x) = ap (λ (w : List ℕ). Ok (w, x.1)) (sym (append_assoc front (b ∷ []) x.0))
regroup front b (Err e) = refl

body_skips : (at n : ℕ) (z : List ℕ) → n ≤ length z → body_from at n z ≡ body (at + n) (drop n z)
body_skips at zero z h = let e : at + 0 ≡ at = omega arith in rw e refl
body_skips at (suc n) [] h = absurd (omega arith)
body_skips at (suc n) (b ∷ z) h = let e : at + 1 + n ≡ at + suc n = omega arith in body_skips (at + 1) n z (omega arith) ∙ ap (λ k. body k (drop n z)) e

pub unit_step : (front : List ℕ) (at b : ℕ) (z : List ℕ) (c len : ℕ) (total : Result (List ℕ × ℕ) Wrong) → eqb b 34 ≡ false → unit at (b ∷ z) ≡ Ok (c, len) → 1 ≤ len → len ≤ length (b ∷ z)
    → behind_text front (body at (b ∷ z)) ≡ total → behind_text (front ++ c ∷ []) (body (at + len) (drop len (b ∷ z))) ≡ total
unit_step front at b z c zero total p u one h so_far = absurd (omega arith)
unit_step front at b z c (suc len) total p u one h so_far =
    let skip = body_skips (at + 1) len z (omega arith) in
    let e : at + 1 + len ≡ at + suc len = omega arith in
    let k : suc len - 1 ≡ len = omega arith in
    let now : body at (b ∷ z) ≡ with_byte c (body (at + suc len) (drop len z)) = rw (p, u, k) (ap (with_byte c) (skip ∙ ap (λ m. body m (drop len z)) e)) in
    sym (regroup front c (body (at + suc len) (drop len z))) ∙ ap (behind_text front) (sym now) ∙ so_far

-- ---- digits

fold_capped : (n m c : ℕ) (z : List ℕ) → n ≡ min m c → fold (λ n b. min (10 * n + (b - 48)) c) n z ≡ min (fold (λ n b. 10 * n + (b - 48)) m z) c
fold_capped n m c [] h = h
fold_capped n m c (b ∷ z) h = fold_capped (min (10 * n + (b - 48)) c) (10 * m + (b - 48)) c z (omega arith)

pub capped_is : (z : List ℕ) → capped z ≡ min (value z) (2 ^ 63)
capped_is z = fold_capped 0 0 (2 ^ 63) z (omega arith)

pub prefix_all : {X : Type 0} (p : X → Bool) (z : List X) (k : ℕ) (d : X) → k < length (take (prefix_len p z) z) → p (slice_index_or (take (prefix_len p z) z) k d) ≡ true
prefix_all p [] k d h = absurd (omega arith)
prefix_all {X = X} p (b ∷ z) k d h =
    let F : Bool → Type 0 = λ q. k < length (take (cond q (1 + prefix_len p z) 0) (b ∷ z)) → p (slice_index_or (take (cond q (1 + prefix_len p z) 0) (b ∷ z)) k d) ≡ true in
    elim (p b) as (λ q. p b ≡ q → F q) [
      | true ↦ λ e h.
          let n : 1 + prefix_len p z ≡ suc (prefix_len p z) = omega arith in
          let G : ℕ → Type 0 = λ m. k < length (take m (b ∷ z)) → p (slice_index_or (take m (b ∷ z)) k d) ≡ true in
          subst G (sym n) (λ h. elim k as (λ j. j < length (take (suc (prefix_len p z)) (b ∷ z)) → p (slice_index_or (take (suc (prefix_len p z)) (b ∷ z)) j d) ≡ true) [
            | zero ↦ λ h. e
            | suc j ↦ λ h. prefix_all p z j d (omega arith)
          ] h) h
      | false ↦ λ e h. absurd (omega arith)
    ] refl h

pub number_small : (z : List ℕ) → 2 ^ 63 ≤ capped z → 2 ^ 63 ≤ value z
number_small z h = omega (arith, capped_is z)

pub number_same : (z : List ℕ) → capped z < 2 ^ 63 → capped z ≡ value z
number_same z h = omega (arith, capped_is z)

pub unit_at : (front z : List ℕ) (at c len : ℕ) (total : Result (List ℕ × ℕ) Wrong) → at < length z → eqb (get_or z at 0) 34 ≡ false → unit (at + 1) (drop at z) ≡ Ok (c, len) → 1 ≤ len → len ≤ length (drop at z)
    → behind_text front (body (at + 1) (drop at z)) ≡ total → behind_text (front ++ c ∷ []) (body (at + len + 1) (drop (at + len) z)) ≡ total
unit_at front z at c len total h p u one le so_far =
    let e : drop at z ≡ get_or z at 0 ∷ drop (suc at) z = drop-cons z at 0 h in
    let step = unit_step front (at + 1) (get_or z at 0) (drop (suc at) z) c len total p (rw e at u) one (rw e at le) (rw e at so_far) in
    let k : at + 1 + len ≡ at + len + 1 = omega arith in
    rw (← k, ← drop-drop len at z, e) step

pub number_big : (z : List ℕ) (n m : ℕ) → n ≡ prefix_len (is_in run.Digit) z → m ≡ capped (take n z) → 2 ^ 63 ≤ m → number z ≡ Err (what.BigNumber, 0)
number_big z n m e f h =
    let big : leb (2 ^ 63) (value (take n z)) ≡ true = le-leb _ _ (number_small (take n z) (omega arith)) in
    let big2 : leb (2 ^ 63) (value (take (prefix_len (is_in run.Digit) z) z)) ≡ true = rw (← e) big in
    rw big2 refl

pub number_fine : (z : List ℕ) (n m : ℕ) → n ≡ prefix_len (is_in run.Digit) z → m ≡ capped (take n z) → m < 2 ^ 63 → number z ≡ Ok (Number (pos m), n)
number_fine z n m e f h =
    let same : m ≡ value (take n z) = f ∙ number_same (take n z) (omega arith) in
    let small : leb (2 ^ 63) (value (take n z)) ≡ false = lt-leb _ _ (omega arith) in
    rw (same, e) (let small2 : leb (2 ^ 63) (value (take (prefix_len (is_in run.Digit) z) z)) ≡ false = rw (← e) small in rw small2 refl)
