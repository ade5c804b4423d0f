-- What a loop owes.
use Rattle.std.proofs.Common.{◌≡◌, ◌≢◌, ◌⊎◌, ℕ, zero, suc, ◌+◌, ◌<◌, ◌≤◌, List, [], ◌∷◌, ◌++◌, length, Option, Some, None, Ok, Err, refl, sym, ap, subst, ◌∙◌, inl, inr, append_assoc, length-append, arith}
use Rattle.std.proofs.lemmas.List.{append_cancel_right}
use Rattle.postquel_tokens.specs.declared.token.Token.{Token}
use Rattle.postquel_tokens.specs.declared.fault.What.{What}
use Rattle.postquel_tokens.specs.declared.fault.What.TheVariants as what
use Rattle.postquel.specs.declared.class.Class.{Class}
use Rattle.postquel.specs.declared.class.Class.TheVariants as class
use Rattle.postquel.specs.Input.{Input, Stop, Outcome, Parser, and_then, ◌>>=◌, pure, first}
use Rattle.postquel.specs.Loop.{go_on, turns, repeat}
use Rattle.postquel.proofs.Good.{bind_ok, CanEnd, Then, at, Took, Halted, Good}
use Rattle.postquel.proofs.Combine.{ok_pair, Any, Is, pure_good, convert, in_turn, by_head}

-- one turn after the other
pub data Turns {S : Type 0} (R : S → S → List Token → Type 0) : S → S → List Token → Type 0 where
  done : (s : S) → Turns R s s []
  turn : {s m f : S} {w v : List Token} → R s m w → Turns R m f v → Turns R s f (w ++ v)

module _ (bar : What) (barred : bar ≢ what.Unexpected) {S : Type 0} (d : ℕ) (next : S → Class → Option (Parser S)) (R : S → S → List Token → Type 0) (E F : Class → Type 0)
    -- each turn is good, begins with a class that goes on, and takes a token
    (good : (s : S) (c : Class) (p : Parser S) → next s c ≡ Some p → Good bar (λ k. k ≡ c) d d F (R s) p)
    (begins : (s m : S) (w r : List Token) → R s m w → (p : Parser S) × (next s (first (w ++ r)) ≡ Some p))
    (moves : (s m : S) (w : List Token) → R s m w → 0 < length w)
    -- what ends the loop, and what follows a turn
    (stops : (s : S) (c : Class) → E c → next s c ≡ None)
    (over : (s : S) → next s class.End ≡ None)
    (last : (c : Class) → E c → F c)
    (more : (s : S) (c : Class) (p : Parser S) → next s c ≡ Some p → F c) where
  abbrev Bounded : ℕ → S → S → List Token → Type 0
  Bounded zero s f u = Is s f u
  Bounded (suc n) s f u = Is s f u ⊎ Then (R s) (Bounded n) f u

  bounded_last : (n : ℕ) (s : S) → (f : S) × (w : List Token) × Bounded n s f w
  bounded_last zero s = (s, [], (refl, refl))
  bounded_last (suc n) s = (s, [], inl (refl, refl))

  bounded_ends : (n : ℕ) (s f : S) (w r : List Token) → Bounded n s f w → E (first r) → F (first (w ++ r))
  bounded_ends zero s f w r x e = subst (λ (v : List Token). F (first (v ++ r))) (sym x.1) (last (first r) e)
  bounded_ends (suc n) s f w r (inl x) e = subst (λ (v : List Token). F (first (v ++ r))) (sym x.1) (last (first r) e)
  bounded_ends (suc n) s f w r (inr x) e =
      let b = begins s x.middle x.front (x.back ++ r) x.one in
      let whole : w ++ r ≡ x.front ++ (x.back ++ r) = ap (λ (v : List Token). v ++ r) x.parts ∙ append_assoc x.front x.back r in
      subst (λ (v : List Token). F (first v)) (sym whole) (more s (first (x.front ++ (x.back ++ r))) b.0 b.1)

  turn_case : (n : ℕ) → ((s : S) → Good bar Any d d E (Bounded n s) (turns next n s)) → (s : S) (c : Class) (o : Option (Parser S)) → next s c ≡ o
      → Good bar (λ k. k ≡ c) d d E (Bounded (suc n) s) (go_on o (turns next n) s)
  turn_case n k s c None h = convert bar barred (pure s) (pure_good bar barred s d E) (λ k e. tt) (λ k e. e) (λ a u x. inl x)
      (λ a u r x e f. elim x [
        | inl y ↦ y
        | inr y ↦
            let b = begins s y.middle y.front (y.back ++ r) y.one in
            let whole : u ++ r ≡ y.front ++ (y.back ++ r) = ap (λ (v : List Token). v ++ r) y.parts ∙ append_assoc y.front y.back r in
            let here : next s c ≡ Some b.0 = subst (λ k. next s k ≡ Some b.0) (ap first (sym whole) ∙ e) b.1 in
            absurd cc
      ])
  turn_case n k s c (Some p) h =
      convert bar barred (p >>= turns next n) (in_turn bar barred {F = Bounded n} p (turns next n) (good s c p h) k (bounded_last n) (λ a b w r x e. bounded_ends n a b w r x e))
      (λ k e. e) (λ k e. e) (λ a u x. inr x)
      (λ a u r x e f. elim x [
        | inl y ↦
            let none = stops s (first r) f in
            let same : first r ≡ c = ap (λ (v : List Token). first (v ++ r)) (sym y.1) ∙ e in
            let none2 : next s c ≡ None = subst (λ k. next s k ≡ None) same none in
            absurd cc
        | inr y ↦ y
      ])

  turns_good : (n : ℕ) (s : S) → Good bar Any d d E (Bounded n s) (turns next n s)
  unfolding turns
  turns_good zero s = pure_good bar barred s d E
  turns_good (suc n) s = by_head bar barred (λ c. go_on (next s c) (turns next n) s) (λ c. turn_case n (turns_good n) s c (next s c) refl)

  turns_stop : (n : ℕ) (s : S) (rest : List Token) (room : ℕ) → next s (first rest) ≡ None → turns next n s (at bar rest room) ≡ Ok (s, at bar rest room)
  unfolding turns
  turns_stop zero s rest room h = refl
  turns_stop (suc n) s rest room h = ap (λ o. go_on o (turns next n) s (at bar rest room)) h

  unbound : (n : ℕ) (s f : S) (u : List Token) → Bounded n s f u → Turns R s f u
  unbound zero s f u x = subst (λ (v : List Token). Turns R s f v) (sym x.1) (subst (λ (g : S). Turns R s g []) (sym x.0) (done s))
  unbound (suc n) s f u (inl x) = subst (λ (v : List Token). Turns R s f v) (sym x.1) (subst (λ (g : S). Turns R s g []) (sym x.0) (done s))
  unbound (suc n) s f u (inr x) = subst (λ (v : List Token). Turns R s f v) (sym x.parts) (turn x.one (unbound n x.middle f x.back x.two))

  bound : {s f : S} {u : List Token} → Turns R s f u → (n : ℕ) → length u ≤ n → Bounded n s f u
  bound (done s) zero h = (refl, refl)
  bound (done s) (suc n) h = inl (refl, refl)
  bound (turn {s} {m} {f} {w} {v} x y) zero h = absurd (omega (arith, moves s m w x, length-append w v))
  bound (turn {s} {m} {f} {w} {v} x y) (suc n) h = inr (record { middle = m; front = w; back = v; parts = refl; one = x; two = bound y n (omega (arith, moves s m w x, length-append w v)) })

  Same : ℕ → ℕ → S → List Token → ℕ → Type 0
  Same n m s rest room = turns next n s (at bar rest room) ≡ turns next m s (at bar rest room)

  same_case : (n m : ℕ) → ((s : S) (rest : List Token) (room : ℕ) → length rest ≤ n → length rest ≤ m → Same n m s rest room)
      → (s : S) (rest : List Token) (room : ℕ) → length rest ≤ suc n → length rest ≤ suc m → (o : Option (Parser S)) → next s (first rest) ≡ o
      → go_on o (turns next n) s (at bar rest room) ≡ go_on o (turns next m) s (at bar rest room)
  unfolding Same
  same_case n m ih s rest room a b None h = refl
  same_case n m ih s rest room a b (Some p) h =
      elim (p (at bar rest room)) as (λ (o : Outcome S). p (at bar rest room) ≡ o → and_then o (turns next n) ≡ and_then o (turns next m)) [
        | Err e ↦ λ q. refl
        | Ok x ↦ λ q.
            let t = (good s (first rest) p h).took rest room x.0 x.1 refl q in
            let shorter : length t.left < length rest = omega (arith, ap length t.split, length-append t.used t.left, moves s x.0 t.used t.derives) in
            let G : Input → Type 0 = λ j. turns next n x.0 j ≡ turns next m x.0 j in
            subst G (sym t.is) (ih x.0 t.left t.spare (omega arith) (omega arith))
      ] refl

  -- more turns than tokens make no difference
  same_turns : (n m : ℕ) (s : S) (rest : List Token) (room : ℕ) → length rest ≤ n → length rest ≤ m → Same n m s rest room
  unfolding turns Same
  same_turns n m s [] room a b = turns_stop n s [] room (over s) ∙ sym (turns_stop m s [] room (over s))
  same_turns zero m s (t ∷ ts) room a b = absurd (omega arith)
  same_turns (suc n) zero s (t ∷ ts) room a b = absurd (omega arith)
  same_turns (suc n) (suc m) s (t ∷ ts) room a b = same_case n m (same_turns n m) s (t ∷ ts) room a b (next s (first (t ∷ ts))) refl

  repeat_took : (s : S) (rest : List Token) (room : ℕ) (a : S) (j : Input) → repeat next s (at bar rest room) ≡ Ok (a, j) → Took bar (repeat next s) (Turns R s) d d rest room a j
  unfolding repeat Same
  repeat_took s rest room a j e =
      let t = (turns_good (length rest) s).took rest room a j tt e in
      record {
        used = t.used;
        left = t.left;
        spare = t.spare;
        is = t.is;
        split = t.split;
        spent = t.spent;
        derives = unbound (length rest) s a t.used t.derives;
        nests = t.nests;
        clean = t.clean;
        local = λ r same.
            let n : ℕ = length rest + length (t.used ++ r) in
            let again : turns next n s (at bar rest room) ≡ Ok (a, j) = same_turns n (length rest) s rest room (omega arith) (omega arith) ∙ e in
            let x = (turns_good n s).took rest room a j tt again in
            let left_is : t.left ≡ x.left = ap (λ (i : Input). i.rest) (sym t.is ∙ x.is) in
            let spare_is : t.spare ≡ x.spare = ap (λ (i : Input). i.room) (sym t.is ∙ x.is) in
            let used_is : t.used ≡ x.used = append_cancel_right t.used x.used t.left (sym t.split ∙ x.split ∙ ap (λ (w : List Token). x.used ++ w) (sym left_is)) in
            let G : List Token → Type 0 = λ u. turns next n s (at bar (u ++ r) room) ≡ Ok (a, at bar r t.spare) in
            same_turns (length (t.used ++ r)) n s (t.used ++ r) room (omega arith) (omega arith)
            ∙ subst G (sym used_is) (x.local r (same ∙ ap first left_is) ∙ ap (λ k. Ok (a, at bar r k)) (sym spare_is));
      }

  repeat_halted : (s : S) (rest : List Token) (room : ℕ) (h : Stop) → repeat next s (at bar rest room) ≡ Err h → Halted bar (repeat next s) (Turns R s) d rest room h
  unfolding repeat Same
  repeat_halted s rest room h e =
      let t = (turns_good (length rest) s).halted rest room h tt e in
      let can : (v : List Token) → CanEnd (Bounded (length rest) s) v → CanEnd (Turns R s) v = λ v c.
      record { value = c.value; more = c.more; derives = unbound (length rest) s c.value (v ++ c.more) c.derives } in
      record {
        used = t.used;
        split = t.split;
        depth = t.depth;
        nests = t.nests;
        within = t.within;
        clean = t.clean;
        local = λ r same.
            let n : ℕ = length rest + length (t.used ++ r) in
            let again : turns next n s (at bar rest room) ≡ Err h = same_turns n (length rest) s rest room (omega arith) (omega arith) ∙ e in
            let x = (turns_good n s).halted rest room h tt again in
            let used_is : t.used ≡ x.used = append_cancel_right t.used x.used h.rest (sym t.split ∙ x.split) in
            let G : List Token → Type 0 = λ u. turns next n s (at bar (u ++ r) room) ≡ Err (record { what = h.what; rest = r }) in
            same_turns (length (t.used ++ r)) n s (t.used ++ r) room (omega arith) (omega arith) ∙ subst G (sym used_is) (x.local r same);
        end = elim t.end [
          | inl x ↦ inl (x.0, can t.used x.1)
          | inr x ↦ inr (record { token = x.token; more = x.more; next = x.next; real = x.real; can = can (t.used ++ x.token ∷ []) x.can; which = x.which })
        ];
      }

  -- it ends where nothing goes on
  Ended : S → Input → Type 0
  Ended f j = next f (first j.rest) ≡ None

  end_case : (n : ℕ) → ((s : S) (rest : List Token) (room : ℕ) (f : S) (j : Input) → length rest ≤ n → turns next n s (at bar rest room) ≡ Ok (f, j) → Ended f j)
      → (s : S) (rest : List Token) (room : ℕ) (f : S) (j : Input) → length rest ≤ suc n → (o : Option (Parser S)) → next s (first rest) ≡ o → go_on o (turns next n) s (at bar rest room) ≡ Ok (f, j) → Ended f j
  unfolding Ended
  end_case n ih s rest room f j le None h e =
      let p = ok_pair s f (at bar rest room) j e in
      subst (λ (i : Input). next f (first i.rest) ≡ None) p.1 (subst (λ (g : S). next g (first rest) ≡ None) p.0 h)
  end_case n ih s rest room f j le (Some p) h e =
      let x = bind_ok (p (at bar rest room)) (turns next n) f j e in
      let t = (good s (first rest) p h).took rest room x.0 x.1 refl x.2 in
      let shorter : length t.left < length rest = omega (arith, ap length t.split, length-append t.used t.left, moves s x.0 t.used t.derives) in
      ih x.0 t.left t.spare f j (omega arith) (subst (λ (i : Input). turns next n x.0 i ≡ Ok (f, j)) t.is x.3)

  turns_end : (n : ℕ) (s : S) (rest : List Token) (room : ℕ) (f : S) (j : Input) → length rest ≤ n → turns next n s (at bar rest room) ≡ Ok (f, j) → Ended f j
  unfolding turns Ended
  turns_end zero s [] room f j le e =
      let p = ok_pair s f (at bar [] room) j e in
      subst (λ (i : Input). next f (first i.rest) ≡ None) p.1 (over f)
  turns_end zero s (t ∷ ts) room f j le e = absurd (omega arith)
  turns_end (suc n) s rest room f j le e = end_case n (turns_end n) s rest room f j le (next s (first rest)) refl e

  pub repeat_end : (s : S) (rest : List Token) (room : ℕ) (f : S) (j : Input) → repeat next s (at bar rest room) ≡ Ok (f, j) → next f (first j.rest) ≡ None
  unfolding repeat Ended
  repeat_end s rest room f j e = turns_end (length rest) s rest room f j (omega arith) e

  pub repeat_good : (s : S) → Good bar Any d d E (Turns R s) (repeat next s)
  unfolding repeat
  repeat_good s = record {
    took = λ rest room a j h e. repeat_took s rest room a j e;
    halted = λ rest room h k e. repeat_halted s rest room h e;
    again = λ a u r room x e h. (turns_good (length (u ++ r)) s).again a u r room (bound x (length (u ++ r)) (omega (arith, length-append u r))) e tt;
  }
