-- Each step keeps the rule.
use Rattle.std.proofs.Common.{◌≡◌, ◌≢◌, ◌==◌, ℕ, zero, suc, ◌<◌, ◌≤◌, Option, Some, None, List, [], ◌∷◌, length, get_or, set, sym, refl, ap, ◌∙◌, subst, arith, inl, inr, length-append}
use mathlib.Core.List.{IsPrefix}
use mathlib.Core.Logic.{dite}
use mathlib.Core.Option.{none, some, some-injective, some-ne-none}
use native.Mathlib.Decide.{ℕ_discrete}
use lib.ListN.{get_elem?}
use prog.Atomic.{either}
use Rattle.atomic_table.specs.Table.{State, Me, step, keeps, takes, gives, put_back, rest, Allows, Splits, Joins, Final, Seen}
use Rattle.atomic_table.proofs.Lists.{at_set, set_else, set_again, at_longer, at_snoc}
use Rattle.run_lock.specs.declared.rule.View.{View}
use Rattle.run_lock.specs.Turns.{OUT, newcomer, both, spent, OfName, Idle, Taken, Kept, Wins, Gives}

-- what is read after a write
set_at : {A : Type 0} (l : List A) (i : ℕ) (a b : A) → get_elem? l i ≡ some a → get_elem? (set l i b) i ≡ some b
set_at [] i a b e = absurd (some-ne-none a (sym e))
set_at (x ∷ xs) zero a b e = refl
set_at (x ∷ xs) (suc i) a b e = set_at xs i a b e

-- an option isn't both
not_both : {A : Type 0} (o : Option A) (a : A) → o ≡ Some a → o ≡ None → ⊥
not_both o a p q = cc

-- a seat that carries one slot first carries it, and the rest
pub head_of : {A : Type 0} (l : List (ℕ × A)) (x : ℕ × A) (xs : List (ℕ × A)) → l ≡ x ∷ xs → l ≡ x ∷ rest l
head_of l x xs e = e ∙ ap (λ r. x ∷ r) (sym (ap rest e))

-- a beginning is no longer than the whole
pub prefix_length : {A : Type 0} (xs ys : List A) → IsPrefix xs ys → length xs ≤ length ys
prefix_length xs ys p = omega (arith, length-append xs p.0, ap length p.1)

module _ {N F E : Type 0} (fits : N → F → Type 0) (log : F → List E) (name : N) where
  abbrev St : Type 0
  St = State (Option F) (View N)

  abbrev M : Type 0
  M = Me (Option F) (View N)

  -- a seat with a name is of this lock's name
  of_name : (v : View N) (n : N) → v.name ≡ Some n → OfName name v → v.name ≡ Some name
  of_name v n has h = elim h [ inl e ↦ e | inr e ↦ absurd (not_both v.name n has e) ]

  -- in a table that nobody shares and in which nobody has the turn, a value that fits is at home
  pub closes : (id : ℕ) (v : View N) (ws : List ℕ) (xs : List (Option F)) (x : ℕ) → Final (Seen (Kept fits log name) id v) ws xs → get_elem? ws 0 ≡ some x → x ≢ OUT
      → (value : F) × fits name value × (v.seen ≤ length (log value)) × (get_elem? xs 0 ≡ some (Some value))
  closes id v ws xs x f at not = elim f.1.0 [
    | inl r ↦ (let i = r.views id v f.1.1 in (r.value, r.fit, i.2, f.4 0 (Some r.value) (ap (λ (hs : List _). get_elem? hs 0) r.home)))
    | inr r ↦ absurd (not (some-injective _ _ (sym at ∙ ap (λ (ws : List ℕ). get_elem? ws 0) (sym f.2 ∙ r.words))))
  ]

  -- while a seat has the turn, every seat carries the lock's name and has seen no more than it began with
  known : (s : St) (t : Taken fits log name s) (id : ℕ) (v : View N) → get_elem? s.views id ≡ some v → OfName name v × (v.seen ≤ t.from)
  known s t id v at = dite (ℕ_discrete id t.seat)
      (λ hit. let is = some-injective _ _ (sym at ∙ ap (λ k. get_elem? s.views k) hit ∙ t.view) in let less = t.less in (inl (ap (λ (w : View N). w.name) is), (let n : v.seen ≡ t.seen = ap (λ (w : View N). w.seen) is in omega arith)))
      (λ miss. let i = t.others id v at miss in (i.0, i.2))

  -- a step on a waiting word keeps the rule, and changes nothing that the seat knows
  pub notes : (slots id : ℕ) (me : M) (word : ℕ) (f : ℕ → ℕ) → 0 < word → Allows (Kept fits log name) slots id me word f (λ _ w. w ≡ me)
  notes slots id me zero f some_word s h _ at _ = absurd (omega arith)
  notes slots id me (suc word) f some_word s h _ at _ =
      let same = set_again s.views id me.0 at in
      let new = f (get_or s.words (suc word) 0) in (
        me.0,
        keeps,
        tt,
        elim h [
          | inl r ↦ inl (record { value = r.value; waits = set r.waits word new; words = ap (λ (ws : List ℕ). set ws (suc word) new) r.words; home = r.home; fit = r.fit; short = r.short; views = λ k v e. r.views k v (ap (λ (vs : List (View N)). get_elem? vs k) (sym same) ∙ e) })
          | inr r ↦ inr (record { seat = r.seat; from = r.from; seen = r.seen; waits = set r.waits word new; words = ap (λ (ws : List ℕ). set ws (suc word) new) r.words; home = r.home; short = r.short; less = r.less; view = ap (λ (vs : List (View N)). get_elem? vs r.seat) same ∙ r.view; others = λ k v e. r.others k v (ap (λ (vs : List (View N)). get_elem? vs k) (sym same) ∙ e) })
        ],
        refl,
      )

  -- the same where the word changes only if it is what was expected
  pub notes_once : (slots id : ℕ) (me : M) (word old new : ℕ) → 0 < word → Allows (Kept fits log name) slots id me word (λ n. either (n == old) new n) (λ _ w. w ≡ me)
  notes_once slots id me word old new = notes slots id me word (λ n. either (n == old) new n)

  -- a swap of OUT into the turn word: it wins the turn, or finds OUT and changes nothing
  pub wins : (slots id : ℕ) (me : M) (n : N) → me.0.name ≡ Some n → Allows (Kept fits log name) slots id me 0 (λ _. OUT) (Wins fits log (step slots 0 OUT 0 none) me)
  wins slots id me n has s h _ at _ = elim h [
    | inl r ↦
        (let i = r.views id me.0 at in
        let w : View N = record { name = me.0.name; seen = me.0.seen; turn = Some (length (log r.value)) } in
        let named : me.0.name ≡ Some name = of_name me.0 n has i.0 in
        let found : get_or s.words 0 0 ≡ length (log r.value) = ap (λ (ws : List ℕ). get_or ws 0 0) r.words in
        let short = r.short in (
          w,
          takes 0 (Some r.value),
          ap (λ (hs : List _). get_elem? hs 0) r.home,
          inr (record {
            seat = id;
            from = length (log r.value);
            seen = me.0.seen;
            waits = r.waits;
            words = ap (λ (ws : List ℕ). set ws 0 OUT) r.words;
            home = ap (λ (hs : List _). set hs 0 none) r.home;
            short = r.short;
            less = i.2;
            view = set_at s.views id me.0 w at ∙ (λ j. some (record { name = named j; seen = me.0.seen; turn = Some (length (log r.value)) }));
            others = λ k v e ne. r.views k v (sym (set_else s.views id k w ne) ∙ e);
          }),
          ((λ out. absurd (omega (arith, out, found, short))), (λ _. (name, r.value, named, r.fit, sym found, (let less : me.0.seen ≤ length (log r.value) = i.2 in omega (arith, found)), ap (λ (x : ℕ). (record { name = me.0.name; seen = me.0.seen; turn = Some x }, (0, Some r.value) ∷ me.1)) (sym found)))),
        ))
    | inr r ↦
        (let same = set_again s.views id me.0 at in
        let found : get_or s.words 0 0 ≡ OUT = ap (λ (ws : List ℕ). get_or ws 0 0) r.words in (
          me.0,
          keeps,
          tt,
          inr (record {
            seat = r.seat;
            from = r.from;
            seen = r.seen;
            waits = r.waits;
            words = ap (λ (ws : List ℕ). set ws 0 OUT) r.words;
            home = r.home;
            short = r.short;
            less = r.less;
            view = ap (λ (vs : List (View N)). get_elem? vs r.seat) same ∙ r.view;
            others = λ k v e. r.others k v (ap (λ (vs : List (View N)). get_elem? vs k) (sym same) ∙ e);
          }),
          ((λ _. refl), (λ not. absurd (not found))),
        ))
  ]

  -- a store of the new length into the turn word, by the seat that has the turn and carries the value
  gives_back : (slots id : ℕ) (me : M) (value : F) (from new : ℕ) → me.0.turn ≡ Some from → me.1 ≡ (0, Some value) ∷ [] → fits name value
      → new ≡ length (log value) → from ≤ new → new < OUT
      → Allows (Kept fits log name) slots id me 0 (λ _. new) (λ _. Gives (step slots 0 new 0 none) me new)
  gives_back slots id me value from new turn carry fit is more short s h _ at _ = elim h [
    | inl r ↦ absurd (not_both me.0.turn from turn (r.views id me.0 at).1)
    | inr r ↦ dite (ℕ_discrete id r.seat)
        (λ hit.
        let mine = some-injective _ _ (sym at ∙ ap (λ k. get_elem? s.views k) hit ∙ r.view) in
        let named : me.0.name ≡ Some name = ap (λ (v : View N). v.name) mine in
        let turns : me.0.turn ≡ Some r.from = ap (λ (v : View N). v.turn) mine in
        let same : from ≡ r.from = cc in
        let w : View N = record { name = me.0.name; seen = new; turn = None } in (
          w,
          gives,
          tt,
          inl (record {
            value = value;
            waits = r.waits;
            words = ap (λ (ws : List ℕ). set ws 0 new) r.words ∙ ap (λ (n : ℕ). n ∷ r.waits) is;
            home = (λ j. put_back (r.home j) (carry j));
            fit = fit;
            short = (let b = short in omega (arith, is));
            views = λ k v e. elim (at_set s.views id k w v e) [
              | inl p ↦ subst (Idle name (length (log value))) p.1 (inl named, refl, (let b = is in omega arith))
              | inr p ↦ (let i = r.others k v p.1 (λ q. p.0 (q ∙ sym hit)) in (i.0, i.1, (let less : v.seen ≤ r.from = i.2 in omega (arith, is, same, more))))
            ];
          }),
          (λ j. (w, rest (carry j))),
        ))
        (λ miss. absurd (not_both me.0.turn from turn (r.others id me.0 at miss).1))
  ]

  -- the same, as a seat stands after its value was laid into the slot
  pub gives_laid : (slots id : ℕ) (before : View N) (after : M) (value : F) (from new : ℕ) → after ≡ (before, (0, Some value) ∷ []) → before.turn ≡ Some from → fits name value
      → new ≡ length (log value) → from ≤ new → new < OUT
      → Allows (Kept fits log name) slots id after 0 (λ _. new) (λ _. Gives (step slots 0 new 0 none) after new)
  gives_laid slots id before after value from new is turn =
      gives_back slots id after value from new (ap (λ (m : M). m.0.turn) is ∙ turn) (ap (λ (m : M). m.1) is)

  -- a seat that is split
  pub splits : (id : ℕ) (v : View N) → Splits (Kept fits log name) id v v (newcomer v)
  splits id v s h at =
      let same = set_again s.views id v at in
      let old = λ (k : ℕ) (u : View N) (e : get_elem? (set s.views id v) k ≡ some u). ap (λ (vs : List (View N)). get_elem? vs k) (sym same) ∙ e in
      elim h [
        | inl r ↦ inl (record {
          value = r.value;
          waits = r.waits;
          words = r.words;
          home = r.home;
          fit = r.fit;
          short = r.short;
          views = λ k u e. elim (at_snoc (set s.views id v) (newcomer v) u k e) [
            | inl o ↦ r.views k u (old k u o)
            | inr o ↦ subst (Idle name (length (log r.value))) o (let i = r.views id v at in (i.0, refl, i.2))
          ];
        })
        | inr r ↦ inr (record {
          seat = r.seat;
          from = r.from;
          seen = r.seen;
          waits = r.waits;
          words = r.words;
          home = r.home;
          short = r.short;
          less = r.less;
          view = at_longer (set s.views id v) (newcomer v ∷ []) r.seat _ (ap (λ (vs : List (View N)). get_elem? vs r.seat) same ∙ r.view);
          others = λ k u e ne. elim (at_snoc (set s.views id v) (newcomer v) u k e) [
            | inl o ↦ r.others k u (old k u o) ne
            | inr o ↦ subst (Idle name r.from) o (let i = known s r id v at in (i.0, refl, i.1))
          ];
        })
      ]

  -- a view without the turn is not that of the seat that has it
  elsewhere : (s : St) (t : Taken fits log name s) (id : ℕ) (v : View N) → v.turn ≡ None → get_elem? s.views id ≡ some v → t.seat ≢ id
  elsewhere s t id v none_is at hit =
      let is = some-injective _ _ (sym at ∙ ap (λ k. get_elem? s.views k) (sym hit) ∙ t.view) in
      not_both v.turn t.from (ap (λ (u : View N). u.turn) is) none_is

  -- two seats that are joined, of which neither has the turn
  pub joins : (id : ℕ) (v : View N) (other : ℕ) (w : View N) → v.turn ≡ None → w.turn ≡ None → Joins (Kept fits log name) id v other w (both v w) spent
  joins id v other w one two s h at ne at' =
      let b : View N = both v w in
      let there : get_elem? s.views other ≡ some w = sym (set_else s.views id other b ne) ∙ at' in
      elim h [
        | inl r ↦ inl (record {
          value = r.value;
          waits = r.waits;
          words = r.words;
          home = r.home;
          fit = r.fit;
          short = r.short;
          views = λ k u e. elim (at_set (set s.views id b) other k spent u e) [
            | inl p ↦ subst (Idle name (length (log r.value))) p.1 (inr refl, refl, omega arith)
            | inr p ↦ elim (at_set s.views id k b u p.1) [
              | inl q ↦ subst (Idle name (length (log r.value))) q.1 (let i = r.views id v at in let j = r.views other w there in (i.0, one, (let x = i.2 in let y = j.2 in omega arith)))
              | inr q ↦ r.views k u q.1
            ]
          ];
        })
        | inr r ↦
            (let a = elsewhere s r id v one at in
            let c = elsewhere s r other w two there in
            inr (record {
              seat = r.seat;
              from = r.from;
              seen = r.seen;
              waits = r.waits;
              words = r.words;
              home = r.home;
              short = r.short;
              less = r.less;
              view = set_else (set s.views id b) other r.seat spent c ∙ set_else s.views id r.seat b a ∙ r.view;
              others = λ k u e not. elim (at_set (set s.views id b) other k spent u e) [
                | inl p ↦ subst (Idle name r.from) p.1 (inr refl, refl, omega arith)
                | inr p ↦ elim (at_set s.views id k b u p.1) [
                  | inl q ↦ subst (Idle name r.from) q.1 (let i = known s r id v at in let j = known s r other w there in (i.0, one, (let x = i.1 in let y = j.1 in omega arith)))
                  | inr q ↦ r.others k u q.1 not
                ]
              ];
            }))
      ]
