-- Every decision is sensible.
use Rattle.std.proofs.Common.{◌≡◌, ◌≢◌, ◌∙◌, sym, refl, ap, subst, arith, ℕ, zero, suc, ◌+◌, ◌-◌, ◌<◌, ◌≤◌, ◌⊎◌, inl, inr, Bool, true, false, List, [], ◌∷◌, ◌++◌, Option, Some, None, length, cond, nat_le, nat_lt, unwrap_or, if◌then◌else◌}
use Rattle.std.specs.List.{All, Contains, filter, find, range_with_len}
use Rattle.std.proofs.lemmas.Bool.Decides.{nat_tests}
use Rattle.std.proofs.lemmas.List.Elements.{All-nil, All-push}
use Rattle.rows.specs.declared.plain.Machine.{Machine}
use Rattle.io_cpu_scheduler.specs.declared.load.Load.{Load}
use Rattle.io_cpu_scheduler.specs.declared.load.Part.{Part}
use Rattle.io_cpu_scheduler.specs.declared.load.Decision.{Decision}
use Rattle.io_cpu_scheduler.specs.declared.load.Class.{Class}
use Rattle.io_cpu_scheduler.specs.declared.load.Class.TheVariants as class
use Rattle.io_cpu_scheduler.specs.Degrees.{balance_of, class_at, is_least_gap, other_class, same_class, solo_in}
use Rattle.io_cpu_scheduler.specs.Loads.{beats, extreme, is_lower, is_unbeaten, lowest, of_class}
use Rattle.io_cpu_scheduler.specs.Decisions.{alone, beside, decision, fresh, joined, lone, nothing, paired, part_of}
use Rattle.io_cpu_scheduler.specs.Limits.{IsMachine}
use Rattle.io_cpu_scheduler.specs.Sensible.{IsPair, IsSensible}
use Rattle.io_cpu_scheduler.proofs.Unbeaten.{by_test}

-- an element of the rest is one of the whole
behind : (l x : Load) (ls : List Load) → Contains ls x → Contains (l ∷ ls) x
behind l x ls h = (suc h.0, (let less = h.1 in omega arith), h.2)

find_from : (p : Load → Bool) (ls : List Load) (x : Load) → find p ls ≡ Some x → Contains ls x
find_from p [] x is = absurd cc
find_from p (l ∷ ls) x is = by_test (p l) (Contains (l ∷ ls) x)
    (λ hit. (0, omega arith, ap (λ o. unwrap_or o l) (subst (λ t. cond t (Some l) (find p ls) ≡ Some x) hit is)))
    (λ miss. behind l x ls (find_from p ls x (subst (λ t. cond t (Some l) (find p ls) ≡ Some x) miss is)))

-- the first of a list, or one of the rest
front : (p : Load → Bool) (l x : Load) (ls more : List Load) → p l ≡ true → Contains (l ∷ more) x → (Contains more x → Contains ls x × (p x ≡ true)) → Contains (l ∷ ls) x × (p x ≡ true)
front p l x ls more hit (zero, less, is) rest = ((0, omega arith, is), subst (λ y. p y ≡ true) is hit)
front p l x ls more hit (suc k, less, is) rest = (let found = rest (k, omega arith, is) in (behind l x ls found.0, found.1))

filter_from : (p : Load → Bool) (ls : List Load) (x : Load) → Contains (filter p ls) x → Contains ls x × (p x ≡ true)
filter_from p [] x h = absurd (let less = h.1 in omega arith)
filter_from p (l ∷ ls) x h = by_test (p l) (Contains (l ∷ ls) x × (p x ≡ true))
    (λ hit. front p l x ls (filter p ls) hit (subst (λ t. Contains (cond t (l ∷ filter p ls) (filter p ls)) x) hit h) (filter_from p ls x))
    (λ miss. let rest = filter_from p ls x (subst (λ t. Contains (cond t (l ∷ filter p ls) (filter p ls)) x) miss h) in (behind l x ls rest.0, rest.1))

class_is : (a b : Class) → same_class a b ≡ true → a ≡ b
class_is class.Io class.Io h = refl
class_is class.Cpu class.Cpu h = refl
class_is class.Io class.Cpu h = absurd cc
class_is class.Cpu class.Io h = absurd cc

extreme_from : (m : Machine) (c : Class) (ls : List Load) (x : Load) → extreme m c ls ≡ Some x → Contains ls x × (class_at m x ≡ c)
unfolding extreme
extreme_from m c ls x is =
    let found = filter_from (λ (l : Load). same_class (class_at m l) c) ls x (find_from (is_unbeaten (beats c) (of_class m c ls)) (of_class m c ls) x is) in
    (found.0, class_is _ _ found.1)

lowest_from : (ls : List Load) (x : Load) → lowest ls ≡ Some x → Contains ls x
unfolding lowest
lowest_from ls x is = find_from (is_unbeaten is_lower ls) ls x is

-- what is found among the numbers of a range, or else stands in for it
range_within : (p : ℕ → Bool) (n a d high : ℕ) → 1 ≤ a → a + n ≤ high → 1 ≤ d → d < high → (1 ≤ unwrap_or (find p (range_with_len a n)) d) × (unwrap_or (find p (range_with_len a n)) d < high)
range_within p zero a d high low up some less = (some, less)
range_within p (suc n) a d high low up some less = by_test (p a) ((1 ≤ unwrap_or (find p (a ∷ range_with_len (a + 1) n)) d) × (unwrap_or (find p (a ∷ range_with_len (a + 1) n)) d < high))
    (λ hit. rw (hit) (low, (let b : a < high = omega arith in b)))
    (λ miss. rw (miss) (range_within p n (a + 1) d high (omega arith) (omega arith) some less))

balance_within : (m : Machine) (i j : Load) → 2 ≤ m.backends → (1 ≤ balance_of m i j) × (balance_of m i j < m.backends)
unfolding balance_of
balance_within m i j two = range_within (is_least_gap m i j) (m.backends - 1) 1 1 m.backends (omega arith) (omega arith) (omega arith) (omega arith)

solo_in_within : (c : Class) (m : Machine) (l : Load) → 1 ≤ m.backends → (1 ≤ solo_in c m l) × (solo_in c m l ≤ m.backends)
solo_in_within class.Cpu m l some = (some, omega arith)
solo_in_within class.Io m l some = (omega arith, omega arith)

two_at_least : (n : ℕ) → nat_le 2 n ≡ true → 2 ≤ n
two_at_least n h = grind (arith, nat_tests)

-- what holds of both cases of a test holds of the choice
either_way : (P : Decision → Type 0) (t : Bool) (d e : Decision) → (t ≡ true → P d) → (t ≡ false → P e) → P (if t then d else e)
either_way P true d e when else_when = when refl
either_way P false d e when else_when = else_when refl

lower : (a b : ℕ) → nat_lt a b ≡ true → a ≤ b
lower a b h = grind (arith, nat_tests)

not_lower : (a b : ℕ) → nat_lt a b ≡ false → b ≤ a
not_lower a b h = grind (arith, nat_tests)

-- one part, or none
module _ (m : Machine) (running ready : List Load) where
  nothing_sense : IsSensible m running ready nothing
  nothing_sense = record { first = tt; second = tt; pair = λ p q e f. absurd cc }

  alone_sense : (l : Load) → IsMachine m → Contains (running ++ ready) l → IsSensible m running ready (alone m l)
  alone_sense l fits has =
      let within = solo_in_within (class_at m l) m l fits.some_backend in
      record { first = record { from = (l, has, refl); some = within.0; most = within.1 }; second = tt; pair = λ p q e f. absurd cc }

  -- two parts in order
  two_sense : (a b : Load) (x y : ℕ) → Contains (running ++ ready) a → Contains (running ++ ready) b → class_at m a ≢ class_at m b → a.fragment ≤ b.fragment → 1 ≤ x → 1 ≤ y → x + y ≡ m.backends
      → All (λ r. (r.fragment ≡ a.fragment) ⊎ (r.fragment ≡ b.fragment)) running → IsSensible m running ready (record { first = Some (part_of a x); second = Some (part_of b y) })
  two_sense a b x y has_a has_b classes order some_x some_y whole goes_on = record {
    first = record { from = (a, has_a, refl); some = some_x; most = omega arith };
    second = record { from = (b, has_b, refl); some = some_y; most = omega arith };
    pair = λ p q e f.
        let is_p : part_of a x ≡ p = ap (λ (o : Option Part). unwrap_or o (part_of a x)) e in
        let is_q : part_of b y ≡ q = ap (λ (o : Option Part). unwrap_or o (part_of b y)) f in
        subst (λ (p : Part). IsPair m running ready p q) is_p (subst (λ (q : Part). IsPair m running ready (part_of a x) q) is_q (record {
          whole = whole;
          order = order;
          apart = record { one = a; other = b; has_one = has_a; has_other = has_b; classes = classes; first = refl; second = refl };
          goes_on = goes_on;
        }));
  }

  paired_sense : (i j : Load) → 2 ≤ m.backends → Contains (running ++ ready) i → Contains (running ++ ready) j → class_at m i ≢ class_at m j
      → All (λ r. (r.fragment ≡ i.fragment) ⊎ (r.fragment ≡ j.fragment)) running → IsSensible m running ready (paired m i j)
  paired_sense i j two has_i has_j classes goes_on =
      let b = balance_of m i j in
      let within = balance_within m i j two in
      let some : 1 ≤ b = within.0 in
      let part : b < m.backends = within.1 in
      either_way (IsSensible m running ready) (nat_lt j.fragment i.fragment) _ _
      (λ t. two_sense j i (m.backends - b) b has_j has_i (λ e. classes (sym e)) (lower _ _ t) (omega arith) some (omega arith) (λ k d less. swapped _ _ (goes_on k d less)))
      (λ f. two_sense i j b (m.backends - b) has_i has_j classes (not_lower _ _ f) some (omega arith) (omega arith) goes_on)
    where
      swapped : (A B : Type 0) → A ⊎ B → B ⊎ A
      swapped A B (inl a) = inr a
      swapped A B (inr b) = inl b

differ : class.Io ≢ class.Cpu
differ e = cc

other_differs : (c : Class) → other_class c ≢ c
other_differs class.Io e = cc
other_differs class.Cpu e = cc

lone_sense : (m : Machine) (ready : List Load) (low : Option Load) → IsMachine m → lowest ready ≡ low → IsSensible m [] ready (lone m low)
lone_sense m ready None fits is = nothing_sense m [] ready
lone_sense m ready (Some l) fits is = alone_sense m [] ready l fits (lowest_from ready l is)

fresh_sense : (m : Machine) (ready : List Load) (i j low : Option Load) → IsMachine m → extreme m class.Io ready ≡ i → extreme m class.Cpu ready ≡ j → lowest ready ≡ low → IsSensible m [] ready (fresh m i j low)
fresh_sense m ready None j low fits is_i is_j is = lone_sense m ready low fits is
fresh_sense m ready (Some i) None low fits is_i is_j is = lone_sense m ready low fits is
fresh_sense m ready (Some i) (Some j) low fits is_i is_j is =
    let from_i = extreme_from m class.Io ready i is_i in
    let from_j = extreme_from m class.Cpu ready j is_j in
    either_way (IsSensible m [] ready) (nat_le 2 m.backends) _ _
    (λ t. paired_sense m [] ready i j (two_at_least _ t) from_i.0 from_j.0 (λ e. differ (sym from_i.1 ∙ e ∙ from_j.1)) (All-nil _))
    (λ f. lone_sense m ready low fits is)

-- what holds of one load holds of each of a list of it alone
pub only : (P : Load → Type 0) (l : Load) → P l → All P (l ∷ [])
only P l holds = All-push P [] l (All-nil P) holds

joined_sense : (m : Machine) (r o : Load) (ready : List Load) (c : Class) → 2 ≤ m.backends → Contains (r ∷ ready) o → class_at m o ≢ class_at m r → IsSensible m (r ∷ []) ready (joined c m r o)
joined_sense m r o ready class.Io two has differs = paired_sense m (r ∷ []) ready o r two has (0, omega arith, refl) differs (only (λ (x : Load). (x.fragment ≡ o.fragment) ⊎ (x.fragment ≡ r.fragment)) r (inr refl))
joined_sense m r o ready class.Cpu two has differs = paired_sense m (r ∷ []) ready r o two (0, omega arith, refl) has (λ e. differs (sym e)) (only (λ (x : Load). (x.fragment ≡ r.fragment) ⊎ (x.fragment ≡ o.fragment)) r (inl refl))

beside_sense : (m : Machine) (r : Load) (ready : List Load) (c : Class) (o : Option Load) → IsMachine m → c ≡ other_class (class_at m r) → extreme m c ready ≡ o → IsSensible m (r ∷ []) ready (beside m r c o)
beside_sense m r ready c None fits other is = alone_sense m (r ∷ []) ready r fits (0, omega arith, refl)
beside_sense m r ready c (Some o) fits other is =
    let from = extreme_from m c ready o is in
    either_way (IsSensible m (r ∷ []) ready) (nat_le 2 m.backends) _ _
    (λ t. joined_sense m r o ready c (two_at_least _ t) (behind r o ready from.0) (λ e. other_differs (class_at m r) (sym other ∙ sym from.1 ∙ e)))
    (λ f. alone_sense m (r ∷ []) ready r fits (0, omega arith, refl))

pub decision_sense : (m : Machine) (running ready : List Load) → IsMachine m → length running ≤ 1 → IsSensible m running ready (decision m running ready)
unfolding decision
decision_sense m [] ready fits few = fresh_sense m ready _ _ _ fits refl refl refl
decision_sense m (r ∷ []) ready fits few = beside_sense m r ready _ _ fits refl refl
decision_sense m (r ∷ s ∷ rs) ready fits few = absurd (omega arith)
