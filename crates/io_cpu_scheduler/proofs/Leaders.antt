-- The best of the first loads, one load further, and what it is at the end.
use Rattle.std.proofs.Common.{◌≡◌, ◌∙◌, refl, ap, ℕ, ◌+◌, ◌<◌, Bool, true, false, List, [], ◌∷◌, ◌++◌, Option, Some, None, get_or, length, take}
use Rattle.std.specs.List.{All}
use Rattle.std.proofs.lemmas.List.{take_more, append-nil}
use Rattle.std.proofs.lemmas.List.Sums.{fold_push}
use Rattle.std.proofs.lemmas.List.Elements.{All-filter, filter_more}
use Rattle.io_cpu_scheduler.specs.declared.load.Load.{Load}
use Rattle.rows.specs.declared.plain.Machine.{Machine}
use Rattle.io_cpu_scheduler.specs.declared.load.Class.{Class}
use Rattle.io_cpu_scheduler.specs.declared.load.Class.TheVariants as class
use Rattle.io_cpu_scheduler.specs.contracts.load.Class.{the_type}
use denote.Enum.Bare.{sameb}
use Rattle.io_cpu_scheduler.specs.Degrees.{class_at, same_class}
use Rattle.io_cpu_scheduler.specs.Limits.{IsLoad}
use Rattle.io_cpu_scheduler.specs.Loads.{beats, better, extreme, first_best, is_lower, leader, lowest, of_class}
use Rattle.io_cpu_scheduler.proofs.Orders.{class_order, number_order}
use Rattle.io_cpu_scheduler.proofs.Unbeaten.{unbeaten_is_best}

best_push : (wins : Load → Load → Bool) (ls : List Load) (l : Load) → first_best wins (ls ++ l ∷ []) ≡ better wins (first_best wins ls) l
best_push wins [] l = refl
best_push wins (x ∷ xs) l = ap (λ (y : Load). Some y) (fold_push _ x xs l)

lowest_more : (ls : List Load) (i : ℕ) (d : Load) → i < length ls → first_best is_lower (take (i + 1) ls) ≡ better is_lower (first_best is_lower (take i ls)) (get_or ls i d)
lowest_more ls i d lt = rw (take_more ls i d lt) (best_push is_lower (take i ls) (get_or ls i d))

leader_more : (m : Machine) (c : Class) (ls : List Load) (i : ℕ) (d : Load) → i < length ls → same_class (class_at m (get_or ls i d)) c ≡ true
    → leader m c (take (i + 1) ls) ≡ better (beats c) (leader m c (take i ls)) (get_or ls i d)
unfolding leader
leader_more m c ls i d lt e = rw (filter_more (λ (l : Load). same_class (class_at m l) c) ls i d lt, e) (best_push (beats c) (of_class m c (take i ls)) (get_or ls i d))

leader_same : (m : Machine) (c : Class) (ls : List Load) (i : ℕ) (d : Load) → i < length ls → same_class (class_at m (get_or ls i d)) c ≡ false
    → leader m c (take (i + 1) ls) ≡ leader m c (take i ls)
unfolding leader
leader_same m c ls i d lt e = rw (filter_more (λ (l : Load). same_class (class_at m l) c) ls i d lt, e) (ap (λ (t : List Load). first_best (beats c) t) (append-nil _))

-- the test of two classes
same_class_is : (a b : Class) → same_class a b ≡ sameb the_type a b
same_class_is class.Io class.Io = refl
same_class_is class.Io class.Cpu = refl
same_class_is class.Cpu class.Io = refl
same_class_is class.Cpu class.Cpu = refl

pub none_leader : (m : Machine) (c : Class) → None ≡ leader m c []
unfolding leader
none_leader m c = refl

abbrev pub no_load : Load
no_load = record { fragment = 0; pages = 0; time = 0 }

pub lowest_step : (ls : List Load) (i : ℕ) (o r : Option Load) → i < length ls → o ≡ first_best is_lower (take i ls) → r ≡ better is_lower o (get_or ls i no_load) → r ≡ first_best is_lower (take (i + 1) ls)
lowest_step ls i o r lt before value = rw (lowest_more ls i no_load lt, ← before) value

pub leader_step : (m : Machine) (c k : Class) (ls : List Load) (i : ℕ) (o r : Option Load) → i < length ls → k ≡ class_at m (get_or ls i no_load) → sameb the_type k c ≡ true
    → o ≡ leader m c (take i ls) → r ≡ better (beats c) o (get_or ls i no_load) → r ≡ leader m c (take (i + 1) ls)
leader_step m c k ls i o r lt is same before value =
    let test : same_class (class_at m (get_or ls i no_load)) c ≡ true = rw (← is) (same_class_is k c ∙ same) in
    rw (leader_more m c ls i no_load lt test, ← before) value

pub leader_skip : (m : Machine) (c k : Class) (ls : List Load) (i : ℕ) (o : Option Load) → i < length ls → k ≡ class_at m (get_or ls i no_load) → sameb the_type k c ≡ false
    → o ≡ leader m c (take i ls) → o ≡ leader m c (take (i + 1) ls)
leader_skip m c k ls i o lt is other before =
    let test : same_class (class_at m (get_or ls i no_load)) c ≡ false = rw (← is) (same_class_is k c ∙ other) in
    rw (leader_same m c ls i no_load lt test) before

-- none of its class comes before the extreme load
pub extreme_is : (m : Machine) (c : Class) (ls : List Load) → All IsLoad ls → extreme m c ls ≡ leader m c ls
unfolding extreme leader
extreme_is m c ls all = unbeaten_is_best (beats c) IsLoad (class_order c) (of_class m c ls) (All-filter _ IsLoad ls all)

-- none has a lower number than the lowest
pub lowest_is : (ls : List Load) → All IsLoad ls → lowest ls ≡ first_best is_lower ls
unfolding lowest
lowest_is ls all = unbeaten_is_best is_lower IsLoad number_order ls all
