-- Which of several loads comes first.
use Rattle.std.specs.Prelude.{◌*◌, ◌==◌, ◌&&◌, ◌||◌, ℕ, Bool, List, [], ◌∷◌, Option, Some, None, if◌then◌else◌, nat_lt, not}
use Rattle.std.specs.List.{best_of, filter, find, list_all}
use Rattle.rows.specs.declared.plain.Machine.{Machine}
use Rattle.io_cpu_scheduler.specs.declared.load.Load.{Load}
use Rattle.io_cpu_scheduler.specs.declared.load.Class.{Class}
use Rattle.io_cpu_scheduler.specs.declared.load.Class.TheVariants as class
use Rattle.io_cpu_scheduler.specs.Degrees.{class_at, same_class}

abbrev pub further : Class → ℕ → ℕ → Bool
further class.Io a b = nat_lt b a
further class.Cpu a b = nat_lt a b

-- a comes before b among the loads of a class: `Io` by more pages for its time, `Cpu` by fewer, compared by cross products, and by its number on a tie
abbrev pub beats : Class → Load → Load → Bool
beats c a b = further c (a.pages * b.time) (b.pages * a.time) || ((a.pages * b.time == b.pages * a.time) && nat_lt a.fragment b.fragment)

abbrev pub is_lower : Load → Load → Bool
is_lower a b = nat_lt a.fragment b.fragment

-- the loads of a class
abbrev pub of_class : Machine → Class → List Load → List Load
of_class m c ls = filter (λ l. same_class (class_at m l) c) ls

-- none of the loads comes before l
abbrev pub is_unbeaten : (Load → Load → Bool) → List Load → Load → Bool
is_unbeaten wins ls l = list_all (λ other. not (wins other l)) ls

-- the first load that none comes before
abbrev pub first_unbeaten : (Load → Load → Bool) → List Load → Option Load
first_unbeaten wins ls = find (is_unbeaten wins ls) ls

-- the extreme load of a class
unfoldable pub extreme : Machine → Class → List Load → Option Load
extreme m c ls = first_unbeaten (beats c) (of_class m c ls)

-- the load of the lowest number
unfoldable pub lowest : List Load → Option Load
lowest ls = first_unbeaten is_lower ls

-- For the code, which walks the loads once: the best so far, or one more load
abbrev pub better : (Load → Load → Bool) → Option Load → Load → Option Load
better wins None l = Some l
better wins (Some b) l = Some (if wins l b then l else b)

abbrev pub first_best : (Load → Load → Bool) → List Load → Option Load
first_best wins [] = None
first_best wins (l ∷ ls) = Some (best_of wins l ls)

unfoldable pub leader : Machine → Class → List Load → Option Load
leader m c ls = first_best (beats c) (of_class m c ls)
