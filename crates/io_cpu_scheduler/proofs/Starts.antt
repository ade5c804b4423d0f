-- A decision names a load where one runs or is ready.
use Rattle.std.proofs.Common.{◌≡◌, ◌+◌, ◌<◌, true, List, [], ◌∷◌, length, refl, ap, Option, Some, None, is_some, inl, inr, arith}
use Rattle.std.proofs.lemmas.Bool.{cases_Bool}
use Rattle.std.specs.List.{All}
use Rattle.std.specs.Prelude.{nat_lt, nat_le, All}
use Rattle.rows.specs.declared.plain.Machine.{Machine}
use Rattle.io_cpu_scheduler.specs.declared.load.Load.{Load}
use Rattle.io_cpu_scheduler.specs.declared.load.Part.{Part}
use Rattle.io_cpu_scheduler.specs.declared.load.Class.{Class}
use Rattle.io_cpu_scheduler.specs.declared.load.Class.TheVariants as class
use Rattle.io_cpu_scheduler.specs.Limits.{IsLoad}
use Rattle.io_cpu_scheduler.specs.Decisions.{decision, fresh, beside, joined, in_order, lone}
use Rattle.io_cpu_scheduler.proofs.Leaders.{lowest_is}

order_some : (a b : Part) → is_some (in_order a b).first ≡ true
order_some a b = elim (cases_Bool (nat_lt b.fragment a.fragment)) [ inl t ↦ simp t | inr f ↦ simp f ]

lone_some : (m : Machine) (o : Option Load) → is_some o ≡ true → is_some (lone m o).first ≡ true
lone_some m None e = absurd cc
lone_some m (Some l) e = refl

fresh_some : (m : Machine) (i j low : Option Load) → is_some low ≡ true → is_some (fresh m i j low).first ≡ true
fresh_some m None j low e = lone_some m low e
fresh_some m (Some i) None low e = lone_some m low e
fresh_some m (Some i) (Some j) low e = elim (cases_Bool (nat_le 2 m.backends)) [ inl t ↦ simp t (order_some _ _) | inr f ↦ simp f (lone_some m low e) ]

joined_some : (c : Class) (m : Machine) (r o : Load) → is_some (joined c m r o).first ≡ true
joined_some class.Io m r o = order_some _ _
joined_some class.Cpu m r o = order_some _ _

beside_some : (m : Machine) (r : Load) (c : Class) (o : Option Load) → is_some (beside m r c o).first ≡ true
beside_some m r c None = refl
beside_some m r c (Some o) = elim (cases_Bool (nat_le 2 m.backends)) [ inl t ↦ simp t (joined_some c m r o) | inr f ↦ simp f refl ]

pub decision_some : (m : Machine) (running ready : List Load) → All IsLoad ready → 0 < length running + length ready → is_some (decision m running ready).first ≡ true
unfolding decision
decision_some m [] [] loads some = absurd (omega arith)
decision_some m [] (l ∷ ls) loads some = fresh_some m _ _ _ (ap is_some (lowest_is (l ∷ ls) loads))
decision_some m (r ∷ rs) ready loads some = beside_some m r _ _
