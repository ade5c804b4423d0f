use Rattle.std.specs.Prelude.{ℕ, ◌<◌, Bool, true, false, List, [], ◌∷◌, ◌==◌, if◌then◌else◌, ◌≡◌, slice_set}
use Rattle.std.proofs.Common.{zero, suc}
use Rattle.page_partition.specs.declared.table.Mark.{Mark}
use Rattle.page_partition.specs.declared.table.Mark.TheVariants.{Left, Out, Deposited}

-- what is true of one position's mark
abbrev pub is_left : ℕ → Mark → Bool
is_left role (Left r) = r == role
is_left role (Out r) = false
is_left role Deposited = false

abbrev pub is_out : ℕ → Mark → Bool
is_out role (Left r) = false
is_out role (Out r) = r == role
is_out role Deposited = false

abbrev pub is_deposited : Mark → Bool
is_deposited (Left r) = false
is_deposited (Out r) = false
is_deposited Deposited = true

-- the positions whose mark passes the test, ascending, where the list begins at position p
abbrev pub places_from : ℕ → (Mark → Bool) → List Mark → List ℕ
places_from p t [] = []
places_from p t (m ∷ ms) = if t m then p ∷ places_from (suc p) t ms else places_from (suc p) t ms

abbrev pub places : (Mark → Bool) → List Mark → List ℕ
places t ms = places_from 0 t ms

-- the positions left for a role, out with it, and deposited
abbrev pub left_of : List Mark → ℕ → List ℕ
left_of ms role = places (is_left role) ms

abbrev pub out_of : List Mark → ℕ → List ℕ
out_of ms role = places (is_out role) ms

-- the first k marks that pass the test become m
abbrev pub mark_first : (Mark → Bool) → ℕ → Mark → List Mark → List Mark
mark_first t zero m ms = ms
mark_first t (suc k) m [] = []
mark_first t (suc k) m (x ∷ xs) = if t x then m ∷ mark_first t k m xs else x ∷ mark_first t (suc k) m xs

-- m at each of the positions
abbrev pub put : List ℕ → Mark → List Mark → List Mark
put [] m ms = ms
put (p ∷ ps) m ms = put ps m (slice_set ms p m)

-- every role named by a mark is below 64
abbrev pub IsNamed : Mark → Type 0
IsNamed (Left r) = r < 64
IsNamed (Out r) = r < 64
IsNamed Deposited = Unit {0}

abbrev pub AllNamed : List Mark → Type 0
AllNamed [] = Unit {0}
AllNamed (m ∷ ms) = IsNamed m × AllNamed ms

-- every mark that passes the test becomes m
abbrev pub mark_all : (Mark → Bool) → Mark → List Mark → List Mark
mark_all t m [] = []
mark_all t m (x ∷ xs) = (if t x then m else x) ∷ mark_all t m xs

-- the first `done` marks out with the role become deposited, the others are left to it again
abbrev pub given_back : ℕ → ℕ → List Mark → List Mark
given_back role done ms = mark_all (is_out role) (Left role) (mark_first (is_out role) done Deposited ms)

-- no role has a batch out
abbrev pub IsIdle : List Mark → Type 0
IsIdle ms = (role : ℕ) → role < 64 → out_of ms role ≡ []

-- what a division is seen as: where each position stands, the degree in force, and how many divides there is room for
pub record Scan : Type 0 where
  pub marks : List Mark
  pub degree : ℕ
  pub room : ℕ
