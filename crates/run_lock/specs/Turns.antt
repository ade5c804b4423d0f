-- The rule of a lock's table, and what its steps tell.
use Rattle.std.specs.Prelude.{◌≡◌, ◌≢◌, ◌⊎◌, ℕ, ◌<◌, ◌≤◌, Option, Some, None, List, [], ◌∷◌, length, max}
use mathlib.Core.Option.{some, none}
use lib.ListN.{get_elem?}
use Rattle.atomic_table.specs.Table.{State, Me, Step}
use Rattle.run_lock.specs.declared.rule.View.{View}

-- the turn word while a seat has the turn: 2 ^ 64 - 1
abbrev pub OUT : ℕ
OUT = 18446744073709551615

module _ {N : Type 0} where
  -- the first seat knows the lock's name, and has seen the log
  abbrev pub opening_view : N → ℕ → View N
  opening_view name n = record { name = Some name; seen = n; turn = None }

  -- a seat that is split off has the same name, has seen as much, and has no turn
  abbrev pub newcomer : View N → View N
  newcomer v = record { name = v.name; seen = v.seen; turn = None }

  -- two seats in one have seen what either had
  abbrev pub both : View N → View N → View N
  both v w = record { name = v.name; seen = max v.seen w.seen; turn = v.turn }

  -- a seat that was joined to another knows nothing
  abbrev pub spent : View N
  spent = record { name = None; seen = 0; turn = None }

  -- the seat carries this name, or it is spent
  abbrev pub OfName : N → View N → Type 0
  OfName name v = (v.name ≡ Some name) ⊎ (v.name ≡ None)

  -- the seat has no turn, and has seen no more than n entries
  abbrev pub Idle : N → ℕ → View N → Type 0
  Idle name n v = OfName name v × (v.turn ≡ None) × (v.seen ≤ n)

  -- every seat but that of the number `id` is idle
  abbrev pub Others : N → ℕ → ℕ → List (View N) → Type 0
  Others name n id views = (k : ℕ) (v : View N) → get_elem? views k ≡ some v → k ≢ id → Idle name n v

  module _ {F E : Type 0} (fits : N → F → Type 0) (log : F → List E) where
    -- nobody has the turn: the value is at home and fits, and the turn word is the length of its log. Of the waiting words nothing is said
    pub record Free (name : N) (s : State (Option F) (View N)) : Type 0 where
      pub value : F
      pub waits : List ℕ
      pub words : s.words ≡ length (log value) ∷ waits
      pub home : s.homes ≡ some (Some value) ∷ []
      pub fit : fits name value
      pub short : length (log value) < OUT
      pub views : (k : ℕ) (v : View N) → get_elem? s.views k ≡ some v → Idle name (length (log value)) v

    -- the seat of the number `seat` has the turn from the length `from`, and the slot is out with it
    pub record Taken (name : N) (s : State (Option F) (View N)) : Type 0 where
      pub seat : ℕ
      pub from : ℕ
      pub seen : ℕ
      pub waits : List ℕ
      pub words : s.words ≡ OUT ∷ waits
      pub home : s.homes ≡ none ∷ []
      pub short : from < OUT
      pub less : seen ≤ from
      pub view : get_elem? s.views seat ≡ some (record { name = Some name; seen = seen; turn = Some from })
      pub others : Others name from seat s.views

    abbrev pub Kept : N → State (Option F) (View N) → Type 0
    Kept name s = Free name s ⊎ Taken name s

    -- where the word was the length r of a log, the seat has the turn from r, and carries a value of this log that fits. Where it was OUT, nothing changes
    abbrev pub Wins : Step (Option F) → Me (Option F) (View N) → ℕ → Me (Option F) (View N) → Type 0
    Wins st m r w =
        (r ≡ OUT → w ≡ m)
        × (r ≢ OUT →
        (name : N) × (value : F)
        × (m.0.name ≡ Some name) × fits name value × (length (log value) ≡ r) × (m.0.seen ≤ r)
        × (w ≡ (record { name = m.0.name; seen = m.0.seen; turn = Some r }, (0, Some value) ∷ m.1)))

  -- the seat has no turn, carries nothing, and has seen the length that it stored
  abbrev pub Gives : {F : Type 0} → Step (Option F) → Me (Option F) (View N) → ℕ → Me (Option F) (View N) → Type 0
  Gives st m r w = w ≡ (record { name = m.0.name; seen = st.first; turn = None }, [])
