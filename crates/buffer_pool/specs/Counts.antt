-- How a shard counts the reads that failed.
use Rattle.std.specs.Prelude.{◌≡◌, ℕ, zero, suc, ◌+◌, ◌≤◌, min, nat_le, if◌then◌else◌, List, [], ◌∷◌, ◌++◌, ◌⊎◌}
use Rattle.xp_outside.specs.Outside.{Rose}
use Rattle.heap_page.specs.declared.errors.FetchErr.{FetchErr}
use Rattle.heap_page.specs.declared.errors.FetchErr.TheVariants.{DriveFault, BadPage, NoMemory}

-- the last value of a shard's counter: 2 ^ 64 - 2
abbrev pub LAST : ℕ
LAST = 18446744073709551614

-- the counter after one more failed read
abbrev pub next_count : ℕ → ℕ
next_count counter = min (counter + 1) LAST

-- a drive's count has risen since it was `named` as often as the counter, or stands at its last value
abbrev pub Covers : ℕ → ℕ → ℕ → Type 0
Covers named counter count = min (named + counter) 18446744073709551615 ≤ count

-- the numbers from 1 to n
abbrev pub up_to : ℕ → List ℕ
up_to zero = []
up_to (suc n) = up_to n ++ suc n ∷ []

-- the counter stays, or goes on by one
abbrev pub GoesOn : ℕ → ℕ → Type 0
GoesOn counter counter_now = (counter_now ≡ counter) ⊎ (counter_now ≡ counter + 1)

-- why a read gave no page: it failed, and was counted, or there was no memory for it
abbrev pub IsFailure : ℕ → ℕ → ℕ → ℕ → FetchErr → Type 0
IsFailure faults faults_now counter counter_now (DriveFault d) = (d ≡ 0) × Rose faults faults_now × (counter_now ≡ next_count counter)
IsFailure faults faults_now counter counter_now (BadPage bad) = ⊥
IsFailure faults faults_now counter counter_now NoMemory = counter_now ≡ counter

-- the counter after any error: it rises with a failed read alone
abbrev pub IsCounted : ℕ → ℕ → ℕ → ℕ → FetchErr → Type 0
IsCounted faults faults_now counter counter_now (DriveFault d) = (d ≡ 0) × Rose faults faults_now × (counter_now ≡ next_count counter)
IsCounted faults faults_now counter counter_now (BadPage bad) = counter_now ≡ counter
IsCounted faults faults_now counter counter_now NoMemory = counter_now ≡ counter

-- a count of which so many numbers were seen: at the counter's last value it stands at its own, 2 ^ 64 - 1
abbrev pub count_of : ℕ → ℕ
count_of seen = if nat_le LAST seen then 18446744073709551615 else seen
