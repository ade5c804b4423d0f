-- What a writer got, where there is one and it tells.
use Rattle.std.specs.Prelude.{ℕ, List, Option, Some, None, ⊤}
use Rattle.std.specs.Io.KnownBytes.{Appends, Keeps}

-- these bytes came behind those that it had; without a writer none can
abbrev pub GetsFront : {W : Type 0} → (W → Option (List ℕ)) → Option W → Option W → List ℕ → Type 0
GetsFront contents (Some old) (Some new) bytes = Appends (contents old) (contents new) bytes
GetsFront contents old new bytes = ⊥

-- it has what it had
abbrev pub GetsNothing : {W : Type 0} → (W → Option (List ℕ)) → Option W → Option W → Type 0
GetsNothing contents None None = ⊤
GetsNothing contents (Some old) (Some new) = Keeps (contents old) (contents new)
GetsNothing contents old new = ⊥
