-- The hash of a key, and the bucket of a hash.
use Rattle.std.specs.Prelude.{ℕ, ◌*◌, ◌/◌, ◌^◌, true, false, List, []}
use Rattle.std.specs.List.{flat_map, fold}
use Rattle.std.specs.Hash as fed
use Rattle.std.specs.Hash.FoldHasher as folding
use Rattle.rows.specs.declared.value.Value.{Value}
use Rattle.rows.specs.declared.value.Value.TheVariants.{Null, Number, Word, Truth}
use Rattle.std.specs.Prelude.{◌∷◌}

-- what a value adds to a hash
abbrev pub writes_of : Value → List (List ℕ)
writes_of Null = []
writes_of (Number n) = fed.i64 n
writes_of (Word w) = w ∷ []
writes_of (Truth true) = fed.u8 1
writes_of (Truth false) = fed.u8 0

abbrev pub hash_of : List Value → ℕ
hash_of key = folding.finish (fold folding.write folding.initial (flat_map writes_of key))

-- the bucket of a hash, out of so many: buckets are equal shares of all hashes, in order
abbrev pub bucket_of : ℕ → ℕ → ℕ
bucket_of count hash = ((hash / 2 ^ 32) * count) / 2 ^ 32
