-- What `parse` reads of digits as a number of 64 bits.
use Rattle.std.proofs.Common.{◌≡◌, ℕ, ◌<◌, ◌^◌, true, List, length, Result, Ok, Err, rules}
use Rattle.std.proofs.Common.{SomeIff, OkIff}
use Rattle.std.specs.Char.{is_ascii_digit}
use Rattle.std.specs.List.{list_all}
use Rattle.std.specs.Result.{result_ok}
use Rattle.std.specs.Str.Parse.{ParsesUnsigned, digits_value}
use Rattle.std.proofs.lemmas.Str.Parse.{IsDigitsTest, IsNumeralModel, numerals_by_value, parse_digits}

tells_digits : IsDigitsTest (λ ds. list_all is_ascii_digit ds ≡ true)
tells_digits = search rules

own : IsNumeralModel (λ ds. list_all is_ascii_digit ds ≡ true) (digits_value 10)
own = numerals_by_value _ tells_digits

pub parsed : {E : Type 0} (bs : List ℕ) (r : Result ℕ E) → ParsesUnsigned 64 10 bs r → 0 < length bs →
    list_all is_ascii_digit bs ≡ true →
    SomeIff (result_ok r) (digits_value 10 bs < 2 ^ 64) (digits_value 10 bs)
parsed bs r h some digits = by r (parse_digits own 64 bs r h digits) where
  by : {E : Type 0} (r : Result ℕ E) → OkIff r ((0 < length bs) × (digits_value 10 bs < 2 ^ 64)) (digits_value 10 bs) →
      SomeIff (result_ok r) (digits_value 10 bs < 2 ^ 64) (digits_value 10 bs)
  by (Ok x) k = (k.0.1, k.1)
  by (Err e) k = λ small. k (some, small)
