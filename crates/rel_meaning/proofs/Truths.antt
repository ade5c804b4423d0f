-- When `and` and `or` of values are true.
use Rattle.std.proofs.Common.{◌≡◌, true, false, ◌&&◌, ◌||◌, refl}
use Rattle.rows.specs.declared.value.Value.{Value}
use Rattle.rows.specs.declared.value.Value.TheVariants as value
use Rattle.rel_meaning.specs.Eval.{and_values, or_values}
use Rattle.rel_meaning.specs.Meaning.{is_true}

pub true_both : (a b : Value) → is_true (and_values a b) ≡ (is_true a && is_true b)
true_both value.Null value.Null = refl
true_both value.Null (value.Number n) = refl
true_both value.Null (value.Word n) = refl
true_both value.Null (value.Truth true) = refl
true_both value.Null (value.Truth false) = refl
true_both (value.Number m) value.Null = refl
true_both (value.Number m) (value.Number n) = refl
true_both (value.Number m) (value.Word n) = refl
true_both (value.Number m) (value.Truth true) = refl
true_both (value.Number m) (value.Truth false) = refl
true_both (value.Word m) value.Null = refl
true_both (value.Word m) (value.Number n) = refl
true_both (value.Word m) (value.Word n) = refl
true_both (value.Word m) (value.Truth true) = refl
true_both (value.Word m) (value.Truth false) = refl
true_both (value.Truth true) value.Null = refl
true_both (value.Truth true) (value.Number n) = refl
true_both (value.Truth true) (value.Word n) = refl
true_both (value.Truth true) (value.Truth true) = refl
true_both (value.Truth true) (value.Truth false) = refl
true_both (value.Truth false) value.Null = refl
true_both (value.Truth false) (value.Number n) = refl
true_both (value.Truth false) (value.Word n) = refl
true_both (value.Truth false) (value.Truth true) = refl
true_both (value.Truth false) (value.Truth false) = refl

pub true_either : (a b : Value) → is_true (or_values a b) ≡ (is_true a || is_true b)
true_either value.Null value.Null = refl
true_either value.Null (value.Number n) = refl
true_either value.Null (value.Word n) = refl
true_either value.Null (value.Truth true) = refl
true_either value.Null (value.Truth false) = refl
true_either (value.Number m) value.Null = refl
true_either (value.Number m) (value.Number n) = refl
true_either (value.Number m) (value.Word n) = refl
true_either (value.Number m) (value.Truth true) = refl
true_either (value.Number m) (value.Truth false) = refl
true_either (value.Word m) value.Null = refl
true_either (value.Word m) (value.Number n) = refl
true_either (value.Word m) (value.Word n) = refl
true_either (value.Word m) (value.Truth true) = refl
true_either (value.Word m) (value.Truth false) = refl
true_either (value.Truth true) value.Null = refl
true_either (value.Truth true) (value.Number n) = refl
true_either (value.Truth true) (value.Word n) = refl
true_either (value.Truth true) (value.Truth true) = refl
true_either (value.Truth true) (value.Truth false) = refl
true_either (value.Truth false) value.Null = refl
true_either (value.Truth false) (value.Number n) = refl
true_either (value.Truth false) (value.Word n) = refl
true_either (value.Truth false) (value.Truth true) = refl
true_either (value.Truth false) (value.Truth false) = refl
