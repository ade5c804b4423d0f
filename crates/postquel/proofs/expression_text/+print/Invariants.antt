use Rattle.std.proofs.Common.{◌+◌, ◌*◌, max}
use Rattle.postquel_tokens.specs.declared.form.Form.{size-Form}
use Rattle.postquel.proofs.expression_text.+print.Given as goal

abbrev pub decreases-push_form : goal.decreases-push_form
decreases-push_form l = 3 * size-Form l.form.now

abbrev pub decreases-push_operand : goal.decreases-push_operand
decreases-push_operand l = 3 * size-Form l.form.now + 1

abbrev pub decreases-push_unary : goal.decreases-push_unary
decreases-push_unary l = 3 * size-Form l.operand.now + 2

abbrev pub decreases-push_is_null : goal.decreases-push_is_null
decreases-push_is_null l = 3 * size-Form l.operand.now + 2

abbrev pub decreases-push_binary : goal.decreases-push_binary
decreases-push_binary l = 3 * max (size-Form l.left.now) (size-Form l.right.now) + 2
