-- How a script prints, with parentheses exactly where strengths ask for them.
use Rattle.std.specs.Prelude.{ℕ, Bool, true, false, if◌then◌else◌, ◌==◌, ◌||◌, nat_lt, List, [], ◌∷◌, ◌++◌, Option, Some, None, codes}
use Rattle.std.specs.Fmt.{signed_decimal}
use Rattle.postquel_tokens.specs.declared.form.UnaryOp.{UnaryOp}
use Rattle.postquel_tokens.specs.declared.form.UnaryOp.TheVariants as unary
use Rattle.postquel_tokens.specs.declared.form.BinaryOp.{BinaryOp}
use Rattle.postquel_tokens.specs.declared.form.BinaryOp.TheVariants as binary
use Rattle.postquel_tokens.specs.declared.form.RangeForm.{RangeForm}
use Rattle.postquel_tokens.specs.declared.form.KeyForm.{KeyForm}
use Rattle.postquel_tokens.specs.declared.form.IntoForm.{IntoForm}
use Rattle.postquel_tokens.specs.declared.form.StepForm.{StepForm}
use Rattle.postquel_tokens.specs.Forms.{Phrase, Wish, Titled, Every, Column, Folded, Condition, Sentence}
use Rattle.postquel_tokens.specs.Forms as form
use Rattle.postquel.specs.Program.{Program}

-- ---- expressions

abbrev pub binary_strength : BinaryOp → ℕ
binary_strength binary.Or = 1
binary_strength binary.And = 2
binary_strength binary.Add = 5
binary_strength binary.Sub = 5
binary_strength binary.Mul = 6
binary_strength _ = 4

abbrev pub unary_strength : UnaryOp → ℕ
unary_strength unary.Not = 3
unary_strength unary.Negate = 7

abbrev pub strength : Phrase → ℕ
strength (form.Unary op s a) = unary_strength op
strength (form.Binary op s a b) = binary_strength op
strength (form.IsNull s a n) = 4
strength _ = 8

-- the least strength of an operand that stands without parentheses
abbrev pub least_left : BinaryOp → ℕ
least_left binary.Or = 1
least_left binary.And = 2
least_left binary.Add = 5
least_left binary.Sub = 5
least_left binary.Mul = 6
least_left _ = 5

abbrev pub least_right : BinaryOp → ℕ
least_right binary.Or = 2
least_right binary.And = 3
least_right binary.Add = 6
least_right binary.Sub = 6
least_right binary.Mul = 7
least_right _ = 5

abbrev pub least_behind : UnaryOp → ℕ
least_behind unary.Not = 4
least_behind unary.Negate = 8

abbrev pub symbol : BinaryOp → List ℕ
symbol binary.Or = codes "or"
symbol binary.And = codes "and"
symbol binary.Equal = codes "="
symbol binary.NotEqual = codes "!="
symbol binary.Less = codes "<"
symbol binary.AtMost = codes "<="
symbol binary.More = codes ">"
symbol binary.AtLeast = codes ">="
symbol binary.Add = codes "+"
symbol binary.Sub = codes "-"
symbol binary.Mul = codes "*"

abbrev pub prefix_symbol : UnaryOp → List ℕ
prefix_symbol unary.Not = codes "not "
prefix_symbol unary.Negate = codes "-"

abbrev pub wrapped : ℕ → ℕ → List ℕ → List ℕ
wrapped least own text = if nat_lt own least then 40 ∷ (text ++ 41 ∷ []) else text

abbrev pub truth_text : Bool → List ℕ
truth_text true = codes "true"
truth_text false = codes "false"

abbrev pub null_text : Bool → List ℕ
null_text false = codes " is null"
null_text true = codes " is not null"

-- a quote and a backslash have a backslash before them
abbrev pub escaped : List ℕ → List ℕ
escaped [] = []
escaped (b ∷ w) = (if b == 34 || b == 92 then 92 ∷ b ∷ [] else b ∷ []) ++ escaped w

abbrev pub quoted : List ℕ → List ℕ
quoted w = 34 ∷ (escaped w ++ 34 ∷ [])

abbrev pub dotted_text : List ℕ → List ℕ → List ℕ
dotted_text v c = v ++ 46 ∷ c

abbrev pub unary_text : UnaryOp → ℕ → List ℕ → List ℕ
unary_text op own text = prefix_symbol op ++ wrapped (least_behind op) own text

abbrev pub binary_text : BinaryOp → ℕ → List ℕ → ℕ → List ℕ → List ℕ
binary_text op left a right b = wrapped (least_left op) left a ++ 32 ∷ (symbol op ++ 32 ∷ wrapped (least_right op) right b)

abbrev pub is_null_text : Bool → ℕ → List ℕ → List ℕ
is_null_text negated own text = wrapped 5 own text ++ null_text negated

unfoldable pub text : Phrase → List ℕ
text (form.Number n) = signed_decimal n
text (form.Word w) = quoted w
text (form.Truth b) = truth_text b
text (form.Dotted v c) = dotted_text v.text c.text
text (form.Unary op s a) = unary_text op (strength a) (text a)
text (form.Binary op s a b) = binary_text op (strength a) (text a) (strength b) (text b)
text (form.IsNull s a n) = is_null_text n (strength a) (text a)

-- ---- statements

-- with a comma and a space between them
abbrev pub further : {A : Type 0} → (A → List ℕ) → List A → List ℕ
further f [] = []
further f (x ∷ xs) = codes ", " ++ f x ++ further f xs

abbrev pub joined : {A : Type 0} → (A → List ℕ) → List A → List ℕ
joined f [] = []
joined f (x ∷ xs) = f x ++ further f xs

abbrev pub equals_text : List ℕ
equals_text = codes " = "

abbrev pub wish_text : Wish → List ℕ
wish_text (Titled n f) = (n.text ++ equals_text) ++ text f
wish_text (Every v) = v.text ++ codes ".all"
wish_text (Column v c) = dotted_text v.text c.text
wish_text (Folded n g f) = (n.text ++ equals_text) ++ g.text ++ codes "(" ++ text f ++ codes ")"

abbrev pub range_text : RangeForm → List ℕ
range_text r = r.var.text ++ codes " in " ++ r.relation.text

abbrev pub key_text : KeyForm → List ℕ
key_text k = k.target.text ++ (if k.down then codes " using >" else [])

abbrev pub step_text : StepForm → List ℕ
step_text s = signed_decimal s.backends ++ codes " after " ++ signed_decimal s.after

abbrev pub kept_text : Option IntoForm → List ℕ
kept_text None = []
kept_text (Some i) = codes "into " ++ i.name.text ++ codes " "

abbrev pub ranges_text : List RangeForm → List ℕ
ranges_text [] = []
ranges_text (r ∷ rs) = codes " from " ++ joined range_text (r ∷ rs)

abbrev pub test_text : Option Condition → List ℕ
test_text None = []
test_text (Some c) = codes " where " ++ text c.phrase

abbrev pub keys_text : List KeyForm → List ℕ
keys_text [] = []
keys_text (k ∷ ks) = codes " sort by " ++ joined key_text (k ∷ ks)

abbrev pub unique_text : Bool → List ℕ
unique_text unique = if unique then codes "unique " else []

abbrev pub targets_text : List Wish → List ℕ
targets_text ws = codes "(" ++ joined wish_text ws ++ codes ")"

abbrev pub head_text : Sentence → List ℕ
head_text s = codes "retrieve " ++ unique_text s.unique ++ kept_text s.kept ++ targets_text s.wishes

abbrev pub tail_text : Sentence → List ℕ
tail_text s = ranges_text s.ranges ++ test_text s.test ++ keys_text s.keys ++ codes " \\g\n"

-- a statement on a line of its own
abbrev pub sentence_text : Sentence → List ℕ
sentence_text s = head_text s ++ tail_text s

abbrev pub sentences_text : List Sentence → List ℕ
sentences_text [] = []
sentences_text (s ∷ ss) = sentence_text s ++ sentences_text ss

-- the machine line, where there is one
abbrev pub machine_text : List StepForm → List ℕ
machine_text [] = []
machine_text (s ∷ ss) = codes "machine " ++ joined step_text (s ∷ ss) ++ codes " \\g\n"

abbrev pub script_text : Program → List ℕ
script_text p = machine_text p.steps ++ sentences_text p.sentences
