-- A statement's checks, step by step.
use Rattle.std.specs.Prelude.{ℕ, Bool, not, ◌&&◌, List, [], ◌∷◌, ◌++◌, map, Option, Some, None, is_some, Result, Ok, Err, if◌then◌else◌}
use Rattle.aggregate_op.specs.declared.fold.FoldOp.{FoldOp}
use Rattle.aggregate_op.specs.declared.fold.FoldPlan.{FoldPlan}
use Rattle.rows.specs.declared.order.SortKey.{SortKey}
use Rattle.postquel_tokens.specs.declared.form.RangeForm.{RangeForm}
use Rattle.postquel_tokens.specs.declared.form.KeyForm.{KeyForm}
use Rattle.postquel_tokens.specs.declared.form.IntoForm.{IntoForm}
use Rattle.postquel_tokens.specs.declared.fault.What.TheVariants as what
use Rattle.postquel_tokens.specs.declared.fault.TextErr.{TextErr}
use Rattle.postquel_tokens.specs.Forms as phrase
use Rattle.postquel_tokens.specs.Forms.{Phrase, Wish, Condition, Sentence}
use Rattle.rel_meaning.specs.declared.query.Var.{Var}
use Rattle.rel_meaning.specs.Expression.{Expression, Output, Question, output_of, expression_of, question_of}
use Rattle.rel_meaning.specs.Typing.{is_truth}
use Rattle.name_check.specs.declared.heading.HeadColumn.{HeadColumn}
use Rattle.name_check.specs.declared.heading.Heading.{Heading}
use Rattle.name_check.specs.declared.columns.Column.{Column}
use Rattle.name_check.specs.declared.columns.Outputs.{Outputs}
use Rattle.name_check.specs.declared.statement.Found.{Found}
use Rattle.name_check.specs.declared.statement.Sorted.{Sorted}
use Rattle.name_check.specs.Types.{at}
use Rattle.name_check.specs.Checked.{Meant, and_then, with_vars, checked, column, range, columns_of}
use Rattle.name_check.specs.Faults.{column_named}
use Rattle.name_check.specs.Folds.{fold_of, op_of}
use Rattle.name_check.specs.Headers.{kept_name}
use Rattle.name_check.specs.Sentences.{Shown, head_of, output_by, is_fold, has_fold, var_of, all_shown, into_fault, range_form_fault, sum_fault, wish_spot, columns_fault, or_fault}

abbrev pub shown_of : Column → Shown
shown_of c = record { name = c.name; expr = expression_of c.expr; layout = c.layout }

abbrev pub bind : {A B : Type 0} → Result A TextErr → (A → Result B TextErr) → Result B TextErr
bind (Ok a) f = f a
bind (Err e) f = Err e

abbrev pub unless : {A : Type 0} → Option TextErr → Result A TextErr → Result A TextErr
unless None r = r
unless (Some f) r = Err f

abbrev pub result_of : {A : Type 0} → Result (A × List Var) TextErr → Result A TextErr
result_of (Ok p) = Ok p.0
result_of (Err e) = Err e

abbrev pub named_as : List ℕ → Meant → List Shown
named_as name m = record { name = name; expr = m.expr; layout = m.layout } ∷ []

-- the columns of one target
abbrev pub shown_checked : List Heading → List Var → Wish → Result (List Shown × List Var) TextErr
shown_checked headings vars (phrase.Titled name e) = and_then (checked headings vars e) (λ m vars. Ok (named_as name.text m, vars))
shown_checked headings vars (phrase.Column v c) = and_then (column headings vars v c) (λ m vars. Ok (named_as c.text m, vars))
shown_checked headings vars (phrase.Folded name fold e) = and_then (checked headings vars e) (λ m vars. with_vars (named_as name.text) vars (or_fault m (sum_fault fold (Some m.layout))))
shown_checked headings vars (phrase.Every v) = and_then (range headings vars v) (λ r vars. Ok (all_shown r.var 0 (columns_of headings r.relation), vars))

-- what the targets show so far
pub record Chosen : Type 0 where
  pub plain : List Output
  pub operands : List Output
  pub head : List HeadColumn
  pub ops : List (Option FoldOp)

abbrev pub no_columns : Chosen
no_columns = record { plain = []; operands = []; head = []; ops = [] }

abbrev pub chosen_of : Outputs → Chosen
chosen_of out = record { plain = map output_of out.plain.items; operands = map output_of out.operands.items; head = out.head.items; ops = out.ops.items }

abbrev pub with_columns : Wish → Chosen → List Shown → Chosen
with_columns w out new = record {
  plain = if is_fold w then out.plain else out.plain ++ map output_by new;
  operands = if is_fold w then out.operands ++ map output_by new else out.operands;
  head = out.head ++ map head_of new;
  ops = out.ops ++ map (λ s. op_of w) new;
}

abbrev pub wish_checked : List Heading → Bool → List Var → Chosen → Wish → Result (Chosen × List Var) TextErr
wish_checked headings limited vars out w =
    and_then (shown_checked headings vars w) (λ new vars. or_fault (with_columns w out new, vars) (columns_fault limited (wish_spot w) out.head new))

abbrev pub wishes_checked : List Heading → Bool → List Var → Chosen → List Wish → Result (Chosen × List Var) TextErr
wishes_checked headings limited vars out [] = Ok (out, vars)
wishes_checked headings limited vars out (w ∷ ws) = and_then (wish_checked headings limited vars out w) (λ out vars. wishes_checked headings limited vars out ws)

abbrev pub ranges_checked : List Heading → List Var → List RangeForm → Result (List Var) TextErr
ranges_checked headings vars [] = Ok vars
ranges_checked headings vars (r ∷ rs) = bind (or_fault (vars ++ var_of headings r ∷ []) (range_form_fault headings vars r)) (λ vars. ranges_checked headings vars rs)

abbrev pub test_type : Condition → Meant → Result Meant TextErr
test_type c m = if is_truth (Some m.layout) then Ok m else Err (at c.spot what.TypeMismatch)

abbrev pub test_checked : List Heading → List Var → Option Condition → Result (Option Expression × List Var) TextErr
test_checked headings vars None = Ok (None, vars)
test_checked headings vars (Some c) = and_then (checked headings vars c.phrase) (λ m vars. with_vars (λ m. Some m.expr) vars (test_type c m))

abbrev pub key_by : KeyForm → Option ℕ → Result SortKey TextErr
key_by k None = Err (at k.target.spot what.NoSortTarget)
key_by k (Some place) = Ok (record { column = place; down = k.down })

abbrev pub key_checked : List HeadColumn → KeyForm → Result SortKey TextErr
key_checked head k = key_by k (column_named head k.target.text)

abbrev pub keys_checked : List HeadColumn → List SortKey → List KeyForm → Result (List SortKey) TextErr
keys_checked head found [] = Ok found
keys_checked head found (k ∷ ks) = bind (key_checked head k) (λ key. keys_checked head (found ++ key ∷ []) ks)

-- a query, the columns of its answer, its fold, and the name of what it keeps
pub record Asked : Type 0 where
  pub question : Question
  pub head : List HeadColumn
  pub plan : Option FoldPlan
  pub into : Option (List ℕ)

abbrev pub view_of : Found → Asked
view_of f = record { question = question_of f.query; head = f.head; plan = f.plan; into = f.into }

-- the sort keys of a query, or its fold with those of its answer
abbrev pub sorted_by : Bool → List (Option FoldOp) → List SortKey → Sorted
sorted_by folds ops keys =
    if folds then record { keys = []; plan = Some (record { fold = fold_of ops; keys = keys }) }
    else record { keys = keys; plan = None }

abbrev pub query_by : Bool → List Output → List Output → Option Expression → List SortKey → List Var → Question
query_by unique plain operands test keys vars = record { vars = vars; targets = plain ++ operands; test = test; unique = unique; keys = keys }

abbrev pub found_of : Bool → Sentence → Chosen → Option Expression → List SortKey → List Var → Asked
found_of folds s out test keys vars = record {
  question = record { vars = vars; targets = out.plain ++ out.operands; test = test; unique = s.unique && not folds; keys = if folds then [] else keys };
  head = out.head;
  plan = if folds then Some (record { fold = fold_of out.ops; keys = keys }) else None;
  into = kept_name s.kept;
}

abbrev pub to_end : List Heading → Bool → Sentence → List Var → Result Asked TextErr
to_end headings folds s vars =
    result_of (and_then (wishes_checked headings (is_some s.kept) vars no_columns s.wishes) (λ out vars.
    and_then (test_checked headings vars s.test) (λ test vars.
    with_vars (λ keys. found_of folds s out test keys vars) vars (keys_checked out.head [] s.keys))))

-- a statement's query and its header
abbrev pub sentence_checked : List Heading → Sentence → Result Asked TextErr
sentence_checked headings s =
    unless (into_fault headings (has_fold s) s.kept) (bind (ranges_checked headings [] s.ranges) (to_end headings (has_fold s) s))

abbrev pub question_by : Asked → Question
question_by a = a.question

abbrev pub kept_by : List HeadColumn → Option (List ℕ) → List Heading
kept_by columns None = []
kept_by columns (Some name) = record { name = name; columns = columns } ∷ []

abbrev pub script_checked : List Heading → List Asked → List Sentence → Result (List Asked) TextErr
script_checked headings found [] = Ok found
script_checked headings found (s ∷ ss) = bind (sentence_checked headings s) (λ a. script_checked (headings ++ kept_by a.head a.into) (found ++ a ∷ []) ss)
